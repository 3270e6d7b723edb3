-- For growing.rt: the table of the copies, the levels of the walk, and what is copied at the end.
use Rattle.std.specs.Prelude.{◌≡◌, ◌≢◌, ℕ, zero, suc, ◌+◌, ◌<◌, ◌≤◌, ◌⊎◌, ◌↔◌, List, [], ◌∷◌, ◌++◌, length, take, Option, Some, None, IsSome, is_some, refl, Contains}
use Rattle.std.specs.FinSet as set
use Rattle.std.proofs.Common.{get_or, sym, ◌∙◌, ap, subst, arith, inl, inr}
use Rattle.std.proofs.lemmas.Bool.{cases_eq, cases_lt}
use Rattle.std.proofs.lemmas.List.{append-nil, append_assoc, take_more, get_or_append_left, get_or_push, get_or_past, length-append}
use Rattle.std.proofs.lemmas.List.Elements.{Contains-append_left, Contains-append_right, Contains-append_cases}
use Rattle.apsp_model.specs.Graph.{Graph}
use Rattle.apsp_model.specs.Paths.{IsKeptIn, IsHistoricalIn}
use Rattle.apsp_model.specs.Order.{path_cmp, IsBelow}
use Rattle.apsp_model.specs.Least.{IsLeastWalk}
use Rattle.apsp_model.specs.Settled.{HaveWeights}
use Rattle.apsp_model.proofs.Exists.{least_or_none}
use Rattle.apsp_model.specs.Walk.{IsOnceEach, hops_of, IsWalk, IsWalkFrom, weight_of, first, last}
use Rattle.apsp_model.proofs.Members.{in_cons, in_nil, head_in, tail_in, once_append}
use Rattle.apsp_model.proofs.Simples.{simple_is_short}
use Rattle.path_arena.specs.Arena.{path_of, list_of, vertex_of, left_of, IsLive, HasAnEdge, IsPath, single, weight_of_id}
use Rattle.path_arena.proofs.Paths.{live_path, live_from, live_from_edge, path_of_at}
use Rattle.extension_lists.specs.Known.{sides_at}
use Rattle.path_book.specs.Book.{Book, IsBook, IsOpeningBook, kept_path, kept_paths, IsLeastKeptId, HasNoPendingLeast, HasNonePending}
use Rattle.path_book.specs.Through.{hops_at}
use Rattle.path_book.proofs.Kept.{KeptAt, kept_at, live_is_kept, kept_once, historical_marked}
use Rattle.path_book.proofs.Ends.{Ends, ends, hops_left, hops_right}
use Rattle.path_book.proofs.Readers.{single_or_edge, edge_of_long, long_of_edge, least_single}
use Rattle.fixup.proofs.Parts.{same_id}
use Rattle.book_widening.specs.Widened.{IsWidenedTo, IsSingleKept}
use Rattle.book_widening.specs.Copies.{copy_at, IsLevel, IsCopy, AreCopies, AreCopied, CanBeCopied}
use Rattle.book_widening.proofs.Copying.{none_some, some_from, none_from, some_is, single_path}

-- ---- the table

-- room at the end says nothing
pub room_more : (copies : List (Option ℕ)) (k : ℕ) → copy_at (copies ++ None ∷ []) k ≡ copy_at copies k
room_more copies k = elim (cases_lt k (length copies)) [
  | inl inside ↦ get_or_append_left copies (None ∷ []) None k inside
  | inr past ↦ elim (cases_eq k (length copies)) [
    | inl at ↦ get_or_push copies None None k (sym at) ∙ sym (get_or_past copies k None past)
    | inr beyond ↦ get_or_past (copies ++ None ∷ []) k None
        (let e : length (copies ++ None ∷ []) ≡ length copies + 1 = length-append copies (None ∷ []) in
        omega (arith, e, past, beyond)) ∙ sym (get_or_past copies k None past)
  ]
]

pub within_table : (copies : List (Option ℕ)) (k : ℕ) → IsSome (copy_at copies k) → k < length copies
within_table copies k h = elim (cases_lt k (length copies)) [
  | inl inside ↦ inside
  | inr past ↦ absurd (let c = some_from (copy_at copies k) h in
      none_some (copy_at copies k) c.0 (get_or_past copies k None past) c.1)
]

-- ---- lists

take_push : (xs : List ℕ) (i x : ℕ) → i < length xs → x ≡ get_or xs i x → take (i + 1) xs ≡ take i xs ++ x ∷ []
take_push xs i x inside at = take_more xs i x inside ∙ ap (λ y. take i xs ++ y ∷ []) (sym at)

in_push : (xs : List ℕ) (x q : ℕ) → Contains (xs ++ x ∷ []) q ↔ (Contains xs q ⊎ (q ≡ x))
in_push xs x q = (
  λ c. elim (Contains-append_cases xs (x ∷ []) q c) [
    | inl earlier ↦ inl earlier
    | inr here ↦ elim (in_cons q x [] here) [ inl same ↦ inr (sym same) | inr none ↦ absurd (in_nil q none) ]
  ],
  λ h. elim h [
    | inl earlier ↦ Contains-append_left xs (x ∷ []) q earlier
    | inr same ↦
        Contains-append_right xs (x ∷ []) q (head_in q x [] (sym same))
  ],
)

take_whole : (xs : List ℕ) (i : ℕ) → length xs ≤ i → take i xs ≡ xs
take_whole [] zero end = refl
take_whole [] (suc i) end = refl
take_whole (x ∷ xs) zero end = absurd (omega (arith, end))
take_whole (x ∷ xs) (suc i) end = ap (λ (ys : List ℕ). x ∷ ys) (take_whole xs i (omega (arith, end)))

entry_in : (xs : List ℕ) (i x : ℕ) → i < length xs → x ≡ get_or xs i x → Contains xs x
entry_in [] i x inside at = absurd (omega (arith, inside))
entry_in (y ∷ xs) zero x inside at = head_in x y xs (sym at)
entry_in (y ∷ xs) (suc i) x inside at = tail_in x y xs (entry_in xs i x (omega (arith, inside)) at)

-- the next entry of a list of different ones did not come yet
not_before : (xs : List ℕ) (i x : ℕ) → IsOnceEach xs → i < length xs → x ≡ get_or xs i x → Contains (take i xs) x → ⊥
not_before [] i x once inside at c = omega (arith, inside)
not_before (y ∷ xs) zero x once inside at c = in_nil x c
not_before (y ∷ xs) (suc i) x once inside at c = elim (in_cons x y (take i xs) c) [
  | inl same ↦ once.0 (subst (Contains xs) (sym same) (entry_in xs i x (omega (arith, inside)) at))
  | inr later ↦ not_before xs i x once.1 (omega (arith, inside)) at later
]

-- ---- the paths of a list are copied one by one

-- those before place i are
abbrev pub AreCopiedUpto : List (Option ℕ) → List ℕ → ℕ → List (Option ℕ) → Type 0
AreCopiedUpto before ids i copies =
    (o : ℕ) → IsSome (copy_at copies o) ↔ (IsSome (copy_at before o) ⊎ Contains (take i ids) o)

pub upto_none : (before : List (Option ℕ)) (ids : List ℕ) → AreCopiedUpto before ids 0 before
upto_none before ids o = (λ h. inl h, λ h. elim h [ inl old ↦ old | inr none ↦ absurd (in_nil o none) ])

pub upto_all : (before : List (Option ℕ)) (ids : List ℕ) (i : ℕ) (copies : List (Option ℕ)) → length ids ≤ i
    → AreCopiedUpto before ids i copies → (o : ℕ)
    → IsSome (copy_at copies o) ↔ (IsSome (copy_at before o) ⊎ Contains ids o)
upto_all before ids i copies end h o =
    subst (λ (xs : List ℕ). IsSome (copy_at copies o) ↔ (IsSome (copy_at before o) ⊎ Contains xs o))
    (take_whole ids i end) (h o)

pub can_be_next : (b : Book) (before copies : List (Option ℕ)) (ids : List ℕ) (i id : ℕ)
    → ((q : ℕ) → Contains ids q → CanBeCopied b before q) → IsOnceEach ids → AreCopiedUpto before ids i copies
    → i < length ids → id ≡ get_or ids i id → CanBeCopied b copies id
can_be_next b before copies ids i id ready once h inside at =
    let r : CanBeCopied b before id = ready id (entry_in ids i id inside at) in
    record {
      edge = r.edge;
      new = none_from (copy_at copies id) (λ some. elim ((h id).0 some) [
        | inl old ↦ (let c = some_from (copy_at before id) old in none_some (copy_at before id) c.0 r.new c.1)
        | inr earlier ↦ not_before ids i id once inside at earlier
      ]);
      left = λ l e. (h l).1 (inl (r.left l e));
      right = λ q e. (h q).1 (inl (r.right q e));
    }

pub upto_more : (before copies more : List (Option ℕ)) (ids : List ℕ) (i id c : ℕ) → AreCopiedUpto before ids i copies
    → i < length ids → id ≡ get_or ids i id → copy_at more id ≡ Some c
    → ((k : ℕ) → k ≢ id → copy_at more k ≡ copy_at copies k) → AreCopiedUpto before ids (i + 1) more
upto_more before copies more ids i id c h inside at here others o = (
  λ some. elim (cases_eq o id) [
    | inl same ↦ inr (subst (λ xs. Contains xs o) (sym longer) ((in_push (take i ids) id o).1 (inr same)))
    | inr apart ↦ elim ((h o).0 (ap is_some (sym (others o apart)) ∙ some)) [
      | inl old ↦ inl old
      | inr earlier ↦ inr (subst (λ xs. Contains xs o) (sym longer) ((in_push (take i ids) id o).1 (inl earlier)))
    ]
  ],
  λ k. elim (cases_eq o id) [
    | inl same ↦ some_is (copy_at more o) c (ap (copy_at more) same ∙ here)
    | inr apart ↦ ap is_some (others o apart) ∙ (h o).1 (elim k [
      | inl old ↦ inl old
      | inr upto ↦ elim ((in_push (take i ids) id o).0 (subst (λ xs. Contains xs o) longer upto))
          [ inl earlier ↦ inr earlier | inr same ↦ absurd (apart same) ]
    ])
  ],
)
  where
    longer : take (i + 1) ids ≡ take i ids ++ id ∷ []
    longer = take_push ids i id inside at

-- ---- the paths behind those of a list

abbrev pub behind : Book → List ℕ → List ℕ
behind b [] = []
behind b (x ∷ xs) = (sides_at b.lists x).right ++ behind b xs

behind_append : (b : Book) (xs ys : List ℕ) → behind b (xs ++ ys) ≡ behind b xs ++ behind b ys
behind_append b [] ys = refl
behind_append b (x ∷ xs) ys =
    ap (λ l. (sides_at b.lists x).right ++ l) (behind_append b xs ys)
    ∙ sym (append_assoc (sides_at b.lists x).right (behind b xs) (behind b ys))

in_behind : (b : Book) (xs : List ℕ) (p q : ℕ) → Contains xs p → Contains (sides_at b.lists p).right q
    → Contains (behind b xs) q
in_behind b [] p q at c = absurd (in_nil p at)
in_behind b (x ∷ xs) p q at c = elim (in_cons p x xs at) [
  | inl same ↦ Contains-append_left (sides_at b.lists x).right (behind b xs) q
      (subst (λ k. Contains (sides_at b.lists k).right q) (sym same) c)
  | inr more ↦ Contains-append_right (sides_at b.lists x).right (behind b xs) q (in_behind b xs p q more c)
]

of_behind : (b : Book) (xs : List ℕ) (q : ℕ) → Contains (behind b xs) q → (p : ℕ) × Contains xs p
    × Contains (sides_at b.lists p).right q
of_behind b [] q c = absurd (in_nil q c)
of_behind b (x ∷ xs) q c = elim (Contains-append_cases (sides_at b.lists x).right (behind b xs) q c) [
  | inl here ↦ (x, head_in x x xs refl, here)
  | inr more ↦ (let k = of_behind b xs q more in (k.0, tail_in k.0 x xs k.1, k.2))
]

behind_once : (b : Book) → IsBook b → (xs : List ℕ) → IsOnceEach xs
    → ((p : ℕ) → Contains xs p → IsOnceEach (sides_at b.lists p).right) → IsOnceEach (behind b xs)
behind_once b was [] once each = tt
behind_once b was (x ∷ xs) once each =
    once_append (sides_at b.lists x).right (behind b xs) (each x (head_in x x xs refl))
    (behind_once b was xs once.1 (λ p c. each p (tail_in p x xs c)))
    (λ q here more. (
    let k = of_behind b xs q more in
    let one : k.0 ≡ x = same_id k.0 x (sym ((was.extensions.right k.0 q).0 k.2) ∙ (was.extensions.right x q).0 here) in
    once.0 (subst (Contains xs) one k.1)
    ))

-- what is found behind the first entries
pub record AreBehind (b : Book) (xs : List ℕ) (i : ℕ) (found : List ℕ) : Type 0 where
  pub are : found ≡ behind b (take i xs)
  pub each : (p : ℕ) → Contains (take i xs) p → IsOnceEach (sides_at b.lists p).right

pub behind_none : (b : Book) (xs found : List ℕ) → found ≡ [] → AreBehind b xs 0 found
behind_none b xs found none = record { are = none; each = λ p c. absurd (in_nil p c) }

pub behind_more : (b : Book) (xs : List ℕ) (i x : ℕ) (found more : List ℕ) → AreBehind b xs i found → i < length xs
    → x ≡ get_or xs i x → more ≡ found ++ (sides_at b.lists x).right → IsOnceEach (sides_at b.lists x).right
    → AreBehind b xs (i + 1) more
behind_more b xs i x found more h inside at is once = record {
  are = is ∙ ap (λ l. l ++ (sides_at b.lists x).right) h.are
      ∙ ap (λ l. behind b (take i xs) ++ l) (sym (append-nil (sides_at b.lists x).right))
      ∙ sym (behind_append b (take i xs) (x ∷ [])) ∙ ap (behind b) (sym (take_push xs i x inside at));
  each = λ p c. elim ((in_push (take i xs) x p).0 (subst (λ l. Contains l p) (take_push xs i x inside at) c)) [
    | inl earlier ↦ h.each p earlier
    | inr same ↦ subst (λ k. IsOnceEach (sides_at b.lists k).right) (sym same) once
  ];
}

pub next_level : (b : Book) → IsBook b → (level : List ℕ) (i : ℕ) (found : List ℕ) → length level ≤ i
    → AreBehind b level i found → (h : ℕ) → IsLevel b h level → IsLevel b (h + 1) found
next_level b was level i found end f h l = record {
  exact = λ id. (
    λ c. (
        let k = of_behind b level id (subst (λ xs. Contains xs id) are c) in
        let left : left_of b.arena id ≡ Some k.0 = (was.extensions.right k.0 id).0 k.2 in
        let e : Ends b.arena id = ends b.arena id was.arena (ap is_some left) in
        let same : e.left ≡ k.0 = same_id e.left k.0 (sym e.left_is ∙ left) in
        let hops : hops_at b id ≡ hops_at b k.0 + 1 = hops_left b.arena id e ∙ ap (λ j. hops_at b j + 1) same in
        let before : hops_at b k.0 ≡ h = ((l.exact k.0).0 k.1).1 in
        (live_from_edge b.arena id was.arena (ap is_some left), omega (arith, hops, before))
        ),
    λ k. (
        let hops_are : hops_at b id ≡ h + 1 = k.1 in
        let edge : HasAnEdge b.arena id = edge_of_long b.arena id was.arena k.0 (omega (arith, hops_are)) in
        let e : Ends b.arena id = ends b.arena id was.arena edge in
        let hops : hops_at b id ≡ hops_at b e.left + 1 = hops_left b.arena id e in
        let at : Contains level e.left = (l.exact e.left).1 (e.left_live, omega (arith, hops, hops_are)) in
        subst (λ xs. Contains xs id) (sym are)
        (in_behind b level e.left id at ((was.extensions.right e.left id).1 e.left_is))
        ),
  );
  once = subst IsOnceEach (sym are) (behind_once b was level l.once
      (λ p c. f.each p (subst (λ xs. Contains xs p) (sym whole) c)));
}
  where
    whole : take i level ≡ level
    whole = take_whole level i end

    are : found ≡ behind b level
    are = f.are ∙ ap (behind b) whole

-- ---- the single vertices

-- those below v are in the table and the list, and nothing else is
pub record AreSinglesCopied (b w : Book) (v : ℕ) (ids : List ℕ) (copies : List (Option ℕ)) : Type 0 where
  pub copy : (u : ℕ) → u < v → copy_at copies (vertex_of b.arena u) ≡ Some (vertex_of w.arena u)
  pub only : (o c : ℕ) → copy_at copies o ≡ Some c → (u : ℕ) × (u < v) × (o ≡ vertex_of b.arena u)
      × (c ≡ vertex_of w.arena u)
  pub listed : (id : ℕ) → Contains ids id ↔ ((u : ℕ) × (u < v) × (id ≡ vertex_of b.arena u))
  pub once : IsOnceEach ids

pub singles_none : (b w : Book) (ids : List ℕ) (copies : List (Option ℕ)) → ids ≡ [] → copies ≡ []
    → AreSinglesCopied b w 0 ids copies
singles_none b w ids copies none empty = record {
  copy = λ u less. absurd (omega (arith, less));
  only = λ o c e. absurd (none_some (copy_at copies o) c
      (ap (λ xs. copy_at xs o) empty ∙ get_or_past [] o None (omega arith)) e);
  listed = λ id. (
    λ c. absurd (in_nil id (subst (λ xs. Contains xs id) none c)),
    λ h. absurd
        (let less : h.0 < 0 = h.1 in omega (arith, less)),
  );
  once = subst IsOnceEach (sym none) tt;
}

same_vertex : (b : Book) → IsBook b → (u v : ℕ) → u < b.arena.vertices → v < b.arena.vertices
    → vertex_of b.arena u ≡ vertex_of b.arena v → u ≡ v
same_vertex b was u v inside_u inside_v same =
    let lists : u ∷ [] ≡ v ∷ [] =
    ap (λ q. q.list) (sym (single_path b.arena was.arena u inside_u) ∙ ap (path_of b.arena) same
    ∙ single_path b.arena was.arena v inside_v) in
    cc

pub singles_more : (b w : Book) → IsBook b → (v id c : ℕ) (ids now : List ℕ) (copies more : List (Option ℕ))
    → v < b.arena.vertices → AreSinglesCopied b w v ids copies → id ≡ vertex_of b.arena v → c ≡ vertex_of w.arena v
    → now ≡ ids ++ id ∷ [] → copy_at more id ≡ Some c → ((k : ℕ) → k ≢ id → copy_at more k ≡ copy_at copies k)
    → AreSinglesCopied b w (v + 1) now more
singles_more b w was v id c ids now copies more inside s id_is c_is now_is here others = record {
  copy = λ u less. elim (cases_eq u v) [
    | inl same ↦ ap (λ j. copy_at more (vertex_of b.arena j)) same ∙ ap (copy_at more) (sym id_is) ∙ here
        ∙ ap Some (c_is ∙ ap (vertex_of w.arena) (sym same))
    | inr apart ↦ (
        let below : u < v = omega (arith, less, apart) in
        others (vertex_of b.arena u) (λ same. apart
        (same_vertex b was u v (omega (arith, below, inside)) inside (same ∙ id_is))) ∙ s.copy u below
        )
  ];
  only = λ o d e. elim (cases_eq o id) [
    | inl same ↦ (v, omega arith, same ∙ id_is, same_id d c (sym e ∙ ap (copy_at more) same ∙ here) ∙ c_is)
    | inr apart ↦ (let k = s.only o d (sym (others o apart) ∙ e) in let less : k.0 < v = k.1 in
        (k.0, omega (arith, less), k.2, k.3))
  ];
  listed = λ q. (
    λ m. elim ((in_push ids id q).0 (subst (λ xs. Contains xs q) now_is m)) [
      | inl earlier ↦ (let k = (s.listed q).0 earlier in let less : k.0 < v = k.1 in (k.0, omega (arith, less), k.2))
      | inr same ↦ (v, omega arith, same ∙ id_is)
    ],
    λ h. subst (λ xs. Contains xs q) (sym now_is) ((in_push ids id q).1 (elim (cases_eq h.0 v) [
      | inl same ↦ inr (h.2 ∙ ap (vertex_of b.arena) same ∙ sym id_is)
      | inr apart ↦ inl ((s.listed q).1 (h.0, (let less : h.0 < v + 1 = h.1 in omega (arith, less, apart)), h.2))
    ])),
  );
  once = subst IsOnceEach (sym now_is) (once_append ids (id ∷ []) s.once (in_nil id, tt) (λ q m here_too. (
      let k = (s.listed q).0 m in
      let less : k.0 < v = k.1 in
      let at : q ≡ id = elim (in_cons q id [] here_too) [ inl same ↦ sym same | inr none ↦ absurd (in_nil q none) ] in
      let same : k.0 ≡ v = same_vertex b was k.0 v (omega (arith, less, inside)) inside (sym k.2 ∙ at ∙ id_is) in
      omega (arith, less, same)
      )));
}

single_live : (b : Book) → IsBook b → (v : ℕ) → v < b.arena.vertices → IsLive b.arena (vertex_of b.arena v)
single_live b was v inside = live_from b.arena (vertex_of b.arena v) (single v) (was.arena.singles v inside)

single_hops : (b : Book) → IsBook b → (v : ℕ) → v < b.arena.vertices → hops_at b (vertex_of b.arena v) ≡ 0
single_hops b was v inside = ap (λ q. hops_of q.list) (single_path b.arena was.arena v inside)

no_hops : (b : Book) → IsBook b → (id : ℕ) → IsLive b.arena id → hops_at b id ≤ 0 → (v : ℕ) × (v < b.arena.vertices)
    × (id ≡ vertex_of b.arena v)
no_hops b was id live none = elim (single_or_edge b.arena id was.arena live) [
  | inl one ↦ (one.0, one.1, one.2)
  | inr edge ↦ absurd (let long : 1 < length (list_of b.arena id) = long_of_edge b.arena id was.arena edge in
      omega (arith, long, none))
]

-- all single vertices
module _ (b w : Book) (n : ℕ) (ids : List ℕ) (copies : List (Option ℕ)) (was : IsBook b) (is : IsBook w)
    (size : b.arena.vertices ≡ n) (s : AreSinglesCopied b w n ids copies) where
  inside : (u : ℕ) → u < n → u < b.arena.vertices
  inside u less = omega (arith, less, size)

  pub first_level : IsLevel b 0 ids
  first_level = record {
    exact = λ id. (
      λ c. (
          let k = (s.listed id).0 c in (
            subst (IsLive b.arena) (sym k.2) (single_live b was k.0 (inside k.0 k.1)),
            ap (hops_at b) k.2
                ∙ single_hops b was k.0 (inside k.0 k.1),
          )
          ),
      λ h. (
          let hops : hops_at b id ≡ 0 = h.1 in
          let k = no_hops b was id h.0 (omega (arith, hops)) in
          (s.listed id).1 (k.0, (let less : k.0 < b.arena.vertices = k.1 in omega (arith, less, size)), k.2)
          ),
    );
    once = s.once;
  }

  pub first_copied : AreCopied b 0 copies
  first_copied o = (
    λ h. (
        let c = some_from (copy_at copies o) h in
        let k = s.only o c.0 c.1 in
        let hops : hops_at b o ≡ 0 = ap (hops_at b) k.2 ∙ single_hops b was k.0 (inside k.0 k.1) in
        (subst (IsLive b.arena) (sym k.2) (single_live b was k.0 (inside k.0 k.1)), omega (arith, hops))
        ),
    λ h. (
        let k = no_hops b was o h.0 h.1 in
        let less : k.0 < b.arena.vertices = k.1 in
        some_is (copy_at copies o) (vertex_of w.arena k.0)
        (ap (copy_at copies) k.2 ∙ s.copy k.0 (omega (arith, less, size)))
        ),
  )

  pub first_copies : n ≤ w.arena.vertices → IsOpeningBook w w.arena.vertices → AreCopies b w copies
  first_copies more opening = record {
    from_book = was;
    book = is;
    more = omega (arith, more, size);
    copy = λ o c e.
        let k = s.only o c e in
        let less : k.0 < n = k.1 in
        let here : k.0 < b.arena.vertices = inside k.0 k.1 in
        let there : k.0 < w.arena.vertices = omega (arith, less, more) in
        let old : path_of b.arena o ≡ single k.0 = ap (path_of b.arena) k.2 ∙ single_path b.arena was.arena k.0 here in
        let new : path_of w.arena c ≡ single k.0 = ap (path_of w.arena) k.3 ∙ single_path w.arena is.arena k.0 there in
        let same : path_of w.arena c ≡ path_of b.arena o = new ∙ sym old in
        let mark : set.contains w.marked c ≡ set.contains b.marked o =
        ap (set.contains w.marked) k.3 ∙ is.singles k.0 there ∙ sym (was.singles k.0 here)
        ∙ ap (set.contains b.marked) (sym k.2) in
        record {
          original = subst (IsLive b.arena) (sym k.2) (single_live b was k.0 here);
          live = subst (IsLive w.arena) (sym k.3) (single_live w is k.0 there);
          is = (λ i. record {
            list = (same i).list;
            weight = (same i).weight;
            historical = mark i;
            birth
                = (same i).birth;
          });
        };
    only = λ c live. inr (opening.live c live);
  }

-- ---- a level more

module _ (b : Book) (was : IsBook b) (h : ℕ) (copies : List (Option ℕ)) (longer : List ℕ) (c : AreCopied b h copies)
    (l : IsLevel b (h + 1) longer) where
  pub level_ready : (id : ℕ) → Contains longer id → CanBeCopied b copies id
  level_ready id m =
      let k = (l.exact id).0 m in
      let hops_are : hops_at b id ≡ h + 1 = k.1 in
      let edge : HasAnEdge b.arena id = edge_of_long b.arena id was.arena k.0 (omega (arith, hops_are)) in
      let e : Ends b.arena id = ends b.arena id was.arena edge in
      let left : hops_at b id ≡ hops_at b e.left + 1 = hops_left b.arena id e in
      let right : hops_at b id ≡ hops_at b e.right + 1 = hops_right b.arena id e in
      record {
        edge = edge;
        new = none_from (copy_at copies id)
            (λ some. (let less : hops_at b id ≤ h = ((c id).0 some).1 in omega (arith, less, hops_are)));
        left = λ j is. (c j).1 (subst (λ q. IsLive b.arena q × (hops_at b q ≤ h))
            (same_id e.left j (sym e.left_is ∙ is)) (e.left_live, omega (arith, left, hops_are)));
        right = λ j is. (c j).1 (subst (λ q. IsLive b.arena q × (hops_at b q ≤ h))
            (same_id e.right j (sym e.right_is ∙ is)) (e.right_live, omega (arith, right, hops_are)));
      }

  pub level_copied : (more : List (Option ℕ))
      → ((o : ℕ) → IsSome (copy_at more o) ↔ (IsSome (copy_at copies o) ⊎ Contains longer o)) → AreCopied b (h + 1) more
  level_copied more now o = (
    λ some. elim ((now o).0 some) [
      | inl old ↦ (let k = (c o).0 old in let less : hops_at b o ≤ h = k.1 in (k.0, omega (arith, less)))
      | inr here ↦ (let k = (l.exact o).0 here in let is : hops_at b o ≡ h + 1 = k.1 in (k.0, omega (arith, is)))
    ],
    λ k. (
        let most : hops_at b o ≤ h + 1 = k.1 in
        (now o).1 (elim (cases_eq (hops_at b o) (h + 1)) [
          | inl is ↦ inr ((l.exact o).1 (k.0, is))
          | inr apart ↦ inl ((c o).1 (k.0, omega (arith, most, apart)))
        ])
        ),
  )

-- ---- all levels

pub hops_are_few : (b : Book) → IsBook b → (id : ℕ) → IsLive b.arena id → hops_at b id < b.arena.vertices
hops_are_few b was id live =
    let p = live_path b.arena id live in
    let is : IsPath b.arena id p.0 = was.arena.paths id p.0 p.1 in
    let short : length p.0.list ≤ b.arena.vertices = simple_is_short b.arena.vertices p.0.list is.simple is.inside in
    let same : length (list_of b.arena id) ≡ length p.0.list =
    ap (λ q. length q.list) (path_of_at b.arena id p.0 p.1) in
    let some : 1 ≤ b.arena.vertices = was.arena.some in
    omega (arith, short, same, some)

pub all_widened : (b w : Book) (copies : List (Option ℕ)) (h n : ℕ) → AreCopies b w copies → AreCopied b h copies
    → b.arena.vertices ≤ h + 1 → w.arena.vertices ≡ n → IsWidenedTo n (kept_paths b) (kept_paths w)
all_widened b w copies h n s c all size = record {
  old = λ k m.
      let at : KeptAt b k = kept_at b k m in
      let few : hops_at b at.id < b.arena.vertices = hops_are_few b s.from_book at.id at.live in
      let d = some_from (copy_at copies at.id) ((c at.id).1 (at.live, omega (arith, few, all))) in
      let copy : IsCopy b w at.id d.0 = s.copy at.id d.0 d.1 in
      subst (Contains (kept_paths w)) (copy.is ∙ at.is) (live_is_kept w d.0 copy.live);
  new = λ k m.
      let at : KeptAt w k = kept_at w k m in
      elim (s.only at.id at.live) [
        | inl old ↦ (let copy : IsCopy b w old.0 at.id = s.copy old.0 at.id old.1 in
            inl (subst (Contains (kept_paths b)) (sym copy.is ∙ at.is) (live_is_kept b old.0 copy.original)))
        | inr one ↦ inr (subst (IsSingleKept n) (ap (λ j. kept_path w j (path_of w.arena j)) (sym one.2) ∙ at.is)
            (single_kept one.0 one.1))
      ];
  singles = λ p v.
      let inside : v.0 < w.arena.vertices = (let less : v.0 < n = v.1 in omega (arith, less, size)) in (
        kept_path w (vertex_of w.arena v.0) (path_of w.arena (vertex_of w.arena v.0)),
        live_is_kept w (vertex_of w.arena v.0) (single_live w s.book v.0 inside),
        ap (λ q. q.list) (single_path w.arena s.book.arena v.0 inside) ∙ sym v.2,
        single_kept v.0 inside,
      );
  once = kept_once w s.book;
}
  where
    single_kept : (v : ℕ) → v < w.arena.vertices
        → IsSingleKept n (kept_path w (vertex_of w.arena v) (path_of w.arena (vertex_of w.arena v)))
    single_kept v inside =
        let is : path_of w.arena (vertex_of w.arena v) ≡ single v = single_path w.arena s.book.arena v inside in
        record {
          single = (v, omega (arith, inside, size), ap (λ q. q.list) is);
          weight = ap (λ q. q.weight) is;
          historical = s.book.singles v inside;
          birth = ap (λ q. q.birth) is;
        }

-- ---- no pair has a least path that is not historical

pub all_copied : (b : Book) (copies : List (Option ℕ)) (h : ℕ) → IsBook b → AreCopied b h copies
    → b.arena.vertices ≤ h + 1 → (o : ℕ) → IsLive b.arena o → IsSome (copy_at copies o)
all_copied b copies h was c all o live =
    let few : hops_at b o < b.arena.vertices = hops_are_few b was o live in
    (c o).1 (live, omega (arith, few, all))

module _ (g : Graph) (b w : Book) (copies : List (Option ℕ)) (s : AreCopies b w copies)
    (all : (o : ℕ) → IsLive b.arena o → IsSome (copy_at copies o))
    (walks : (p : List ℕ) → IsKeptIn (kept_paths b) p → IsWalk g p) (weights : HaveWeights g (kept_paths b))
    (leasts : (p : List ℕ) → IsLeastWalk g p → IsHistoricalIn (kept_paths b) p) where
  -- a path between two vertices is a walk of the graph, with its weight
  walk_there : (x y : ℕ) → x ≢ y → (q : ℕ) → IsLive w.arena q → (first (list_of w.arena q) ≡ Some x)
      × (last (list_of w.arena q) ≡ Some y) → IsWalkFrom g x y (list_of w.arena q)
      × (weight_of_id w.arena q ≡ weight_of g (list_of w.arena q))
  walk_there x y apart q live ends = elim (s.only q live) [
    | inl old ↦
        let k : IsCopy b w old.0 q = s.copy old.0 q old.1 in
        let list : list_of b.arena old.0 ≡ list_of w.arena q = ap (λ j. j.list) (sym k.is) in
        let kept : Contains (kept_paths b) (kept_path b old.0 (path_of b.arena old.0)) =
        live_is_kept b old.0 k.original in (
          record {
            walk = subst (IsWalk g) list
                (walks (list_of b.arena old.0) (kept_path b old.0 (path_of b.arena old.0), kept, refl));
            from = ends.0;
            to
                = ends.1;
          },
          ap (λ j. j.weight) k.is ∙ weights (kept_path b old.0 (path_of b.arena old.0)) kept ∙ ap (weight_of g) list,
        )
    | inr one ↦
        let is : path_of w.arena q ≡ single one.0 =
        ap (path_of w.arena) one.2 ∙ single_path w.arena s.book.arena one.0 one.1 in
        let begins : Some x ≡ Some one.0 = sym ends.0 ∙ ap (λ p. first p.list) is in
        let stops : Some one.0 ≡ Some y = ap (λ p. last p.list) (sym is) ∙ ends.1 in
        absurd (apart (same_id x one.0 begins ∙ same_id one.0 y stops))
  ]

  none_apart : (x y : ℕ) → x ≢ y → HasNoPendingLeast w x y
  none_apart x y apart = elim (least_or_none g x y) [
    | inr none ↦ inl (λ q live ends. none (list_of w.arena q) (walk_there x y apart q live ends).0)
    | inl p ↦
        let m = (historical_marked b p.0).0 (leasts p.0 (x, y, p.1)) in
        let d = some_from (copy_at copies m.0) (all m.0 m.1) in
        let k : IsCopy b w m.0 d.0 = s.copy m.0 d.0 d.1 in
        let list : list_of w.arena d.0 ≡ p.0 = ap (λ j. j.list) k.is ∙ m.2 in
        let walk : IsWalkFrom g x y p.0 = p.1.walk in
        let ends : (first (list_of w.arena d.0) ≡ Some x) × (last (list_of w.arena d.0) ≡ Some y) =
        (ap first list ∙ walk.from, ap last list ∙ walk.to) in
        inr (
          d.0,
          record {
            live = k.live;
            ends = ends;
            least = λ q live at below. (
                let t = walk_there x y apart q live at in
                let v : weight_of_id w.arena q ≡ weight_of g (list_of w.arena q) = t.1 in
                let u : weight_of_id w.arena d.0 ≡ weight_of g p.0 =
                (walk_there x y apart d.0 k.live ends).1 ∙ ap (weight_of g) list in
                let lower : IsBelow g (list_of w.arena q) p.0 =
                sym (λ i. path_cmp (v i) (list_of w.arena q) (u i) (list i)) ∙ below in
                p.1.least (list_of w.arena q) t.0 lower
                );
          },
          ap (λ j. j.historical) k.is ∙ m.3,
        )
  ]

  pub none_pending : HasNonePending w
  none_pending x y inside_x inside_y = elim (cases_eq x y) [
    | inl same ↦ inr (
      vertex_of w.arena x,
      subst (λ z. IsLeastKeptId w x z (vertex_of w.arena x)) same
          (least_single w s.book x inside_x),
      s.book.singles x inside_x,
    )
    | inr apart ↦ none_apart x y apart
  ]
