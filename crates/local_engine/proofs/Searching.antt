-- The search for the historical paths, and those of them that are not shortest: for `historical`, `singles` and `outdone`.
use Rattle.std.specs.Prelude.{◌≡◌, ℕ, zero, suc, ◌+◌, ◌<◌, ◌≤◌, ◌⊎◌, List, [], ◌∷◌, ◌++◌, length, take, map, Some, None, is_some, refl, Contains, get_or}
use Rattle.std.specs.FinMap as fin
use Rattle.std.proofs.Common.{sym, ◌∙◌, ap, subst, arith, inl, inr}
use Rattle.std.proofs.lemmas.Bool.{cases_lt}
use Rattle.std.proofs.lemmas.List.{length-append, length-map, append-nil, append_assoc, take_all}
use Rattle.apsp_model.specs.Graph.{Graph}
use Rattle.apsp_model.specs.Walk.{IsOnceEach}
use Rattle.apsp_model.specs.Part.{left_part}
use Rattle.apsp_model.proofs.Lists.{left_and_last}
use Rattle.apsp_model.proofs.Members.{in_cons, in_nil, head_in, tail_in}
use Rattle.path_arena.specs.Arena.{Path, vertex_of, list_of, left_of, path_of, path_at, IsLive, HasAnEdge, single}
use Rattle.path_arena.proofs.Paths.{live_path, path_of_at}
use Rattle.extension_lists.specs.Known.{sides_at}
use Rattle.path_book.specs.Book.{Book, IsBook, IsMarked}
use Rattle.path_book.proofs.Ends.{Ends, ends}
use Rattle.path_book.proofs.Readers.{single_or_edge}
use Rattle.path_book.proofs.Tables.{in_entries, to_map}
use Rattle.shortest_math.specs.Rising.{IsRisingBy}
use Rattle.apsp_model.specs.Local.{IsShortest}
use Rattle.shortest_math.proofs.Searches.{IsForest, IsSearch, search_starts, search_goes_on, search_ends, IsPicked, picking_starts, picks, passes_over}
use Rattle.local_engine.specs.Demoting.{size_at, AreMarked, AreOutdone, AreSingleIds}
use Rattle.local_engine.proofs.Forgetting.{once_before, take_push, in_push}

same_some : (x y : ℕ) → Some x ≡ Some y → x ≡ y
same_some x y e = cc

same_path : (p q : Path) → Some p ≡ Some q → p ≡ q
same_path p q e = cc

same_head : (u w : ℕ) → u ∷ [] ≡ w ∷ [] → u ≡ w
same_head u w e = cc

-- ---- the single vertices

pub singles_more : (b : Book) (v id : ℕ) (ids : List ℕ) → IsBook b → v < b.arena.vertices → id ≡ vertex_of b.arena v
    → AreSingleIds b v ids → AreSingleIds b (v + 1) (ids ++ id ∷ [])
singles_more b v id ids was inside is s = record {
  exact = λ k. (
    λ c. elim ((in_push ids id k).0 c) [
      | inl before ↦ let u = (s.exact k).0 before in (u.0, (let l : u.0 < v = u.1 in omega arith), u.2)
      | inr same ↦ (v, omega arith, same ∙ is)
    ],
    λ h. elim (last_or_before h.0 h.1) [
      | inl before ↦ (in_push ids id k).1 (inl ((s.exact k).1 (h.0, before, h.2)))
      | inr same ↦ (in_push ids id k).1 (inr (h.2 ∙ ap (vertex_of b.arena) same ∙ sym is))
    ],
  );
  once = once_push ids s.once (λ c. (
      let u = (s.exact id).0 c in
      let l : u.0 < v = u.1 in
      let same : u.0 ≡ v = one_vertex u.0 v (omega (arith, l, inside)) inside (sym u.2 ∙ is) in
      omega (arith, l, same)
      ));
}
  where
    last_or_before : (u : ℕ) → u < v + 1 → (u < v) ⊎ (u ≡ v)
    last_or_before u l = elim (cases_lt u v) [ inl less ↦ inl less | inr more ↦ inr (omega arith) ]

    one_vertex : (u w : ℕ) → u < b.arena.vertices → w < b.arena.vertices → vertex_of b.arena u ≡ vertex_of b.arena w → u ≡ w
    one_vertex u w at to same =
        let two : Some (single u) ≡ Some (single w) = sym (was.arena.singles u at) ∙ ap (path_at b.arena) same
        ∙ was.arena.singles w to in
        same_head u w (ap (λ p. p.list) (same_path (single u) (single w) two))

    once_push : (xs : List ℕ) → IsOnceEach xs → (Contains xs id → ⊥) → IsOnceEach (xs ++ id ∷ [])
    once_push [] once new = (in_nil id, tt)
    once_push (x ∷ xs) once new = (
      λ c. elim ((in_push xs id x).0 c) [ inl more ↦ once.0 more | inr same ↦ new (head_in id x xs same) ],
      once_push xs once.1 (λ c. new (tail_in id x xs c)),
    )

pub singles_start : (b : Book) → AreSingleIds b 0 []
singles_start b = record {
  exact =
      λ k. (λ c. absurd (in_nil k c), λ h. absurd (let l : h.0 < 0 = h.1 in omega arith));
  once = tt;
}

-- ---- the forest of the historical paths

module _ (b : Book) (was : IsBook b) where
  abbrev pub IsRoot : ℕ → Type 0
  IsRoot id = (v : ℕ) × (v < b.arena.vertices) × (id ≡ vertex_of b.arena v)

  abbrev pub GoesOnAt : ℕ → ℕ → Type 0
  GoesOnAt q x = (left_of b.arena x ≡ Some q) × IsMarked b x

  root_path : (id : ℕ) (r : IsRoot id) → path_of b.arena id ≡ single r.0
  root_path id r = ap (path_of b.arena) r.2
      ∙ path_of_at b.arena (vertex_of b.arena r.0) (single r.0) (was.arena.singles r.0 r.1)

  not_none : (q : ℕ) → None ≡ Some q → ⊥
  not_none q e = cc

  pub forest : IsForest (size_at b) (IsMarked b) IsRoot GoesOnAt
  forest = record {
    roots_are = λ x r. subst (IsMarked b) (sym r.2) (was.singles r.0 r.1);
    children_are = λ q x h child. child.1;
    parent = λ x h. elim (single_or_edge b.arena x was.arena (was.marked_live x h)) [
      | inl one ↦ inl (one.0, one.1, one.2)
      | inr edge ↦ let e : Ends b.arena x = ends b.arena x was.arena edge in
          inr (e.left, was.left_marked x e.left e.left_is, (e.left_is, h))
    ];
    longer = λ q x child.
        let edge : HasAnEdge b.arena x = ap is_some child.0 in
        let e : Ends b.arena x = ends b.arena x was.arena edge in
        let long : 1 < length (list_of b.arena x) = e.long in
        let w = left_and_last (list_of b.arena x) (omega arith) in
        let same : e.left ≡ q = same_some e.left q (sym e.left_is ∙ child.0) in
        omega (
          arith,
          ap length w.1,
          length-append (left_part (list_of b.arena x)) (w.0 ∷ []),
          ap length (sym (ap (list_of b.arena) same) ∙ e.left_list),
        );
    one_parent = λ q r x a c. same_some q r (sym a.0 ∙ c.0);
    no_root = λ q x child root. not_none q (sym (ap (λ p. p.left) (root_path x root)) ∙ child.0);
    same_size = λ x y r s. ap (λ p. length p.list) (root_path x r) ∙ sym (ap (λ p. length p.list) (root_path y s));
  }

  -- ---- the queue, of which so many are done

  pub record IsQueue (ids : List ℕ) (done : ℕ) : Type 0 where
    pub front : List ℕ
    pub left : List ℕ
    pub whole : ids ≡ front ++ left
    pub number : length front ≡ done
    pub search : IsSearch (size_at b) (IsMarked b) IsRoot GoesOnAt front left

  pub queue_starts : (n : ℕ) (ids : List ℕ) → n ≡ b.arena.vertices → AreSingleIds b n ids → IsQueue ids 0
  queue_starts n ids all s = record {
    front = [];
    left = ids;
    whole = refl;
    number = refl;
    search = search_starts (size_at b) (IsMarked b) IsRoot GoesOnAt forest ids s.once (λ x. (
      λ c. (let h = (s.exact x).0 c in (h.0, subst (λ m. h.0 < m) all h.1, h.2)),
      λ r. (s.exact x).1 (r.0, subst (λ m. r.0 < m) (sym all) r.1, r.2),
    ));
  }

  module _ (ids : List ℕ) (done : ℕ) (q : IsQueue ids done) where
    pub members : (x : ℕ) → Contains ids x → IsMarked b x
    members x c = q.search.members x (subst (λ xs. Contains xs x) q.whole c)

    pub each_once : IsOnceEach ids
    each_once = subst IsOnceEach (sym q.whole) q.search.once

    -- the next one
    next_at : (front left : List ℕ) (i id : ℕ) → length front ≡ i → i < length (front ++ left)
        → id ≡ get_or (front ++ left) i id → (rest : List ℕ) × (left ≡ id ∷ rest)
    next_at [] [] i id number inside at = absurd (omega (arith, number, inside))
    next_at [] (x ∷ left) zero id number inside at = (left, (λ i. sym at i ∷ left))
    next_at [] (x ∷ left) (suc i) id number inside at = absurd (omega (arith, number))
    next_at (y ∷ front) left zero id number inside at = absurd (omega (arith, number))
    next_at (y ∷ front) left (suc i) id number inside at =
        next_at front left i id (omega (arith, number)) (omega (arith, inside)) at

    pub queue_goes_on : (id : ℕ) (kids later : List ℕ) → done < length ids → id ≡ get_or ids done id
        → kids ≡ (sides_at b.lists id).right_star → IsOnceEach kids → later ≡ ids ++ kids → IsQueue later (done + 1)
    queue_goes_on id kids later inside at are once is =
        let next = next_at q.front q.left done id q.number (subst (λ xs. done < length xs) q.whole inside)
        (at ∙ ap (λ xs. get_or xs done id) q.whole) in
        record {
          front = q.front ++ id ∷ [];
          left = next.0 ++ kids;
          whole = is ∙ ap (λ xs. xs ++ kids) (q.whole ∙ ap (λ xs. q.front ++ xs) next.1)
              ∙ append_assoc q.front (id ∷ next.0) kids ∙ sym (append_assoc q.front (id ∷ []) (next.0 ++ kids));
          number = omega (arith, length-append q.front (id ∷ []), q.number);
          search = search_goes_on (size_at b) (IsMarked b) IsRoot GoesOnAt forest q.front id next.0 kids
              (subst (IsSearch (size_at b) (IsMarked b) IsRoot GoesOnAt q.front) next.1 q.search) once (λ x. (
                λ c. (was.extensions.right_star id x).0 (subst (λ xs. Contains xs x) are c),
                λ child. subst (λ xs. Contains xs x) (sym are) ((was.extensions.right_star id x).1 child),
              ));
        }

    none_left : (front left : List ℕ) → length (front ++ left) ≤ length front → left ≡ []
    none_left front [] past = refl
    none_left front (x ∷ left) past = absurd (omega (arith, past, length-append front (x ∷ left)))

    pub queue_ends : length ids ≤ done → AreMarked b ids
    queue_ends past =
        let empty : q.left ≡ [] = none_left q.front q.left (omega (arith, q.number, past, ap length q.whole)) in
        let is : ids ≡ q.front = q.whole ∙ ap (λ xs. q.front ++ xs) empty ∙ append-nil q.front in
        let s : IsSearch (size_at b) (IsMarked b) IsRoot GoesOnAt q.front [] =
        subst (IsSearch (size_at b) (IsMarked b) IsRoot GoesOnAt q.front) empty q.search in
        record {
          exact = λ id. (
            λ c. members id c,
            λ m. subst (λ xs. Contains xs id) (sym is)
                ((search_ends (size_at b) (IsMarked b) IsRoot GoesOnAt forest q.front s id).1 m),
          );
          once = each_once;
          rising = subst (IsRisingBy (size_at b)) (sym q.whole) q.search.rising;
        }

-- ---- no longer than the kept paths are many

record Without (ys : List ℕ) (x : ℕ) : Type 0 where
  rest : List ℕ
  shorter : length ys ≡ length rest + 1
  still : (y : ℕ) → Contains ys y → (x ≡ y → ⊥) → Contains rest y

without : (ys : List ℕ) (x : ℕ) → Contains ys x → Without ys x
without [] x c = absurd (in_nil x c)
without (y ∷ ys) x c = elim (in_cons x y ys c) [
  | inl same ↦ record {
    rest = ys;
    shorter = omega arith;
    still = λ z d apart. elim (in_cons z y ys d) [ inl here ↦ absurd (apart (sym same ∙ here)) | inr more ↦ more ];
  }
  | inr more ↦
      let w = without ys x more in
      record {
        rest = y ∷ w.rest;
        shorter = (let e : length ys ≡ length w.rest + 1 = w.shorter in omega arith);
        still = λ z d apart. elim (in_cons z y ys d) [
          | inl here ↦ head_in z y w.rest here
          | inr later ↦
              tail_in z y w.rest (w.still z later apart)
        ];
      }
]

once_is_short : (xs ys : List ℕ) → IsOnceEach xs → ((x : ℕ) → Contains xs x → Contains ys x) → length xs ≤ length ys
once_is_short [] ys once inside = omega arith
once_is_short (x ∷ xs) ys once inside =
    let w : Without ys x = without ys x (inside x (head_in x x xs refl)) in
    let rest : length xs ≤ length w.rest =
    once_is_short xs w.rest once.1
    (λ y c. w.still y (inside y (tail_in y x xs c)) (λ same. once.0 (subst (Contains xs) (sym same) c))) in
    let e : length ys ≡ length w.rest + 1 = w.shorter in
    omega arith

pub live_are_few : (b : Book) (ids : List ℕ) → IsOnceEach ids → ((x : ℕ) → Contains ids x → IsLive b.arena x)
    → length ids ≤ length (fin.entries b.arena.paths)
live_are_few b ids once live =
    let keys : List ℕ = map (λ (e : ℕ × Path). e.0) (fin.entries b.arena.paths) in
    let few : length ids ≤ length keys =
    once_is_short ids keys once (λ x c. (let p = live_path b.arena x (live x c) in
    to_map (λ (e : ℕ × Path). e.0) (fin.entries b.arena.paths) (x, p.0)
    ((in_entries b.arena.paths x p.0).1 p.1))) in
    omega (arith, few, length-map (fin.entries b.arena.paths) (λ (e : ℕ × Path). e.0))

-- ---- those that are not shortest

abbrev pub IsNotShortest : Graph → Book → ℕ → Type 0
IsNotShortest g b id = IsShortest g (list_of b.arena id) → ⊥

rising_before : (size : ℕ → ℕ) (xs : List ℕ) (i x : ℕ) → IsRisingBy size xs → i < length xs → x ≡ get_or xs i x
    → (y : ℕ) → Contains (take i xs) y → size y ≤ size x
rising_before size [] i x rising inside at y c = absurd (omega (arith, inside))
rising_before size (z ∷ xs) zero x rising inside at y c = absurd (in_nil y c)
rising_before size (z ∷ xs) (suc i) x rising inside at y c = elim (in_cons y z (take i xs) c) [
  | inl same ↦ subst (λ w. size w ≤ size x) same (rising.0 x (i, omega (arith, inside), sym at))
  | inr more ↦ rising_before size xs i x rising.1 (omega (arith, inside)) at y more
]

module _ (g : Graph) (b : Book) (ids : List ℕ) (s : AreMarked b ids) where
  abbrev pub ArePicked : ℕ → List ℕ → Type 0
  ArePicked i paths = IsPicked (size_at b) (IsNotShortest g b) (take i ids) paths

  pub picked_none : ArePicked 0 []
  picked_none = picking_starts (size_at b) (IsNotShortest g b)

  module _ (i id : ℕ) (paths : List ℕ) (p : ArePicked i paths) (inside : i < length ids) (at : id ≡ get_or ids i id) where
    pub picked_more : IsNotShortest g b id → ArePicked (i + 1) (paths ++ id ∷ [])
    picked_more kind = subst (λ xs. IsPicked (size_at b) (IsNotShortest g b) xs (paths ++ id ∷ []))
        (sym (take_push ids i id inside at))
        (picks (size_at b) (IsNotShortest g b) (take i ids) id paths p kind (once_before ids i id s.once inside at)
        (rising_before (size_at b) ids i id s.rising inside at))

    pub picked_over : IsShortest g (list_of b.arena id) → ArePicked (i + 1) paths
    picked_over other = subst (λ xs. IsPicked (size_at b) (IsNotShortest g b) xs paths) (sym (take_push ids i id inside at))
        (passes_over (size_at b) (IsNotShortest g b) (take i ids) id paths p (λ kind. kind other))

  pub picked_all : (i : ℕ) (paths : List ℕ) → length ids ≤ i → ArePicked i paths → AreOutdone g b paths
  picked_all i paths past p = record {
    exact = λ k. (
      λ c. (let h = (p.exact k).0 c in ((s.exact k).0 (subst (λ xs. Contains xs k) (take_all i ids past) h.0), h.1)),
      λ h. (p.exact k).1 (subst (λ xs. Contains xs k) (sym (take_all i ids past)) ((s.exact k).1 h.0), h.1),
    );
    once = p.once;
    rising = p.rising;
  }
