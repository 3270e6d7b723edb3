-- For refresh: what a cleaning in place has done so far, with its start, its steps and its end.
use Rattle.std.specs.Prelude.{◌≡◌, ◌≢◌, ℕ, ◌<◌, ◌≤◌, ◌⊎◌, ◌↔◌, List, [], ◌∷◌, ◌++◌, length, Some, is_some, refl, Contains}
use Rattle.std.proofs.Common.{sym, ◌∙◌, ap, subst, arith, inl, inr}
use Rattle.std.proofs.lemmas.Bool.{cases_eq}
use Rattle.std.proofs.lemmas.List.Elements.{Contains-append_left, Contains-append_right, Contains-append_cases}
use Rattle.apsp_model.specs.Walk.{IsOnceEach}
use Rattle.apsp_model.specs.Local.{Avoids}
use Rattle.apsp_model.proofs.Members.{in_cons, in_nil, head_in}
use Rattle.apsp_model.proofs.Lists.{in_left, in_right}
use Rattle.apsp_model.proofs.Simples.{contained_or_not}
use Rattle.path_arena.specs.Arena.{IsLive, path_of, list_of, weight_of_id, left_of, right_of, HasAnEdge, IsPartOfNone}
use Rattle.path_arena.proofs.Paths.{live_from_edge}
use Rattle.path_book.specs.Book.{Book, IsBook, IsMarked, IsLeastKeptId}
use Rattle.path_book.specs.Through.{IsThrough, hops_at, InRisingHops, IsVictims}
use Rattle.path_book.proofs.Readers.{single_or_edge, long_of_edge, least_single}
use Rattle.path_book.proofs.Ends.{Ends, ends, hops_left, hops_right, edge_of_right}
use Rattle.cleanup_tasks.specs.Refreshing.{IsLeastId, StaysMarked, HasStayingParts}

-- ---- lists with one entry at the end

once_front : (xs : List ℕ) (x : ℕ) → IsOnceEach (xs ++ x ∷ []) → IsOnceEach xs × (Contains xs x → ⊥)
once_front [] x once = (tt, λ c. in_nil x c)
once_front (y ∷ xs) x once =
    let rest = once_front xs x once.1 in (
      ((λ c. once.0 (Contains-append_left xs (x ∷ []) y c)), rest.0),
      λ c. elim (in_cons x y xs c) [
        | inl same ↦ once.0 (Contains-append_right xs (x ∷ []) y (head_in y x [] (sym same)))
        | inr more ↦ rest.1 more
      ],
    )

rising_front : (b : Book) (xs : List ℕ) (x : ℕ) → InRisingHops b (xs ++ x ∷ []) → InRisingHops b xs
    × ((q : ℕ) → Contains xs q → hops_at b q ≤ hops_at b x)
rising_front b [] x rising = (tt, λ q c. absurd (in_nil q c))
rising_front b (y ∷ xs) x rising =
    let rest = rising_front b xs x rising.1 in (
      ((λ q c. rising.0 q (Contains-append_left xs (x ∷ []) q c)), rest.0),
      λ q c. elim (in_cons q y xs c) [
        | inl same ↦ subst (λ j. hops_at b j ≤ hops_at b x) same
            (rising.0 x (Contains-append_right xs (x ∷ []) x (head_in x x [] refl)))
        | inr more ↦ rest.1 q more
      ],
    )

-- ---- so far

-- the paths of 'rest' are as they were, and what passes v beside them is as the cleaning leaves it
pub record IsRefreshing (v birth : ℕ) (old now : Book) (rest : List ℕ) : Type 0 where
  pub was : IsBook old
  pub book : IsBook now
  pub vertices : now.arena.vertices ≡ old.arena.vertices
  pub through : (q : ℕ) → Contains rest q → IsThrough old v q
  pub longer : (q k : ℕ) → IsThrough old v q → (Contains rest q → ⊥) → Contains rest k → hops_at old k ≤ hops_at old q
  pub once : IsOnceEach rest
  pub rising : InRisingHops old rest
  pub live : (q : ℕ) → IsLive now.arena q ↔ (IsLive old.arena q × (Contains rest q ⊎ HasStayingParts v old q))
  pub marked : (q : ℕ) → IsMarked now q ↔ (IsMarked old q × (Contains rest q ⊎ StaysMarked v old q))
  pub lists : (q : ℕ) → IsLive now.arena q → list_of now.arena q ≡ list_of old.arena q
  pub weights : (q : ℕ) → IsLive now.arena q → weight_of_id now.arena q ≡ weight_of_id old.arena q
  pub lefts : (q : ℕ) → IsLive now.arena q → left_of now.arena q ≡ left_of old.arena q
  pub rights : (q : ℕ) → IsLive now.arena q → right_of now.arena q ≡ right_of old.arena q
  pub births : (q : ℕ) → IsLive now.arena q
      → ((Contains rest q ⊎ (IsThrough old v q → ⊥)) × ((path_of now.arena q).birth ≡ (path_of old.arena q).birth))
      ⊎ (IsThrough old v q × (Contains rest q → ⊥) × ((path_of now.arena q).birth ≡ birth))
  pub leasts : (x y q : ℕ) → IsLeastKeptId now x y q ↔ IsLeastKeptId old x y q

-- what a step at id makes of a book
pub record IsStepAt (v birth id : ℕ) (old now new : Book) : Type 0 where
  pub book : IsBook new
  pub vertices : new.arena.vertices ≡ now.arena.vertices
  pub live : (q : ℕ) → IsLive new.arena q ↔ (IsLive now.arena q × (q ≡ id → HasStayingParts v old id))
  pub marked : (q : ℕ) → IsMarked new q ↔ (IsMarked now q × (q ≡ id → StaysMarked v old id))
  pub lists : (q : ℕ) → IsLive new.arena q → list_of new.arena q ≡ list_of now.arena q
  pub weights : (q : ℕ) → IsLive new.arena q → weight_of_id new.arena q ≡ weight_of_id now.arena q
  pub lefts : (q : ℕ) → IsLive new.arena q → left_of new.arena q ≡ left_of now.arena q
  pub rights : (q : ℕ) → IsLive new.arena q → right_of new.arena q ≡ right_of now.arena q
  pub births : (q : ℕ) → IsLive new.arena q → q ≢ id → (path_of new.arena q).birth ≡ (path_of now.arena q).birth
  pub birth_here : IsLive new.arena id → (path_of new.arena id).birth ≡ birth
  pub leasts : (x y q : ℕ) → IsLeastKeptId new x y q ↔ IsLeastKeptId now x y q

module _ (v birth : ℕ) (old now : Book) (rest fewer : List ℕ) (id : ℕ) (is : rest ≡ fewer ++ id ∷ [])
    (i : IsRefreshing v birth old now rest) where
  stands : Contains rest id
  stands = subst (λ xs. Contains xs id) (sym is) (Contains-append_right fewer (id ∷ []) id (head_in id id [] refl))

  before : (q : ℕ) → Contains fewer q → Contains rest q
  before q c = subst (λ xs. Contains xs q) (sym is) (Contains-append_left fewer (id ∷ []) q c)

  cases : (q : ℕ) → Contains rest q → Contains fewer q ⊎ (q ≡ id)
  cases q c = elim (Contains-append_cases fewer (id ∷ []) q (subst (λ xs. Contains xs q) is c)) [
    | inl front ↦ inl front
    | inr at_end ↦ elim (in_cons q id [] at_end) [ inl same ↦ inr (sym same) | inr none ↦ absurd (in_nil q none) ]
  ]

  front : IsOnceEach fewer × (Contains fewer id → ⊥)
  front = once_front fewer id (subst IsOnceEach is i.once)

  pub passes : IsThrough old v id
  passes = i.through id stands

  pub live_here : IsLive now.arena id
  live_here = (i.live id).1 (live_from_edge old.arena id i.was.arena passes.0, inl stands)

  pub edge_here : HasAnEdge now.arena id
  edge_here = ap is_some (i.lefts id live_here) ∙ passes.0

  pub through_here : IsThrough now v id
  through_here = (edge_here, subst (λ xs. Contains xs v) (sym (i.lists id live_here)) passes.1)

  pub least_here : IsLeastId now id ↔ IsLeastId old id
  least_here = (λ h. (h.0, h.1, (i.leasts h.0 h.1 id).0 h.2), λ h. (h.0, h.1, (i.leasts h.0 h.1 id).1 h.2))

  -- what stays of the parts is the same in both books
  stays_same : (q : ℕ) → IsLive now.arena q → StaysMarked v now q ↔ StaysMarked v old q
  stays_same q live = (
    λ h. elim h [
      | inl avoids ↦ inl (subst (λ xs. Avoids xs v) (i.lists q live) avoids)
      | inr least ↦ inr (least.0, least.1, (i.leasts least.0 least.1 q).0 least.2)
    ],
    λ h. elim h [
      | inl avoids ↦ inl (subst (λ xs. Avoids xs v) (sym (i.lists q live)) avoids)
      | inr least ↦ inr (least.0, least.1, (i.leasts least.0 least.1 q).1 least.2)
    ],
  )

  part_live : (k : ℕ) → (left_of now.arena id ≡ Some k) ⊎ (right_of now.arena id ≡ Some k) → IsLive now.arena k
  part_live k h =
      elim h [
        | inl e ↦ i.book.marked_live k (i.book.left_marked id k e)
        | inr e ↦
            i.book.marked_live k (i.book.right_marked id k e)
      ]

  pub parts_same : HasStayingParts v now id ↔ HasStayingParts v old id
  parts_same = (
    λ h. record {
      left = λ k e. let now_e : left_of now.arena id ≡ Some k =
          i.lefts id live_here ∙ e in (stays_same k (part_live k (inl now_e))).0 (h.left k now_e);
      right = λ k e. let now_e : right_of now.arena id ≡ Some k =
          i.rights id live_here ∙ e in (stays_same k (part_live k (inr now_e))).0 (h.right k now_e);
    },
    λ h. record {
      left = λ k e. (stays_same k (part_live k (inl e))).1 (h.left k (sym (i.lefts id live_here) ∙ e));
      right = λ k e. (stays_same k (part_live k (inr e))).1 (h.right k (sym (i.rights id live_here) ∙ e));
    },
  )

  -- where it is not the least of its pair, it does not stay historical
  pub goes : (IsLeastId old id → ⊥) → StaysMarked v old id → ⊥
  goes higher h = elim h [ inl avoids ↦ avoids passes.1 | inr least ↦ higher least ]

  -- .. and it is part of no path that is kept by now
  no_whole : (IsLeastId old id → ⊥) → (q : ℕ) → IsLive now.arena q → HasAnEdge old.arena q
      → Contains (list_of old.arena q) v → hops_at old id < hops_at old q
      → (HasStayingParts v old q → StaysMarked v old id) → ⊥
  no_whole higher q live edge contains more part = elim ((i.live q).0 live).1 [
    | inl waits ↦ elim (cases q waits) [
      | inl front_q ↦ let most : hops_at old q ≤ hops_at old id =
          (rising_front old fewer id (subst (InRisingHops old) is i.rising)).1 q front_q in omega (arith, most, more)
      | inr same ↦ let e : hops_at old q ≡ hops_at old id = ap (hops_at old) same in omega (arith, e, more)
    ]
    | inr staying ↦ goes higher (part staying)
  ]

  pub free : (IsLeastId old id → ⊥) → IsPartOfNone now.arena id
  free higher = record {
    left = λ q e.
        let edge_now : HasAnEdge now.arena q = ap is_some e in
        let live : IsLive now.arena q = live_from_edge now.arena q i.book.arena edge_now in
        let e_old : left_of old.arena q ≡ Some id = sym (i.lefts q live) ∙ e in
        let edge : HasAnEdge old.arena q = ap is_some e_old in
        let p : Ends old.arena q = ends old.arena q i.was.arena edge in
        let same : p.left ≡ id = (let two : Some p.left ≡ Some id = sym p.left_is ∙ e_old in cc) in
        let long : 1 < length (list_of old.arena q) = p.long in
        let contains : Contains (list_of old.arena q) v =
        in_left (list_of old.arena q) v (omega arith)
        (subst (λ xs. Contains xs v) (ap (list_of old.arena) (sym same) ∙ p.left_list) passes.1) in
        no_whole higher q live edge contains (omega (arith, hops_left old.arena q p, ap (hops_at old) same))
        (λ staying. staying.left id e_old);
    right = λ q e.
        let edge_now : HasAnEdge now.arena q = edge_of_right now.arena i.book.arena q id e in
        let live : IsLive now.arena q = live_from_edge now.arena q i.book.arena edge_now in
        let e_old : right_of old.arena q ≡ Some id = sym (i.rights q live) ∙ e in
        let edge : HasAnEdge old.arena q = edge_of_right old.arena i.was.arena q id e_old in
        let p : Ends old.arena q = ends old.arena q i.was.arena edge in
        let same : p.right ≡ id = (let two : Some p.right ≡ Some id = sym p.right_is ∙ e_old in cc) in
        let contains : Contains (list_of old.arena q) v =
        in_right (list_of old.arena q) v
        (subst (λ xs. Contains xs v) (ap (list_of old.arena) (sym same) ∙ p.right_list) passes.1) in
        no_whole higher q live edge contains (omega (arith, hops_right old.arena q p, ap (hops_at old) same))
        (λ staying. staying.right id e_old);
  }

  -- one path more is as the cleaning leaves it
  waits_or : (P : ℕ → Type 0) (q : ℕ) → (q ≡ id → P id) → Contains rest q ⊎ P q → Contains fewer q ⊎ P q
  waits_or P q here h = elim h [
    | inl waits ↦ elim (cases q waits) [ inl front_q ↦ inl front_q | inr same ↦ inr (subst P (sym same) (here same)) ]
    | inr done ↦ inr done
  ]

  waits_before : (P : ℕ → Type 0) (q : ℕ) → Contains fewer q ⊎ P q → (Contains rest q ⊎ P q) × (q ≡ id → P id)
  waits_before P q h = (
    elim h [ inl front_q ↦ inl (before q front_q) | inr done ↦ inr done ],
    λ same. elim h [
      | inl front_q ↦ absurd (front.1 (subst (Contains fewer) same front_q))
      | inr done ↦
          subst P same done
    ],
  )

  pub refreshing_more : (new : Book) → IsStepAt v birth id old now new → IsRefreshing v birth old new fewer
  refreshing_more new s = record {
    was = i.was;
    book = s.book;
    vertices = s.vertices ∙ i.vertices;
    through = λ q c. i.through q (before q c);
    longer = λ q k passes_q gone c. elim (cases_eq q id) [
      | inl same ↦ subst (λ j. hops_at old k ≤ hops_at old j) (sym same)
          ((rising_front old fewer id (subst (InRisingHops old) is i.rising)).1 k c)
      | inr apart ↦ i.longer q k passes_q
          (λ waits. elim (cases q waits) [ inl front_q ↦ gone front_q | inr same ↦ apart same ]) (before k c)
    ];
    once = front.0;
    rising = (rising_front old fewer id (subst (InRisingHops old) is i.rising)).0;
    live = λ q. (
      λ h. let n = (s.live q).0 h in let o = (i.live q).0 n.0 in (o.0, waits_or (HasStayingParts v old) q n.1 o.1),
      λ h. let w = waits_before (HasStayingParts v old) q h.1 in (s.live q).1 ((i.live q).1 (h.0, w.0), w.1),
    );
    marked = λ q. (
      λ h. let n = (s.marked q).0 h in let o = (i.marked q).0 n.0 in (o.0, waits_or (StaysMarked v old) q n.1 o.1),
      λ h. let w = waits_before (StaysMarked v old) q h.1 in (s.marked q).1 ((i.marked q).1 (h.0, w.0), w.1),
    );
    lists = λ q live. s.lists q live ∙ i.lists q ((s.live q).0 live).0;
    weights = λ q live. s.weights q live ∙ i.weights q ((s.live q).0 live).0;
    lefts = λ q live. s.lefts q live ∙ i.lefts q ((s.live q).0 live).0;
    rights = λ q live. s.rights q live ∙ i.rights q ((s.live q).0 live).0;
    births = λ q live. elim (cases_eq q id) [
      | inl same ↦ inr (
        subst (IsThrough old v) (sym same) passes,
        λ c. front.1 (subst (Contains fewer) same c),
        ap (λ j. (path_of new.arena j).birth) same ∙ s.birth_here (subst (IsLive new.arena) same live),
      )
      | inr apart ↦ elim (i.births q ((s.live q).0 live).0) [
        | inl stayed ↦ inl (
          elim stayed.0 [
            | inl waits ↦ elim (cases q waits) [ inl front_q ↦ inl front_q | inr same ↦ absurd (apart same) ]
            | inr none ↦ inr none
          ],
          s.births q live apart ∙ stayed.1,
        )
        | inr born ↦ inr (born.0, λ c. born.1 (before q c), s.births q live apart ∙ born.2)
      ]
    ];
    leasts = λ x y q. (λ h. (i.leasts x y q).0 ((s.leasts x y q).0 h), λ h. (s.leasts x y q).1 ((i.leasts x y q).1 h));
  }

-- ---- the start

pub refreshing_none : (v birth : ℕ) (b : Book) (ids : List ℕ) → IsBook b → IsVictims b v ids
    → IsRefreshing v birth b b ids
refreshing_none v birth b ids was w = record {
  was = was;
  book = was;
  vertices = refl;
  through = λ q c. (w.exact q).0 c;
  longer = λ q k passes gone c. absurd (gone ((w.exact q).1 passes));
  once = w.once;
  rising = w.rising;
  live = λ q. (λ h. (h, stays_or q h), λ h. h.0);
  marked = λ q. (λ h. (h, marked_or q (was.marked_live q h)), λ h. h.0);
  lists = λ q live. refl;
  weights = λ q live. refl;
  lefts = λ q live. refl;
  rights = λ q live. refl;
  births = λ q live. inl (
    elim (is_through q live) [ inl passes ↦ inl ((w.exact q).1 passes) | inr none ↦ inr none ],
    refl,
  );
  leasts = λ x y q. (λ h. h, λ h. h);
}
  where
    is_through : (q : ℕ) → IsLive b.arena q → IsThrough b v q ⊎ (IsThrough b v q → ⊥)
    is_through q live = elim (contained_or_not (list_of b.arena q) v) [
      | inr avoids ↦ inr (λ h. avoids h.1)
      | inl contains ↦ elim (single_or_edge b.arena q was.arena live) [
        | inl one ↦ inr (λ h. let long : 1 < length (list_of b.arena q) = long_of_edge b.arena q was.arena h.0 in
            omega (arith, long, ap length one.3))
        | inr edge ↦ inl (edge, contains)
      ]
    ]

    marked_or : (q : ℕ) → IsLive b.arena q → Contains ids q ⊎ StaysMarked v b q
    marked_or q live = elim (contained_or_not (list_of b.arena q) v) [
      | inr avoids ↦ inr (inl avoids)
      | inl contains ↦ elim (single_or_edge b.arena q was.arena live) [
        | inl one ↦ inr (inr (
          one.0,
          one.0,
          subst (IsLeastKeptId b one.0 one.0) (sym one.2)
              (least_single b was one.0 one.1),
        ))
        | inr edge ↦ inl ((w.exact q).1 (edge, contains))
      ]
    ]

    stays_or : (q : ℕ) → IsLive b.arena q → Contains ids q ⊎ HasStayingParts v b q
    stays_or q live = elim (is_through q live) [
      | inl passes ↦ inl ((w.exact q).1 passes)
      | inr none ↦ inr (record {
        left = λ k e.
            let edge : HasAnEdge b.arena q = ap is_some e in
            let p : Ends b.arena q = ends b.arena q was.arena edge in
            let long : 1 < length (list_of b.arena q) = p.long in
            let same : p.left ≡ k = (let two : Some p.left ≡ Some k = sym p.left_is ∙ e in cc) in
            inl (λ c. none (
              edge,
              in_left (list_of b.arena q) v (omega arith)
                  (subst (λ xs. Contains xs v) (ap (list_of b.arena) (sym same) ∙ p.left_list) c),
            ));
        right = λ k e.
            let edge : HasAnEdge b.arena q = edge_of_right b.arena was.arena q k e in
            let p : Ends b.arena q = ends b.arena q was.arena edge in
            let same : p.right ≡ k = (let two : Some p.right ≡ Some k = sym p.right_is ∙ e in cc) in
            inl (λ c. none (
              edge,
              in_right (list_of b.arena q) v
                  (subst (λ xs. Contains xs v) (ap (list_of b.arena) (sym same) ∙ p.right_list) c),
            ));
      })
    ]
