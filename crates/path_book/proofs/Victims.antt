-- For forget_through: the longest path through v, and what is through v without it.
use Rattle.std.specs.Prelude.{◌≡◌, ◌≢◌, ℕ, ◌<◌, ◌≤◌, ◌⊎◌, true, List, [], ◌∷◌, ◌++◌, length, Some, is_some, unwrap_or, refl, Contains}
use Rattle.std.proofs.Common.{sym, ◌∙◌, ap, subst, arith, inl, inr}
use Rattle.std.proofs.lemmas.List.Elements.{Contains-append_left, Contains-append_right, Contains-append_cases}
use Rattle.apsp_model.specs.Walk.{IsOnceEach, hops_of, first, last}
use Rattle.apsp_model.proofs.Members.{in_cons, in_nil, head_in, tail_in}
use Rattle.apsp_model.proofs.Lists.{in_left, in_right, to_right}
use Rattle.path_arena.specs.Arena.{Path, no_path, path_of, vertex_of, IsLive, list_of, left_of, right_of, HasAnEdge, IsPartOfNone, without_path}
use Rattle.path_arena.proofs.Keys.{get_gone_other}
use Rattle.path_book.specs.Book.{Book}
use Rattle.path_book.specs.Through.{IsThrough, hops_at, InRisingHops, IsVictims}
use Rattle.path_book.proofs.Readers.{single_or_edge}
use Rattle.path_book.proofs.Ends.{Ends, ends, hops_left, hops_right, edge_of_right, to_left}
use Rattle.path_book.proofs.Forgotten.{IsBookButLists, edge_left}

-- ---- lists with one entry at the end

once_front : (xs : List ℕ) (x : ℕ) → IsOnceEach (xs ++ x ∷ []) → IsOnceEach xs × (Contains xs x → ⊥)
once_front [] x once = (tt, λ c. in_nil x c)
once_front (y ∷ xs) x once =
    let rest = once_front xs x once.1 in (
      ((λ c. once.0 (Contains-append_left xs (x ∷ []) y c)), rest.0),
      λ c. elim (in_cons x y xs c) [
        | inl same ↦ once.0 (Contains-append_right xs (x ∷ []) y (head_in y x [] (sym same)))
        | inr more ↦ rest.1 more
      ],
    )

rising_front : (b : Book) (xs : List ℕ) (x : ℕ) → InRisingHops b (xs ++ x ∷ []) → InRisingHops b xs
    × ((q : ℕ) → Contains xs q → hops_at b q ≤ hops_at b x)
rising_front b [] x rising = (tt, λ q c. absurd (in_nil q c))
rising_front b (y ∷ xs) x rising =
    let rest = rising_front b xs x rising.1 in (
      ((λ q c. rising.0 q (Contains-append_left xs (x ∷ []) q c)), rest.0),
      λ q c. elim (in_cons q y xs c) [
        | inl same ↦ subst (λ j. hops_at b j ≤ hops_at b x) same
            (rising.0 x (Contains-append_right xs (x ∷ []) x (head_in x x [] refl)))
        | inr more ↦ rest.1 q more
      ],
    )

rising_same : (b c : Book) (xs : List ℕ) → ((q : ℕ) → Contains xs q → hops_at c q ≡ hops_at b q) → InRisingHops b xs
    → InRisingHops c xs
rising_same b c [] same rising = tt
rising_same b c (x ∷ xs) same rising = (
  λ q k. (let e : hops_at c x ≡ hops_at b x = same x (head_in x x xs refl) in
      let f : hops_at c q ≡ hops_at b q = same q (tail_in q x xs k) in
      let l : hops_at b x ≤ hops_at b q = rising.0 q k in omega arith),
  rising_same b c xs (λ q k. same q (tail_in q x xs k)) rising.1,
)

-- an id whose lists are as they should be while these paths are still to be forgotten
abbrev pub IsSettledAt : Book → ℕ → List ℕ → ℕ → Type 0
IsSettledAt b v rest k = (Contains rest k → ⊥) × (k ≢ vertex_of b.arena v)

-- a path that passes v is to be forgotten, or the single vertex
pub unsettled : (b : Book) (was : IsBookButLists b) (v : ℕ) (rest : List ℕ) → IsVictims b v rest → (k : ℕ)
    → IsLive b.arena k → Contains (list_of b.arena k) v → IsSettledAt b v rest k → ⊥
unsettled b was v rest w k live stands settled = elim (single_or_edge b.arena k was.arena live) [
  | inl one ↦ elim (in_cons v one.0 [] (subst (λ xs. Contains xs v) one.3 stands)) [
    | inl same ↦ settled.1 (one.2 ∙ ap (vertex_of b.arena) same)
    | inr none ↦ in_nil v none
  ]
  | inr edge ↦ settled.0 ((w.exact k).1 (edge, stands))
]

-- ---- the longest path through v

module _ (b : Book) (was : IsBookButLists b) (v id : ℕ) (rest fewer : List ℕ) (is : rest ≡ fewer ++ id ∷ [])
    (w : IsVictims b v rest) where
  last_stands : Contains rest id
  last_stands = subst (λ xs. Contains xs id) (sym is) (Contains-append_right fewer (id ∷ []) id (head_in id id [] refl))

  pub last_through : IsThrough b v id
  last_through = (w.exact id).0 last_stands

  -- what stands in the list stands before its last, or is the last
  pub cases : (q : ℕ) → Contains rest q → Contains fewer q ⊎ (q ≡ id)
  cases q c = elim (Contains-append_cases fewer (id ∷ []) q (subst (λ xs. Contains xs q) is c)) [
    | inl before ↦ inl before
    | inr at_end ↦ elim (in_cons q id [] at_end) [ inl same ↦ inr (sym same) | inr none ↦ absurd (in_nil q none) ]
  ]

  no_longer : (q : ℕ) → IsThrough b v q → hops_at b q ≤ hops_at b id
  no_longer q through = elim (cases q ((w.exact q).1 through)) [
    | inl before ↦ (rising_front b fewer id (subst (InRisingHops b) is w.rising)).1 q before
    | inr same ↦ (let e : hops_at b q ≡ hops_at b id = ap (hops_at b) same in omega arith)
  ]

  -- it is part of no kept path
  pub last_is_free : IsPartOfNone b.arena id
  last_is_free = record {
    left = λ q e. (
        let edge : HasAnEdge b.arena q = ap is_some e in
        let p : Ends b.arena q = ends b.arena q was.arena edge in
        let same : p.left ≡ id = (let two : Some p.left ≡ Some id = sym p.left_is ∙ e in cc) in
        let long : 1 < length (list_of b.arena q) = p.long in
        let stands : Contains (list_of b.arena q) v =
        in_left (list_of b.arena q) v (omega arith)
        (subst (λ xs. Contains xs v) (ap (list_of b.arena) (sym same) ∙ p.left_list) last_through.1) in
        let short : hops_at b q ≤ hops_at b id = no_longer q (edge, stands) in
        omega (arith, hops_left b.arena q p, ap (hops_at b) same)
        );
    right = λ q e. (
        let edge : HasAnEdge b.arena q = edge_of_right b.arena was.arena q id e in
        let p : Ends b.arena q = ends b.arena q was.arena edge in
        let same : p.right ≡ id = (let two : Some p.right ≡ Some id = sym p.right_is ∙ e in cc) in
        let stands : Contains (list_of b.arena q) v =
        in_right (list_of b.arena q) v
        (subst (λ xs. Contains xs v) (ap (list_of b.arena) (sym same) ∙ p.right_list) last_through.1) in
        let short : hops_at b q ≤ hops_at b id = no_longer q (edge, stands) in
        omega (arith, hops_right b.arena q p, ap (hops_at b) same)
        );
  }

  -- its parts stay only where they avoid v
  pub right_goes : (from k : ℕ) → first (list_of b.arena id) ≡ Some from → (from ≡ v → ⊥) → right_of b.arena id ≡ Some k
      → IsSettledAt b v rest k → ⊥
  right_goes from k begins apart e =
      let p : Ends b.arena id = ends b.arena id was.arena last_through.0 in
      let same : p.right ≡ k = (let two : Some p.right ≡ Some k = sym p.right_is ∙ e in cc) in
      let behind =
      to_right (list_of b.arena id) v (λ f. apart (let two : Some from ≡ Some v = sym begins ∙ f in cc))
      last_through.1 in
      unsettled b was v rest w k (subst (IsLive b.arena) same p.right_live)
      (subst (λ xs. Contains xs v) (sym p.right_list ∙ ap (list_of b.arena) same) behind)

  pub left_goes : (to k : ℕ) → last (list_of b.arena id) ≡ Some to → (to ≡ v → ⊥) → left_of b.arena id ≡ Some k
      → IsSettledAt b v rest k → ⊥
  left_goes to k finishes apart e =
      let p : Ends b.arena id = ends b.arena id was.arena last_through.0 in
      let same : p.left ≡ k = (let two : Some p.left ≡ Some k = sym p.left_is ∙ e in cc) in
      let long : 1 < length (list_of b.arena id) = p.long in
      let before =
      to_left (list_of b.arena id) v (omega arith)
      (λ f. apart (let two : Some to ≡ Some v = sym finishes ∙ f in cc)) last_through.1 in
      unsettled b was v rest w k (subst (IsLive b.arena) same p.left_live)
      (subst (λ xs. Contains xs v) (sym p.left_list ∙ ap (list_of b.arena) same) before)

  module _ (new : Book) (arena : new.arena ≡ without_path b.arena id) where
    path_left : (q : ℕ) → q ≢ id → path_of new.arena q ≡ path_of b.arena q
    path_left q apart =
        ap (λ a. path_of a q) arena ∙ ap (λ o. unwrap_or o no_path) (get_gone_other b.arena.paths id q apart)

    -- the others are the paths through v then
    pub fewer_victims : IsVictims new v fewer
    fewer_victims = record {
      exact = λ q. (
        λ c. (
            let apart : q ≢ id = λ same. front.1 (subst (Contains fewer) same c) in
            let through : IsThrough b v q =
            (w.exact q).0 (subst (λ xs. Contains xs q) (sym is) (Contains-append_left fewer (id ∷ []) q c)) in (
              subst (λ (p : Path). is_some p.left ≡ true) (sym (path_left q apart)) through.0,
              subst
                  (λ (p : Path). Contains p.list v) (sym (path_left q apart)) through.1,
            )
            ),
        λ through. (
            let apart : q ≢ id =
            ((edge_left b id b.lists was last_through.0 last_is_free q).0
            (subst (λ a. HasAnEdge a q) arena through.0)).1 in
            let before : IsThrough b v q = (
              subst (λ (p : Path). is_some p.left ≡ true) (path_left q apart) through.0,
              subst
                  (λ (p : Path). Contains p.list v) (path_left q apart) through.1,
            ) in
            elim (cases q ((w.exact q).1 before)) [ inl stands ↦ stands | inr same ↦ absurd (apart same) ]
            ),
      );
      once = front.0;
      rising = rising_same b new fewer (λ q c. ap (λ (p : Path). hops_of p.list)
          (path_left q (λ same. front.1 (subst (Contains fewer) same c))))
          (rising_front b fewer id (subst (InRisingHops b) is w.rising)).0;
    }
      where
        front : IsOnceEach fewer × (Contains fewer id → ⊥)
        front = once_front fewer id (subst IsOnceEach is w.once)
