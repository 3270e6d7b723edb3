-- For both walks: each path through v with an edge has one parent, and a walk comes from there.
use Rattle.std.specs.Prelude.{◌≡◌, ℕ, ◌+◌, ◌<◌, ◌≤◌, ◌⊎◌, ◌↔◌, Bool, true, false, if◌then◌else◌, List, [], ◌∷◌, length, Some, is_some, refl, Contains}
use Rattle.std.proofs.Common.{sym, ◌∙◌, ap, subst, arith, inl, inr}
use Rattle.std.proofs.lemmas.Bool.{cases_Bool, eq-eqb, eqb-true, false≢true}
use Rattle.std.proofs.lemmas.List.Elements.{Contains-append_left, Contains-append_right, Contains-append_cases}
use Rattle.apsp_model.specs.Walk.{IsSimple, first}
use Rattle.apsp_model.specs.Part.{left_part, right_part}
use Rattle.apsp_model.proofs.Members.{in_cons, in_nil, head_in}
use Rattle.apsp_model.proofs.Lists.{ends_differ, first_in, first_of_left, in_right, to_right, first_alone}
use Rattle.path_arena.specs.Arena.{vertex_of, IsLive, list_of, left_of, right_of, HasAnEdge, single}
use Rattle.path_arena.proofs.Paths.{live_path, live_from, live_from_edge, path_of_at}
use Rattle.extension_lists.specs.Known.{sides_at}
use Rattle.path_book.specs.Book.{Book, IsBook}
use Rattle.path_book.proofs.Ends.{Ends, ends, hops_left, hops_right, edge_of_right}
use Rattle.path_book.proofs.Readers.{single_or_edge, long_of_edge}
use Rattle.path_book.specs.Through.{IsThrough, hops_at}
use Rattle.cleanup_tasks.specs.Walk.{begins_with, starts_at, longer_of}

-- ---- lists

begins_true : (p : List ℕ) (v : ℕ) → begins_with p v ≡ true → first p ≡ Some v
begins_true [] v e = absurd (false≢true e)
begins_true (x ∷ p) v e = ap Some (eqb-true x v e)

begins_from : (p : List ℕ) (v : ℕ) → first p ≡ Some v → begins_with p v ≡ true
begins_from [] v e = cc
begins_from (x ∷ p) v e = eq-eqb x v (let two : Some x ≡ Some v = e in cc)

-- a live path that passes v
abbrev pub PassesThrough : Book → ℕ → ℕ → Type 0
PassesThrough b v id = IsLive b.arena id × Contains (list_of b.arena id) v

-- q is the child of p: p is q without its last vertex where q starts at v, and without its first vertex otherwise
abbrev pub IsExtensionFrom : Book → ℕ → ℕ → ℕ → Type 0
IsExtensionFrom b v p q =
    ((starts_at b v q ≡ true) × (left_of b.arena q ≡ Some p))
    ⊎ ((starts_at b v q ≡ false) × (right_of b.arena q ≡ Some p))

module _ (b : Book) (was : IsBook b) where
  pub simple_list : (id : ℕ) → IsLive b.arena id → IsSimple (list_of b.arena id)
  simple_list id live =
      let p = live_path b.arena id live in
      subst IsSimple (sym (ap (λ q. q.list) (path_of_at b.arena id p.0 p.1))) (was.arena.paths id p.0 p.1).simple

  -- the children of a path that passes v are those that the walk puts behind it
  pub longer_exact : (v p q : ℕ) → PassesThrough b v p → Contains (longer_of b v p) q ↔ IsExtensionFrom b v p q
  longer_exact v p q passes = (
    λ c. elim (Contains-append_cases (sides_at b.lists p).left
        (if starts_at b v p then (sides_at b.lists p).right else []) q c) [
          | inl in_front ↦ inr (
            in_front_starts_not ((was.extensions.left p q).0 in_front),
            (was.extensions.left p q).0
                in_front,
          )
          | inr behind ↦ elim (cases_Bool (starts_at b v p)) [
            | inl at_v ↦
                let c2 : Contains (sides_at b.lists p).right q =
                subst (λ (t : Bool). Contains (if t then (sides_at b.lists p).right else []) q) at_v behind in
                let left : left_of b.arena q ≡ Some p = (was.extensions.right p q).0 c2 in
                inl (starts_on q left at_v, left)
            | inr away ↦ absurd (in_nil q
                (subst (λ (t : Bool). Contains (if t then (sides_at b.lists p).right else []) q)
                away behind))
          ]
        ],
    λ h. elim h [
      | inl behind ↦
          let at_v : starts_at b v p ≡ true = starts_before q behind.1 behind.0 in
          Contains-append_right (sides_at b.lists p).left (if starts_at b v p then (sides_at b.lists p).right else []) q
          (subst (λ (t : Bool). Contains (if t then (sides_at b.lists p).right else []) q) (sym at_v)
          ((was.extensions.right p q).1 behind.1))
      | inr in_front ↦ Contains-append_left (sides_at b.lists p).left
          (if starts_at b v p then (sides_at b.lists p).right else []) q ((was.extensions.left p q).1 in_front.1)
    ],
  )
    where
      with_left : (q : ℕ) → left_of b.arena q ≡ Some p → Ends b.arena q
          × (list_of b.arena p ≡ left_part (list_of b.arena q))
      with_left q left =
          let e : Ends b.arena q = ends b.arena q was.arena (ap is_some left) in
          let same : e.left ≡ p = (let two : Some e.left ≡ Some p = sym e.left_is ∙ left in cc) in
          (e, ap (list_of b.arena) (sym same) ∙ e.left_list)

      starts_on : (q : ℕ) → left_of b.arena q ≡ Some p → starts_at b v p ≡ true → starts_at b v q ≡ true
      starts_on q left at_v =
          let w = with_left q left in
          let same : first (list_of b.arena p) ≡ first (list_of b.arena q) =
          ap first w.1 ∙ first_of_left (list_of b.arena q) w.0.long in
          begins_from (list_of b.arena q) v (sym same ∙ begins_true (list_of b.arena p) v at_v)

      starts_before : (q : ℕ) → left_of b.arena q ≡ Some p → starts_at b v q ≡ true → starts_at b v p ≡ true
      starts_before q left at_v =
          let w = with_left q left in
          let same : first (list_of b.arena p) ≡ first (list_of b.arena q) =
          ap first w.1 ∙ first_of_left (list_of b.arena q) w.0.long in
          begins_from (list_of b.arena p) v (same ∙ begins_true (list_of b.arena q) v at_v)

      in_front_starts_not : right_of b.arena q ≡ Some p → starts_at b v q ≡ false
      in_front_starts_not right = elim (cases_Bool (starts_at b v q)) [
        | inl at_v ↦
            let edge : HasAnEdge b.arena q = edge_of_right b.arena was.arena q p right in
            let e : Ends b.arena q = ends b.arena q was.arena edge in
            let same : e.right ≡ p = (let two : Some e.right ≡ Some p = sym e.right_is ∙ right in cc) in
            let list : list_of b.arena p ≡ right_part (list_of b.arena q) =
            ap (list_of b.arena) (sym same) ∙ e.right_list in
            absurd (first_alone (list_of b.arena q) v (simple_list q (live_from_edge b.arena q was.arena edge))
            (subst (λ xs. Contains xs v) list passes.1) (begins_true (list_of b.arena q) v at_v))
        | inr away ↦ away
      ]

  -- a child is a path through v, with one edge more
  pub record ChildFacts (v p q : ℕ) : Type 0 where
    pub through : IsThrough b v q
    pub hops : hops_at b q ≡ hops_at b p + 1

  pub child_facts : (v p q : ℕ) → PassesThrough b v p → IsExtensionFrom b v p q → ChildFacts v p q
  child_facts v p q passes h = elim h [
    | inl behind ↦
        let edge : HasAnEdge b.arena q = ap is_some behind.1 in
        let e : Ends b.arena q = ends b.arena q was.arena edge in
        let same : e.left ≡ p = (let two : Some e.left ≡ Some p = sym e.left_is ∙ behind.1 in cc) in
        let long : 1 < length (list_of b.arena q) = e.long in
        record {
          through = (edge, first_in (list_of b.arena q) v (begins_true (list_of b.arena q) v behind.0));
          hops = hops_left b.arena q e ∙ ap (λ j. hops_at b j + 1) same;
        }
    | inr in_front ↦
        let edge : HasAnEdge b.arena q = edge_of_right b.arena was.arena q p in_front.1 in
        let e : Ends b.arena q = ends b.arena q was.arena edge in
        let same : e.right ≡ p = (let two : Some e.right ≡ Some p = sym e.right_is ∙ in_front.1 in cc) in
        let list : list_of b.arena p ≡ right_part (list_of b.arena q) =
        ap (list_of b.arena) (sym same) ∙ e.right_list in
        record {
          through = (edge, in_right (list_of b.arena q) v (subst (λ xs. Contains xs v) list passes.1));
          hops = hops_right b.arena q e ∙ ap (λ j. hops_at b j + 1) same;
        }
  ]

  -- the parent of a path through v passes v
  pub record ParentOf (v q : ℕ) : Type 0 where
    pub parent : ℕ
    pub is : IsExtensionFrom b v parent q
    pub passes : PassesThrough b v parent

  pub parent_of : (v q : ℕ) → IsThrough b v q → ParentOf v q
  parent_of v q through = elim (cases_Bool (starts_at b v q)) [
    | inl at_v ↦ record {
      parent = e.left;
      is = inl (at_v, e.left_is);
      passes = (
        e.left_live,
        subst (λ xs. Contains xs v) (sym e.left_list)
            (first_in (left_part (list_of b.arena q)) v
            (first_of_left (list_of b.arena q) e.long ∙ begins_true (list_of b.arena q) v at_v)),
      );
    }
    | inr away ↦ record {
      parent = e.right;
      is = inr (away, e.right_is);
      passes = (
        e.right_live,
        subst (λ xs. Contains xs v) (sym e.right_list)
            (to_right (list_of b.arena q) v (λ f. false≢true (sym away ∙ begins_from (list_of b.arena q) v f))
            through.1),
      );
    }
  ]
    where
      e : Ends b.arena q
      e = ends b.arena q was.arena through.0

  -- a child has one parent
  pub one_parent : (v p r q : ℕ) → IsExtensionFrom b v p q → IsExtensionFrom b v r q → p ≡ r
  one_parent v p r q (inl h) (inl k) = (let two : Some p ≡ Some r = sym h.1 ∙ k.1 in cc)
  one_parent v p r q (inl h) (inr k) = absurd (false≢true (sym k.0 ∙ h.0))
  one_parent v p r q (inr h) (inl k) = absurd (false≢true (sym h.0 ∙ k.0))
  one_parent v p r q (inr h) (inr k) = (let two : Some p ≡ Some r = sym h.1 ∙ k.1 in cc)

  -- a path that passes v is its single vertex or goes through v with an edge
  pub single_or_through : (v id : ℕ) → PassesThrough b v id → (id ≡ vertex_of b.arena v) ⊎ IsThrough b v id
  single_or_through v id passes = elim (single_or_edge b.arena id was.arena passes.0) [
    | inl one ↦
        let alone : Contains (one.0 ∷ []) v = subst (λ xs. Contains xs v) one.3 passes.1 in
        inl (one.2 ∙ ap (vertex_of b.arena)
        (elim (in_cons v one.0 [] alone) [ inl same ↦ same | inr none ↦ absurd (in_nil v none) ]))
    | inr edge ↦ inr (edge, passes.1)
  ]

  pub single_passes : (v : ℕ) → v < b.arena.vertices → PassesThrough b v (vertex_of b.arena v)
      × (hops_at b (vertex_of b.arena v) ≡ 0)
  single_passes v l =
      let of : list_of b.arena (vertex_of b.arena v) ≡ v ∷ [] =
      ap (λ p. p.list) (path_of_at b.arena (vertex_of b.arena v) (single v) (was.arena.singles v l)) in (
        (
          live_from b.arena (vertex_of b.arena v) (single v) (was.arena.singles v l),
          subst (λ xs. Contains xs v) (sym of)
              (head_in v v [] refl),
        ),
        omega (arith, ap length of),
      )

  pub single_starts : (v : ℕ) → v < b.arena.vertices → starts_at b v (vertex_of b.arena v) ≡ true
  single_starts v l =
      let of : list_of b.arena (vertex_of b.arena v) ≡ v ∷ [] =
      ap (λ p. p.list) (path_of_at b.arena (vertex_of b.arena v) (single v) (was.arena.singles v l)) in
      begins_from (list_of b.arena (vertex_of b.arena v)) v (ap first of)

  pub some_hops : (v id : ℕ) → IsThrough b v id → 1 ≤ hops_at b id
  some_hops v id through =
      let long : 1 < length (list_of b.arena id) = long_of_edge b.arena id was.arena through.0 in omega arith

  -- the two parts of a path differ
  pub ends_apart : (q id : ℕ) → left_of b.arena q ≡ Some id → right_of b.arena q ≡ Some id → ⊥
  ends_apart q id left right =
      let edge : HasAnEdge b.arena q = ap is_some left in
      let e : Ends b.arena q = ends b.arena q was.arena edge in
      let same_left : e.left ≡ id = (let two : Some e.left ≡ Some id = sym e.left_is ∙ left in cc) in
      let same_right : e.right ≡ id = (let two : Some e.right ≡ Some id = sym e.right_is ∙ right in cc) in
      let parts : left_part (list_of b.arena q) ≡ right_part (list_of b.arena q) =
      sym e.left_list ∙ ap (list_of b.arena) (same_left ∙ sym same_right) ∙ e.right_list in
      let long : 1 < length (list_of b.arena q) = e.long in
      ends_differ (list_of b.arena q) (omega arith) (simple_list q (live_from_edge b.arena q was.arena edge)) parts
