-- For tasks.rt: the paths that lie under an edge at v, and the walks from the edges.
use Rattle.std.specs.Prelude.{◌≡◌, ℕ, zero, suc, ◌+◌, ◌-◌, ◌<◌, ◌≤◌, ◌↔◌, ⊤, Bool, true, false, ◌==◌, Some, if◌then◌else◌, List, [], ◌∷◌, ◌++◌, length, take, unwrap_or, slice_index, slice_index_or, Result, Ok, Err, IfOk, refl, Contains}
use Rattle.std.specs.declared.alloc.Global.{Global}
use Rattle.std.specs.declared.vec.Vec.{Vec}
use Rattle.std.proofs.Common.{get_or, sym, ◌∙◌, ap, subst, arith, inl, inr}
use Rattle.std.proofs.lemmas.Bool.{cases_lt, cases_Bool}
use Rattle.std.proofs.lemmas.List.{append-nil, append_assoc, length-append, take_more}
use Rattle.std.proofs.lemmas.List.Elements.{Contains-append_left, Contains-append_right, Contains-append_cases}
use Rattle.apsp_model.specs.declared.TheConstants.{MOST_VERTICES}
use Rattle.apsp_model.specs.Walk.{IsOnceEach, first}
use Rattle.apsp_model.proofs.Members.{in_cons, in_nil, head_in, tail_in, once_append}
use Rattle.path_arena.specs.Arena.{vertex_of, left_of, right_of, list_of, IsLive}
use Rattle.path_arena.proofs.Paths.{live_from_edge}
use Rattle.path_arena.proofs.Puts.{length_most}
use Rattle.path_book.specs.Book.{Book, IsBook}
use Rattle.cleanup_tasks.specs.declared.search.Level.{Level}
use Rattle.path_book.specs.Through.{IsThrough, hops_at, InRisingHops, IsVictims}
use Rattle.cleanup_tasks.specs.Walk.{begins_with, starts_at, AreExtensions}
use Rattle.cleanup_tasks.specs.Under.{parent_at, ancestor, edge_above, IsUnder, AreEdges, paths_of_level, level_at, AreLevels, across, upto}
use Rattle.cleanup_tasks.proofs.Parents.{PassesThrough, IsExtensionFrom, ChildFacts, child_facts, ParentOf, parent_of, single_or_through, single_passes, some_hops}
use Rattle.cleanup_tasks.proofs.Levels.{HasWalked, walk_starts, rising_append, rising_alike, new_parent, new_child, new_starts, new_away, new_once}

-- ---- lists

pub begins_is : (p : List ℕ) (x v : ℕ) → first p ≡ Some x → (x == v) ≡ begins_with p v
begins_is [] x v e = cc
begins_is (y ∷ p) x v e = (let two : Some y ≡ Some x = e in let same : x ≡ y = cc in ap (λ z. z == v) same)

pub if_ok : {A E : Type 0} (P Q : A → Type 0) → ((x : A) → P x → Q x) → (r : Result A E) → IfOk r P → IfOk r Q
if_ok P Q f (Ok x) h = f x h
if_ok P Q f (Err e) h = tt

-- ---- levels

level_old : (ls : List Level) (l : Level) (j : ℕ) → j < length ls → level_at (ls ++ l ∷ []) j ≡ level_at ls j
level_old [] l j inside = absurd (omega (arith, inside))
level_old (k ∷ ls) l zero inside = refl
level_old (k ∷ ls) l (suc j) inside = level_old ls l j (omega (arith, inside))

level_new : (ls : List Level) (l : Level) → level_at (ls ++ l ∷ []) (length ls) ≡ paths_of_level l
level_new [] l = refl
level_new (k ∷ ls) l = level_new ls l

pub level_none : (ls : List Level) (j : ℕ) → length ls ≤ j → level_at ls j ≡ []
level_none [] j behind = refl
level_none (k ∷ ls) zero behind = absurd (omega (arith, behind))
level_none (k ∷ ls) (suc j) behind = level_none ls j (omega (arith, behind))

no_paths : (l : Level) → l.starting.items ≡ [] → l.passing.items ≡ [] → paths_of_level l ≡ []
no_paths l none_starts none_passes = λ i. none_starts i ++ none_passes i

-- the levels before one, of the walk from an edge, and that one
pub record IsWalking (b : Book) (v edge : ℕ) (levels : List Level) (l : Level) : Type 0 where
  pub found : (j id : ℕ) → j < length levels → Contains (level_at levels j) id ↔ IsUnder b v edge j id
  pub once : (j : ℕ) → j < length levels → IsOnceEach (level_at levels j)
  pub here : (id : ℕ) → Contains (paths_of_level l) id ↔ IsUnder b v edge (length levels) id
  pub here_once : IsOnceEach (paths_of_level l)
  pub starts : (id : ℕ) → Contains l.starting.items id → starts_at b v id ≡ true
  pub away : (id : ℕ) → Contains l.passing.items id → starts_at b v id ≡ false

module _ (b : Book) (was : IsBook b) (v : ℕ) (inside : v < b.arena.vertices) where
  passes_of : (id : ℕ) → IsThrough b v id → PassesThrough b v id
  passes_of id h = (live_from_edge b.arena id was.arena h.0, h.1)

  -- ---- the edge that a path lies under

  parent_is : (p q : ℕ) → IsExtensionFrom b v p q → parent_at b v q ≡ p
  parent_is p q (inl h) =
      ap (λ (t : Bool). unwrap_or (if t then left_of b.arena q else right_of b.arena q) 0) h.0
      ∙ ap (λ o. unwrap_or o 0) h.1
  parent_is p q (inr h) =
      ap (λ (t : Bool). unwrap_or (if t then left_of b.arena q else right_of b.arena q) 0) h.0
      ∙ ap (λ o. unwrap_or o 0) h.1

  child_edge : (p q : ℕ) → IsThrough b v p → IsExtensionFrom b v p q → edge_above b v q ≡ edge_above b v p
  child_edge p q through child =
      let f : ChildFacts b was v p q = child_facts b was v p q (passes_of p through) child in
      let some : 1 ≤ hops_at b p = some_hops b was v p through in
      let count : hops_at b q - 1 ≡ suc (hops_at b p - 1) = omega (arith, f.hops, some) in
      ap (λ n. ancestor b v n q) count ∙ ap (ancestor b v (hops_at b p - 1)) (parent_is p q child)

  edge_alone : (q : ℕ) → hops_at b q ≡ 1 → edge_above b v q ≡ q
  edge_alone q one = (let count : hops_at b q - 1 ≡ zero = omega (arith, one) in ap (λ n. ancestor b v n q) count)

  root_hops : (p q : ℕ) → PassesThrough b v p → IsExtensionFrom b v p q → p ≡ vertex_of b.arena v → hops_at b q ≡ 1
  root_hops p q passes child single =
      let f : ChildFacts b was v p q = child_facts b was v p q passes child in
      omega (arith, f.hops, ap (hops_at b) single, (single_passes b was v inside).1)

  pub comes_to : (most q : ℕ) → hops_at b q ≤ most → IsThrough b v q → IsThrough b v (edge_above b v q)
      × (hops_at b (edge_above b v q) ≡ 1)
  comes_to zero q few h = absurd (let some : 1 ≤ hops_at b q = some_hops b was v q h in omega (arith, few, some))
  comes_to (suc most) q few h =
      let p : ParentOf b was v q = parent_of b was v q h in
      let f : ChildFacts b was v p.parent q = child_facts b was v p.parent q p.passes p.is in
      elim (single_or_through b was v p.parent p.passes) [
        | inl single ↦
            let one : hops_at b q ≡ 1 = root_hops p.parent q p.passes p.is single in
            subst (λ e. IsThrough b v e × (hops_at b e ≡ 1)) (sym (edge_alone q one)) (h, one)
        | inr through ↦ subst (λ e. IsThrough b v e × (hops_at b e ≡ 1)) (sym (child_edge p.parent q through p.is))
            (comes_to most p.parent (omega (arith, few, f.hops)) through)
      ]

  -- ---- the edges at v

  pub edges_are : (id : ℕ) (behind in_front ids : List ℕ) → id ≡ vertex_of b.arena v
      → AreExtensions b (id ∷ []) [] behind in_front → ids ≡ [] ++ (behind ++ in_front) → AreEdges b v ids
  unfolding walk_starts
  edges_are id behind in_front ids at longer are = record {
    lawful = was;
    inside = inside;
    exact = λ q. (
      λ c. (let d : Contains (behind ++ in_front) q = subst (λ xs. Contains xs q) are c in
          (w.walked.sound q d, w.walked.hops q d)),
      λ h. (
          let p : ParentOf b was v q = parent_of b was v q h.0 in
          let f : ChildFacts b was v p.parent q = child_facts b was v p.parent q p.passes p.is in
          elim (single_or_through b was v p.parent p.passes) [
            | inl single ↦ subst (λ xs. Contains xs q) (sym are) (w.walked.to q p.parent p.is (inl single))
            | inr through ↦ absurd (let some : 1 ≤ hops_at b p.parent = some_hops b was v p.parent through in
                omega (arith, some, f.hops, h.1))
          ]),
    );
    once = subst IsOnceEach (sym are) w.walked.once;
  }
    where
      w : HasWalked b v behind in_front ids
      w = walk_starts b was v inside id behind in_front ids at longer are

  -- ---- the walk from an edge

  module _ (edge : ℕ) where
    pub from_starts : (l : Level) (levels : List Level) (s : Bool) → IsThrough b v edge → hops_at b edge ≡ 1
        → levels ≡ [] → s ≡ starts_at b v edge → paths_of_level l ≡ edge ∷ [] → (s ≡ false → l.starting.items ≡ [])
        → (s ≡ true → l.passing.items ≡ []) → IsWalking b v edge levels l
    from_starts l levels s through one none at are no_starting no_passing =
        subst (λ ls. IsWalking b v edge ls l) (sym none) (record {
          found = λ j id few. absurd (omega (arith, few));
          once = λ j few. absurd (omega (arith, few));
          here = λ id. (
            λ c. subst (IsUnder b v edge 0) (is id c) (through, one, edge_alone edge one),
            λ u. subst
                (λ xs. Contains xs id) (sym are) (head_in id edge [] (sym u.2 ∙ edge_alone id u.1)),
          );
          here_once = subst IsOnceEach (sym are) (in_nil edge, tt);
          starts = λ id c. elim (cases_Bool s) [
            | inl at_v ↦ ap (starts_at b v) (sym (is id (Contains-append_left l.starting.items l.passing.items id c)))
                ∙ sym at ∙ at_v
            | inr away_v ↦ absurd (in_nil id (subst (λ xs. Contains xs id) (no_starting away_v) c))
          ];
          away = λ id c. elim (cases_Bool s) [
            | inl at_v ↦ absurd (in_nil id (subst (λ xs. Contains xs id) (no_passing at_v) c))
            | inr away_v ↦ ap (starts_at b v)
                (sym (is id (Contains-append_right l.starting.items l.passing.items id c)))
                ∙ sym at ∙ away_v
          ];
        })
      where
        is : (id : ℕ) → Contains (paths_of_level l) id → edge ≡ id
        is id c =
            elim (in_cons id edge [] (subst (λ xs. Contains xs id) are c))
            [ inl same ↦ same | inr none_more ↦ absurd (in_nil id none_more) ]

    -- a path under the edge with more edges has its parent there
    under_parent : (j q : ℕ) → IsUnder b v edge (j + 1) q → (p : ℕ) × IsUnder b v edge j p × IsExtensionFrom b v p q
    under_parent j q u =
        let p : ParentOf b was v q = parent_of b was v q u.0 in
        let f : ChildFacts b was v p.parent q = child_facts b was v p.parent q p.passes p.is in
        elim (single_or_through b was v p.parent p.passes) [
          | inl single ↦ absurd (let one : hops_at b q ≡ 1 = root_hops p.parent q p.passes p.is single in
              omega (arith, one, u.1))
          | inr through ↦ (
            p.parent,
            (
              through,
              omega (arith, f.hops, u.1),
              sym (child_edge p.parent q through p.is)
                  ∙ u.2,
            ),
            p.is,
          )
        ]

    under_child : (j p q : ℕ) → IsUnder b v edge j p → IsExtensionFrom b v p q → IsUnder b v edge (j + 1) q
    under_child j p q u child =
        let f : ChildFacts b was v p q = child_facts b was v p q (passes_of p u.0) child in
        (f.through, omega (arith, f.hops, u.1), child_edge p q u.0 child ∙ u.2)

    module _ (levels : List Level) (l : Level) (w : IsWalking b v edge levels l) where
      level_passes : (p : ℕ) → Contains (paths_of_level l) p → PassesThrough b v p
      level_passes p c = passes_of p ((w.here p).0 c).0

      pub from_live : (p : ℕ) → Contains (paths_of_level l) p → IsLive b.arena p
      from_live p c = (level_passes p c).0

      pub from_goes_on : (n : Level) (more : List Level)
          → AreExtensions b l.starting.items l.passing.items n.starting.items n.passing.items → more ≡ levels ++ l ∷ []
          → IsWalking b v edge more n
      from_goes_on n more longer are = subst (λ ls. IsWalking b v edge ls n) (sym are) (record {
        found = λ j id few. elim (cases_lt j (length levels)) [
          | inl old ↦ subst (λ xs. Contains xs id ↔ IsUnder b v edge j id) (sym (level_old levels l j old))
              (w.found j id old)
          | inr new ↦ subst (λ i. Contains (level_at (levels ++ l ∷ []) i) id ↔ IsUnder b v edge i id) (last j few new)
              (subst (λ xs. Contains xs id ↔ IsUnder b v edge (length levels) id) (sym (level_new levels l))
              (w.here id))
        ];
        once = λ j few. elim (cases_lt j (length levels)) [
          | inl old ↦ subst IsOnceEach (sym (level_old levels l j old)) (w.once j old)
          | inr new ↦ subst (λ i. IsOnceEach (level_at (levels ++ l ∷ []) i)) (last j few new)
              (subst IsOnceEach (sym (level_new levels l)) w.here_once)
        ];
        here = λ id. subst (λ i. Contains (paths_of_level n) id ↔ IsUnder b v edge i id) (sym count) (
          λ c. (let k = parent id c in under_child (length levels) k.0 id ((w.here k.0).0 k.1) k.2),
          λ u. (let k = under_parent (length levels) id u in child k.0 id ((w.here k.0).1 k.1) k.2),
        );
        here_once =
            new_once b was v l.starting.items l.passing.items n.starting.items n.passing.items longer level_passes
            w.starts w.away w.here_once;
        starts = new_starts b was v l.starting.items l.passing.items n.starting.items n.passing.items longer
            level_passes w.starts w.away w.here_once;
        away = new_away b was v l.starting.items l.passing.items n.starting.items n.passing.items longer level_passes
            w.starts w.away w.here_once;
      })
        where
          count : length (levels ++ l ∷ []) ≡ length levels + 1
          count = length-append levels (l ∷ [])

          last : (j : ℕ) → j < length (levels ++ l ∷ []) → length levels ≤ j → length levels ≡ j
          last j few new = omega (arith, few, new, count)

          parent : (q : ℕ) → Contains (paths_of_level n) q → (p : ℕ) × Contains (paths_of_level l) p
              × IsExtensionFrom b v p q
          parent = new_parent b was v l.starting.items l.passing.items n.starting.items n.passing.items longer
              level_passes w.starts w.away w.here_once

          child : (p q : ℕ) → Contains (paths_of_level l) p → IsExtensionFrom b v p q → Contains (paths_of_level n) q
          child = new_child b was v l.starting.items l.passing.items n.starting.items n.passing.items longer
              level_passes w.starts w.away w.here_once

      -- a path of the level has more edges than there are levels before it
      pub from_most : 1 ≤ length l.starting.items + length l.passing.items → length levels + 1 < MOST_VERTICES
      from_most some =
          let k : (q : ℕ) × Contains (paths_of_level l) q =
          any (paths_of_level l) (omega (arith, some, length-append l.starting.items l.passing.items)) in
          let u : IsUnder b v edge (length levels) k.0 = (w.here k.0).0 k.1 in
          let most : length (list_of b.arena k.0) ≤ MOST_VERTICES =
          length_most b.arena k.0 was.arena (from_live k.0 k.1) in
          let hops : hops_at b k.0 ≡ length levels + 1 = u.1 in
          omega (arith, most, hops)
        where
          any : (xs : List ℕ) → 1 ≤ length xs → (q : ℕ) × Contains xs q
          any [] few = absurd (omega (arith, few))
          any (x ∷ xs) few = (x, head_in x x xs refl)

      pub from_ends : l.starting.items ≡ [] → l.passing.items ≡ [] → AreLevels b v edge levels
      from_ends none_starts none_passes = record {
        exact = λ j id. elim (cases_lt j (length levels)) [
          | inl old ↦ w.found j id old
          | inr behind ↦ (
            λ c. absurd (in_nil id (subst (λ xs. Contains xs id) (level_none levels j behind) c)),
            λ u. absurd (none (j - length levels) j id (omega (arith, behind)) u),
          )
        ];
        once = λ j. elim (cases_lt j (length levels))
            [ inl old ↦ w.once j old | inr behind ↦ subst IsOnceEach (sym (level_none levels j behind)) tt ];
      }
        where
          none : (d j id : ℕ) → j ≡ length levels + d → IsUnder b v edge j id → ⊥
          none zero j id at u =
              let here : j ≡ length levels = omega (arith, at) in
              in_nil id (subst (λ xs. Contains xs id) (no_paths l none_starts none_passes)
              ((w.here id).1 (subst (λ i. IsUnder b v edge i id) here u)))
          none (suc d) j id at u =
              let up : j ≡ length levels + d + 1 = omega (arith, at) in
              let k = under_parent (length levels + d) id (subst (λ i. IsUnder b v edge i id) up u) in
              none d (length levels + d) k.0 refl k.1

  -- ---- the walks from all edges

  abbrev AreWalks : List ℕ → List (Vec Level Global) → Type 0
  AreWalks [] [] = ⊤
  AreWalks [] (w ∷ ws) = ⊥
  AreWalks (e ∷ es) [] = ⊥
  AreWalks (e ∷ es) (w ∷ ws) = AreLevels b v e w.items × AreWalks es ws

  are_walks : (es : List ℕ) (ws : List (Vec Level Global)) → length ws ≡ length es
      → ((k : ℕ) (d : Vec Level Global) → k < length es
      → AreLevels b v (slice_index es k) (slice_index_or ws k d).items) → AreWalks es ws
  are_walks [] [] same each = tt
  are_walks [] (w ∷ ws) same each = (let k : ⊥ = omega (arith, same) in k)
  are_walks (e ∷ es) [] same each = (let k : ⊥ = omega (arith, same) in k)
  are_walks (e ∷ es) (w ∷ ws) same each = (
    each 0 w (omega arith),
    are_walks es ws (omega (arith, same))
        (λ k d inside. each (suc k) d (omega (arith, inside))),
  )

  across_in : (es : List ℕ) (ws : List (Vec Level Global)) → AreWalks es ws → (j id : ℕ) → Contains (across j ws) id
      → IsThrough b v id × (hops_at b id ≡ j + 1) × Contains es (edge_above b v id)
  across_in [] [] are j id c = absurd (in_nil id c)
  across_in [] (w ∷ ws) are j id c = absurd are
  across_in (e ∷ es) [] are j id c = absurd are
  across_in (e ∷ es) (w ∷ ws) are j id c = elim (Contains-append_cases (level_at w.items j) (across j ws) id c) [
    | inl here ↦ (let u = (are.0.exact j id).0 here in (u.0, u.1, head_in (edge_above b v id) e es (sym u.2)))
    | inr more ↦ (let u = across_in es ws are.1 j id more in (u.0, u.1, tail_in (edge_above b v id) e es u.2))
  ]

  across_has : (es : List ℕ) (ws : List (Vec Level Global)) → AreWalks es ws → (j id : ℕ) → IsThrough b v id
      → hops_at b id ≡ j + 1 → Contains es (edge_above b v id) → Contains (across j ws) id
  across_has [] [] are j id through hops c = absurd (in_nil (edge_above b v id) c)
  across_has [] (w ∷ ws) are j id through hops c = absurd are
  across_has (e ∷ es) [] are j id through hops c = absurd are
  across_has (e ∷ es) (w ∷ ws) are j id through hops c = elim (in_cons (edge_above b v id) e es c) [
    | inl same ↦ Contains-append_left (level_at w.items j) (across j ws) id
        ((are.0.exact j id).1 (through, hops, sym same))
    | inr more ↦ Contains-append_right (level_at w.items j) (across j ws) id
        (across_has es ws are.1 j id through hops more)
  ]

  across_once : (es : List ℕ) (ws : List (Vec Level Global)) → AreWalks es ws → IsOnceEach es → (j : ℕ)
      → IsOnceEach (across j ws)
  across_once [] [] are once j = tt
  across_once [] (w ∷ ws) are once j = absurd are
  across_once (e ∷ es) [] are once j = absurd are
  across_once (e ∷ es) (w ∷ ws) are once j =
      once_append (level_at w.items j) (across j ws) (are.0.once j) (across_once es ws are.1 once.1 j) (λ q here more. (
      let u = (are.0.exact j q).0 here in
      let k = across_in es ws are.1 j q more in
      once.0 (subst (Contains es) u.2 k.2)
      ))

  module _ (es : List ℕ) (edges : AreEdges b v es) (ws : List (Vec Level Global)) (are : AreWalks es ws) where
    upto_in : (n id : ℕ) → Contains (upto n ws) id → IsThrough b v id × (hops_at b id ≤ n)
    upto_in zero id c = absurd (in_nil id c)
    upto_in (suc n) id c = elim (Contains-append_cases (upto n ws) (across n ws) id c) [
      | inl old ↦ (let k = upto_in n id old in (k.0, omega (arith, k.1)))
      | inr new ↦ (let k = across_in es ws are n id new in (k.0, omega (arith, k.1)))
    ]

    upto_has : (n id : ℕ) → IsThrough b v id → hops_at b id ≤ n → Contains (upto n ws) id
    upto_has zero id through few =
        absurd (let some : 1 ≤ hops_at b id = some_hops b was v id through in omega (arith, few, some))
    upto_has (suc n) id through few = elim (cases_lt n (hops_at b id)) [
      | inl last ↦ Contains-append_right (upto n ws) (across n ws) id
          (across_has es ws are n id through (omega (arith, few, last))
          ((edges.exact (edge_above b v id)).1 (comes_to (hops_at b id) id (omega arith) through)))
      | inr less ↦ Contains-append_left (upto n ws) (across n ws) id (upto_has n id through less)
    ]

    upto_once : (n : ℕ) → IsOnceEach (upto n ws)
    upto_once zero = tt
    upto_once (suc n) =
        once_append (upto n ws) (across n ws) (upto_once n) (across_once es ws are edges.once n)
        (λ q old new. (let k = upto_in n q old in let u = across_in es ws are n q new in omega (arith, k.1, u.1)))

    upto_rising : (n : ℕ) → InRisingHops b (upto n ws)
    upto_rising zero = tt
    upto_rising (suc n) =
        rising_append b (upto n ws) (across n ws) (upto_rising n)
        (rising_alike b (across n ws) (n + 1) (λ q new. (across_in es ws are n q new).1))
        (λ x y old new. (let k = upto_in n x old in let u = across_in es ws are n y new in omega (arith, k.1, u.1)))

    upto_all : IsVictims b v (upto MOST_VERTICES ws)
    upto_all = record {
      exact = λ q. (
        λ c. (upto_in MOST_VERTICES q c).0,
        λ h. (
            let most : length (list_of b.arena q) ≤ MOST_VERTICES =
            length_most b.arena q was.arena (live_from_edge b.arena q was.arena h.0) in
            upto_has MOST_VERTICES q h (omega (arith, most))),
      );
      once = upto_once MOST_VERTICES;
      rising = upto_rising MOST_VERTICES;
    }

pub walks_find_all : (b : Book) (v : ℕ) (es : List ℕ) (edges : AreEdges b v es) (ws : List (Vec Level Global))
    → length ws ≡ length es → ((k : ℕ) (d : Vec Level Global) → k < length es
    → AreLevels b v (slice_index es k) (slice_index_or ws k d).items) → (ids : List ℕ) → ids ≡ upto MOST_VERTICES ws
    → IsVictims b v ids
walks_find_all b v es edges ws same each ids are =
    subst (IsVictims b v) (sym are) (upto_all b edges.lawful v edges.inside es edges ws
    (are_walks b edges.lawful v edges.inside es ws same each))

-- ---- the loop over levels

walks_push : {A : Type 0} (xs : List A) (i : ℕ) (x : A) → i < length xs → x ≡ get_or xs i x
    → take (i + 1) xs ≡ take i xs ++ x ∷ []
walks_push xs i x inside at = take_more xs i x inside ∙ ap (λ y. take i xs ++ y ∷ []) (sym at)

across_append : (j : ℕ) (xs ys : List (Vec Level Global)) → across j (xs ++ ys) ≡ across j xs ++ across j ys
across_append j [] ys = refl
across_append j (x ∷ xs) ys =
    ap (λ l. level_at x.items j ++ l) (across_append j xs ys)
    ∙ sym (append_assoc (level_at x.items j) (across j xs) (across j ys))

pub across_more : (j : ℕ) (ws : List (Vec Level Global)) (i : ℕ) (w : Vec Level Global) → i < length ws
    → w ≡ get_or ws i w → across j (take i ws) ++ level_at w.items j ≡ across j (take (i + 1) ws)
across_more j ws i w inside at =
    sym (ap (across j) (walks_push ws i w inside at) ∙ across_append j (take i ws) (w ∷ [])
    ∙ ap (λ l. across j (take i ws) ++ l) (append-nil (level_at w.items j)))

pub level_is : (ls : List Level) (j : ℕ) (d : Level) → j < length ls → level_at ls j ≡ paths_of_level (get_or ls j d)
level_is [] j d inside = absurd (omega (arith, inside))
level_is (l ∷ ls) zero d inside = refl
level_is (l ∷ ls) (suc j) d inside = level_is ls j d (omega (arith, inside))
