-- A path is formed of its two parts: for `form`.
use Rattle.std.specs.Prelude.{◌≡◌, ◌≢◌, ℕ, ◌+◌, ◌-◌, ◌<◌, ◌≤◌, false, List, [], ◌∷◌, ◌++◌, length, Some, None, unwrap_or, option_to_list, refl}
use Rattle.std.specs.FinSet as set
use Rattle.std.proofs.Common.{sym, ◌∙◌, ap, subst, arith, inl, inr}
use Rattle.std.proofs.lemmas.Bool.{cases_Bool}
use Rattle.std.proofs.lemmas.List.{length-append}
use Rattle.apsp_model.specs.Graph.{Graph, HasEdge, edge_weight, weight_at}
use Rattle.apsp_model.specs.Walk.{IsWalk, IsSimple, weight_of, first, last}
use Rattle.apsp_model.specs.Part.{left_part, right_part}
use Rattle.apsp_model.proofs.Joins.{IsOverlap, joined, weight-joined, right-left}
use Rattle.apsp_model.proofs.Lists.{left_and_last, length_right, first_of_left}
use Rattle.apsp_model.proofs.Members.{head_in}
use Rattle.apsp_model.proofs.Walks.{last_is, last_of_tail}
use Rattle.path_arena.specs.Arena.{Path, path_at, path_of, list_of, left_of, right_of, overlap_of, IsLive, HasAnEdge, CanJoin, edge_path, joined_path}
use Rattle.path_arena.proofs.Paths.{live_apart}
use Rattle.path_book.specs.Book.{Book, IsBook, IsNewList, kept_path, with_kept}
use Rattle.path_book.proofs.Changes.{kept_formed, new_kept}
use Rattle.path_book.proofs.Ends.{Ends, ends}
use Rattle.path_book.proofs.Kept.{live_is_kept}
use Rattle.path_book.proofs.Readers.{edge_of_long, simple_turn}
use Rattle.path_arena.proofs.Keys.{get_put_other}
use Rattle.local_engine.specs.Forming.{CanBeFormed, IsFormedOf}

same_some : (x y : ℕ) → Some x ≡ Some y → x ≡ y
same_some x y e = cc

-- a list and its last vertex
whole_by_last : (r : List ℕ) (u : ℕ) → last r ≡ Some u → r ≡ left_part r ++ u ∷ []
whole_by_last [] u e = cc
whole_by_last (x ∷ []) u e = let same : x ≡ u = cc in ap (λ v. v ∷ []) same
whole_by_last (x ∷ y ∷ r) u e = ap (λ s. x ∷ s) (whole_by_last (y ∷ r) u e)

-- ---- one path more

pub formed_of : (g : Graph) (birth : ℕ) (h : List ℕ) (b new : Book) (id : ℕ) (p : Path) → IsBook b
    → path_at b.arena id ≡ None → new ≡ with_kept b id p → p.list ≡ h → p.weight ≡ weight_of g h → p.birth ≡ birth
    → IsFormedOf g birth h b new
formed_of g birth h b new id p was fresh is list weight born = subst (IsFormedOf g birth h b) (sym is) (record {
  vertices = refl;
  kept = λ k. (
    λ c. elim ((kept_formed b id p not_live unmarked k).0 c) [ inl old ↦ inl old | inr now ↦ inr (now ∙ as_said) ],
    λ c. (kept_formed b id p not_live unmarked k).1 (elim c [ inl old ↦ inl old | inr now ↦ inr (now ∙ sym as_said) ]),
  );
  still = λ k live. get_put_other b.arena.paths id p k (live_apart b.arena id k fresh live);
})
  where
    not_live : IsLive b.arena id → ⊥
    not_live live = live_apart b.arena id id fresh live refl

    unmarked : set.contains b.marked id ≡ false
    unmarked = elim (cases_Bool (set.contains b.marked id)) [
      | inl yes_it ↦
          absurd (not_live (was.marked_live id yes_it))
      | inr no_it ↦ no_it
    ]

    as_said : new_kept p ≡ record { list = h; weight = weight_of g h; historical = false; birth = birth }
    as_said = λ i. record { list = list i; weight = weight i; historical = false; birth = born i }

-- ---- the list of the two parts

module _ (g : Graph) (b : Book) (l r : ℕ) (h : List ℕ) (c : CanBeFormed g b l r h) (was : IsBook b) where
  live_l : IsLive b.arena l
  live_l = was.marked_live l c.left_marked

  live_r : IsLive b.arena r
  live_r = was.marked_live r c.right_marked

  pub left_is_live : IsLive b.arena l
  left_is_live = live_l

  pub right_is_live : IsLive b.arena r
  right_is_live = live_r

  length_l : length (list_of b.arena l) + 1 ≡ length h
  length_l =
      let long : 1 < length h = c.long in
      let w = left_and_last h (omega arith) in
      omega (arith, ap length w.1, length-append (left_part h) (w.0 ∷ []), ap length c.left_list)

  length_r : length (list_of b.arena r) + 1 ≡ length h
  length_r = let long : 1 < length h = c.long in omega (arith, length_right h (omega arith), ap length c.right_list)

  last_r : last (list_of b.arena r) ≡ last h
  last_r = ap last c.right_list ∙ tail_last h c.long
    where
      tail_last : (p : List ℕ) → 1 < length p → last (right_part p) ≡ last p
      tail_last [] long = absurd (omega arith)
      tail_last (x ∷ p) long = sym (last_of_tail x p (omega arith))

  first_l : first (list_of b.arena l) ≡ first h
  first_l = ap first c.left_list ∙ first_of_left h c.long

  turned : (p : List ℕ) → 1 < length p → IsSimple p → first p ≡ last p → ⊥
  turned p long simple same =
      let y = last_is p (omega arith) in
      let one : p ≡ y.0 ∷ [] = simple_turn y.0 p simple (same ∙ y.1) y.1 in
      omega (arith, ap length one)

  pub ends_differ_here : first (list_of b.arena l) ≡ last (list_of b.arena r) → ⊥
  ends_differ_here same = turned h c.long c.simple (sym first_l ∙ same ∙ last_r)

  pub list_is : list_of b.arena l ++ option_to_list (last (list_of b.arena r)) ≡ h
  list_is =
      let long : 1 < length h = c.long in
      let y = last_is h (omega arith) in
      (λ i. c.left_list i ++ option_to_list ((last_r ∙ y.1) i)) ∙ sym (whole_by_last h y.0 y.1)

  -- ---- three or more vertices

  module _ (long : 1 < length (list_of b.arena l)) where
    edge_l : HasAnEdge b.arena l
    edge_l = edge_of_long b.arena l was.arena live_l long

    edge_r : HasAnEdge b.arena r
    edge_r = edge_of_long b.arena r was.arena live_r (omega (arith, long, length_l, length_r))

    meets : right_of b.arena l ≡ left_of b.arena r
    meets =
        let e : Ends b.arena l = ends b.arena l was.arena edge_l in
        let d : Ends b.arena r = ends b.arena r was.arena edge_r in
        let lists : list_of b.arena e.right ≡ list_of b.arena d.left = e.right_list ∙ ap right_part c.left_list
        ∙ right-left h ∙ ap left_part (sym c.right_list) ∙ sym d.left_list in
        e.right_is ∙ ap Some (was.once e.right d.left e.right_live d.left_live lists) ∙ sym d.left_is

    pub can_join : CanJoin b.arena l r
    can_join = record { left_live = edge_l; right_live = edge_r; meets = meets; apart = ends_differ_here }

    weight_at_id : (k : ℕ) → IsLive b.arena k → (path_of b.arena k).weight ≡ weight_of g (list_of b.arena k)
    weight_at_id k live = c.weights (kept_path b k (path_of b.arena k)) (live_is_kept b k live)

    walk_r : IsWalk g (list_of b.arena r)
    walk_r = subst (IsWalk g) (sym c.right_list) (of_tail h c.long c.walk)
      where
        of_tail : (p : List ℕ) → 1 < length p → IsWalk g p → IsWalk g (right_part p)
        of_tail [] n w = absurd w
        of_tail (x ∷ []) n w = absurd (omega arith)
        of_tail (x ∷ y ∷ p) n w = w.2

    pub join_weight : (birth : ℕ) → (joined_path b.arena l r birth).weight ≡ weight_of g h
    join_weight birth =
        let some : 1 < length h = c.long in
        let y = last_is h (omega arith) in
        let e : Ends b.arena l = ends b.arena l was.arena edge_l in
        let d : Ends b.arena r = ends b.arena r was.arena edge_r in
        let o : IsOverlap (list_of b.arena l) (list_of b.arena r) y.0 =
        record {
          some = long;
          overlap = ap right_part c.left_list ∙ right-left h
              ∙ ap left_part (sym c.right_list);
          ends = last_r ∙ y.1;
        } in
        let over : overlap_of b.arena l ≡ e.right = ap (λ k. unwrap_or k 0) e.right_is in
        let wl : (path_of b.arena l).weight ≡ weight_of g (list_of b.arena l) = weight_at_id l live_l in
        let wr : (path_of b.arena r).weight ≡ weight_of g (list_of b.arena r) = weight_at_id r live_r in
        let wo : (path_of b.arena (overlap_of b.arena l)).weight ≡ weight_of g (right_part (list_of b.arena l)) =
        ap (λ k. (path_of b.arena k).weight) over ∙ weight_at_id e.right e.right_live
        ∙ ap (weight_of g) e.right_list in
        let sum : weight_of g (joined (list_of b.arena l) y.0) + weight_of g (right_part (list_of b.arena l)) ≡
        weight_of g (list_of b.arena l) + weight_of g (list_of b.arena r) =
        weight-joined g (list_of b.arena l) (list_of b.arena r) y.0 o walk_r in
        let whole : weight_of g (joined (list_of b.arena l) y.0) ≡ weight_of g h =
        ap (weight_of g) (ap (λ q. q ++ y.0 ∷ []) c.left_list ∙ sym (whole_by_last h y.0 y.1)) in
        let here : (joined_path b.arena l r birth).weight ≡ (path_of b.arena l).weight + (path_of b.arena r).weight -
        (path_of b.arena (overlap_of b.arena l)).weight = refl in
        omega (arith, wl, wr, wo, sum, whole, here)

    pub join_formed : (birth id : ℕ) (new : Book) → path_at b.arena id ≡ None
        → new ≡ with_kept b id (joined_path b.arena l r birth) → IsFormedOf g birth h b new
    join_formed birth id new fresh is =
        formed_of g birth h b new id (joined_path b.arena l r birth) was fresh is list_is (join_weight birth) refl

    pub join_new : (birth : ℕ) → IsNewList b (joined_path b.arena l r birth).list
    join_new birth id live e = c.new id live (e ∙ list_is)

  -- ---- two vertices

  module _ (short : length (list_of b.arena l) ≤ 1) (x y : ℕ) (from : first (list_of b.arena l) ≡ Some x)
      (to : last (list_of b.arena r) ≡ Some y) where
    pub edge_list : h ≡ x ∷ y ∷ []
    edge_list = two h (omega (arith, length_l, c.long)) (sym first_l ∙ from) (sym last_r ∙ to)
      where
        two : (p : List ℕ) → length p ≡ 2 → first p ≡ Some x → last p ≡ Some y → p ≡ x ∷ y ∷ []
        two [] e f t = absurd (omega (arith, e))
        two (u ∷ []) e f t = absurd (omega (arith, e))
        two (u ∷ v ∷ []) e f t = let a : u ≡ x = same_some u x f in let d : v ≡ y = same_some v y t in (λ i. a i ∷ d i ∷ [])
        two (u ∷ v ∷ w ∷ p) e f t = absurd (omega (arith, e))

    edge_walk : IsWalk g (x ∷ y ∷ [])
    edge_walk = subst (IsWalk g) edge_list c.walk

    pub from_inside : x < g.vertices
    from_inside = edge_walk.0

    pub to_inside : y < g.vertices
    to_inside = edge_walk.2

    pub edge_there : HasEdge g x y
    edge_there = edge_walk.1

    pub edge_apart : x ≢ y
    edge_apart same = let simple : IsSimple (x ∷ y ∷ []) = subst IsSimple edge_list c.simple in
        simple.0 (head_in x y [] (sym same))

    pub edge_new : IsNewList b (x ∷ y ∷ [])
    edge_new id live e = c.new id live (e ∙ sym edge_list)

    pub edge_formed : (birth w id : ℕ) (new : Book) → weight_at g x y ≡ Some w → path_at b.arena id ≡ None
        → new ≡ with_kept b id (edge_path b.arena x y w birth) → IsFormedOf g birth h b new
    edge_formed birth w id new weight fresh is =
        formed_of g birth h b new id (edge_path b.arena x y w birth) was fresh is (sym edge_list) (
        let one : edge_weight g x y ≡ w = ap (λ o. unwrap_or o 0) weight in
        let all : weight_of g h ≡ edge_weight g x y + 0 = ap (weight_of g) edge_list in
        omega (arith, one, all)
        ) refl
