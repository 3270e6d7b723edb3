use Rattle.std.proofs.Common.{◌∷◌, [], List, ℕ, get_or, refl, ◌∙◌, ap, inl, inr, arith}
use Rattle.apsp_model.proofs.Members.{in_nil, in_cons, head_in, tail_in}
use Rattle.path_arena.proofs.Paths.{live_added}
use Rattle.path_book.specs.Book.{Book, IsNewList}
use Rattle.path_book.proofs.Changes.{new_at_opening, still_new, formed_pending}
use Rattle.path_book.proofs.Stars.{AreEdges, are_victims, no_edges_yet, edges_marked, new_marked, edge_past, edge_through}
use Rattle.path_book.proofs.tests.triangle.Goals as goal

pub form_edge-requires-clause-new : goal.form_edge-requires-clause-new
form_edge-requires-clause-new c =
    new_at_opening c.in_ok-book.book 3 _ c.in_ok-book.ensures.lawful c.in_ok-book.ensures.opening (omega arith)

pub promote-requires-clause-live : goal.promote-requires-clause-live
promote-requires-clause-live c = live_added _ _ _ _ (ap (λ (b : Book). b.arena) c.in_ok-out.ensures.formed)

pub promote-requires-clause-pending : goal.promote-requires-clause-pending
promote-requires-clause-pending c =
    formed_pending _ _ c.in_ok-out.out _ c.in_ok-book.ensures.lawful c.in_ok-out.ensures.fresh
    c.in_ok-out.ensures.formed

pub form_edge-requires-2-clause-from : goal.form_edge-requires-2-clause-from
form_edge-requires-2-clause-from c =
    omega (
      arith,
      ap (λ (b : Book). b.arena.vertices) c.in_ok-promote.ensures.marked,
      ap (λ (b : Book). b.arena.vertices) c.in_ok-out.ensures.formed,
      c.in_ok-book.ensures.opening.vertices,
    )

pub form_edge-requires-2-clause-to : goal.form_edge-requires-2-clause-to
form_edge-requires-2-clause-to c =
    omega (
      arith,
      ap (λ (b : Book). b.arena.vertices) c.in_ok-promote.ensures.marked,
      ap (λ (b : Book). b.arena.vertices) c.in_ok-out.ensures.formed,
      c.in_ok-book.ensures.opening.vertices,
    )

pub form_edge-requires-2-clause-new : goal.form_edge-requires-2-clause-new
form_edge-requires-2-clause-new c =
    new_marked c.form_edge.new.self c.promote.new.self _ _ _ c.in_ok-promote.ensures.marked
    (still_new c.in_ok-book.book c.form_edge.new.self c.in_ok-out.out _ _ c.in_ok-out.ensures.formed
    (λ e. omega (arith, ap (λ (xs : List ℕ). get_or xs 0 0) e))
    (new_at_opening c.in_ok-book.book 3 _ c.in_ok-book.ensures.lawful c.in_ok-book.ensures.opening (omega arith)))

pub promote-requires-2-clause-live : goal.promote-requires-2-clause-live
promote-requires-2-clause-live c = live_added _ _ _ _ (ap (λ (b : Book). b.arena) c.in_ok-past.ensures.formed)

pub promote-requires-2-clause-pending : goal.promote-requires-2-clause-pending
promote-requires-2-clause-pending c =
    formed_pending _ _ c.in_ok-past.past _ c.in_ok-promote.ensures.lawful c.in_ok-past.ensures.fresh
    c.in_ok-past.ensures.formed

pub form_edge-requires-3-clause-from : goal.form_edge-requires-3-clause-from
form_edge-requires-3-clause-from c =
    omega (
      arith,
      ap (λ (b : Book). b.arena.vertices) c.in_ok-promote-2.ensures.marked,
      ap (λ (b : Book). b.arena.vertices) c.in_ok-past.ensures.formed,
      ap (λ (b : Book). b.arena.vertices)
          c.in_ok-promote.ensures.marked,
      ap (λ (b : Book). b.arena.vertices) c.in_ok-out.ensures.formed,
      c.in_ok-book.ensures.opening.vertices,
    )

pub form_edge-requires-3-clause-to : goal.form_edge-requires-3-clause-to
form_edge-requires-3-clause-to c =
    omega (
      arith,
      ap (λ (b : Book). b.arena.vertices) c.in_ok-promote-2.ensures.marked,
      ap (λ (b : Book). b.arena.vertices) c.in_ok-past.ensures.formed,
      ap (λ (b : Book). b.arena.vertices)
          c.in_ok-promote.ensures.marked,
      ap (λ (b : Book). b.arena.vertices) c.in_ok-out.ensures.formed,
      c.in_ok-book.ensures.opening.vertices,
    )

pub form_edge-requires-3-clause-new : goal.form_edge-requires-3-clause-new
form_edge-requires-3-clause-new c =
    let list : List ℕ = 2 ∷ 0 ∷ [] in
    let opening : IsNewList c.in_ok-book.book list =
    new_at_opening c.in_ok-book.book 3 list c.in_ok-book.ensures.lawful c.in_ok-book.ensures.opening (omega arith)
    in
    let first_edge : IsNewList c.form_edge.new.self list =
    still_new c.in_ok-book.book c.form_edge.new.self c.in_ok-out.out _ list c.in_ok-out.ensures.formed
    (λ e. omega (arith, ap (λ (xs : List ℕ). get_or xs 0 0) e)) opening in
    let marked : IsNewList c.promote.new.self list =
    new_marked c.form_edge.new.self c.promote.new.self _ _ list c.in_ok-promote.ensures.marked first_edge in
    let second_edge : IsNewList c.form_edge-2.new.self list =
    still_new c.promote.new.self c.form_edge-2.new.self c.in_ok-past.past _ list c.in_ok-past.ensures.formed
    (λ e. omega (arith, ap (λ (xs : List ℕ). get_or xs 1 0) e)) marked in
    new_marked c.form_edge-2.new.self c.promote-2.new.self _ _ list c.in_ok-promote-2.ensures.marked second_edge

pub returns-clause-vertices : goal.returns-clause-vertices
returns-clause-vertices c =
    ap (λ (b : Book). b.arena.vertices) c.in_ok-into.ensures.formed
    ∙ ap (λ (b : Book). b.arena.vertices) c.in_ok-promote-2.ensures.marked
    ∙ ap (λ (b : Book). b.arena.vertices) c.in_ok-past.ensures.formed
    ∙ ap (λ (b : Book). b.arena.vertices) c.in_ok-promote.ensures.marked
    ∙ ap (λ (b : Book). b.arena.vertices) c.in_ok-out.ensures.formed ∙ c.in_ok-book.ensures.opening.vertices

pub returns-clause-victims : goal.returns-clause-victims
returns-clause-victims c =
    let none : AreEdges c.in_ok-book.book 0 [] =
    no_edges_yet c.in_ok-book.book 3 0 c.in_ok-book.ensures.lawful c.in_ok-book.ensures.opening in
    let one : AreEdges c.form_edge.new.self 0 (c.in_ok-out.out ∷ []) =
    edge_through c.in_ok-book.book c.form_edge.new.self c.in_ok-out.out _ 0 [] c.in_ok-out.ensures.fresh
    c.in_ok-out.ensures.formed none refl (head_in 0 0 (1 ∷ []) refl) refl in
    let marked : AreEdges c.promote.new.self 0 (c.in_ok-out.out ∷ []) =
    edges_marked c.form_edge.new.self c.promote.new.self _ 0 _ _ c.in_ok-promote.ensures.marked one in
    let past : AreEdges c.form_edge-2.new.self 0 (c.in_ok-out.out ∷ []) =
    edge_past c.promote.new.self c.form_edge-2.new.self c.in_ok-past.past _ 0 _ c.in_ok-past.ensures.fresh
    c.in_ok-past.ensures.formed marked
    (λ k. elim (in_cons 0 2 (1 ∷ []) k) [
      | inl same ↦ omega (arith, same)
      | inr more ↦ elim (in_cons 0 1 [] more) [ inl same ↦ omega (arith, same) | inr end ↦ absurd (in_nil 0 end) ]
    ]) in
    let past_marked : AreEdges c.promote-2.new.self 0 (c.in_ok-out.out ∷ []) =
    edges_marked c.form_edge-2.new.self c.promote-2.new.self _ 0 _ _ c.in_ok-promote-2.ensures.marked past in
    are_victims c.form_edge-3.new.self 0 _
    (edge_through c.promote-2.new.self c.form_edge-3.new.self c.in_ok-into.into _ 0 (c.in_ok-out.out ∷ [])
    c.in_ok-into.ensures.fresh c.in_ok-into.ensures.formed past_marked refl
    (tail_in 0 2 (0 ∷ []) (head_in 0 0 [] refl)) refl)
