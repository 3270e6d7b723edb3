use Rattle.std.specs.Prelude.{◌++◌, [], ◌∷◌, Some, unwrap_or, option_to_list}
use Rattle.std.proofs.Common.{◌≡◌, ◌≢◌, List, ℕ, length, get_or, sym, ◌∙◌, ap, subst, arith}
use Rattle.apsp_model.specs.Walk.{last}
use Rattle.path_arena.proofs.Keys.{get_put, get_put_other}
use Rattle.path_arena.specs.Arena.{Arena, path_at, IsLive, list_of, CanJoin, edge_path, no_path}
use Rattle.path_arena.proofs.Paths.{live_added, live_still, live_apart, edges_can_join}
use Rattle.path_book.specs.Book.{Book, IsNewList}
use Rattle.path_book.proofs.Changes.{still_new, formed_pending, still_pending_marked, marked_now, still_marked}
use Rattle.cleanup_tasks.proofs.tests.join_new_edges.Goals as goal

pub form_edge-requires-2-clause-new : goal.form_edge-requires-2-clause-new
form_edge-requires-2-clause-new c =
    still_new c.args.book.now c.form_edge.new.self c.in_ok-left.left _ _ c.in_ok-left.ensures.formed
    (λ e. c.requires.apart.0 (ap (λ (xs : List ℕ). get_or xs 0 0) e))
    c.requires.second

pub promote-requires-clause-live : goal.promote-requires-clause-live
promote-requires-clause-live c =
    live_still _ _ _ _ c.in_ok-left.left (ap (λ (b : Book). b.arena) c.in_ok-right.ensures.formed)
    (live_added _ _ _ _ (ap (λ (b : Book). b.arena) c.in_ok-left.ensures.formed))

pub promote-requires-2-clause-live : goal.promote-requires-2-clause-live
promote-requires-2-clause-live c =
    subst (λ a. IsLive a c.in_ok-right.right) (sym (ap (λ (b : Book). b.arena) c.in_ok-promote.ensures.marked))
    (live_added _ _ _ _ (ap (λ (b : Book). b.arena) c.in_ok-right.ensures.formed))

pub promote-requires-2-clause-pending : goal.promote-requires-2-clause-pending
promote-requires-2-clause-pending c =
    let differ : c.in_ok-left.left ≢ c.in_ok-right.right =
    live_apart c.form_edge.new.self.arena c.in_ok-right.right c.in_ok-left.left c.in_ok-right.ensures.fresh
    (live_added _ _ _ _ (ap (λ (b : Book). b.arena) c.in_ok-left.ensures.formed)) in
    still_pending_marked c.form_edge-2.new.self c.promote.new.self c.in_ok-left.left c.in_ok-right.right
    c.in_ok-promote.ensures.marked (λ same. differ (sym same))
    (formed_pending _ _ c.in_ok-right.right _ c.form_edge.ensures.lawful c.in_ok-right.ensures.fresh
    c.in_ok-right.ensures.formed)

can_join : (c : goal.After-form_join-arg-1) → CanJoin c.promote-2.new.self.arena c.in_ok-left.left c.in_ok-right.right
can_join c =
    subst (λ (a : Arena). CanJoin a c.in_ok-left.left c.in_ok-right.right)
    (sym (ap (λ (b : Book). b.arena) c.in_ok-promote-2.ensures.marked
    ∙ ap (λ (b : Book). b.arena) c.in_ok-promote.ensures.marked))
    (edges_can_join _ _ _ _ _ c.args.a c.args.b c.args.c _ _ _ _ c.in_ok-left.ensures.fresh
    (ap (λ (b : Book). b.arena) c.in_ok-left.ensures.formed) c.in_ok-right.ensures.fresh
    (ap (λ (b : Book). b.arena) c.in_ok-right.ensures.formed) (omega arith))

pub form_join-requires-clause-join : goal.form_join-requires-clause-join
form_join-requires-clause-join c = can_join c

pub form_join-requires-clause-left : goal.form_join-requires-clause-left
form_join-requires-clause-left c =
    still_marked c.promote.new.self c.promote-2.new.self c.in_ok-right.right c.in_ok-left.left
    c.in_ok-promote-2.ensures.marked (marked_now c.form_edge-2.new.self c.promote.new.self c.in_ok-left.left
    c.in_ok-promote.ensures.marked)

pub form_join-requires-clause-right : goal.form_join-requires-clause-right
form_join-requires-clause-right c =
    marked_now c.promote.new.self c.promote-2.new.self c.in_ok-right.right c.in_ok-promote-2.ensures.marked

pub form_join-requires-clause-new : goal.form_join-requires-clause-new
form_join-requires-clause-new c =
    let before : Book = c.args.book.now in
    let one : Book = c.form_edge.new.self in
    let two : Book = c.form_edge-2.new.self in
    let arena_is : c.promote-2.new.self.arena ≡ two.arena =
    ap (λ (b : Book). b.arena) c.in_ok-promote-2.ensures.marked
    ∙ ap (λ (b : Book). b.arena) c.in_ok-promote.ensures.marked in
    let differ : c.in_ok-left.left ≢ c.in_ok-right.right =
    live_apart one.arena c.in_ok-right.right c.in_ok-left.left c.in_ok-right.ensures.fresh
    (live_added _ _ _ _ (ap (λ (b : Book). b.arena) c.in_ok-left.ensures.formed)) in
    let left_path : path_at two.arena c.in_ok-left.left ≡ Some (edge_path before.arena c.args.a c.args.b 2 1) =
    ap (λ (b : Book). path_at b.arena c.in_ok-left.left) c.in_ok-right.ensures.formed
    ∙ get_put_other one.arena.paths c.in_ok-right.right (edge_path one.arena c.args.b c.args.c 3 1) c.in_ok-left.left
    differ
    ∙ ap (λ (b : Book). path_at b.arena c.in_ok-left.left) c.in_ok-left.ensures.formed
    ∙ get_put before.arena.paths c.in_ok-left.left (edge_path before.arena c.args.a c.args.b 2 1) in
    let right_path : path_at two.arena c.in_ok-right.right ≡ Some (edge_path one.arena c.args.b c.args.c 3 1) =
    ap (λ (b : Book). path_at b.arena c.in_ok-right.right) c.in_ok-right.ensures.formed
    ∙ get_put one.arena.paths c.in_ok-right.right (edge_path one.arena c.args.b c.args.c 3 1) in
    let left_list : list_of two.arena c.in_ok-left.left ≡ c.args.a ∷ c.args.b ∷ [] =
    ap (λ o. (unwrap_or o no_path).list) left_path in
    let right_list : list_of two.arena c.in_ok-right.right ≡ c.args.b ∷ c.args.c ∷ [] =
    ap (λ o. (unwrap_or o no_path).list) right_path in
    let new : IsNewList two (c.args.a ∷ c.args.b ∷ c.args.c ∷ []) =
    still_new one two c.in_ok-right.right (edge_path one.arena c.args.b c.args.c 3 1) _ c.in_ok-right.ensures.formed
    (λ e. omega (arith, ap length e))
    (still_new before one c.in_ok-left.left (edge_path before.arena c.args.a c.args.b 2 1) _ c.in_ok-left.ensures.formed
    (λ e. omega (arith, ap length e)) c.requires.both) in
    λ id live same. new id (subst (λ (a : Arena). IsLive a id) arena_is live)
    (ap (λ (a : Arena). list_of a id) (sym arena_is) ∙ same
    ∙ ap (λ (a : Arena). list_of a c.in_ok-left.left ++ option_to_list (last (list_of a c.in_ok-right.right))) arena_is
    ∙ (λ i. left_list i ++ option_to_list (last (right_list i))))
