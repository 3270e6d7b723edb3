use Rattle.std.proofs.Common.{◌≡◌, ◌≢◌, ◌<◌, List, ℕ, length, get_or, sym, ◌∙◌, ap, subst, arith}
use Rattle.path_arena.specs.Arena.{Arena, IsLive, list_of, CanJoin, joined_path}
use Rattle.path_arena.proofs.Paths.{live_added, live_still, live_apart, edges_can_join}
use Rattle.path_book.specs.Book.{Book, IsNewList}
use Rattle.path_book.proofs.Changes.{new_at_opening, still_new, formed_pending, still_pending_marked, marked_now, still_marked, join_is_long}
use Rattle.path_book.proofs.tests.joined_edges.Goals as goal

pub form_edge-requires-clause-new : goal.form_edge-requires-clause-new
form_edge-requires-clause-new c =
    new_at_opening c.in_ok-book.book 3 _ c.in_ok-book.ensures.lawful c.in_ok-book.ensures.opening (omega arith)

pub form_edge-requires-2-clause-new : goal.form_edge-requires-2-clause-new
form_edge-requires-2-clause-new c =
    still_new c.in_ok-book.book c.form_edge.new.self c.in_ok-left.left _ _ c.in_ok-left.ensures.formed
    (λ e. omega (arith, ap (λ (xs : List ℕ). get_or xs 0 0) e))
    (new_at_opening c.in_ok-book.book 3 _ c.in_ok-book.ensures.lawful c.in_ok-book.ensures.opening (omega arith))

pub promote-requires-clause-live : goal.promote-requires-clause-live
promote-requires-clause-live c =
    live_still _ _ _ _ c.in_ok-left.left (ap (λ (b : Book). b.arena) c.in_ok-right.ensures.formed)
    (live_added _ _ _ _ (ap (λ (b : Book). b.arena) c.in_ok-left.ensures.formed))

pub promote-requires-2-clause-live : goal.promote-requires-2-clause-live
promote-requires-2-clause-live c =
    subst (λ a. IsLive a c.in_ok-right.right) (sym (ap (λ (b : Book). b.arena) c.in_ok-promote.ensures.marked))
    (live_added _ _ _ _ (ap (λ (b : Book). b.arena) c.in_ok-right.ensures.formed))

pub promote-requires-2-clause-pending : goal.promote-requires-2-clause-pending
promote-requires-2-clause-pending c =
    let differ : c.in_ok-left.left ≢ c.in_ok-right.right =
    live_apart c.form_edge.new.self.arena c.in_ok-right.right c.in_ok-left.left c.in_ok-right.ensures.fresh
    (live_added _ _ _ _ (ap (λ (b : Book). b.arena) c.in_ok-left.ensures.formed)) in
    still_pending_marked c.form_edge-2.new.self c.promote.new.self c.in_ok-left.left c.in_ok-right.right
    c.in_ok-promote.ensures.marked (λ same. differ (sym same))
    (formed_pending _ _ c.in_ok-right.right _ c.in_ok-left.ensures.lawful c.in_ok-right.ensures.fresh
    c.in_ok-right.ensures.formed)

can_join : (c : goal.After-book-6-1) → CanJoin c.promote-2.new.self.arena c.in_ok-left.left c.in_ok-right.right
can_join c =
    subst (λ (a : Arena). CanJoin a c.in_ok-left.left c.in_ok-right.right)
    (sym (ap (λ (b : Book). b.arena) c.in_ok-promote-2.ensures.marked
    ∙ ap (λ (b : Book). b.arena) c.in_ok-promote.ensures.marked))
    (edges_can_join _ _ _ _ _ 0 1 2 _ _ _ _ c.in_ok-left.ensures.fresh
    (ap (λ (b : Book). b.arena) c.in_ok-left.ensures.formed) c.in_ok-right.ensures.fresh
    (ap (λ (b : Book). b.arena) c.in_ok-right.ensures.formed) (omega arith))

pub form_join-requires-clause-join : goal.form_join-requires-clause-join
form_join-requires-clause-join c = can_join c

pub form_join-requires-clause-left : goal.form_join-requires-clause-left
form_join-requires-clause-left c =
    still_marked c.promote.new.self c.promote-2.new.self c.in_ok-right.right c.in_ok-left.left
    c.in_ok-promote-2.ensures.marked (marked_now c.form_edge-2.new.self c.promote.new.self c.in_ok-left.left
    c.in_ok-promote.ensures.marked)

pub form_join-requires-clause-right : goal.form_join-requires-clause-right
form_join-requires-clause-right c =
    marked_now c.promote.new.self c.promote-2.new.self c.in_ok-right.right c.in_ok-promote-2.ensures.marked

pub form_join-requires-clause-new : goal.form_join-requires-clause-new
form_join-requires-clause-new c =
    let list : List ℕ = (joined_path c.promote-2.new.self.arena c.in_ok-left.left c.in_ok-right.right 7).list in
    let long : 2 < length list =
    join_is_long c.promote-2.new.self _ _ 7 c.in_ok-promote-2.ensures.lawful (can_join c) in
    let opening : IsNewList c.in_ok-book.book list =
    new_at_opening c.in_ok-book.book 3 list c.in_ok-book.ensures.lawful c.in_ok-book.ensures.opening (omega arith)
    in
    let first_edge : IsNewList c.form_edge.new.self list =
    still_new c.in_ok-book.book c.form_edge.new.self c.in_ok-left.left _ list c.in_ok-left.ensures.formed
    (λ e. omega (arith, ap length e)) opening in
    let both : IsNewList c.form_edge-2.new.self list =
    still_new c.form_edge.new.self c.form_edge-2.new.self c.in_ok-right.right _ list c.in_ok-right.ensures.formed
    (λ e. omega (arith, ap length e)) first_edge in
    subst (λ (a : Arena). (id : ℕ) → IsLive a id → list_of a id ≡ list → ⊥)
    (sym (ap (λ (b : Book). b.arena) c.in_ok-promote-2.ensures.marked
    ∙ ap (λ (b : Book). b.arena) c.in_ok-promote.ensures.marked)) both

pub returns-clause-live : goal.returns-clause-live
returns-clause-live c = live_added _ _ _ _ (ap (λ (b : Book). b.arena) c.in_ok-joined.ensures.formed)
