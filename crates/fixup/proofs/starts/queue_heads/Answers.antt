use Rattle.std.proofs.Common.{◌∙◌, OnOk, Contains, sym, ap, subst}
use Rattle.path_arena.specs.Arena.{Arena, IsLive}
use Rattle.path_book.specs.Book.{Book}
use Rattle.fixup.specs.Growth.{ExactlyTheseAreHeld}
use Rattle.fixup.proofs.Heads.{heads_live, heads_queued}
use Rattle.fixup.proofs.starts.queue_heads.Goals as goal

pub hold_all-requires-clause-live : goal.hold_all-requires-clause-live
hold_all-requires-clause-live c = λ id here.
    subst (λ (a : Arena). IsLive a id) (sym
    (c.arena.ensures.lent ∙ ap (λ (b : Book). b.arena) c.pending_leasts.ensures.same))
    (heads_live c.args.book.now _ c.pending_leasts.new.heads.items c.in_ok-pending_leasts.ensures.heads id
    (subst (λ ids. Contains ids id) c.deref.ensures.value here))

pub returns-clause-queued : goal.returns-clause-queued
returns-clause-queued c =
    heads_queued c.args.book.now c.pending_leasts.new.heads.items c.hold_all.new.classes
    c.in_ok-pending_leasts.ensures.heads c.hold_all.result
    (subst (λ (a : Arena). OnOk c.hold_all.result
    (ExactlyTheseAreHeld a c.pending_leasts.new.heads.items c.hold_all.new.classes))
    (c.arena.ensures.lent ∙ ap (λ (b : Book). b.arena) c.pending_leasts.ensures.same)
    (subst (λ ids. OnOk c.hold_all.result (ExactlyTheseAreHeld c.arena.result.now ids c.hold_all.new.classes))
    c.deref.ensures.value c.hold_all.ensures.held))
