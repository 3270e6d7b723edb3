use Rattle.std.proofs.Common.{subst}
use Rattle.path_book.specs.Book.{Book, ArePendingLeasts}
use Rattle.path_book.specs.Layout.{view_of}
use Rattle.path_book.proofs.Clean.{clean_same}
use Rattle.std.proofs.lemmas.Result.{on_ok_weaker}
use Rattle.path_book.proofs.Heads.{pending_leasts}
use Rattle.path_book.proofs.book.Book.pending_leasts.Goals as goal

pub returns-clause-heads : goal.returns-clause-heads
returns-clause-heads c =
    on_ok_weaker c.push_heads.result (λ s. (
    subst (λ (b : Book). ArePendingLeasts b b.arena.vertices c.push_heads.new.heads.items) c.self.view_is
    (pending_leasts (view_of c.self.inside) c.list.new.self c.pairs.result.now c.push_heads.new.heads.items
    (clean_same (view_of c.self.inside) c.self.inside.dirty c.list.new.self c.self.invariant.dirty
    c.list.ensures.vertices c.list.ensures.same)
    c.in_ok-list.ensures.listed c.pairs.ensures.inside c.pairs.ensures.all s)
    )) c.push_heads.ensures.heads
