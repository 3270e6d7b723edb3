use Rattle.std.proofs.Common.{◌∙◌, ap, sym, subst}
use Rattle.std.proofs.lemmas.Bool.{false≢true}
use Rattle.path_book.specs.Book.{Book, IsMarked}
use Rattle.cleanup_tasks.proofs.Steps.{mark_taken}
use Rattle.cleanup_tasks.proofs.in_place.demote.Goals as goal

pub returns-then-is_historical-clause-arena : goal.returns-then-is_historical-clause-arena
returns-then-is_historical-clause-arena c = ap (λ (b : Book). b.arena) c.unmark.ensures.unmarked

pub returns-then-is_historical-clause-marked : goal.returns-then-is_historical-clause-marked
returns-then-is_historical-clause-marked c =
    mark_taken c.args.book.now c.unmark.new.self c.args.id c.unmark.new.self.lists c.unmark.ensures.unmarked

pub returns-else-is_historical-clause-marked : goal.returns-else-is_historical-clause-marked
returns-else-is_historical-clause-marked c = λ q. (
  λ h. (
    h,
    λ same. false≢true (sym c.if-is_historical.false ∙ c.is_historical.ensures.value
        ∙ subst (IsMarked c.args.book.now) same h),
  ),
  λ h. h.0,
)
