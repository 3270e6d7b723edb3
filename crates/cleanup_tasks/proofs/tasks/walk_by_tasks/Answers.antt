use Rattle.std.proofs.Common.{◌≡◌, List, slice_index, slice_index_or, sym, ap, subst, arith, length, Vec, Global}
use Rattle.apsp_model.specs.declared.TheConstants.{MOST_VERTICES}
use Rattle.cleanup_tasks.specs.declared.search.Level.{Level}
use Rattle.path_book.specs.Through.{IsVictims}
use Rattle.cleanup_tasks.specs.Under.{AreLevels, upto}
use Rattle.cleanup_tasks.proofs.Under.{walks_find_all, if_ok}
use Rattle.cleanup_tasks.proofs.tasks.walk_by_tasks.Goals as goal

pub returns : goal.returns
returns g c =
    let same : c.answers.result.now ≡ c.in_ok-walked.walked = c.answers.ensures in
    record {
      all = if_ok (λ ids. ids.items ≡ upto MOST_VERTICES c.answers.result.now)
          (λ ids. IsVictims c.args.book.now c.args.v ids.items)
          (λ ids are. walks_find_all c.args.book.now c.args.v c.args.edges.now c.requires.edges c.answers.result.now
          (omega (arith, ap length same, c.in_ok-walked.ensures.len, c.requires.all))
          (λ k d inside. subst (λ (ws : List (Vec Level Global)). AreLevels c.args.book.now c.args.v
          (slice_index c.args.edges.now k) (slice_index_or ws k d).items) (sym same)
          (c.in_ok-walked.ensures.each k d (omega (arith, inside, c.requires.all))))
          ids.items are) c.by_hops.result c.by_hops.ensures;
    }
