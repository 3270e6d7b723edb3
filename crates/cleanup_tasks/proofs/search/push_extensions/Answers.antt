use Rattle.std.proofs.Common.{◌++◌, take, ◌∙◌, ap}
use Rattle.std.proofs.lemmas.List.{append_assoc}
use Rattle.apsp_model.specs.Walk.{IsOnceEach}
use Rattle.extension_lists.specs.Known.{sides_at}
use Rattle.cleanup_tasks.specs.Walk.{side_of, extensions_of}
use Rattle.cleanup_tasks.proofs.Levels.{extensions_more, each_more}
use Rattle.cleanup_tasks.proofs.search.push_extensions.Goals as goal

pub list-preserved : goal.list-preserved
list-preserved c = (
  c.in_ok-push_all.ensures ∙ ap (λ xs. c.list.ids.items ++ xs) c.extensions.ensures.items
      ∙ ap (λ xs. xs ++ side_of c.args.side (sides_at c.args.book.now.lists c.path-item.result)) c.list.invariant.0
      ∙ append_assoc c.args.ids.now.items
      (extensions_of c.args.side c.args.book.now (take c.list.path-index c.args.list.now))
      (side_of c.args.side (sides_at c.args.book.now.lists c.path-item.result))
      ∙ ap (λ xs. c.args.ids.now.items ++ xs)
      (extensions_more c.args.side c.args.book.now c.args.list.now c.list.path-index c.path-item.result
      c.list-test.true c.path-item.is),
  each_more (λ p. IsOnceEach (side_of c.args.side (sides_at c.args.book.now.lists p))) c.args.list.now c.list.path-index
      c.path-item.result c.list-test.true c.path-item.is c.list.invariant.1 c.extensions.ensures.once,
)
