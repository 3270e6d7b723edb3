use Rattle.std.proofs.Common.{sym, ap, ◌∙◌}
use Rattle.graph_store.specs.Edges.{with_maybe_edge}
use Rattle.load_run.proofs.Drawing.{without_none}
use Rattle.load_run.proofs.draws.put_in.Goals as goal

pub returns-in-None : goal.returns-in-None
returns-in-None c =
    without_none _ _ _ c.requires.none ∙ ap (λ o. with_maybe_edge c.args.star.now (c.args.u, c.args.star.now.vertex) o)
    (sym c.in-None.is)
