use Rattle.std.proofs.Common.{◌≡◌, ◌<◌, ◌+◌, ◌*◌, length, None, sym, ◌∙◌, ap, arith}
use Rattle.std.proofs.lemmas.List.{get_or_read}
use Rattle.std.proofs.lemmas.Nat.{mul-add-lt}
use Rattle.graph_store.proofs.Graphs.{weight-rows}
use Rattle.graph_store.proofs.graph.Graph.weight.Goals as goal

pub returns-clause-weight : goal.returns-clause-weight
returns-clause-weight c =
    let n = c.self.inside.vertices in
    let same : n ≡ c.args.self.now.vertices = ap (λ g. g.vertices) c.self.view_is in
    let from : c.args.u < n = omega (arith, same, c.requires.from) in
    let to : c.args.v < n = omega (arith, same, c.requires.to) in
    let place : c.args.u * n + c.args.v < length c.self.inside.cells.items =
    omega (arith, mul-add-lt c.args.u n c.args.v n from to, c.self.invariant.size) in
    rw (← c.self.view_is) (get_or_read c.self.inside.cells.items _ _ place c.index.ensures None
    ∙ sym (weight-rows n c.self.inside.cells.items c.args.u c.args.v from to))
