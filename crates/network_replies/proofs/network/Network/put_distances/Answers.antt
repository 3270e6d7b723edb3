use Rattle.std.proofs.Common.{arith, ap}
use Rattle.apsp_model.specs.Graph.{Graph}
use Rattle.history_engine.specs.Seen.{EngineSeen}
use Rattle.network_replies.proofs.Texts.{row_begins, row_goes_on, row_whole}
use Rattle.network_replies.proofs.network.Network.put_distances.Goals as goal

pub loop-y-init : goal.loop-y-init
loop-y-init c = row_begins _ _ _

pub loop-y-preserved : goal.loop-y-preserved
loop-y-preserved c = row_goes_on _ _ _ _ _ _ _ c.loop-y.invariant c.distance-distance.ensures c.in_ok-put_entry.ensures

pub returns : goal.returns
returns c =
    let size = ap (λ (g : Graph). g.vertices) c.graph.ensures.graph in
    let seen = ap (λ (e : EngineSeen). e.graph.vertices) c.self.view_is in
    row_whole _ _ _ _ _ (omega (
      arith,
      c.loop-y-test.false,
      c.loop-y.auto.y-end,
      c.vertices-y-end.ensures.vertices,
      size,
      seen,
    )) c.loop-y.invariant
