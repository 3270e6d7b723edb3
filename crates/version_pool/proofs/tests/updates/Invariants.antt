use Rattle.std.proofs.Common.{◌≡◌, ◌≤◌, length}
use Rattle.apsp_model.specs.Graph.{no_edges}
use Rattle.version_pool.proofs.tests.updates.Given as goal

abbrev pub invariant-loop-number : goal.invariant-loop-number
invariant-loop-number l = record {
  lo : l.plan.lo ≡ 0;
  start : l.plan.start ≡ no_edges 2;
  few : length l.plan.stars ≤ l.number;
}
