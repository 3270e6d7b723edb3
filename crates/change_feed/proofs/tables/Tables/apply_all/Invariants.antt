use Rattle.std.proofs.Common.{◌≡◌, length}
use Rattle.change_feed.specs.Applied.{shown, applied}
use Rattle.change_feed.proofs.tables.Tables.apply_all.Given as goal

abbrev pub invariant-loop-item : goal.invariant-loop-item
invariant-loop-item l = record {
  vertices : l.self.vertices ≡ l.initial.self.vertices;
  rest : applied l.self.vertices (shown l.self) l.items.items ≡ applied l.initial.self.vertices (shown l.initial.self)
      l.initial.items.items;
}

abbrev pub decreases-loop-item : goal.decreases-loop-item
decreases-loop-item l = length l.items.items
