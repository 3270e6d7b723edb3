-- What holds of the fields of an open block. No public clause cites this module.
use Rattle.std.specs.Prelude.{◌≡◌}
use Rattle.network_replies.specs.declared.block.OpenBlock.TheInside.{Inside}
use Rattle.network_replies.specs.Blocks.{last_graph}

-- the graph after its updates is at hand
abbrev pub HasLast : Inside → Type 0
HasLast b = b.last ≡ last_graph b.plan
