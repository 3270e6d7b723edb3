-- What contracts see of the fields of a tally. No public clause cites this module.
use Rattle.std.specs.Prelude.{Option, Some, None}
use Rattle.pin_cells.specs.Tallied.{Ask, Tally}
use Rattle.pin_cells.specs.declared.tally.LastAsk.{LastAsk}
use Rattle.pin_cells.specs.declared.tally.Tally.TheInside.{Inside}

abbrev pub ask_seen : Option LastAsk → Option Ask
ask_seen None = None
ask_seen (Some a) = Some (record { slot = a.slot; asked = a.asked; found = a.found })

abbrev pub tally_seen : Inside → Tally
tally_seen t = record { lost = t.lost; other = t.other; ask = ask_seen t.ask }
