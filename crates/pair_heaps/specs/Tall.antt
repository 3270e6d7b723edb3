-- How a tall heap shows its ids. No public clause cites this module.
use Rattle.std.specs.Prelude.{◌-◌, vec_len, vec_capacity}
use Rattle.apsp_model.specs.Walk.{IsOnceEach}
use Rattle.pair_heaps.specs.declared.tall.Tall.TheInside.{Inside}
use Rattle.pair_heaps.specs.Heaps.{Pair}

abbrev pub tall_of : Inside → Pair
tall_of t = record { held = t.ids.items; spare = vec_capacity t.ids - vec_len t.ids }

-- no id is held twice
abbrev pub IsTall : Inside → Type 0
IsTall t = IsOnceEach t.ids.items
