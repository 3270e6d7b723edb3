-- The ids of one bucket, or the winners among them, as a list. No public clause cites this module.
use Rattle.std.specs.Prelude.{ℕ, List, [], ◌∷◌, length}
use Rattle.weight_classes.specs.declared.ids.Ids.{Ids}
use Rattle.weight_classes.specs.declared.ids.Ids.TheVariants.{Empty, One, Several}

abbrev pub ids_in : Ids → List ℕ
ids_in Empty = []
ids_in (One id) = id ∷ []
ids_in (Several list) = list.items

-- of how many ids the keys have to find room
abbrev pub need_of : Ids → ℕ
need_of Empty = 0
need_of (One id) = 0
need_of (Several list) = length list.items
