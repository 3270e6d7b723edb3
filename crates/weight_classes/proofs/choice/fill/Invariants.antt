use Rattle.std.proofs.Common.{◌≡◌, ◌≤◌, ℕ, take, map, length, vec_len, vec_capacity, Contains}
use Rattle.weight_classes.specs.Choice.{key_of, EndsAreVertices}
use Rattle.weight_classes.proofs.choice.fill.Given as goal

abbrev pub invariant-filling : goal.invariant-filling
invariant-filling l =
    (l.keys.items ≡ map (key_of l.arena) (take l.id-index l.ids)) × (vec_len l.keys ≡ l.id-index)
    × (length l.ids ≤ vec_capacity l.keys) × (vec_capacity l.fn.keys ≤ vec_capacity l.keys)
    × ((q : ℕ) → Contains (take l.id-index l.ids) q → EndsAreVertices l.arena q)
