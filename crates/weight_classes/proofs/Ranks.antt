-- For push: the weight and the number of edges of a live path are small.
use Rattle.std.specs.Prelude.{ℕ, ◌*◌, ◌<◌, ◌≤◌}
use Rattle.std.proofs.Common.{arith}
use Rattle.apsp_model.specs.declared.TheConstants.{MOST_VERTICES, MOST_WEIGHT}
use Rattle.apsp_model.specs.Walk.{hops_of}
use Rattle.path_arena.specs.Arena.{Arena, IsArena, IsLive, list_of, weight_of_id}
use Rattle.path_arena.proofs.Puts.{length_most, weight_most}

pub few_hops : (a : Arena) (id : ℕ) → IsArena a → IsLive a id → hops_of (list_of a id) < MOST_VERTICES
few_hops a id lawful live = omega (arith, length_most a id lawful live)

pub low_weight : (a : Arena) (id : ℕ) → IsArena a → IsLive a id → weight_of_id a id ≤ MOST_VERTICES * MOST_WEIGHT
low_weight a id lawful live = weight_most a id lawful live
