-- How heads and blocks show the lists. No public clause cites this module.
use Rattle.std.specs.Prelude.{ℕ, ◌<◌, List, length, map, slice_index_or}
use Rattle.id_pool.specs.declared.head.Head.{Head}
use Rattle.id_pool.specs.declared.lists.Lists.TheInside.{Inside}
use Rattle.id_pool.specs.Blocks.{Owner, HasOneOwnerEach}
use Rattle.id_pool.specs.Heads.{IsAt, held_of, shape}
use Rattle.id_pool.specs.Lists.{Held}

abbrev pub lists_of : List ℕ → List Head → List Held
lists_of ids heads = map (λ h. held_of ids (shape h)) heads

abbrev pub view_of : Inside → List Held
view_of l = lists_of l.blocks.ids.items l.heads.items

-- each list stands somewhere, and no place of the pool has two owners
pub record IsLaid (heads : List Head) (ids free : List ℕ) : Type 0 where
  pub o : ℕ → Owner
  pub depth : ℕ → ℕ
  pub stands : HasOneOwnerEach ids free o depth
  pub each : (k : ℕ) (d : Head) → k < length heads → IsAt ids o k (shape (slice_index_or heads k d))

abbrev pub IsSound : Inside → Type 0
IsSound l = IsLaid l.heads.items l.blocks.ids.items l.blocks.free
