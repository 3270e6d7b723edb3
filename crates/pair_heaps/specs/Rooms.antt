-- The room for one more id of a pair.
use Rattle.std.specs.Prelude.{◌≡◌, ◌<◌}
use Rattle.pair_heaps.specs.Heaps.{Heaps, place_of}
use Rattle.pair_heaps.specs.declared.heaps.Room.{Room}

-- it is that of the pair from its x to its y
pub record IsRoomOf (h : Heaps) (room : Room) : Type 0 where
  pub from : room.x < h.vertices
  pub to : room.y < h.vertices
  pub place : room.place ≡ place_of h.vertices room.x room.y
