-- How an arena lays out its records. No public clause cites this module.
use Rattle.std.specs.Prelude.{◌≡◌, ◌≢◌, ℕ, zero, suc, ◌+◌, List, [], ◌∷◌, length, Option, Some, None, unwrap_or, slice_index_or, IfSome}
use Rattle.std.specs.Ordering.{nat_cmp}
use Rattle.std.specs.FinMap as map
use Rattle.apsp_model.specs.Walk.{first, last}
use Rattle.path_arena.specs.Arena.{Path, Arena, IsLive, list_of, second, IsArena}
use Rattle.path_arena.specs.declared.arena.Record.{Record}
use Rattle.path_arena.specs.declared.arena.Arena.TheInside.{Inside}

abbrev pub no_record : Record
no_record = record { weight = 0; first = 0; second = 0; last = 0; hops = 0; left = 0; right = 0; birth = 0 }

abbrev pub slot_at : List (Option Record) → ℕ → Option Record
slot_at slots key = slice_index_or slots key None

abbrev pub record_at : List (Option Record) → ℕ → Record
record_at slots key = unwrap_or (slot_at slots key) no_record

-- the first vertices of the record under a key and of so many records that follow it by right parts
abbrev pub list_under : List (Option Record) → ℕ → ℕ → List ℕ
list_under slots zero key = (record_at slots key).first ∷ []
list_under slots (suc hops) key = (record_at slots key).first ∷ list_under slots hops (record_at slots key).right

-- the id of a part, which a record without an edge lacks
abbrev pub part_id : ℕ → ℕ → Option ℕ
part_id zero key = None
part_id (suc hops) key = Some key

abbrev pub path_from : List (Option Record) → ℕ → Record → Path
path_from slots key r = record {
  list = list_under slots r.hops key;
  weight = r.weight;
  birth = r.birth;
  left = part_id r.hops r.left;
  right = part_id r.hops r.right;
}

-- the paths of the rest of the slots, the first of which has this key
abbrev pub listed : List (Option Record) → ℕ → List (Option Record) → List (ℕ × Path)
listed slots key [] = []
listed slots key (None ∷ rest) = listed slots (key + 1) rest
listed slots key (Some r ∷ rest) = (key, path_from slots key r) ∷ listed slots (key + 1) rest

abbrev pub paths_in : List (Option Record) → map.FinMap nat_cmp Path
paths_in slots = map.from_entries (listed slots 0 slots)

abbrev pub arena_in : List ℕ → List (Option Record) → Arena
arena_in singles slots = record { vertices = length singles; singles = singles; paths = paths_in slots }

abbrev pub view_of : Inside → Arena
view_of a = arena_in a.singles.items a.records.slots

-- what a record says of its path
pub record IsRecordOf (p : Path) (r : Record) : Type 0 where
  pub weight : p.weight ≡ r.weight
  pub birth : p.birth ≡ r.birth
  pub first : first p.list ≡ Some r.first
  pub second : second p.list ≡ Some r.second
  pub last : last p.list ≡ Some r.last
  pub hops : length p.list ≡ r.hops + 1
  pub left : p.left ≡ part_id r.hops r.left
  pub right : p.right ≡ part_id r.hops r.right

-- each record keeps the second and the last vertex of its list
pub record AreRecordsOfLists (singles : List ℕ) (slots : List (Option Record)) : Type 0 where
  pub arena : IsArena (arena_in singles slots)
  pub second : (key : ℕ) (r : Record) → slot_at slots key ≡ Some r
      → second (list_under slots r.hops key) ≡ Some r.second
  pub last : (key : ℕ) (r : Record) → slot_at slots key ≡ Some r → last (list_under slots r.hops key) ≡ Some r.last

abbrev pub IsSound : Inside → Type 0
IsSound a = AreRecordsOfLists a.singles.items a.records.slots

-- the new slots have the record under a key that was vacant, and every other key keeps what it had
pub record IsPut (old new : List (Option Record)) (key : ℕ) (r : Record) : Type 0 where
  pub was : slot_at old key ≡ None
  pub here : slot_at new key ≡ Some r
  pub others : (other : ℕ) → other ≢ key → slot_at new other ≡ slot_at old other

-- nothing is left under the key, and every other key keeps what it had
pub record IsTaken (old new : List (Option Record)) (key : ℕ) : Type 0 where
  pub here : slot_at new key ≡ None
  pub others : (other : ℕ) → other ≢ key → slot_at new other ≡ slot_at old other

-- the vertices that an iterator has left
abbrev pub rest_of : Arena → Option ℕ → List ℕ
rest_of a None = []
rest_of a (Some id) = list_of a id

abbrev pub IsAtLive : Arena → Option ℕ → Type 0
IsAtLive a next = IfSome next (IsLive a)

-- the record of a single vertex, whose parts mean nothing
pub record IsSingleRecord (v : ℕ) (r : Record) : Type 0 where
  pub weight : r.weight ≡ 0
  pub birth : r.birth ≡ 0
  pub first : r.first ≡ v
  pub second : r.second ≡ v
  pub last : r.last ≡ v
  pub hops : r.hops ≡ 0
