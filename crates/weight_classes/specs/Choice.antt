-- Which ids of a class win. No public clause cites this module.
use Rattle.std.specs.Prelude.{◌≡◌, ◌≢◌, ℕ, ◌+◌, ◌*◌, ◌<◌, ◌≤◌, ◌⊎◌, ◌↔◌, ⊤, List, [], ◌∷◌, ◌++◌, length, slice_index_or, slice_set, Bool, true, false, Contains}
use Rattle.std.specs.declared.cmp.Ordering.TheVariants.{Less}
use Rattle.path_arena.specs.Arena.{Arena, id_cmp}
use Rattle.weight_classes.specs.declared.choice.Key.{Key}
use Rattle.weight_classes.specs.Classes.{first_of, last_of}

-- the place of the pair of a path, row by row
abbrev pub pair_place : Arena → ℕ → ℕ
pair_place a id = first_of a id * a.vertices + last_of a id

abbrev pub key_of : Arena → ℕ → Key
key_of a id = record { place = pair_place a id; id = id }

-- the ends of a path are vertices
abbrev pub EndsAreVertices : Arena → ℕ → Type 0
EndsAreVertices a id = (first_of a id < a.vertices) × (last_of a id < a.vertices)

-- the keys of exactly these ids, in the order of their places
pub record AreKeys (a : Arena) (ids : List ℕ) (keys : List Key) : Type 0 where
  pub each : (k : Key) → Contains keys k → Contains ids k.id × (k ≡ key_of a k.id)
  pub all : (q : ℕ) → Contains ids q → Contains keys (key_of a q)
  pub many : length keys ≡ length ids
  pub ends : (q : ℕ) → Contains ids q → EndsAreVertices a q
  pub sorted : (i j : ℕ) (d : Key) → i ≤ j → j < length keys
      → (slice_index_or keys i d).place ≤ (slice_index_or keys j d).place

-- the last winner gives way to an id that is below it
pub record GivesWay (a : Arena) (id : ℕ) (old new : List ℕ) : Type 0 where
  pub front : List ℕ
  pub w : ℕ
  pub was : old ≡ front ++ w ∷ []
  pub now : ((id_cmp a id w ≡ Less → ⊥) × (new ≡ old)) ⊎ ((id_cmp a id w ≡ Less) × (new ≡ front ++ id ∷ []))

-- the pair of this place is won
abbrev pub IsWonAt : List Bool → ℕ → Type 0
IsWonAt won k = slice_index_or won k false ≡ true

-- the winners so far, the marks of the won pairs, and the place of the last winner
pub record Choosing : Type 0 where
  pub winners : List ℕ
  pub won : List Bool
  pub last : ℕ

-- a key is taken into account: its pair is won now, or it was, by the last winner or before
abbrev pub IsConsidered : Arena → Key → Choosing → Choosing → Type 0
IsConsidered a key old new =
    ((IsWonAt old.won key.place → ⊥) × (new.winners ≡ old.winners ++ key.id ∷ [])
    × (new.won ≡ slice_set old.won key.place true) × (new.last ≡ key.place))
    ⊎ (IsWonAt old.won key.place × (new.won ≡ old.won) × (new.last ≡ old.last)
    × (((old.last ≢ key.place) × (new.winners ≡ old.winners))
    ⊎ ((old.last ≡ key.place) × GivesWay a key.id old.winners new.winners)))

-- each place stands before those that follow
abbrev pub AreRising : Arena → List ℕ → Type 0
AreRising a [] = ⊤
AreRising a (id ∷ ids) = ((q : ℕ) → Contains ids q → pair_place a id < pair_place a q) × AreRising a ids

-- the winners among the ids that Seen holds of; 'won' was before, and 'last' is the place of the last winner, if there
-- is one
pub record IsChosen (a : Arena) (Seen : ℕ → Type 0) (won marks : List Bool) (winners : List ℕ) (last : ℕ) : Type 0 where
  pub seen : (w : ℕ) → Contains winners w → Seen w
  pub fresh : (w : ℕ) → Contains winners w → IsWonAt won (pair_place a w) → ⊥
  pub least : (w q : ℕ) → Contains winners w → Seen q → pair_place a q ≡ pair_place a w → id_cmp a q w ≡ Less → ⊥
  pub each : (q : ℕ) → Seen q → IsWonAt won (pair_place a q)
      ⊎ ((w : ℕ) × Contains winners w × (pair_place a w ≡ pair_place a q))
  pub rising : AreRising a winners
  pub marked : (k : ℕ) → k < length won → IsWonAt marks k
      ↔ (IsWonAt won k ⊎ ((w : ℕ) × Contains winners w × (pair_place a w ≡ k)))
  pub many : length marks ≡ length won
  pub last_is : ((winners ≡ []) × (last ≡ length won))
      ⊎ ((front : List ℕ) × (w : ℕ) × (winners ≡ front ++ w ∷ []) × (pair_place a w ≡ last))
