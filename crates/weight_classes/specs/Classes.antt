-- The ids that are held by weight and number of edges, the pairs that are won, and what taking a class gives.
use Rattle.std.specs.Prelude.{◌≡◌, ℕ, ◌+◌, ◌*◌, ◌<◌, ◌⊎◌, ◌↔◌, ⊤, Bool, true, false, List, [], ◌∷◌, ◌++◌, length, map, slice_index_or, unwrap_or, refl, Contains}
use Rattle.std.specs.List.Sorted.{IsPermutation}
use Rattle.std.specs.Ordering.{nat_cmp, ordering_then}
use Rattle.std.specs.declared.cmp.Ordering.{Ordering}
use Rattle.std.specs.declared.cmp.Ordering.TheVariants.{Less}
use Rattle.std.specs.Coded.{Coded, code_by, coded×, coded_ℕ, coded_list, coded_bool}
use Rattle.apsp_model.specs.Walk.{first, last, hops_of}
use Rattle.path_arena.specs.Arena.{Arena, IsLive, list_of, weight_of_id, id_cmp}

-- classes go by weight, and then by the number of edges
pub record Rank : Type 0 where
  pub weight : ℕ
  pub hops : ℕ

abbrev pub IsLower : Rank → Rank → Type 0
IsLower r s = (r.weight < s.weight) ⊎ ((r.weight ≡ s.weight) × (r.hops < s.hops))

-- the number of vertices, the ids that are held, each with its rank, and for each pair, row by row, whether it is won
pub record Classes : Type 0 where
  pub vertices : ℕ
  pub held : List (Rank × ℕ)
  pub won : List Bool

abbrev pub rank_code : Coded Rank
rank_code =
    code_by (ℕ × ℕ) (coded× coded_ℕ coded_ℕ) (λ r. (r.weight, r.hops)) (λ t. record { weight = t.0; hops = t.1 })
    (λ _. refl)

abbrev pub classes_code : Coded Classes
classes_code =
    code_by (ℕ × (List (Rank × ℕ) × List Bool))
    (coded× coded_ℕ (coded× (coded_list (coded× rank_code coded_ℕ)) (coded_list coded_bool)))
    (λ c. (c.vertices, (c.held, c.won))) (λ t. record { vertices = t.0; held = t.1.0; won = t.1.1 }) (λ _. refl)

abbrev pub IsWon : Classes → ℕ → ℕ → Type 0
IsWon c x y = slice_index_or c.won (x * c.vertices + y) false ≡ true

-- the id is held with this rank
abbrev pub IsHeldWithRank : Classes → Rank → ℕ → Type 0
IsHeldWithRank c r id = Contains c.held (r, id)

abbrev pub first_of : Arena → ℕ → ℕ
first_of a id = unwrap_or (first (list_of a id)) 0

abbrev pub last_of : Arena → ℕ → ℕ
last_of a id = unwrap_or (last (list_of a id)) 0

abbrev pub SamePair : Arena → ℕ → ℕ → Type 0
SamePair a p q = (first_of a p ≡ first_of a q) × (last_of a p ≡ last_of a q)

-- by first vertex, then by last vertex
abbrev pub ends_cmp : Arena → ℕ → ℕ → Ordering
ends_cmp a p q = ordering_then (nat_cmp (first_of a p) (first_of a q)) (nat_cmp (last_of a p) (last_of a q))

abbrev pub rank_of : Arena → ℕ → Rank
rank_of a id = record { weight = weight_of_id a id; hops = hops_of (list_of a id) }

-- the arena has as many vertices, each held id is live in it, and its rank is what the arena gives for it
pub record ClassesFit (c : Classes) (a : Arena) : Type 0 where
  pub vertices : a.vertices ≡ c.vertices
  pub live : (r : Rank) (id : ℕ) → IsHeldWithRank c r id → IsLive a id
  pub ranks : (r : Rank) (id : ℕ) → IsHeldWithRank c r id → rank_of a id ≡ r

-- a class that was taken: its rank, and its winners
pub record Taken : Type 0 where
  pub rank : Rank
  pub winners : List ℕ

-- holds one id more
pub record IsPushed (old new : Classes) (a : Arena) (id : ℕ) : Type 0 where
  pub held : IsPermutation ((rank_of a id, id) ∷ old.held) new.held
  pub vertices : new.vertices ≡ old.vertices
  pub won : new.won ≡ old.won

-- each stands before all that follow it
abbrev pub InOrder : Arena → List ℕ → Type 0
InOrder a [] = ⊤
InOrder a (id ∷ ids) = ((q : ℕ) → Contains ids q → ends_cmp a id q ≡ Less) × InOrder a ids

-- of each pair among the taken ids that was not won, the winner is one that none of them is below
pub record IsWinners (a : Arena) (won : ℕ → ℕ → Type 0) (Taken : ℕ → Type 0) (winners : List ℕ) : Type 0 where
  pub taken : (w : ℕ) → Contains winners w → Taken w
  pub fresh : (w : ℕ) → Contains winners w → won (first_of a w) (last_of a w) → ⊥
  pub least : (w q : ℕ) → Contains winners w → Taken q → SamePair a q w → id_cmp a q w ≡ Less → ⊥
  pub each : (q : ℕ) → Taken q → won (first_of a q) (last_of a q) ⊎ ((w : ℕ) × Contains winners w × SamePair a w q)
  pub in_order : InOrder a winners

-- these ids, each with this rank
abbrev pub ranked : Rank → List ℕ → List (Rank × ℕ)
ranked r ids = map (λ id. (r, id)) ids

-- what was held is the class, which has this rank, and what is still held, which ranks higher; the pairs of the winners
-- are won
pub record IsPopped (old new : Classes) (a : Arena) (rank : Rank) (winners : List ℕ) : Type 0 where
  pub class : List ℕ
  pub some : 0 < length class
  pub held : IsPermutation old.held (ranked rank class ++ new.held)
  pub above : (r : Rank) (id : ℕ) → IsHeldWithRank new r id → IsLower rank r
  pub are_winners : IsWinners a (IsWon old) (Contains class) winners
  pub vertices : new.vertices ≡ old.vertices
  pub won : (x y : ℕ) → x < old.vertices → y < old.vertices → IsWon new x y
      ↔ (IsWon old x y ⊎ ((w : ℕ) × Contains winners w × (first_of a w ≡ x) × (last_of a w ≡ y)))

-- the two arenas have as many vertices, and each held id is live in the second with the rank that it has in the first
pub record AgreeOnRanks (c : Classes) (a b : Arena) : Type 0 where
  pub vertices : b.vertices ≡ a.vertices
  pub live : (r : Rank) (id : ℕ) → IsHeldWithRank c r id → IsLive b id
  pub ranks : (r : Rank) (id : ℕ) → IsHeldWithRank c r id → rank_of b id ≡ rank_of a id
