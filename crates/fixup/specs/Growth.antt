-- What a settling has done to a book by now. No public clause cites this file.
use Rattle.std.specs.Prelude.{◌≡◌, ◌≢◌, ℕ, ◌<◌, ◌⊎◌, ◌↔◌, List, [], ◌∷◌, ◌++◌, length, Some, None, option_to_list, Contains}
use Rattle.apsp_model.specs.Graph.{Graph, HasEdge}
use Rattle.apsp_model.specs.Walk.{weight_of, first, last}
use Rattle.path_arena.specs.Arena.{Arena, Path, path_at, list_of, IsLive}
use Rattle.path_book.specs.Book.{Book, IsBook, ArePendingLeasts}
use Rattle.weight_classes.specs.Classes.{Classes, Rank, ClassesFit, IsHeldWithRank, InOrder}
use Rattle.fixup_math.specs.Settling.{FormingInvariant, SettlingInvariant, ClassInvariant}
use Rattle.fixup_math.specs.Joins.{IsJoin, Then}
use Rattle.fixup_math.specs.Ranks.{ByWeightThenHops}
use Rattle.fixup.specs.declared.listing.Join.{Join}
use Rattle.fixup.specs.Owing.{IsPromoted, IsOwed}
use Rattle.fixup.specs.Stage.{Stage}
use Rattle.fixup.specs.Views.{Kept, Marked, HeldIn, WonIn}

-- b has what the book b0 had, and else paths of this birth; the weights are those of the graph
pub record IsGrown (g : Graph) (birth : ℕ) (b0 b : Book) : Type 0 where
  pub lawful : IsBook b
  pub vertices : b.arena.vertices ≡ g.vertices
  pub weights : (id : ℕ) (p : Path) → path_at b.arena id ≡ Some p → p.weight ≡ weight_of g p.list
  pub old : (id : ℕ) (p : Path) → path_at b0.arena id ≡ Some p → path_at b.arena id ≡ Some p
  pub new : (id : ℕ) (p : Path) → path_at b.arena id ≡ Some p
      → (path_at b0.arena id ≡ Some p) ⊎ ((path_at b0.arena id ≡ None) × (p.birth ≡ birth))

-- ---- before the first class

-- the edges from v to the vertices below i, and to v from those below j
abbrev pub EdgesBy : Graph → ℕ → ℕ → ℕ → List ℕ → Type 0
EdgesBy g v i j p =
    ((u : ℕ) × (u < i) × HasEdge g v u × (p ≡ v ∷ u ∷ [])) ⊎ ((u : ℕ) × (u < j) × HasEdge g u v × (p ≡ u ∷ v ∷ []))

-- these edges are formed by now
pub record EdgesAreFormed (g : Graph) (v birth : ℕ) (b0 : Book) (i j : ℕ) (b : Book) : Type 0 where
  pub grown : IsGrown g birth b0 b
  pub marks : b.marked ≡ b0.marked
  pub kept : (p : List ℕ) → Kept b p ↔ (Kept b0 p ⊎ EdgesBy g v i j p)

-- the edges of the pairs that stand before that of x and y, row by row
abbrev pub EdgesBefore : Graph → ℕ → ℕ → List ℕ → Type 0
EdgesBefore g x y p =
    (u : ℕ) × (v : ℕ) × ((u < x) ⊎ ((u ≡ x) × (v < y))) × HasEdge g u v × (p ≡ u ∷ v ∷ [])

-- .. these are formed by now
pub record RowsAreFormed (g : Graph) (birth : ℕ) (b0 : Book) (x y : ℕ) (b : Book) : Type 0 where
  pub grown : IsGrown g birth b0 b
  pub marks : b.marked ≡ b0.marked
  pub kept : (p : List ℕ) → Kept b p ↔ (Kept b0 p ⊎ EdgesBefore g x y p)

-- these ids are held by now, and nothing else is
pub record ExactlyTheseAreHeld (a : Arena) (ids : List ℕ) (c : Classes) : Type 0 where
  pub fits : ClassesFit c a
  pub none_won : (u v : ℕ) → WonIn c u v → ⊥
  pub held : (id : ℕ) → ((r : Rank) × IsHeldWithRank c r id) ↔ Contains ids id

-- the least kept paths of the pairs that are not historical are held, and nothing else is
pub record HeadsAreHeld (b : Book) (c : Classes) : Type 0 where
  pub heads : List ℕ
  pub are : ArePendingLeasts b b.arena.vertices heads
  pub queueing : ExactlyTheseAreHeld b.arena heads c

-- ---- the classes

-- what holds of a settling before each class, where the book was b0 at its start
pub record InvariantHolds (g : Graph) (birth : ℕ) (b0 b : Book) (c : Classes) : Type 0 where
  pub grown : IsGrown g birth b0 b
  pub fits : ClassesFit c b.arena
  pub held_long : (p : List ℕ) → HeldIn b c p → 1 < length p
  pub settling : SettlingInvariant g (Marked b0) (Marked b) (Kept b) (HeldIn b c) (WonIn c)

-- .. and where nothing is held any more
pub record InvariantHoldsAtTheEnd (g : Graph) (birth : ℕ) (b0 b : Book) : Type 0 where
  pub classes : Classes
  pub at : InvariantHolds g birth b0 b classes
  pub empty : (r : Rank) (id : ℕ) → IsHeldWithRank classes r id → ⊥

-- the lists of these ids
abbrev pub ListedIn : Book → List ℕ → List ℕ → Type 0
ListedIn b ids p = (w : ℕ) × Contains ids w × (list_of b.arena w ≡ p)

-- the class of cl is taken, and these are its winners, in the order of their pairs; none is promoted yet
pub record ClassIsTaken (g : Graph) (birth : ℕ) (b0 : Book) (cl : List ℕ) (winners : List ℕ) (b : Book)
    (c : Classes) : Type 0 where
  pub grown : IsGrown g birth b0 b
  pub fits : ClassesFit c b.arena
  pub live : (w : ℕ) → Contains winners w → IsLive b.arena w
  pub in_order : InOrder b.arena winners
  pub held_long : (p : List ℕ) → HeldIn b c p → 1 < length p
  pub above : (p : List ℕ) → HeldIn b c p → ByWeightThenHops g p cl → ⊥
  pub inside : ClassInvariant g (ByWeightThenHops g) (Marked b0) (Marked b) (Kept b) (HeldIn b c) (ListedIn b winners)
      (WonIn c) cl

-- the class is done: the next can be taken, and what is held ranks higher
pub record ClassIsSettled (g : Graph) (birth : ℕ) (b0 : Book) (cl : List ℕ) (b : Book) (c : Classes) : Type 0 where
  pub at : InvariantHolds g birth b0 b c
  pub above : (p : List ℕ) → HeldIn b c p → ByWeightThenHops g p cl → ⊥

-- these joins of the winners of a class are formed by now
pub record JoinsAreFormed (s : Stage) (birth : ℕ) (done : List (List ℕ)) (b : Book) (c : Classes) : Type 0 where
  pub start : ClassIsTaken s.graph birth s.opening s.class s.winners s.before s.held
  pub promotion : IsPromoted s.before s.winners s.promoted
  pub grown : IsGrown s.graph birth s.opening b
  pub fits : ClassesFit c b.arena
  pub marks : b.marked ≡ s.promoted.marked
  pub still : (id : ℕ) → IsLive s.before.arena id → path_at b.arena id ≡ path_at s.before.arena id
  pub won : c.won ≡ s.held.won
  pub vertices : c.vertices ≡ s.held.vertices
  pub joins : (p : List ℕ) → Contains done p → IsJoin s.graph (Marked s.before) (ListedIn s.before s.winners) p
  pub forming : FormingInvariant s.graph (Then (Marked s.before) (ListedIn s.before s.winners)) (Kept s.before)
      (HeldIn s.before s.held) (WonIn s.held) done (Kept b) (HeldIn b c)

-- the join of one of these pairs, unless its first vertex would be its last
abbrev pub JoinOf : Book → List Join → List ℕ → Type 0
JoinOf before pairs p = (j : Join) × Contains pairs j
    × (first (list_of before.arena j.left) ≢ last (list_of before.arena j.right))
    × (p ≡ list_of before.arena j.left ++ option_to_list (last (list_of before.arena j.right)))

-- .. those of these pairs are
pub record PairsAreJoined (s : Stage) (birth : ℕ) (pairs : List Join) (b : Book) (c : Classes) : Type 0 where
  pub done : List (List ℕ)
  pub forming : JoinsAreFormed s birth done b c
  pub owed : (j : Join) → Contains pairs j → IsOwed s.promoted s.winners j
  pub are : (p : List ℕ) → Contains done p ↔ JoinOf s.before pairs p
