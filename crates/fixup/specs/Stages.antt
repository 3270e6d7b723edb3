-- What the calls of a settling need and leave, by where it stands. No public clause cites this file.
use Rattle.std.specs.Prelude.{ℕ, List, [], Contains}
use Rattle.apsp_model.specs.Graph.{Graph}
use Rattle.path_book.specs.Book.{Book}
use Rattle.weight_classes.specs.Classes.{Classes}
use Rattle.fixup.specs.declared.listing.Join.{Join}
use Rattle.fixup.specs.Owing.{IsOwed}
use Rattle.fixup.specs.Stage.{Start, Stage}
use Rattle.fixup.specs.Growth.{InvariantHolds, ClassIsTaken, ClassIsSettled, PairsAreJoined}

abbrev pub InvariantHoldsOfSomeStart : ℕ → Book → Classes → Type 0
InvariantHoldsOfSomeStart birth b c = (s : Start) × InvariantHolds s.graph birth s.opening b c

abbrev pub ClassIsTakenAt : Stage → ℕ → List ℕ → Book → Classes → Type 0
ClassIsTakenAt s birth winners b c = ClassIsTaken s.graph birth s.opening s.class winners b c

abbrev pub ClassIsSettledAt : Stage → ℕ → Book → Classes → Type 0
ClassIsSettledAt s birth b c = ClassIsSettled s.graph birth s.opening s.class b c

abbrev pub AreOwedAt : Stage → List Join → Type 0
AreOwedAt s pairs = (j : Join) → Contains pairs j → IsOwed s.promoted s.winners j

abbrev pub SomeClassIsTaken : ℕ → List ℕ → Book → Classes → Type 0
SomeClassIsTaken birth winners b c = (s : Stage) × ClassIsTakenAt s birth winners b c

abbrev pub SomeClassOwes : ℕ → List Join → Book → Classes → Type 0
SomeClassOwes birth pairs b c = (s : Stage) × PairsAreJoined s birth [] b c × AreOwedAt s pairs
