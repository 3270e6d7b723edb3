-- The second vertex of a path, as its record says it and as a version has it: for `Least::second`.
use Rattle.std.specs.Prelude.{◌≡◌, ℕ, List, [], ◌∷◌, Some}
use Rattle.path_arena.specs.Arena.{second}
use Rattle.version_face.specs.Entries.{second_of}

pub second_is : (p : List ℕ) (v : ℕ) → second p ≡ Some v → v ≡ second_of p
second_is [] v e = cc
second_is (x ∷ []) v e = cc
second_is (x ∷ z ∷ p) v e = cc
