-- Items that are put into a map, and items parted where their first number changes.
use Rattle.std.specs.Prelude.{ℕ, ◌==◌, if◌then◌else◌, List, [], ◌∷◌}
use Rattle.std.specs.FinMap as map
use Rattle.apsp_model.specs.Graph.{pair_cmp}

-- the items put into a map, one after the other
abbrev pub insert_all : {V : Type 0} → map.FinMap pair_cmp V → List ((ℕ × ℕ) × V) → map.FinMap pair_cmp V
insert_all m [] = m
insert_all m (e ∷ es) = insert_all (map.insert m e.0 e.1) es

-- an item before groups: in the first of them, where that has its first number, and else in a group of its own
abbrev pub onto_groups : {V : Type 0} → (ℕ × ℕ) × V → List (List ((ℕ × ℕ) × V)) → List (List ((ℕ × ℕ) × V))
onto_groups e [] = (e ∷ []) ∷ []
onto_groups e ([] ∷ gs) = (e ∷ []) ∷ gs
onto_groups e ((f ∷ g) ∷ gs) = if e.0.0 == f.0.0 then (e ∷ f ∷ g) ∷ gs else (e ∷ []) ∷ (f ∷ g) ∷ gs

-- the items in order, those behind one another with one first number in one group
abbrev pub groups_of : {V : Type 0} → List ((ℕ × ℕ) × V) → List (List ((ℕ × ℕ) × V))
groups_of [] = []
groups_of (e ∷ es) = onto_groups e (groups_of es)
