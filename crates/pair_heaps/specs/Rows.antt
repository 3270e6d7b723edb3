-- How the heaps of all pairs show them. No public clause cites this module.
use Rattle.std.specs.Prelude.{◌≡◌, ℕ, ◌*◌, List, length}
use Rattle.pair_heaps.specs.declared.heaps.Heaps.TheInside.{Inside}
use Rattle.pair_heaps.specs.Heaps.{Pair, Heaps}

abbrev pub heaps_of : ℕ → List Pair → Heaps
heaps_of n pairs = record { vertices = n; pairs = pairs }

abbrev pub view_of : Inside → Heaps
view_of h = heaps_of h.n h.pairs.items

-- there are as many rows as vertices, each as long
abbrev pub IsHeaps : Heaps → Type 0
IsHeaps h = length h.pairs ≡ h.vertices * h.vertices

abbrev pub IsSound : Inside → Type 0
IsSound h = IsHeaps (view_of h)
