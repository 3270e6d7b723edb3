-- What is done before the first class: edges are kept, and the least paths that are not historical are held. No public
-- clause cites this file.
use Rattle.std.specs.Prelude.{◌≡◌, ℕ, ◌⊎◌, Some, None}
use Rattle.apsp_model.specs.Graph.{Graph, weight_at}
use Rattle.path_arena.specs.Arena.{path_at, edge_path}
use Rattle.path_book.specs.Book.{Book, with_kept}

-- the edge from u to v is kept where the graph has it
abbrev pub IsEdgeFormed : Graph → Book → ℕ → ℕ → ℕ → Book → Type 0
IsEdgeFormed g b u v birth after =
    ((weight_at g u v ≡ None) × (after ≡ b))
    ⊎ ((w : ℕ) × (id : ℕ) × (weight_at g u v ≡ Some w) × (path_at b.arena id ≡ None)
    × (after ≡ with_kept b id (edge_path b.arena u v w birth)))
