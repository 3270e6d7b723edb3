use Rattle.std.proofs.Common.{◌≡◌, ℕ, ◌<◌, get_or, Some}
use Rattle.apsp_model.specs.Walk.{last}
use Rattle.path_arena.specs.Arena.{list_of}
use Rattle.path_book.proofs.book.Book.extension.Given as goal

abbrev pub invariant-loop-longer : goal.invariant-loop-longer
invariant-loop-longer l =
    (k : ℕ) → k < l.longer-index → last (list_of l.self-inside.arena (get_or l.longer-items k 0)) ≡ Some l.v → ⊥
