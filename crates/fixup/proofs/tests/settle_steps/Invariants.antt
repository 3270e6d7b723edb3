use Rattle.std.proofs.Common.{◌≡◌, ℕ}
use Rattle.apsp_model.specs.Settled.{without_star, IsReady}
use Rattle.path_book.specs.Book.{kept_paths}
use Rattle.fixup.proofs.tests.settle_steps.Given as goal

abbrev pub invariant-steps : goal.invariant-steps
invariant-steps g l =
    (l.graph.vertices ≡ l.n) × (l.book.arena.vertices ≡ l.n)
    × ((v : ℕ) → without_star l.graph v ≡ l.graph → IsReady l.graph v (kept_paths l.book))
