use Rattle.std.proofs.Common.{take}
use Rattle.apsp_model.specs.Graph.{Graph}
use Rattle.path_book.specs.Book.{kept_paths}
use Rattle.shortest_math.proofs.Searches.{IsPicked}
use Rattle.local_engine.specs.Kept.{CoversShortest}
use Rattle.local_engine.specs.Demoting.{size_at}
use Rattle.local_engine.proofs.Searching.{IsNotShortest}
use Rattle.local_engine.proofs.search.outdone.Given as goal

abbrev pub invariant-all : goal.invariant-all
invariant-all l = (g : Graph) → CoversShortest g (kept_paths l.book)
    → IsPicked (size_at l.book) (IsNotShortest g l.book) (take l.id-index l.id-items) l.paths.items
