use Rattle.std.proofs.Common.{◌≡◌, ℕ, ◌++◌, take, Contains}
use Rattle.apsp_model.specs.Walk.{IsOnceEach}
use Rattle.extension_lists.specs.Known.{sides_at}
use Rattle.cleanup_tasks.specs.Walk.{side_of, extensions_of}
use Rattle.cleanup_tasks.proofs.search.push_extensions.Given as goal

abbrev pub invariant-list : goal.invariant-list
invariant-list l =
    (l.ids.items ≡ l.initial.ids.items ++ extensions_of l.side l.book (take l.path-index l.list))
    × ((p : ℕ) → Contains (take l.path-index l.list) p → IsOnceEach (side_of l.side (sides_at l.book.lists p)))
