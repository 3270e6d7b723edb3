use Rattle.std.proofs.Common.{◌≡◌, ◌++◌, drop}
use Rattle.path_arena.specs.Arena.{IsLive, list_of}
use Rattle.path_book.proofs.book.Book.birth_of.Given as goal

abbrev pub invariant-loop-v : goal.invariant-loop-v
invariant-loop-v l = record {
  live : IsLive l.self-inside.arena l.id;
  list : list_of l.self-inside.arena l.id ++ drop l.v-index l.v-items ≡ l.list;
}
