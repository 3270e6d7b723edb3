use Rattle.std.proofs.Common.{sym}
use Rattle.path_book.specs.Layout.{marked_in, IsStored}
use Rattle.path_book.proofs.Opening.{opened_all}
use Rattle.path_book.proofs.Clean.{clean_opening}
use Rattle.path_book.proofs.book.Book.new.Goals as goal

stored : (c : goal.In_ok-enter_vertices) → IsStored
    (record {
      arena = c.in_ok-arena.arena;
      marked = marked_in c.enter_vertices.new.marks.items;
      lists
          = c.enter_vertices.new.lists;
    }) c.in_ok-heaps.heaps 0 0
stored c =
    opened_all c.in_ok-arena.arena c.in_ok-heaps.heaps c.enter_vertices.new.lists c.enter_vertices.new.marks.items
    c.args.n c.in_ok-arena.ensures.lawful c.in_ok-arena.ensures.opening
    (c.in_ok-heaps.ensures.fits c.in_ok-arena.arena c.in_ok-arena.ensures.opening.vertices) c.in_ok-heaps.ensures.empty
    c.in_ok-enter_vertices.ensures

pub invariant_of-result : goal.invariant_of-result
invariant_of-result c = record {
  stored = stored c;
  dirty =
      clean_opening (record {
        arena = c.in_ok-arena.arena;
        marked = marked_in c.enter_vertices.new.marks.items;
        lists
            = c.enter_vertices.new.lists;
      }) c.args.n c.in_ok-dirty.dirty (stored c).book
      (record { vertices = c.in_ok-arena.ensures.opening.vertices; live = c.in_ok-arena.ensures.opening.live })
      (sym c.in_ok-dirty.ensures.vertices);
}

pub returns-clause-opening : goal.returns-clause-opening
returns-clause-opening c =
    record { vertices = c.in_ok-arena.ensures.opening.vertices; live = c.in_ok-arena.ensures.opening.live }

pub returns-clause-lawful : goal.returns-clause-lawful
returns-clause-lawful c = (stored c).book
