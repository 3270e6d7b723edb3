use Rattle.path_book.specs.Layout.{view_of}
use Rattle.path_book.proofs.Clean.{clean_cleared}
use Rattle.path_book.proofs.book.Book.note_clean.Goals as goal

pub invariant_of-self : goal.invariant_of-self
invariant_of-self c = record {
  stored = c.self.invariant.stored;
  dirty = clean_cleared (view_of c.self.inside) _ c.self.inside.dirty c.clear.new.self c.self.invariant.dirty
      c.self.view_is c.clear.ensures.vertices c.requires.clean;
}
