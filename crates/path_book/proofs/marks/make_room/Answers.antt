use Rattle.std.proofs.Common.{◌≡◌, ◌∙◌, ap, rules, ◌++◌, ◌∷◌, [], false}
use Rattle.path_book.specs.Layout.{marked_in}
use Rattle.path_book.proofs.Places.{marked_longer}
use Rattle.path_book.proofs.marks.make_room.Goals as goal

pub room-preserved : goal.room-preserved
room-preserved c =
    let longer : c.push.new.self.items ≡ c.room.marks.items ++ false ∷ [] = search rules in
    ap marked_in longer ∙ marked_longer c.room.marks.items ∙ c.room.invariant
