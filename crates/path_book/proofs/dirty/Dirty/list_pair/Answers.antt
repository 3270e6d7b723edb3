use Rattle.std.proofs.Common.{◌≡◌, ◌++◌, ◌∷◌, [], rules}
use Rattle.path_book.proofs.Noted.{listed_noted}
use Rattle.path_book.proofs.dirty.Dirty.list_pair.Goals as goal

pub invariant_of-self-then-not-index : goal.invariant_of-self-then-not-index
invariant_of-self-then-not-index c =
    let longer : c.push.new.self.items ≡ c.self.inside.pairs.items ++ (c.args.x, c.args.y) ∷ [] = search rules in
    listed_noted c.self.inside.n c.self.inside.all c.self.inside.flags.items c.self.inside.pairs.items
    c.push.new.self.items _ c.args.x c.args.y c.place-place.result c.index.result.now c.self.invariant
    c.self.view_is c.requires.from c.requires.to c.place-place.ensures.is c.place-place.ensures.inside
    c.index.ensures c.if-not-index.true longer
