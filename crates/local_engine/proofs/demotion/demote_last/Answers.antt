use Rattle.std.proofs.Common.{rules, ◌≡◌, ◌++◌, ◌∷◌, [], subst}
use Rattle.local_engine.specs.Demoting.{AreToDemote}
use Rattle.local_engine.proofs.Turns.{none_pending_yet}
use Rattle.local_engine.proofs.demotion.demote_last.Goals as goal

pub note_clean-requires : goal.note_clean-requires
note_clean-requires c =
    let is : c.args.left.now.paths.items ≡ c.pop.new.self.items ++ c.in-Some.id ∷ [] = search rules in
    let all : AreToDemote c.args.graph.now c.args.book.now (c.pop.new.self.items ++ c.in-Some.id ∷ []) =
    subst (AreToDemote c.args.graph.now c.args.book.now) is (c.requires.paths c.if-left.false) in
    record {
      clean = none_pending_yet c.args.graph.now c.demote.new.book c.pop.new.self.items
          (c.in-Ok.ensures.rest c.pop.new.self.items all);
    }
