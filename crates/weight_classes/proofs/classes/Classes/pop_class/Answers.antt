use Rattle.std.proofs.Common.{◌≡◌, [], List, sym, ap, subst, rules, ◌∙◌, slice_set}
use Rattle.weight_classes.specs.Classes.{Classes, ClassesFit, IsPopped}
use Rattle.weight_classes.specs.declared.buckets.Bucket.{Bucket}
use Rattle.weight_classes.specs.Inside.{IsNextBucket, AreTurns, AreEmpty, idss_in, ranks_in, shown_by}
use Rattle.weight_classes.proofs.Pops.{none_held}
use Rattle.weight_classes.proofs.classes.Classes.pop_class.Goals as goal

pub returns-in_err-at-clause-class : goal.returns-in_err-at-clause-class
returns-in_err-at-clause-class c =
    let empty : c.args.self.now.held ≡ [] =
    none_held c.args.self.now c.self.inside.n c.self.inside.buckets.items c.self.inside.won.items c.self.view_is
    (subst AreEmpty c.deref.ensures.value c.in_err-at.ensures.none) in search rules

pub class_at-class-requires-clause-vertices : goal.class_at-class-requires-clause-vertices
class_at-class-requires-clause-vertices c =
    c.requires.fits.vertices ∙ sym (ap (λ (h : Classes). h.vertices) c.self.view_is)

pub class_at-class-requires-clause-fits : goal.class_at-class-requires-clause-fits
class_at-class-requires-clause-fits c =
    subst (λ (h : Classes). ClassesFit h c.args.arena.now) (sym c.self.view_is) c.requires.fits

pub class_at-class-requires-clause-room : goal.class_at-class-requires-clause-room
class_at-class-requires-clause-room c = c.self.invariant.room

pub class_at-class-requires-clause-pairs : goal.class_at-class-requires-clause-pairs
class_at-class-requires-clause-pairs c = c.self.invariant.pairs

pub invariant_of-self-2 : goal.invariant_of-self-2
invariant_of-self-2 c = record {
  pairs = c.class_at-class.ensures.pairs ∙ c.self.invariant.pairs;
  room = c.class_at-class.ensures.room;
  indexed = c.class_at-class.ensures.same c.self.inside.heads.items c.self.invariant.indexed;
  queue = c.class_at-class.ensures.queue c.next.new.turns.items
      (subst (λ (bs : List Bucket). AreTurns c.next.new.turns.items (ranks_in bs)
      (slice_set (idss_in bs) c.in_ok-at.at [])) c.deref.ensures.value c.in_ok-at.ensures.others);
}

pub returns-clause-class : goal.returns-clause-class
returns-clause-class c =
    subst (λ (h : Classes). IsPopped h (shown_by c.self.inside.n c.class_at-class.new.buckets.items
    c.class_at-class.new.won.items) c.args.arena.now c.class_at-class.result.rank c.class_at-class.result.winners)
    c.self.view_is
    (c.class_at-class.ensures.popped c.self.inside.heads.items c.self.invariant.indexed
    (subst (λ (bs : List Bucket). IsNextBucket bs c.in_ok-at.at) c.deref.ensures.value c.in_ok-at.ensures.some))

pub returns-clause-fits : goal.returns-clause-fits
returns-clause-fits c = c.class_at-class.ensures.fits
