use Rattle.std.proofs.Common.{◌≡◌, ◌∙◌, sym, subst, ap, List, ℕ}
use Rattle.apsp_model.specs.Walk.{IsOnceEach}
use Rattle.pair_heaps.specs.Heaps.{Pair, IsHeap, held_at}
use Rattle.pair_heaps.proofs.Places.{written}
use Rattle.pair_heaps.proofs.heaps.Heaps.held.Goals as goal

lent : (c : goal.After-held) → c.held.result.now ≡ held_at c.args.self.now c.args.x c.args.y
lent c =
    let v = c.index-pair.result.now in
    let w = written c.self.inside.n c.self.inside.pairs.items c.args.self.now c.args.x c.args.y c.place.result v v
    c.self.view_is c.self.invariant c.requires.from c.requires.to c.place.ensures.is c.index-pair.ensures in
    c.held.ensures.held ∙ sym (ap (λ (p : Pair). p.held) w.was)

pub returns-clause-held : goal.returns-clause-held
returns-clause-held c = lent c

pub returns-clause-once : goal.returns-clause-once
returns-clause-once c = subst (λ (xs : List ℕ). IsOnceEach xs) (sym c.held.ensures.held) c.held.ensures.once

pub returns-clause-heap : goal.returns-clause-heap
returns-clause-heap c = λ a fits. subst (λ (xs : List ℕ). IsHeap a xs) (sym (lent c)) (fits.arranged c.args.x c.args.y)
