use Rattle.std.proofs.Common.{◌∙◌, ◌∷◌, ◌++◌, [], sym, subst, arith, drop, take, length, List, ℕ, ◌≡◌, Contains}
use Rattle.pair_heaps.specs.Heaps.{Pair, IsHeap, IsWith}
use Rattle.pair_heaps.specs.Sifting.{AreLive, IsRising}
use Rattle.pair_heaps.proofs.Fronts.{front_heap, raised}
use Rattle.pair_heaps.proofs.Sifted.{pushed_rises, live_push}
use Rattle.pair_heaps.proofs.tall.Tall.put.Goals as goal

pub rise-requires-clause-live : goal.rise-requires-clause-live
rise-requires-clause-live c =
    let a = c.args.arena.now in
    subst (λ (ys : List ℕ). AreLive a ys) (sym (c.deref_mut.ensures.value ∙ c.push_reserved.ensures.items))
    (live_push a c.self.inside.ids.items c.args.id
    (subst (λ (p : Pair). AreLive a p.held) (sym c.self.view_is) c.requires.all_live) c.requires.live)

pub rise-requires-clause-rising : goal.rise-requires-clause-rising
rise-requires-clause-rising c =
    let a = c.args.arena.now in
    let xs = c.self.inside.ids.items in
    let at : length xs ≡ c.len-at.result = omega (arith, c.len-at.ensures, c.self.inside.ids.ok.0) in
    subst (λ (ys : List ℕ). IsRising a ys c.len-at.result)
    (sym (c.deref_mut.ensures.value ∙ c.push_reserved.ensures.items))
    (subst (λ n. IsRising a (xs ++ c.args.id ∷ []) n) at
    (pushed_rises a xs c.args.id (subst (λ (p : Pair). IsHeap a p.held) (sym c.self.view_is) c.requires.heap)))

is_put : (c : goal.After-self-1) → IsWith c.args.id c.self.inside.ids.items
    (take c.push_reserved.new.self.len (c.rise.new.ids ++ drop (length c.rise.new.ids) c.push_reserved.new.self.items))
is_put c =
    raised c.args.id c.push_reserved.new.self.len c.self.inside.ids.items c.deref_mut.result.now c.rise.new.ids
    (drop (length c.rise.new.ids) c.push_reserved.new.self.items)
    (c.deref_mut.ensures.value ∙ c.push_reserved.ensures.items) c.rise.ensures.moved
    (omega (arith, c.rise.auto.ids, c.deref_mut.ensures.len))
    c.self.invariant (subst (λ (p : Pair). Contains p.held c.args.id → ⊥) (sym c.self.view_is) c.requires.fresh)

pub invariant_of-self : goal.invariant_of-self
invariant_of-self c = (is_put c).once

pub returns-clause-held : goal.returns-clause-held
returns-clause-held c =
    subst (λ (p : Pair). IsWith c.args.id p.held
    (take c.push_reserved.new.self.len (c.rise.new.ids ++ drop (length c.rise.new.ids) c.push_reserved.new.self.items)))
    c.self.view_is (is_put c)

pub returns-clause-heap : goal.returns-clause-heap
returns-clause-heap c =
    front_heap c.args.arena.now c.rise.new.ids (drop (length c.rise.new.ids) c.push_reserved.new.self.items)
    c.push_reserved.new.self.len (omega (arith, c.rise.auto.ids, c.deref_mut.ensures.len)) c.rise.ensures.heap
