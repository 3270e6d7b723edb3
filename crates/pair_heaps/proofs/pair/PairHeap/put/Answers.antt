use Rattle.apsp_model.specs.Walk.{IsOnceEach}
use Rattle.std.proofs.Common.{◌≡◌, ◌+◌, ◌-◌, ap, subst, sym, ◌∙◌, refl, take}
use Rattle.pair_heaps.specs.declared.pair.Ids.{Ids}
use Rattle.pair_heaps.specs.declared.pair.Ids.TheVariants.{InPlace, InBlock}
use Rattle.pair_heaps.specs.declared.pair.PairHeap.TheInside.{Inside}
use Rattle.pair_heaps.specs.Heaps.{Pair}
use Rattle.pair_heaps.specs.Layout.{pair_of, id_count, with_len, IsPairHeap}
use Rattle.pair_heaps.proofs.Pairs.{IsPutIn, put_in}
use Rattle.pair_heaps.proofs.pair.PairHeap.put.Goals as goal
use Rattle.pair_heaps.proofs.pair.PairHeap.put.Goals.{in-InPlace, in-InBlock}

is_put : (c : goal.After-set_len) → IsPutIn c.args.arena.now c.args.id c.args.self.now c.set_len.new.self
is_put c = elim c.match-self.branch [
  | in-InPlace w ↦
      let k = c.len-len.result in
      let view : pair_of (InPlace w.in-InPlace.field-0 w.in-InPlace.few) ≡ c.args.self.now =
      subst (λ (i : Ids). pair_of i ≡ c.args.self.now) w.in-InPlace.is c.self.view_is in
      let as_many : k ≡ w.in-InPlace.field-0 = subst (λ (i : Ids). k ≡ id_count i) w.in-InPlace.is c.len-len.ensures in
      let sound : IsPairHeap (InPlace w.in-InPlace.field-0 w.in-InPlace.few) =
      subst (λ (i : Ids). IsPairHeap i) w.in-InPlace.is c.self.invariant in
      let now : c.set_len.new.self ≡ InPlace (k + 1) w.put.new.entries =
      c.set_len.ensures ∙ ap (λ (i : Inside). with_len i.ids (k + 1)) w.self-inside-is in
      subst (λ (i : Ids). IsPutIn c.args.arena.now c.args.id c.args.self.now i) (sym now)
      (put_in c.args.arena.now c.args.id k 3 c.args.self.now w.in-InPlace.few w.put.new.entries
      (InPlace (k + 1) w.put.new.entries)
      (ap (λ n. take n w.in-InPlace.few) as_many ∙ ap (λ (p : Pair). p.held) view)
      (ap (λ n. 3 - n) as_many ∙ ap (λ (p : Pair). p.spare) view)
      c.requires.room (subst (λ n. IsOnceEach (take n w.in-InPlace.few)) (sym as_many) sound.1) c.requires.fresh
      w.put.ensures.moved w.put.ensures.heap (λ h. h) refl)
  | in-InBlock w ↦
      let k = c.len-len.result in
      let view : pair_of (InBlock w.in-InBlock.field-0 w.in-InBlock.front w.in-InBlock.block) ≡ c.args.self.now =
      subst (λ (i : Ids). pair_of i ≡ c.args.self.now) w.in-InBlock.is c.self.view_is in
      let as_many : k ≡ w.in-InBlock.field-0 = subst (λ (i : Ids). k ≡ id_count i) w.in-InBlock.is c.len-len.ensures in
      let sound : IsPairHeap (InBlock w.in-InBlock.field-0 w.in-InBlock.front w.in-InBlock.block) =
      subst (λ (i : Ids). IsPairHeap i) w.in-InBlock.is c.self.invariant in
      let now : c.set_len.new.self ≡ InBlock (k + 1) w.put_in_block.result w.put_in_block.new.block =
      c.set_len.ensures ∙ ap (λ (i : Inside). with_len i.ids (k + 1)) w.self-inside-is in
      subst (λ (i : Ids). IsPutIn c.args.arena.now c.args.id c.args.self.now i) (sym now)
      (put_in c.args.arena.now c.args.id k 8 c.args.self.now w.in-InBlock.block.value w.put_in_block.new.block.value
      (InBlock (k + 1) w.put_in_block.result w.put_in_block.new.block)
      (ap (λ n. take n w.in-InBlock.block.value) as_many ∙ ap (λ (p : Pair). p.held) view)
      (ap (λ n. 8 - n) as_many ∙ ap (λ (p : Pair). p.spare) view)
      c.requires.room (subst (λ n. IsOnceEach (take n w.in-InBlock.block.value)) (sym as_many) sound.1) c.requires.fresh
      w.put_in_block.ensures.moved w.put_in_block.ensures.heap
      (λ h. (h.0, h.1, w.put_in_block.ensures.first, w.put_in_block.ensures.size)) refl)
]

pub invariant_of-self-2 : goal.invariant_of-self-2
invariant_of-self-2 c = (is_put c).sound

pub returns-clause-held : goal.returns-clause-held
returns-clause-held c = (is_put c).held

pub returns-clause-heap : goal.returns-clause-heap
returns-clause-heap c = (is_put c).heap
