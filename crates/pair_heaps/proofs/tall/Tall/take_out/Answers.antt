use Rattle.std.proofs.Common.{◌∙◌, ◌-◌, ◌++◌, sym, subst, ap, arith, drop, take, length, List, ℕ}
use Rattle.pair_heaps.specs.Heaps.{Pair, IsAllBut}
use Rattle.pair_heaps.proofs.Fronts.{lowered}
use Rattle.pair_heaps.proofs.tall.Tall.take_out.Goals as goal

is_out : (c : goal.After-truncate) → IsAllBut c.args.id c.self.inside.ids.items c.truncate.new.self.items
is_out c =
    let xs = c.self.inside.ids.items in
    let ys = c.take_out.new.entries in
    let n = c.self.inside.ids.len in
    let whole = lowered c.args.id n xs c.deref_mut.result.now ys (drop (length ys) xs)
    c.deref_mut.ensures.value c.deref_mut.ensures.len c.take_out.ensures.moved
    (omega (arith, c.take_out.auto.entries, c.deref_mut.ensures.len)) c.self.invariant in
    subst (λ (zs : List ℕ). IsAllBut c.args.id xs zs)
    (sym (c.truncate.ensures.items ∙ ap (λ m. take (m - 1) (take n (ys ++ drop (length ys) xs)))
    c.len-last.ensures)) whole

pub invariant_of-self : goal.invariant_of-self
invariant_of-self c = (is_out c).once

pub returns-clause-held : goal.returns-clause-held
returns-clause-held c =
    subst (λ (p : Pair). IsAllBut c.args.id p.held c.truncate.new.self.items) c.self.view_is (is_out c)
