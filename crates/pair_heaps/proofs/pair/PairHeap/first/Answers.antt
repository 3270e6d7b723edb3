use Rattle.std.proofs.Common.{◌∙◌, sym, ap}
use Rattle.std.specs.Prelude.{slice_get}
use Rattle.pair_heaps.specs.Heaps.{Pair}
use Rattle.pair_heaps.proofs.Pairs.{front_some}
use Rattle.pair_heaps.proofs.pair.PairHeap.first.Goals as goal

pub returns-else-len-eq0 : goal.returns-else-len-eq0
returns-else-len-eq0 c =
    front_some c.front-len.result.0 c.front-len.result.1 _ c.if-len-eq0.false
    (ap (λ (p : Pair). slice_get p.held 0) (sym c.self.view_is) ∙ c.front-len.ensures.noted c.self.invariant)
