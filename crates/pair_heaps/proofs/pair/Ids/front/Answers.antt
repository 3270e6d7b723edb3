use Rattle.std.proofs.Common.{◌∙◌, sym, ap, subst, arith}
use Rattle.std.specs.Prelude.{slice_get}
use Rattle.pair_heaps.specs.declared.pair.Ids.{Ids}
use Rattle.pair_heaps.specs.declared.pair.Ids.TheVariants.{InBlock}
use Rattle.pair_heaps.specs.Layout.{IsPairHeap, pair_of, front_of}
use Rattle.pair_heaps.proofs.Pairs.{front_read}
use Rattle.pair_heaps.proofs.pair.Ids.front.Goals as goal

pub returns-in-InBlock-clause-noted : goal.returns-in-InBlock-clause-noted
returns-in-InBlock-clause-noted c = λ sound.
    let s : IsPairHeap (InBlock c.in-InBlock.len c.in-InBlock.front c.in-InBlock.field-2) =
    subst (λ (i : Ids). IsPairHeap i) c.in-InBlock.is sound in
    ap (λ (i : Ids). slice_get (pair_of i).held 0) c.in-InBlock.is
    ∙ front_read c.in-InBlock.field-2.value c.in-InBlock.len (omega (arith, s.0, s.3))
    ∙ ap (λ v. front_of c.in-InBlock.len v) (sym s.2)
