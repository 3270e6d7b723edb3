use Rattle.std.proofs.Common.{false, ◌≡◌, ◌∙◌, ◌-◌, List, ℕ, length, get_or, set, sym, subst, ap, inr, arith, refl}
use Rattle.std.proofs.lemmas.List.{get_or_read, length-set}
use Rattle.smallvec.proofs.SmallVecLemmas.{items-with_items}
use Rattle.weight_classes.specs.Choice.{GivesWay}
use Rattle.weight_classes.proofs.Winning.{gives_way_at, less_from_test}
use Rattle.weight_classes.proofs.choice.consider.Goals as goal

pub returns-then-eq-clause-considered : goal.returns-then-eq-clause-considered
returns-then-eq-clause-considered c =
    let ids = c.args.winners.now.items in
    let lent = c.deref_mut.result.now in
    let end = c.len-end.result - 1 in
    let last = c.index-deref-end.result in
    inr (
      sym (get_or_read c.args.won.now.items c.args.key.place c.index.result.now
          (omega (arith, c.requires.inside, c.args.won.now.ok.0)) c.index.ensures false) ∙ c.if-not-index.false,
      refl,
      refl,
      inr (
        c.if-last-key.true,
        subst (GivesWay c.args.arena.now c.args.key.id ids)
            (sym (items-with_items c.args.winners.now (set lent end c.args.key.id)
            (length-set lent end c.args.key.id ∙ ap length c.deref_mut.ensures.value)
            ∙ ap (λ (xs : List ℕ). set xs end c.args.key.id) c.deref_mut.ensures.value))
            (gives_way_at c.args.arena.now c.args.key.id ids end last (c.requires.some c.if-last-key.true)
            (subst (λ (xs : List ℕ). last ≡ get_or xs end last) c.deref.ensures c.index-deref-end.is)
            (omega (arith, c.len-end.ensures.value, c.requires.some c.if-last-key.true))
            (sym c.compare.ensures.value ∙ less_from_test c.compare.result (sym c.eq.ensures ∙ c.if-eq.true))),
      ),
    )
