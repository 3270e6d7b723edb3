use Rattle.std.proofs.Common.{◌≡◌, ◌∙◌, ◌<◌, ◌∷◌, [], Bool, false, List, length, sym, ap, inl, inr, arith, refl}
use Rattle.std.proofs.lemmas.Bool.{false≢true}
use Rattle.std.proofs.lemmas.List.{get_or_read}
use Rattle.weight_classes.specs.declared.choice.Key.{Key}
use Rattle.weight_classes.specs.Choice.{pair_place}
use Rattle.weight_classes.proofs.Rows.{place_inside}
use Rattle.weight_classes.proofs.Winning.{chosen_one}
use Rattle.weight_classes.proofs.choice.only.Goals as goal

pub returns-then-index-clause-chosen : goal.returns-then-index-clause-chosen
returns-then-index-clause-chosen c =
    let a = c.args.arena.now in
    let won : List Bool = c.args.won.now.items in
    let key : Key = c.make_key-key.result in
    let inside : pair_place a c.args.id < length won =
    omega (arith, place_inside a c.args.id c.make_key-key.ensures.ends, c.requires.pairs, c.args.won.now.ok.0) in
    let place : key.place ≡ pair_place a c.args.id = ap (λ (k : Key). k.place) c.make_key-key.ensures.is in (
      length won,
      chosen_one a (c.args.id ∷ []) won won [] [] (length won) (length won) c.args.id key refl refl refl refl inside
          c.make_key-key.ensures.is
          (inr (
            sym (get_or_read won key.place c.index.result.now (omega (arith, inside, place)) c.index.ensures false)
                ∙ c.if-index.true,
            refl,
            refl,
            inl (λ same. omega (arith, same, inside, place), refl),
          )),
    )

pub returns-clause-chosen : goal.returns-clause-chosen
returns-clause-chosen c =
    let a = c.args.arena.now in
    let won : List Bool = c.args.won.now.items in
    let key : Key = c.make_key-key.result in
    let inside : pair_place a c.args.id < length won =
    omega (arith, place_inside a c.args.id c.make_key-key.ensures.ends, c.requires.pairs, c.args.won.now.ok.0) in
    let place : key.place ≡ pair_place a c.args.id = ap (λ (k : Key). k.place) c.make_key-key.ensures.is in (
      key.place,
      chosen_one a (c.args.id ∷ []) won _ [] (c.args.id ∷ []) (length won) key.place c.args.id key refl refl refl refl
          inside c.make_key-key.ensures.is
          (inl (
            λ h. false≢true (sym c.if-index.false
                ∙ get_or_read won key.place c.index.result.now (omega (arith, inside, place)) c.index.ensures false
                ∙ h),
            ap (λ (k : Key). k.id ∷ []) (sym c.make_key-key.ensures.is),
            refl,
            refl,
          )),
    )
