use Rattle.std.proofs.Common.{◌≡◌, ◌∙◌, sym, ap, subst, arith, rules, take, Contains, List, ℕ, map, length, is_ok, true, ◌+◌}
use Rattle.std.proofs.lemmas.List.{take_all, length-map, length-take-le}
use Rattle.std.proofs.lemmas.List.Sorted.{IsNonDecreasingBy-from_sort_by_key}
use Rattle.weight_classes.specs.Choice.{key_of}
use Rattle.weight_classes.proofs.Winning.{keys_of_ids, filled_more, ends_more}
use Rattle.weight_classes.proofs.choice.fill.Goals as goal

pub returns-clause-keys : goal.returns-clause-keys
returns-clause-keys c =
    let a = c.args.arena.now in
    let all : take c.filling.id-index c.args.ids.now ≡ c.args.ids.now =
    take_all c.filling.id-index c.args.ids.now c.filling-test.false in
    keys_of_ids a c.args.ids.now c.filling.keys.items c.sort_unstable_by_key.new.self.items
    (c.filling.invariant.0 ∙ ap (map (key_of a)) all) c.sort_unstable_by_key.ensures.permutation
    (IsNonDecreasingBy-from_sort_by_key (λ k. k.place) _ c.sort_unstable_by_key.ensures.sorted
    (λ x r q k. search rules))
    (λ q h. c.filling.invariant.4 q (subst (λ (xs : List ℕ). Contains xs q) (sym all) h))

pub returns-clause-capacity : goal.returns-clause-capacity
returns-clause-capacity c = omega (arith, c.filling.invariant.3, c.sort_unstable_by_key.ensures.capacity)

pub filling-preserved : goal.filling-preserved
filling-preserved c =
    let a = c.args.arena.now in
    let room : is_ok c.push.result ≡ true =
    c.push.ensures.succeeds (omega (arith, c.filling.invariant.1, c.filling.invariant.2, c.filling-test.true)) in
    let items =
    filled_more (is_ok c.push.result) a c.args.ids.now c.filling.keys.items c.push.new.self.items c.filling.id-index
    c.id-item.result c.make_key.result room c.push.ensures.items c.filling.invariant.0 c.make_key.ensures.is
    c.filling-test.true c.id-item.is in (
      items,
      omega (
        arith,
        c.push.new.self.ok.0,
        ap length items,
        length-map (take (c.filling.id-index + 1) c.args.ids.now)
            (key_of a),
        length-take-le (c.filling.id-index + 1) c.args.ids.now (omega (arith, c.filling-test.true)),
      ),
      omega (arith, c.filling.invariant.2, c.push.ensures.capacity),
      omega (arith, c.filling.invariant.3, c.push.ensures.capacity),
      ends_more a c.args.ids.now c.filling.id-index c.id-item.result c.filling.invariant.4 c.make_key.ensures.ends
          c.filling-test.true c.id-item.is,
    )
