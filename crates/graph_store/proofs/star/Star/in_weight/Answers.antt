use Rattle.std.proofs.Common.{◌≡◌, ◌<◌, length, None, sym, ◌∙◌, ap, arith}
use Rattle.std.proofs.lemmas.List.{get_or_read}
use Rattle.graph_store.proofs.StarRows.{in_weight-rows}
use Rattle.graph_store.proofs.star.Star.in_weight.Goals as goal

pub returns-clause-weight : goal.returns-clause-weight
returns-clause-weight c =
    let s = c.self.inside in
    let same : s.vertices ≡ c.args.self.now.vertices = ap (λ t. t.vertices) c.self.view_is in
    let inside : c.args.u < s.vertices = omega (arith, same, c.requires) in
    let place : c.args.u < length s.into.items = omega (arith, inside, c.self.invariant.into_size) in
    rw (← c.self.view_is) (get_or_read s.into.items _ _ place c.index.ensures None
    ∙ sym (in_weight-rows s.vertices s.vertex s.out.items s.into.items c.args.u inside c.self.invariant))
