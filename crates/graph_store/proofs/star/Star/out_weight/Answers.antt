use Rattle.std.proofs.Common.{◌≡◌, ◌<◌, length, None, sym, ◌∙◌, ap, arith}
use Rattle.std.proofs.lemmas.List.{get_or_read}
use Rattle.graph_store.proofs.StarRows.{out_weight-rows}
use Rattle.graph_store.proofs.star.Star.out_weight.Goals as goal

pub returns-clause-weight : goal.returns-clause-weight
returns-clause-weight c =
    let s = c.self.inside in
    let same : s.vertices ≡ c.args.self.now.vertices = ap (λ t. t.vertices) c.self.view_is in
    let inside : c.args.u < s.vertices = omega (arith, same, c.requires) in
    let place : c.args.u < length s.out.items = omega (arith, inside, c.self.invariant.out_size) in
    rw (← c.self.view_is) (get_or_read s.out.items _ _ place c.index.ensures None
    ∙ sym (out_weight-rows s.vertices s.vertex s.out.items s.into.items c.args.u inside c.self.invariant))
