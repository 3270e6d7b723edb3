use Rattle.std.proofs.Common.{◌≡◌, refl, sym, subst}
use Rattle.std.proofs.lemmas.Iterator.{items_from_collect}
use Rattle.std.proofs.lemmas.Iterator.Consumers.{YieldsList-from_first}
use Rattle.version_face.specs.Entries.{WalkIs}
use Rattle.block_run.proofs.Found.{ok_at}
use Rattle.block_run.proofs.read.walk_of.Goals as goal

pub returns : goal.returns
returns c =
    let same : c.in-Ok.items.items ≡ c.walk.result =
    ok_at (λ v. v.items ≡ c.walk.result) c.collect.result c.in-Ok.items c.in-Ok.is
    (items_from_collect _ c.collect.ensures.ran (YieldsList-from_first (λ x. x) (λ w. w) c.walk.result refl)) in
    subst (λ list. WalkIs c.args.version.now.graph c.args.ask.now.x c.args.ask.now.y list) (sym same) c.walk.ensures
