use Rattle.std.proofs.Common.{◌++◌, refl, ap, ◌∙◌}
use Rattle.std.specs.Prelude.{string_bytes}
use Rattle.network_replies.specs.Replies.{number_text}
use Rattle.network_replies.proofs.Texts.{numbers_more, numbers_all, walk_put}
use Rattle.network_replies.proofs.replies.put_walk.Goals as goal

pub loop-vertex-init : goal.loop-vertex-init
loop-vertex-init c = refl

pub loop-vertex-preserved : goal.loop-vertex-preserved
loop-vertex-preserved c =
    let put =
    c.in_ok-put_number-2.ensures ∙ ap (λ k. string_bytes c.loop-vertex.text ++ number_text k) c.from.ensures in
    numbers_more _ _ _ _ _ _ c.in-Some.ensures.steps put c.loop-vertex.invariant

pub returns : goal.returns
returns c =
    walk_put _ _ _ _ _ _ _ _ (numbers_all _ _ _ c.in-None.ensures.steps.0 c.loop-vertex.invariant)
    c.in_ok-put_number.ensures c.in_ok-push_str.ensures.bytes
    (c.into_iter-vertex-iterator.ensures.into_iter_gives ∙ c.vertices-vertex-items.ensures) c.weight.ensures
