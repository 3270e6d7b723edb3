use Rattle.std.proofs.Common.{ℕ, ◌≡◌, Some, None, slice_get, slice_index, length, ap, ◌∙◌, subst, sym}
use Rattle.std.proofs.lemmas.Option.{slice_get-get_or}
use Rattle.history_engine.specs.Times.{IsLatestUpdate}
use Rattle.history_engine.proofs.Cleaning.{cleaned_here, cleaned_same, cleaned_earlier, cleaned_grow, time_is}
use Rattle.history_engine.proofs.timeline.cleaned_vertex.Goals as goal
use Rattle.history_engine.proofs.timeline.cleaned_vertex.Goals.{else-cleaned-v-via-then-cleaned-v+else-latest-cleaned, else-cleaned-v-via-else-cleaned-v}

pub returns-in_err-cleaned-clause-cleaned : goal.returns-in_err-cleaned-clause-cleaned
returns-in_err-cleaned-clause-cleaned c =
    let vs = c.args.vertices.now in
    let place = c.in_ok-place.place in
    let t = time_is (length vs) c.args.power place c.requires.power c.in_ok-place.ensures in
    let at : slice_get vs place ≡ Some None = slice_get-get_or vs place None t.1 ∙ ap Some c.in_err-cleaned.was in
    c.from_residual-in_err-cleaned.ensures ∙ sym (cleaned_grow vs c.args.v place _ at t.0)

pub bounds-latest-cleaned : goal.bounds-latest-cleaned
bounds-latest-cleaned c =
    let vs = c.args.vertices.now in
    let place = c.in_ok-place.place in
    let t = time_is (length vs) c.args.power place c.requires.power c.in_ok-place.ensures in
    c.requires.inside place c.in_ok-cleaned.cleaned (slice_get-get_or vs place None t.1 ∙ ap Some c.in_ok-cleaned.was)

pub returns-then-latest-cleaned-clause-cleaned : goal.returns-then-latest-cleaned-clause-cleaned
returns-then-latest-cleaned-clause-cleaned c =
    let vs = c.args.vertices.now in
    let place = c.in_ok-place.place in
    let w = c.in_ok-cleaned.cleaned in
    let t = time_is (length vs) c.args.power place c.requires.power c.in_ok-place.ensures in
    let at : slice_get vs place ≡ Some (Some w) = slice_get-get_or vs place None t.1 ∙ ap Some c.in_ok-cleaned.was in
    let F : ℕ → Type 0 = IsLatestUpdate vs w in
    sym (cleaned_here vs c.args.v w place _ at c.if-cleaned-v.true
    (subst F c.if-latest-cleaned.true (c.requires.times w (c.requires.inside place w at))) t.0)

pub returns-else-cleaned-v-clause-cleaned : goal.returns-else-cleaned-v-clause-cleaned
returns-else-cleaned-v-clause-cleaned c =
    let vs = c.args.vertices.now in
    let place = c.in_ok-place.place in
    let w = c.in_ok-cleaned.cleaned in
    let t = time_is (length vs) c.args.power place c.requires.power c.in_ok-place.ensures in
    let at : slice_get vs place ≡ Some (Some w) = slice_get-get_or vs place None t.1 ∙ ap Some c.in_ok-cleaned.was in
    let F : ℕ → Type 0 = λ x. slice_get vs place ≡ Some (Some x) in
    elim c.else-cleaned-v.branch [
      | else-cleaned-v-via-then-cleaned-v+else-latest-cleaned b ↦
          sym (cleaned_earlier vs c.args.v w place (slice_index c.args.latest.now w) _ at b.if-cleaned-v.true
          (c.requires.times w (c.requires.inside place w at)) b.if-latest-cleaned.false t.0)
      | else-cleaned-v-via-else-cleaned-v b ↦
          sym (cleaned_same vs c.args.v place _ (subst F b.if-cleaned-v.false at) t.0)
    ]
