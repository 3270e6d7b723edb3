use Rattle.std.proofs.Common.{◌≡◌, false, sym, ◌∙◌, ap, subst, refl}
use Rattle.std.proofs.lemmas.Bool.{false≢true}
use Rattle.apsp_model.specs.Graph.{Graph}
use Rattle.shortest_math.specs.Shortest.{IsLocallyShortest}
use Rattle.local_engine.specs.Seen.{LocalSeen}
use Rattle.local_engine.proofs.engine.LocalEngine.is_kept.Goals as goal

pub returns-in-Some : goal.returns-in-Some
returns-in-Some c =
    let not_spent : c.self.inside.spent ≡ false = ap (λ (e : LocalSeen). e.spent) c.self.view_is ∙ c.requires.not_spent in
    let birth = c.in-Some.ensures.birth in
    record {
      kept = (
        λ t. subst (λ (g : Graph). IsLocallyShortest g c.args.list.now)
            (ap (λ (e : LocalSeen). e.graph) c.self.view_is)
            (((c.self.invariant.kept not_spent).kept c.args.list.now).0 (birth.0, birth.1, birth.2)),
        λ h. refl,
      );
    }

pub returns-in-None : goal.returns-in-None
returns-in-None c =
    let not_spent : c.self.inside.spent ≡ false = ap (λ (e : LocalSeen). e.spent) c.self.view_is ∙ c.requires.not_spent in
    record {
      kept = (
        λ t. absurd (false≢true t),
        λ h. absurd (c.in-None.ensures.birth (((c.self.invariant.kept not_spent).kept c.args.list.now).1
            (subst (λ (g : Graph). IsLocallyShortest g c.args.list.now)
            (sym (ap (λ (e : LocalSeen). e.graph) c.self.view_is)) h))),
      );
    }
