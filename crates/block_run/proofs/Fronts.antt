-- What an engine stands for behind some updates of a block: for `law_cut_off`.
use Rattle.std.specs.Prelude.{List, [], ◌∷◌, take}
use Rattle.std.proofs.Common.{sym, subst, inl, inr}
use Rattle.apsp_model.specs.Command.{Command, Star_update}
use Rattle.apsp_model.specs.Star.{Star}
use Rattle.history_engine.specs.Seen.{EngineSeen}
use Rattle.history_engine.specs.Advance.{Stands, StandsInOutline}
use Rattle.history_engine.proofs.Moments.{law, spent_outline}
use Rattle.block_run.specs.Run.{AdvancesBy, IsCutOff, StandsForFront, with_updates}

pub stands_by : (stars : List Star) (before after : EngineSeen) (commands : List Command) → AdvancesBy before stars after
    → Stands before commands → Stands after (with_updates stars commands)
stands_by [] before after commands a h = let F : EngineSeen → Type 0 = λ e. Stands e commands in subst F (sym a) h
stands_by (star ∷ stars) before after commands a h =
    stands_by stars a.0 after (Star_update star ∷ commands) a.2 (law before a.0 (Star_update star) commands a.1 h)

pub front_stands : (before after : EngineSeen) (stars : List Star) (commands : List Command) → IsCutOff before stars after
    → Stands before commands → StandsForFront after stars commands
front_stands before after stars commands cut stands =
    let front : List Command = with_updates (take cut.count stars) commands in
    let reached : Stands cut.reached front = stands_by (take cut.count stars) before cut.reached commands cut.taken stands in
    let F : EngineSeen → Type 0 = λ e. StandsInOutline e front in
    record {
      count = cut.count;
      inside = cut.inside;
      stands = elim cut.end [
        | inl same ↦ subst F (sym same) reached.outline
        | inr spent ↦ spent_outline cut.reached after front spent reached.outline
      ];
    }
