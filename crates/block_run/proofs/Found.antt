-- What a version answers, and what a reader answers from it: for `walk_of` and `answer_from`.
use Rattle.std.specs.Prelude.{◌≡◌, ℕ, ◌≤◌, List, Option, Some, None, Result, Ok, Err, IfOk, IfSome, refl}
use Rattle.std.proofs.Common.{sym, ◌∙◌, ap, subst}
use Rattle.apsp_model.specs.Graph.{Graph}
use Rattle.apsp_model.specs.Least.{LeastIs}
use Rattle.apsp_model.proofs.Leasts.{least_unique}
use Rattle.graph_store.specs.Plan.{Plan, plan_graph, hi_of}
use Rattle.version_face.specs.Entries.{dist_in, WalkIs}
use Rattle.version_face.specs.Seen.{VersionSeen, DistIs}
use Rattle.pin_cells.specs.Pinned.{IsOfPlan}
use Rattle.block_run.specs.declared.asks.Ask.{Ask}
use Rattle.block_run.specs.declared.answers.Answer.{Answer}
use Rattle.block_run.specs.declared.read.BlockReader.{BlockReader}
use Rattle.block_run.specs.Answers.{IsFound}
use Rattle.block_run.specs.Reading.{IsAnswerFrom, IsAnswerSeen}

same_option : (g : Graph) (x y : ℕ) (o r : Option (List ℕ)) → LeastIs g x y o → LeastIs g x y r → o ≡ r
same_option g x y None None h k = refl
same_option g x y None (Some q) h k = absurd (h q k.walk)
same_option g x y (Some p) None h k = absurd (k p h.walk)
same_option g x y (Some p) (Some q) h k = ap Some (least_unique g x y p q h k)

-- the distance of a row, and the walk
pub found_by : (g : Graph) (x y d : ℕ) (list : List ℕ) → DistIs g x y d → WalkIs g x y list → IsFound g x y d list
found_by g x y d list dist walk = record {
  walk = walk.walk;
  least = walk.least;
  dist = dist.2 ∙ ap (dist_in g) (same_option g x y dist.0 walk.walk dist.1 walk.least);
  is = walk.is;
}

seen_from : (plan : Plan) (v : VersionSeen) (ask : Ask) (least : ℕ) (reader : BlockReader) → IsOfPlan plan v
    → v.number ≡ reader.reader.mark.number → (a : Answer) → IsAnswerFrom v ask least a
    → IsAnswerSeen plan ask least reader a
seen_from plan v ask least reader of number a from = record {
  number = from.number ∙ number;
  not_older = from.not_older;
  answer = λ since. record {
    x = from.x;
    y = from.y;
    from_since = since;
    to_hi = subst (λ n. n ≤ hi_of plan) (sym from.number) of.to_hi;
    found = subst (λ g. IsFound g ask.x ask.y a.dist a.walk) (of.graph ∙ ap (plan_graph plan) (sym from.number))
        from.found;
  };
}

-- an answer from a version that is held
pub if_seen_from : {E : Type 0} (plan : Plan) (v held : VersionSeen) (ask : Ask) (least : ℕ) (reader : BlockReader)
    → v ≡ held → IsOfPlan plan held → held.number ≡ reader.reader.mark.number
    → (r : Result (Option Answer) E) → IfOk r (λ found. IfSome found (IsAnswerFrom v ask least))
    → IfOk r (λ found. IfSome found (IsAnswerSeen plan ask least reader))
if_seen_from plan v held ask least reader same of number (Ok (Some a)) from =
    seen_from plan held ask least reader of number a (subst (λ (w : VersionSeen). IsAnswerFrom w ask least a) same from)
if_seen_from plan v held ask least reader same of number (Ok None) from = tt
if_seen_from plan v held ask least reader same of number (Err e) from = tt

-- what holds of an Ok
pub ok_at : {A E : Type 0} (P : A → Type 0) (r : Result A E) (v : A) → r ≡ Ok v → IfOk r P → P v
ok_at P r v e h = subst (λ x. IfOk x P) e h
