-- Updates that are drawn and made one after another: for `make_updates`, and the report for `run_load`.
use Rattle.std.specs.Prelude.{◌≡◌, ℕ, suc, ◌+◌, ◌*◌, ◌%◌, false, List, [], ◌∷◌, ◌++◌, length, Option, Some, refl}
use Rattle.std.proofs.Common.{sym, ◌∙◌, ap, subst, arith, length-append}
use Rattle.apsp_model.specs.Graph.{Graph}
use Rattle.apsp_model.specs.Star.{Star}
use Rattle.apsp_model.specs.Command.{Star_update, graph_of}
use Rattle.apsp_model.specs.Counts.{CountsAre}
use Rattle.apsp_model.specs.Stated.{Stated}
use Rattle.history_engine.specs.Seen.{EngineSeen}
use Rattle.history_engine.specs.Advance.{Advance, Stands}
use Rattle.history_engine.specs.Answers.{numbers}
use Rattle.history_engine.specs.declared.engine.Counts.{Counts as Counted}
use Rattle.version_face.specs.Seen.{VersionSeen as Version}
use Rattle.certificate.specs.Giving.{IsStatedOf}
use Rattle.load_run.specs.declared.draws.TheConstants.{MODULUS}
use Rattle.load_run.specs.Draws.{drawn, drawn_star, draws_of_star, drawn_updates, load_updates}
use Rattle.load_run.specs.Report.{DistancesAre, IsReport}
use Rattle.load_run.proofs.Drawing.{drawn_chain}

-- after k updates
pub record HasMade (n seed k : ℕ) (e : EngineSeen) (last : ℕ) : Type 0 where
  pub stands : Stands e (drawn_updates n seed k)
  pub opening : e.opening ≡ n
  pub present : e.graph.vertices ≡ n
  pub smooth : e.smooth ≡ false
  pub size : length e.vertices ≡ k
  pub place : last ≡ drawn (seed % MODULUS) (k * draws_of_star n)

pub made_none : (n seed : ℕ) (e : EngineSeen) (last : ℕ) → Stands e [] → e.opening ≡ n → e.smooth ≡ false
    → last ≡ seed % MODULUS → HasMade n seed 0 e last
made_none n seed e last stands opening smooth place = record {
  stands = stands;
  opening = opening;
  present = ap (λ (g : Graph). g.vertices) stands.outline.graph ∙ opening;
  smooth = smooth;
  size = ap length stands.outline.vertices;
  place = place ∙ ap (drawn (seed % MODULUS)) none;
}
  where
    none : 0 ≡ 0 * draws_of_star n
    none = omega arith

pub made_more : (n seed k : ℕ) (before after : EngineSeen) (star : Star) (last now : ℕ) → HasMade n seed k before last
    → star ≡ drawn_star n last → now ≡ drawn last (draws_of_star n) → Advance before (Star_update star) after
    → (Stands before (drawn_updates n seed k) → Stands after (Star_update star ∷ drawn_updates n seed k))
    → HasMade n seed (suc k) after now
made_more n seed k before after star last now h is place advance step =
    let same : star ≡ drawn_star n (drawn (seed % MODULUS) (k * draws_of_star n)) = is ∙ ap (drawn_star n) h.place in
    let F : Star → Type 0 = λ s. Stands after (Star_update s ∷ drawn_updates n seed k) in
    record {
      stands = subst F same (step h.stands);
      opening = advance.opening ∙ h.opening;
      present = ap (λ (g : Graph). g.vertices) advance.graph ∙ h.present;
      smooth = advance.smooth ∙ h.smooth;
      size = ap length advance.vertices ∙ longer before.vertices (Some star.vertex) h.size;
      place = place ∙ ap (λ s. drawn s (draws_of_star n)) h.place
          ∙ drawn_chain (seed % MODULUS) (k * draws_of_star n) (draws_of_star n) ∙ ap (drawn (seed % MODULUS)) sum;
    }
  where
    longer : (xs : List (Option ℕ)) (v : Option ℕ) → length xs ≡ k → length (xs ++ v ∷ []) ≡ suc k
    longer xs v e = omega (arith, length-append xs (v ∷ []), e)

    sum : k * draws_of_star n + draws_of_star n ≡ suc k * draws_of_star n
    sum = omega arith

-- ---- the report

pub report_of : (n seed : ℕ) (e : EngineSeen) (v : Version) (s : Stated) (c : Counted) (pairs sum : ℕ) → e.opening ≡ n
    → e.smooth ≡ false → Stands e (load_updates n seed) → CountsAre e.opening e.smooth (load_updates n seed) (numbers c)
    → c.updates ≡ length e.vertices → v.graph ≡ e.graph → v.number ≡ length e.vertices → IsStatedOf v s
    → DistancesAre s pairs sum → IsReport n seed
    (record { updates = c.updates; pairs = pairs; sum = sum; paths = c.paths; historical = c.historical })
report_of n seed e v s c pairs sum opening smooth stands counts updates graph number stated distances =
    let a : CountsAre n e.smooth (load_updates n seed) (numbers c) =
    subst (λ k. CountsAre k e.smooth (load_updates n seed) (numbers c)) opening counts in
    let size : v.number ≡ c.updates = number ∙ sym updates in
    let last : v.graph ≡ graph_of n (load_updates n seed) =
    graph ∙ stands.outline.graph ∙ ap (λ k. graph_of k (load_updates n seed)) opening in
    let same : v ≡ record { number = c.updates; graph = graph_of n (load_updates n seed) } =
    λ i. record { number = size i; graph = last i } in
    record {
      counts = numbers c;
      are = subst (λ b. CountsAre n b (load_updates n seed) (numbers c)) smooth a;
      updates = refl;
      paths = refl;
      historical = refl;
      stated = s;
      version = subst (λ w. IsStatedOf w s) same stated;
      distances = distances;
    }
