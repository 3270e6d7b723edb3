-- What a mend leaves, from the calls that make it: for `mend_step` and `Engine::mend`.
use Rattle.std.specs.Prelude.{◌≡◌, ℕ, ◌+◌, false, List, refl}
use Rattle.std.proofs.Common.{sym, ◌∙◌, ap, subst}
use Rattle.apsp_model.specs.Graph.{Graph}
use Rattle.apsp_model.specs.Kept.{after_mend}
use Rattle.apsp_model.specs.Paths.{KeptPath, IsOncePerList, moment_in}
use Rattle.apsp_model.specs.Settled.{IsSettled, AreSingles, HaveWeights}
use Rattle.fixup_math.proofs.Mending.{book_mended, whole_historical, whole_kept, whole_birth, whole_formed}
use Rattle.path_book.specs.Book.{Book, IsBook, IsOpeningBook, kept_paths}
use Rattle.history_engine.specs.Seen.{EngineSeen, paths_of, SayTheSame}
use Rattle.history_engine.specs.Advance.{AdvanceByMend}
use Rattle.history_engine.specs.Stepping.{IsMendDone}
use Rattle.history_engine.proofs.Moments.{same_turned}
use Rattle.history_engine.proofs.Reading.{opening_says}
use Rattle.history_engine.proofs.Stepping.{book_on, from_book}

-- a new book keeps the single vertices alone
pub opening_alone : (b : Book) (n : ℕ) → IsBook b → IsOpeningBook b n → AreSingles n (kept_paths b)
opening_alone b n lawful opened =
    let says = opening_says b n lawful opened in
    record { kept = says.kept; historical = says.historical; births = says.birth }

pub mend_done_of : (g : Graph) (k : ℕ) (before after : List KeptPath) (formed promoted : ℕ)
    → AreSingles g.vertices before → IsSettled g (k + 1) before after formed promoted → IsOncePerList after
    → IsMendDone g k after formed
mend_done_of g k before after formed promoted alone s once = record {
  says = says;
  lawful = record {
    lawful = from_book g (moment_in (k + 1) after)
        (book_on g (after_mend k g) (moment_in (k + 1) after)
        (same_turned (moment_in (k + 1) after) (after_mend k g) says) (book_mended k g));
    weights = s.weights;
    once = once;
  };
  formed_is = whole_formed g k before after formed promoted alone s;
}
  where
    says : SayTheSame (moment_in (k + 1) after) (after_mend k g)
    says = record {
      steps = refl;
      historical = whole_historical g k before after formed promoted alone s;
      kept = whole_kept g k before after formed promoted alone s;
      birth = whole_birth g k before after formed promoted alone s;
    }

-- what is seen of the engine then
pub mend_done : (e after : EngineSeen) (g : Graph) (k formed : ℕ) → g ≡ e.graph → k ≡ e.steps
    → after.opening ≡ e.opening → after.smooth ≡ e.smooth → after.graph ≡ g → after.vertices ≡ e.vertices
    → after.steps ≡ k + 1 → after.formed ≡ e.formed → after.removed ≡ e.removed → after.spent ≡ false
    → IsMendDone g k (paths_of after) formed → AdvanceByMend e after
mend_done e after g k formed graph steps opening smooth graph_now vertices steps_now formed_now removed_now spent done =
    record {
      opening = opening;
      smooth = smooth;
      graph = graph_now ∙ graph;
      vertices = vertices;
      steps = steps_now ∙ ap (λ n. n + 1) steps;
      formed = formed_now;
      removed = removed_now;
      book = record {
        weights = subst (λ (h : Graph). HaveWeights h (paths_of after)) (sym graph_now) done.lawful.weights;
        once = done.lawful.once;
        says = subst (λ (n : ℕ). SayTheSame (moment_in n (paths_of after)) (after_mend e.steps e.graph)) (sym steps_now)
            (subst (λ (n : ℕ). SayTheSame (moment_in (k + 1) (paths_of after)) (after_mend n e.graph)) steps
            (subst (λ (h : Graph). SayTheSame (moment_in (k + 1) (paths_of after)) (after_mend k h)) graph done.says));
      };
      not_spent = spent;
    }
