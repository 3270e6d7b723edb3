-- A cleaning step in place: what `refresh` leaves is what the step of the star gives. For `clean_in_place`.
use Rattle.std.specs.Prelude.{◌≡◌, ℕ, ◌+◌, ◌-◌, ◌≤◌, List, length, refl, Contains}
use Rattle.std.proofs.Common.{sym, subst, arith}
use Rattle.apsp_model.specs.Graph.{Graph}
use Rattle.apsp_model.specs.Kept.{after_star, IsWithEdge}
use Rattle.apsp_model.specs.Counts.{CountIs}
use Rattle.apsp_model.specs.Paths.{KeptPath, IsOncePerList, IsKeptIn, moment_in}
use Rattle.apsp_model.proofs.Counting.{count_unique}
use Rattle.fixup_math.specs.Refresh.{HaveLeasts, IsRefreshed}
use Rattle.fixup_math.proofs.Births.{book_after}
use Rattle.fixup_math.proofs.Refreshing.{leasts_are, refreshed_historical, refreshed_kept, refreshed_births, refreshed_weights, refreshed_counts}
use Rattle.path_book.specs.Book.{Book, IsBook, PathsCount, kept_paths}
use Rattle.path_book.specs.Through.{IsVictims}
use Rattle.path_book.proofs.Kept.{kept_once}
use Rattle.cleanup_tasks.proofs.Counted.{victims_count}
use Rattle.history_engine.specs.Seen.{SayTheSame}
use Rattle.history_engine.specs.Lawful.{AreLawful}
use Rattle.history_engine.specs.Stepping.{IsStepDone}
use Rattle.history_engine.proofs.Moments.{same_turned}
use Rattle.history_engine.proofs.Stepping.{to_book, from_book, book_on}

-- the least kept paths are as `refresh` needs them
pub lawful_leasts : (g : Graph) (k : ℕ) (paths : List KeptPath) → AreLawful g k paths → HaveLeasts paths
lawful_leasts g k paths l = leasts_are g k 0 paths (to_book g (moment_in k paths) l.lawful) l.weights

-- the counts before and after give what was formed
pub record CountsFit (formed removed before after : ℕ) : Type 0 where
  pub enough : before ≤ after + removed
  pub formed_is : formed ≡ after + removed - before
  pub formed_few : formed ≤ after
  pub removed_few : removed ≤ before

module _ (v : ℕ) (g : Graph) (k : ℕ) (before after : List KeptPath) (lawful : AreLawful g k before)
    (r : IsRefreshed v (k + 1) before after) (once : IsOncePerList after) (a b removed : ℕ)
    (at_first : CountIs (λ p. IsKeptIn before p × IsWithEdge p) b)
    (gone : CountIs (λ p. IsKeptIn before p × IsWithEdge p × Contains p v) removed)
    (at_last : CountIs (λ p. IsKeptIn after p × IsWithEdge p) a) where
  pub counts_fit : CountsFit (a + removed - b) removed b a
  counts_fit =
      let formed =
      refreshed_counts g k v before (to_book g (moment_in k before) lawful.lawful) lawful.weights after r a b
      removed at_first gone at_last in
      let sum : formed.0 + b ≡ a + removed = formed.1 in
      let few : removed ≤ b = formed.2 in
      record { enough = omega arith; formed_is = refl; formed_few = omega arith; removed_few = few }

  says : SayTheSame (moment_in (k + 1) after) (after_star (moment_in k before) v g)
  says = record {
    steps = refl;
    historical =
        refreshed_historical g k v before (to_book g (moment_in k before) lawful.lawful) lawful.weights after r;
    kept = refreshed_kept g k v before (to_book g (moment_in k before) lawful.lawful) lawful.weights after r;
    birth = refreshed_births g k v before (to_book g (moment_in k before) lawful.lawful) lawful.weights after r;
  }

  pub refreshed_is_done : IsStepDone v g k before after (a + removed - b) removed
  refreshed_is_done = record {
    says = says;
    lawful = record {
      lawful = from_book g (moment_in (k + 1) after)
          (book_on g (after_star (moment_in k before) v g) (moment_in (k + 1) after)
          (same_turned (moment_in (k + 1) after) (after_star (moment_in k before) v g) says)
          (book_after (moment_in k before) v g g refl (λ _ _ _. refl) (to_book g (moment_in k before) lawful.lawful)));
      weights = refreshed_weights g k v before (to_book g (moment_in k before) lawful.lawful) lawful.weights after r;
      once = once;
    };
    removed_is = gone;
    formed_is = λ c d first_is last_is.
        let one : d ≡ b = count_unique (λ p. IsKeptIn before p × IsWithEdge p) d b first_is at_first in
        let two : c ≡ a = count_unique (λ p. IsKeptIn after p × IsWithEdge p) c a last_is at_last in
        let enough : b ≤ a + removed = counts_fit.enough in
        omega arith;
  }

-- as the calls tell it
pub in_place : (v w : ℕ) (g : Graph) (k : ℕ) (b new : Book) (listed ids : List ℕ) (x y : ℕ)
    → AreLawful g k (kept_paths b) → IsBook b → IsBook new → w ≡ v → ids ≡ listed → IsVictims b v listed
    → IsRefreshed w (k + 1) (kept_paths b) (kept_paths new) → PathsCount b x → PathsCount new y
    → CountsFit (y + length ids - x) (length ids) x y
    × IsStepDone v g k (kept_paths b) (kept_paths new) (y + length ids - x) (length ids)
in_place v w g k b new listed ids x y lawful was now same is victims refreshed at_first at_last =
    let r : IsRefreshed v (k + 1) (kept_paths b) (kept_paths new) =
    subst (λ u. IsRefreshed u (k + 1) (kept_paths b) (kept_paths new)) same refreshed in
    let all : IsVictims b v ids = subst (IsVictims b v) (sym is) victims in
    let gone = victims_count b was v ids all in (
      counts_fit v g k (kept_paths b) (kept_paths new) lawful r (kept_once new now) y x (length ids) at_first gone
          at_last,
      refreshed_is_done v g k (kept_paths b) (kept_paths new) lawful r (kept_once new now) y x (length ids) at_first
          gone at_last,
    )
