use Rattle.std.specs.Prelude.{false, [], ◌∷◌, refl, true}
use Rattle.std.proofs.Common.{sym, arith, inr}
use Rattle.std.proofs.lemmas.Bool.{true≢false}
use Rattle.apsp_model.specs.Local.{IsShortest}
use Rattle.model_rows.specs.Networks.{two_stars}
use Rattle.model_rows.proofs.Rows.{known_from, counts_are}
use Rattle.model_rows.proofs.Moments.{locals_are, local_test_is, edges_count, historical_count, shortest_test, shortest_test_is, shortest_closed}
use Rattle.model_rows.proofs.a_mend_forgets_what_was_least.Goals as goal

pub returns-clause-kept : goal.returns-clause-kept
returns-clause-kept c = λ p. (
  λ h. (locals_are (known_from 3 two_stars) (shortest_test (known_from 3 two_stars))
      (IsShortest (known_from 3 two_stars).graph) (shortest_test_is (known_from 3 two_stars))
      (shortest_closed (known_from 3 two_stars)) (λ q. true) p).1 (h, refl),
  λ h. ((locals_are (known_from 3 two_stars) (shortest_test (known_from 3 two_stars))
      (IsShortest (known_from 3 two_stars).graph) (shortest_test_is (known_from 3 two_stars))
      (shortest_closed (known_from 3 two_stars)) (λ q. true) p).0 h).0,
)

pub returns-clause-forgotten : goal.returns-clause-forgotten
returns-clause-forgotten c =
    λ h. true≢false (sym ((shortest_test_is (known_from 3 two_stars) (0 ∷ 2 ∷ [])).1 h))

pub returns-clause-birth : goal.returns-clause-birth
returns-clause-birth c = (
  (local_test_is (known_from 3 two_stars) (shortest_test (known_from 3 two_stars))
      (IsShortest (known_from 3 two_stars).graph) (shortest_test_is (known_from 3 two_stars))
      (shortest_closed (known_from 3 two_stars)) (0 ∷ 2 ∷ [])).0 refl,
  inr (omega arith, refl),
)

pub returns-clause-counts : goal.returns-clause-counts
returns-clause-counts c = record {
  updates = refl;
  steps = refl;
  paths = edges_count (known_from 3 two_stars) (shortest_test (known_from 3 two_stars))
      (IsShortest (known_from 3 two_stars).graph) (shortest_test_is (known_from 3 two_stars))
      (shortest_closed (known_from 3 two_stars)) refl;
  historical = historical_count (known_from 3 two_stars) (shortest_test (known_from 3 two_stars))
      (IsShortest (known_from 3 two_stars).graph) (shortest_test_is (known_from 3 two_stars))
      (shortest_closed (known_from 3 two_stars)) refl;
  turnover = (counts_are 3 false (1, ((1, 2), 3) ∷ ((0, 1), 4) ∷ []) ((0, ((0, 1), 4) ∷ ((0, 2), 9) ∷ []) ∷ []) refl).turnover;
}
