use Rattle.std.specs.Prelude.{false, true, [], ◌∷◌, refl}
use Rattle.std.proofs.Common.{arith, inr}
use Rattle.apsp_model.specs.Local.{HistGrow}
use Rattle.apsp_model.specs.Kept.{IsHistorical}
use Rattle.model_rows.specs.Networks.{two_stars, updates}
use Rattle.model_rows.proofs.Rows.{counts_are, births_are}
use Rattle.model_rows.proofs.Moments.{locals_are, local_test_is, edges_count, historical_count, grown_from, grown_test, grown_test_is, grown_closed}
use Rattle.model_rows.proofs.a_grow_keeps_births.Goals as goal

pub returns-clause-kept : goal.returns-clause-kept
returns-clause-kept c = λ p. (
  λ h. (locals_are (grown_from 3 4 two_stars) (grown_test 3 4 two_stars)
      (HistGrow (IsHistorical 3 false (updates 3 two_stars)) 4) (grown_test_is 3 4 two_stars) (grown_closed 3 4 two_stars) (λ q. true) p).1 (h, refl),
  λ h. ((locals_are (grown_from 3 4 two_stars) (grown_test 3 4 two_stars)
      (HistGrow (IsHistorical 3 false (updates 3 two_stars)) 4) (grown_test_is 3 4 two_stars) (grown_closed 3 4 two_stars) (λ q. true) p).0 h).0,
)

pub returns-clause-stays : goal.returns-clause-stays
returns-clause-stays c = (grown_test_is 3 4 two_stars (0 ∷ 2 ∷ [])).0 refl

pub returns-clause-birth : goal.returns-clause-birth
returns-clause-birth c = (
  (local_test_is (grown_from 3 4 two_stars) (grown_test 3 4 two_stars)
      (HistGrow (IsHistorical 3 false (updates 3 two_stars)) 4) (grown_test_is 3 4 two_stars) (grown_closed 3 4 two_stars) (0 ∷ 2 ∷ [])).0 refl,
  inr (omega arith, (births_are 3 false two_stars (0 ∷ 2 ∷ []) 1).1 (refl, refl)),
)

pub returns-clause-counts : goal.returns-clause-counts
returns-clause-counts c = record {
  updates = refl;
  steps = refl;
  paths = edges_count (grown_from 3 4 two_stars) (grown_test 3 4 two_stars)
      (HistGrow (IsHistorical 3 false (updates 3 two_stars)) 4) (grown_test_is 3 4 two_stars) (grown_closed 3 4 two_stars) refl;
  historical = historical_count (grown_from 3 4 two_stars) (grown_test 3 4 two_stars)
      (HistGrow (IsHistorical 3 false (updates 3 two_stars)) 4) (grown_test_is 3 4 two_stars) (grown_closed 3 4 two_stars) refl;
  turnover = record {
    before = 4;
    after = 4;
    paths_before = (counts_are 3 false (1, ((1, 2), 3) ∷ ((0, 1), 4) ∷ []) ((0, ((0, 1), 4) ∷ ((0, 2), 9) ∷ []) ∷ []) refl).paths;
    paths_after = edges_count (grown_from 3 4 two_stars) (grown_test 3 4 two_stars)
        (HistGrow (IsHistorical 3 false (updates 3 two_stars)) 4) (grown_test_is 3 4 two_stars) (grown_closed 3 4 two_stars) refl;
    removed_is = refl;
    formed_is = refl;
  };
}
