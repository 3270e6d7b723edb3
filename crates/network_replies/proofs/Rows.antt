-- The distances from a vertex, one more at a time.
use Rattle.std.proofs.Common.{◌≡◌, ℕ, ◌+◌, ◌<◌, List, [], ◌∷◌, ◌++◌, length, get_or, refl, sym, ap, subst, ◌∙◌, arith, inl, inr, length-append}
use Rattle.std.specs.Prelude.{Option, None}
use Rattle.std.proofs.lemmas.Bool.{cases_lt}
use Rattle.std.proofs.Math.ListN.{get_or-append}
use Rattle.std.proofs.Math.Seq.{get_or-append_seam}
use Rattle.apsp_model.specs.Graph.{Graph}
use Rattle.network_replies.specs.Distance.{IsDistance}

-- the first n distances
pub record IsFirstRow (g : Graph) (x n : ℕ) (row : List (Option ℕ)) : Type 0 where
  pub size : length row ≡ n
  pub each : (y : ℕ) → y < n → IsDistance g x y (get_or row y None)

pub row_none : (g : Graph) (x : ℕ) → IsFirstRow g x 0 []
row_none g x = record { size = refl; each = λ y l. absurd (omega arith) }

pub row_more : (g : Graph) (x n : ℕ) (d : Option ℕ) (row : List (Option ℕ)) → IsFirstRow g x n row → IsDistance g x n d
    → IsFirstRow g x (n + 1) (row ++ d ∷ [])
row_more g x n d row r is = record { size = omega (arith, length-append row (d ∷ []), r.size); each = each }
  where
    each : (y : ℕ) → y < n + 1 → IsDistance g x y (get_or (row ++ d ∷ []) y None)
    each y l = elim (cases_lt y n) [
      | inl less ↦ subst (IsDistance g x y) (sym (get_or-append row (d ∷ []) None y (omega (arith, r.size))))
          (r.each y less)
      | inr more ↦
          let same : y ≡ length row = omega (arith, r.size) in
          let at_n : n ≡ y = omega arith in
          let found : get_or (row ++ d ∷ []) y None ≡ d =
          ap (λ k. get_or (row ++ d ∷ []) k None) same ∙ get_or-append_seam row d [] None in
          subst (IsDistance g x y) (sym found) (subst (λ k. IsDistance g x k d) at_n is)
    ]
