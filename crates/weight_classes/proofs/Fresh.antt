-- For the test's add: classes when a path is added to the arena under an id that was not live.
use Rattle.std.specs.Prelude.{◌≡◌, ℕ, None, Option, IsSome, is_some, unwrap_or, refl}
use Rattle.std.proofs.Common.{sym, ◌∙◌, ap, subst}
use Rattle.std.proofs.lemmas.Bool.{false≢true}
use Rattle.apsp_model.specs.Walk.{hops_of}
use Rattle.path_arena.specs.Arena.{Arena, Path, path_at, IsLive, with_path, no_path}
use Rattle.path_arena.proofs.Keys.{get_put, get_put_other}
use Rattle.weight_classes.specs.Classes.{Classes, Rank, IsHeldWithRank, ClassesFit}
use Rattle.weight_classes.proofs.Held.{fits_agree}

pub record IsFreshIn (c : Classes) (b : Arena) (id : ℕ) : Type 0 where
  pub fits : ClassesFit c b
  pub live : IsLive b id
  pub fresh : (r : Rank) → IsHeldWithRank c r id → ⊥

pub fresh_in : (c : Classes) (a b : Arena) (id : ℕ) (p : Path) → ClassesFit c a → path_at a id ≡ None
    → b ≡ with_path a id p → IsFreshIn c b id
fresh_in c a b id p fits gone added = subst (λ (m : Arena). IsFreshIn c m id) (sym added) (record {
  fits = fits_agree c a (with_path a id p) fits (record {
    vertices = refl;
    live = λ w q held. subst IsSome (sym (kept w q held)) (fits.live w q held);
    ranks = λ w q held. ap (λ (o : Option Path). let r : Rank = record
        { weight = (unwrap_or o no_path).weight; hops = hops_of (unwrap_or o no_path).list } in r) (kept w q held);
  });
  live = ap is_some (get_put a.paths id p);
  fresh = fresh;
})
  where
    fresh : (r : Rank) → IsHeldWithRank c r id → ⊥
    fresh w held = false≢true (sym (ap is_some gone) ∙ fits.live w id held)

    kept : (w : Rank) (q : ℕ) → IsHeldWithRank c w q → path_at (with_path a id p) q ≡ path_at a q
    kept w q held = get_put_other a.paths id p q (λ same. fresh w (subst (IsHeldWithRank c w) same held))
