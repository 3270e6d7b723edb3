-- What the slots of an arena hold, as a map.
use Rattle.std.specs.Prelude.{◌≡◌, ◌≢◌, ℕ, zero, suc, ◌+◌, ◌<◌, cond, List, [], ◌∷◌, Option, Some, None, refl}
use Rattle.std.specs.Option.{option_map}
use Rattle.std.specs.Ordering.{nat_cmp}
use Rattle.std.specs.FinMap as map
use Rattle.std.proofs.Common.{◌∙◌, ap, subst, arith}
use Rattle.std.proofs.lemmas.Cmp.{nat_cmp_total}
use Rattle.path_arena.specs.Records.{slot_at, path_from, listed, paths_in}
use Rattle.path_arena.specs.declared.arena.Record.{Record}
use Rattle.path_arena.proofs.Keys.{tied_key, apart_key}

module _ (all : List (Option Record)) where
  find_before : (rest : List (Option Record)) (key q : ℕ) → q < key → map.find nat_cmp q (listed all key rest) ≡ None
  find_before [] key q h = refl
  find_before (None ∷ rest) key q h = find_before rest (key + 1) q (omega arith)
  find_before (Some r ∷ rest) key q h =
      let apart : q ≢ key = omega arith in
      ap (λ b. cond b (Some (path_from all key r)) (map.find nat_cmp q (listed all (key + 1) rest)))
      (apart_key key q apart)
      ∙ find_before rest (key + 1) q (omega arith)

  find_listed : (rest : List (Option Record)) (key at q : ℕ) → q ≡ key + at
      → map.find nat_cmp q (listed all key rest) ≡ option_map (path_from all q) (slot_at rest at)
  find_listed [] key at q e = refl
  find_listed (None ∷ rest) key zero q e = find_before rest (key + 1) q (omega arith)
  find_listed (None ∷ rest) key (suc at) q e = find_listed rest (key + 1) at q (omega arith)
  find_listed (Some r ∷ rest) key zero q e =
      let same : q ≡ key = omega arith in
      let F : ℕ → Type 0 = λ k. map.find nat_cmp q (listed all k (Some r ∷ rest)) ≡ Some (path_from all q r) in
      subst F same (ap (λ b. cond b (Some (path_from all q r)) (map.find nat_cmp q (listed all (q + 1) rest)))
      (tied_key q))
  find_listed (Some r ∷ rest) key (suc at) q e =
      let apart : q ≢ key = omega arith in
      ap (λ b. cond b (Some (path_from all key r)) (map.find nat_cmp q (listed all (key + 1) rest)))
      (apart_key key q apart)
      ∙ find_listed rest (key + 1) at q (omega arith)

  -- the path under a key is made of the record there
  pub get-paths_in : (q : ℕ) → map.get (paths_in all) q ≡ option_map (path_from all q) (slot_at all q)
  get-paths_in q = map.get-from_entries nat_cmp_total (listed all 0 all) q ∙ find_listed all 0 q q (omega arith)
