-- Cleanup of paths that are local in a graph leaves what settling starts from.
--
-- Cleanup forgets every kept path with an edge that passes v. What is left avoids v, with its weight, its mark and its
-- birth, and is what is local in the graph without the edges at v.
--
-- Cleanup forgets every kept path with an edge that passes v. What is left avoids v, with its weight, its mark and its
-- birth, and is what is local in the graph without the edges at v.
--
-- Cleanup forgets every kept path with an edge that passes v. What is left avoids v, with its weight, its mark and its
-- birth, and is what is local in the graph without the edges at v.
use Rattle.std.specs.Prelude.{◌≡◌, ℕ, ◌+◌, ◌<◌, ◌⊎◌, false, List, [], ◌∷◌, ◌++◌, length, refl, unwrap_or, Contains}
use Rattle.std.proofs.Common.{sym, ◌∙◌, ap, subst, arith, inl, inr}
use Rattle.std.proofs.lemmas.Bool.{cases_lt}
use Rattle.std.proofs.lemmas.List.Elements.{Contains-append_left, Contains-append_right}
use Rattle.apsp_model.specs.Graph.{Graph, edge_weight}
use Rattle.apsp_model.specs.Star.{touches, AgreeAway}
use Rattle.apsp_model.specs.Walk.{weight_of}
use Rattle.apsp_model.specs.Part.{IsPart}
use Rattle.apsp_model.specs.Local.{IsVertex, Avoids, IsLocal}
use Rattle.apsp_model.specs.Paths.{KeptPath, IsKeptIn, IsHistoricalIn}
use Rattle.apsp_model.specs.Settled.{IsCleaned, without_star, AreLocal, IsReady}
use Rattle.apsp_model.proofs.Lists.{part_is_whole}
use Rattle.fixup_math.proofs.Start.{away, vertex_of_one, local_single, not_touching, walk_on, walk_was, walk_avoids}

avoids_part : (v : ℕ) (p q : List ℕ) → Avoids p v → IsPart q p → Avoids q v
avoids_part v p q avoids part c =
    avoids (subst (λ (r : List ℕ). Contains r v) (sym part.whole)
    (Contains-append_right part.before (q ++ part.after) v (Contains-append_left q part.after v c)))

part_of_one : (p q : List ℕ) → length p ≡ 1 → IsPart q p → length q ≡ 1
part_of_one p q one part = elim (part_is_whole p q part) [
  | inl shorter ↦ absurd (let some : 0 < length q = part.some in omega (arith, one, shorter))
  | inr same ↦ ap length same ∙ one
]

module _ (v : ℕ) (was g : Graph) (agree : AgreeAway v was g) (before left : List KeptPath) (local : AreLocal was before)
    (cleaned : IsCleaned v before left) where
  entry_was : (e : KeptPath) (p : List ℕ) → Contains left e → e.list ≡ p → Contains before e
      × (Avoids p v ⊎ (length p ≡ 1))
  entry_was e p stands is =
      let old : Contains before e × (Avoids e.list v ⊎ (length e.list ≡ 1)) = (cleaned e).0 stands in (
        old.0,
        elim old.1 [
          | inl avoids ↦ inl (subst (λ (q : List ℕ). Avoids q v) is avoids)
          | inr one ↦
              inr (sym (ap length is) ∙ one)
        ],
      )

  entry_stays : (e : KeptPath) (p : List ℕ) → Contains before e → e.list ≡ p → Avoids p v ⊎ (length p ≡ 1)
      → Contains left e
  entry_stays e p stood is stays =
      (cleaned e).1 (
        stood,
        elim stays [
          | inl avoids ↦
              inl (subst (λ (q : List ℕ). Avoids q v) (sym is) avoids)
          | inr one ↦ inr (ap length is ∙ one)
        ],
      )

  kept_before : (p : List ℕ) → IsKeptIn left p → IsKeptIn before p × (Avoids p v ⊎ (length p ≡ 1))
  kept_before p h = let old = entry_was h.0 p h.1 h.2 in ((h.0, old.0, h.2), old.1)

  stays_kept : (p : List ℕ) → IsKeptIn before p → Avoids p v ⊎ (length p ≡ 1) → IsKeptIn left p
  stays_kept p h stays = (h.0, entry_stays h.0 p h.1 h.2 stays, h.2)

  historical_before : (p : List ℕ) → IsHistoricalIn left p → IsHistoricalIn before p × (Avoids p v ⊎ (length p ≡ 1))
  historical_before p h = let old = entry_was h.0 p h.1 h.2 in ((h.0, old.0, h.2, h.3), old.1)

  stays_historical : (p : List ℕ) → IsHistoricalIn before p → Avoids p v ⊎ (length p ≡ 1) → IsHistoricalIn left p
  stays_historical p h stays = (h.0, entry_stays h.0 p h.1 h.2 stays, h.2, h.3)

  -- a walk that avoids v has its weight without the edges at v
  weight_apart : (p : List ℕ) → Avoids p v → weight_of was p ≡ weight_of (without_star g v) p
  weight_apart [] avoids = refl
  weight_apart (x ∷ []) avoids = refl
  weight_apart (x ∷ y ∷ p) avoids =
      let apart : touches v (x, y) ≡ false =
      not_touching was g v (IsHistoricalIn before) agree.vertices agree.weights x y p avoids in
      let edge : edge_weight was x y ≡ edge_weight (without_star g v) x y =
      ap (λ o. unwrap_or o 0) (agree.weights x y apart ∙ sym (away g v x y apart)) in
      let rest : weight_of was (y ∷ p) ≡ weight_of (without_star g v) (y ∷ p) =
      weight_apart (y ∷ p) (λ c. avoids (Contains-append_right (x ∷ []) (y ∷ p) v c)) in
      λ i. edge i + rest i

  single_weight : (p : List ℕ) → length p ≡ 1 → weight_of was p ≡ weight_of (without_star g v) p
  single_weight [] one = refl
  single_weight (x ∷ []) one = refl
  single_weight (x ∷ y ∷ p) one = absurd (omega (arith, one))

  is_local : (p : List ℕ) → IsKeptIn left p → IsLocal (without_star g v) (IsHistoricalIn left) p
  is_local p h =
      let old = kept_before p h in
      let l : IsLocal was (IsHistoricalIn before) p = (local.kept p).0 old.0 in
      elim old.1 [
        | inl avoids ↦ record {
          simple = l.simple;
          walk = walk_on was g v (IsHistoricalIn before) agree.vertices agree.weights p avoids l.walk;
          parts = λ q part. stays_historical q (l.parts q part) (inl (avoids_part v p q avoids part.part));
        }
        | inr one ↦
            let single : IsVertex was.vertices p = vertex_of_one was p l.walk (omega (arith, one)) in
            local_single (without_star g v) (IsHistoricalIn left) p
            (single.0, subst (λ n. single.0 < n) agree.vertices single.1, single.2)
      ]

  is_kept : (p : List ℕ) → IsLocal (without_star g v) (IsHistoricalIn left) p → IsKeptIn left p
  is_kept p l = elim (cases_lt (length p) 2) [
    | inl short ↦
        let single : IsVertex g.vertices p = vertex_of_one (without_star g v) p l.walk short in
        stays_kept p ((local.kept p).1 (local_single was (IsHistoricalIn before) p
        (single.0, subst (λ n. single.0 < n) (sym agree.vertices) single.1, single.2))) (inr (ap length single.2))
    | inr long ↦
        stays_kept p
        ((local.kept p).1 (record {
          simple = l.simple;
          walk = walk_was was g v (IsHistoricalIn before) agree.vertices agree.weights p l.walk;
          parts = λ q part. (historical_before q (l.parts q part)).0;
        }))
        (inl (walk_avoids was g v (IsHistoricalIn before) agree.vertices agree.weights p (omega (arith, long)) l.walk))
  ]

  pub cleanup_leaves_ready : IsReady g v left
  cleanup_leaves_ready = record {
    closed = λ p q h part.
        let old = historical_before p h in
        stays_historical q (local.closed p q old.0 part)
        (elim old.1 [
          | inl avoids ↦ inl (avoids_part v p q avoids part)
          | inr one ↦
              inr (part_of_one p q one part)
        ]);
    kept = λ p. (is_local p, is_kept p);
    weights = λ e held.
        let old : Contains before e × (Avoids e.list v ⊎ (length e.list ≡ 1)) = (cleaned e).0 held in
        local.weights e old.0 ∙ elim old.1
        [ inl avoids ↦ weight_apart e.list avoids | inr one ↦ single_weight e.list one ];
  }
