-- The end of a settling, and what was formed and promoted as differences of counts. Serves `settle_by`.
use Rattle.std.specs.Prelude.{◌≡◌, ℕ, ◌+◌, ◌-◌, ◌<◌, ◌≤◌, ◌⊎◌, List, length}
use Rattle.std.proofs.Common.{sym, ◌∙◌, ap, subst, arith, inl, inr}
use Rattle.std.proofs.lemmas.Bool.{cases_lt}
use Rattle.apsp_model.specs.Graph.{Graph}
use Rattle.apsp_model.specs.Local.{IsLocal, IsVertex}
use Rattle.apsp_model.specs.Kept.{IsWithEdge}
use Rattle.apsp_model.specs.Counts.{CountIs}
use Rattle.apsp_model.specs.Paths.{IsKeptIn, IsHistoricalIn}
use Rattle.apsp_model.specs.Settled.{IsSettled}
use Rattle.path_arena.specs.Arena.{IsLive, list_of}
use Rattle.path_arena.proofs.Paths.{live_path, live_from, path_of_at}
use Rattle.path_book.specs.Book.{Book, IsBook, kept_paths, PathsCount, HistoricalCount}
use Rattle.weight_classes.specs.Classes.{Classes, Rank, IsHeldWithRank}
use Rattle.apsp_model.proofs.Counting.{count_without, count_unique, count_same, count_either, count_decides}
use Rattle.fixup_math.specs.Ranks.{ByWeightThenHops}
use Rattle.fixup_math.proofs.Ranks.{weight_then_hops_is_rank}
use Rattle.fixup_math.proofs.Settling.{settled}
use Rattle.fixup_math.proofs.Start.{vertex_of_one}
use Rattle.fixup.proofs.Growth.{grown_weights, grown_births}
use Rattle.fixup.proofs.Starting.{kept_is, historical_is, single_marked}
use Rattle.fixup.specs.Views.{HeldIn, Kept, Marked, WonIn}
use Rattle.fixup.specs.Growth.{InvariantHolds}

-- of a kind that grew, what is new is the difference
pub count_difference : (P Q : List ℕ → Type 0) (m n : ℕ) → CountIs P m → CountIs Q n → ((p : List ℕ) → P p → Q p)
    → CountIs (λ p. Q p × (P p → ⊥)) (n - m)
count_difference P Q m n c d grows =
    let new : (k : ℕ) × CountIs (λ p. Q p × (P p → ⊥)) k = count_without P Q m n c d in
    let both : n ≡ m + new.0 =
    count_unique Q n (m + new.0) d (count_same (λ p. P p ⊎ (Q p × (P p → ⊥))) Q (m + new.0) (λ p. (
      λ h. elim h [ inl old ↦ grows p old | inr more ↦ more.0 ],
      λ h. elim (count_decides P m c p) [ inl old ↦ inl old | inr none ↦ inr (h, none) ],
    )) (count_either P (λ p. Q p × (P p → ⊥)) m new.0 (λ p old more. more.1 old) c new.1)) in
    let F : ℕ → Type 0 = CountIs (λ p. Q p × (P p → ⊥)) in
    subst F (less m n new.0 both) new.1
  where
    less : (m n k : ℕ) → n ≡ m + k → k ≡ n - m
    less m n k e = omega (arith, e)

-- the new paths with an edge are the new paths
with_edges : (b0 b : Book) → (K0 K : List ℕ → Type 0) (n : ℕ) → ((p : List ℕ) → K p → IsWithEdge p ⊎ K0 p)
    → CountIs (λ p. (K p × IsWithEdge p) × ((K0 p × IsWithEdge p) → ⊥)) n → CountIs (λ p. K p × (K0 p → ⊥)) n
with_edges b0 b K0 K n edge c =
    count_same (λ p. (K p × IsWithEdge p) × ((K0 p × IsWithEdge p) → ⊥)) (λ p. K p × (K0 p → ⊥)) n (λ p. (
      λ h. (h.0.0, λ old. h.1 (old, h.0.1)),
      λ h. elim (edge p h.0) [ inl long ↦ ((h.0, long), λ old. h.1 old.0) | inr old ↦ absurd (h.1 old) ],
    )) c

module _ (g : Graph) (birth : ℕ) (b0 b : Book) (c : Classes) (lawful0 : IsBook b0) (s : InvariantHolds g birth b0 b c)
    (same : b0.arena.vertices ≡ g.vertices) where
  single_or_edge : (p : List ℕ) → Kept b p → IsWithEdge p ⊎ Marked b0 p
  single_or_edge p k = elim (cases_lt 1 (length p)) [
    | inl long ↦ inl long
    | inr short ↦
        let single : IsVertex g.vertices p = vertex_of_one g p ((s.settling.kept p).0 k).walk (omega (arith, short)) in
        inr (single_marked b0 lawful0 p (single.0, subst (λ n. single.0 < n) (sym same) single.1, single.2))
  ]

  marked_kept0 : (p : List ℕ) → Marked b0 p → Kept b0 p
  marked_kept0 p h = (h.0, lawful0.marked_live h.0 h.1, h.2)

  kept_grows : (p : List ℕ) → IsKeptIn (kept_paths b0) p → IsKeptIn (kept_paths b) p
  kept_grows p h = let k : Kept b0 p = (kept_is b0 p).0 h in (kept_is b p).1 (kept_then k)
    where
      kept_then : Kept b0 p → Kept b p
      kept_then k = let e = here k in (k.0, e.0, e.1 ∙ k.2)
        where
          here : (k : Kept b0 p) → IsLive b.arena k.0 × (list_of b.arena k.0 ≡ list_of b0.arena k.0)
          here k = let q =
              live_path b0.arena k.0 k.1 in let now = s.grown.old k.0 q.0 q.1 in (
                live_from b.arena k.0 q.0 now,
                ap (λ r. r.list)
                    (path_of_at b.arena k.0 q.0 now ∙ sym (path_of_at b0.arena k.0 q.0 q.1)),
              )

  historical_grows : (p : List ℕ) → IsHistoricalIn (kept_paths b0) p → IsHistoricalIn (kept_paths b) p
  historical_grows p h = (historical_is b s.grown.lawful p).1 (s.settling.old p ((historical_is b0 lawful0 p).0 h))

  -- what is formed and promoted, by the counts before and after
  pub formed_is : (m n : ℕ) → PathsCount b0 m → PathsCount b n
      → CountIs (λ p. IsKeptIn (kept_paths b) p × (IsKeptIn (kept_paths b0) p → ⊥)) (n - m)
  formed_is m n before after = with_edges b0 b (IsKeptIn (kept_paths b0)) (IsKeptIn (kept_paths b)) (n - m)
      (λ p k. elim (single_or_edge p ((kept_is b p).0 k))
      [ inl edge ↦ inl edge | inr old ↦ inr ((kept_is b0 p).1 (marked_kept0 p old)) ])
      (count_difference (λ p. IsKeptIn (kept_paths b0) p × IsWithEdge p) (λ p. IsKeptIn (kept_paths b) p × IsWithEdge p)
      m n before after (λ p h. (kept_grows p h.0, h.1)))

  pub promoted_is : (m n : ℕ) → HistoricalCount b0 m → HistoricalCount b n
      → CountIs (λ p. IsHistoricalIn (kept_paths b) p × (IsHistoricalIn (kept_paths b0) p → ⊥)) (n - m)
  promoted_is m n before after =
      with_edges b0 b (IsHistoricalIn (kept_paths b0)) (IsHistoricalIn (kept_paths b)) (n - m)
      (λ p k. elim (single_or_edge p (s.settling.marked_kept p ((historical_is b s.grown.lawful p).0 k)))
      [ inl edge ↦ inl edge | inr old ↦ inr ((historical_is b0 lawful0 p).1 old) ])
      (count_difference (λ p. IsHistoricalIn (kept_paths b0) p × IsWithEdge p)
      (λ p. IsHistoricalIn (kept_paths b) p × IsWithEdge p) m n before after (λ p h. (historical_grows p h.0, h.1)))

  -- a count does not fall
  pub counts_rise : (P Q : List ℕ → Type 0) (m n : ℕ) → CountIs P m → CountIs Q n → ((p : List ℕ) → P p → Q p) → m ≤ n
  counts_rise P Q m n c d grows =
      let new : (k : ℕ) × CountIs (λ p. Q p × (P p → ⊥)) k = count_without P Q m n c d in
      let both : n ≡ m + new.0 =
      count_unique Q n (m + new.0) d (count_same (λ p. P p ⊎ (Q p × (P p → ⊥))) Q (m + new.0) (λ p. (
        λ h. elim h [ inl old ↦ grows p old | inr more ↦ more.0 ],
        λ h. elim (count_decides P m c p) [ inl old ↦ inl old | inr none ↦ inr (h, none) ],
      )) (count_either P (λ p. Q p × (P p → ⊥)) m new.0 (λ p old more. more.1 old) c new.1)) in
      omega (arith, both)

  pub paths_rise : (m n : ℕ) → PathsCount b0 m → PathsCount b n → m ≤ n
  paths_rise m n before after =
      counts_rise (λ p. IsKeptIn (kept_paths b0) p × IsWithEdge p) (λ p. IsKeptIn (kept_paths b) p × IsWithEdge p) m n
      before after (λ p h. (kept_grows p h.0, h.1))

  pub historical_rise : (m n : ℕ) → HistoricalCount b0 m → HistoricalCount b n → m ≤ n
  historical_rise m n before after =
      counts_rise (λ p. IsHistoricalIn (kept_paths b0) p × IsWithEdge p)
      (λ p. IsHistoricalIn (kept_paths b) p × IsWithEdge p) m n before after (λ p h. (historical_grows p h.0, h.1))

  -- where nothing is held any more
  pub all_settled : ((r : Rank) (id : ℕ) → IsHeldWithRank c r id → ⊥) → (m n h k : ℕ) → PathsCount b0 m → PathsCount b n
      → HistoricalCount b0 h → HistoricalCount b k → IsSettled g birth (kept_paths b0) (kept_paths b) (n - m) (k - h)
  all_settled empty m n h k paths0 paths1 marks0 marks1 = record {
    historical = λ p.
        let e = settled g (ByWeightThenHops g) (weight_then_hops_is_rank g) (Marked b0) (Marked b) (Kept b) (HeldIn b c)
        (WonIn c) s.settling (λ q held. empty held.0 held.1 held.2) p in (
          λ a. elim (e.0 ((historical_is b s.grown.lawful p).0 a))
              [ inl old ↦ inl ((historical_is b0 lawful0 p).1 old) | inr least ↦ inr least ],
          λ a. (historical_is b s.grown.lawful p).1
              (e.1 (elim a [ inl old ↦ inl ((historical_is b0 lawful0 p).0 old) | inr least ↦ inr least ])),
        );
    kept = λ p. (
      λ a. let l : IsLocal g (Marked b) p =
          (s.settling.kept p).0 ((kept_is b p).0 a) in
          record {
            simple = l.simple;
            walk = l.walk;
            parts = λ q part. (historical_is b s.grown.lawful q).1
                (l.parts q part);
          },
      λ l. (kept_is b p).1 ((s.settling.kept p).1
          (record {
            simple = l.simple;
            walk = l.walk;
            parts = λ q part. (historical_is b s.grown.lawful q).0
                (l.parts q part);
          })),
    );
    weights = grown_weights g birth b0 b s.grown;
    births = grown_births g birth b0 b s.grown;
    formed_is = formed_is m n paths0 paths1;
    promoted_is = promoted_is h k marks0 marks1;
  }
