-- One demotion, and the whole of a star in an engine of locally shortest paths, said of lists of kept paths.
--
-- The mathematics. One demotion of h takes the entries of h and of what has it as a proper part, and puts an entry of
-- h without a mark where
-- h is locally shortest. So what is historical lacks h alone, since nothing historical is above h, and what is kept
-- is as the invariant of the
-- demotions wants it. The weights of all entries stay those of the graph. Where a list of rising hops holds what is
-- historical and not
-- shortest, each once, its demotions from the end lead from what a settling left to a book of locally shortest paths.
use Rattle.std.specs.Prelude.{◌≡◌, ℕ, ◌≤◌, ◌⊎◌, ◌↔◌, false, List, [], ◌∷◌, ◌++◌, length, refl, Contains}
use Rattle.std.proofs.Common.{sym, ◌∙◌, ap, subst, inl, inr}
use Rattle.std.proofs.lemmas.Bool.{true≢false}
use Rattle.apsp_model.specs.Graph.{Graph}
use Rattle.apsp_model.specs.Walk.{IsOnceEach, weight_of}
use Rattle.apsp_model.specs.Part.{IsProperPart}
use Rattle.apsp_model.specs.Local.{IsVertex, IsShortest}
use Rattle.apsp_model.specs.Paths.{KeptPath, IsKeptIn, IsHistoricalIn}
use Rattle.apsp_model.specs.Settled.{HaveWeights, IsReady, IsSettled}
use Rattle.shortest_math.specs.Shortest.{IsLocallyShortest, IsDemoting, IsDemoted, IsShortening, IsShortestBook}
use Rattle.apsp_model.proofs.Members.{in_nil}
use Rattle.shortest_math.proofs.Demotions.{none_above, next_demotion}
use Rattle.shortest_math.proofs.DemotionLists.{IsRising, demoting_as_listed, last_is_longest, rising_init, once_init, todo_init}
use Rattle.fixup_math.proofs.Forming.{contains_push}
use Rattle.shortest_math.proofs.Searches.{IsForest, IsSearch, search_ends, IsPicked, GoesOn, historical_forest}
use Rattle.shortest_math.proofs.ShortestStars.{ToDemote, settled_demotes, demoted_book}

module _ (g : Graph) (birth : ℕ) (h : List ℕ) (before after : List KeptPath) (d : IsDemoted g birth h before after) where
  abbrev Again : KeptPath
  Again = record { list = h; weight = weight_of g h; historical = false; birth = birth }

  pub weights_then : HaveWeights g before → HaveWeights g after
  weights_then weights k c = elim ((d k).0 c) [
    | inl stays ↦ weights k stays.0
    | inr new ↦ subst (λ (e : KeptPath). e.weight ≡ weight_of g e.list) (sym new.0) refl
  ]

  module _ (H0 Todo : List ℕ → Type 0) (s : IsDemoting g H0 (IsHistoricalIn before) (IsKeptIn before) Todo)
      (todo : Todo h) (longest : (p : List ℕ) → Todo p → length p ≤ length h) where
    historical_then : (p : List ℕ) → IsHistoricalIn after p ↔ (IsHistoricalIn before p × (p ≡ h → ⊥))
    historical_then p = (
      λ m. elim ((d m.0).0 m.1) [
        | inl stays ↦ ((m.0, stays.0, m.2, m.3), λ same. stays.2 (m.2 ∙ same))
        | inr new ↦ absurd (true≢false (sym m.3 ∙ ap (λ (e : KeptPath). e.historical) new.0))
      ],
      λ m.
          let e : IsHistoricalIn before p = m.0 in (
            e.0,
            (d e.0).1 (inl (
              e.1,
              λ part. none_above g H0 (IsHistoricalIn before) (IsKeptIn before) Todo s h todo longest p e
                  (subst (IsProperPart h) e.2 part),
              λ same. m.1 (sym e.2 ∙ same),
            )),
            e.2,
            e.3,
          ),
    )

    abbrev Left : List ℕ → Type 0
    Left p = (IsKeptIn before p × (IsProperPart h p → ⊥)) × (p ≡ h → ⊥)

    kept_then : (p : List ℕ) → IsKeptIn after p ↔ (Left p ⊎ ((p ≡ h) × IsLocallyShortest g h))
    kept_then p = (
      λ m. elim ((d m.0).0 m.1) [
        | inl stays ↦ inl (
          ((m.0, stays.0, m.2), λ part. stays.1 (subst (IsProperPart h) (sym m.2) part)),
          λ same. stays.2 (m.2 ∙ same),
        )
        | inr new ↦ inr (sym m.2 ∙ ap (λ (e : KeptPath). e.list) new.0, new.1)
      ],
      λ m. elim m [
        | inl stays ↦ let e : IsKeptIn before p = stays.0.0 in (
          e.0,
          (d e.0).1 (inl (
            e.1,
            λ part. stays.0.1 (subst (IsProperPart h) e.2 part),
            λ same. stays.1 (sym e.2 ∙ same),
          )),
          e.2,
        )
        | inr new ↦ (Again, (d Again).1 (inr (refl, new.1)), sym new.0)
      ],
    )

    -- what holds before the demotion of h holds again behind it
    pub demoted_turn : (Todo1 : List ℕ → Type 0) → ((p : List ℕ) → Todo1 p ↔ (Todo p × (p ≡ h → ⊥)))
        → IsDemoting g H0 (IsHistoricalIn after) (IsKeptIn after) Todo1
    demoted_turn Todo1 rest = next_demotion g H0 (IsHistoricalIn before) (IsKeptIn before) Todo s h todo longest
        (IsHistoricalIn after) Todo1 Left (IsKeptIn after) historical_then rest (λ p. (λ k. k, λ k. k)) kept_then

-- ---- the loop, from the end of a list of rising hops

-- behind a settling, where ps holds exactly what is historical and not shortest
pub shortening_starts : (g : Graph) (v birth : ℕ) (middle paths : List KeptPath) (formed promoted : ℕ)
    → IsReady g v middle → IsSettled g birth middle paths formed promoted → (ps : List (List ℕ))
    → ((p : List ℕ) → Contains ps p ↔ ToDemote g paths p) → IsOnceEach ps → IsRising ps
    → IsShortening g (IsHistoricalIn paths) ps paths
shortening_starts g v birth middle paths formed promoted ready settled ps exact once rising = record {
  demoting = demoting_as_listed g (IsHistoricalIn paths) (IsHistoricalIn paths) (IsKeptIn paths) (ToDemote g paths)
      (Contains ps) (λ p. ((exact p).1, (exact p).0))
      (settled_demotes g v birth middle paths formed promoted ready settled);
  once = once;
  rising = rising;
  weights = settled.weights;
}

-- one turn takes the last path
pub shortening_turn : (g : Graph) (H0 : List ℕ → Type 0) (ps : List (List ℕ)) (h : List ℕ) (birth : ℕ)
    (before after : List KeptPath) → IsShortening g H0 (ps ++ h ∷ []) before → IsDemoted g birth h before after
    → IsShortening g H0 ps after
shortening_turn g H0 ps h birth before after s d = record {
  demoting = demoted_turn g birth h before after d H0 (Contains (ps ++ h ∷ [])) s.demoting
      ((contains_push ps h h).1 (inr refl)) (last_is_longest ps h s.rising) (Contains ps) (todo_init ps h s.once);
  once = once_init ps h s.once;
  rising = rising_init ps h s.rising;
  weights = weights_then g birth h before after d s.weights;
}

-- behind the last turn the locally shortest paths are kept
pub shortening_ends : (g : Graph) (H0 : List ℕ → Type 0) (paths : List KeptPath) → IsShortening g H0 [] paths
    → IsShortestBook g paths
shortening_ends g H0 paths s = demoted_book g H0 (Contains []) paths s.demoting (λ p c. in_nil p c) s.weights

-- ---- the list from a search

-- once the search along extensions behind the end is done, and what is not shortest is picked from it, the loop starts
pub shortening_found : (g : Graph) (v birth : ℕ) (middle paths : List KeptPath) (formed promoted : ℕ)
    → IsReady g v middle → IsSettled g birth middle paths formed promoted → (found ps : List (List ℕ))
    → IsSearch length (IsHistoricalIn paths) (IsVertex g.vertices) (GoesOn (IsHistoricalIn paths)) found []
    → IsPicked length (λ p. IsShortest g p → ⊥) found ps → IsShortening g (IsHistoricalIn paths) ps paths
shortening_found g v birth middle paths formed promoted ready settled found ps search picked =
    shortening_starts g v birth middle paths formed promoted ready settled ps
    (λ p.
    let all : Contains found p ↔ IsHistoricalIn paths p =
    search_ends length (IsHistoricalIn paths) (IsVertex g.vertices) (GoesOn (IsHistoricalIn paths)) forest found
    search p in (
      λ c. let h : Contains found p × (IsShortest g p → ⊥) = (picked.exact p).0 c in (all.0 h.0, h.1),
      λ h. (picked.exact p).1 (all.1 h.0, h.1),
    ))
    picked.once picked.rising
  where
    demoting : IsDemoting g (IsHistoricalIn paths) (IsHistoricalIn paths) (IsKeptIn paths) (ToDemote g paths)
    demoting = settled_demotes g v birth middle paths formed promoted ready settled

    forest : IsForest length (IsHistoricalIn paths) (IsVertex g.vertices) (GoesOn (IsHistoricalIn paths))
    forest = historical_forest g (IsHistoricalIn paths) demoting.closed
        (λ p single. (demoting.historical p).1 (inl (inl single))) demoting.local
