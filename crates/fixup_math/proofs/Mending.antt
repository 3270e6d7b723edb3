-- What settling of a whole graph leaves is what a mend step gives.
--
-- The mathematics. A mend takes a new book, in which the single vertices alone are kept and historical, forms all edges
-- of
-- the graph g and settles. At its end the historical paths are the single vertices and all least walks, the kept ones
-- are
-- local of them, and no path with an edge was there before, so each has the number of the mend step as its birth, and
-- as
-- many were formed as are kept with an edge. That is the moment of the mend step.
use Rattle.std.specs.Prelude.{◌≡◌, ℕ, ◌+◌, ◌<◌, ◌⊎◌, ◌↔◌, List, [], ◌∷◌, length, refl}
use Rattle.std.proofs.Common.{sym, ◌∙◌, ap, arith, inl, inr}
use Rattle.std.proofs.lemmas.Bool.{cases_lt}
use Rattle.apsp_model.specs.Graph.{Graph}
use Rattle.apsp_model.specs.Part.{IsClosedUnderParts}
use Rattle.apsp_model.specs.Local.{IsVertex, IsShortest, IsLocal}
use Rattle.apsp_model.specs.Kept.{IsWithEdge, after_mend}
use Rattle.apsp_model.specs.Counts.{PathsAre}
use Rattle.apsp_model.specs.Paths.{KeptPath, IsKeptIn, IsHistoricalIn, HasBirthIn, moment_in}
use Rattle.apsp_model.specs.Settled.{IsSettled, AreSingles}
use Rattle.apsp_model.proofs.Leasts.{least_closed, least_is_simple}
use Rattle.apsp_model.proofs.Locals.{singles_closed}
use Rattle.apsp_model.proofs.Counting.{count_same}
use Rattle.fixup_math.proofs.Births.{StateBefore}
use Rattle.fixup_math.proofs.Start.{local_single, vertex_of_one}

pub shortest_closed : (g : Graph) → IsClosedUnderParts (IsShortest g)
shortest_closed g p q h part =
    elim h [ inl single ↦ inl (singles_closed g p q single part) | inr least ↦ inr (least_closed g p q least part) ]

-- a mend leaves a book, whatever was before it
pub book_mended : (before : ℕ) (g : Graph) → StateBefore g (after_mend before g)
book_mended before g = record {
  closed = shortest_closed g;
  singles = λ p h. inl h;
  marked_kept = λ p h. elim h [
    | inl single ↦ local_single g (IsShortest g) p single
    | inr least ↦ record {
      simple = least_is_simple g p least;
      walk = least.2.walk.walk;
      parts = λ q part. inr
          (least_closed g p q least part.part);
    }
  ];
  kept = λ p. (λ h. h, λ h. h);
  single_births = λ p b single. (
    λ h. elim h.1 [ inl short ↦ short.1 | inr edge ↦ absurd (omega (arith, ap length single.2, edge.0)) ],
    λ is. (local_single g (IsShortest g) p single, inl (ap length single.2, is)),
  );
  least = λ p h. inr h;
}

module _ (g : Graph) (k : ℕ) (before after : List KeptPath) (formed promoted : ℕ)
    (singles : AreSingles g.vertices before) (s : IsSettled g (k + 1) before after formed promoted) where
  pub whole_historical : (p : List ℕ) → IsHistoricalIn after p ↔ (after_mend k g).historical p
  whole_historical p = (
    λ h. elim ((s.historical p).0 h) [ inl old ↦ inl ((singles.historical p).0 old) | inr least ↦ inr least ],
    λ h. (s.historical p).1 (elim h [ inl single ↦ inl ((singles.historical p).1 single) | inr least ↦ inr least ]),
  )

  pub whole_kept : (p : List ℕ) → IsKeptIn after p ↔ (after_mend k g).kept p
  whole_kept p = (
    λ h. let l : IsLocal g (IsHistoricalIn after) p =
        (s.kept p).0 h in record {
          simple = l.simple;
          walk = l.walk;
          parts = λ q part. (whole_historical q).0
              (l.parts q part);
        },
    λ l. (s.kept p).1 (record {
      simple = l.simple;
      walk = l.walk;
      parts = λ q part. (whole_historical q).1
          (l.parts q part);
    }),
  )

  no_vertex : (p : List ℕ) → IsWithEdge p → IsVertex g.vertices p → ⊥
  no_vertex p long single = omega (arith, ap length single.2)

  pub whole_birth : (p : List ℕ) (b : ℕ) → HasBirthIn after p b ↔ (after_mend k g).birth p b
  whole_birth p b = (λ h. on ((s.births p b).0 h), λ h. (s.births p b).1 (back h.0 h.1))
    where
      on : HasBirthIn before p b ⊎ (IsKeptIn after p × (IsKeptIn before p → ⊥) × (b ≡ k + 1))
          → (after_mend k g).birth p b
      on h = elim h [
        | inl old ↦
            let first : IsVertex g.vertices p × (b ≡ 0) = (singles.births p b).0 old in
            (local_single g (IsShortest g) p first.0, inl (ap length first.0.2, first.1))
        | inr new ↦
            let local : IsLocal g (IsShortest g) p = (whole_kept p).0 new.0 in (
              local,
              elim (cases_lt 1 (length p)) [
                | inl long ↦ inr (long, new.2)
                | inr short ↦ absurd (new.1 ((singles.kept p).1 (vertex_of_one g p local.walk (omega (arith, short)))))
              ],
            )
      ]

      back : IsLocal g (IsShortest g) p → ((length p ≡ 1) × (b ≡ 0)) ⊎ (IsWithEdge p × (b ≡ k + 1))
          → HasBirthIn before p b ⊎ (IsKeptIn after p × (IsKeptIn before p → ⊥) × (b ≡ k + 1))
      back local h = elim h [
        | inl short ↦ inl ((singles.births p b).1 (vertex_of_one g p local.walk (omega (arith, short.0)), short.1))
        | inr edge ↦ inr ((whole_kept p).1 local, λ was. no_vertex p edge.0 ((singles.kept p).0 was), edge.1)
      ]

  -- as many paths were formed as are kept with an edge
  pub whole_formed : PathsAre (moment_in (k + 1) after) formed
  whole_formed =
      count_same (λ p. IsKeptIn after p × (IsKeptIn before p → ⊥)) (λ p. IsKeptIn after p × IsWithEdge p) formed (λ p. (
        λ h. (
          h.0,
          elim (cases_lt 1 (length p)) [
            | inl long ↦ long
            | inr short ↦ absurd (h.1 ((singles.kept p).1
                (vertex_of_one g p ((whole_kept p).0 h.0).walk (omega (arith, short)))))
          ],
        ),
        λ h. (h.0, λ was. no_vertex p h.1 ((singles.kept p).0 was)),
      )) s.formed_is
