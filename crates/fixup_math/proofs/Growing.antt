-- A grow step keeps a book a book: the kept paths with an edge are those from before, and new single vertices come in.
--
-- The mathematics. The edges of the graph are between its old vertices, so a walk with an edge was a walk before, of
-- the
-- same weight, and a least walk with an edge was one before. What is historical then is what was historical and the new
-- single vertices. A list with an edge that is local then is a walk of old vertices, so its parts were historical
-- before:
-- it was local before, and so it was kept. It keeps its birth, and nothing is formed and nothing is removed.
use Rattle.std.specs.Prelude.{◌≡◌, ℕ, ◌+◌, ◌<◌, ◌≤◌, ◌⊎◌, ◌↔◌, List, [], ◌∷◌, ◌++◌, length, refl, Contains}
use Rattle.std.proofs.Common.{sym, ◌∙◌, ap, subst, arith, inl, inr}
use Rattle.std.proofs.lemmas.Bool.{cases_lt}
use Rattle.std.proofs.lemmas.List.Elements.{Contains-append_left, Contains-append_right}
use Rattle.apsp_model.specs.Graph.{Graph, widened}
use Rattle.apsp_model.specs.Part.{IsProperPart}
use Rattle.apsp_model.specs.Order.{path_cmp, walk_cmp}
use Rattle.apsp_model.specs.Least.{IsLeastWalk}
use Rattle.apsp_model.specs.Local.{IsVertex, HistGrow, IsLocal}
use Rattle.apsp_model.specs.Kept.{Moment, IsWithEdge, after_grow}
use Rattle.apsp_model.specs.Command.{Grow_step}
use Rattle.apsp_model.specs.Counts.{PathsAre, TurnoverIs}
use Rattle.apsp_model.specs.Grows.{IsGrowable}
use Rattle.apsp_model.proofs.Members.{head_in}
use Rattle.apsp_model.proofs.Simples.{inside_walk}
use Rattle.apsp_model.proofs.Locals.{singles_closed}
use Rattle.apsp_model.proofs.Counting.{count_same}
use Rattle.apsp_model.proofs.Growths.{walk_then, walk_before, weight_then}
use Rattle.fixup_math.proofs.Births.{StateBefore}
use Rattle.fixup_math.proofs.Start.{local_single, vertex_of_one}

module _ (g : Graph) (n : ℕ) (grows : IsGrowable g n) where
  cmp_then : (p q : List ℕ) → walk_cmp (widened g n) p q ≡ walk_cmp g p q
  cmp_then p q = λ i. path_cmp (weight_then g n grows p i) p (weight_then g n grows q i) q

  -- a least walk with an edge was one before
  least_before : (p : List ℕ) → IsWithEdge p → IsLeastWalk (widened g n) p → IsLeastWalk g p
  least_before p long h = (
    h.0,
    h.1,
    record {
      walk = record { walk = walk_before g n grows p long h.2.walk.walk; from = h.2.walk.from; to = h.2.walk.to };
      least = λ q walk below. h.2.least q
          (record { walk = walk_then g n grows q walk.walk; from = walk.from; to = walk.to }) (cmp_then q p ∙ below);
    },
  )

  single_then : (p : List ℕ) → IsVertex g.vertices p → IsVertex n p
  single_then p single = (
    single.0,
    (let l : g.vertices ≤ n = grows.fewer in let k : single.0 < g.vertices = single.1 in omega arith),
    single.2,
  )

  module _ (m : Moment) (book : StateBefore g m) where
    -- a single vertex in a walk that was one before is an old one
    old_single : (p q : List ℕ) → IsWithEdge p → IsLocal (widened g n) (HistGrow m.historical n) p → IsProperPart q p
        → IsVertex n q → m.historical q
    old_single p q long l part single =
        book.singles q (single.0, inside_walk g p (walk_before g n grows p long l.walk) single.0 inside, single.2)
      where
        inside : Contains p single.0
        inside =
            let whole : part.part.before ++ (q ++ part.part.after) ≡ p = sym part.part.whole in
            subst (λ (r : List ℕ). Contains r single.0) whole
            (Contains-append_right part.part.before (q ++ part.part.after) single.0
            (Contains-append_left q part.part.after single.0
            (subst (λ (r : List ℕ). Contains r single.0) (sym single.2) (head_in single.0 single.0 [] refl))))

    -- exactly the kept paths with an edge stay
    pub long_kept : (p : List ℕ) → IsWithEdge p → (after_grow m (widened g n)).kept p ↔ m.kept p
    long_kept p long = (
      λ l. (book.kept p).1 (record {
        simple = l.simple;
        walk = walk_before g n grows p long l.walk;
        parts = λ q part. elim (l.parts q part) [ inl old ↦ old | inr single ↦ old_single p q long l part single ];
      }),
      λ k. let l : IsLocal g m.historical p =
          (book.kept p).0 k in record {
            simple = l.simple;
            walk = walk_then g n grows p l.walk;
            parts = λ q part. inl
                (l.parts q part);
          },
    )

    -- .. and the single vertices are all there
    pub grown_kept : (p : List ℕ) → (after_grow m (widened g n)).kept p ↔ (m.kept p ⊎ IsVertex n p)
    grown_kept p = (
      λ l. elim (cases_lt 1 (length p)) [
        | inl long ↦ inl ((long_kept p long).0 l)
        | inr short ↦ inr (vertex_of_one (widened g n) p l.walk (omega (arith, short)))
      ],
      λ h. elim h [
        | inl old ↦ kept_then p old
        | inr single ↦ local_single (widened g n) (HistGrow m.historical n) p single
      ],
    )
      where
        kept_then : (p : List ℕ) → m.kept p → (after_grow m (widened g n)).kept p
        kept_then p k = elim (cases_lt 1 (length p)) [
          | inl long ↦ (long_kept p long).1 k
          | inr short ↦ local_single (widened g n) (HistGrow m.historical n) p
              (single_then p (vertex_of_one g p ((book.kept p).0 k).walk (omega (arith, short))))
        ]

    -- what a grow leaves is a book of the wider graph
    pub book_grown : StateBefore (widened g n) (after_grow m (widened g n))
    book_grown = record {
      closed = λ p q h part. elim h [
        | inl old ↦ inl (book.closed p q old part)
        | inr single ↦
            inr (singles_closed (widened g n) p q single part)
      ];
      singles = λ p h. inr h;
      marked_kept =
          λ p h. (grown_kept p).1 (elim h [ inl old ↦ inl (book.marked_kept p old) | inr single ↦ inr single ]);
      kept = λ p. (λ h. h, λ h. h);
      single_births = λ p b single. (
        λ h. elim h.1 [ inl short ↦ short.1 | inr edge ↦ absurd (omega (arith, ap length single.2, edge.0)) ],
        λ is. (local_single (widened g n) (HistGrow m.historical n) p single, inl (ap length single.2, is)),
      );
      least = λ p h. elim (cases_lt 1 (length p)) [
        | inl long ↦ inl (book.least p (least_before p long h))
        | inr short ↦ inr (vertex_of_one (widened g n) p h.2.walk.walk (omega (arith, short)))
      ];
    }

    -- as many paths are kept as before
    pub grown_paths : (k : ℕ) → PathsAre m k ↔ PathsAre (after_grow m (widened g n)) k
    grown_paths k = (
      count_same (λ p. m.kept p × IsWithEdge p) (λ p. (after_grow m (widened g n)).kept p × IsWithEdge p) k
          (λ p. (λ h. ((long_kept p h.1).1 h.0, h.1), λ h. ((long_kept p h.1).0 h.0, h.1))),
      count_same (λ p. (after_grow m (widened g n)).kept p × IsWithEdge p) (λ p. m.kept p × IsWithEdge p) k
          (λ p. (λ h. ((long_kept p h.1).0 h.0, h.1), λ h. ((long_kept p h.1).1 h.0, h.1))),
    )

    -- so a grow forms nothing and removes nothing
    pub grown_turnover : (k : ℕ) → PathsAre m k → TurnoverIs m (Grow_step (widened g n) ∷ []) 0 0
    grown_turnover k paths = record {
      before = k;
      after = k;
      paths_before = paths;
      paths_after = (grown_paths k).0 paths;
      removed_is = refl;
      formed_is = omega arith;
    }
