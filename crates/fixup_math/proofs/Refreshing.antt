-- A cleaning step in place: a star step at v with the star that v has.
--
-- The graph stays, so its least walks do, and they are historical already. What is historical after the step is what
-- was, but for the paths through v that are not least. What is kept is what was, but for the paths of which a part is
-- historical no more. So the step only takes away: it forms again, with its own number as their birth, the paths
-- through v that stay.
use Rattle.std.specs.Prelude.{◌≡◌, ℕ, ◌+◌, ◌<◌, ◌≤◌, ◌⊎◌, ◌↔◌, List, [], ◌∷◌, length, refl, Contains}
use Rattle.std.proofs.Common.{sym, ◌∙◌, ap, subst, arith, inl, inr}
use Rattle.std.proofs.lemmas.Bool.{cases_lt}
use Rattle.apsp_model.specs.Graph.{Graph}
use Rattle.apsp_model.specs.Walk.{IsWalk, weight_of, first, last}
use Rattle.apsp_model.specs.Order.{IsBelow, path_cmp}
use Rattle.apsp_model.specs.Part.{IsProperPart, left_part, right_part}
use Rattle.apsp_model.specs.Least.{IsLeast, IsLeastWalk}
use Rattle.apsp_model.specs.Local.{IsVertex, Avoids, HistStep, IsLocal}
use Rattle.apsp_model.specs.Kept.{Moment, IsWithEdge, after_star}
use Rattle.apsp_model.specs.Counts.{CountIs}
use Rattle.apsp_model.specs.Paths.{KeptPath, IsKeptIn, IsHistoricalIn, HasBirthIn, moment_in}
use Rattle.apsp_model.specs.Settled.{HaveWeights}
use Rattle.apsp_model.proofs.Simples.{contained_or_not}
use Rattle.apsp_model.proofs.Walks.{first_is, last_is}
use Rattle.apsp_model.proofs.Below.{upto_or_above}
use Rattle.apsp_model.proofs.Locals.{parts_by_ends, step_closed, left_is_part, right_is_part}
use Rattle.apsp_model.proofs.Leasts.{least_of_vertex, least_closed}
use Rattle.apsp_model.proofs.Counting.{count_same, count_unique, count_either, count_without}
use Rattle.fixup_math.specs.Settling.{IsLeastKept}
use Rattle.fixup_math.specs.Refresh.{IsLeastPathIn, IsLeastListIn, HaveLeasts, StaysHistorical, StaysKept, IsRefreshed}
use Rattle.fixup_math.proofs.Start.{vertex_of_one}
use Rattle.fixup_math.proofs.Births.{StateBefore, Left, formed_is, book_after, least_kept_is_least}

-- ---- the step, over what holds of lists

module _ (m : Moment) (v : ℕ) (g : Graph) (book : StateBefore g m) where
  -- what is historical after the step
  abbrev pub Next : List ℕ → Type 0
  Next = HistStep m.historical v g

  single_is_least : (p : List ℕ) → IsVertex g.vertices p → IsLeastWalk g p
  single_is_least p single =
      (single.0, single.0, subst (IsLeast g single.0 single.0) (sym single.2) (least_of_vertex g single.0 single.1))

  -- it is what was historical, but for the paths through v that are not least
  pub next_is : (p : List ℕ) → Next p ↔ (m.historical p × (Avoids p v ⊎ IsLeastWalk g p))
  next_is p = (
    λ h. elim h [
      | inl single ↦ (book.singles p single, inr (single_is_least p single))
      | inr rest ↦ elim rest [ inl old ↦ (old.0, inl old.1) | inr least ↦ (book.least p least, inr least) ]
    ],
    λ h. elim h.1 [ inl avoids ↦ inr (inl (h.0, avoids)) | inr least ↦ inr (inr least) ],
  )

  -- what is kept is what was, but for the paths of which a part is historical no more
  pub kept_is : (p : List ℕ) → IsLocal g Next p ↔ (m.kept p × ((q : List ℕ) → IsProperPart q p → Next q))
  kept_is p = (
    λ l. (
      (book.kept p).1 (record {
        simple = l.simple;
        walk = l.walk;
        parts = λ q part.
            ((next_is q).0 (l.parts q part)).0;
      }),
      l.parts,
    ),
    λ h. let l : IsLocal g m.historical p =
        (book.kept p).0 h.0 in record { simple = l.simple; walk = l.walk; parts = h.1 },
  )

  -- .. and the two parts without an end say that of all
  pub kept_by_ends : (p : List ℕ) → IsLocal g Next p ↔
      (m.kept p × (IsWithEdge p → Next (left_part p) × Next (right_part p)))
  kept_by_ends p = (
    λ l. (
      ((kept_is p).0 l).0,
      λ long. let two : 2 ≤ length p = omega (arith, long) in
          (l.parts (left_part p) (left_is_part p two), l.parts (right_part p) (right_is_part p two)),
    ),
    λ h. (kept_is p).1 (
      h.0,
      elim (cases_lt 1 (length p)) [
        | inl long ↦ (parts_by_ends Next (step_closed m.historical v g book.closed) p (omega (arith, long))).1
            (h.1 long)
        | inr short ↦ λ q part. absurd (let less : length q < length p = part.shorter in
            let some : 0 < length q = part.part.some in omega (arith, less, some, short))
      ],
    ),
  )

  -- the births: what avoids v keeps its own, and what passes v has the step's number
  pub births_are : (p : List ℕ) (b : ℕ) → (after_star m v g).birth p b ↔
      (IsLocal g Next p × (((Avoids p v ⊎ (length p ≡ 1)) × m.birth p b)
      ⊎ (IsWithEdge p × Contains p v × (b ≡ m.steps + 1))))
  births_are p b = (
    λ h. (
      h.0,
      elim h.1 [
        | inl single ↦ inl (
          inr single.0,
          (book.single_births p b (vertex_of_one g p (h.0).walk (omega (arith, single.0)))).1 single.1,
        )
        | inr edge ↦ elim edge.1 [
          | inl old ↦ inl (inl old.0.1, old.1)
          | inr new ↦ elim (contained_or_not p v) [
            | inl through ↦ inr (edge.0, through, new.1)
            | inr avoids ↦ absurd (new.0 (((kept_is p).0 h.0).0, avoids))
          ]
        ]
      ],
    ),
    λ h. (
      h.0,
      elim h.1 [
        | inl old ↦ elim (cases_lt 1 (length p)) [
          | inl long ↦ elim old.0 [
            | inl avoids ↦ inr (long, inl ((((kept_is p).0 h.0).0, avoids), old.1))
            | inr one ↦ absurd (omega (arith, one, long))
          ]
          | inr short ↦
              let single : IsVertex g.vertices p = vertex_of_one g p (h.0).walk (omega (arith, short)) in
              inl (ap length single.2, (book.single_births p b single).0 old.1)
        ]
        | inr new ↦ inr (new.0, inr (λ stays. stays.1 new.1, new.2))
      ],
    ),
  )

  -- removed is what was kept through v, and formed what is kept through v
  pub turnover_is : (before after removed formed : ℕ) → CountIs (λ p. m.kept p × IsWithEdge p) before
      → CountIs (λ p. m.kept p × IsWithEdge p × Contains p v) removed
      → CountIs (λ p. (after_star m v g).kept p × IsWithEdge p) after
      → CountIs (λ p. (after_star m v g).kept p × IsWithEdge p × Contains p v) formed
      → formed + before ≡ after + removed
  turnover_is before after removed formed b r a f =
      formed_is m v g g refl (λ _ _ _. refl) book before after removed formed b r a
      (count_same (λ p. IsLocal g Next p × IsWithEdge p × Contains p v)
      (λ p. IsLocal g Next p × (Left m v g g refl (λ _ _ _. refl) book p → ⊥)) formed (λ p. (
        λ h. (h.0, λ left. elim left [ inl stays ↦ stays.1 h.2 | inr single ↦ omega (arith, ap length single.2, h.1) ]),
        λ h. elim (cases_lt 1 (length p)) [
          | inl long ↦ (
            h.0,
            long,
            elim (contained_or_not p v)
                [ inl through ↦ through | inr avoids ↦ absurd (h.1 (inl (((kept_is p).0 h.0).0, avoids))) ],
          )
          | inr short ↦ absurd (h.1 (inr (vertex_of_one g p (h.0).walk (omega (arith, short)))))
        ],
      )) f)

  -- nothing has to settle: of each pair the least kept path is historical, and stays the least kept one
  pub least_stays : (x y : ℕ) (q : List ℕ) → IsLeastKept g m.kept x y q → Next q
      × IsLeastKept g (after_star m v g).kept x y q
  least_stays x y q l =
      let least : IsLeastWalk g q = (x, y, least_kept_is_least g m book x y q l) in
      let after : StateBefore g (after_star m v g) = book_after m v g g refl (λ _ _ _. refl) book in (
        inr (inr least),
        record {
          kept = after.marked_kept q (inr (inr least));
          walk = l.walk;
          first = λ p k walk.
              l.first p ((kept_is p).0 k).0 walk;
        },
      )

-- ---- the step, over lists of kept paths

module _ (g : Graph) (k v : ℕ) (before : List KeptPath) (book : StateBefore g (moment_in k before))
    (weights : HaveWeights g before) where
  -- an entry is the least of its pair exactly where its list is a least walk
  entry_walk : (e : KeptPath) → Contains before e → IsWalk g e.list
  entry_walk e c = ((book.kept e.list).0 (e, c, refl)).walk

  same_order : (j e : KeptPath) → Contains before j → Contains before e
      → path_cmp j.weight j.list e.weight e.list ≡ path_cmp (weight_of g j.list) j.list (weight_of g e.list) e.list
  same_order j e c d = λ i. path_cmp (weights j c i) j.list (weights e d i) e.list

  walk_long : (p : List ℕ) → IsWalk g p → 0 < length p
  walk_long [] walk = absurd walk
  walk_long (x ∷ p) walk = omega arith

  pub least_is_walk : (e : KeptPath) → IsLeastPathIn before e → IsLeastWalk g e.list
  least_is_walk e l =
      let walk : IsWalk g e.list = entry_walk e l.kept in
      let x = first_is e.list (walk_long e.list walk) in
      let y = last_is e.list (walk_long e.list walk) in (
        x.0,
        y.0,
        least_kept_is_least g (moment_in k before) book x.0 y.0 e.list (record {
          kept = (e, l.kept, refl);
          walk = record { walk = walk; from = x.1; to = y.1 };
          first = λ p kept between. elim (upto_or_above g e.list p) [
            | inl upto ↦ upto
            | inr below ↦
                let j : IsKeptIn before p = kept in
                absurd (l.first j.0 j.1 (ap first j.2 ∙ between.from ∙ sym x.1) (ap last j.2 ∙ between.to ∙ sym y.1)
                (same_order j.0 e j.1 l.kept ∙ subst (λ (q : List ℕ). IsBelow g q e.list) (sym j.2) below))
          ];
        }),
      )

  pub walk_is_least : (e : KeptPath) → Contains before e → IsLeastWalk g e.list → IsLeastPathIn before e
  walk_is_least e c least = record {
    kept = c;
    first = λ j d from to below. least.2.least j.list
        (record { walk = entry_walk j d; from = from ∙ least.2.walk.from; to = to ∙ least.2.walk.to })
        (sym (same_order j e d c) ∙ below);
  }

  pub least_list : (p : List ℕ) → IsLeastListIn before p ↔ IsLeastWalk g p
  least_list p = (
    λ h. subst (IsLeastWalk g) h.2 (least_is_walk h.0 h.1),
    λ least. let e : IsKeptIn before p =
        book.marked_kept p (book.least p least) in
        (e.0, walk_is_least e.0 e.1 (subst (IsLeastWalk g) (sym e.2) least), e.2),
  )

  -- so the least kept paths are as a cleaning in place needs them
  pub leasts_are : HaveLeasts before
  leasts_are = record {
    left = λ p h long. (least_list (left_part p)).1
        (least_closed g p (left_part p) ((least_list p).0 h) (left_is_part p (omega (arith, long))).part);
    right = λ p h long. (least_list (right_part p)).1
        (least_closed g p (right_part p) ((least_list p).0 h) (right_is_part p (omega (arith, long))).part);
  }

  -- what stays is what the step leaves
  stays_is : (p : List ℕ) → StaysHistorical v before p ↔ HistStep (IsHistoricalIn before) v g p
  stays_is p = (
    λ h. (next_is (moment_in k before) v g book p).1
        (h.0, elim h.1 [ inl avoids ↦ inl avoids | inr least ↦ inr ((least_list p).0 least) ]),
    λ h. let old =
        (next_is (moment_in k before) v g book p).0 h in
        (old.0, elim old.1 [ inl avoids ↦ inl avoids | inr least ↦ inr ((least_list p).1 least) ]),
  )

  kept_stays : (p : List ℕ) → StaysKept v before p ↔ IsLocal g (HistStep (IsHistoricalIn before) v g) p
  kept_stays p = (
    λ h. (kept_by_ends (moment_in k before) v g book p).1
        (h.0, λ long. ((stays_is (left_part p)).0 (h.1 long).0, (stays_is (right_part p)).0 (h.1 long).1)),
    λ l. let old =
        (kept_by_ends (moment_in k before) v g book p).0 l in
        (old.0, λ long. ((stays_is (left_part p)).1 (old.1 long).0, (stays_is (right_part p)).1 (old.1 long).1)),
  )

  module _ (after : List KeptPath) (r : IsRefreshed v (k + 1) before after) where
    pub refreshed_historical : (p : List ℕ)
        → IsHistoricalIn after p ↔ (after_star (moment_in k before) v g).historical p
    refreshed_historical p = (λ h. (stays_is p).0 ((r.historical p).0 h), λ h. (r.historical p).1 ((stays_is p).1 h))

    pub refreshed_kept : (p : List ℕ) → IsKeptIn after p ↔ (after_star (moment_in k before) v g).kept p
    refreshed_kept p = (λ h. (kept_stays p).0 ((r.kept p).0 h), λ h. (r.kept p).1 ((kept_stays p).1 h))

    pub refreshed_births : (p : List ℕ) (b : ℕ) → HasBirthIn after p b ↔ (after_star (moment_in k before) v g).birth p b
    refreshed_births p b = (
      λ h. let new =
          (r.births p b).0 h in (births_are (moment_in k before) v g book p b).1 ((kept_stays p).0 new.0, new.1),
      λ h. let old =
          (births_are (moment_in k before) v g book p b).0 h in (r.births p b).1 ((kept_stays p).1 old.0, old.1),
    )

    pub refreshed_weights : HaveWeights g after
    refreshed_weights e c =
        let j = r.weights e c in
        sym j.3 ∙ weights j.0 j.1 ∙ ap (weight_of g) j.2

    -- so many were formed as the counts say
    pub refreshed_turnover : (a b removed formed : ℕ) → CountIs (λ p. IsKeptIn before p × IsWithEdge p) b
        → CountIs (λ p. IsKeptIn before p × IsWithEdge p × Contains p v) removed
        → CountIs (λ p. IsKeptIn after p × IsWithEdge p) a
        → CountIs (λ p. IsKeptIn after p × IsWithEdge p × Contains p v) formed → formed + b ≡ a + removed
    refreshed_turnover a b removed formed at_first gone at_last here =
        turnover_is (moment_in k before) v g book b a removed formed at_first gone
        (count_same (λ p. IsKeptIn after p × IsWithEdge p)
        (λ p. (after_star (moment_in k before) v g).kept p × IsWithEdge p) a
        (λ p. (λ h. ((refreshed_kept p).0 h.0, h.1), λ h. ((refreshed_kept p).1 h.0, h.1))) at_last)
        (count_same (λ p. IsKeptIn after p × IsWithEdge p × Contains p v)
        (λ p. (after_star (moment_in k before) v g).kept p × IsWithEdge p × Contains p v) formed
        (λ p. (λ h. ((refreshed_kept p).0 h.0, h.1, h.2), λ h. ((refreshed_kept p).1 h.0, h.1, h.2))) here)

    -- so many paths are formed, no more than are kept then, and no more were removed than there were
    pub refreshed_counts : (a b removed : ℕ) → CountIs (λ p. IsKeptIn before p × IsWithEdge p) b
        → CountIs (λ p. IsKeptIn before p × IsWithEdge p × Contains p v) removed
        → CountIs (λ p. IsKeptIn after p × IsWithEdge p) a → (formed : ℕ) × (formed + b ≡ a + removed) × (removed ≤ b)
    refreshed_counts a b removed at_first gone at_last =
        let Before : List ℕ → Type 0 = λ p. IsKeptIn before p × IsWithEdge p in
        let Through : List ℕ → Type 0 = λ p. IsKeptIn before p × IsWithEdge p × Contains p v in
        let After : List ℕ → Type 0 = λ p. IsKeptIn after p × IsWithEdge p in
        let Rest : List ℕ → Type 0 = λ p. Before p × (Through p → ⊥) in
        let rest = count_without Through Before removed b gone at_first in
        let both : CountIs (λ p. Through p ⊎ Rest p) (removed + rest.0) =
        count_either Through Rest removed rest.0 (λ p t r. r.1 t) gone rest.1 in
        let all : CountIs Before (removed + rest.0) =
        count_same (λ p. Through p ⊎ Rest p) Before (removed + rest.0) (λ p. (
          λ h. elim h [ inl t ↦ (t.0, t.1) | inr r ↦ r.0 ],
          λ h. elim (contained_or_not p v)
              [ inl through ↦ inl (h.0, h.1, through) | inr avoids ↦ inr (h, λ t. avoids t.2) ],
        )) both in
        let is : b ≡ removed + rest.0 = count_unique Before b (removed + rest.0) at_first all in
        let here = count_without Rest After rest.0 a rest.1 at_last in
        let formed : CountIs (λ p. IsKeptIn after p × IsWithEdge p × Contains p v) here.0 =
        count_same (λ p. After p × (Rest p → ⊥)) (λ p. IsKeptIn after p × IsWithEdge p × Contains p v) here.0
        (λ p. (
          λ h. (
            h.0.0,
            h.0.1,
            elim (contained_or_not p v) [
              | inl through ↦ through
              | inr avoids ↦
                  absurd (h.1 ((((r.kept p).0 h.0.0).0, h.0.1), λ t. avoids t.2))
            ],
          ),
          λ h. ((h.0, h.1), λ out. out.1 (((r.kept p).0 h.0).0, h.1, h.2)),
        )) here.1 in
        (here.0, refreshed_turnover a b removed here.0 at_first gone at_last formed, omega (arith, is))
