-- What a grow leaves, from the book that it makes: for `Engine::grow`.
use Rattle.std.specs.Prelude.{◌≡◌, ℕ, ◌+◌, ◌⊎◌, ◌↔◌, List, [], ◌∷◌, length, None, ◌++◌, false, refl}
use Rattle.std.proofs.Common.{sym, ◌∙◌, ap, subst, arith, inl, inr}
use Rattle.std.proofs.lemmas.Bool.{cases_lt}
use Rattle.apsp_model.specs.Graph.{Graph, widened}
use Rattle.apsp_model.specs.Walk.{weight_of}
use Rattle.apsp_model.specs.Local.{IsVertex, HistGrow}
use Rattle.apsp_model.specs.Kept.{Moment, after_grow}
use Rattle.apsp_model.specs.Command.{Grow_update}
use Rattle.apsp_model.specs.Counts.{TurnoverIs}
use Rattle.apsp_model.specs.Grows.{IsGrowable}
use Rattle.apsp_model.specs.Paths.{KeptPath, IsKeptIn, IsHistoricalIn, HasBirthIn, moment_in}
use Rattle.apsp_model.specs.Settled.{HaveWeights}
use Rattle.apsp_model.proofs.Growths.{weight_then}
use Rattle.fixup_math.proofs.Births.{StateBefore}
use Rattle.fixup_math.proofs.Growing.{book_grown, grown_kept, grown_turnover}
use Rattle.fixup_math.proofs.Start.{vertex_of_one}
use Rattle.history_engine.specs.Seen.{EngineSeen, paths_of, moment_seen, SayTheSame}
use Rattle.history_engine.specs.Advance.{Advance, steps_of_grow}
use Rattle.history_engine.specs.Lawful.{AreLawful}
use Rattle.book_widening.specs.Widened.{IsWidenedTo}
use Rattle.history_engine.proofs.Moments.{same_turned}
use Rattle.history_engine.proofs.Stepping.{to_book, from_book, book_on, paths_are, edge_lists}

module _ (g : Graph) (n k : ℕ) (before after : List KeptPath) (grows : IsGrowable g n) (lawful : AreLawful g k before)
    (w : IsWidenedTo n before after) where
  abbrev m : Moment
  m = moment_in k before

  book : StateBefore g m
  book = to_book g m lawful.lawful

  grown_historical : (p : List ℕ) → IsHistoricalIn after p ↔ HistGrow (IsHistoricalIn before) n p
  grown_historical p = (
    λ h. elim (w.new h.0 h.1) [
      | inl old ↦ inl (h.0, old, h.2, h.3)
      | inr single ↦
          inr (subst (IsVertex n) h.2 single.single)
    ],
    λ h. elim h [
      | inl old ↦ (old.0, w.old old.0 old.1, old.2, old.3)
      | inr single ↦ let s = w.singles p single in (s.0, s.1, s.2, s.3.historical)
    ],
  )

  kept_there : (p : List ℕ) → IsKeptIn after p ↔ (IsKeptIn before p ⊎ IsVertex n p)
  kept_there p = (
    λ h. elim (w.new h.0 h.1) [
      | inl old ↦ inl (h.0, old, h.2)
      | inr single ↦
          inr (subst (IsVertex n) h.2 single.single)
    ],
    λ h. elim h [
      | inl old ↦ (old.0, w.old old.0 old.1, old.2)
      | inr single ↦ let s = w.singles p single in (s.0, s.1, s.2)
    ],
  )

  kept_grown : (p : List ℕ) → IsKeptIn after p ↔ (after_grow m (widened g n)).kept p
  kept_grown p =
      let e : (after_grow m (widened g n)).kept p ↔ (IsKeptIn before p ⊎ IsVertex n p) =
      grown_kept g n grows m book p in
      (λ h. e.1 ((kept_there p).0 h), λ h. (kept_there p).1 (e.0 h))

  birth_grown : (p : List ℕ) (b : ℕ) → HasBirthIn after p b ↔ (after_grow m (widened g n)).birth p b
  birth_grown p b = (
    λ h. (
      (kept_grown p).0 (h.0, h.1, h.2),
      elim (w.new h.0 h.1) [
        | inl old ↦ elim (cases_lt 1 (length p)) [
          | inl long ↦ inr (long, (h.0, old, h.2, h.3))
          | inr short ↦
              let single : IsVertex g.vertices p =
              vertex_of_one g p ((book.kept p).0 (h.0, old, h.2)).walk (omega (arith, short)) in
              inl (ap length single.2, (book.single_births p b single).0 (h.0, old, h.2, h.3))
        ]
        | inr new ↦ let single : IsVertex n p =
            subst (IsVertex n) h.2 new.single in inl (ap length single.2, sym h.3 ∙ new.birth)
      ],
    ),
    λ h. elim h.1 [
      | inl short ↦
          let s = w.singles p (vertex_of_one (widened g n) p h.0.walk (omega (arith, short.0))) in
          (s.0, s.1, s.2, s.3.birth ∙ sym short.1)
      | inr edge ↦ let old : HasBirthIn before p b = edge.1 in (old.0, w.old old.0 old.1, old.2, old.3)
    ],
  )

  pub grown_says : SayTheSame (moment_in (k + 1) after) (after_grow m (widened g n))
  grown_says = record { steps = refl; historical = grown_historical; kept = kept_grown; birth = birth_grown }

  pub grown_lawful : AreLawful (widened g n) (k + 1) after
  grown_lawful = record {
    lawful = from_book (widened g n) (moment_in (k + 1) after)
        (book_on (widened g n) (after_grow m (widened g n)) (moment_in (k + 1) after)
        (same_turned (moment_in (k + 1) after) (after_grow m (widened g n)) grown_says) (book_grown g n grows m book));
    weights = λ j c. elim (w.new j c) [
      | inl old ↦ lawful.weights j old ∙ sym (weight_then g n grows j.list)
      | inr new ↦ new.weight ∙ sym (ap (weight_of (widened g n)) new.single.2)
    ];
    once = w.once;
  }

-- what is seen of the engine then: a grow forms nothing and removes nothing
pub grow_done : (e after : EngineSeen) (n : ℕ) → IsGrowable e.graph n → AreLawful e.graph e.steps (paths_of e)
    → IsWidenedTo n (paths_of e) (paths_of after) → after.opening ≡ e.opening → after.smooth ≡ e.smooth
    → after.graph ≡ widened e.graph n → after.vertices ≡ e.vertices ++ None ∷ [] → after.steps ≡ e.steps + 1
    → after.formed ≡ 0 → after.removed ≡ 0 → after.spent ≡ false → Advance e (Grow_update n) after
grow_done e after n grows lawful w opening smooth graph vertices steps formed removed spent = record {
  opening = opening;
  smooth = smooth;
  graph = graph;
  vertices = vertices;
  steps = steps;
  turnover = subst (λ (f : ℕ). TurnoverIs (moment_seen e) (steps_of_grow e n) f after.removed) (sym formed)
      (subst (λ (r : ℕ). TurnoverIs (moment_seen e) (steps_of_grow e n) 0 r) (sym removed)
      (grown_turnover e.graph n grows (moment_seen e) (to_book e.graph (moment_seen e) lawful.lawful)
      (length (edge_lists (paths_of e))) (paths_are e.steps (paths_of e) lawful.once)));
  book = record {
    weights =
        subst (λ (h : Graph). HaveWeights h (paths_of after)) (sym graph)
        (grown_lawful e.graph n e.steps (paths_of e) (paths_of after) grows lawful w).weights;
    once = w.once;
    says = subst (λ (k : ℕ). SayTheSame (moment_in k (paths_of after)) (after_grow (moment_seen e) (widened e.graph n)))
        (sym steps) (grown_says e.graph n e.steps (paths_of e) (paths_of after) grows lawful w);
  };
  not_spent = spent;
}
