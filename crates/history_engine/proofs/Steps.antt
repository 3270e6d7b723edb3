-- One star step: what cleanup and settling leave is what the step of a star gives. For `step`.
use Rattle.std.specs.Prelude.{◌≡◌, ℕ, ◌+◌, ◌<◌, ◌⊎◌, ◌↔◌, false, List, length, refl, Contains}
use Rattle.std.proofs.Common.{sym, ◌∙◌, ap, subst, arith, inl, inr}
use Rattle.apsp_model.specs.Graph.{Graph, weight_at}
use Rattle.apsp_model.specs.Star.{touches}
use Rattle.apsp_model.specs.Local.{IsVertex, Avoids, IsLocal}
use Rattle.apsp_model.specs.Kept.{Moment, after_star, IsWithEdge}
use Rattle.apsp_model.specs.Counts.{CountIs}
use Rattle.apsp_model.specs.Paths.{KeptPath, IsOncePerList, IsKeptIn, IsHistoricalIn, HasBirthIn, moment_in}
use Rattle.apsp_model.specs.Settled.{IsCleaned, IsSettled}
use Rattle.fixup_math.proofs.Births.{StateBefore, Left, LeftHistorical, IsStep, step, formed_is, book_after}
use Rattle.apsp_model.proofs.Counting.{count_same}
use Rattle.fixup_math.proofs.Start.{vertex_of_one}
use Rattle.history_engine.specs.Seen.{SayTheSame}
use Rattle.history_engine.proofs.Moments.{same_turned}
use Rattle.history_engine.specs.Stepping.{IsStepDone}
use Rattle.history_engine.proofs.Stepping.{book_on, from_book}

module _ (v k : ℕ) (gb g : Graph) (before : List KeptPath) (same_count : gb.vertices ≡ g.vertices)
    (same_away : (a b : ℕ) → touches v (a, b) ≡ false → weight_at gb a b ≡ weight_at g a b)
    (book : StateBefore gb (moment_in k before)) where
  abbrev pub m : Moment
  m = moment_in k before

  single_of : (p : List ℕ) → IsKeptIn before p → length p ≡ 1 → IsVertex g.vertices p
  single_of p kept short =
      let local : IsLocal gb (IsHistoricalIn before) p = (book.kept p).0 kept in
      let single : IsVertex gb.vertices p = vertex_of_one gb p local.walk (omega (arith, short)) in
      (single.0, subst (λ n. single.0 < n) same_count single.1, single.2)

  single_historical : (p : List ℕ) → IsVertex g.vertices p → IsHistoricalIn before p
  single_historical p single = book.singles p (single.0, subst (λ n. single.0 < n) (sym same_count) single.1, single.2)

  module _ (middle : List KeptPath) (cleaned : IsCleaned v before middle) where
    -- an entry that cleanup leaves
    left_entry : (e : KeptPath) (p : List ℕ) → Contains middle e → e.list ≡ p
        → Left m v gb g same_count same_away book p
    left_entry e p c is =
        let was : Contains before e × (Avoids e.list v ⊎ (length e.list ≡ 1)) = (cleaned e).0 c in
        elim was.1 [
          | inl avoids ↦ inl ((e, was.0, is), subst (λ (q : List ℕ). Avoids q v) is avoids)
          | inr short ↦ inr (single_of p (e, was.0, is) (sym (ap length is) ∙ short))
        ]

    -- an entry of a path that is left
    entry_left : (e : KeptPath) (p : List ℕ) → Contains before e → e.list ≡ p → Avoids p v ⊎ IsVertex g.vertices p
        → Contains middle e
    entry_left e p c is h = (cleaned e).1 (
      c,
      elim h [
        | inl avoids ↦ inl (subst (λ (q : List ℕ). Avoids q v) (sym is) avoids)
        | inr single ↦ inr (ap length (is ∙ single.2))
      ],
    )

    middle_kept : (p : List ℕ) → IsKeptIn middle p ↔ Left m v gb g same_count same_away book p
    middle_kept p = (
      λ h. left_entry h.0 p h.1 h.2,
      λ left. elim left [
        | inl stays ↦ let e : IsKeptIn before p = stays.0 in (e.0, entry_left e.0 p e.1 e.2 (inl stays.1), e.2)
        | inr single ↦ let e : IsHistoricalIn before p =
            single_historical p single in (e.0, entry_left e.0 p e.1 e.2 (inr single), e.2)
      ],
    )

    middle_historical : (p : List ℕ) → IsHistoricalIn middle p ↔ LeftHistorical m v gb g same_count same_away book p
    middle_historical p = (
      λ h. elim (left_entry h.0 p h.1 h.2) [
        | inl stays ↦ inl ((h.0, ((cleaned h.0).0 h.1).0, h.2, h.3), stays.1)
        | inr single ↦ inr single
      ],
      λ left. elim left [
        | inl stays ↦ let e : IsHistoricalIn before p =
            stays.0 in (e.0, entry_left e.0 p e.1 e.2 (inl stays.1), e.2, e.3)
        | inr single ↦ let e : IsHistoricalIn before p =
            single_historical p single in (e.0, entry_left e.0 p e.1 e.2 (inr single), e.2, e.3)
      ],
    )

    middle_birth : (p : List ℕ) (b : ℕ) → HasBirthIn middle p b ↔
        (Left m v gb g same_count same_away book p × HasBirthIn before p b)
    middle_birth p b = (
      λ h. (left_entry h.0 p h.1 h.2, (h.0, ((cleaned h.0).0 h.1).0, h.2, h.3)),
      λ h. let e : HasBirthIn before p b =
          h.1 in (
            e.0,
            entry_left e.0 p e.1 e.2 (elim h.0 [ inl stays ↦ inl stays.1 | inr single ↦ inr single ]),
            e.2,
            e.3,
          ),
    )

    -- settling leaves the kept paths after the step
    module _ (after : List KeptPath) (formed promoted removed : ℕ)
        (settled : IsSettled g (k + 1) middle after formed promoted) (once : IsOncePerList after)
        (removed_is : CountIs (λ p. IsKeptIn before p × IsWithEdge p × Contains p v) removed) where
      made : IsStep m v gb g same_count same_away book (IsHistoricalIn after) (IsKeptIn after) (HasBirthIn after)
      made = step m v gb g same_count same_away book (IsHistoricalIn after) (IsKeptIn after) (HasBirthIn after)
          (λ p. (
            λ h. elim ((settled.historical p).0 h)
                [ inl old ↦ inl ((middle_historical p).0 old) | inr least ↦ inr least ],
            λ h. (settled.historical p).1
                (elim h [ inl old ↦ inl ((middle_historical p).1 old) | inr least ↦ inr least ]),
          ))
          settled.kept
          (λ p b. (
            λ h. elim ((settled.births p b).0 h) [
              | inl old ↦ inl ((middle_birth p b).0 old)
              | inr new ↦
                  inr (new.0, λ left. new.1 ((middle_kept p).1 left), new.2)
            ],
            λ h. (settled.births p b).1 (elim h [
              | inl old ↦ inl ((middle_birth p b).1 old)
              | inr new ↦
                  inr (new.0, λ kept. new.1 ((middle_kept p).0 kept), new.2)
            ]),
          ))

      says : SayTheSame (moment_in (k + 1) after) (after_star m v g)
      says = record { steps = refl; historical = made.historical; kept = made.kept; birth = made.births }

      pub step_done : IsStepDone v g k before after formed removed
      step_done = record {
        says = says;
        lawful = record {
          lawful = from_book g (moment_in (k + 1) after)
              (book_on g (after_star m v g) (moment_in (k + 1) after)
              (same_turned (moment_in (k + 1) after) (after_star m v g) says)
              (book_after m v gb g same_count same_away book));
          weights = settled.weights;
          once = once;
        };
        removed_is = removed_is;
        formed_is =
            λ a b at_first at_last. formed_is m v gb g same_count same_away book b a removed formed at_first removed_is
            (count_same (λ p. IsKeptIn after p × IsWithEdge p) (λ p. (after_star m v g).kept p × IsWithEdge p) a
            (λ p. (λ h. ((made.kept p).0 h.0, h.1), λ h. ((made.kept p).1 h.0, h.1))) at_last)
            (count_same (λ p. IsKeptIn after p × (IsKeptIn middle p → ⊥))
            (λ p. (after_star m v g).kept p × (Left m v gb g same_count same_away book p → ⊥)) formed (λ p. (
              λ h. ((made.kept p).0 h.0, λ left. h.1 ((middle_kept p).1 left)),
              λ h. ((made.kept p).1 h.0, λ kept. h.1 ((middle_kept p).0 kept)),
            )) settled.formed_is);
      }
