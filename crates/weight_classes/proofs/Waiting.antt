-- For next: the turns of the buckets, of which the first is of a bucket that ranks lowest.
use Rattle.std.specs.Prelude.{◌≡◌, ℕ, ◌*◌, ◌<◌, ◌≤◌, ◌⊎◌, List, [], ◌∷◌, ◌++◌, length, slice_set, refl, Contains}
use Rattle.std.specs.List.Sorted.{IsPermutation}
use Rattle.std.proofs.Common.{sym, ◌∙◌, ap, subst, arith, inl, inr}
use Rattle.std.proofs.lemmas.Bool.{cases_lt, cases_eq}
use Rattle.std.proofs.lemmas.Nat.{mul-add-lt}
use Rattle.std.proofs.lemmas.List.{get_or_append_left, get_or_push, get_or_past, length_push, length-set, get_or-set_same, get_or-set_other}
use Rattle.std.proofs.lemmas.List.Sorted.{IsPermutation-sym, Contains-permutation}
use Rattle.apsp_model.specs.declared.TheConstants.{MOST_VERTICES}
use Rattle.weight_classes.specs.Classes.{Rank, IsLower}
use Rattle.weight_classes.specs.declared.turns.Turn.{Turn}
use Rattle.weight_classes.specs.Turns.{AreInOrder, IsFirst}
use Rattle.weight_classes.specs.Inside.{rank_at, bucket_ids, no_rank, key_of, turn_of, AreTurns}
use Rattle.weight_classes.proofs.Held.{in_cons, tail_there, ids_more}

-- a lower rank has a lower key
lower_key : (r s : Rank) → r.hops < MOST_VERTICES → IsLower r s → key_of r < key_of s
lower_key r s few h = elim h [
  | inl less ↦ let l : key_of r < MOST_VERTICES * s.weight =
      mul-add-lt r.weight MOST_VERTICES r.hops s.weight less few in omega (arith, l)
  | inr tie ↦ omega (arith, ap (λ w. w * MOST_VERTICES) tie.0, tie.1)
]

module _ (turns : List Turn) (rs : List Rank) (idss : List (List ℕ)) (s : AreTurns turns rs idss) where
  -- no bucket with ids ranks lower than that of the first turn
  pub first_least : (t : Turn) → IsFirst t turns → (j : ℕ) → j < length rs → 0 < length (bucket_ids idss j)
      → IsLower (rank_at rs j) (rank_at rs t.bucket) → ⊥
  first_least t first j inside some lower =
      let upto : t.key ≤ key_of (rank_at rs j) = first.least (turn_of (rank_at rs j) j) (s.each j inside some) in
      let less : key_of (rank_at rs j) < key_of (rank_at rs t.bucket) =
      lower_key (rank_at rs j) (rank_at rs t.bucket) (s.few j inside) lower in
      omega (arith, upto, less, (s.known t first.there).1)

  -- a turn is over, and its bucket without ids
  pub turn_over : (t : Turn) (rest : List Turn) → t.bucket < length rs → AreInOrder rest
      → IsPermutation turns (t ∷ rest) → AreTurns rest rs (slice_set idss t.bucket [])
  turn_over t rest t_in order moved = record {
    ordered = order;
    many = length-set idss t.bucket [] ∙ s.many;
    few = s.few;
    known = λ u c. s.known u (Contains-permutation (t ∷ rest) turns u (IsPermutation-sym turns (t ∷ rest) moved)
        (tail_there t rest u c));
    each = λ i inside some. elim (cases_eq i t.bucket) [
      | inl is ↦ absurd (omega (
        arith,
        some,
        ap (λ j. length (bucket_ids (slice_set idss t.bucket []) j)) is,
        ap length
            (get_or-set_same idss t.bucket [] [] (omega (arith, t_in, s.many))),
      ))
      | inr apart ↦ elim (in_cons t rest (turn_of (rank_at rs i) i)
          (Contains-permutation turns (t ∷ rest) (turn_of (rank_at rs i) i) moved
          (s.each i inside (omega (arith, some, ap length (get_or-set_other idss t.bucket i [] [] apart)))))) [
            | inl same ↦ absurd (apart (ap (λ (u : Turn). u.bucket) (sym same)))
            | inr more ↦ more
          ]
    ];
  }

-- a bucket that has no ids loses none
pub none_lost : (turns : List Turn) (rs : List Rank) (idss : List (List ℕ)) (at : ℕ) → length (bucket_ids idss at) ≡ 0
    → AreTurns turns rs (slice_set idss at []) → AreTurns turns rs idss
none_lost turns rs idss at none s = record {
  ordered = s.ordered;
  many = sym (length-set idss at []) ∙ s.many;
  few = s.few;
  known = s.known;
  each = λ i inside some. elim (cases_eq i at) [
    | inl is ↦ absurd (omega (arith, some, none, ap (λ j. length (bucket_ids idss j)) is))
    | inr apart ↦ s.each i inside (omega (arith, some, ap length (get_or-set_other idss at i [] [] apart)))
  ];
}

pub turns_end : (turns : List Turn) (rs : List Rank) (idss : List (List ℕ)) → AreTurns turns rs idss → turns ≡ []
    → (i : ℕ) → length (bucket_ids idss i) ≡ 0
turns_end turns rs idss s none i = elim (cases_lt i (length idss)) [
  | inl inside ↦ elim (cases_lt 0 (length (bucket_ids idss i))) [
    | inl some ↦ let c : Contains turns (turn_of (rank_at rs i) i) =
        s.each i (omega (arith, inside, s.many)) some in let l : c.0 < length turns = c.1 in
        absurd (omega (arith, l, ap length none))
    | inr empty ↦ omega (arith, empty)
  ]
  | inr past ↦ ap length (get_or_past idss i [] past)
]

-- a bucket without ids more
pub turns_bucket : (turns : List Turn) (rs : List Rank) (idss : List (List ℕ)) (r : Rank) → r.hops < MOST_VERTICES
    → AreTurns turns rs idss → AreTurns turns (rs ++ r ∷ []) (idss ++ [] ∷ [])
turns_bucket turns rs idss r few s = record {
  ordered = s.ordered;
  many = omega (arith, s.many, length_push rs r, length_push idss []);
  few = λ i inside. elim (cases_lt i (length rs)) [
    | inl old ↦ omega (arith, s.few i old, ap (λ (k : Rank). k.hops) (get_or_append_left rs (r ∷ []) no_rank i old))
    | inr past ↦ omega (
      arith,
      few,
      ap (λ (k : Rank). k.hops)
          (get_or_push rs r no_rank i (omega (arith, inside, past, length_push rs r))),
    )
  ];
  known = λ t c. let k : (t.bucket < length rs) × (t.key ≡ key_of (rank_at rs t.bucket)) =
      s.known t c in (
        omega (arith, k.0, length_push rs r),
        k.1
            ∙ ap key_of (sym (get_or_append_left rs (r ∷ []) no_rank t.bucket k.0)),
      );
  each = λ i inside some.
      let was : 0 < length (bucket_ids idss i) = omega (arith, some, ap length (ids_more idss i)) in
      elim (cases_lt i (length idss)) [
        | inl old ↦
            let old_r : i < length rs = omega (arith, old, s.many) in
            subst (λ (k : Rank). Contains turns (turn_of k i)) (sym (get_or_append_left rs (r ∷ []) no_rank i old_r))
            (s.each i old_r was)
        | inr past ↦ absurd (omega (arith, was, ap length (get_or_past idss i [] past)))
      ];
}

-- a bucket that has a turn has other ids
pub turns_more : (turns : List Turn) (rs : List Rank) (idss : List (List ℕ)) (at : ℕ) → AreTurns turns rs idss
    → at < length rs → (now : List Turn) → AreInOrder now
    → ((t : Turn) → Contains now t → Contains turns t ⊎ (t ≡ turn_of (rank_at rs at) at))
    → ((t : Turn) → Contains turns t → Contains now t) → Contains now (turn_of (rank_at rs at) at) → (ids : List ℕ)
    → AreTurns now rs (slice_set idss at ids)
turns_more turns rs idss at s inside now ordered from into there ids = record {
  ordered = ordered;
  many = length-set idss at ids ∙ s.many;
  few = s.few;
  known = λ t c. elim (from t c) [
    | inl old ↦ s.known t old
    | inr is ↦ subst (λ (u : Turn). (u.bucket < length rs) × (u.key ≡ key_of (rank_at rs u.bucket))) (sym is)
        (inside, refl)
  ];
  each = λ i in_i some. elim (cases_eq i at) [
    | inl is ↦ subst (λ j. Contains now (turn_of (rank_at rs j) j)) (sym is) there
    | inr apart ↦ into (turn_of (rank_at rs i) i)
        (s.each i in_i (omega (arith, some, ap length (get_or-set_other idss at i ids [] apart))))
  ];
}
