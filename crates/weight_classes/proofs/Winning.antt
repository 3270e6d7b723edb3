-- For fill, choose and only: the winners among the ids of a class, key by key.
use Rattle.std.specs.Prelude.{◌≡◌, ℕ, ◌+◌, ◌<◌, ◌≤◌, ◌⊎◌, ◌↔◌, zero, suc, ◌==◌, true, false, Bool, if◌then◌else◌, List, [], ◌∷◌, ◌++◌, length, take, map, slice_set, refl, Contains}
use Rattle.std.specs.declared.cmp.Ordering.TheVariants.{Less, Equal, Greater}
use Rattle.std.specs.declared.cmp.Ordering.{Ordering}
use Rattle.std.specs.Ordering.{ordering_index}
use Rattle.std.specs.Cmp.{IsTotalOrder}
use Rattle.std.proofs.Common.{sym, ◌∙◌, ap, subst, arith, inl, inr, get_or, min}
use Rattle.std.proofs.lemmas.Bool.{cases_lt, cases_eq, true≢false, false≢true}
use Rattle.std.proofs.lemmas.Cmp.{nat_cmp_total, nat_list_cmp_total, on_total, then_total, tied_itself}
use Rattle.std.proofs.lemmas.List.{get_or-set_same, get_or-set_other, length-set, same_from_push, length_push, set_at, length-map, get_or-map, length-take, get_or-take, get_or_default, take_more, take_all, map_more}
use Rattle.std.proofs.lemmas.List.Sorted.{IsPermutation-sym, Contains-permutation, length_permutation}
use Rattle.std.specs.List.Sorted.{IsPermutation, IsNonDecreasingBy}
use Rattle.std.proofs.lemmas.List.Elements.{Contains-append_left, Contains-append_right, Contains-push, Contains-push_cases, Contains-get_or}
use Rattle.apsp_model.specs.Walk.{hops_of}
use Rattle.apsp_model.proofs.Members.{in_cons as contains_cons}
use Rattle.path_arena.specs.Arena.{Arena, weight_of_id, list_of, id_cmp}
use Rattle.weight_classes.specs.declared.choice.Key.{Key}
use Rattle.weight_classes.specs.Choice.{IsWonAt, pair_place, key_of, EndsAreVertices, AreKeys, GivesWay, Choosing, IsConsidered, AreRising, IsChosen}

abbrev pub so_far : List ℕ → List Bool → ℕ → Choosing
so_far winners won last = record { winners = winners; won = won; last = last }

id_cmp_total : (a : Arena) → IsTotalOrder (id_cmp a)
id_cmp_total a =
    then_total (on_total (weight_of_id a) nat_cmp_total)
    (then_total (on_total (λ id. hops_of (list_of a id)) nat_cmp_total) (on_total (list_of a) nat_list_cmp_total))

not_below_itself : (a : Arena) (p : ℕ) → id_cmp a p p ≡ Less → ⊥
not_below_itself a p h = let e : id_cmp a p p ≡ Equal = tied_itself (id_cmp_total a) p in cc

head_in : (x : ℕ) (xs : List ℕ) → Contains (x ∷ xs) x
head_in x xs = (0, omega arith, refl)

tail_in : (x y : ℕ) (xs : List ℕ) → Contains xs x → Contains (y ∷ xs) x
tail_in x y xs c = Contains-append_right (y ∷ []) xs x c

-- ---- rising places

rising_push : (a : Arena) (ws : List ℕ) (id : ℕ) → AreRising a ws
    → ((q : ℕ) → Contains ws q → pair_place a q < pair_place a id) → AreRising a (ws ++ id ∷ [])
rising_push a [] id h below = (λ q c. absurd (omega (arith, c.1)), tt)
rising_push a (w ∷ ws) id h below = (
  λ q c. elim (Contains-push_cases ws id q c)
      [ inl old ↦ h.0 q old | inr same ↦ subst (λ r. pair_place a w < pair_place a r) same (below w (head_in w ws)) ],
  rising_push a ws id h.1 (λ q c. below q (tail_in q w ws c)),
)

rising_front : (a : Arena) (ws : List ℕ) (id : ℕ) → AreRising a (ws ++ id ∷ []) → AreRising a ws
    × ((q : ℕ) → Contains ws q → pair_place a q < pair_place a id)
rising_front a [] id h = (tt, λ q c. absurd (omega (arith, c.1)))
rising_front a (w ∷ ws) id h =
    let rest : AreRising a ws × ((q : ℕ) → Contains ws q → pair_place a q < pair_place a id) =
    rising_front a ws id h.1 in (
      (λ q c. h.0 q (Contains-append_left ws (id ∷ []) q c), rest.0),
      λ q c. elim (contains_cons q w ws c) [
        | inl same ↦ subst (λ r. pair_place a r < pair_place a id) same (h.0 id (Contains-push ws id))
        | inr more ↦
            rest.1 q more
      ],
    )

-- ---- one key more

pub chosen_none : (a : Arena) (Seen : ℕ → Type 0) (rounds : List Bool) → ((q : ℕ) → Seen q → ⊥)
    → IsChosen a Seen rounds rounds [] (length rounds)
chosen_none a Seen rounds none = record {
  seen = λ w c. absurd (omega (arith, c.1));
  fresh = λ w c. absurd (omega (arith, c.1));
  least = λ w q c. absurd (omega (arith, c.1));
  each = λ q s. absurd (none q s);
  rising = tt;
  marked = λ k inside. (
    λ h. inl h,
    λ h. elim h
        [ inl was ↦ was | inr w ↦ absurd (let l : w.1.0 < 0 = w.1.1 in omega arith) ],
  );
  many = refl;
  last_is = inl (refl, refl);
}

-- the ids that are seen do not matter but for which they are
pub chosen_same : (a : Arena) (Seen Seen1 : ℕ → Type 0) (rounds marks : List Bool) (winners : List ℕ) (last : ℕ)
    → ((q : ℕ) → Seen q ↔ Seen1 q) → IsChosen a Seen rounds marks winners last
    → IsChosen a Seen1 rounds marks winners last
chosen_same a Seen Seen1 rounds marks winners last same s = record {
  seen = λ w c. (same w).0 (s.seen w c);
  fresh = s.fresh;
  least = λ w q c t. s.least w q c ((same q).1 t);
  each = λ q t. s.each q ((same q).1 t);
  rising = s.rising;
  marked = s.marked;
  many = s.many;
  last_is = s.last_is;
}

module _ (a : Arena) (Seen : ℕ → Type 0) (rounds marks : List Bool) (winners : List ℕ) (last id : ℕ)
    (s : IsChosen a Seen rounds marks winners last) (upto : (q : ℕ) → Seen q → pair_place a q ≤ pair_place a id)
    (inside : pair_place a id < length rounds) where
  abbrev pub More : ℕ → Type 0
  More q = Seen q ⊎ (q ≡ id)

  -- its pair was not won
  wins : (IsWonAt marks (pair_place a id) → ⊥)
      → IsChosen a More rounds (slice_set marks (pair_place a id) true) (winners ++ id ∷ []) (pair_place a id)
  wins new = record {
    seen = λ w c. elim (Contains-push_cases winners id w c)
        [ inl old ↦ inl (s.seen w old) | inr same ↦ inr (sym same) ];
    fresh = λ w c was. elim (Contains-push_cases winners id w c) [
      | inl old ↦ s.fresh w old was
      | inr same ↦ new ((s.marked (pair_place a id) inside).1
          (inl (subst (λ r. IsWonAt rounds (pair_place a r)) (sym same) was)))
    ];
    least = λ w q c t same_place below. elim (Contains-push_cases winners id w c) [
      | inl old ↦ elim t [
        | inl was ↦ s.least w q old was same_place below
        | inr same ↦ new ((s.marked (pair_place a id) inside).1 (inr (w, old, sym same_place ∙ ap (pair_place a) same)))
      ]
      | inr same ↦ elim t [
        | inl was ↦ elim (s.each q was) [
          | inl before ↦ new ((s.marked (pair_place a id) inside).1
              (inl (subst (λ k. IsWonAt rounds k) (same_place ∙ ap (pair_place a) (sym same)) before)))
          | inr v ↦ new ((s.marked (pair_place a id) inside).1
              (inr (v.0, v.1, v.2 ∙ same_place ∙ ap (pair_place a) (sym same))))
        ]
        | inr itself ↦ not_below_itself a id
            (subst (λ r. id_cmp a r id ≡ Less) itself (subst (λ r. id_cmp a q r ≡ Less) (sym same) below))
      ]
    ];
    each = λ q t. elim t [
      | inl was ↦ elim (s.each q was) [
        | inl before ↦ inl before
        | inr v ↦
            inr (v.0, Contains-append_left winners (id ∷ []) v.0 v.1, v.2)
      ]
      | inr same ↦ inr (id, Contains-push winners id, ap (pair_place a) (sym same))
    ];
    rising = rising_push a winners id s.rising (λ q c. elim (cases_lt (pair_place a q) (pair_place a id)) [
      | inl less ↦ less
      | inr more ↦ absurd (new ((s.marked (pair_place a id) inside).1
          (inr (q, c, let u : pair_place a q ≤ pair_place a id = upto q (s.seen q c) in omega arith))))
    ]);
    marked = λ k k_in. elim (cases_eq k (pair_place a id)) [
      | inl here ↦ (
        λ m. inr (id, Contains-push winners id, sym here),
        λ h. subst (λ j. IsWonAt (slice_set marks (pair_place a id) true) j) (sym here)
            (get_or-set_same marks (pair_place a id) true false
            (let l : length marks ≡ length rounds = s.many in omega arith)),
      )
      | inr other ↦ (
        λ m. elim ((s.marked k k_in).0 (sym (get_or-set_other marks (pair_place a id) k true false other) ∙ m))
            [ inl before ↦ inl before | inr v ↦ inr (v.0, Contains-append_left winners (id ∷ []) v.0 v.1, v.2) ],
        λ h. get_or-set_other marks (pair_place a id) k true false other ∙ (s.marked k k_in).1 (elim h [
          | inl before ↦ inl before
          | inr v ↦ elim (Contains-push_cases winners id v.0 v.1)
              [ inl old ↦ inr (v.0, old, v.2) | inr same ↦ absurd (other (sym v.2 ∙ ap (pair_place a) (sym same))) ]
        ]),
      )
    ];
    many = length-set marks (pair_place a id) true ∙ s.many;
    last_is = inr (winners, id, refl, refl);
  }

  -- its pair was won
  module _ (won : IsWonAt marks (pair_place a id)) where
    -- by the last winner, where a winner has its place
    last_has : (w : ℕ) → Contains winners w → pair_place a w ≡ pair_place a id → (front : List ℕ)
        × (winners ≡ front ++ w ∷ []) × (last ≡ pair_place a id)
    last_has w c same = elim s.last_is [
      | inl none ↦ absurd (let l : w_at < length winners = c.1 in let e : length winners ≡ 0 = ap length none.0 in
          omega arith)
      | inr l ↦
          let split : AreRising a l.0 × ((q : ℕ) → Contains l.0 q → pair_place a q < pair_place a l.1) =
          rising_front a l.0 l.1 (subst (AreRising a) l.2 s.rising) in
          elim (Contains-push_cases l.0 l.1 w (subst (λ ws. Contains ws w) l.2 c)) [
            | inl in_front ↦ absurd (let b : pair_place a w < pair_place a l.1 = split.1 w in_front in
                let u : pair_place a l.1 ≤ pair_place a id = upto l.1
                (s.seen l.1 (subst (λ ws. Contains ws l.1) (sym l.2) (Contains-push l.0 l.1))) in omega arith)
            | inr is ↦ (l.0, subst (λ r. winners ≡ l.0 ++ r ∷ []) is l.2, sym l.3 ∙ ap (pair_place a) is ∙ same)
          ]
    ]
      where
        w_at : ℕ
        w_at = c.0

    still : ((w : ℕ) → Contains winners w → pair_place a w ≡ pair_place a id → id_cmp a id w ≡ Less → ⊥)
        → IsChosen a More rounds marks winners last
    still not_below = record {
      seen = λ w c. inl (s.seen w c);
      fresh = s.fresh;
      least = λ w q c t same below. elim t [
        | inl was ↦ s.least w q c was same below
        | inr itself ↦ not_below w c (sym same ∙ ap (pair_place a) itself)
            (subst (λ r. id_cmp a r w ≡ Less) itself below)
      ];
      each = λ q t. elim t [
        | inl was ↦ s.each q was
        | inr itself ↦ elim ((s.marked (pair_place a id) inside).0 won) [
          | inl before ↦ inl (subst (λ r. IsWonAt rounds (pair_place a r)) (sym itself) before)
          | inr v ↦
              inr (v.0, v.1, v.2 ∙ ap (pair_place a) (sym itself))
        ]
      ];
      rising = s.rising;
      marked = s.marked;
      many = s.many;
      last_is = s.last_is;
    }

    gives_way : (front : List ℕ) (w : ℕ) → winners ≡ front ++ w ∷ [] → pair_place a w ≡ pair_place a id
        → id_cmp a id w ≡ Less → last ≡ pair_place a id → IsChosen a More rounds marks (front ++ id ∷ []) last
    gives_way front w was same below last_at = record {
      seen = λ v c. elim (Contains-push_cases front id v c)
          [ inl old ↦ inl (s.seen v (in_old v old)) | inr itself ↦ inr (sym itself) ];
      fresh = λ v c before. elim (Contains-push_cases front id v c) [
        | inl old ↦ s.fresh v (in_old v old) before
        | inr itself ↦ s.fresh w w_in (subst (λ k. IsWonAt rounds k) (ap (pair_place a) (sym itself) ∙ sym same) before)
      ];
      least = λ v q c t same_place under. elim (Contains-push_cases front id v c) [
        | inl old ↦ elim t [
          | inl seen_q ↦ s.least v q (in_old v old) seen_q same_place under
          | inr itself ↦ absurd (let b : pair_place a v < pair_place a w = split.1 v old in
              let e : pair_place a q ≡ pair_place a id = ap (pair_place a) itself in omega (arith, same_place, same))
        ]
        | inr v_is ↦ elim t [
          | inl seen_q ↦ s.least w q w_in seen_q (same_place ∙ ap (pair_place a) (sym v_is) ∙ sym same)
              ((id_cmp_total a).trans q id w (subst (λ r. id_cmp a q r ≡ Less) (sym v_is) under) below)
          | inr itself ↦ not_below_itself a id
              (subst (λ r. id_cmp a r id ≡ Less) itself (subst (λ r. id_cmp a q r ≡ Less) (sym v_is) under))
        ]
      ];
      each = λ q t. elim t [
        | inl seen_q ↦ elim (s.each q seen_q)
            [ inl before ↦ inl before | inr v ↦ inr (moved v.0 v.1 (pair_place a q) v.2) ]
        | inr itself ↦ inr (id, Contains-push front id, ap (pair_place a) (sym itself))
      ];
      rising = rising_push a front id split.0
          (λ q c. let b : pair_place a q < pair_place a w = split.1 q c in omega (arith, same));
      marked = λ k k_in. (
        λ m. elim ((s.marked k k_in).0 m) [ inl before ↦ inl before | inr v ↦ inr (moved v.0 v.1 k v.2) ],
        λ h. (s.marked k k_in).1 (elim h [
          | inl before ↦ inl before
          | inr v ↦ elim (Contains-push_cases front id v.0 v.1) [
            | inl old ↦ inr (v.0, in_old v.0 old, v.2)
            | inr itself ↦
                inr (w, w_in, same ∙ ap (pair_place a) itself ∙ v.2)
          ]
        ]),
      );
      many = s.many;
      last_is = inr (front, id, refl, sym last_at);
    }
      where
        split : AreRising a front × ((q : ℕ) → Contains front q → pair_place a q < pair_place a w)
        split = rising_front a front w (subst (AreRising a) was s.rising)

        in_old : (v : ℕ) → Contains front v → Contains winners v
        in_old v c = subst (λ ws. Contains ws v) (sym was) (Contains-append_left front (w ∷ []) v c)

        w_in : Contains winners w
        w_in = subst (λ ws. Contains ws w) (sym was) (Contains-push front w)

        moved : (v : ℕ) → Contains winners v → (k : ℕ) → pair_place a v ≡ k → (u : ℕ) × Contains (front ++ id ∷ []) u
            × (pair_place a u ≡ k)
        moved v c k at = elim (Contains-push_cases front w v (subst (λ ws. Contains ws v) was c)) [
          | inl old ↦ (v, Contains-append_left front (id ∷ []) v old, at)
          | inr itself ↦ (id, Contains-push front id, sym same ∙ ap (pair_place a) itself ∙ at)
        ]

  pub chosen_more : (key : Key) (later : List ℕ) (rounds_after : List Bool) (result : ℕ) → key ≡ key_of a id
      → IsConsidered a key (so_far winners marks last) (so_far later rounds_after result)
      → IsChosen a More rounds rounds_after later result
  chosen_more key later rounds_after result is considered =
      go later rounds_after result (subst
      (λ (k : Key). IsConsidered a k (so_far winners marks last) (so_far later rounds_after result)) is considered)
    where
      go : (later : List ℕ) (rounds_after : List Bool) (result : ℕ)
          → IsConsidered a (key_of a id) (so_far winners marks last) (so_far later rounds_after result)
          → IsChosen a More rounds rounds_after later result
      go later rounds_after result h = elim h [
        | inl new ↦ subst (λ r. IsChosen a More rounds rounds_after later r) (sym new.3)
            (subst (λ m. IsChosen a More rounds m later (pair_place a id)) (sym new.2)
            (subst (λ l. IsChosen a More rounds (slice_set marks (pair_place a id) true) l (pair_place a id))
            (sym new.1) (wins new.0)))
        | inr old ↦ subst (λ r. IsChosen a More rounds rounds_after later r) (sym old.2)
            (subst (λ m. IsChosen a More rounds m later last) (sym old.1) (elim old.3 [
              | inl apart ↦ subst (λ l. IsChosen a More rounds marks l last) (sym apart.1)
                  (still old.0 (λ w c same below. apart.0 (last_has old.0 w c same).2))
              | inr at_last ↦ elim at_last.1.now [
                | inl kept ↦ subst (λ l. IsChosen a More rounds marks l last) (sym kept.1)
                    (still old.0 (λ w c same below. kept.0
                    (subst (λ v. id_cmp a id v ≡ Less)
                    (one_last old.0 w c same at_last.1.front at_last.1.w at_last.1.was)
                    below)))
                | inr gone ↦ subst (λ l. IsChosen a More rounds marks l last) (sym gone.1)
                    (gives_way old.0 at_last.1.front at_last.1.w at_last.1.was
                    (place_is at_last.1.front at_last.1.w at_last.1.was at_last.0) gone.0 at_last.0)
              ]
            ]))
      ]
        where
          one_last : (won : IsWonAt marks (pair_place a id)) (w : ℕ) → Contains winners w
              → pair_place a w ≡ pair_place a id → (front : List ℕ) (v : ℕ) → winners ≡ front ++ v ∷ [] → w ≡ v
          one_last won w c same front v was =
              let l = last_has won w c same in (same_from_push l.0 front w v (sym l.1 ∙ was)).1

          place_is : (front : List ℕ) (w : ℕ) → winners ≡ front ++ w ∷ [] → last ≡ pair_place a id
              → pair_place a w ≡ pair_place a id
          place_is front w was at = elim s.last_is [
            | inl none ↦ absurd (let e : length winners ≡ 0 = ap length none.0 in
                let f : length winners ≡ length (front ++ w ∷ []) = ap length was in omega (arith, length_push front w))
            | inr l ↦ ap (pair_place a) (same_from_push front l.0 w l.1 (sym was ∙ l.2)).1 ∙ l.3 ∙ at
          ]

-- ---- what consider does to the last winner

split_last : (ws : List ℕ) (end v : ℕ) → 0 < length ws → end + 1 ≡ length ws → v ≡ get_or ws end v → (front : List ℕ)
    × (ws ≡ front ++ v ∷ []) × (length front ≡ end)
split_last [] end v some e at = absurd (omega arith)
split_last (w ∷ []) zero v some e at = ([], ap (λ x. x ∷ []) (sym at), refl)
split_last (w ∷ []) (suc end) v some e at = absurd (omega arith)
split_last (w ∷ u ∷ ws) zero v some e at = absurd (omega arith)
split_last (w ∷ u ∷ ws) (suc end) v some e at =
    let rest : (front : List ℕ) × (u ∷ ws ≡ front ++ v ∷ []) × (length front ≡ end) =
    split_last (u ∷ ws) end v (omega arith) (omega arith) at in
    (w ∷ rest.0, ap (λ xs. w ∷ xs) rest.1, omega (arith, rest.2))

pub gives_way_at : (a : Arena) (id : ℕ) (ws : List ℕ) (end v : ℕ) → 0 < length ws → v ≡ get_or ws end v
    → end + 1 ≡ length ws → id_cmp a id v ≡ Less → GivesWay a id ws (slice_set ws end id)
gives_way_at a id ws end v some at e below =
    let l : (front : List ℕ) × (ws ≡ front ++ v ∷ []) × (length front ≡ end) = split_last ws end v some e at in
    record {
      front = l.0;
      w = v;
      was = l.1;
      now = inr (below, ap (λ xs. slice_set xs end id) l.1 ∙ set_at l.0 v [] id end l.2);
    }

pub stays_at : (a : Arena) (id : ℕ) (ws : List ℕ) (end v : ℕ) → 0 < length ws → v ≡ get_or ws end v
    → end + 1 ≡ length ws → (id_cmp a id v ≡ Less → ⊥) → GivesWay a id ws ws
stays_at a id ws end v some at e not_below =
    let l : (front : List ℕ) × (ws ≡ front ++ v ∷ []) × (length front ≡ end) = split_last ws end v some e at in
    record { front = l.0; w = v; was = l.1; now = inl (not_below, refl) }

pub less_from_test : (o : Ordering) → (ordering_index o == 0) ≡ true → o ≡ Less
less_from_test Less e = refl
less_from_test Equal e = absurd (false≢true e)
less_from_test Greater e = absurd (false≢true e)

pub not_less_from_test : (o : Ordering) → (ordering_index o == 0) ≡ false → o ≡ Less → ⊥
not_less_from_test Less e less = true≢false e
not_less_from_test Equal e less = cc
not_less_from_test Greater e less = cc

-- ---- the keys of ids

pub keys_of_ids : (a : Arena) (ids : List ℕ) (before after : List Key) → before ≡ map (key_of a) ids
    → IsPermutation before after → IsNonDecreasingBy (λ k. k.place) after
    → ((q : ℕ) → Contains ids q → EndsAreVertices a q) → AreKeys a ids after
keys_of_ids a ids before after filled moved sorted ends = record {
  each = λ k c. let q : (q : ℕ) × Contains ids q × (k ≡ key_of a q) =
      from_map ids k (subst (λ ks. Contains ks k) filled
      (Contains-permutation after before k (IsPermutation-sym before after moved) c)) in
      (subst (λ (j : Key). Contains ids j.id) (sym q.2) q.1, q.2 ∙ ap (λ (j : Key). key_of a j.id) (sym q.2));
  all = λ q c. Contains-permutation before after (key_of a q) moved
      (subst (λ ks. Contains ks (key_of a q)) (sym filled) (to_map ids q c));
  many = length_permutation before after moved ∙ ap length filled ∙ length-map ids (key_of a);
  ends = ends;
  sorted = sorted;
}
  where
    from_map : (xs : List ℕ) (k : Key) → Contains (map (key_of a) xs) k → (q : ℕ) × Contains xs q × (k ≡ key_of a q)
    from_map xs k c =
        let l : c.0 < length xs = omega (arith, c.1, length-map xs (key_of a)) in
        (get_or xs c.0 0, Contains-get_or xs c.0 0 l, sym c.2 ∙ get_or-map (key_of a) xs c.0 0 k l)

    to_map : (xs : List ℕ) (q : ℕ) → Contains xs q → Contains (map (key_of a) xs) (key_of a q)
    to_map xs q c = (
      c.0,
      omega (arith, c.1, length-map xs (key_of a)),
      get_or-map (key_of a) xs c.0 q (key_of a q) c.1
          ∙ ap (key_of a) c.2,
    )

-- ---- the loop over the keys

-- the ids of the first keys
abbrev pub SeenIn : List Key → ℕ → ℕ → Type 0
SeenIn keys i q = (k : Key) × Contains (take i keys) k × (k.id ≡ q)

module _ (a : Arena) (ids : List ℕ) (keys : List Key) (are : AreKeys a ids keys) where
  pub at_index : (i : ℕ) (k : Key) → i < length keys → k ≡ get_or keys i k → Contains ids k.id × (k ≡ key_of a k.id)
  at_index i k inside at = are.each k (i, inside, sym at)

  pub seen_in_ids : (i q : ℕ) → SeenIn keys i q → Contains ids q
  seen_in_ids i q s = subst (Contains ids) s.2 (are.each s.0 (in_take keys i s.0 s.1)).0
    where
      in_take : (ks : List Key) (i : ℕ) (k : Key) → Contains (take i ks) k → Contains ks k
      in_take ks i k c =
          let l : c.0 < min i (length ks) = omega (arith, c.1, length-take i ks) in
          (c.0, omega arith, sym (get_or-take i ks c.0 k (omega arith)) ∙ c.2)

  pub seen_upto : (i : ℕ) (k : Key) (q : ℕ) → i < length keys → k ≡ get_or keys i k → SeenIn keys i q
      → pair_place a q ≤ pair_place a k.id
  seen_upto i k q inside at s =
      let l : s.1.0 < min i (length keys) = omega (arith, s.1.1, length-take i keys) in
      let here : s.0 ≡ get_or keys s.1.0 k =
      sym s.1.2 ∙ get_or-take i keys s.1.0 s.0 (omega arith) ∙ get_or_default keys s.1.0 s.0 k (omega arith) in
      let key_q : s.0 ≡ key_of a s.0.id =
      (are.each s.0 (s.1.0, omega arith, sym (get_or-take i keys s.1.0 s.0 (omega arith)) ∙ s.1.2)).1 in
      let key_k : k ≡ key_of a k.id = (at_index i k inside at).1 in
      let upto : (get_or keys s.1.0 k).place ≤ (get_or keys i k).place = are.sorted s.1.0 i k (omega arith) inside in
      omega (
        arith,
        upto,
        ap (λ (j : Key). j.place) here,
        ap (λ (j : Key). j.place) at,
        ap (λ (j : Key). j.place) key_q,
        ap (λ (j : Key). j.place) key_k,
        ap (pair_place a) s.2,
      )

  pub seen_more : (i : ℕ) (k : Key) (q : ℕ) → i < length keys → k ≡ get_or keys i k
      → (SeenIn keys i q ⊎ (q ≡ k.id)) ↔ SeenIn keys (i + 1) q
  seen_more i k q inside at =
      let e : take (i + 1) keys ≡ take i keys ++ k ∷ [] =
      take_more keys i k inside ∙ ap (λ x. take i keys ++ x ∷ []) (sym at) in (
        λ h. elim h [
          | inl old ↦ (
            old.0,
            subst (λ ks. Contains ks old.0) (sym e)
                (Contains-append_left (take i keys) (k ∷ []) old.0 old.1),
            old.2,
          )
          | inr same ↦ (k, subst (λ ks. Contains ks k) (sym e) (Contains-push (take i keys) k), sym same)
        ],
        λ s. elim (Contains-push_cases (take i keys) k s.0 (subst (λ ks. Contains ks s.0) e s.1)) [
          | inl old ↦ inl (s.0, old, s.2)
          | inr same ↦ inr (sym s.2 ∙ ap (λ (j : Key). j.id) (sym same))
        ],
      )

  pub seen_all : (i q : ℕ) → length keys ≤ i → SeenIn keys i q ↔ Contains ids q
  seen_all i q done = (
    seen_in_ids i q,
    λ c. (key_of a q, subst (λ ks. Contains ks (key_of a q)) (sym (take_all i keys done)) (are.all q c), refl),
  )

-- where the last place is one of a pair there is a winner
pub some_winner : (a : Arena) (Seen : ℕ → Type 0) (rounds marks : List Bool) (winners : List ℕ) (last : ℕ)
    → IsChosen a Seen rounds marks winners last → (last ≡ length rounds → ⊥) → 0 < length winners
some_winner a Seen rounds marks winners last s apart = elim s.last_is [
  | inl none ↦ absurd (apart none.1)
  | inr l ↦ omega (arith, ap length l.2, length_push l.0 l.1)
]

-- ---- the loop that makes the keys

pub filled_more : (pushed : Bool) (a : Arena) (ids : List ℕ) (before after : List Key) (i id : ℕ) (k : Key)
    → pushed ≡ true → after ≡ (if pushed then before ++ k ∷ [] else before) → before ≡ map (key_of a) (take i ids)
    → k ≡ key_of a id → i < length ids → id ≡ get_or ids i id → after ≡ map (key_of a) (take (i + 1) ids)
filled_more true a ids before after i id k room is filled key inside at =
    is ∙ ap (λ ks. ks ++ k ∷ []) filled ∙ ap (λ (j : Key). map (key_of a) (take i ids) ++ j ∷ [])
    (key ∙ ap (key_of a) at) ∙ sym (map_more (key_of a) ids i id inside)
filled_more false a ids before after i id k room is filled key inside at = absurd (false≢true room)

pub ends_more : (a : Arena) (ids : List ℕ) (i id : ℕ) → ((q : ℕ) → Contains (take i ids) q → EndsAreVertices a q)
    → EndsAreVertices a id → i < length ids → id ≡ get_or ids i id → (q : ℕ) → Contains (take (i + 1) ids) q
    → EndsAreVertices a q
ends_more a ids i id before here inside at q c =
    elim (Contains-push_cases (take i ids) id q
    (subst (λ xs. Contains xs q) (take_more ids i id inside ∙ ap (λ x. take i ids ++ x ∷ []) (sym at)) c)) [
      | inl old ↦ before q old
      | inr same ↦ subst (EndsAreVertices a) same here
    ]

-- ---- one id alone

one_is : (ids : List ℕ) (id : ℕ) → length ids ≡ 1 → id ≡ get_or ids 0 id → ids ≡ id ∷ []
one_is [] id one at = absurd (omega (arith, one))
one_is (x ∷ []) id one at = ap (λ y. y ∷ []) (sym at)
one_is (x ∷ y ∷ ids) id one at = absurd (omega (arith, one))

pub one_in : (ids : List ℕ) (id : ℕ) → length ids ≡ 1 → id ≡ get_or ids 0 id → Contains ids id
one_in ids id one at = subst (λ js. Contains js id) (sym (one_is ids id one at)) (head_in id [])

pub one_only : (ids : List ℕ) (id q : ℕ) → length ids ≡ 1 → id ≡ get_or ids 0 id → Contains ids q → q ≡ id
one_only ids id q one at c =
    elim (contains_cons q id [] (subst (λ js. Contains js q) (one_is ids id one at) c))
    [ inl same ↦ sym same | inr more ↦ absurd (let l : more.0 < 0 = more.1 in omega (arith, l)) ]

pub chosen_one : (a : Arena) (ids : List ℕ) (won marks : List Bool) (winners later : List ℕ) (last result id : ℕ)
    (key : Key) → length ids ≡ 1 → id ≡ get_or ids 0 id → winners ≡ [] → last ≡ length won
    → pair_place a id < length won → key ≡ key_of a id
    → IsConsidered a key (so_far winners won last) (so_far later marks result)
    → IsChosen a (Contains ids) won marks later result
chosen_one a ids won marks winners later last result id key one at none end inside is considered =
    let begun : IsChosen a (λ q. ⊥) won won winners last =
    subst (λ (ws : List ℕ). IsChosen a (λ q. ⊥) won won ws last) (sym none)
    (subst (λ l. IsChosen a (λ q. ⊥) won won [] l) (sym end) (chosen_none a (λ q. ⊥) won (λ q s. s))) in
    chosen_same a (λ q. ⊥ ⊎ (q ≡ id)) (Contains ids) won marks later result (λ q. (
      λ h. elim h [ inl gone ↦ absurd gone | inr same ↦ subst (Contains ids) (sym same) (one_in ids id one at) ],
      λ c. inr (one_only ids id q one at c),
    )) (chosen_more a (λ q. ⊥) won won winners last id begun (λ q gone. absurd gone) inside key later marks result is
    considered)
