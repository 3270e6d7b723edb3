-- A search among winners, which stand in the order of their pairs. Serves `is_winner`.
use Rattle.std.specs.Prelude.{◌≡◌, ℕ, ◌+◌, ◌<◌, ◌≤◌, zero, suc, List, [], ◌∷◌, length, Contains}
use Rattle.std.specs.Cmp.{IsTotalOrder}
use Rattle.std.specs.Ordering.{ordering_reverse}
use Rattle.std.specs.declared.cmp.Ordering.TheVariants.{Less, Equal, Greater}
use Rattle.std.proofs.Common.{sym, ◌∙◌, ap, subst, arith, inl, inr, get_or}
use Rattle.std.proofs.lemmas.Bool.{cases_eq, cases_lt}
use Rattle.std.proofs.lemmas.Cmp.{nat_cmp_total, on_total, then_total, tied_itself, tied_back}
use Rattle.std.proofs.lemmas.List.{get_or_default}
use Rattle.std.proofs.lemmas.List.Elements.{Contains-get_or}
use Rattle.path_arena.specs.Arena.{Arena}
use Rattle.weight_classes.specs.Classes.{InOrder, ends_cmp, first_of, last_of}

module _ (a : Arena) where
  pair_total : IsTotalOrder (ends_cmp a)
  pair_total = then_total (on_total (first_of a) nat_cmp_total) (on_total (last_of a) nat_cmp_total)

  not_before_itself : (w : ℕ) → ends_cmp a w w ≡ Less → ⊥
  not_before_itself w e = let tie : ends_cmp a w w ≡ Equal = tied_itself pair_total w in cc

  in_order_at : (ws : List ℕ) (i j d : ℕ) → InOrder a ws → i < j → j < length ws
      → ends_cmp a (get_or ws i d) (get_or ws j d) ≡ Less
  in_order_at [] i j d order less inside = absurd (omega (arith, inside))
  in_order_at (w ∷ ws) i zero d order less inside = absurd (omega (arith, less))
  in_order_at (w ∷ ws) zero (suc j) d order less inside =
      order.0 (get_or ws j d) (Contains-get_or ws j d (omega (arith, inside)))
  in_order_at (w ∷ ws) (suc i) (suc j) d order less inside =
      in_order_at ws i j d order.1 (omega (arith, less)) (omega (arith, inside))

  -- the id can stand from `low` on and below `high` alone
  pub record IsSearching (ws : List ℕ) (id low high : ℕ) : Type 0 where
    pub upto : low ≤ high
    pub inside : high ≤ length ws
    pub below : (i d : ℕ) → i < low → ends_cmp a (get_or ws i d) id ≡ Less
    pub above : (i d : ℕ) → high ≤ i → i < length ws → ends_cmp a id (get_or ws i d) ≡ Less

  pub searching_starts : (ws : List ℕ) (id high : ℕ) → high ≡ length ws → IsSearching ws id 0 high
  searching_starts ws id high all = record {
    upto = omega arith;
    inside = omega (arith, all);
    below = λ i d less. absurd (omega (arith, less));
    above = λ i d more inside. absurd (omega (arith, all, more, inside));
  }

  module _ (ws : List ℕ) (order : InOrder a ws) (id low high : ℕ) (s : IsSearching ws id low high) where
    module _ (middle found : ℕ) (from : low ≤ middle) (to : middle < high) (at : found ≡ get_or ws middle found) where
      here : (d : ℕ) → get_or ws middle d ≡ found
      here d = get_or_default ws middle d found (let l = s.inside in omega (arith, to)) ∙ sym at

      pub searching_behind : ends_cmp a found id ≡ Less → IsSearching ws id (middle + 1) high
      searching_behind less = record {
        upto = omega (arith, to);
        inside = s.inside;
        below = λ i d under. elim (cases_eq i middle) [
          | inl same ↦ ap (λ k. ends_cmp a k id) (ap (λ k. get_or ws k d) same ∙ here d) ∙ less
          | inr apart ↦ pair_total.trans (get_or ws i d) found id
              (subst (λ k. ends_cmp a (get_or ws i d) k ≡ Less) (here d)
              (in_order_at ws i middle d order (before i under apart) (let l = s.inside in omega (arith, to)))) less
        ];
        above = s.above;
      }
        where
          before : (i : ℕ) → i < middle + 1 → (i ≡ middle → ⊥) → i < middle
          before i under apart =
              elim (cases_lt i middle) [ inl less ↦ less | inr more ↦ absurd (apart (omega (arith, more, under))) ]

      pub searching_in_front : ends_cmp a found id ≡ Greater → IsSearching ws id low middle
      searching_in_front greater = record {
        upto = from;
        inside = let l = s.inside in omega (arith, to);
        below = s.below;
        above = λ i d over inside. elim (cases_eq i middle) [
          | inl same ↦ ap (ends_cmp a id) (ap (λ k. get_or ws k d) same ∙ here d) ∙ turned
          | inr apart ↦ pair_total.trans id found (get_or ws i d) turned
              (subst (λ k. ends_cmp a k (get_or ws i d) ≡ Less) (here d)
              (in_order_at ws middle i d order (behind i over apart) inside))
        ];
      }
        where
          turned : ends_cmp a id found ≡ Less
          turned = pair_total.antisymm id found ∙ ap ordering_reverse greater

          behind : (i : ℕ) → middle ≤ i → (i ≡ middle → ⊥) → middle < i
          behind i over apart =
              elim (cases_lt middle i) [ inl less ↦ less | inr more ↦ absurd (apart (omega (arith, more, over))) ]

      -- the one winner of the pair is found
      pub found_there : found ≡ id → Contains ws id
      found_there same = subst (Contains ws) same (middle, (let l = s.inside in omega (arith, to)), sym at)

      pub there_found : ends_cmp a found id ≡ Equal → Contains ws id → found ≡ id
      there_found tie c = elim (cases_eq c.0 middle) [
        | inl same ↦ sym (here id) ∙ ap (λ k. get_or ws k id) (sym same) ∙ c.2
        | inr apart ↦ elim (cases_lt c.0 middle) [
          | inl less ↦
              let e : ends_cmp a id found ≡ Less =
              subst (λ k. ends_cmp a k found ≡ Less) c.2
              (subst (λ k. ends_cmp a (get_or ws c.0 id) k ≡ Less) (here id)
              (in_order_at ws c.0 middle id order less (let l = s.inside in omega (arith, to)))) in
              let back : ends_cmp a id found ≡ Equal = tied_back pair_total found id tie in
              cc
          | inr more ↦
              let e : ends_cmp a found id ≡ Less =
              subst (λ k. ends_cmp a found k ≡ Less) c.2
              (subst (λ k. ends_cmp a k (get_or ws c.0 id) ≡ Less) (here id)
              (in_order_at ws middle c.0 id order (over c.0 more apart) c.1)) in
              cc
        ]
      ]
        where
          over : (k : ℕ) → middle ≤ k → (k ≡ middle → ⊥) → middle < k
          over k more apart =
              elim (cases_lt middle k) [ inl less ↦ less | inr upto ↦ absurd (apart (omega (arith, more, upto))) ]

    pub not_there : high ≤ low → Contains ws id → ⊥
    not_there done c = elim (cases_lt c.0 low) [
      | inl less ↦ not_before_itself id (subst (λ k. ends_cmp a k id ≡ Less) c.2 (s.below c.0 id less))
      | inr more ↦ not_before_itself id (subst (λ k. ends_cmp a id k ≡ Less) c.2
          (s.above c.0 id (omega (arith, done, more)) c.1))
    ]
