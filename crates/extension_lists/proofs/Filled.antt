-- For the tests: ids are entered and added one by one.
use Rattle.std.specs.Prelude.{◌≡◌, ◌≢◌, ℕ, ◌+◌, ◌<◌, ◌≤◌, ◌==◌, ◌↔◌, Bool, true, false, List, [], ◌∷◌, ◌++◌, Option, Some, None, IsNone, is_some, unwrap_or, refl, Contains, if◌then◌else◌}
use Rattle.std.specs.Ordering.{nat_cmp}
use Rattle.std.specs.FinMap as map
use Rattle.std.specs.FinMap.{get-empty}
use Rattle.std.proofs.Common.{sym, ◌∙◌, ap, subst, arith, inl, inr}
use Rattle.std.proofs.lemmas.Bool.{cases_eq, false≢true}
use Rattle.std.proofs.lemmas.List.Elements.{Contains-push_cases, Contains-append_right}
use Rattle.apsp_model.proofs.Members.{in_nil}
use Rattle.extension_lists.specs.Known.{Sides, Known, no_sides, IsKnown, sides_at, change, added, IsStarred}
use Rattle.extension_lists.proofs.Places.{get-insert_same, get-insert_other}

-- the ids below n are known, and those that stand in a list are below k
pub record AreFilled (m : Known) (n k : ℕ) : Type 0 where
  pub known : (q : ℕ) → IsKnown m q ↔ (q < n)
  pub left : (j q : ℕ) → Contains (sides_at m j).left q → q < k
  pub right : (j q : ℕ) → Contains (sides_at m j).right q → q < k
  pub left_star : (j q : ℕ) → Contains (sides_at m j).left_star q → q < k
  pub right_star : (j q : ℕ) → Contains (sides_at m j).right_star q → q < k

-- the lists of one id are others
put_cases : (Fact : Sides → Type 0) (m : Known) (k : ℕ) (s : Sides) (j : ℕ) → Fact s → Fact (sides_at m j)
    → Fact (sides_at (map.insert m k s) j)
put_cases Fact m k s j here other = elim (cases_eq j k) [
  | inl same ↦ subst Fact (sym (ap (sides_at (map.insert m k s)) same
      ∙ ap (λ o. unwrap_or o no_sides) (get-insert_same m k s))) here
  | inr apart ↦ subst Fact (sym (ap (λ o. unwrap_or o no_sides) (get-insert_other m k s j apart))) other
]

known_put : (m : Known) (k : ℕ) (s : Sides) (q : ℕ) → IsKnown m k → IsKnown (map.insert m k s) q ↔ IsKnown m q
known_put m k s q known = elim (cases_eq q k) [
  | inl same ↦ (
    λ h. subst (IsKnown m) (sym same) known,
    λ h. ap (λ j. is_some (map.get (map.insert m k s) j)) same ∙ ap is_some (get-insert_same m k s),
  )
  | inr apart ↦ (let still = ap is_some (get-insert_other m k s q apart) in (λ h. sym still ∙ h, λ h. still ∙ h))
]

pub nothing_filled : (m : Known) → m ≡ map.empty → AreFilled m 0 0
nothing_filled m is = subst (λ m. AreFilled m 0 0) (sym is) (record {
  known = λ q. (λ h. absurd (false≢true (sym (ap is_some (get-empty nat_cmp q)) ∙ h)), λ h. absurd (omega arith));
  left = λ j q c. absurd (in_nil q (subst (λ (s : Sides). Contains s.left q) (none j) c));
  right = λ j q c. absurd (in_nil q (subst (λ (s : Sides). Contains s.right q) (none j) c));
  left_star = λ j q c. absurd (in_nil q (subst (λ (s : Sides). Contains s.left_star q) (none j) c));
  right_star = λ j q c. absurd (in_nil q (subst (λ (s : Sides). Contains s.right_star q) (none j) c));
})
  where
    none : (j : ℕ) → sides_at map.empty j ≡ no_sides
    none j = ap (λ o. unwrap_or o no_sides) (get-empty nat_cmp j)

-- the next id is not known
pub not_filled : (m : Known) (n k id : ℕ) → AreFilled m n k → id ≡ n → IsNone (map.get m id)
not_filled m n k id f here = go (map.get m id) refl
  where
    go : (o : Option Sides) → map.get m id ≡ o → IsNone (map.get m id)
    go None e = ap is_some e
    go (Some s) e = (let low : id < n = (f.known id).0 (ap is_some e) in absurd (omega (arith, here)))

pub weaker : (m : Known) (n k more : ℕ) → k ≤ more → AreFilled m n k → AreFilled m n more
weaker m n k more low f = record {
  known = f.known;
  left = λ j q c. (let below : q < k = f.left j q c in omega arith);
  right = λ j q c. (let below : q < k = f.right j q c in omega arith);
  left_star = λ j q c. (let below : q < k = f.left_star j q c in omega arith);
  right_star = λ j q c. (let below : q < k = f.right_star j q c in omega arith);
}

pub filled_entered : (m new : Known) (n k id : ℕ) → id ≡ n → AreFilled m n k → new ≡ map.insert m id no_sides
    → AreFilled new (n + 1) k
filled_entered m new n k id here f is =
    subst (λ m. AreFilled m (n + 1) k) (sym (is ∙ ap (λ i. map.insert m i no_sides) here)) (record {
      known = λ q. elim (cases_eq q n) [
        | inl same ↦ (
          λ h. omega (arith, same),
          λ h. ap (λ j. is_some (map.get (map.insert m n no_sides) j)) same ∙ ap is_some (get-insert_same m n no_sides),
        )
        | inr apart ↦ (
            let still = ap is_some (get-insert_other m n no_sides q apart) in (
              λ h. let before : q < n = (f.known q).0 (sym still ∙ h) in
                  omega arith,
              λ h. still ∙ (f.known q).1 (omega (arith, apart)),
            )
            )
      ];
      left = λ j q. put_cases (λ s. Contains s.left q → q < k) m n no_sides j (λ c. absurd (in_nil q c)) (f.left j q);
      right = λ j q. put_cases (λ s. Contains s.right q → q < k) m n no_sides j (λ c. absurd (in_nil q c))
          (f.right j q);
      left_star =
          λ j q. put_cases (λ s. Contains s.left_star q → q < k) m n no_sides j (λ c. absurd (in_nil q c))
          (f.left_star j q);
      right_star =
          λ j q. put_cases (λ s. Contains s.right_star q → q < k) m n no_sides j (λ c. absurd (in_nil q c))
          (f.right_star j q);
    })

-- an id is added, where l and r are two known ids
module _ (m new : Known) (n k l r : ℕ) (f : AreFilled m n k) (known_l : IsKnown m l) (known_r : IsKnown m r)
    (apart : l ≢ r) (is : new ≡ added m k l r) where
  abbrev first_change : Known
  first_change = change m l (λ s. record s { right = s.right ++ k ∷ [] })

  more : (q : ℕ) → q < k → q < k + 1
  more q h = omega arith

  pushed : (xs : List ℕ) (q : ℕ) → (Contains xs q → q < k) → Contains (xs ++ k ∷ []) q → q < k + 1
  pushed xs q below c = elim (Contains-push_cases xs k q c) [ inl old ↦ more q (below old) | inr same ↦ omega arith ]

  first_left : (j q : ℕ) → Contains (sides_at first_change j).left q → q < k
  first_left j q = put_cases (λ s. Contains s.left q → q < k) m l _ j (f.left l q) (f.left j q)

  first_right : (j q : ℕ) → Contains (sides_at first_change j).right q → q < k + 1
  first_right j q =
      put_cases (λ s. Contains s.right q → q < k + 1) m l _ j (pushed (sides_at m l).right q (f.right l q))
      (λ c. more q (f.right j q c))

  first_left_star : (j q : ℕ) → Contains (sides_at first_change j).left_star q → q < k
  first_left_star j q = put_cases (λ s. Contains s.left_star q → q < k) m l _ j (f.left_star l q) (f.left_star j q)

  first_right_star : (j q : ℕ) → Contains (sides_at first_change j).right_star q → q < k
  first_right_star j q = put_cases (λ s. Contains s.right_star q → q < k) m l _ j (f.right_star l q) (f.right_star j q)

  pub filled_added : AreFilled new n (k + 1)
  filled_added = subst (λ m. AreFilled m n (k + 1)) (sym is) (record {
    known = λ q. (
        let one = known_put m l _ q known_l in
        let two = known_put first_change r _ q ((known_put m l _ r known_l).1 known_r) in
        (λ h. (f.known q).0 (one.0 (two.0 h)), λ h. two.1 (one.1 ((f.known q).1 h)))
        );
    left = λ j q. put_cases (λ s. Contains s.left q → q < k + 1) first_change r _ j
        (pushed (sides_at first_change r).left q (first_left r q)) (λ c. more q (first_left j q c));
    right = λ j q. put_cases (λ s. Contains s.right q → q < k + 1) first_change r _ j (first_right r q)
        (first_right j q);
    left_star =
        λ j q. put_cases (λ s. Contains s.left_star q → q < k + 1) first_change r _ j
        (λ c. more q (first_left_star r q c)) (λ c. more q (first_left_star j q c));
    right_star =
        λ j q. put_cases (λ s. Contains s.right_star q → q < k + 1) first_change r _ j
        (λ c. more q (first_right_star r q c)) (λ c. more q (first_right_star j q c));
  })

  pub added_right : Contains (sides_at new l).right k
  added_right =
      subst (λ (m : Known). Contains (sides_at m l).right k) (sym is)
      (subst (λ (s : Sides). Contains s.right k)
      (sym (ap (λ o. unwrap_or o no_sides) (get-insert_other first_change r _ l apart ∙ get-insert_same m l _)))
      (Contains-append_right (sides_at m l).right (k ∷ []) k (0, omega arith, refl)))

  pub added_left : Contains (sides_at new r).left k
  added_left =
      subst (λ (m : Known). Contains (sides_at m r).left k) (sym is)
      (subst (λ (s : Sides). Contains s.left k)
      (sym (ap (λ o. unwrap_or o no_sides) (get-insert_same first_change r _)))
      (Contains-append_right (sides_at first_change r).left (k ∷ []) k (0, omega arith, refl)))

  -- it is not historical yet
  pub added_plain : ((q : ℕ) → Contains (sides_at new q).left_star k → ⊥)
      × ((q : ℕ) → Contains (sides_at new q).right_star k → ⊥)
  added_plain = (
    λ j c. (let low : k < k = subst (λ (m : Known). Contains (sides_at m j).left_star k → k < k) (sym is)
        (put_cases (λ s. Contains s.left_star k → k < k) first_change r _ j (first_left_star r k) (first_left_star j k))
        c in omega arith),
    λ j c. (let low : k < k = subst (λ (m : Known). Contains (sides_at m j).right_star k → k < k) (sym is)
        (put_cases (λ s. Contains s.right_star k → k < k) first_change r _ j (first_right_star r k)
        (first_right_star j k)) c in omega arith),
  )

pub filled_starred : (m new : Known) (n k l r : ℕ) → AreFilled m n (k + 1) → IsStarred m new k l r
    → AreFilled new n (k + 1)
filled_starred m new n k l r f s = record {
  known = λ q. (λ h. (f.known q).0 (sym (s.known q) ∙ h), λ h. s.known q ∙ (f.known q).1 h);
  left = λ j q c. f.left j q (((s.left j).1 q).0 c);
  right = λ j q c. f.right j q (((s.right j).1 q).0 c);
  left_star =
      λ j q c. starred (j == r) (sides_at m j).left_star q (f.left_star j q)
      (subst (λ xs. Contains xs q) (s.left_star j) c);
  right_star =
      λ j q c. starred (j == l) (sides_at m j).right_star q (f.right_star j q)
      (subst (λ xs. Contains xs q) (s.right_star j) c);
}
  where
    starred : (b : Bool) (xs : List ℕ) (q : ℕ) → (Contains xs q → q < k + 1)
        → Contains (if b then xs ++ k ∷ [] else xs) q → q < k + 1
    starred true xs q below c = elim (Contains-push_cases xs k q c) [ inl old ↦ below old | inr same ↦ omega arith ]
    starred false xs q below c = below c

-- the id of a test is added to the lists of 0 and 1
module _ (m : Known) (k id l r : ℕ) (f : AreFilled m (k + 1) k) (is_id : id ≡ k) (is_l : l ≡ 0) (is_r : r ≡ 1)
    (two : 2 ≤ k) where
  known_id : IsKnown m id
  known_id = (f.known id).1 (omega (arith, is_id))

  known_l : IsKnown m l
  known_l = (f.known l).1 (omega (arith, is_l, two))

  known_r : IsKnown m r
  known_r = (f.known r).1 (omega (arith, is_r, two))

  pub can_add : IsKnown m id × IsKnown m l × IsKnown m r × (Contains (sides_at m l).right id → ⊥)
      × (Contains (sides_at m r).left id → ⊥)
  can_add = (
    known_id,
    known_l,
    known_r,
    λ c. (let low : id < k = f.right l id c in omega (arith, is_id)),
    λ c. (let low : id < k = f.left r id c in omega (arith, is_id)),
  )

  module _ (new : Known) (is : new ≡ added m id l r) where
    apart : l ≢ r
    apart same = (let off : 0 ≡ 1 = sym is_l ∙ same ∙ is_r in omega arith)

    at : new ≡ added m k l r
    at = is ∙ ap (λ i. added m i l r) is_id

    pub filled_one_more : AreFilled new (k + 1) (k + 1)
    filled_one_more = filled_added m new (k + 1) k l r f known_l known_r apart at

    pub can_star : IsKnown new l × IsKnown new r × Contains (sides_at new l).right id
        × Contains (sides_at new r).left id × (Contains (sides_at new l).right_star id → ⊥)
        × (Contains (sides_at new r).left_star id → ⊥)
    can_star = (
      (filled_one_more.known l).1 (omega (arith, is_l, two)),
      (filled_one_more.known r).1 (omega (arith, is_r, two)),
      subst (λ i. Contains (sides_at new l).right i) (sym is_id)
          (added_right m new (k + 1) k l r f known_l known_r apart at),
      subst (λ i. Contains (sides_at new r).left i) (sym is_id)
          (added_left m new (k + 1) k l r f known_l known_r apart at),
      λ c. (added_plain m new (k + 1) k l r f known_l known_r apart at).1 l
          (subst (λ i. Contains (sides_at new l).right_star i) is_id c),
      λ c. (added_plain m new (k + 1) k l r f known_l known_r apart at).0 r
          (subst (λ i. Contains (sides_at new r).left_star i) is_id c),
    )

    pub filled_star : (later : Known) → IsStarred new later id l r → AreFilled later (k + 1) (k + 1)
    filled_star later s =
        filled_starred new later (k + 1) k l r filled_one_more (subst (λ i. IsStarred new later i l r) is_id s)

-- an id that is known stays so where one is entered anew or emptied
pub put_known : (m new : Known) (id q : ℕ) (s : Sides) → IsKnown m id → IsKnown m q → new ≡ map.insert m id s
    → IsKnown new q
put_known m new id q s known here is = subst (λ m. IsKnown m q) (sym is) ((known_put m id s q known).1 here)

pub put_itself : (m new : Known) (id : ℕ) (s : Sides) → new ≡ map.insert m id s → IsKnown new id
put_itself m new id s is = ap (λ m. is_some (map.get m id)) is ∙ ap is_some (get-insert_same m id s)
