-- Which vertices are cleaned: the time of each vertex's latest update, and the powers of 2 one by one. For
-- `Timeline::cleaned` and `clean`.
use Rattle.std.specs.Prelude.{◌≡◌, ◌≢◌, ℕ, zero, suc, ◌+◌, ◌-◌, ◌*◌, ◌%◌, ◌^◌, ◌<◌, ◌≤◌, Bool, true, if◌then◌else◌, List, [], ◌∷◌, ◌++◌, length, drop, refl, Option, Some, None, option_to_list, option_and_then, slice_get}
use Rattle.std.specs.List.{list_any}
use Rattle.std.proofs.Common.{sym, ◌∙◌, ap, subst, arith, inl, inr}
use Rattle.std.proofs.lemmas.Bool.{cases_Bool, cases_eq, cases_lt, or_cases, or_left, or_right, eqb-true, eq-eqb, true≢false}
use Rattle.std.proofs.lemmas.Nat.{pow-add, pow_pos, one_shl}
use Rattle.std.proofs.lemmas.Option.{slice_get_within, none-some, same_Some}
use Rattle.apsp_model.specs.Command.{is_star_at, latest_at, cleaned, cleaned_from}
use Rattle.history_engine.specs.Times.{IsLatestUpdate, left_from}

-- the test of a star at v
star_test : (o : Option ℕ) (v : ℕ) → o ≡ Some v → is_star_at v o ≡ true
star_test o v e = subst (λ (a : Option ℕ). is_star_at v a ≡ true) (sym e) (eq-eqb v v refl)

star_is : (o : Option ℕ) (v : ℕ) → is_star_at v o ≡ true → o ≡ Some v
star_is None v h = absurd (true≢false (sym h))
star_is (Some w) v h = ap Some (eqb-true w v h)

any_from : (vs : List (Option ℕ)) (k s v : ℕ) → k ≤ s → slice_get vs s ≡ Some (Some v)
    → list_any (is_star_at v) (drop k vs) ≡ true
any_from [] k s v l at = absurd (none-some (Some v) at)
any_from (x ∷ vs) zero zero v l at =
    or_left (is_star_at v x) (list_any (is_star_at v) vs) (star_test x v (same_Some x (Some v) at))
any_from (x ∷ vs) zero (suc s) v l at =
    or_right (is_star_at v x) (list_any (is_star_at v) vs) (any_from vs zero s v (omega arith) at)
any_from (x ∷ vs) (suc k) zero v l at = absurd (omega (arith, l))
any_from (x ∷ vs) (suc k) (suc s) v l at = any_from vs k s v (omega (arith, l)) at

any_is : (vs : List (Option ℕ)) (k v : ℕ) → list_any (is_star_at v) (drop k vs) ≡ true → (s : ℕ) × (k ≤ s)
    × (slice_get vs s ≡ Some (Some v))
any_is [] zero v h = absurd (true≢false (sym h))
any_is [] (suc k) v h = absurd (true≢false (sym h))
any_is (x ∷ vs) zero v h = elim (or_cases (is_star_at v x) (list_any (is_star_at v) vs) h) [
  | inl here ↦ (0, omega arith, ap Some (star_is x v here))
  | inr there ↦ let r = any_is vs zero v there in (suc r.0, omega arith, r.2)
]
any_is (x ∷ vs) (suc k) v h = let r = any_is vs k v h in (suc r.0, (let l : k ≤ r.0 = r.1 in omega arith), r.2)

-- the vertex of time s + 1, where that is the latest star at its vertex
pub latest_here : (vs : List (Option ℕ)) (s v : ℕ) → slice_get vs s ≡ Some (Some v) → IsLatestUpdate vs v (s + 1)
    → latest_at vs (s + 1) ≡ Some v
latest_here vs s v at l =
    let F : ℕ → Type 0 = λ t. latest_at vs t ≡ Some v in
    let G : Option (Option ℕ) → Type 0 =
    λ o. option_and_then (λ a. option_and_then
    (λ w. if list_any (is_star_at w) (drop (suc s) vs) then None else Some w) a) o ≡ Some v in
    let H : Bool → Type 0 = λ b. (if b then None else Some v) ≡ Some v in
    subst F (plus_one s) (subst G (sym at) (elim (cases_Bool (list_any (is_star_at v) (drop (suc s) vs))) [
      | inl found ↦ let r =
          any_is vs (suc s) v found in absurd (l.none_later r.0 (let k : suc s ≤ r.0 = r.1 in omega arith) r.2)
      | inr none ↦ subst H (sym none) refl
    ]))
  where
    plus_one : (n : ℕ) → suc n ≡ n + 1
    plus_one n = omega arith

-- nothing, where that is a grow
pub latest_at_grow : (vs : List (Option ℕ)) (s : ℕ) → slice_get vs s ≡ Some None → latest_at vs (s + 1) ≡ None
latest_at_grow vs s at =
    let F : ℕ → Type 0 = λ t. latest_at vs t ≡ None in
    let G : Option (Option ℕ) → Type 0 =
    λ o. option_and_then (λ a. option_and_then
    (λ w. if list_any (is_star_at w) (drop (suc s) vs) then None else Some w) a) o ≡ None in
    subst F (plus_one s) (subst G (sym at) refl)
  where
    plus_one : (n : ℕ) → suc n ≡ n + 1
    plus_one n = omega arith

-- nothing, where another update is the latest one at its vertex
pub latest_elsewhere : (vs : List (Option ℕ)) (s v t : ℕ) → slice_get vs s ≡ Some (Some v) → IsLatestUpdate vs v t
    → t ≢ s + 1 → latest_at vs (s + 1) ≡ None
latest_elsewhere vs s v t at l other =
    let F : ℕ → Type 0 = λ t. latest_at vs t ≡ None in
    let G : Option (Option ℕ) → Type 0 =
    λ o. option_and_then (λ a. option_and_then
    (λ w. if list_any (is_star_at w) (drop (suc s) vs) then None else Some w) a) o ≡ None in
    let H : Bool → Type 0 = λ b. (if b then None else Some v) ≡ None in
    subst F (plus_one s) (subst G (sym at) (subst H (sym (found t l other)) refl))
  where
    plus_one : (n : ℕ) → suc n ≡ n + 1
    plus_one n = omega arith

    found : (t : ℕ) → IsLatestUpdate vs v t → t ≢ s + 1 → list_any (is_star_at v) (drop (suc s) vs) ≡ true
    found zero l other = absurd (l.none_later s (omega arith) at)
    found (suc r) l other = elim (cases_lt s (suc r)) [
      | inl before ↦ elim (cases_eq s r) [
        | inl same ↦ absurd (other (omega (arith, same)))
        | inr apart ↦ any_from vs (suc s) r v (between s r before apart) (l.here r (plus_one r))
      ]
      | inr behind ↦ absurd (l.none_later s (omega (arith, behind)) at)
    ]
      where
        between : (s r : ℕ) → s < suc r → s ≢ r → suc s ≤ r
        between s r a b = elim (cases_lt s r) [ inl l ↦ omega (arith, l) | inr h ↦ absurd (b (omega (arith, a, h))) ]

-- ---- one update more

get_old : (vs : List (Option ℕ)) (w : Option ℕ) (s : ℕ) → s < length vs → slice_get (vs ++ w ∷ []) s ≡ slice_get vs s
get_old [] w s l = absurd (omega (arith, l))
get_old (x ∷ vs) w zero l = refl
get_old (x ∷ vs) w (suc s) l = get_old vs w s (omega (arith, l))

get_new : (vs : List (Option ℕ)) (w : Option ℕ) → slice_get (vs ++ w ∷ []) (length vs) ≡ Some w
get_new [] w = refl
get_new (x ∷ vs) w = get_new vs w

length_more : (vs : List (Option ℕ)) (w : Option ℕ) → length (vs ++ w ∷ []) ≡ length vs + 1
length_more [] w = refl
length_more (x ∷ vs) w = let r : length (vs ++ w ∷ []) ≡ length vs + 1 = length_more vs w in omega arith

-- of the vertex of the star
pub latest_now : (vs : List (Option ℕ)) (v : ℕ) → IsLatestUpdate (vs ++ Some v ∷ []) v (length vs + 1)
latest_now vs v = record {
  made = let l : length (vs ++ Some v ∷ []) ≡ length vs + 1 = length_more vs (Some v) in omega arith;
  here = λ s e. subst (λ k. slice_get (vs ++ Some v ∷ []) k ≡ Some (Some v)) (omega (arith, e)) (get_new vs (Some v));
  none_later =
      λ s l at. let within : s < length (vs ++ Some v ∷ []) = slice_get_within (vs ++ Some v ∷ []) s (Some v) at in
      let long : length (vs ++ Some v ∷ []) ≡ length vs + 1 = length_more vs (Some v) in omega arith;
}

-- of a vertex that the update is not at
latest_behind : (vs : List (Option ℕ)) (w : Option ℕ) (v t : ℕ) → (w ≡ Some v → ⊥) → IsLatestUpdate vs v t
    → IsLatestUpdate (vs ++ w ∷ []) v t
latest_behind vs w v t apart l = record {
  made = let a : t ≤ length vs =
      l.made in let long : length (vs ++ w ∷ []) ≡ length vs + 1 = length_more vs w in omega arith;
  here = λ s e. let a : t ≤ length vs = l.made in get_old vs w s (omega arith) ∙ l.here s e;
  none_later = λ s at_least at. elim (cases_lt s (length vs)) [
    | inl old ↦ l.none_later s at_least (sym (get_old vs w s old) ∙ at)
    | inr new ↦
        let within : s < length (vs ++ w ∷ []) = slice_get_within (vs ++ w ∷ []) s (Some v) at in
        let long : length (vs ++ w ∷ []) ≡ length vs + 1 = length_more vs w in
        let is : length vs ≡ s = omega arith in
        apart (same_Some w (Some v) (sym (subst (λ k. slice_get (vs ++ w ∷ []) k ≡ Some w) is (get_new vs w)) ∙ at))
  ];
}

-- of every other vertex than that of the star
pub latest_still : (vs : List (Option ℕ)) (w v t : ℕ) → v ≢ w → IsLatestUpdate vs v t
    → IsLatestUpdate (vs ++ Some w ∷ []) v t
latest_still vs w v t apart l = latest_behind vs (Some w) v t (λ e. apart (sym (same_Some w v e))) l

-- behind a grow, of every vertex
pub latest_past : (vs : List (Option ℕ)) (v t : ℕ) → IsLatestUpdate vs v t → IsLatestUpdate (vs ++ None ∷ []) v t
latest_past vs v t l = latest_behind vs None v t (λ e. none-some v e) l

-- a grow is no star
pub star_before : (vs : List (Option ℕ)) (s v : ℕ) → slice_get (vs ++ None ∷ []) s ≡ Some (Some v)
    → slice_get vs s ≡ Some (Some v)
star_before vs s v at = elim (cases_lt s (length vs)) [
  | inl old ↦ sym (get_old vs None s old) ∙ at
  | inr new ↦
      let within : s < length (vs ++ None ∷ []) = slice_get_within (vs ++ None ∷ []) s (Some v) at in
      let long : length (vs ++ None ∷ []) ≡ length vs + 1 = length_more vs None in
      let is : length vs ≡ s = omega arith in
      absurd (none-some v (same_Some None (Some v)
      (sym (subst (λ k. slice_get (vs ++ None ∷ []) k ≡ Some None) is (get_new vs None)) ∙ at)))
]

-- of a vertex at which no star was
pub latest_none_at : (vs : List (Option ℕ)) (v : ℕ) → ((s : ℕ) → slice_get vs s ≡ Some (Some v) → ⊥)
    → IsLatestUpdate vs v 0
latest_none_at vs v none =
    record { made = omega arith; here = λ s e. absurd (omega (arith, e)); none_later = λ s l at. none s at }

-- before the first update
pub latest_none : (v : ℕ) → IsLatestUpdate [] v 0
latest_none v = latest_none_at [] v (λ s at. none-some (Some v) at)

-- ---- the powers of 2 from one on

plus_one : (n : ℕ) → suc n ≡ n + 1
plus_one n = omega arith

power_more : (i : ℕ) → i < 2 ^ i
power_more zero = omega arith
power_more (suc i) =
    let r : i < 2 ^ i = power_more i in
    let e : 2 ^ suc i ≡ 2 ^ i * 2 = ap (λ k. 2 ^ k) (plus_one i) ∙ pow-add 2 i 1 in
    omega arith

pub left_start : (vs : List (Option ℕ)) → cleaned vs ≡ left_from vs 0
left_start vs = ap (cleaned_from vs 0) (none_less (length vs))
  where
    none_less : (n : ℕ) → n ≡ n - 0
    none_less n = omega arith

none_before : (vs : List (Option ℕ)) (n : ℕ) → n ≡ 0 → latest_at vs n ≡ None
none_before vs zero e = refl
none_before vs (suc n) e = absurd (omega (arith, e))

-- the power of number i, and those behind it
pub left_step : (vs : List (Option ℕ)) (i : ℕ) → left_from vs i ≡ option_to_list (latest_at vs (length vs - 2 ^ i))
    ++ left_from vs (i + 1)
left_step vs i = elim (cases_lt i (length vs)) [
  | inl more ↦
      ap (cleaned_from vs i) (one_less (length vs) i more)
  | inr done ↦
      let none : latest_at vs (length vs - 2 ^ i) ≡ None =
      none_before vs (length vs - 2 ^ i) (let l : i < 2 ^ i = power_more i in omega (arith, l, done)) in
      ap (cleaned_from vs i) (let e : length vs - i ≡ 0 = omega (arith, done) in e)
      ∙ (λ j. option_to_list (sym none j)
      ++ cleaned_from vs (i + 1) (sym (let e : length vs - (i + 1) ≡ 0 = omega (arith, done) in e) j))
]
  where
    one_less : (n i : ℕ) → i < n → n - i ≡ suc (n - (i + 1))
    one_less n i l = omega (arith, l)

-- none, once the power is not below the number of updates
pub left_end : (vs : List (Option ℕ)) (i : ℕ) → length vs ≤ 2 ^ i → left_from vs i ≡ []
left_end vs i l = all_none (length vs - i) i l
  where
    all_none : (more i : ℕ) → length vs ≤ 2 ^ i → cleaned_from vs i more ≡ []
    all_none zero i l = refl
    all_none (suc more) i l =
        let none : latest_at vs (length vs - 2 ^ i) ≡ None = none_before vs (length vs - 2 ^ i) (omega (arith, l)) in
        let e : 2 ^ (i + 1) ≡ 2 ^ i * 2 = pow-add 2 i 1 in
        (λ j. option_to_list (none j) ++ all_none more (i + 1) (omega (arith, l, e)) j)

-- ---- what the star at v makes of an earlier star at w

-- it is the latest one there still
pub cleaned_here : (vs : List (Option ℕ)) (v w place n : ℕ) → slice_get vs place ≡ Some (Some w) → w ≢ v
    → IsLatestUpdate vs w (place + 1) → n ≡ place + 1 → latest_at (vs ++ Some v ∷ []) n ≡ Some w
cleaned_here vs v w place n at apart l is =
    subst (λ k. latest_at (vs ++ Some v ∷ []) k ≡ Some w) (sym is)
    (latest_here (vs ++ Some v ∷ []) place w (get_old vs (Some v) place (slice_get_within vs place (Some w) at) ∙ at)
    (latest_still vs v w (place + 1) apart l))

-- it is at the same vertex
pub cleaned_same : (vs : List (Option ℕ)) (v place n : ℕ) → slice_get vs place ≡ Some (Some v) → n ≡ place + 1
    → latest_at (vs ++ Some v ∷ []) n ≡ None
cleaned_same vs v place n at is =
    let within : place < length vs = slice_get_within vs place (Some v) at in
    subst (λ k. latest_at (vs ++ Some v ∷ []) k ≡ None) (sym is)
    (latest_elsewhere (vs ++ Some v ∷ []) place v (length vs + 1) (get_old vs (Some v) place within ∙ at)
    (latest_now vs v) (λ e. omega (arith, e, within)))

-- it is not the latest one there
pub cleaned_earlier : (vs : List (Option ℕ)) (v w place t n : ℕ) → slice_get vs place ≡ Some (Some w) → w ≢ v
    → IsLatestUpdate vs w t → t ≢ place + 1 → n ≡ place + 1 → latest_at (vs ++ Some v ∷ []) n ≡ None
cleaned_earlier vs v w place t n at apart l other is =
    subst (λ k. latest_at (vs ++ Some v ∷ []) k ≡ None) (sym is)
    (latest_elsewhere (vs ++ Some v ∷ []) place w t
    (get_old vs (Some v) place (slice_get_within vs place (Some w) at) ∙ at) (latest_still vs v w t apart l) other)

-- .. and a grow cleans nothing
pub cleaned_grow : (vs : List (Option ℕ)) (v place n : ℕ) → slice_get vs place ≡ Some None → n ≡ place + 1
    → latest_at (vs ++ Some v ∷ []) n ≡ None
cleaned_grow vs v place n at is =
    subst (λ k. latest_at (vs ++ Some v ∷ []) k ≡ None) (sym is)
    (latest_at_grow (vs ++ Some v ∷ []) place (get_old vs (Some v) place (slice_get_within vs place None at) ∙ at))

-- the place of the update of a power of 2 ago
pub time_is : (len power place : ℕ) → power < 64 → (1 * 2 ^ power % 18446744073709551616 ≤ len)
    × (place ≡ len - 1 * 2 ^ power % 18446744073709551616) → (len + 1 - 2 ^ power ≡ place + 1) × (place < len)
time_is len power place l h =
    let e : 1 * 2 ^ power % 18446744073709551616 ≡ 2 ^ power = one_shl power 64 l in
    let some : 0 < 2 ^ power = pow_pos power in
    (omega (arith, h.0, h.1, e), omega (arith, h.0, h.1, e))
