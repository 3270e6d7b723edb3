-- The entries of a finite map whose keys are numbers, and lists that are made of lists.
use Rattle.std.specs.Prelude.{◌≡◌, ◌≢◌, ℕ, ◌<◌, ◌↔◌, Bool, true, false, cond, ◌&&◌, T, List, [], ◌∷◌, map, Some, refl, Contains}
use Rattle.std.specs.Ordering.{nat_cmp, eq_by_cmp, is_lt}
use Rattle.std.specs.declared.cmp.Ordering.{Ordering}
use Rattle.std.specs.declared.cmp.Ordering.TheVariants.{Less, Equal, Greater}
use Rattle.std.specs.FinMap as fin
use Rattle.std.specs.FinMap.Entries.{below_all}
use Rattle.std.proofs.Common.{sym, ◌∙◌, ap, subst, arith, inl, inr}
use Rattle.std.proofs.lemmas.Bool.{cases_eq}
use Rattle.std.proofs.lemmas.Bool.Decides.{nat_tests}
use Rattle.apsp_model.proofs.Members.{in_cons, in_nil, head_in, tail_in}
use Rattle.path_arena.proofs.Keys.{tied_key, apart_key}

left_holds : (a b : Bool) → T (a && b) → T a
left_holds true b h = tt
left_holds false b h = h

right_holds : (a b : Bool) → T (a && b) → T b
right_holds true b h = h
right_holds false b h = absurd h

less_from : (x y : ℕ) → T (is_lt (nat_cmp x y)) → x < y
less_from x y h = go (nat_cmp x y) refl h
  where
    go : (o : Ordering) → nat_cmp x y ≡ o → T (is_lt o) → x < y
    go Less e h = grind (arith, nat_tests)
    go Equal e h = absurd h
    go Greater e h = absurd h

module _ {X : Type 0} where
  -- a key that all keys of a list are above does not stand in it
  above : (x : ℕ) (es : List (ℕ × X)) → T (below_all nat_cmp x es) → (k : ℕ) (v : X) → Contains es (k, v) → x < k
  above x [] h k v c = absurd (in_nil (k, v) c)
  above x (e ∷ es) h k v c = elim (in_cons (k, v) e es c) [
    | inl here ↦ subst (λ n. x < n) (ap (λ p. p.0) here) (less_from x e.0 (left_holds _ _ h))
    | inr more ↦ above x es (right_holds _ _ h) k v more
  ]

  in_from_find : (es : List (ℕ × X)) (k : ℕ) (v : X) → fin.find nat_cmp k es ≡ Some v → Contains es (k, v)
  in_from_find [] k v e = absurd (cc)
  in_from_find (d ∷ es) k v e = elim (cases_eq k d.0) [
    | inl same ↦
        let found : cond (eq_by_cmp nat_cmp k d.0) (Some d.1) (fin.find nat_cmp k es) ≡ Some d.1 =
        ap (λ j. cond (eq_by_cmp nat_cmp k j) (Some d.1) (fin.find nat_cmp k es)) (sym same)
        ∙ ap (λ b. cond b (Some d.1) (fin.find nat_cmp k es)) (tied_key k) in
        let value : d.1 ≡ v = (let two : Some d.1 ≡ Some v = sym found ∙ e in cc) in
        head_in (k, v) d es (λ i. (sym same i, value i))
    | inr apart ↦
        let later : cond (eq_by_cmp nat_cmp k d.0) (Some d.1) (fin.find nat_cmp k es) ≡ fin.find nat_cmp k es =
        ap (λ b. cond b (Some d.1) (fin.find nat_cmp k es)) (apart_key d.0 k apart) in
        tail_in (k, v) d es (in_from_find es k v (sym later ∙ e))
  ]

  find_from_in : (es : List (ℕ × X)) → T (fin.is_sorted nat_cmp es) → (k : ℕ) (v : X) → Contains es (k, v)
      → fin.find nat_cmp k es ≡ Some v
  find_from_in [] h k v c = absurd (in_nil (k, v) c)
  find_from_in (d ∷ es) h k v c = elim (in_cons (k, v) d es c) [
    | inl here ↦
        let keys : k ≡ d.0 = ap (λ p. p.0) (sym here) in
        ap (λ j. cond (eq_by_cmp nat_cmp k j) (Some d.1) (fin.find nat_cmp k es)) (sym keys)
        ∙ ap (λ b. cond b (Some d.1) (fin.find nat_cmp k es)) (tied_key k) ∙ ap (λ p. Some p.1) here
    | inr more ↦
        let less : d.0 < k = above d.0 es (left_holds _ _ h) k v more in
        let apart : k ≢ d.0 = omega arith in
        ap (λ b. cond b (Some d.1) (fin.find nat_cmp k es)) (apart_key d.0 k apart)
        ∙ find_from_in es (right_holds _ _ h) k v more
  ]

  -- an entry stands in a map exactly where the map finds it
  pub in_entries : (m : fin.FinMap nat_cmp X) (k : ℕ) (v : X) → Contains (fin.entries m) (k, v) ↔ (fin.get m k ≡ Some v)
  in_entries m k v = (
    λ c. fin.get-entries m k ∙ find_from_in (fin.entries m) (fin.entries_sorted m) k v c,
    λ e. in_from_find (fin.entries m) k v (sym (fin.get-entries m k) ∙ e),
  )

-- what stands in a list that is made entry by entry
pub in_map : {A B : Type 0} (f : A → B) (xs : List A) (y : B) → Contains (map f xs) y → (x : A) × Contains xs x
    × (f x ≡ y)
in_map f [] y c = absurd (in_nil y c)
in_map f (x ∷ xs) y c = elim (in_cons y (f x) (map f xs) c) [
  | inl here ↦ (x, head_in x x xs refl, here)
  | inr more ↦ (let rest = in_map f xs y more in (rest.0, tail_in rest.0 x xs rest.1, rest.2))
]

pub to_map : {A B : Type 0} (f : A → B) (xs : List A) (x : A) → Contains xs x → Contains (map f xs) (f x)
to_map f [] x c = absurd (in_nil x c)
to_map f (z ∷ xs) x c = elim (in_cons x z xs c) [
  | inl here ↦ head_in (f x) (f z) (map f xs) (ap f here)
  | inr more ↦ tail_in (f x) (f z) (map f xs) (to_map f xs x more)
]

-- the keys of the entries behind the first are above its key, and rise
pub rising_tail : {X : Type 0} (e : ℕ × X) (es : List (ℕ × X)) → T (fin.is_sorted nat_cmp (e ∷ es))
    → T (fin.is_sorted nat_cmp es)
rising_tail e es h = right_holds _ _ h

pub rising_head : {X : Type 0} (e : ℕ × X) (es : List (ℕ × X)) → T (fin.is_sorted nat_cmp (e ∷ es)) → (d : ℕ × X)
    → Contains es d → e.0 < d.0
rising_head e es h d c = above e.0 es (left_holds _ _ h) d.0 d.1 c
