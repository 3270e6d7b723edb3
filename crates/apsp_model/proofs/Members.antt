-- Membership in lists, and lists without repetitions, of any type. For all that follows.
use Rattle.std.specs.Prelude.{◌≡◌, ℕ, zero, suc, ◌<◌, ◌⊎◌, List, [], ◌∷◌, ◌++◌, length, refl, Contains, get_or}
use Rattle.std.proofs.Common.{arith, inl, inr}
use Rattle.std.proofs.lemmas.List.Elements.{Contains-append_right, Contains-append_cases}
use Rattle.apsp_model.specs.Walk.{IsOnceEach}

at_cons : {A : Type 0} (x y : A) (p : List A) (k : ℕ) → k < length (y ∷ p) → get_or (y ∷ p) k x ≡ x → (y ≡ x)
    ⊎ Contains p x
at_cons x y p zero l e = inl e
at_cons x y p (suc k) l e = inr (k, omega arith, e)

-- what stands in a list is its first entry or stands behind it
pub in_cons : {A : Type 0} (x y : A) (p : List A) → Contains (y ∷ p) x → (y ≡ x) ⊎ Contains p x
in_cons x y p c = at_cons x y p c.0 c.1 c.2

-- nothing stands in the empty list
pub in_nil : {A : Type 0} (x : A) → Contains [] x → ⊥
in_nil x c = let l : c.0 < 0 = c.1 in omega arith

-- the first entry of a list stands in it
pub head_in : {A : Type 0} (x y : A) (p : List A) → y ≡ x → Contains (y ∷ p) x
head_in x y p e = (0, omega arith, e)

-- .. and so does what stands behind it
pub tail_in : {A : Type 0} (x y : A) (p : List A) → Contains p x → Contains (y ∷ p) x
tail_in x y p c = Contains-append_right (y ∷ []) p x c

-- two lists without repetitions that have nothing in common, one behind the other
pub once_append : {A : Type 0} (xs ys : List A) → IsOnceEach xs → IsOnceEach ys
    → ((x : A) → Contains xs x → Contains ys x → ⊥) → IsOnceEach (xs ++ ys)
once_append [] ys a b apart = b
once_append (x ∷ xs) ys a b apart = (
  λ c. elim (Contains-append_cases xs ys x c) [ inl left ↦ a.0 left | inr right ↦ apart x (head_in x x xs refl) right ],
  once_append xs ys a.1 b (λ y left right. apart y (tail_in y x xs left) right),
)
