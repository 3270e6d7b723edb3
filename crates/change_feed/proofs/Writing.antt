-- Items applied one behind another.
use Rattle.std.specs.Prelude.{◌≡◌, ℕ, ◌<◌, nat_lt, ◌&&◌, Bool, true, false, if◌then◌else◌, List, [], ◌∷◌, ◌++◌, refl}
use Rattle.std.proofs.lemmas.Bool.{lt-ltb}
use Rattle.change_feed.specs.declared.items.Cell.{Cell}
use Rattle.change_feed.specs.declared.items.Item.{Item}
use Rattle.change_feed.specs.declared.items.Item.TheVariants.{Cell as Cell_item}
use Rattle.change_feed.specs.Applied.{Shown, with_cell, apply, applied}

pub applied-append : (n : ℕ) (t : Shown) (is js : List Item) → applied n t (is ++ js) ≡ applied n (applied n t is) js
applied-append n t [] js = refl
applied-append n t (i ∷ is) js = applied-append n (apply n t i) is js

pub applied-push : (n : ℕ) (t : Shown) (is : List Item) (i : Item)
    → applied n t (is ++ i ∷ []) ≡ apply n (applied n t is) i
applied-push n t is i = applied-append n t is (i ∷ [])

pub apply-inside : (n : ℕ) (t : Shown) (c : Cell) → c.x < n → c.y < n → apply n t (Cell_item c) ≡ with_cell n t c
apply-inside n t c p q = go (nat_lt c.x n) (nat_lt c.y n) (lt-ltb c.x n p) (lt-ltb c.y n q)
  where
    go : (a b : Bool) → a ≡ true → b ≡ true → (if a && b then with_cell n t c else t) ≡ with_cell n t c
    go true true e f = refl
    go true false e f = absurd (let g : false ≡ true = f in cc)
    go false b e f = absurd (let g : false ≡ true = e in cc)
