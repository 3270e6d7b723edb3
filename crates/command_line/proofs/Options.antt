-- The first two words of a list.
use Rattle.std.proofs.Common.{◌≡◌, ℕ, ◌-◌, ◌≤◌, List, [], ◌∷◌, length, get_or, take, drop, map, sym, ap, ◌∙◌, arith}
use Rattle.std.proofs.lemmas.List.{take_all}

pub two_first : {A B : Type 0} (f : A → B) (words : List A) (w v : A) → w ≡ get_or words 0 w → v ≡ get_or words 1 v
    → 2 ≤ length words → map f words ≡ f w ∷ f v ∷ map f (take (length words - 2) (drop 2 words))
two_first f [] w v first second size = absurd (omega (arith, size))
two_first f (x ∷ []) w v first second size = absurd (omega (arith, size))
two_first f (x ∷ y ∷ zs) w v first second size =
    let rest : zs ≡ take (length (x ∷ y ∷ zs) - 2) zs = sym (take_all (length (x ∷ y ∷ zs) - 2) zs (omega arith)) in
    λ i. f (sym first i) ∷ f (sym second i) ∷ map f (rest i)
