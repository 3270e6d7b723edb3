-- The marks of a book, as a set of ids.
use Rattle.std.specs.Prelude.{◌≡◌, ◌≢◌, ℕ, zero, suc, ◌+◌, ◌<◌, Bool, true, false, ◌||◌, nat_eq, List, [], ◌∷◌, ◌++◌, length, slice_set, refl}
use Rattle.std.specs.List.{list_any}
use Rattle.std.specs.FinSet as set
use Rattle.std.proofs.Common.{sym, ◌∙◌, ap, arith, inl, inr}
use Rattle.std.proofs.lemmas.Bool.{cases_lt, false≢true, ne_eqb, eq-eqb}
use Rattle.std.proofs.lemmas.List.{get_or-set_same, get_or-set_other, get_or_past}
use Rattle.path_book.specs.Layout.{places_from, marked_in, mark_at}
use Rattle.path_book.proofs.Sets.{same_put, same_gone}

none_before : (marks : List Bool) (k q : ℕ) → q < k → list_any (λ y. nat_eq y q) (places_from k marks) ≡ false
none_before [] k q h = refl
none_before (false ∷ marks) k q h = none_before marks (k + 1) q (omega arith)
none_before (true ∷ marks) k q h =
    let apart : k ≢ q = omega arith in
    ap (λ b. b || list_any (λ y. nat_eq y q) (places_from (k + 1) marks)) (ne_eqb k q apart)
    ∙ none_before marks (k + 1) q (omega arith)

any_place : (marks : List Bool) (k at q : ℕ) → q ≡ k + at
    → list_any (λ y. nat_eq y q) (places_from k marks) ≡ mark_at marks at
any_place [] k at q e = refl
any_place (false ∷ marks) k zero q e = none_before marks (k + 1) q (omega arith)
any_place (false ∷ marks) k (suc at) q e = any_place marks (k + 1) at q (omega arith)
any_place (true ∷ marks) k zero q e =
    let same : k ≡ q = omega arith in
    ap (λ b. b || list_any (λ y. nat_eq y q) (places_from (k + 1) marks)) (eq-eqb k q same)
any_place (true ∷ marks) k (suc at) q e =
    let apart : k ≢ q = omega arith in
    ap (λ b. b || list_any (λ y. nat_eq y q) (places_from (k + 1) marks)) (ne_eqb k q apart)
    ∙ any_place marks (k + 1) at q (omega arith)

-- an id is marked where its mark is set
pub contains-marked_in : (marks : List Bool) (id : ℕ) → set.contains (marked_in marks) id ≡ mark_at marks id
contains-marked_in marks id =
    set.contains-from_list_nat (places_from 0 marks) id ∙ any_place marks 0 id id (omega arith)

pub marked_set : (marks : List Bool) (id : ℕ) → id < length marks
    → marked_in (slice_set marks id true) ≡ set.insert (marked_in marks) id
marked_set marks id l =
    same_put (marked_in marks) (marked_in (slice_set marks id true)) id
    (contains-marked_in (slice_set marks id true) id ∙ get_or-set_same marks id true false l)
    (λ q apart. contains-marked_in (slice_set marks id true) q ∙ get_or-set_other marks id q true false apart
    ∙ sym (contains-marked_in marks q))

pub marked_cleared : (marks : List Bool) (id : ℕ) → id < length marks
    → marked_in (slice_set marks id false) ≡ set.remove (marked_in marks) id
marked_cleared marks id l =
    same_gone (marked_in marks) (marked_in (slice_set marks id false)) id
    (contains-marked_in (slice_set marks id false) id ∙ get_or-set_same marks id false false l)
    (λ q apart. contains-marked_in (slice_set marks id false) q ∙ get_or-set_other marks id q false false apart
    ∙ sym (contains-marked_in marks q))

-- one more place without a mark
pub marked_longer : (marks : List Bool) → marked_in (marks ++ false ∷ []) ≡ marked_in marks
marked_longer marks = ap (λ ps. set.from_list ps) (places_longer 0 marks)
  where
    places_longer : (k : ℕ) (ms : List Bool) → places_from k (ms ++ false ∷ []) ≡ places_from k ms
    places_longer k [] = refl
    places_longer k (true ∷ ms) = ap (λ ps. k ∷ ps) (places_longer (k + 1) ms)
    places_longer k (false ∷ ms) = places_longer (k + 1) ms

-- a key with a mark has a place
pub mark_within : (marks : List Bool) (key : ℕ) → mark_at marks key ≡ true → key < length marks
mark_within marks key e = elim (cases_lt key (length marks)) [
  | inl less ↦ less
  | inr past ↦ absurd (let none : mark_at marks key ≡ false = get_or_past marks key false past in
      false≢true (sym none ∙ e))
]

-- a set without a key stays where that is taken out
pub marked_without : (marks : List Bool) (key : ℕ) → mark_at marks key ≡ false
    → marked_in marks ≡ set.remove (marked_in marks) key
marked_without marks key e =
    same_gone (marked_in marks) (marked_in marks) key (contains-marked_in marks key ∙ e) (λ q apart. refl)
