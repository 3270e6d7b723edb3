-- What the first entry of a pair tells of an id that is put in or taken out.
use Rattle.std.specs.Prelude.{◌≡◌, ◌≢◌, ℕ, Bool, ◌==◌, true, false, ◌<◌, ◌↔◌, List, length, Contains, refl}
use Rattle.std.proofs.Common.{sym, ◌∙◌, subst, arith, inl, inr, get_or}
use Rattle.std.proofs.lemmas.Bool.{true≢false}
use Rattle.std.proofs.lemmas.Bool.Decides.{eqb_tells}
use Rattle.std.proofs.lemmas.List.{get_or_default}
use Rattle.std.proofs.lemmas.List.Elements.{Contains-get_or}
use Rattle.path_arena.specs.Arena.{Arena}
use Rattle.pair_heaps.specs.Heaps.{Pair, Heaps, held_at, HeapsFit, IsHeap, IsIdBelow, IsWith, IsAllBut, IsLeastIn, TellsLeast}
use Rattle.pair_heaps.proofs.Places.{IsWritten}
use Rattle.pair_heaps.proofs.Sifted.{above_first}

abbrev first_of : List ℕ → ℕ
first_of ids = get_or ids 0 0

some_held : (ids : List ℕ) (q : ℕ) → Contains ids q → 0 < length ids
some_held ids q c = let inside : c.0 < length ids = c.1 in omega arith

-- the first entry of a heap that is not empty
first_least : (a : Arena) (h : Heaps) (x y : ℕ) → IsHeap a (held_at h x y) → 0 < length (held_at h x y)
    → IsLeastIn a h x y (first_of (held_at h x y))
first_least a h x y heap some = record {
  held = Contains-get_or (held_at h x y) 0 0 some;
  least = λ q c below. above_first a (held_at h x y) heap c.0 c.0 (omega arith) c.1
      (subst (λ p. IsIdBelow a p (first_of (held_at h x y))) (sym (get_or_default (held_at h x y) c.0 0 q c.1 ∙ c.2))
      below);
}

-- the entries but this one
abbrev IsBut : ℕ → List ℕ → List ℕ → Type 0
IsBut id old new = (q : ℕ) → Contains new q ↔ (Contains old q × (q ≢ id))

-- the least one is another than the id, and of the ids without it
told_least : (a : Arena) (told : Bool) (h k : Heaps) (id x y : ℕ) → IsHeap a (held_at h x y)
    → Contains (held_at h x y) id → told ≡ (first_of (held_at h x y) == id) → IsBut id (held_at h x y) (held_at k x y)
    → TellsLeast a told h k id x y
told_least a told h k id x y heap c is without = record {
  yes = λ e. subst (IsLeastIn a h x y) (same e) least;
  no = λ e. (
    first_of (held_at h x y),
    least,
    record {
      held = (without (first_of (held_at h x y))).1 (least.held, apart e);
      least = λ q d. least.least q ((without q).0 d).0;
    },
  );
}
  where
    least : IsLeastIn a h x y (first_of (held_at h x y))
    least = first_least a h x y heap (some_held (held_at h x y) id c)

    same : told ≡ true → first_of (held_at h x y) ≡ id
    same e = elim (eqb_tells (first_of (held_at h x y)) id) [
      | inl one ↦ one.1
      | inr other ↦ absurd (true≢false (sym e ∙ is ∙ other.0))
    ]

    apart : told ≡ false → first_of (held_at h x y) ≢ id
    apart e = elim (eqb_tells (first_of (held_at h x y)) id) [
      | inl one ↦ absurd (true≢false (sym one.0 ∙ sym is ∙ e))
      | inr other ↦ other.1
    ]

pub told_of_removed : (a : Arena) (b : Bool) (h k : Heaps) (id x y : ℕ) (p q : Pair) → IsWritten h k x y p q
    → HeapsFit h a → b ≡ (get_or p.held 0 0 == id) → Contains p.held id → IsAllBut id p.held q.held
    → TellsLeast a b h k id x y
told_of_removed a b h k id x y p q w fits is c without =
    told_least a b h k id x y (fits.arranged x y) (subst (λ (r : Pair). Contains r.held id) (sym w.was) c)
    (subst (λ (r : Pair). b ≡ (get_or r.held 0 0 == id)) (sym w.was) is)
    (subst (λ (r : Pair). IsBut id r.held (held_at k x y)) (sym w.was)
    (subst (λ (r : Pair). IsBut id p.held r.held) (sym w.now) without.ids))

-- what was put in can be taken out again
pub told_of_inserted : (a : Arena) (b : Bool) (h k : Heaps) (id x y : ℕ) (p q : Pair) → IsWritten h k x y p q
    → IsHeap a q.held → b ≡ (get_or q.held 0 0 == id) → (Contains p.held id → ⊥) → IsWith id p.held q.held
    → TellsLeast a b k h id x y
told_of_inserted a b h k id x y p q w heap is fresh more =
    told_least a b k h id x y (subst (λ (r : Pair). IsHeap a r.held) (sym w.now) heap)
    (subst (λ (r : Pair). Contains r.held id) (sym w.now) ((more.ids id).1 (inr refl)))
    (subst (λ (r : Pair). b ≡ (get_or r.held 0 0 == id)) (sym w.now) is)
    (subst (λ (r : Pair). IsBut id r.held (held_at h x y)) (sym w.now)
    (subst (λ (r : Pair). IsBut id q.held r.held) (sym w.was) back))
  where
    back : IsBut id q.held p.held
    back r = (
      λ c. ((more.ids r).1 (inl c), λ same. fresh (subst (λ s. Contains p.held s) same c)),
      λ c. elim ((more.ids r).0 c.0) [
        | inl before ↦ before
        | inr same ↦ absurd (c.1 same)
      ],
    )
