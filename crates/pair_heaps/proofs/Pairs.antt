-- What the heap of one pair is after a call.
use Rattle.std.specs.Prelude.{◌≡◌, ℕ, zero, suc, ◌+◌, ◌-◌, ◌≤◌, List, [], ◌∷◌, ◌++◌, length, take, slice_get, slice_index, Contains, Option, Some, refl}
use Rattle.std.specs.List.Sorted.{IsPermutation}
use Rattle.std.proofs.Common.{sym, ◌∙◌, ap, subst, arith}
use Rattle.std.proofs.lemmas.List.{get_or-take, length-take-le}
use Rattle.std.proofs.lemmas.Option.{slice_get-get_or}
use Rattle.apsp_model.specs.Walk.{IsOnceEach}
use Rattle.path_arena.specs.Arena.{Arena}
use Rattle.pair_heaps.specs.declared.pair.Ids.{Ids}
use Rattle.pair_heaps.specs.Heaps.{Pair, IsHeap, IsWith, IsAllBut}
use Rattle.pair_heaps.specs.Layout.{pair_of, front_of, IsPairHeap}
use Rattle.pair_heaps.proofs.Once.{with_moved, without_moved}

-- the first of the first entries, by how many these are
pub front_read : (xs : List ℕ) (len : ℕ) → len ≤ length xs → slice_get (take len xs) 0 ≡ front_of len (slice_index xs 0)
front_read xs zero inside = refl
front_read xs (suc k) inside =
    slice_get-get_or (take (suc k) xs) 0 0 (omega (arith, length-take-le (suc k) xs inside))
    ∙ ap Some (get_or-take (suc k) xs 0 0 (omega arith))

-- an id that was read where there is one
pub front_some : (k v : ℕ) (o : Option ℕ) → (k ≡ 0 → ⊥) → o ≡ front_of k v → Some v ≡ o
front_some zero v o some is = absurd (some refl)
front_some (suc k) v o some is = sym is

pub record IsPutIn (a : Arena) (id : ℕ) (p : Pair) (now : Ids) : Type 0 where
  pub sound : IsPairHeap now
  pub held : IsWith id p.held (pair_of now).held
  pub heap : IsHeap a (pair_of now).held

pub record IsTakenOut (a : Arena) (id : ℕ) (p : Pair) (now : Ids) : Type 0 where
  pub sound : IsPairHeap now
  pub held : IsAllBut id p.held (pair_of now).held
  pub heap : IsHeap a (pair_of now).held

pub put_in : (a : Arena) (id k room : ℕ) (p : Pair) (old new : List ℕ) (now : Ids) → take k old ≡ p.held
    → room - k ≡ p.spare → 1 ≤ p.spare → IsOnceEach (take k old) → (Contains p.held id → ⊥)
    → IsPermutation (take k old ++ id ∷ []) (take (k + 1) new) → IsHeap a (take (k + 1) new)
    → ((k + 1 ≤ room) × IsOnceEach (take (k + 1) new) → IsPairHeap now) → (pair_of now).held ≡ take (k + 1) new
    → IsPutIn a id p now
put_in a id k room p old new now held spare some once fresh moved heap sound is =
    let one_more : IsWith id (take k old) (take (k + 1) new) =
    with_moved id (take k old) (take (k + 1) new) moved once
    (subst (λ (xs : List ℕ). Contains xs id → ⊥) (sym held) fresh) in
    record {
      sound = sound (omega arith, one_more.once);
      held = subst (λ (xs : List ℕ). IsWith id p.held xs) (sym is)
          (subst (λ (xs : List ℕ). IsWith id xs (take (k + 1) new)) held one_more);
      heap = subst (λ (xs : List ℕ). IsHeap a xs) (sym is) heap;
    }

pub taken_out : (a : Arena) (id k room : ℕ) (p : Pair) (old new : List ℕ) (now : Ids) → take k old ≡ p.held → k ≤ room
    → IsOnceEach (take k old) → IsPermutation (take k old) (id ∷ take (k - 1) new) → IsHeap a (take (k - 1) new)
    → ((k - 1 ≤ room) × IsOnceEach (take (k - 1) new) → IsPairHeap now) → (pair_of now).held ≡ take (k - 1) new
    → IsTakenOut a id p now
taken_out a id k room p old new now held inside once moved heap sound is =
    let one_less : IsAllBut id (take k old) (take (k - 1) new) =
    without_moved id (take k old) (take (k - 1) new) moved once in
    record {
      sound = sound (omega arith, one_less.once);
      held = subst (λ (xs : List ℕ). IsAllBut id p.held xs) (sym is)
          (subst (λ (xs : List ℕ). IsAllBut id xs (take (k - 1) new)) held one_less);
      heap = subst (λ (xs : List ℕ). IsHeap a xs) (sym is) heap;
    }
