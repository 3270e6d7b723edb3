-- Each step keeps the protocol: for the calls of `deque`.
use Rattle.std.proofs.Common.{◌≡◌, ◌≢◌, ◌⊎◌, inl, inr, ⊎_elim, ℕ, zero, suc, ◌<◌, ◌≤◌, List, [], ◌∷◌, ◌++◌, set, length, sym, refl, ap, subst, arith, length-append}
use mathlib.Core.Option.{some, some-injective, some-ne-none}
use lib.ListN.{get_elem?}
use Rattle.crossbeam_deque.specs.Tasks.{Pushes, Takes, Finds, FindsFew, Forks, Merges}
use Rattle.task_pool.specs.declared.deque.Account.{Account}
use Rattle.apsp_model.specs.Totals.{total}
use Rattle.task_pool.specs.Lists.{times}
use Rattle.task_pool.specs.Shares.{account, ALL_PARTS, Shares, Pushed, Took, Emptied, without_part, one_part, both_of}
use Rattle.apsp_model.proofs.Totals.{total-set, total-append, total-only}
use Rattle.task_pool.proofs.Times.{times-append}

-- what stands at a place after one place was set
set_gives : {A : Type 0} (xs : List A) (i j : ℕ) (new found : A) → get_elem? (set xs i new) j ≡ some found
    → ((j ≡ i) × (new ≡ found)) ⊎ ((j ≢ i) × (get_elem? xs j ≡ some found))
set_gives [] i j new found is = absurd (some-ne-none found (sym is))
set_gives (x ∷ xs) zero zero new found is = inl (refl, some-injective new found is)
set_gives (x ∷ xs) zero (suc j) new found is = inr ((λ same. omega arith), is)
set_gives (x ∷ xs) (suc i) zero new found is = inr ((λ same. omega arith), is)
set_gives (x ∷ xs) (suc i) (suc j) new found is =
    ⊎_elim (λ here. inl (ap suc here.0, here.1))
    (λ there. let other = there.0 in inr ((λ same. other (omega arith)), there.1)) (set_gives xs i j new found is)

-- what stands at a place after one was put behind
behind_gives : {A : Type 0} (xs : List A) (new found : A) (j : ℕ) → get_elem? (xs ++ new ∷ []) j ≡ some found
    → (get_elem? xs j ≡ some found) ⊎ (new ≡ found)
behind_gives [] new found zero is = inr (some-injective new found is)
behind_gives [] new found (suc j) is = absurd (some-ne-none found (sym is))
behind_gives (x ∷ xs) new found zero is = inl is
behind_gives (x ∷ xs) new found (suc j) is = behind_gives xs new found j is

abbrev parts_of : Account → ℕ
parts_of v = v.parts

abbrev took_of : ℕ → Account → ℕ
took_of x v = times x v.took

abbrev pushed_of : ℕ → Account → ℕ
pushed_of x v = times x v.pushed

abbrev took_len : Account → ℕ
took_len v = length v.took

abbrev pushed_len : Account → ℕ
pushed_len v = length v.pushed

-- one view becomes another
idle_set : (views : List Account) (port : ℕ) (w : Account) → (w.parts ≡ 0 → (w.pushed ≡ []) × (w.took ≡ []))
    → ((i : ℕ) (v : Account) → get_elem? views i ≡ some v → v.parts ≡ 0 → (v.pushed ≡ []) × (v.took ≡ []))
    → (i : ℕ) (v : Account) → get_elem? (set views port w) i ≡ some v → v.parts ≡ 0 → (v.pushed ≡ []) × (v.took ≡ [])
idle_set views port w own others i v there none_left =
    ⊎_elim (λ t. subst (λ (u : Account). u.parts ≡ 0 → (u.pushed ≡ []) × (u.took ≡ [])) t.1 own none_left)
    (λ t. others i v t.1 none_left) (set_gives views port i w v there)

zero_times : (x : ℕ) (xs : List ℕ) → xs ≡ [] → times x xs ≡ 0
zero_times x xs none_there = ap (times x) none_there

zero_length : (xs : List ℕ) → xs ≡ [] → length xs ≡ 0
zero_length xs none_there = ap length none_there

pub pushes : (port : ℕ) (v : Account) (xs : List ℕ) → 0 < v.parts → Pushes Shares port v xs (Pushed v xs)
pushes port v xs some_part items views r at =
    let w : Account = account v.parts (v.pushed ++ xs) v.took in (
      w,
      record {
        taken = λ x.
            let was = r.taken x in
            let a = total-set (took_of x) views port v w at in
            let b = total-set (pushed_of x) views port v w at in
            let c = times-append x v.pushed xs in
            let d = times-append x items xs in
            omega arith;
        lengths =
            let was = r.lengths in
            let a = total-set took_len views port v w at in
            let b = total-set pushed_len views port v w at in
            let c = length-append v.pushed xs in
            let d = length-append items xs in
            omega arith;
        parts = let was = r.parts in let a = total-set parts_of views port v w at in omega arith;
        idle = idle_set views port w (λ none_left. absurd (omega arith)) r.idle;
      },
      refl,
    )

-- who has all parts has all that was taken and pushed
only : (views : List Account) (items : List ℕ) (port : ℕ) (v : Account) → Shares items views
    → get_elem? views port ≡ some v → v.parts ≡ ALL_PARTS → (g : Account → ℕ)
    → ((a : Account) → a.pushed ≡ [] → a.took ≡ [] → g a ≡ 0) → total g views ≡ g v
only views items port v r at all g zeros =
    let parts = r.parts in total-only parts_of g views port v
    (λ j a there none_left. let e = r.idle j a there none_left in zeros a e.0 e.1) at (omega arith)

pub takes : (port : ℕ) (v : Account) → 0 < v.parts → Takes Shares port v 1 (Took v)
takes port v some_part xs items views more few r at =
    let w : Account = account v.parts v.pushed (v.took ++ xs) in
    let after : Shares items (set views port w) = record {
      taken = λ x.
          let was = r.taken x in
          let a = total-set (took_of x) views port v w at in
          let b = total-set (pushed_of x) views port v w at in
          let c = times-append x v.took xs in
          let d = times-append x xs items in
          omega arith;
      lengths =
          let was = r.lengths in
          let a = total-set took_len views port v w at in
          let b = total-set pushed_len views port v w at in
          let c = length-append v.took xs in
          let d = length-append xs items in
          omega arith;
      parts = let was = r.parts in let a = total-set parts_of views port v w at in omega arith;
      idle = idle_set views port w (λ none_left. absurd (omega arith)) r.idle;
    } in
    let there : get_elem? (set views port w) port ≡ some w = at_same views port v w at in (
      w,
      after,
      (
        refl,
        λ all.
            let a = only (set views port w) items port w after there all took_len (λ u p t. zero_length u.took t) in
            let b = only (set views port w) items port w after there all pushed_len (λ u p t. zero_length u.pushed p) in
            let c = after.lengths in
            omega arith,
      ),
    )
  where
    at_same : (l : List Account) (i : ℕ) (a b : Account) → get_elem? l i ≡ some a → get_elem? (set l i b) i ≡ some b
    at_same [] i a b e = absurd (some-ne-none a (sym e))
    at_same (x ∷ xs) zero a b e = refl
    at_same (x ∷ xs) (suc i) a b e = at_same xs i a b e

emptied_at : (items : List ℕ) (views : List Account) (port : ℕ) (v : Account) → items ≡ [] → Shares items views
    → get_elem? views port ≡ some v → Emptied v
emptied_at items views port v empty r at all x =
    let a = only views items port v r at all (took_of x) (λ u p t. zero_times x u.took t) in
    let b = only views items port v r at all (pushed_of x) (λ u p t. zero_times x u.pushed p) in
    let c = r.taken x in
    let d = zero_times x items empty in
    omega arith

pub finds : (port : ℕ) (v : Account) → Finds Shares port v (Emptied v)
finds port v views r at = emptied_at [] views port v refl r at

no_items : (l : List ℕ) → length l ≤ 0 → l ≡ []
no_items [] few = refl
no_items (x ∷ xs) few = absurd (omega arith)

pub finds_few : (port : ℕ) (v : Account) → FindsFew Shares 0 port v (Emptied v)
finds_few port v items views few r at = emptied_at items views port v (no_items items few) r at

pub forks : (port : ℕ) (v : Account) → 1 < v.parts → Forks Shares port v (without_part v) (one_part v)
forks port v parts items views r at =
    let w : Account = without_part v in
    let u : Account = one_part v in record {
      taken = λ x.
          let was = r.taken x in
          let a = total-set (took_of x) views port v w at in
          let b = total-set (pushed_of x) views port v w at in
          let c = total-append (took_of x) (set views port w) (u ∷ []) in
          let d = total-append (pushed_of x) (set views port w) (u ∷ []) in
          omega arith;
      lengths =
          let was = r.lengths in
          let a = total-set took_len views port v w at in
          let b = total-set pushed_len views port v w at in
          let c = total-append took_len (set views port w) (u ∷ []) in
          let d = total-append pushed_len (set views port w) (u ∷ []) in
          omega arith;
      parts =
          let was = r.parts in
          let a = total-set parts_of views port v w at in
          let c = total-append parts_of (set views port w) (u ∷ []) in
          omega arith;
      idle = λ i z there none_left. ⊎_elim
          (λ t. idle_set views port w (λ none_here. absurd (omega arith)) r.idle i z t none_left)
          (λ t. absurd (let one : u.parts ≡ z.parts = ap (λ (h : Account). h.parts) t in omega arith))
          (behind_gives (set views port w) u z i there);
    }

pub merges : (port : ℕ) (v : Account) (other : ℕ) (w : Account) → 0 < v.parts
    → Merges Shares port v other w (both_of v w) (account 0 [] [])
merges port v other w some_part items views r at apart at' =
    let b : Account = both_of v w in
    let z : Account = account 0 [] [] in record {
      taken = λ x.
          let was = r.taken x in
          let a1 = total-set (took_of x) views port v b at in
          let a2 = total-set (took_of x) (set views port b) other w z at' in
          let b1 = total-set (pushed_of x) views port v b at in
          let b2 = total-set (pushed_of x) (set views port b) other w z at' in
          let c = times-append x v.took w.took in
          let d = times-append x v.pushed w.pushed in
          omega arith;
      lengths =
          let was = r.lengths in
          let a1 = total-set took_len views port v b at in
          let a2 = total-set took_len (set views port b) other w z at' in
          let b1 = total-set pushed_len views port v b at in
          let b2 = total-set pushed_len (set views port b) other w z at' in
          let c = length-append v.took w.took in
          let d = length-append v.pushed w.pushed in
          omega arith;
      parts =
          let was = r.parts in
          let a1 = total-set parts_of views port v b at in
          let a2 = total-set parts_of (set views port b) other w z at' in
          omega arith;
      idle = idle_set (set views port b) other z (λ none_left. (refl, refl))
          (idle_set views port b (λ none_left. absurd (omega arith)) r.idle);
    }
