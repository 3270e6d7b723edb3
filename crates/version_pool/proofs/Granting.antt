-- A granted pin: its number was announced by then, and is neither below what its reader had seen nor
-- above what it sees from then on. For `law_pool`.
use Rattle.std.proofs.Common.{◌≡◌, ℕ, zero, suc, ◌+◌, ◌<◌, ◌≤◌, true, List, [], ◌∷◌, ◌++◌, length, get_or, Some, refl, ap, sym, ◌∙◌, subst, arith, length-set}
use mathlib.Core.Logic.{dite}
use native.Mathlib.Decide.{ℕ_discrete}
use Rattle.std.specs.Prelude.{slice_get, nat_eq}
use Rattle.std.proofs.lemmas.Bool.Decides.{nat_tests}
use Rattle.version_pool.specs.Machine.{Mark, MachinePin, MachineState, Event, Steps, loads, pins, unpins, claims, puts, announces, notes_one, learns, Runs, stays, goes, start, load, pin, unpin, claim, put, announce, note, learn, pin_of}
use Rattle.version_pool.specs.Soundness.{IsSound, WasAnnounced, IsGranted}
use Rattle.version_pool.proofs.Sound.{kept, kept_all, starts, rises, rises_all, some_same, get_low, get_replicate}

-- an event announces at most the next number
next_number : (s : MachineState) (e : Event) (t : MachineState) → Steps s e t → IsSound s
    → t.announced.number ≤ s.announced.number + 1
next_number _ _ _ (loads s r low) h = omega arith
next_number _ _ _ (pins s r m at free low) h = omega arith
next_number _ _ _ (unpins s i low) h = omega arith
next_number _ _ _ (claims s slot low a b c d) h = omega arith
next_number _ _ _ (puts s slot is) h = omega arith
next_number _ _ _ (announces s m is) h = let n = (h.ready m is).1 in omega arith
next_number _ _ _ (notes_one s) h = omega arith
next_number _ _ _ (learns s i r m k there seen) h = omega arith

-- every number from the first that was announced to the last was announced on the way
pub on_the_way : (a : MachineState) (es : List Event) (s : MachineState) (n : ℕ) → Runs a es s → IsSound a
    → a.announced.number ≤ n → n ≤ s.announced.number → WasAnnounced a es n
on_the_way _ _ _ n (stays s) h low high = ([], [], s, refl, stays s, omega arith)
on_the_way _ _ _ n (goes a t s e es step rest) h low high =
    let up = next_number a e t step h in
    dite (ℕ_discrete a.announced.number n)
    (λ here. ([], e ∷ es, a, refl, stays a, here))
    (λ other. let w = on_the_way t es s n rest (kept a e t step h) (omega arith) high in
    (e ∷ w.0, w.1, w.2, ap (λ (l : List Event). e ∷ l) w.3, goes a t w.2 e w.0 step w.4, w.5))

-- no event changes how many readers there are
as_many_readers : (s : MachineState) (e : Event) (t : MachineState) → Steps s e t → length t.seen ≡ length s.seen
as_many_readers _ _ _ (loads s r low) = length-set s.seen r s.announced
as_many_readers _ _ _ (pins s r m at free low) = refl
as_many_readers _ _ _ (unpins s i low) = refl
as_many_readers _ _ _ (claims s slot low a b c d) = refl
as_many_readers _ _ _ (puts s slot is) = refl
as_many_readers _ _ _ (announces s m is) = refl
as_many_readers _ _ _ (notes_one s) = refl
as_many_readers _ _ _ (learns s i r m k there seen) = length-set s.seen r _

as_many_readers_all : (s : MachineState) (es : List Event) (t : MachineState) → Runs s es t
    → length t.seen ≡ length s.seen
as_many_readers_all _ _ _ (stays s) = refl
as_many_readers_all _ _ _ (goes s t u e es step rest) = as_many_readers_all t es u rest ∙ as_many_readers s e t step

-- where there are so many readers, each of these has a mark
mark_at : {A : Type 0} (l : List A) (i : ℕ) → i < length l → (a : A) × (slice_get l i ≡ Some a)
mark_at [] i low = absurd (omega arith)
mark_at (x ∷ xs) zero low = (x, refl)
mark_at (x ∷ xs) (suc i) low = mark_at xs i (omega arith)

-- no reader has seen a number below the first
not_below_first : (lo slots readers : ℕ) (es : List Event) (s : MachineState) (r : ℕ) (m : Mark) → 2 ≤ slots
    → Runs (start lo slots readers) es s → slice_get s.seen r ≡ Some m → lo ≤ m.number
not_below_first lo slots readers es s r m two runs at =
    let a = start lo slots readers in
    let low = get_low s.seen r m at in
    let many = as_many_readers_all a es s runs in
    let first = mark_at a.seen r (omega arith) in
    let lo_mark = ap (λ (k : Mark). k.number) (get_replicate readers r _ first.0 first.1) in
    let up = (rises_all a es s runs (starts lo slots readers two)).seen r first.0 first.1 in
    let same = ap (λ (k : Mark). k.number) (some_same up.0 m (sym up.1 ∙ at)) in
    let le = up.2 in
    omega arith

-- of a pin on the mark m whose number is the slot's content
module _ (a s t u : MachineState) (r : ℕ) (m : Mark) (first later : List Event) where
  granted_at : IsSound a → Runs a first s → Steps s (pin r) t → Runs t later u → slice_get s.seen r ≡ Some m
      → a.announced.number ≤ m.number → IsGranted a first s r m.number u
  granted_at h one step two seen from =
      let hs = kept_all a first s one h in
      let ht = kept s (pin r) t step hs in
      let le = hs.seen r m seen in
      let x = (rises s (pin r) t step hs).seen r m seen in
      let y = (rises_all t later u two ht).seen r x.0 x.1 in
      let p = x.2 in
      let q = y.2 in record {
        announced = on_the_way a first s m.number one h from le;
        not_older = λ xs ys v k before after at.
            let hv = kept_all a xs v before h in
            let z = (rises_all v ys s after hv).seen r k at in
            let w = ap (λ (o : Mark). o.number) (some_same z.0 m (sym z.1 ∙ seen)) in
            let up = z.2 in
            omega arith;
        seen = (y.0, y.1, omega arith);
      }

last_of : {A : Type 0} (l : List A) (a b : A) → slice_get (l ++ a ∷ []) (length l) ≡ Some b → a ≡ b
last_of [] a b e = some_same a b e
last_of (x ∷ xs) a b e = last_of xs a b e

-- equal numbers by the test are equal
same_number : (a b : ℕ) → nat_eq a b ≡ true → a ≡ b
same_number a b e = grind (arith, nat_tests)

-- a pin that was granted has the number of its reader's mark
granted_by : (a s t u : MachineState) (r : ℕ) (e : Event) (p : MachinePin) (first later : List Event) → IsSound a
    → e ≡ pin r → ((m : Mark) → slice_get s.seen r ≡ Some m → a.announced.number ≤ m.number) → Runs a first s
    → Steps s e t → Runs t later u → slice_get t.pins (length s.pins) ≡ Some p → p.granted ≡ true
    → IsGranted a first s r p.number u
granted_by a _ _ u r _ p first later h is from one (pins s q m at free low) two there granted =
    let new : pin_of s q m ≡ p = last_of s.pins (pin_of s q m) p there in
    let yes = ap (λ (k : MachinePin). k.granted) new ∙ granted in
    let number = sym (same_number (get_or s.contents m.slot 0) m.number yes) ∙ ap (λ (k : MachinePin). k.number) new in
    let reader : q ≡ r = cc in
    let seen = ap (λ (j : ℕ). slice_get s.seen j) (sym reader) ∙ at in
    let got = granted_at a s _ u q m first later h one (pins s q m at free low) two at (from m seen) in
    subst (λ (n : ℕ). IsGranted a first s r n u) number (subst (λ (j : ℕ). IsGranted a first s j m.number u) reader got)
granted_by a _ _ u r _ p first later h is from one (loads s q low) two there granted = absurd (is_no_pin is)
  where
    is_no_pin : load q ≡ pin r → ⊥
    is_no_pin e = cc
granted_by a _ _ u r _ p first later h is from one (unpins s i low) two there granted = absurd (is_no_pin is)
  where
    is_no_pin : unpin i ≡ pin r → ⊥
    is_no_pin e = cc
granted_by a _ _ u r _ p first later h is from one (claims s slot low b c d g) two there granted = absurd (is_no_pin is)
  where
    is_no_pin : claim slot ≡ pin r → ⊥
    is_no_pin e = cc
granted_by a _ _ u r _ p first later h is from one (puts s slot c) two there granted = absurd (is_no_pin is)
  where
    is_no_pin : put ≡ pin r → ⊥
    is_no_pin e = cc
granted_by a _ _ u r _ p first later h is from one (announces s m c) two there granted = absurd (is_no_pin is)
  where
    is_no_pin : announce ≡ pin r → ⊥
    is_no_pin e = cc
granted_by a _ _ u r _ p first later h is from one (notes_one s) two there granted = absurd (is_no_pin is)
  where
    is_no_pin : note ≡ pin r → ⊥
    is_no_pin e = cc
granted_by a _ _ u r _ p first later h is from one (learns s i q m k b c) two there granted = absurd (is_no_pin is)
  where
    is_no_pin : learn i q ≡ pin r → ⊥
    is_no_pin e = cc

pub law_granted : (lo slots readers r : ℕ) (first later : List Event) (s t u : MachineState) (p : MachinePin)
    → 2 ≤ slots → Runs (start lo slots readers) first s → Steps s (pin r) t → Runs t later u
    → slice_get t.pins (length s.pins) ≡ Some p → p.granted ≡ true
    → IsGranted (start lo slots readers) first s r p.number u
law_granted lo slots readers r first later s t u p many one step two there granted =
    granted_by (start lo slots readers) s t u r (pin r) p first later (starts lo slots readers many) refl
    (λ m at. not_below_first lo slots readers first s r m many one at) one step two there granted
