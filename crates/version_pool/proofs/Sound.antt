-- Every event keeps the machine sound, and no number that a reader has seen falls: for `law_pool`.
use Rattle.std.proofs.Common.{◌≡◌, ◌≢◌, ℕ, zero, suc, ◌+◌, ◌<◌, ◌≤◌, ◌⊎◌, inl, inr, ⊎_elim, List, [], ◌∷◌, ◌++◌, length, get_or, set, Some, None, refl, ap, sym, ◌∙◌, subst, arith, length-set, get_or-set_same}
use mathlib.Core.Logic.{dite}
use native.Mathlib.Decide.{ℕ_discrete}
use Rattle.std.specs.Prelude.{slice_get, replicate}
use Rattle.std.proofs.lemmas.List.{get_or-set_other, get_or-replicate, length-replicate}
use Rattle.version_pool.specs.Machine.{Mark, MachinePin, MachineState, Event, Steps, loads, pins, unpins, claims, puts, announces, notes_one, learns, Runs, stays, goes, IsUnpinned, later_of, start, without_at}
use Rattle.version_pool.specs.Soundness.{IsSound, Rises}

module _ {A : Type 0} where
  get_set : (l : List A) (i j : ℕ) (a b : A) → slice_get (set l i a) j ≡ Some b → (a ≡ b) ⊎ (slice_get l j ≡ Some b)
  get_set [] i j a b e = inr e
  get_set (x ∷ xs) zero zero a b e = inl (cc)
  get_set (x ∷ xs) zero (suc j) a b e = inr e
  get_set (x ∷ xs) (suc i) zero a b e = inr e
  get_set (x ∷ xs) (suc i) (suc j) a b e = get_set xs i j a b e

  get_snoc : (l : List A) (a b : A) (j : ℕ) → slice_get (l ++ a ∷ []) j ≡ Some b → (slice_get l j ≡ Some b) ⊎ (a ≡ b)
  get_snoc [] a b zero e = inr (cc)
  get_snoc [] a b (suc j) e = inl e
  get_snoc (x ∷ xs) a b zero e = inl e
  get_snoc (x ∷ xs) a b (suc j) e = get_snoc xs a b j e

  get_remove : (l : List A) (i j : ℕ) (b : A) → slice_get (without_at l i) j ≡ Some b → (k : ℕ)
      × (slice_get l k ≡ Some b)
  get_remove [] i j b e = (j, e)
  get_remove (x ∷ xs) zero j b e = (suc j, e)
  get_remove (x ∷ xs) (suc i) zero b e = (zero, e)
  get_remove (x ∷ xs) (suc i) (suc j) b e = let r = get_remove xs i j b e in (suc r.0, r.1)

pub none_some : {A : Type 0} → (a : A) → None ≡ Some a → ⊥
none_some a e = cc

pub some_same : {A : Type 0} → (a b : A) → Some a ≡ Some b → a ≡ b
some_same a b e = cc

later_below : (a b : Mark) (n : ℕ) → a.number ≤ n → b.number ≤ n → (later_of a b).number ≤ n
later_below a b n one two = grind arith

pub kept : (s : MachineState) (e : Event) (t : MachineState) → Steps s e t → IsSound s → IsSound t
kept _ _ _ (loads s r low) h = record {
  room = h.room;
  claimed = h.claimed;
  pinned = h.pinned;
  announced = h.announced;
  ready = h.ready;
  contents = h.contents;
  seen = λ q m at. ⊎_elim (λ is. let n = ap (λ (k : Mark). k.number) is in omega arith) (λ old. h.seen q m old)
      (get_set s.seen r q s.announced m at);
  notes = h.notes;
}
kept _ _ _ (pins s r m at free low) h = record {
  room = h.room;
  claimed = λ slot is. let c = h.claimed slot is in (
    c.0,
    (λ i p there. ⊎_elim
        (λ old. c.1 i p old)
        (λ new. λ same. let slots = ap (λ (q : MachinePin). q.slot) new in
        free (is ∙ ap (λ (n : ℕ). Some n) (sym same ∙ sym slots)))
        (get_snoc s.pins _ p i there)),
    c.2,
    c.3,
  );
  pinned = λ i p there. ⊎_elim
      (λ old. h.pinned i p old)
      (λ new. subst (λ (q : MachinePin). (q.slot < length s.contents) × (q.number ≡ get_or s.contents q.slot 0)) new
      (low, refl))
      (get_snoc s.pins _ p i there);
  announced = h.announced;
  ready = h.ready;
  contents = h.contents;
  seen = h.seen;
  notes = h.notes;
}
kept _ _ _ (unpins s i low) h = record {
  room = h.room;
  claimed =
      λ slot is. let c = h.claimed slot is in
      (c.0, (λ j p there. let o = get_remove s.pins i j p there in c.1 o.0 p o.1), c.2, c.3);
  pinned = λ j p there. let o = get_remove s.pins i j p there in h.pinned o.0 p o.1;
  announced = h.announced;
  ready = h.ready;
  contents = h.contents;
  seen = h.seen;
  notes = h.notes;
}
kept _ _ _ (claims s slot low none_claimed none_ready free apart) h = record {
  room = h.room;
  claimed =
      λ k is. let same : slot ≡ k = cc in
      subst (λ (n : ℕ). (n < length s.contents) × IsUnpinned s n × (n ≢ s.announced.slot) × (s.ready ≡ None)) same
      (low, free, apart, none_ready);
  pinned = h.pinned;
  announced = h.announced;
  ready = h.ready;
  contents = h.contents;
  seen = h.seen;
  notes = h.notes;
}
kept _ _ _ (puts s slot is) h =
    let c = h.claimed slot is in
    let low : slot < length s.contents = c.0 in
    let n : ℕ = s.announced.number + 1 in
    let len = length-set s.contents slot n in
    let here : get_or (set s.contents slot n) slot 0 ≡ n = get_or-set_same s.contents slot n 0 low in record {
      room = let r = h.room in omega arith;
      claimed = λ k bad. absurd (none_some k bad);
      pinned = λ i p there. let o =
          h.pinned i p there in let low_p = o.0 in
          (omega arith, o.1 ∙ sym (get_or-set_other s.contents slot p.slot n 0 (c.1 i p there)));
      announced = get_or-set_other s.contents slot s.announced.slot n 0 (λ e. c.2 (sym e)) ∙ h.announced;
      ready = λ m e. let same : record { number = n; slot = slot } ≡ m = some_same _ m e in
          subst (λ (q : Mark). (q.slot < length (set s.contents slot n)) × (q.number ≡ s.announced.number + 1)
          × (get_or (set s.contents slot n) q.slot 0 ≡ q.number) × (q.slot ≢ s.announced.slot)) same
          (omega arith, refl, here, c.2);
      contents = λ k low_k. dite (ℕ_discrete k slot)
          (λ same. inr (λ i. Some (record {
            number = (sym here ∙ ap (λ (j : ℕ). get_or (set s.contents slot n) j 0) (sym same)) i;
            slot = sym same i;
          })))
          (λ other.
          let e = get_or-set_other s.contents slot k n 0 other in
          ⊎_elim (λ le. inl (omega arith)) (λ bad. absurd (none_some _ (sym c.3 ∙ bad))) (h.contents k (omega arith)));
      seen = h.seen;
      notes = h.notes;
    }
kept _ _ _ (announces s m is) h =
    let r = h.ready m is in
    let next : m.number ≡ s.announced.number + 1 = r.1 in record {
      room = r.0;
      claimed = λ slot c. absurd (none_some m (sym (h.claimed slot c).3 ∙ is));
      pinned = h.pinned;
      announced = r.2;
      ready = λ k bad. absurd (none_some k bad);
      contents =
          λ k low. ⊎_elim (λ le. inl (omega arith))
          (λ e. let same = some_same _ m (sym e ∙ is) in let n = ap (λ (q : Mark). q.number) same in inl (omega arith))
          (h.contents k low);
      seen = λ q k at. let le = h.seen q k at in omega arith;
      notes = λ i k at. let le = h.notes i k at in omega arith;
    }
kept _ _ _ (notes_one s) h = record {
  room = h.room;
  claimed = h.claimed;
  pinned = h.pinned;
  announced = h.announced;
  ready = h.ready;
  contents = h.contents;
  seen = h.seen;
  notes = λ i m there. ⊎_elim (λ old. h.notes i m old) (λ new. let n = ap (λ (k : Mark). k.number) new in omega arith)
      (get_snoc s.notes s.announced m i there);
}
kept _ _ _ (learns s i r m k there seen) h = record {
  room = h.room;
  claimed = h.claimed;
  pinned = h.pinned;
  announced = h.announced;
  ready = h.ready;
  contents = h.contents;
  seen = λ q x at. ⊎_elim (λ is. let n = ap (λ (z : Mark). z.number) is in
      let l = later_below k m s.announced.number (h.seen r k seen) (h.notes i m there) in omega arith)
      (λ old. h.seen q x old) (get_set s.seen r q (later_of k m) x at);
  notes = λ j x at. let o = get_remove s.notes i j x at in h.notes o.0 x o.1;
}

pub kept_all : (s : MachineState) (es : List Event) (t : MachineState) → Runs s es t → IsSound s → IsSound t
kept_all _ _ _ (stays s) h = h
kept_all _ _ _ (goes s t u e es step rest) h = kept_all t es u rest (kept s e t step h)

pub get_replicate : {A : Type 0} (n i : ℕ) (a b : A) → slice_get (replicate n a) i ≡ Some b → a ≡ b
get_replicate zero i a b e = absurd (none_some b e)
get_replicate (suc n) zero a b e = some_same a b e
get_replicate (suc n) (suc i) a b e = get_replicate n i a b e

pub starts : (lo slots readers : ℕ) → 2 ≤ slots → IsSound (start lo slots readers)
starts lo slots readers two =
    let len = length-replicate slots lo in record {
      room = omega arith;
      claimed = λ k bad. absurd (none_some k bad);
      pinned = λ i p bad. absurd (none_some p bad);
      announced = get_or-replicate slots 0 lo 0 (omega arith);
      ready = λ k bad. absurd (none_some k bad);
      contents = λ k low. let e = get_or-replicate slots k lo 0 (omega arith) in inl (omega arith);
      seen = λ r m at. let n = ap (λ (k : Mark). k.number) (get_replicate readers r _ m at) in omega arith;
      notes = λ i m bad. absurd (none_some m bad);
    }

pub law_sound : (lo slots readers : ℕ) (events : List Event) (s : MachineState) → 2 ≤ slots
    → Runs (start lo slots readers) events s → IsSound s
law_sound lo slots readers events s two runs =
    kept_all (start lo slots readers) events s runs (starts lo slots readers two)

get_here : {A : Type 0} (l : List A) (i : ℕ) (a : A) → i < length l → slice_get (set l i a) i ≡ Some a
get_here [] i a low = absurd (omega arith)
get_here (x ∷ xs) zero a low = refl
get_here (x ∷ xs) (suc i) a low = get_here xs i a (omega arith)

get_else : {A : Type 0} (l : List A) (i j : ℕ) (a : A) → j ≢ i → slice_get (set l i a) j ≡ slice_get l j
get_else [] i j a n = refl
get_else (x ∷ xs) zero zero a n = absurd (n refl)
get_else (x ∷ xs) zero (suc j) a n = refl
get_else (x ∷ xs) (suc i) zero a n = refl
get_else (x ∷ xs) (suc i) (suc j) a n = get_else xs i j a (λ e. n (ap suc e))

pub get_low : {A : Type 0} (l : List A) (i : ℕ) (a : A) → slice_get l i ≡ Some a → i < length l
get_low [] i a e = absurd (none_some a e)
get_low (x ∷ xs) zero a e = omega arith
get_low (x ∷ xs) (suc i) a e = let r = get_low xs i a e in omega arith

later_above : (a b : Mark) → a.number ≤ (later_of a b).number
later_above a b = grind arith

-- a reader whose mark becomes one with a number that is no less
raised : (seen : List Mark) (r : ℕ) (k new : Mark) → slice_get seen r ≡ Some k → k.number ≤ new.number
    → (q : ℕ) (m : Mark) → slice_get seen q ≡ Some m → (x : Mark) × (slice_get (set seen r new) q ≡ Some x)
    × (m.number ≤ x.number)
raised seen r k new is up q m at = dite (ℕ_discrete q r)
    (λ same.
    let here : slice_get (set seen r new) q ≡ Some new =
    ap (λ (j : ℕ). slice_get (set seen r new) j) same ∙ get_here seen r new (get_low seen r k is) in
    let one : k ≡ m = some_same k m (sym is ∙ (ap (λ (j : ℕ). slice_get seen j) (sym same) ∙ at)) in
    let n = ap (λ (z : Mark). z.number) one in
    (new, here, omega arith))
    (λ other. (m, get_else seen r q new other ∙ at, omega arith))

pub rises : (s : MachineState) (e : Event) (t : MachineState) → Steps s e t → IsSound s → Rises s t
rises _ _ _ (loads s r low) h = record {
  announced = omega arith;
  seen = λ q m at. dite (ℕ_discrete q r)
      (λ same. let le = h.seen q m at in (
        s.announced,
        ap (λ (j : ℕ). slice_get (set s.seen r s.announced) j) same
            ∙ get_here s.seen r s.announced low,
        le,
      ))
      (λ other. (m, get_else s.seen r q s.announced other ∙ at, omega arith));
}
rises _ _ _ (pins s r m at free low) h = record { announced = omega arith; seen = λ q k there. (k, there, omega arith) }
rises _ _ _ (unpins s i low) h = record { announced = omega arith; seen = λ q k there. (k, there, omega arith) }
rises _ _ _ (claims s slot low a b c d) h =
    record { announced = omega arith; seen = λ q k there. (k, there, omega arith) }
rises _ _ _ (puts s slot is) h = record { announced = omega arith; seen = λ q k there. (k, there, omega arith) }
rises _ _ _ (announces s m is) h =
    record { announced = (let n = (h.ready m is).1 in omega arith); seen = λ q k there. (k, there, omega arith) }
rises _ _ _ (notes_one s) h = record { announced = omega arith; seen = λ q k there. (k, there, omega arith) }
rises _ _ _ (learns s i r m k there seen) h =
    record { announced = omega arith; seen = raised s.seen r k (later_of k m) seen (later_above k m) }

rises_on : (s t u : MachineState) → Rises s t → Rises t u → Rises s u
rises_on s t u one two = record {
  announced = let a = one.announced in let b = two.announced in omega arith;
  seen = λ r m at. let x =
      one.seen r m at in let y = two.seen r x.0 x.1 in let a = x.2 in let b = y.2 in (y.0, y.1, omega arith);
}

pub rises_all : (s : MachineState) (es : List Event) (t : MachineState) → Runs s es t → IsSound s → Rises s t
rises_all _ _ _ (stays s) h = record { announced = omega arith; seen = λ r m at. (m, at, omega arith) }
rises_all _ _ _ (goes s t u e es step rest) h =
    rises_on s t u (rises s e t step h) (rises_all t es u rest (kept s e t step h))

pub law_rises : (lo slots readers : ℕ) (first later : List Event) (s t : MachineState) → 2 ≤ slots
    → Runs (start lo slots readers) first s → Runs s later t → Rises s t
law_rises lo slots readers first later s t two one rest =
    rises_all s later t rest (law_sound lo slots readers first s two one)
