-- Steps at one place of a list of states or of passes: for the calls of `deal`, and `tried`, `spread` and `bring_back`.
use Rattle.std.proofs.Common.{◌≡◌, ◌≢◌, ℕ, zero, suc, ◌+◌, ◌-◌, ◌<◌, ◌≤◌, List, [], ◌∷◌, ◌++◌, length, get_or, set, refl, ap, sym, ◌∙◌, subst, arith, length-append, length-set, get_or-set_same, Option, Some, None, IfSome, IfNone, Vec, Global}
use mathlib.Core.Logic.{dite}
use native.Mathlib.Decide.{dec_lt, ℕ_discrete}
use Rattle.std.proofs.lemmas.List.{get_or_default, get_or-set_other, get_or_append_left, get_or_push}
use Rattle.crossbeam_deque.specs.Handles.{view, IsPassOf, SameWorker, worker_view, stealer_deque}
use Rattle.task_pool.specs.declared.work.WorkerState.{WorkerState}
use Rattle.task_pool.specs.declared.deque.Account.{Account}
use Rattle.apsp_model.specs.Totals.{total}
use Rattle.task_pool.specs.Lists.{times}
use Rattle.task_pool.specs.Shares.{account, both_of}
use Rattle.task_pool.proofs.Times.{times-snoc}
use Rattle.task_pool.specs.States.{Thief, Passed, IsEmptyPassOf, AreFitting, IsRow, took_in, IsState, AreStates, OwnerAlone, IsFresh, times_some}

pub below : (j n : ℕ) → j < n + 1 → j ≢ n → j < n
below j n low other = dite (dec_lt j n) (λ h. h) (λ not. absurd (other (omega arith)))

pub above : (j n : ℕ) → n ≤ j → j ≢ n → n + 1 ≤ j
above j n high other = dite (dec_lt n j) (λ h. omega arith) (λ not. absurd (other (omega arith)))

module _ {A : Type 0} where
  pub one_of : (l : List A) (i : ℕ) → i < length l → A
  one_of [] i low = absurd (omega arith)
  one_of (x ∷ xs) i low = x

  pub nil_right : (xs : List A) → xs ++ [] ≡ xs
  nil_right [] = refl
  nil_right (x ∷ xs) = ap (λ (l : List A). x ∷ l) (nil_right xs)

  pub set_or : (P : A → Type 0) (l : List A) (i j : ℕ) (v d : A) → j < length l → (j ≡ i → P v)
      → (j ≢ i → P (get_or l j d)) → P (get_or (set l i v) j d)
  set_or P l i j v d low here there = dite (ℕ_discrete j i)
      (λ same. subst P (sym (ap (λ (k : ℕ). get_or (set l i v) k d) same ∙ get_or-set_same l i v d (omega arith)))
      (here same))
      (λ other. subst P (sym (get_or-set_other l i j v d other)) (there other))

  pub total-set_or : (f : A → ℕ) (l : List A) (i : ℕ) (v d : A) → i < length l
      → total f (set l i v) + f (get_or l i d) ≡ total f l + f v
  total-set_or f [] i v d low = absurd (omega arith)
  total-set_or f (x ∷ xs) zero v d low = omega arith
  total-set_or f (x ∷ xs) (suc i) v d low = let r = total-set_or f xs i v d (omega arith) in omega arith

  pub total-equal : (f g : A → ℕ) (xs ys : List A) → length xs ≡ length ys
      → ((j : ℕ) (d : A) → j < length xs → f (get_or xs j d) ≡ g (get_or ys j d)) → total f xs ≡ total g ys
  total-equal f g [] [] len same = refl
  total-equal f g [] (y ∷ ys) len same = absurd (omega arith)
  total-equal f g (x ∷ xs) [] len same = absurd (omega arith)
  total-equal f g (x ∷ xs) (y ∷ ys) len same =
      let a : f x ≡ g y = same 0 x (omega arith) in
      let r = total-equal f g xs ys (omega arith) (λ j d low. same (suc j) d (omega arith)) in
      omega arith

  -- what holds of the entry at a place, of a value that is that entry
  pub at_place : (P : A → Type 0) (l : List A) (i : ℕ) (a d : A) → i < length l → a ≡ get_or l i a → P (get_or l i d)
      → P a
  at_place P l i a d low is p = subst P (get_or_default l i d a low ∙ sym is) p

  -- the total after a change of that entry
  pub total-step : (f : A → ℕ) (l : List A) (i : ℕ) (a v : A) → i < length l → a ≡ get_or l i a
      → total f (set l i v) + f a ≡ total f l + f v
  total-step f l i a v low is =
      let s = total-set_or f l i v a low in let e : f a ≡ f (get_or l i a) = ap f is in omega arith

-- passes
pub fits_push : (ts : List Thief) (ps : List Passed) (p : Passed) → AreFitting ts ps → length ps < length ts
    → ((t : Thief) → IsEmptyPassOf (get_or ts (length ps) t) p) → AreFitting ts (ps ++ p ∷ [])
fits_push ts ps p a room new = record {
  few = let len = length-append ps (p ∷ []) in omega arith;
  each = λ j t d low. dite (dec_lt j (length ps))
      (λ was. subst (IsEmptyPassOf (get_or ts j t)) (sym (get_or_append_left ps (p ∷ []) d j was)) (a.each j t d was))
      (λ not.
      let len = length-append ps (p ∷ []) in
      let is : length ps ≡ j = omega arith in
      subst (λ (z : ℕ × Passed). IsEmptyPassOf (get_or ts z.0 t) z.1) (λ i. (is i, sym (get_or_push ps p d j is) i))
      (new t));
}

pub fits_pop : (ts : List Thief) (ps less : List Passed) (p : Passed) → ps ≡ less ++ p ∷ [] → AreFitting ts ps
    → AreFitting ts less × (length less < length ts) × ((t : Thief) → IsEmptyPassOf (get_or ts (length less) t) p)
fits_pop ts ps less p is a =
    let b : AreFitting ts (less ++ p ∷ []) = subst (AreFitting ts) is a in
    let len = length-append less (p ∷ []) in
    let few = b.few in (
      record {
        few = omega arith;
        each = λ j t d low. subst (IsEmptyPassOf (get_or ts j t)) (get_or_append_left less (p ∷ []) d j low)
            (b.each j t d (omega arith));
      },
      omega arith,
      λ t. subst (IsEmptyPassOf (get_or ts (length less) t)) (get_or_push less p p (length less) refl)
          (b.each (length less) t p (omega arith)),
    )

pub row_set : (ts : List Thief) (ps : List Passed) (i : ℕ) (p : Passed) → IsRow ts ps
    → ((t : Thief) → IsEmptyPassOf (get_or ts i t) p) → IsRow ts (set ps i p)
row_set ts ps i p a new = let len = length-set ps i p in let was = a.0 in (
  omega arith,
  record {
    few = omega arith;
    each = λ j t d low. set_or (IsEmptyPassOf (get_or ts j t)) ps i j p d (omega arith)
        (λ same. subst (λ (k : ℕ). IsEmptyPassOf (get_or ts k t) p) (sym same) (new t))
        (λ other. a.1.each j t d (omega arith));
  },
)

pub fits_new : (ts : List Thief) (i : ℕ) (t : Thief) (p : Passed) (q : _) → q ≡ stealer_deque (get_or ts i t)
    → IsPassOf q p → view p ≡ account 1 [] [] → IsEmptyPassOf (get_or ts i t) p
fits_new ts i t p q is of new =
    (subst (λ z. IsPassOf z p) is of, ap (λ (h : Account). h.parts) new, ap (λ (h : Account). h.pushed) new)

-- what one try leaves of a view
pub kept : (r : Option ℕ) (v w : Account) → IfSome r (λ x. w ≡ account v.parts v.pushed (v.took ++ x ∷ []))
    → IfNone r (w ≡ v) → (w.parts ≡ v.parts) × (w.pushed ≡ v.pushed)
    × ((x : ℕ) → times x w.took ≡ times x v.took + times_some x r)
kept None v w some same = (
  ap (λ (h : Account). h.parts) same,
  ap (λ (h : Account). h.pushed) same,
  λ x. let e
      = ap (λ (h : Account). times x h.took) same in omega arith,
)
kept (Some y) v w some same = (
  ap (λ (h : Account). h.parts) some,
  ap (λ (h : Account). h.pushed) some,
  λ x. let e = ap (λ (h : Account). times x h.took) some in let s = times-snoc x v.took y in omega arith,
)

module _ {T : Type 0} where
  pub state_less : (n : ℕ) (t : Thief) (a b : WorkerState T) → IsState (n + 1) t a → SameWorker a.owner b.owner
      → worker_view b.owner ≡ account ((worker_view a.owner).parts - 1) (worker_view a.owner).pushed
      (worker_view a.owner).took → IsState n t b
  state_less n t a b i s v = let p = ap (λ (h : Account). h.parts) v in let was = i.parts_are in record {
    deque = s.0 ∙ i.deque;
    flavor = s.1 ∙ i.flavor;
    parts_are = omega arith;
  }

  pub state_more : (n : ℕ) (t : Thief) (a b : WorkerState T) (w : Account) → IsState n t a → SameWorker a.owner b.owner
      → w.parts ≡ 1 → worker_view b.owner ≡ both_of (worker_view a.owner) w → IsState (n + 1) t b
  state_more n t a b w i s one v = let p = ap (λ (h : Account). h.parts) v in let was = i.parts_are in record {
    deque = s.0 ∙ i.deque;
    flavor = s.1 ∙ i.flavor;
    parts_are = omega arith;
  }

  pub same_then : (a b c : WorkerState T) → OwnerAlone a b → c.passes ≡ b.passes → c.done ≡ b.done
      → (worker_view c.owner).pushed ≡ (worker_view b.owner).pushed → OwnerAlone a c
  same_then a b c s p d u = record { passes = p ∙ s.passes; done = d ∙ s.done; pushed = u ∙ s.pushed }

  -- the states below a place, and from it on
  pub low_up : (n : ℕ) (ts : List Thief) (ds : List (WorkerState T)) (i : ℕ) (b : WorkerState T) → i < length ds
      → ((j : ℕ) (t : Thief) (d : WorkerState T) → j < i → IsState n (get_or ts j t) (get_or ds j d))
      → ((t : Thief) → IsState n (get_or ts i t) b)
      → (j : ℕ) (t : Thief) (d : WorkerState T) → j < i + 1 → IsState n (get_or ts j t) (get_or (set ds i b) j d)
  low_up n ts ds i b low old new j t d less =
      set_or (IsState n (get_or ts j t)) ds i j b d (omega arith)
      (λ same. subst (λ (k : ℕ). IsState n (get_or ts k t) b) (sym same) (new t))
      (λ other. old j t d (below j i less other))

  pub high_up : (n : ℕ) (ts : List Thief) (ds : List (WorkerState T)) (i : ℕ) (b : WorkerState T)
      → ((j : ℕ) (t : Thief) (d : WorkerState T) → i ≤ j → j < length ds → IsState n (get_or ts j t) (get_or ds j d))
      → (j : ℕ) (t : Thief) (d : WorkerState T) → i + 1 ≤ j → j < length ds
      → IsState n (get_or ts j t) (get_or (set ds i b) j d)
  high_up n ts ds i b old j t d high low =
      set_or (IsState n (get_or ts j t)) ds i j b d low (λ same. absurd (omega arith))
      (λ other. old j t d (omega arith) low)

  pub low_down : (n : ℕ) (ts : List Thief) (ds : List (WorkerState T)) (i : ℕ) (b : WorkerState T) → i < length ds
      → ((j : ℕ) (t : Thief) (d : WorkerState T) → j < i + 1 → IsState n (get_or ts j t) (get_or ds j d))
      → (j : ℕ) (t : Thief) (d : WorkerState T) → j < i → IsState n (get_or ts j t) (get_or (set ds i b) j d)
  low_down n ts ds i b low old j t d less =
      set_or (IsState n (get_or ts j t)) ds i j b d (omega arith) (λ same. absurd (omega arith))
      (λ other. old j t d (omega arith))

  pub high_down : (n : ℕ) (ts : List Thief) (ds : List (WorkerState T)) (i : ℕ) (b : WorkerState T)
      → ((j : ℕ) (t : Thief) (d : WorkerState T) → i + 1 ≤ j → j < length ds
      → IsState n (get_or ts j t) (get_or ds j d)) → ((t : Thief) → IsState n (get_or ts i t) b)
      → (j : ℕ) (t : Thief) (d : WorkerState T) → i ≤ j → j < length ds
      → IsState n (get_or ts j t) (get_or (set ds i b) j d)
  high_down n ts ds i b old new j t d high low =
      set_or (IsState n (get_or ts j t)) ds i j b d low
      (λ same. subst (λ (k : ℕ). IsState n (get_or ts k t) b) (sym same) (new t))
      (λ other. old j t d (above j i high other) low)

  pub same_set : (start ds : List (WorkerState T)) (i : ℕ) (b : WorkerState T)
      → ((j : ℕ) (d : WorkerState T) → j < length ds → OwnerAlone (get_or start j d) (get_or ds j d))
      → ((d : WorkerState T) → i < length ds → OwnerAlone (get_or start i d) b)
      → (j : ℕ) (d : WorkerState T) → j < length ds → OwnerAlone (get_or start j d) (get_or (set ds i b) j d)
  same_set start ds i b old new j d low =
      set_or (OwnerAlone (get_or start j d)) ds i j b d low
      (λ same. subst (λ (k : ℕ). OwnerAlone (get_or start k d) b) (sym same) (new d (omega arith)))
      (λ other. old j d low)

  abbrev pub with_passes : WorkerState T → Vec Passed Global → WorkerState T
  with_passes d ps = record { owner = d.owner; passes = ps; done = d.done; short = d.short }

  pub states_set : (n : ℕ) (ts : List Thief) (ds : List (WorkerState T)) (i : ℕ) (a : WorkerState T)
      (ps : Vec Passed Global) → i < length ds → a ≡ get_or ds i a → AreStates n ts ds
      → AreStates n ts (set ds i (with_passes a ps))
  states_set n ts ds i a ps low is all = let len = length-set ds i (with_passes a ps) in let was = all.len in record {
    len = omega arith;
    each = λ j t d lt. set_or (IsState n (get_or ts j t)) ds i j (with_passes a ps) d (omega arith)
        (λ same. subst (λ (k : ℕ). IsState n (get_or ts k t) (with_passes a ps)) (sym same)
        (let h = at_place (IsState n (get_or ts i t)) ds i a d low is (all.each i t d low) in
        record { deque = h.deque; flavor = h.flavor; parts_are = h.parts_are }))
        (λ other. all.each j t d (omega arith));
  }

  pub states_again : (n m : ℕ) (ts : List Thief) (ds : List (WorkerState T)) → n ≡ m → AreStates n ts ds
      → AreStates m ts ds
  states_again n m ts ds is all = subst (λ (k : ℕ). AreStates k ts ds) is all

  pub fresh_same : (a b : WorkerState T) → IsFresh a → OwnerAlone a b
      → (worker_view b.owner).took ≡ (worker_view a.owner).took → IsFresh b
  fresh_same a b f s t = (
    λ x.
        let z = f.0 x in
        let p = ap (λ (v : Vec Passed Global). took_in x v.items) s.passes in
        let q = ap (times x) t in
        omega arith,
    ap (λ v. v.items) s.done ∙ f.1,
  )

  pub fresh_with : (a : WorkerState T) (ps : Vec Passed Global) → IsFresh a → ((x : ℕ) → took_in x ps.items ≡ 0)
      → IsFresh (with_passes a ps)
  fresh_with a ps f none_taken = (λ x. let z = f.0 x in let n = none_taken x in omega arith, f.1)

module _ {A : Type 0} where
  pub total-plus : (f g : A → ℕ) (l : List A) → total (λ a. f a + g a) l ≡ total f l + total g l
  total-plus f g [] = refl
  total-plus f g (x ∷ xs) = let r = total-plus f g xs in omega arith
