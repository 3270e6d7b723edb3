use Rattle.std.proofs.Common.{◌≡◌, ℕ, ◌-◌, ◌<◌, ◌≤◌, ap, sym, ◌∙◌, subst, refl, arith, length, get_or, drop, take, ◌++◌, [], ◌∷◌, List, zero, suc}
use Rattle.task_pool.specs.declared.work.WorkerState.{WorkerState}
use Rattle.task_pool.specs.Shares.{ALL_PARTS}
use Rattle.apsp_model.specs.Totals.{total}
use Rattle.task_pool.specs.Lists.{times}
use Rattle.task_pool.specs.States.{Thief, AreStates, SameOwner, pushed_at}
use Rattle.task_pool.proofs.Places.{nil_right, total-equal}
use Rattle.task_pool.proofs.gather.spread_all.Goals as goal

drop_none : {A : Type 0} (ys : List A) (n : ℕ) → length ys ≤ n → drop n ys ≡ []
drop_none [] zero few = refl
drop_none [] (suc n) few = refl
drop_none (y ∷ ys) zero few = absurd (omega arith)
drop_none (y ∷ ys) (suc n) few = drop_none ys n (omega arith)

whole : {A : Type 0} (xs ys : List A) → length xs ≡ length ys → xs ++ drop (length xs) ys ≡ xs
whole xs ys len = ap (λ l. xs ++ l) (drop_none ys (length xs) (omega arith)) ∙ nil_right xs

owned : {T : Type 0} (n : ℕ) (ts : List Thief) (xs ys : List (WorkerState T)) → length xs ≡ length ys
    → ((j : ℕ) (d : WorkerState T) → j < length ys → SameOwner (get_or ys j d) (get_or xs j d)) → AreStates n ts ys
    → AreStates n ts xs
owned n ts xs ys len same all = let was = all.len in record {
  len = omega arith;
  each = λ j t d low. let s =
      same j d (omega arith) in let i = all.each j t d (omega arith) in
      record { deque = s.deque ∙ i.deque; flavor = s.flavor ∙ i.flavor; parts_are = s.parts ∙ i.parts_are };
}

take_whole : {A : Type 0} (n : ℕ) (xs : List A) → length xs ≤ n → take n xs ≡ xs
take_whole zero [] few = refl
take_whole (suc n) [] few = refl
take_whole zero (x ∷ xs) few = absurd (omega arith)
take_whole (suc n) (x ∷ xs) few = ap (λ l. x ∷ l) (take_whole n xs (omega arith))

fin_is : {A : Type 0} (n : ℕ) (xs ys : List A) → n ≡ length ys → length xs ≡ length ys
    → take n (xs ++ drop (length xs) ys) ≡ xs
fin_is n xs ys one two = ap (take n) (whole xs ys two) ∙ take_whole n xs (omega arith)

pub returns-clause-states : goal.returns-clause-states
returns-clause-states g c =
    let xs : List (WorkerState g.row.J-Out.Denot) = c.spread.new.states in
    let ys : List (WorkerState g.row.J-Out.Denot) = c.args.states.now.items in
    let zs : List (WorkerState g.row.J-Out.Denot) = c.as_mut_slice.result.now in
    let v : zs ≡ ys = c.as_mut_slice.ensures.value in
    let l : length xs ≡ length zs = c.spread.auto.states in
    let len : length xs ≡ length ys = l ∙ ap length v in
    let same =
    subst (λ (z : List (WorkerState g.row.J-Out.Denot)). (j : ℕ) (d : WorkerState g.row.J-Out.Denot) → j < length z
    → SameOwner (get_or z j d) (get_or xs j d)) v c.spread.ensures.own in
    subst (AreStates (ALL_PARTS - length c.args.thieves.now) c.args.thieves.now)
    (sym (fin_is c.args.states.now.len xs ys c.args.states.now.ok.0 len))
    (owned (ALL_PARTS - length c.args.thieves.now) c.args.thieves.now xs ys len same c.requires.states)

pub returns-clause-pushed : goal.returns-clause-pushed
returns-clause-pushed g c x =
    let xs : List (WorkerState g.row.J-Out.Denot) = c.spread.new.states in
    let ys : List (WorkerState g.row.J-Out.Denot) = c.args.states.now.items in
    let zs : List (WorkerState g.row.J-Out.Denot) = c.as_mut_slice.result.now in
    let v : zs ≡ ys = c.as_mut_slice.ensures.value in
    let l : length xs ≡ length zs = c.spread.auto.states in
    let len : length xs ≡ length ys = l ∙ ap length v in
    let same =
    subst (λ (z : List (WorkerState g.row.J-Out.Denot)). (j : ℕ) (d : WorkerState g.row.J-Out.Denot) → j < length z
    → SameOwner (get_or z j d) (get_or xs j d)) v c.spread.ensures.own in
    ap (total (pushed_at x)) (fin_is c.args.states.now.len xs ys c.args.states.now.ok.0 len)
    ∙ total-equal (pushed_at x) (pushed_at x) xs ys len (λ j d low. ap (times x) (same j d (omega arith)).pushed)
