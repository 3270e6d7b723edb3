-- How often a task stands in a list: for `answer`, `gathered`, `bring_back` and `states`.
use Rattle.std.proofs.Common.{◌≡◌, ◌≢◌, ℕ, zero, suc, ◌+◌, ◌<◌, List, [], ◌∷◌, ◌++◌, refl, ap, arith}
use Rattle.task_pool.specs.declared.work.Done.{Done}
use Rattle.task_pool.specs.Lists.{times, is_at, once_below, from_on}
use Rattle.task_pool.specs.States.{tasks_of}

pub is_at-self : (x : ℕ) → is_at x x ≡ 1
is_at-self x = grind arith

pub is_at-apart : (x y : ℕ) → x ≢ y → is_at x y ≡ 0
is_at-apart x y apart = grind arith

pub once-next : (x n : ℕ) → once_below x (n + 1) ≡ once_below x n + is_at x n
once-next x n = grind arith

pub once-low : (x n : ℕ) → x < n → once_below x n ≡ 1
once-low x n low = grind arith

pub once-none : (x : ℕ) → once_below x 0 ≡ 0
once-none x = grind arith

-- the numbers of a range, each once
pub times-range : (x a n : ℕ) → times x (from_on a n) + once_below x a ≡ once_below x (a + n)
times-range x a zero =
    let e : a + 0 ≡ a = omega arith in let f : once_below x (a + 0) ≡ once_below x a = ap (once_below x) e in
    omega arith
times-range x a (suc n) =
    let e : a + suc n ≡ a + 1 + n = omega arith in
    let f : once_below x (a + suc n) ≡ once_below x (a + 1 + n) = ap (once_below x) e in
    let more = times-range x (a + 1) n in let one = once-next x a in omega arith

module _ {T : Type 0} where
  pub tasks_of-snoc : (ds : List (Done T)) (d : Done T) → tasks_of (ds ++ d ∷ []) ≡ tasks_of ds ++ d.task ∷ []
  tasks_of-snoc [] d = refl
  tasks_of-snoc (x ∷ xs) d = ap (λ (l : List ℕ). x.task ∷ l) (tasks_of-snoc xs d)

  pub tasks_of-append : (ds es : List (Done T)) → tasks_of (ds ++ es) ≡ tasks_of ds ++ tasks_of es
  tasks_of-append [] es = refl
  tasks_of-append (x ∷ xs) es = ap (λ (l : List ℕ). x.task ∷ l) (tasks_of-append xs es)
