use Rattle.std.proofs.Common.{ℕ, zero, suc, ◌<◌, All, take, [], ◌∷◌, get_or, slice_index_or, sym, subst, arith}
use Rattle.std.proofs.lemmas.List.{take_all, take_more}
use Rattle.std.proofs.lemmas.List.Elements.{All-append}
use Rattle.engine_runs.proofs.rows.birth.Goals as goal

-- one number below n
one : (x n : ℕ) → x < n → All (λ v. v < n) (x ∷ [])
one x n less zero d inside = less
one x n less (suc k) d inside = absurd (let no : ⊥ = omega (arith, inside) in no)

pub list-preserved : goal.list-preserved
list-preserved c =
    let x : ℕ = get_or c.args.list.now c.list.v-index 0 in
    subst (All (λ v. v < c.vertices-n.result)) (sym (take_more c.args.list.now c.list.v-index 0 c.list-test.true))
    (All-append (λ v. v < c.vertices-n.result) (take c.list.v-index c.args.list.now) (x ∷ []) c.list.invariant
    (one x c.vertices-n.result (omega (arith, c.if-v-n.false))))

pub birth-requires-clause-inside : goal.birth-requires-clause-inside
birth-requires-clause-inside c =
    let inside : All (λ v. v < c.vertices-n.result) c.args.list.now =
    subst (All (λ v. v < c.vertices-n.result))
    (take_all c.list.v-index c.args.list.now (omega (arith, c.list-test.false))) c.list.invariant in
    λ k d l. subst (λ n. slice_index_or c.args.list.now k d < n) c.vertices-n.ensures.vertices (inside k d l)
