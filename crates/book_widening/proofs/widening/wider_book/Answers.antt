use Rattle.std.proofs.Common.{◌≡◌, ◌+◌, ◌-◌, ◌≤◌, ◌⊎◌, ◌↔◌, ℕ, List, IsSome, Contains, sym, subst, ◌∙◌, arith}
use Rattle.apsp_model.specs.Walk.{IsOnceEach}
use Rattle.path_book.specs.Book.{Book, kept_paths}
use Rattle.book_widening.specs.Widened.{IsWidenedTo}
use Rattle.book_widening.specs.Copies.{copy_at, IsLevel, AreCopied}
use Rattle.book_widening.proofs.Copying.{have_sums}
use Rattle.book_widening.proofs.Longer.{level_ready, level_copied, all_widened, all_copied, none_pending}
use Rattle.book_widening.proofs.widening.wider_book.Goals as goal

pub copy_all-requires-clause-sums : goal.copy_all-requires-clause-sums
copy_all-requires-clause-sums c =
    have_sums c.args.graph.now c.args.book.now c.show_lawful.ensures c.requires.walks c.requires.weights

pub copy_all-requires-clause-ready : goal.copy_all-requires-clause-ready
copy_all-requires-clause-ready c =
    let l : IsLevel c.args.book.now (c.levels.counter - 1 + 1) c.in_ok-longer.longer.items =
    c.in_ok-longer.ensures (c.levels.counter - 1)
    (subst (IsLevel c.args.book.now (c.levels.counter - 1)) (sym c.deref.ensures.value) c.levels.invariant.0) in
    λ id m. level_ready c.args.book.now c.show_lawful.ensures (c.levels.counter - 1) c.levels.copies.items
    c.in_ok-longer.longer.items c.levels.invariant.2 l id
    (subst (λ xs. Contains xs id) c.deref-in-levels.ensures.value m)

pub copy_all-requires-clause-once : goal.copy_all-requires-clause-once
copy_all-requires-clause-once c =
    let l : IsLevel c.args.book.now (c.levels.counter - 1 + 1) c.in_ok-longer.longer.items =
    c.in_ok-longer.ensures (c.levels.counter - 1)
    (subst (IsLevel c.args.book.now (c.levels.counter - 1)) (sym c.deref.ensures.value) c.levels.invariant.0) in
    subst IsOnceEach (sym c.deref-in-levels.ensures.value) l.once

pub levels-preserved : goal.levels-preserved
levels-preserved c =
    let l : IsLevel c.args.book.now (c.levels.counter - 1 + 1) c.in_ok-longer.longer.items =
    c.in_ok-longer.ensures (c.levels.counter - 1)
    (subst (IsLevel c.args.book.now (c.levels.counter - 1)) (sym c.deref.ensures.value) c.levels.invariant.0) in
    let some : 1 ≤ c.levels.counter = c.levels.invariant.4 in
    let next : c.levels.counter - 1 + 1 ≡ c.levels.counter + 1 - 1 = omega (arith, some) in (
      subst (λ k. IsLevel c.args.book.now k c.in_ok-longer.longer.items) next l,
      c.in_ok-copy_all.ensures.copies,
      subst (λ k. AreCopied c.args.book.now k c.copy_all.new.copies.items) next
          (level_copied c.args.book.now c.show_lawful.ensures (c.levels.counter - 1) c.levels.copies.items
          c.in_ok-longer.longer.items c.levels.invariant.2 l c.copy_all.new.copies.items
          (λ o. subst (λ (xs : List ℕ). IsSome (copy_at c.copy_all.new.copies.items o) ↔
          (IsSome (copy_at c.levels.copies.items o) ⊎ Contains xs o)) c.deref-in-levels.ensures.value
          (c.in_ok-copy_all.ensures.copied o))),
      c.in_ok-copy_all.ensures.vertices ∙ c.levels.invariant.3,
      omega arith,
    )

pub note_clean-requires : goal.note_clean-requires
note_clean-requires c =
    let end : c.vertices-end.result ≡ c.args.graph.now.vertices = c.vertices-end.ensures.vertices in
    record {
      clean = none_pending c.args.graph.now c.args.book.now c.levels.wide c.levels.copies.items c.levels.invariant.1
          (all_copied c.args.book.now c.levels.copies.items (c.levels.counter - 1) c.show_lawful.ensures
          c.levels.invariant.2 (omega (arith, end, c.requires.size, c.levels-test.false)))
          c.requires.walks c.requires.weights c.requires.leasts;
    }

pub returns-clause-widened : goal.returns-clause-widened
returns-clause-widened c =
    let end : c.vertices-end.result ≡ c.args.graph.now.vertices = c.vertices-end.ensures.vertices in
    let widened : IsWidenedTo c.args.n (kept_paths c.args.book.now) (kept_paths c.levels.wide) =
    all_widened c.args.book.now c.levels.wide c.levels.copies.items (c.levels.counter - 1) c.args.n
    c.levels.invariant.1 c.levels.invariant.2
    (omega (arith, end, c.requires.size, c.levels-test.false)) c.levels.invariant.3 in
    subst (λ (w : Book). IsWidenedTo c.args.n (kept_paths c.args.book.now) (kept_paths w))
    (sym c.note_clean.ensures.same) widened
