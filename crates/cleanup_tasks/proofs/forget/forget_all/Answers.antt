use Rattle.std.proofs.Common.{◌≡◌, ◌==◌, ◌<◌, ◌∙◌, ℕ, List, [], ◌∷◌, length, refl, sym, ap, subst, arith}
use Rattle.std.proofs.lemmas.Bool.{eqb-true, false≢true}
use Rattle.path_book.specs.Book.{kept_paths}
use Rattle.path_book.specs.Through.{AreForgotten}
use Rattle.fixup_math.proofs.Cleanups.{cleanup_leaves_ready}
use Rattle.cleanup_tasks.proofs.Cleaning.{all_cleaned, none_cleaned, vertex_inside}
use Rattle.cleanup_tasks.proofs.forget.forget_all.Goals as goal

nothing_in : (xs : List ℕ) → length xs ≡ 0 → xs ≡ []
nothing_in [] e = refl
nothing_in (x ∷ xs) e = absurd (omega arith)

no_ids : (c : goal.Then-is_empty) → c.args.list.now.ids ≡ []
no_ids c =
    sym c.ids.ensures ∙ nothing_in c.ids.result.now
    (eqb-true (length c.ids.result.now) 0 (sym c.is_empty.ensures ∙ c.if-is_empty.true))

some_ids : (xs : List ℕ) → (xs ≡ [] → ⊥) → 0 < length xs
some_ids [] some = absurd (some refl)
some_ids (x ∷ xs) some = omega arith

pub returns-then-is_empty-clause-cleaned : goal.returns-then-is_empty-clause-cleaned
returns-then-is_empty-clause-cleaned c =
    none_cleaned c.args.book.now c.args.list.now.vertex c.args.list.now.ids c.show_lawful.ensures c.requires (no_ids c)

pub returns-then-is_empty-clause-ready : goal.returns-then-is_empty-clause-ready
returns-then-is_empty-clause-ready c =
    λ before graph agree local. cleanup_leaves_ready c.args.list.now.vertex before graph agree
    (kept_paths c.args.book.now) (kept_paths c.args.book.now) local
    (none_cleaned c.args.book.now c.args.list.now.vertex c.args.list.now.ids c.show_lawful.ensures c.requires
    (no_ids c))

pub forget_through-requires-clause-vertex : goal.forget_through-requires-clause-vertex
forget_through-requires-clause-vertex c =
    subst (λ v. v < c.args.book.now.arena.vertices) (sym c.vertex.ensures)
    (vertex_inside c.args.book.now c.args.list.now.vertex c.args.list.now.ids c.show_lawful.ensures c.requires
    (some_ids c.args.list.now.ids (λ none. false≢true
    (sym c.if-is_empty.false ∙ c.is_empty.ensures ∙ ap (λ (xs : List ℕ). length xs == 0) (c.ids.ensures ∙ none)))))

forgotten : (c : goal.After-forget_through) → AreForgotten c.args.book.now c.forget_through.new.self c.args.list.now.ids
forgotten c =
    subst (AreForgotten c.args.book.now c.forget_through.new.self) c.ids-2.ensures c.forget_through.ensures.forgotten

pub returns-clause-cleaned : goal.returns-clause-cleaned
returns-clause-cleaned c =
    all_cleaned c.args.book.now c.forget_through.new.self c.args.list.now.vertex c.args.list.now.ids
    c.show_lawful.ensures c.requires (forgotten c)

pub returns-clause-ready : goal.returns-clause-ready
returns-clause-ready c =
    λ before graph agree local. cleanup_leaves_ready c.args.list.now.vertex before graph agree
    (kept_paths c.args.book.now) (kept_paths c.forget_through.new.self) local
    (all_cleaned c.args.book.now c.forget_through.new.self c.args.list.now.vertex c.args.list.now.ids
    c.show_lawful.ensures c.requires (forgotten c))

pub returns-clause-vertices : goal.returns-clause-vertices
returns-clause-vertices c = (forgotten c).vertices
