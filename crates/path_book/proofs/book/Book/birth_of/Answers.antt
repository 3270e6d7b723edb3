use Rattle.std.proofs.Common.{ℕ, ◌+◌, ◌-◌, ◌++◌, MatchOption, length, take, drop, get_or, refl, sym, ◌∙◌, ap, subst}
use Rattle.path_arena.specs.Arena.{list_of}
use Rattle.path_arena.proofs.Paths.{live_from, path_of_at}
use Rattle.apsp_model.specs.Paths.{IsKeptIn, HasBirthIn}
use Rattle.path_book.specs.Book.{Book, kept_paths}
use Rattle.path_book.specs.Layout.{view_of, IsExtensionTo}
use Rattle.path_book.proofs.Lookups.{by_head, one_further, at_the_end, extended, absent, birth_found}
use Rattle.path_book.proofs.book.Book.birth_of.Goals as goal

pub loop-v-init : goal.loop-v-init
loop-v-init c = record {
  live = live_from c.self.inside.arena c.vertex-id.result _ c.vertex-id.ensures.single;
  list = ap (λ p. p.list ++ take (length c.args.list.now - 1) (drop 1 c.args.list.now))
      (path_of_at c.self.inside.arena c.vertex-id.result _ c.vertex-id.ensures.single)
      ∙ by_head c.args.list.now c.requires.some;
}

pub loop-v-preserved : goal.loop-v-preserved
loop-v-preserved c =
    let items = take (length c.args.list.now - 1) (drop 1 c.args.list.now) in
    let longer =
    extended (view_of c.self.inside) c.self.invariant.stored.book c.loop-v.id (get_or items c.loop-v.v-index 0)
    c.in_ok-id.id c.loop-v.invariant.live
    (subst (λ (b : Book). IsExtensionTo b.arena c.loop-v.id (get_or items c.loop-v.v-index 0) c.in_ok-id.id)
    (sym c.self.view_is) c.in_ok-id.ensures.found) in
    record {
      live = longer.0;
      list = ap (λ p. p ++ drop (c.loop-v.v-index + 1) items) longer.1
          ∙ one_further (list_of c.self.inside.arena c.loop-v.id) items c.args.list.now c.loop-v.v-index
          (get_or items c.loop-v.v-index 0) c.loop-v-test.true refl c.loop-v.invariant.list;
    }

pub returns-in_err-id-clause-birth : goal.returns-in_err-id-clause-birth
returns-in_err-id-clause-birth c =
    let items = take (length c.args.list.now - 1) (drop 1 c.args.list.now) in
    subst (λ o. MatchOption o (IsKeptIn (kept_paths c.args.self.now) c.args.list.now → ⊥)
    (HasBirthIn (kept_paths c.args.self.now) c.args.list.now)) (sym c.from_residual.ensures)
    (subst (λ (b : Book). IsKeptIn (kept_paths b) c.args.list.now → ⊥) c.self.view_is
    (absent (view_of c.self.inside) c.self.invariant.stored.book c.loop-v.id (get_or items c.loop-v.v-index 0)
    c.loop-v.v-index items c.args.list.now c.loop-v.invariant.live
    (subst (λ (b : Book). (q : ℕ) → IsExtensionTo b.arena c.loop-v.id (get_or items c.loop-v.v-index 0) q → ⊥)
    (sym c.self.view_is) c.in_err-id.ensures.none)
    c.loop-v-test.true refl c.loop-v.invariant.list))

pub returns-clause-birth : goal.returns-clause-birth
returns-clause-birth c =
    subst (λ (b : Book). HasBirthIn (kept_paths b) c.args.list.now c.birth.result) c.self.view_is
    (birth_found (view_of c.self.inside) c.self.invariant.stored.book c.loop-v.id c.birth.result c.args.list.now
    c.loop-v.invariant.live
    (at_the_end _ _ c.args.list.now c.loop-v.v-index c.loop-v-test.false c.loop-v.invariant.list) c.birth.ensures.value)
