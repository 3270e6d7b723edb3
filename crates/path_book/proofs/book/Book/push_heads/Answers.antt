use Rattle.std.proofs.Common.{◌≡◌, ◌+◌, ◌++◌, ◌∷◌, [], ℕ, Vec, Global, take, slice_index_or, sym, ◌∙◌, ap, subst, rules}
use Rattle.std.proofs.lemmas.List.{get_or_default}
use Rattle.path_arena.specs.declared.id.PathId.{PathId}
use Rattle.path_book.specs.Layout.{AreHeadsOf}
use Rattle.path_book.proofs.Heads.{pair_in, heads_without, heads_with}
use Rattle.path_book.proofs.book.Book.push_heads.Goals as goal
use Rattle.path_book.proofs.book.Book.push_heads.Goals.{in-Some+in_ok-map_err, in_default}

pub least_if_pending-requires-clause-from : goal.least_if_pending-requires-clause-from
least_if_pending-requires-clause-from c =
    (c.requires.inside _ (pair_in c.args.pairs.now c.pairs.x-index c.pairs-test.true)).0

pub least_if_pending-requires-clause-to : goal.least_if_pending-requires-clause-to
least_if_pending-requires-clause-to c =
    (c.requires.inside _ (pair_in c.args.pairs.now c.pairs.x-index c.pairs-test.true)).1

pub pairs-preserved : goal.pairs-preserved
pairs-preserved c =
    let i = c.pairs.x-index in
    let pairs = c.args.pairs.now in
    let p : ℕ × ℕ = slice_index_or pairs i (0, 0) in
    let at = get_or_default pairs i (0, 0) p c.pairs-test.true in
    elim c.match-least_if_pending.branch [
      | in-Some+in_ok-map_err w ↦
          let longer : w.push.new.self.items ≡ c.pairs.heads.items ++ w.in-Some.id ∷ [] = search rules in
          subst (AreHeadsOf c.args.self.now (take (i + 1) pairs))
          (sym (ap (λ (v : Vec PathId Global). v.items) w.heads-is ∙ longer))
          (heads_with c.args.self.now pairs i p c.pairs.heads.items c.pairs.invariant c.pairs-test.true at w.in-Some.id
          w.in-Some.ensures c.requires.once)
      | in_default w ↦
          subst (AreHeadsOf c.args.self.now (take (i + 1) pairs))
          (sym (ap (λ (v : Vec PathId Global). v.items) w.heads-is))
          (heads_without c.args.self.now pairs i p c.pairs.heads.items c.pairs.invariant c.pairs-test.true at
          w.in_default.ensures)
    ]
