use Rattle.std.proofs.Common.{◌+◌, List, [], ◌∷◌, ◌++◌, sym, ◌∙◌, ap, subst, take, Vec, Global}
use Rattle.std.proofs.lemmas.Bool.{true≢false}
use Rattle.fixup.specs.declared.listing.Join.{Join}
use Rattle.fixup.specs.Listing.{AreAdded, ListsFrom}
use Rattle.fixup.proofs.Adding.{side_passes, side_lists}
use Rattle.fixup.proofs.listing.list_side.Goals.{then-lists+in-Ok, else-lists}
use Rattle.fixup.proofs.listing.list_side.Goals as goal

pub partners-preserved : goal.partners-preserved
partners-preserved c = elim c.if-lists.branch [
  | then-lists+in-Ok w ↦
      side_lists c.args.arena.now c.args.winners.now c.args.winner c.args.side c.args.partners.now c.requires.once
      c.partners.partner-index c.partner-item.result c.partners-test.true c.partner-item.is
      c.args.joins.now.items c.partners.joins.items c.partners.invariant (c.lists.ensures.0 w.if-lists.true)
      c.if-lists.joins.items
      (ap (λ (v : Vec Join Global). v.items) w.joins-is ∙ w.in-Ok.ensures.items
      ∙ ap (λ (j : Join). c.partners.joins.items ++ j ∷ []) w.join.ensures)
  | else-lists w ↦
      subst (λ (xs : List Join). AreAdded
      (ListsFrom c.args.arena.now c.args.winners.now c.args.winner c.args.side
      (take (c.partners.partner-index + 1) c.args.partners.now)) c.args.joins.now.items xs)
      (sym (ap (λ (v : Vec Join Global). v.items) w.joins-is))
      (side_passes c.args.arena.now c.args.winners.now c.args.winner c.args.side c.args.partners.now c.requires.once
      c.partners.partner-index c.partner-item.result c.partners-test.true c.partner-item.is
      c.args.joins.now.items c.partners.joins.items c.partners.invariant
      (λ yields. true≢false (sym (c.lists.ensures.1 yields) ∙ w.if-lists.false)))
]
