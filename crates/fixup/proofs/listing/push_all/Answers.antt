use Rattle.std.proofs.Common.{◌++◌, map, ap, ◌∙◌, arith}
use Rattle.std.proofs.lemmas.List.{take_all}
use Rattle.fixup.specs.Listing.{join_at}
use Rattle.fixup.proofs.Adding.{partner_more}
use Rattle.fixup.proofs.listing.push_all.Goals as goal

pub partners-preserved : goal.partners-preserved
partners-preserved c = (
  partner_more c.args.side c.args.winner c.args.partners.now c.partners.partner-index c.partner-item.result
      c.partners-test.true c.partner-item.is
      c.args.joins.now.items c.partners.joins.items c.push_reserved.new.self.items c.join.result c.partners.invariant.0
      c.push_reserved.ensures.items c.join.ensures,
  omega (arith, c.push_reserved.ensures.len, c.partners.invariant.1),
  c.push_reserved.ensures.capacity ∙ c.partners.invariant.2,
)

pub returns-clause-listed : goal.returns-clause-listed
returns-clause-listed c =
    c.partners.invariant.0
    ∙ ap (λ ps. c.args.joins.now.items ++ map (join_at c.args.side c.args.winner) ps)
    (take_all c.partners.partner-index c.args.partners.now (omega (arith, c.partners-test.false)))
