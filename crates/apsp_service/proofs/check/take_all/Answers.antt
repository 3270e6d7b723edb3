use Rattle.std.proofs.Common.{rules, ◌≡◌, [], length, ap, arith}
use Rattle.network_replies.specs.Streams.{source_seen}
use Rattle.apsp_service.proofs.Checking.{all_stops, more_taken, consumes_none}
use Rattle.apsp_service.proofs.check.take_all.Goals as goal

pub loop-bytes-init : goal.loop-bytes-init
loop-bytes-init g c =
    let none : c.new-bytes.result.items ≡ [] = search rules in
    (consumes_none _ _ none, omega (arith, ap length none), omega arith)

pub returns-in_err-count-clause-ends : goal.returns-in_err-count-clause-ends
returns-in_err-count-clause-ends g c =
    let inv = c.loop-bytes.invariant in
    all_stops _ _ (source_seen g.S.Source c.args.source.now) (source_seen g.S.Source c.loop-bytes.source)
    (source_seen g.S.Source c.take_more.new.source) _ c.take_more.new.bytes.items c.from_residual.ensures.1 inv.0
    inv.2 c.in_err-count.ensures.ends

pub returns-then-count-eq0-clause-ends : goal.returns-then-count-eq0-clause-ends
returns-then-count-eq0-clause-ends g c =
    let inv = c.loop-bytes.invariant in
    let more = c.in_ok-count.ensures.ends in
    record {
      taken = more_taken (source_seen g.S.Source c.args.source.now) (source_seen g.S.Source c.loop-bytes.source)
          (source_seen g.S.Source c.take_more.new.source) _ _ _ inv.0 more;
      few = more.few;
      last = more.last
          c.if-count-eq0.true;
    }

pub loop-bytes-preserved : goal.loop-bytes-preserved
loop-bytes-preserved g c =
    let inv = c.loop-bytes.invariant in
    let more = c.in_ok-count.ensures.ends in (
      more_taken (source_seen g.S.Source c.args.source.now) (source_seen g.S.Source c.loop-bytes.source)
          (source_seen g.S.Source c.take_more.new.source) _ _ _ inv.0 more,
      more.few,
      omega
          (arith, inv.2, c.take_more.ensures.later),
    )
