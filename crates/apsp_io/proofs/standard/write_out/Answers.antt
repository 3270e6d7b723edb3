use Rattle.std.proofs.Common.{rules}
use Rattle.std.proofs.lemmas.Grind.{common_steps}
use Rattle.std.proofs.Common.{arith}
use Rattle.apsp_io.proofs.Writes.{took_more, took_part}
use Rattle.apsp_io.proofs.standard.write_out.Goals as goal

pub returns-in_err-count-clause-part : goal.returns-in_err-count-clause-part
returns-in_err-count-clause-part g c =
    let part = took_part _ _ _ _ _ c.loop-rest.invariant c.in_err-count.ensures.bytes in
    search (rules, part)

pub loop-rest-preserved : goal.loop-rest-preserved
loop-rest-preserved g c =
    took_more _ _ _ _ _ _ c.in_ok-count.count c.loop-rest.invariant c.in_ok-count.ensures.bytes
    (grind (arith, common_steps))
