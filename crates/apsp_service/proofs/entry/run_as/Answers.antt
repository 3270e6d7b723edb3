use Rattle.network_replies.specs.Streams.{source_seen}
use Rattle.apsp_service.proofs.Outcomes.{run_ended}
use Rattle.apsp_service.proofs.entry.run_as.Goals as goal

pub returns-in-Run-clause-ends : goal.returns-in-Run-clause-ends
returns-in-Run-clause-ends g c = rw c.in-Run.is (run_ended _ _ _ _ _ _ c.terms.ensures c.run.ensures.ends)

pub returns-in-Load-clause-ends : goal.returns-in-Load-clause-ends
returns-in-Load-clause-ends g c = rw c.in-Load.is (c.load.ensures.ends (source_seen g.S.Source c.args.source.now))
