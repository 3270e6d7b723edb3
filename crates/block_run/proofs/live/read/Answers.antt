use Rattle.block_run.proofs.Ordered.{if_lists}
use Rattle.block_run.proofs.live.read.Goals as goal

pub returns : goal.returns
returns g c =
    if_lists c.args.pool.now.plan c.args.asks.now c.args.readers c.len-step.result c.len-step.ensures c.read_each.result
    c.read_each.ensures.len c.read_each.ensures.each
