use Rattle.std.proofs.Common.{sym, arith}
use Rattle.fixup.proofs.Heads.{head_fresh, held_step, held_ends}
use Rattle.fixup.proofs.starts.hold_all.Goals as goal

pub push-requires-clause-live : goal.push-requires-clause-live
push-requires-clause-live c = c.requires.live c.id-item.result (c.heads.id-index, c.heads-test.true, sym c.id-item.is)

pub push-requires-clause-fresh : goal.push-requires-clause-fresh
push-requires-clause-fresh c =
    head_fresh c.args.arena.now c.args.heads.now c.heads.id-index c.id-item.result c.heads.classes c.requires.once
    c.heads.invariant c.heads-test.true c.id-item.is

pub heads-preserved : goal.heads-preserved
heads-preserved c =
    held_step c.args.arena.now c.args.heads.now c.heads.id-index c.id-item.result c.heads.classes c.push.new.self
    c.heads.invariant c.heads-test.true c.id-item.is c.in_ok-push.ensures.ok c.push.ensures.fits

pub returns : goal.returns
returns c =
    record {
      held = held_ends c.args.arena.now c.args.heads.now c.heads.id-index c.heads.classes
          (omega (arith, c.heads-test.false)) c.heads.invariant;
    }
