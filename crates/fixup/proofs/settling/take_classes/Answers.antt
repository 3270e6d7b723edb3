use Rattle.fixup.proofs.Wholes.{class_ready, class_over, class_falls}
use Rattle.fixup.proofs.settling.take_classes.Goals as goal

pub settle_class-requires-clause-taken : goal.settle_class-requires-clause-taken
settle_class-requires-clause-taken g c κs within =
    class_ready c.args.birth c.args.book.now c.classes.book c.args.classes.now c.classes.classes c.classes.invariant
    c.requires.started c.pop_class.new.self c.arena.result.now c.arena.ensures.lent c.in-Some.class.rank
    c.in-Some.class.winners c.in-Some.ensures.class c.in-Some.ensures.fits c.winners.result.now c.winners.ensures

-- the class drops one winner or none, or a list of them that stands in it or in memory of its own
pub classes-smaller : goal.classes-smaller
classes-smaller g c =
    class_falls c.args.birth c.args.book.now c.classes.book c.args.classes.now c.classes.classes c.classes.invariant
    c.requires.started c.pop_class.new.self c.arena.result.now c.arena.ensures.lent c.in-Some.class.rank
    c.in-Some.class.winners c.in-Some.ensures.class c.in-Some.ensures.fits c.winners.result.now c.winners.ensures
    c.settle_class.new.book c.settle_class.new.classes c.in_ok-settle_class.ensures.done

pub classes-preserved : goal.classes-preserved
classes-preserved g c =
    class_over c.args.birth c.args.book.now c.classes.book c.args.classes.now c.classes.classes c.classes.invariant
    c.requires.started c.pop_class.new.self c.arena.result.now c.arena.ensures.lent c.in-Some.class.rank
    c.in-Some.class.winners c.in-Some.ensures.class c.in-Some.ensures.fits c.winners.result.now c.winners.ensures
    c.settle_class.new.book c.settle_class.new.classes c.in_ok-settle_class.ensures.done

pub classes-smaller-in_ok-settle_class : goal.classes-smaller-in_ok-settle_class
classes-smaller-in_ok-settle_class g c =
    class_falls c.args.birth c.args.book.now c.classes.book c.args.classes.now c.classes.classes c.classes.invariant
    c.requires.started c.pop_class.new.self c.arena.result.now c.arena.ensures.lent c.in-Some.class.rank
    c.in-Some.class.winners c.in-Some.ensures.class c.in-Some.ensures.fits c.winners.result.now c.winners.ensures
    c.settle_class.new.book c.settle_class.new.classes c.in_ok-settle_class.ensures.done

pub classes-preserved-in_ok-settle_class : goal.classes-preserved-in_ok-settle_class
classes-preserved-in_ok-settle_class g c =
    class_over c.args.birth c.args.book.now c.classes.book c.args.classes.now c.classes.classes c.classes.invariant
    c.requires.started c.pop_class.new.self c.arena.result.now c.arena.ensures.lent c.in-Some.class.rank
    c.in-Some.class.winners c.in-Some.ensures.class c.in-Some.ensures.fits c.winners.result.now c.winners.ensures
    c.settle_class.new.book c.settle_class.new.classes c.in_ok-settle_class.ensures.done

pub classes-smaller-in_ok-settle_class-2 : goal.classes-smaller-in_ok-settle_class-2
classes-smaller-in_ok-settle_class-2 g c =
    class_falls c.args.birth c.args.book.now c.classes.book c.args.classes.now c.classes.classes c.classes.invariant
    c.requires.started c.pop_class.new.self c.arena.result.now c.arena.ensures.lent c.in-Some.class.rank
    c.in-Some.class.winners c.in-Some.ensures.class c.in-Some.ensures.fits c.winners.result.now c.winners.ensures
    c.settle_class.new.book c.settle_class.new.classes c.in_ok-settle_class.ensures.done

pub classes-preserved-in_ok-settle_class-2 : goal.classes-preserved-in_ok-settle_class-2
classes-preserved-in_ok-settle_class-2 g c =
    class_over c.args.birth c.args.book.now c.classes.book c.args.classes.now c.classes.classes c.classes.invariant
    c.requires.started c.pop_class.new.self c.arena.result.now c.arena.ensures.lent c.in-Some.class.rank
    c.in-Some.class.winners c.in-Some.ensures.class c.in-Some.ensures.fits c.winners.result.now c.winners.ensures
    c.settle_class.new.book c.settle_class.new.classes c.in_ok-settle_class.ensures.done
