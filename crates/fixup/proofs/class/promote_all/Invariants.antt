use Rattle.std.proofs.Common.{take}
use Rattle.fixup.specs.Owing.{IsPromoted}
use Rattle.fixup.proofs.class.promote_all.Given as goal

abbrev pub invariant-winners : goal.invariant-winners
invariant-winners l = IsPromoted l.initial.book (take l.winner-index l.winners) l.book
