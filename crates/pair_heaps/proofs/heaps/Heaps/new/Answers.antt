use Rattle.std.proofs.Common.{arith}
use Rattle.pair_heaps.specs.Heaps.{place_of}
use Rattle.pair_heaps.specs.Rows.{heaps_of}
use Rattle.pair_heaps.proofs.Places.{none_held}
use Rattle.pair_heaps.proofs.Fits.{fits_empty}
use Rattle.pair_heaps.proofs.heaps.Heaps.new.Goals as goal

pub invariant_of-result : goal.invariant_of-result
invariant_of-result c = omega (arith, c.rows.pairs.ok.0, c.rows.invariant.0, c.rows-test.false, c.len.ensures)

pub returns-clause-empty : goal.returns-clause-empty
returns-clause-empty c = λ x y. none_held c.rows.pairs.items c.rows.invariant.1 (place_of c.args.n x y)

pub returns-clause-fits : goal.returns-clause-fits
returns-clause-fits c =
    λ a vertices. fits_empty (heaps_of c.args.n c.rows.pairs.items) a vertices
    (λ x y. none_held c.rows.pairs.items c.rows.invariant.1 (place_of c.args.n x y))
