use Rattle.std.specs.Prelude.{Some, None}
use Rattle.script_reader.specs.declared.Line.TheVariants as line
use Rattle.apsp_service.proofs.Standing.{updated_inside, edge_inside, asked_inside, counted_inside, lawful_inside}
use Rattle.apsp_service.proofs.session.execute_in_block.Goals as goal

pub returns-in-Star : goal.returns-in-Star
returns-in-Star c = λ e s is.
    rw c.in-Star.is (updated_inside _ _ _ _ s _ is
    (lawful_inside e c.args.block.now c.requires.fits.0 s (line.Star c.in-Star.star) is
    (rw c.in-Star.is at c.requires.fits.1)) c.apply.ensures)

pub returns-in-Edge : goal.returns-in-Edge
returns-in-Edge c = λ e s is.
    rw c.in-Edge.is (edge_inside _ _ _ _ s c.in-Edge.u c.in-Edge.v (Some c.in-Edge.w) is
    (lawful_inside e c.args.block.now c.requires.fits.0 s (line.Edge c.in-Edge.u c.in-Edge.v c.in-Edge.w) is
    (rw c.in-Edge.is at c.requires.fits.1)) c.put_edge.ensures)

pub returns-in-Cut : goal.returns-in-Cut
returns-in-Cut c = λ e s is.
    rw c.in-Cut.is (edge_inside _ _ _ _ s c.in-Cut.u c.in-Cut.v None is
    (lawful_inside e c.args.block.now c.requires.fits.0 s (line.Cut c.in-Cut.u c.in-Cut.v) is
    (rw c.in-Cut.is at c.requires.fits.1)) c.put_edge-in-Cut.ensures)

pub returns-in-Ask : goal.returns-in-Ask
returns-in-Ask c = λ e s is.
    rw c.in-Ask.is (asked_inside _ _ _ _ s (record { x = c.in-Ask.x; y = c.in-Ask.y; since = c.in-Ask.since }) is
    (lawful_inside e c.args.block.now c.requires.fits.0 s (line.Ask c.in-Ask.x c.in-Ask.y c.in-Ask.since) is
    (rw c.in-Ask.is at c.requires.fits.1)) c.ask.ensures)
