use Rattle.std.proofs.Common.{◌-◌, ◌<◌, arith, length, get_or, List}
use denote.Param.Send.{sendable}
use Rattle.task_pool.specs.declared.work.WorkerState.{WorkerState}
use Rattle.task_pool.specs.Shares.{ALL_PARTS}
use Rattle.task_pool.specs.States.{Thief, IsState, IsRow, HasWorked}
use Rattle.task_pool.proofs.Places.{one_of, at_place}
use Rattle.task_pool.proofs.gather.spread.Goals as goal

pub for_each_mut-requires-clause-accepts : goal.for_each_mut-requires-clause-accepts
for_each_mut-requires-clause-accepts g c κs within = λ i p low is.
    let ts : List Thief = c.args.thieves.now in
    let all : List (WorkerState g.row.J-Out.Denot) = c.args.states.now in
    let len = c.requires.states.len in
    let few = c.requires.workers in
    let low_t : i < length ts = omega arith in
    let t = one_of ts i low_t in
    let d = at_place (IsState (ALL_PARTS - length ts) (get_or ts i t)) all i p.now p.now low is
    (c.requires.states.each i t p.now low) in
    let parts = d.parts_are in
    let row =
    at_place (λ (z : WorkerState g.row.J-Out.Denot). IsRow ts z.passes.items) all i p.now p.now low is
    (c.requires.rows i p.now low) in
    let worked =
    at_place (HasWorked (g.J.Job.gives c.args.job.now) c.args.tasks) all i p.now p.now low is
    (c.requires.worked i p.now low) in (
      c.requires.tasks,
      (
        (low_t, few.1),
        (
          c.requires.fifo,
          ((d.flavor, omega arith), (row, (worked, search sendable depth 20))),
        ),
      ),
    )
