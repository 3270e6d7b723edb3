use Rattle.std.proofs.Common.{refl, arith}
use Rattle.path_arena.specs.Arena.{edge_path}
use Rattle.path_arena.proofs.Calls.{Added, edge_added}
use Rattle.path_arena.proofs.arena.Arena.edge.Goals as goal

-- what the call makes of the arena
added : (c : goal.After-put) → Added c.self.inside.singles.items c.put.new.records.slots c.args.self.now
    (edge_path c.args.self.now c.args.u c.args.v c.args.w c.args.birth) c.put.result
added c =
    edge_added c.self.inside c.args.self.now c.self.view_is c.self.invariant c.put.new.records.slots
    c.args.u c.args.v c.args.w c.args.birth
    (record {
      weight = c.from.result;
      first = c.args.u;
      second = c.args.v;
      last = c.args.v;
      hops = 1;
      left
          = c.vertex-left.result;
      right = c.vertex-right.result;
      birth = c.args.birth;
    }) c.requires.from c.requires.to
    c.requires.apart (omega (arith, c.ranges.w))
    (record {
      weight = cc;
      birth_is = refl;
      first = refl;
      second = refl;
      last = refl;
      hops = refl;
      left = c.vertex-left.ensures.value;
      right = c.vertex-right.ensures.value;
    })
    c.put.result c.put.ensures.ok c.put.ensures.memory

pub invariant_of-self : goal.invariant_of-self
invariant_of-self c = (added c).kept

pub returns-clause-fresh : goal.returns-clause-fresh
returns-clause-fresh c = (added c).fresh

pub returns-clause-added : goal.returns-clause-added
returns-clause-added c = (added c).added

pub returns-clause-lawful : goal.returns-clause-lawful
returns-clause-lawful c = (added c).kept.arena
