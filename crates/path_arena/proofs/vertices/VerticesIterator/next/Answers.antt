use Rattle.std.proofs.Common.{◌≡◌, ◌∷◌, rules}
use Rattle.path_arena.specs.Records.{rest_of, IsAtLive}
use Rattle.path_arena.proofs.Steps.{rest_step}
use Rattle.path_arena.proofs.vertices.VerticesIterator.next.Goals as goal

step : (c : goal.After-first) → (c.args.self.now ≡ c.first.result ∷ rest_of c.self.inside.arena.now
    c.tail-self-inside.result) × IsAtLive c.self.inside.arena.now c.tail-self-inside.result
step c = rest_step c.self.inside.arena.now c.args.self.now c.self.inside.rest c.in_ok-id.id c.first.result
    c.tail-self-inside.result c.tail-self-inside.ensures.lawful c.self.invariant c.self.view_is c.in_ok-id.was
    c.first.ensures.value c.tail-self-inside.ensures.value

pub invariant_of-self : goal.invariant_of-self
invariant_of-self c = (step c).1

pub returns-clause-steps : goal.returns-clause-steps
returns-clause-steps c = (step c).0

pub returns-clause-goes : goal.returns-clause-goes
returns-clause-goes c = rw (step c).0 (search rules)
