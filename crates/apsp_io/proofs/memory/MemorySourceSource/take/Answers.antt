use Rattle.std.proofs.Common.{◌≡◌, min, length, take, drop, rules, arith}
use Rattle.std.proofs.lemmas.Grind.{common_steps}
use Rattle.apsp_io.proofs.Takes.{taken_front, taken_end}
use Rattle.apsp_io.proofs.memory.MemorySourceSource.take.Goals as goal

pub returns-clause-bytes : goal.returns-clause-bytes
returns-clause-bytes c =
    let n = c.min-count.result in
    let left_is : c.args.self.now.left ≡ drop c.self.inside.place c.self.inside.bytes.items = search rules in
    let room : c.min-count.result ≡ min c.self.inside.piece (min (length c.args.into.now) (length c.args.self.now.left))
    = grind (arith, common_steps) in
    let front : c.copy_from_slice.new.self ≡ take c.min-count.result c.args.self.now.left =
    grind (arith, common_steps) in (
      taken_front _ _ _ _ n c.self.inside.place left_is (omega (arith, room)) front,
      λ z r. taken_end _ c.args.self.now.left n c.self.inside.place c.self.inside.piece (length c.args.into.now) left_is
          c.self.invariant.some room z (grind (arith, common_steps)),
    )
