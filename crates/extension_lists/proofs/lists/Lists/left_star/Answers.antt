use Rattle.std.proofs.Common.{◌∙◌, ◌*◌, sym, subst, arith}
use Rattle.apsp_model.specs.Walk.{IsOnceEach}
use Rattle.id_pool.specs.Lists.{ids_at, marked_at}
use Rattle.extension_lists.proofs.Taken.{once_front_of}
use Rattle.extension_lists.proofs.Shown.{inside_then, left_star_read}
use Rattle.extension_lists.proofs.lists.Lists.left_star.Goals as goal

pub marked_ids-requires : goal.marked_ids-requires
marked_ids-requires c =
    omega (
      arith,
      inside_then c.self.inside.known.items c.self.inside.pool c.args.self.now c.args.id c.key.result
          c.self.view_is c.self.invariant c.requires c.key.ensures.value,
    )

pub returns-clause-lent : goal.returns-clause-lent
returns-clause-lent c =
    c.marked_ids.ensures.lent ∙ left_star_read c.self.inside.known.items c.self.inside.pool c.args.self.now c.args.id
    c.key.result c.self.view_is c.self.invariant c.key.ensures.value

pub returns-clause-once : goal.returns-clause-once
returns-clause-once c =
    let list = 2 * c.key.result in
    subst IsOnceEach (sym c.marked_ids.ensures.lent)
    (once_front_of (marked_at c.self.inside.pool list) (ids_at c.self.inside.pool list) c.marked_ids.ensures.most
    (c.self.invariant.once list))
