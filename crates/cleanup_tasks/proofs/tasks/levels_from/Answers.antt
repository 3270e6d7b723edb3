use Rattle.std.proofs.Common.{◌==◌, ◌+◌, ◌<◌, [], ◌∷◌, length, Contains, sym, ◌∙◌, ap, subst, arith}
use Rattle.std.proofs.lemmas.List.{length-append}
use Rattle.apsp_model.specs.declared.TheConstants.{MOST_VERTICES}
use Rattle.std.proofs.lemmas.List.Elements.{Contains-append_left, Contains-append_right}
use Rattle.path_arena.specs.Arena.{Arena, list_of}
use Rattle.apsp_model.specs.Walk.{first}
use Rattle.cleanup_tasks.specs.Walk.{AreExtensions}
use Rattle.cleanup_tasks.proofs.Under.{begins_is, from_starts, from_live, from_goes_on, from_most, from_ends}
use Rattle.cleanup_tasks.proofs.tasks.levels_from.Goals as goal

pub levels-init : goal.levels-init
levels-init c =
    from_starts c.args.book.now c.requires.lawful c.args.v c.requires.vertex c.args.edge c.in_ok-level.level
    c.new-levels.result.items (c.first.result == c.args.v) c.requires.through c.requires.edge
    c.new-levels.ensures.items
    (begins_is (list_of c.args.book.now.arena c.args.edge) c.first.result c.args.v
    (ap (λ (a : Arena). first (list_of a c.args.edge)) (sym c.arena.ensures.lent) ∙ c.first.ensures.value))
    c.in_ok-level.ensures.paths c.in_ok-level.ensures.starting c.in_ok-level.ensures.passing

pub longer-requires-clause-starting : goal.longer-requires-clause-starting
longer-requires-clause-starting c = λ id m.
    from_live c.args.book.now c.requires.lawful c.args.v c.requires.vertex c.args.edge c.levels.levels.items
    c.levels.level c.levels.invariant id
    (Contains-append_left c.levels.level.starting.items c.levels.level.passing.items id
    (subst (λ xs. Contains xs id) c.deref.ensures.value m))

pub longer-requires-clause-passing : goal.longer-requires-clause-passing
longer-requires-clause-passing c = λ id m.
    from_live c.args.book.now c.requires.lawful c.args.v c.requires.vertex c.args.edge c.levels.levels.items
    c.levels.level c.levels.invariant id
    (Contains-append_right c.levels.level.starting.items c.levels.level.passing.items id
    (subst (λ xs. Contains xs id) c.deref-in-levels.ensures.value m))

pub levels-smaller : goal.levels-smaller
levels-smaller c =
    let most : length c.levels.levels.items + 1 < MOST_VERTICES =
    from_most c.args.book.now c.requires.lawful c.args.v c.requires.vertex c.args.edge c.levels.levels.items
    c.levels.level c.levels.invariant (c.is_empty.ensures.some c.levels-test.true) in
    omega (arith, most, ap length c.in-Ok.ensures.items, length-append c.levels.levels.items (c.levels.level ∷ []))

pub levels-preserved : goal.levels-preserved
levels-preserved c =
    let longer : AreExtensions c.args.book.now c.levels.level.starting.items c.levels.level.passing.items
    c.longer.new.next.starting.items c.longer.new.next.passing.items =
    subst (λ xs. AreExtensions c.args.book.now xs c.levels.level.passing.items c.longer.new.next.starting.items
    c.longer.new.next.passing.items) c.deref.ensures.value
    (subst (λ ys. AreExtensions c.args.book.now c.deref.result.now ys c.longer.new.next.starting.items
    c.longer.new.next.passing.items) c.deref-in-levels.ensures.value c.in_ok-longer.ensures.longer) in
    from_goes_on c.args.book.now c.requires.lawful c.args.v c.requires.vertex c.args.edge c.levels.levels.items
    c.levels.level c.levels.invariant c.longer.new.next c.push.new.self.items longer c.in-Ok.ensures.items

pub returns : goal.returns
returns c =
    let none = c.is_empty.ensures.none c.levels-test.false in
    record {
      levels = from_ends c.args.book.now c.requires.lawful c.args.v c.requires.vertex c.args.edge
          c.levels.levels.items c.levels.level c.levels.invariant none.0 none.1;
    }
