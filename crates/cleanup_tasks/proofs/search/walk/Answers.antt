use Rattle.std.proofs.Common.{◌≡◌, ℕ, List, ◌++◌, Contains, sym, ◌∙◌, ap, subst}
use Rattle.std.proofs.lemmas.List.Elements.{Contains-append_right}
use Rattle.path_arena.specs.Arena.{vertex_of}
use Rattle.cleanup_tasks.specs.Walk.{AreExtensions}
use Rattle.cleanup_tasks.specs.declared.search.Level.{Level}
use Rattle.cleanup_tasks.proofs.Levels.{walk_starts, walk_goes_on, walk_falls, walk_ends, level_live}
use Rattle.cleanup_tasks.proofs.search.walk.Goals as goal

pub levels-init : goal.levels-init
levels-init g c =
    let single : c.vertex.result ≡ vertex_of c.args.book.now.arena c.args.v =
    c.vertex.ensures.value ∙ ap (λ a. vertex_of a c.args.v) c.arena.ensures.lent in
    walk_starts c.args.book.now c.longer.ensures.lawful c.args.v c.requires.vertex c.vertex.result
    c.longer.new.next.starting.items c.longer.new.next.passing.items c.push_level.new.ids.items single
    c.in_ok-longer.ensures.longer
    (c.in_ok-push_level.ensures ∙ ap (λ (xs : List ℕ). xs
    ++ (c.longer.new.next.starting.items ++ c.longer.new.next.passing.items)) c.new-ids.ensures.items)

pub longer-requires-in-levels-clause-passing : goal.longer-requires-in-levels-clause-passing
longer-requires-in-levels-clause-passing g c = λ id m.
    level_live c.args.book.now c.longer.ensures.lawful c.args.v c.requires.vertex c.levels.level.starting.items
    c.levels.level.passing.items c.levels.ids.items c.levels.invariant id
    (Contains-append_right c.levels.level.starting.items c.levels.level.passing.items id
    (subst (λ xs. Contains xs id) c.deref-in-levels.ensures.value m))

pub levels-smaller : goal.levels-smaller
levels-smaller g c =
    walk_falls c.args.book.now c.longer.ensures.lawful c.args.v c.requires.vertex c.levels.level.starting.items
    c.levels.level.passing.items c.levels.ids.items c.levels.invariant
    c.swap.new.x.starting.items c.swap.new.x.passing.items c.push_level-in-levels.new.ids.items
    c.in_ok-push_level-2.ensures (c.is_empty.ensures.some c.levels-test.true)

pub levels-preserved : goal.levels-preserved
levels-preserved g c =
    let made : AreExtensions c.args.book.now c.levels.level.starting.items c.levels.level.passing.items
    c.longer-in-levels.new.next.starting.items c.longer-in-levels.new.next.passing.items =
    subst (λ xs. AreExtensions c.args.book.now xs c.levels.level.passing.items
    c.longer-in-levels.new.next.starting.items c.longer-in-levels.new.next.passing.items) c.deref.ensures.value
    (subst (λ ys. AreExtensions c.args.book.now c.deref.result.now ys c.longer-in-levels.new.next.starting.items
    c.longer-in-levels.new.next.passing.items) c.deref-in-levels.ensures.value c.in_ok-longer-2.ensures.longer) in
    let longer : AreExtensions c.args.book.now c.levels.level.starting.items c.levels.level.passing.items
    c.swap.new.x.starting.items c.swap.new.x.passing.items =
    subst (λ (n : Level). AreExtensions c.args.book.now c.levels.level.starting.items c.levels.level.passing.items
    n.starting.items n.passing.items) (sym c.swap.ensures.x_after) made in
    walk_goes_on c.args.book.now c.longer.ensures.lawful c.args.v c.requires.vertex c.levels.level.starting.items
    c.levels.level.passing.items c.levels.ids.items c.levels.invariant
    c.swap.new.x.starting.items c.swap.new.x.passing.items c.push_level-in-levels.new.ids.items longer
    c.in_ok-push_level-2.ensures

pub returns : goal.returns
returns g c =
    let none = c.is_empty.ensures.none c.levels-test.false in
    record {
      all = walk_ends c.args.book.now c.longer.ensures.lawful c.args.v c.requires.vertex
          c.levels.level.starting.items c.levels.level.passing.items c.levels.ids.items c.levels.invariant none.0
          none.1;
    }
