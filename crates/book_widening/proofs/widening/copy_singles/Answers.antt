use Rattle.std.proofs.Common.{◌≡◌, ◌++◌, ◌∷◌, [], ◌≤◌, subst, ◌∙◌, ap, rules, arith}
use Rattle.path_arena.specs.Arena.{vertex_of}
use Rattle.book_widening.proofs.Longer.{AreSinglesCopied, singles_more, first_level, first_copied, first_copies}
use Rattle.book_widening.proofs.widening.copy_singles.Goals as goal

pub vertices-preserved : goal.vertices-preserved
vertices-preserved c =
    let longer : c.push.new.self.items ≡ c.vertices.ids.items ++ c.vertex-id.result ∷ [] = search rules in
    singles_more c.args.book.now c.args.wide.now c.show_lawful.ensures c.vertices.v c.vertex-id.result c.vertex.result
    c.vertices.ids.items c.push.new.self.items c.vertices.copies.items c.note.new.copies.items
    (omega (arith, c.vertices-test.true, c.requires.size)) c.vertices.invariant
    (c.vertex-id.ensures.value ∙ ap (λ a. vertex_of a c.vertices.v) c.arena.ensures.lent)
    (c.vertex.ensures.value ∙ ap (λ a. vertex_of a c.vertices.v) c.arena-in-vertices.ensures.lent)
    longer c.in_ok-note.ensures.here c.in_ok-note.ensures.others

pub returns-clause-level : goal.returns-clause-level
returns-clause-level c =
    let all : c.vertices.v ≡ c.args.n =
    (let most : c.vertices.v ≤ c.args.n = c.vertices.auto.v-end in omega (arith, most, c.vertices-test.false)) in
    first_level c.args.book.now c.args.wide.now c.args.n c.vertices.ids.items c.vertices.copies.items
    c.show_lawful.ensures c.show_lawful-2.ensures c.requires.size
    (subst (λ k. AreSinglesCopied c.args.book.now c.args.wide.now k c.vertices.ids.items c.vertices.copies.items) all
    c.vertices.invariant)

pub returns-clause-copies : goal.returns-clause-copies
returns-clause-copies c =
    let all : c.vertices.v ≡ c.args.n =
    (let most : c.vertices.v ≤ c.args.n = c.vertices.auto.v-end in omega (arith, most, c.vertices-test.false)) in
    first_copies c.args.book.now c.args.wide.now c.args.n c.vertices.ids.items c.vertices.copies.items
    c.show_lawful.ensures c.show_lawful-2.ensures c.requires.size
    (subst (λ k. AreSinglesCopied c.args.book.now c.args.wide.now k c.vertices.ids.items c.vertices.copies.items) all
    c.vertices.invariant)
    c.requires.more c.requires.opening

pub returns-clause-copied : goal.returns-clause-copied
returns-clause-copied c =
    let all : c.vertices.v ≡ c.args.n =
    (let most : c.vertices.v ≤ c.args.n = c.vertices.auto.v-end in omega (arith, most, c.vertices-test.false)) in
    first_copied c.args.book.now c.args.wide.now c.args.n c.vertices.ids.items c.vertices.copies.items
    c.show_lawful.ensures c.show_lawful-2.ensures c.requires.size
    (subst (λ k. AreSinglesCopied c.args.book.now c.args.wide.now k c.vertices.ids.items c.vertices.copies.items) all
    c.vertices.invariant)
