use Rattle.std.proofs.Common.{rules, ◌≡◌, ◌++◌, ◌∷◌, [], ◌+◌, ◌<◌, sym, ◌∙◌, ap, subst}
use Rattle.path_arena.specs.Arena.{Arena, vertex_of}
use Rattle.local_engine.specs.Demoting.{AreSingleIds}
use Rattle.local_engine.proofs.Searching.{singles_more}
use Rattle.local_engine.proofs.search.singles.Goals as goal

pub vertices-preserved : goal.vertices-preserved
vertices-preserved c =
    let is : c.push.new.self.items ≡ c.vertices.ids.items ++ c.vertex.result ∷ [] = search rules in
    subst (AreSingleIds c.args.book.now (c.vertices.v + 1)) (sym is)
    (singles_more c.args.book.now c.vertices.v c.vertex.result c.vertices.ids.items c.arena.ensures.lawful
    (subst (λ m. c.vertices.v < m) c.requires.vertices c.vertices-test.true)
    (c.vertex.ensures.value ∙ ap (λ (a : Arena). vertex_of a c.vertices.v) c.arena.ensures.lent) c.vertices.invariant)
