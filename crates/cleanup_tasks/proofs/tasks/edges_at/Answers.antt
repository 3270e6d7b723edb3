use Rattle.std.proofs.Common.{◌≡◌, ℕ, List, ◌++◌, ◌∙◌, ap}
use Rattle.path_arena.specs.Arena.{vertex_of}
use Rattle.cleanup_tasks.proofs.Under.{edges_are}
use Rattle.cleanup_tasks.proofs.tasks.edges_at.Goals as goal

pub returns : goal.returns
returns c =
    let single : c.vertex.result ≡ vertex_of c.args.book.now.arena c.args.v =
    c.vertex.ensures.value ∙ ap (λ a. vertex_of a c.args.v) c.arena.ensures.lent in
    record {
      edges = edges_are c.args.book.now c.longer.ensures.lawful c.args.v c.requires.vertex c.vertex.result
          c.longer.new.next.starting.items c.longer.new.next.passing.items c.push_level.new.ids.items single
          c.in_ok-longer.ensures.longer
          (c.in_ok-push_level.ensures ∙ ap (λ (xs : List ℕ). xs
          ++ (c.longer.new.next.starting.items ++ c.longer.new.next.passing.items)) c.new-edges.ensures.items);
    }
