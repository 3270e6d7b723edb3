use Rattle.std.proofs.Common.{Option, Some, sym, ◌∙◌, ap, subst}
use Rattle.apsp_model.specs.Graph.{Graph}
use Rattle.apsp_model.specs.Least.{HasNoWalk}
use Rattle.apsp_model.specs.Walk.{hops_of}
use Rattle.path_arena.specs.Arena.{Arena, list_of, weight_of_id, second}
use Rattle.path_book.specs.Book.{kept_paths}
use Rattle.version_face.specs.declared.Entry.{Entry}
use Rattle.version_face.specs.Entries.{EntryIs}
use Rattle.local_engine.specs.Seen.{LocalSeen}
use Rattle.local_engine.specs.Kept.{CoversShortest}
use Rattle.local_engine.proofs.Reading.{book_covers, no_walk, entry_is}
use Rattle.local_engine.proofs.engine.LocalEngine.least_entry.Goals as goal

pub returns-in_err-id : goal.returns-in_err-id
returns-in_err-id c =
    let covers : CoversShortest c.self.inside.graph (kept_paths c.self.inside.book) =
    book_covers c.self.inside.graph (kept_paths c.self.inside.book)
    (c.self.invariant.kept (ap (λ (e : LocalSeen). e.spent) c.self.view_is ∙ c.requires.not_spent)) in
    subst (λ (o : Option Entry). EntryIs c.args.self.now.graph c.args.x c.args.y o) (sym c.from_residual.ensures)
    (subst (λ (g : Graph). HasNoWalk g c.args.x c.args.y) (ap (λ (e : LocalSeen). e.graph) c.self.view_is)
    (no_walk c.self.inside.book c.self.inside.graph covers c.args.x c.args.y c.in_err-id.ensures.least))

pub returns : goal.returns
returns c =
    let covers : CoversShortest c.self.inside.graph (kept_paths c.self.inside.book) =
    book_covers c.self.inside.graph (kept_paths c.self.inside.book)
    (c.self.invariant.kept (ap (λ (e : LocalSeen). e.spent) c.self.view_is ∙ c.requires.not_spent)) in
    let id = c.in_ok-id.id in
    let lent = c.arena-arena.ensures.lent in
    subst (λ (g : Graph). EntryIs g c.args.x c.args.y
    (Some (record { dist = c.weight.result; hops = c.hops.result; next = c.second.result })))
    (ap (λ (e : LocalSeen). e.graph) c.self.view_is)
    (entry_is c.self.inside.book c.self.inside.graph covers c.args.x c.args.y id c.in_ok-id.ensures.least
    (record { dist = c.weight.result; hops = c.hops.result; next = c.second.result })
    (c.weight.ensures.value ∙ ap (λ (a : Arena). weight_of_id a id) lent)
    (c.hops.ensures.value ∙ ap (λ (a : Arena). hops_of (list_of a id)) lent)
    (ap (λ (a : Arena). second (list_of a id)) (sym lent) ∙ c.second.ensures.value))
