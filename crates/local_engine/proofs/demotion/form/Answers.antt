use Rattle.std.proofs.Common.{◌≡◌, sym, ◌∙◌, ap, arith}
use Rattle.apsp_model.specs.Walk.{first, last, hops_of}
use Rattle.path_arena.specs.Arena.{Arena, list_of}
use Rattle.local_engine.proofs.Forming.{can_join, join_new, join_formed, edge_formed}
use Rattle.local_engine.proofs.demotion.form.Goals as goal

pub form_join-requires-clause-join : goal.form_join-requires-clause-join
form_join-requires-clause-join c =
    let hops : c.hops.result ≡ hops_of (list_of c.args.book.now.arena c.args.left) =
    c.hops.ensures.value ∙ ap (λ (a : Arena). hops_of (list_of a c.args.left)) c.arena-arena.ensures.lent in
    can_join c.args.graph.now c.args.book.now c.args.left c.args.right c.requires.path.0 c.requires.path.1
    c.arena-arena.ensures.lawful (omega (arith, hops, c.if-hops-gt0.true))

pub form_join-requires-clause-new : goal.form_join-requires-clause-new
form_join-requires-clause-new c =
    let hops : c.hops.result ≡ hops_of (list_of c.args.book.now.arena c.args.left) =
    c.hops.ensures.value ∙ ap (λ (a : Arena). hops_of (list_of a c.args.left)) c.arena-arena.ensures.lent in
    join_new c.args.graph.now c.args.book.now c.args.left c.args.right c.requires.path.0 c.requires.path.1
    c.arena-arena.ensures.lawful (omega (arith, hops, c.if-hops-gt0.true)) c.args.birth

pub returns-then-hops-gt0 : goal.returns-then-hops-gt0
returns-then-hops-gt0 c =
    let hops : c.hops.result ≡ hops_of (list_of c.args.book.now.arena c.args.left) =
    c.hops.ensures.value ∙ ap (λ (a : Arena). hops_of (list_of a c.args.left)) c.arena-arena.ensures.lent in
    record {
      formed = λ h can. join_formed c.args.graph.now c.args.book.now c.args.left c.args.right h can
          c.arena-arena.ensures.lawful (omega (arith, hops, c.if-hops-gt0.true)) c.args.birth c.in_ok-form_join.field-0
          c.form_join.new.self c.in_ok-form_join.ensures.fresh c.in_ok-form_join.ensures.formed;
    }

pub returns-in_ok-form_edge : goal.returns-in_ok-form_edge
returns-in_ok-form_edge c =
    let hops : c.hops.result ≡ hops_of (list_of c.args.book.now.arena c.args.left) =
    c.hops.ensures.value ∙ ap (λ (a : Arena). hops_of (list_of a c.args.left)) c.arena-arena.ensures.lent in
    record {
      formed = λ h can. edge_formed c.args.graph.now c.args.book.now c.args.left c.args.right h can
          c.arena-arena.ensures.lawful (omega (arith, hops, c.if-hops-gt0.false)) c.first-from.result c.last-to.result
          (ap (λ (a : Arena). first (list_of a c.args.left)) (sym c.arena-arena.ensures.lent) ∙ c.first-from.ensures.value)
          (ap (λ (a : Arena). last (list_of a c.args.right)) (sym c.arena-arena.ensures.lent) ∙ c.last-to.ensures.value)
          c.args.birth c.in-Some.weight c.in_ok-form_edge.field-0 c.form_edge.new.self (sym c.in-Some.ensures.weight)
          c.in_ok-form_edge.ensures.fresh c.in_ok-form_edge.ensures.formed;
    }
