use Rattle.std.proofs.Common.{◌≡◌, ◌+◌, true, sym, ◌∙◌, ap, subst, arith}
use Rattle.apsp_model.specs.Graph.{Graph}
use Rattle.apsp_model.specs.Star.{star_of}
use Rattle.path_book.specs.Book.{kept_paths}
use Rattle.local_engine.specs.Seen.{LocalSeen}
use Rattle.local_engine.specs.Kept.{IsUpdateReady}
use Rattle.local_engine.proofs.Updating.{update_ready, taken_back}
use Rattle.local_engine.proofs.Reading.{counts_are}
use Rattle.local_engine.proofs.Turns.{all_demoted}
use Rattle.local_engine.proofs.engine.LocalEngine.star.Goals as goal

pub settled-left-requires-clause-ready : goal.settled-left-requires-clause-ready
settled-left-requires-clause-ready g c κs within =
    let paths = kept_paths c.self.inside.book in
    subst (λ v. IsUpdateReady v c.apply.new.self paths) (sym c.vertex-v.ensures.vertex)
    (subst (λ (h : Graph). IsUpdateReady c.args.star.now.vertex h paths) (sym c.apply.ensures.after)
    (update_ready c.self.inside.graph c.args.star.now paths (c.self.invariant.kept c.if-self.false)))

pub returns-clause-kept : goal.returns-clause-kept
returns-clause-kept g c = all_demoted c.apply.new.self c.longest.book c.longest.left.paths.items
    (omega (arith, c.longest-test.false, c.len.ensures)) (c.longest.invariant c.if-left.false)

pub returns-clause-change : goal.returns-clause-change
returns-clause-change g c =
    counts_are (record {
      graph = c.apply.new.self;
      number = c.self.inside.number + 1;
      spent = c.self.inside.spent;
      book = c.longest.book;
    }) c.counts_of.result
    (all_demoted c.apply.new.self c.longest.book c.longest.left.paths.items
    (omega (arith, c.longest-test.false, c.len.ensures)) (c.longest.invariant c.if-left.false))
    c.counts_of.ensures.number c.counts_of.ensures.paths c.counts_of.ensures.shortest

pub returns-then-left-clause-memory : goal.returns-then-left-clause-memory
returns-then-left-clause-memory g c =
    let back : c.apply-then-left.new.self ≡ c.args.self.now.graph =
    c.apply-then-left.ensures.after ∙ (λ i. star_of (c.apply.ensures.after i) (c.star_into.ensures.star i))
    ∙ taken_back c.self.inside.graph c.args.star.now c.vertex-v.result c.vertex-v.ensures.vertex
    ∙ ap (λ (e : LocalSeen). e.graph) c.self.view_is in
    λ _ i. record {
      graph = back i;
      number = (ap (λ (e : LocalSeen). e.number) c.self.view_is) i;
      spent = true;
      book = c.longest.book;
    }

pub invariant_of-self-2 : goal.invariant_of-self-2
invariant_of-self-2 g c =
    let same : c.apply.new.self.vertices ≡ c.self.inside.graph.vertices =
    ap (λ (h : Graph). h.vertices) c.apply.ensures.after in
    record {
      star_size = ap (λ s. s.vertices) c.star_into.ensures.star ∙ sym same;
      few_updates = omega (arith, ap (λ (e : LocalSeen). e.number) c.self.view_is, c.requires.few);
      book_size = λ _. (c.longest.invariant c.if-left.false).same;
      kept = λ _. all_demoted c.apply.new.self c.longest.book c.longest.left.paths.items
          (omega (arith, c.longest-test.false, c.len.ensures)) (c.longest.invariant c.if-left.false);
    }
