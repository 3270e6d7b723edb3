use Rattle.std.proofs.Common.{[], ◌∷◌, ◌++◌, ◌+◌, ◌≡◌, false, None, Result, Ok, Err, is_err, OnOk, length, sym, ◌∙◌, ap, subst, refl, arith}
use Rattle.std.proofs.lemmas.Bool.{false≢true}
use Rattle.std.proofs.lemmas.List.{length-append}
use Rattle.apsp_model.specs.Graph.{Graph, IsGraph, widened}
use Rattle.apsp_model.specs.Grows.{IsGrowable}
use Rattle.apsp_model.proofs.Growths.{graph_grows}
use Rattle.path_book.specs.Book.{kept_paths}
use Rattle.history_engine.specs.Seen.{EngineSeen, paths_of}
use Rattle.history_engine.specs.Lawful.{AreLawful}
use Rattle.book_widening.specs.Widened.{IsWidenedTo}
use Rattle.history_engine.proofs.Moments.{lawful_at}
use Rattle.history_engine.proofs.Grows.{grown_lawful, grow_done}
use Rattle.history_engine.proofs.engine.Engine.grow.Goals as goal
use Rattle.history_engine.proofs.engine.Engine.grow.Goals.{After-len}

on_ok : {A E : Type 0} (P : Type 0) (r : Result A E) → is_err r ≡ false → OnOk r P → P
on_ok P (Ok a) e h = h
on_ok P (Err x) e h = absurd (false≢true (sym e))

grows : (c : After-len) → IsGrowable c.self.inside.graph c.args.n
grows c =
    let is : IsGraph c.self.inside.graph = subst IsGraph c.drop-2.view_is c.drop-2.invariant.graph in
    let same : c.self.inside.graph.vertices ≡ c.args.self.now.graph.vertices =
    ap (λ (e : EngineSeen). e.graph.vertices) c.self.view_is in
    graph_grows c.self.inside.graph c.args.n is (omega (arith, same, c.requires.more))

lawful_here : (c : After-len)
    → AreLawful c.self.inside.graph c.self.inside.progress.steps (kept_paths c.self.inside.book)
lawful_here c =
    lawful_at c.self.inside.graph c.self.inside.progress.steps (kept_paths c.self.inside.book)
    (c.self.invariant.paths c.if-self.false)

wide : (c : After-len) → c.widen_into.new.other ≡ widened c.self.inside.graph c.args.n
wide c = c.widen_into.ensures.wider ∙ ap (λ (h : Graph). widened c.self.inside.graph h.vertices) c.in-Ok.ensures.ok

taken : (c : After-len) → c.grow.new.self.vertices ≡ c.self.inside.timeline.vertices ++ None ∷ []
taken c =
    on_ok (c.grow.new.self.vertices ≡ c.self.inside.timeline.vertices ++ None ∷ []) c.grow.result
    (sym c.is_err.ensures.value ∙ c.if-is_err.false) c.grow.ensures.vertices

pub invariant_of-self-2 : goal.invariant_of-self-2
invariant_of-self-2 c =
    let n_is : c.widen_into.new.other.vertices ≡ c.args.n = ap (λ (h : Graph). h.vertices) (wide c) in
    let more : length c.grow.new.self.vertices ≡ length c.self.inside.timeline.vertices + 1 =
    ap length (taken c) ∙ length-append c.self.inside.timeline.vertices (None ∷ []) in
    let now : length c.self.inside.timeline.vertices ≡ length c.args.self.now.vertices =
    ap (λ (e : EngineSeen). length e.vertices) c.self.view_is in
    record {
      star_size = ap (λ s. s.vertices) c.in-Ok-new.ensures.ok ∙ sym n_is;
      book_size = λ _. c.in-Ok-wider_book.ensures.vertices ∙ sym n_is;
      timeline_size =
          on_ok (c.grow.new.self.size ≡ c.args.n) c.grow.result (sym c.is_err.ensures.value ∙ c.if-is_err.false)
          c.grow.ensures.size ∙ sym n_is;
      few_updates = omega (arith, more, now, c.requires.few);
      few_steps = omega (arith, more, c.self.invariant.few_steps);
      paths = λ _. (
        _,
        subst (λ (h : Graph). AreLawful h (c.self.inside.progress.steps + 1)
            (kept_paths c.in-Ok-wider_book.book)) (sym (wide c))
            (grown_lawful c.self.inside.graph c.args.n c.self.inside.progress.steps (kept_paths c.self.inside.book)
            (kept_paths c.in-Ok-wider_book.book) (grows c) (lawful_here c)
            c.in-Ok-wider_book.ensures.widened),
      );
    }

pub returns-clause-advance : goal.returns-clause-advance
returns-clause-advance c =
    let v = c.self.view_is in
    let at_seen : IsWidenedTo c.args.n (paths_of c.args.self.now) (kept_paths c.in-Ok-wider_book.book) =
    subst (λ (e : EngineSeen). IsWidenedTo c.args.n (paths_of e) (kept_paths c.in-Ok-wider_book.book)) v
    c.in-Ok-wider_book.ensures.widened in
    grow_done c.args.self.now _ c.args.n
    (subst (λ (e : EngineSeen). IsGrowable e.graph c.args.n) v (grows c))
    (subst (λ (e : EngineSeen). AreLawful e.graph e.steps (paths_of e)) v (lawful_here c))
    at_seen
    (ap (λ (e : EngineSeen). e.opening) v)
    (ap (λ (e : EngineSeen). e.smooth) v)
    (wide c ∙ ap (λ (e : EngineSeen). widened e.graph c.args.n) v)
    (taken c ∙ ap (λ (e : EngineSeen). e.vertices ++ None ∷ []) v)
    (ap (λ (e : EngineSeen). e.steps + 1) v)
    refl refl c.if-self.false
