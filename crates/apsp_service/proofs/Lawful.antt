-- Lines lead to lawful states.
use Rattle.std.proofs.Common.{◌≡◌, ◌≢◌, ℕ, inl, ◌+◌, ◌<◌, ◌≤◌, List, [], ◌∷◌, ◌++◌, length, length-append, refl, sym, ap, subst, ◌∙◌, arith}
use Rattle.std.specs.Prelude.{Option, Some, None, Result, Ok, Err, All, IfSome, IsSome, is_some, false}
use Rattle.std.proofs.lemmas.List.Elements.{All-nil, All-cons, All-append, All-head, All-tail}
use Rattle.apsp_model.specs.declared.TheConstants.{MOST_VERTICES}
use Rattle.std.specs.FinMap as map
use Rattle.apsp_model.specs.Graph.{Graph, IsGraph, IsEdgeOf, HasEdge, weight_at, pair_cmp}
use Rattle.apsp_model.specs.Star.{Star, IsStar, star_of, star_at}
use Rattle.apsp_model.specs.Command.{Command, Star_update, Grow_update, Mend, graph_of}
use Rattle.apsp_model.specs.Grows.{GrowsFit}
use Rattle.apsp_model.proofs.Stars.{is_graph-star_of, is_star-star_at}
use Rattle.graph_store.specs.Edges.{IsWeight, with_maybe_edge}
use Rattle.graph_store.proofs.StarRows.{is_star-with}
use Rattle.script_reader.specs.Answer.{FitsContext}
use Rattle.script_reader.specs.Meaning.{line_of}
use Rattle.script_reader.specs.Refused.{Refusal}
use Rattle.script_reader.specs.declared.Line.{Line}
use Rattle.script_reader.specs.declared.Line.TheVariants as line
use Rattle.script_reader.proofs.Fitting.{accepted_fits}
use Rattle.block_run.specs.declared.asks.Ask.{Ask}
use Rattle.graph_store.specs.Plan.{Plan, graph_after, with_star, hi_of}
use Rattle.block_run.specs.Answers.{IsAskOf}
use Rattle.network_replies.specs.Blocks.{Block, last_graph, updates_in}
use Rattle.apsp_service.specs.declared.terms.Terms.{Terms}
use Rattle.block_run.specs.Run.{with_updates}
use Rattle.apsp_service.specs.Session.{State, first_state, context_at, context_of, present_graph, graph_here, updated, updated_in, begun_in, asked_in, ended_in, accepted, counted, after_read, after_line, after_lines}
use Rattle.network_replies.specs.EdgeStar.{star_with}
use Rattle.apsp_service.specs.Lawful.{IsStarOn, IsBlockOf, AreUpdates, IsLawfulState}
use Rattle.network_replies.proofs.Plans.{after_vertices}

-- what a graph has but for its number of vertices
record IsWithin (g : Graph) : Type 0 where
  most : g.vertices ≤ MOST_VERTICES
  edges : (u v w : ℕ) → weight_at g u v ≡ Some w → IsEdgeOf g.vertices u v w

within_graph : (g : Graph) → IsWithin g → 0 < g.vertices → IsGraph g
within_graph g h some = record { some = some; most = h.most; edges = h.edges }

star_within : (g : Graph) (star : Star) → IsWithin g → IsStarOn g.vertices star → IsWithin (star_of g star)
star_within g star h on =
    let l : star.vertex < star.vertices = on.1.inside in
    let graph = is_graph-star_of g star (within_graph g h (omega (arith, l, on.0))) on.1 on.0 in
    record { most = graph.most; edges = graph.edges }

-- the graph after updates that fit
graph_within : (n : ℕ) (commands : List Command) → n ≤ MOST_VERTICES → AreUpdates n commands
    → IsWithin (graph_of n commands)
graph_within n [] most fit =
    record { most = most; edges = λ u v w e. absurd (none w (sym (map.get-empty pair_cmp (u, v)) ∙ e)) }
  where
    none : (w : ℕ) → ◌≡◌ {A = Option ℕ} None (Some w) → ⊥
    none w e = cc
graph_within n (Star_update s ∷ earlier) most fit =
    star_within (graph_of n earlier) s (graph_within n earlier most fit.1) fit.0
graph_within n (Grow_update m ∷ earlier) most fit =
    let h = graph_within n earlier most fit.2 in
    let more : (graph_of n earlier).vertices < m = fit.0 in
    record {
      most = fit.1;
      edges = λ u v w e.
          let k = h.edges u v w e in
          record { from = omega (arith, k.from, more); to = omega (arith, k.to, more); apart = k.apart; most = k.most };
    }
graph_within n (Mend ∷ earlier) most fit = absurd fit

-- each grow among them adds vertices and nothing else
pub updates_fit : (n : ℕ) (commands : List Command) → n ≤ MOST_VERTICES → AreUpdates n commands → GrowsFit n commands
updates_fit n [] most fit = tt
updates_fit n (Star_update s ∷ earlier) most fit = updates_fit n earlier most fit.1
updates_fit n (Grow_update m ∷ earlier) most fit =
    let more : (graph_of n earlier).vertices < m = fit.0 in (
      record { fewer = omega (arith, more); inside = inside (graph_of n earlier) (graph_within n earlier most fit.2) },
      updates_fit n earlier most fit.2,
    )
  where
    inside : (g : Graph) → IsWithin g → (u v : ℕ) → HasEdge g u v → (u < g.vertices) × (v < g.vertices)
    inside g h u v edge = go (weight_at g u v) refl edge
      where
        go : (o : Option ℕ) → weight_at g u v ≡ o → IsSome o → (u < g.vertices) × (v < g.vertices)
        go None e some = cc
        go (Some w) e some = let r : IsEdgeOf g.vertices u v w = h.edges u v w e in (r.from, r.to)
updates_fit n (Mend ∷ earlier) most fit = absurd fit

-- .. and a block appends stars
pub stars_more : (n : ℕ) (stars : List Star) (commands : List Command) → AreUpdates n commands
    → All (IsStarOn (graph_of n commands).vertices) stars → AreUpdates n (with_updates stars commands)
stars_more n [] commands h on = h
stars_more n (star ∷ stars) commands h on =
    let P : Star → Type 0 = IsStarOn (graph_of n commands).vertices in
    stars_more n stars (Star_update star ∷ commands) (All-head P star stars on, h) (All-tail P star stars on)

-- the graph that the next update changes
after_within : (g : Graph) (stars : List Star) → IsWithin g → All (IsStarOn g.vertices) stars
    → IsWithin (graph_after g stars)
after_within g [] h on = h
after_within g (star ∷ stars) h on =
    let P : Star → Type 0 = IsStarOn g.vertices in
    after_within (star_of g star) stars (star_within g star h (All-head P star stars on)) (All-tail P star stars on)

pub opening_lawful : (terms : Terms) → IsLawfulState (first_state terms)
opening_lawful terms = record { most = omega arith; block = tt; live = λ none. refl; commands = tt }

present_within : (s : State) → IsLawfulState s → IsWithin (present_graph s)
present_within s h = graph_within s.vertices s.commands h.most h.commands

-- the present number of vertices is in range
pub present_most : (s : State) → IsLawfulState s → (present_graph s).vertices ≤ MOST_VERTICES
present_most s h = (present_within s h).most

-- .. and where there are some, there is a graph
pub present_graph_is : (s : State) → IsLawfulState s → 0 < (present_graph s).vertices → IsGraph (present_graph s)
present_graph_is s h some = within_graph (present_graph s) (present_within s h) some

-- the block that is open
pub block_of : (s : State) (b : Block) → IsLawfulState s → s.block ≡ Some b → IsBlockOf s.vertices s.commands b
block_of s b h e = let F : Option Block → Type 0 = λ o. IfSome o (IsBlockOf s.vertices s.commands) in subst F e h.block

some_block : (s : State) (b : Block) → s.block ≡ Some b → s.block ≡ None → ⊥
some_block s b e none = let k : Some b ≡ None = sym e ∙ none in cc

begun_lawful : (s : State) → IsLawfulState s → IsLawfulState (begun_in s s.terms.readers)
begun_lawful s h = at s.terms.readers refl
  where
    at : (r : Option ℕ) → s.terms.readers ≡ r → IsLawfulState (begun_in s r)
    at None e = h
    at (Some n) e = record {
      most = h.most;
      block = record {
        start = refl;
        lo = refl;
        stars = All-nil (IsStarOn (present_graph s).vertices);
        asks = All-nil _;
      };
      live = λ none. absurd (let k : Some n ≡ None = sym e ∙ none in cc);
      commands = h.commands;
    }

pub here_vertices : (s : State) → IsLawfulState s → (graph_here s s.block).vertices ≡ (present_graph s).vertices
here_vertices s h = at s.block refl
  where
    at : (o : Option Block) → s.block ≡ o → (graph_here s o).vertices ≡ (present_graph s).vertices
    at None e = refl
    at (Some b) e =
        after_vertices b.plan.start b.plan.stars ∙ ap (λ (g : Graph). g.vertices) (block_of s b h e).start

here_within : (s : State) → IsLawfulState s → IsWithin (graph_here s s.block)
here_within s h = at s.block refl
  where
    at : (o : Option Block) → s.block ≡ o → IsWithin (graph_here s o)
    at None e = present_within s h
    at (Some b) e =
        let k = block_of s b h e in
        let F : Graph → Type 0 = λ g. IsWithin g → All (IsStarOn g.vertices) b.plan.stars → IsWithin (last_graph b.plan) in
        subst F k.start (after_within b.plan.start b.plan.stars) (present_within s h) k.stars

-- the star that `edge` or `cut` makes
edge_star : (s : State) (u v : ℕ) (w : Option ℕ) → IsLawfulState s → u < (present_graph s).vertices
    → v < (present_graph s).vertices → u ≢ v → ((x : ℕ) → w ≡ Some x → IsWeight x)
    → IsStarOn (present_graph s).vertices (star_with (graph_here s s.block) u v w)
edge_star s u v w h from to apart weight =
    let g : Graph = graph_here s s.block in
    let size : g.vertices ≡ (present_graph s).vertices = here_vertices s h in
    let graph : IsGraph g = within_graph g (here_within s h) (omega (arith, from, size)) in
    let star : IsStar (star_at g u) = is_star-star_at g u graph (omega (arith, from, size)) in (
      with_vertices (star_at g u) (u, v) w ∙ size,
      is_star-with (star_at g u) u v w star (inl refl) (λ x e. record {
        from = omega (arith, from, size);
        to = omega (arith, to, size);
        apart = apart;
        most = weight x e;
      }),
    )
  where
    with_vertices : (star : Star) (edge : ℕ × ℕ) (o : Option ℕ) → (with_maybe_edge star edge o).vertices ≡ star.vertices
    with_vertices star edge None = refl
    with_vertices star edge (Some x) = refl

more_stars : (p : Plan) (star : Star) (ask : Ask) → IsAskOf p ask → IsAskOf (with_star p star) ask
more_stars p star ask h =
    record { from = h.from; to = h.to; since = omega (arith, h.since, length-append p.stars (star ∷ [])) }

updated_lawful : (s : State) (star : Star) → IsLawfulState s → IsStarOn (present_graph s).vertices star
    → IsLawfulState (updated s star)
updated_lawful s star h on = at s.block refl
  where
    at : (o : Option Block) → s.block ≡ o → IsLawfulState (updated_in s o star)
    at None e =
        record {
          most = h.most;
          block = let F : Option Block
              → Type 0 = λ o. IfSome o (IsBlockOf s.vertices (Star_update star ∷ s.commands)) in
              subst F (sym e) tt;
          live = h.live;
          commands = (on, h.commands);
        }
    at (Some b) e =
        let k = block_of s b h e in
        let P : Star → Type 0 = IsStarOn (present_graph s).vertices in
        record {
          most = h.most;
          live = λ none. absurd (some_block s b e (h.live none));
          commands = h.commands;
          block = record {
            start = k.start;
            lo = k.lo;
            stars = All-append P b.plan.stars (star ∷ []) k.stars (All-cons P star [] on (All-nil P));
            asks = λ i d l. more_stars b.plan star _ (k.asks i d l);
          };
        }

asked_lawful : (s : State) (ask : Ask) → IsLawfulState s → ask.x < (present_graph s).vertices
    → ask.y < (present_graph s).vertices → ask.since ≤ updates_in s.block → IsLawfulState (asked_in s s.block ask)
asked_lawful s ask h x y since = at s.block refl since
  where
    at : (o : Option Block) → s.block ≡ o → ask.since ≤ updates_in o → IsLawfulState (asked_in s o ask)
    at None e l = h
    at (Some b) e l =
        let k = block_of s b h e in
        let size : b.plan.start.vertices ≡ (present_graph s).vertices = ap (λ (g : Graph). g.vertices) k.start in
        record {
          most = h.most;
          live = λ none. absurd (some_block s b e (h.live none));
          commands = h.commands;
          block = record {
            start = k.start;
            lo = k.lo;
            stars = k.stars;
            asks = All-append (IsAskOf b.plan) b.asks (ask ∷ []) k.asks
                (All-cons (IsAskOf b.plan) ask []
                (record { from = omega (arith, x, size); to = omega (arith, y, size); since = l })
                (All-nil (IsAskOf b.plan)));
          };
        }

ended_lawful : (s : State) → IsLawfulState s → IsLawfulState (ended_in s s.block)
ended_lawful s h = at s.block refl
  where
    at : (o : Option Block) → s.block ≡ o → IsLawfulState (ended_in s o)
    at None e = h
    at (Some b) e =
        record {
          most = h.most;
          block = tt;
          live = λ none. refl;
          commands = stars_more s.vertices b.plan.stars s.commands h.commands (block_of s b h e).stars;
        }

-- no block is open where a grow is accepted
grown_lawful : (s : State) (m : ℕ) → IsLawfulState s → is_some s.block ≡ false → (present_graph s).vertices < m
    → m ≤ MOST_VERTICES → IsLawfulState (record s { commands = Grow_update m ∷ s.commands })
grown_lawful s m h outside more most = at s.block refl outside
  where
    at : (o : Option Block) → s.block ≡ o → is_some o ≡ false
        → IsLawfulState (record s { commands = Grow_update m ∷ s.commands })
    at None e outside =
        record {
          most = h.most;
          block = let F : Option Block → Type 0 = λ o. IfSome o (IsBlockOf s.vertices (Grow_update m ∷ s.commands)) in
              subst F (sym e) tt;
          live = h.live;
          commands = (more, most, h.commands);
        }
    at (Some b) e outside = cc

pub accepted_lawful : (s : State) (l : Line) → IsLawfulState s → (terms : Terms)
    → FitsContext (context_at (present_graph s).vertices terms s.block) l → IsLawfulState (accepted s l)
accepted_lawful s line.Nothing h terms f = h
accepted_lawful s (line.Vertices n) h terms f =
    record { most = f.1.most; block = tt; live = λ none. refl; commands = tt }
accepted_lawful s (line.Star star) h terms f = updated_lawful s star h f
accepted_lawful s (line.Edge u v w) h terms f =
    updated_lawful s (star_with (graph_here s s.block) u v (Some w)) h
    (edge_star s u v (Some w) h f.0 f.1 f.2 (λ x e. let F : Option ℕ → Type 0 = λ o. IfSome o IsWeight in
    subst F e f.3))
accepted_lawful s (line.Cut u v) h terms f =
    updated_lawful s (star_with (graph_here s s.block) u v None) h
    (edge_star s u v None h f.0 f.1 f.2 (λ x e. let none : ◌≡◌ {A = Option ℕ} None (Some x) = e in cc))
accepted_lawful s (line.Grow m) h terms f = grown_lawful s m h f.0 f.2 f.3
accepted_lawful s line.Block h terms f = begun_lawful s h
accepted_lawful s (line.Ask x y since) h terms f =
    asked_lawful s (record { x = x; y = y; since = since }) h f.1 f.2 f.3
accepted_lawful s line.End h terms f = ended_lawful s h
accepted_lawful s (line.Dist x y) h terms f = h
accepted_lawful s (line.Path x y) h terms f = h
accepted_lawful s (line.Row x) h terms f = h
accepted_lawful s line.Stats h terms f = h
accepted_lawful s (line.Age list) h terms f = h
accepted_lawful s line.Cert h terms f = h
accepted_lawful s (line.Ecc x) h terms f = h
accepted_lawful s line.Report h terms f = h
accepted_lawful s (line.Through v) h terms f = h

-- what was accepted fits the state
pub read_fits : (s : State) (bytes : List ℕ) (l : Line) → IsLawfulState s → line_of (context_of s) bytes ≡ Ok l
    → FitsContext (context_of s) l
read_fits s bytes l h e = accepted_fits (context_of s) bytes l (present_most s h) e

pub line_lawful : (s : State) (bytes : List ℕ) → IsLawfulState s → IsLawfulState (after_line s bytes)
line_lawful s bytes h = at (line_of (context_of s) bytes) refl
  where
    at : (r : Result Line Refusal) → line_of (context_of s) bytes ≡ r → IsLawfulState (after_read s r)
    at (Ok l) e =
        accepted_lawful (counted s) l (record { most = h.most; block = h.block; live = h.live; commands = h.commands })
        s.terms (read_fits s bytes l h e)
    at (Err refusal) e = record { most = h.most; block = h.block; live = h.live; commands = h.commands }

pub lines_lawful : (s : State) (lines : List (List ℕ)) → IsLawfulState s → IsLawfulState (after_lines s lines)
lines_lawful s [] h = h
lines_lawful s (bytes ∷ lines) h = lines_lawful (after_line s bytes) lines (line_lawful s bytes h)
