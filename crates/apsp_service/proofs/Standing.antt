-- A session goes on standing for the lines that were read.
use Rattle.std.proofs.Common.{◌≡◌, ℕ, ◌+◌, ◌<◌, ◌≤◌, ◌^◌, true, List, [], ◌∷◌, ◌++◌, length, length-append, append-nil, refl, sym, ap, subst, ◌∙◌, arith}
use Rattle.std.specs.Prelude.{Bool, Option, Some, None, Result, Ok, Err, OnOk, IfOk, IfSome, IsSome, is_some, false}
use Rattle.apsp_model.specs.Command.{Command, Star_update, Grow_update, graph_of}
use Rattle.apsp_model.specs.Graph.{Graph}
use Rattle.apsp_model.specs.Star.{Star}
use Rattle.history_engine.specs.Seen.{EngineSeen}
use Rattle.history_engine.specs.Advance.{Advance, Stands}
use Rattle.history_engine.proofs.Moments.{law}
use Rattle.script_reader.specs.Cutter.{Cutting}
use Rattle.script_reader.specs.Meaning.{line_of}
use Rattle.script_reader.specs.Refused.{Refusal}
use Rattle.script_reader.specs.declared.Line.{Line}
use Rattle.script_reader.specs.declared.Line.TheVariants as line
use Rattle.version_face.specs.Seen.{VersionSeen as Version}
use Rattle.network_replies.specs.declared.stop.Stop.{Stop}
use Rattle.network_replies.specs.Certificate.{version_of, version_after, IsTextOf}
use Rattle.apsp_service.specs.declared.terms.Terms.{Terms}
use Rattle.apsp_service.specs.Session.{State, HasReply, HasBlockReply, context_at, context_of, present_graph, graph_here, accepted, counted, updated_in, begun_in, fresh_block, asked_in, ended_in, after_read, after_line}
use Rattle.network_replies.specs.EdgeStar.{star_with}
use Rattle.graph_store.specs.Plan.{Plan, with_star, hi_of}
use Rattle.block_run.specs.declared.asks.Ask.{Ask}
use Rattle.block_run.specs.declared.answers.Answer.{Answer}
use Rattle.block_run.proofs.Fronts.{stands_by}
use Rattle.block_run.specs.Run.{AdvancesBy, CanRun, HasRun, with_updates}
use Rattle.network_replies.specs.Blocks.{Block, last_graph, updates_in, asks_in}
use Rattle.network_replies.specs.Replies.{answer_text}
use Rattle.std.specs.List.{flat_map}
use Rattle.apsp_service.specs.Lawful.{IsBlockOf, IsLawfulState}
use Rattle.apsp_service.proofs.Lawful.{accepted_lawful, here_vertices, stars_more}
use Rattle.script_reader.specs.Answer.{FitsContext}
use Rattle.apsp_service.specs.declared.session.Session.{Session}
use Rattle.apsp_service.specs.Giving.{HasNetwork, HasInside, IsNetworkOf, CanBeUpdated, CertificateGiven, vertices_in}
use Rattle.network_replies.specs.Growing.{GrowsBy, LinesGiven}
use Rattle.apsp_service.specs.Standing.{HasState}
use Rattle.network_replies.proofs.Seen.{sink_at}

-- the state of a session does not hang on the line that is begun
pub with_line : (session : Session) (cutter : Cutting) (s : State) → HasState session s
    → HasState (record session { cutter = cutter }) s
with_line session cutter s h =
    record { inside = h.inside; terms = h.terms; lines = h.lines; refused = h.refused }

pub ready_of : (seen : Option EngineSeen) (s : State) → HasNetwork seen s → s.lines < 2 ^ 40 → CanBeUpdated seen
ready_of None s h few = tt
ready_of (Some e) s h few = (h.stands.not_spent, omega (arith, h.few, few))

-- what an accepted line does not change
record Keeps (s t : State) : Type 0 where
  terms : t.terms ≡ s.terms
  lines : t.lines ≡ s.lines
  refused : t.refused ≡ s.refused

kept_all : (s : State) → Keeps s s
kept_all s = record { terms = refl; lines = refl; refused = refl }

updated_keeps : (s : State) (o : Option Block) (star : Star) → Keeps s (updated_in s o star)
updated_keeps s None star = record { terms = refl; lines = refl; refused = refl }
updated_keeps s (Some b) star = record { terms = refl; lines = refl; refused = refl }

begun_keeps : (s : State) (r : Option ℕ) → Keeps s (begun_in s r)
begun_keeps s None = kept_all s
begun_keeps s (Some n) = record { terms = refl; lines = refl; refused = refl }

asked_keeps : (s : State) (o : Option Block) (ask : Ask) → Keeps s (asked_in s o ask)
asked_keeps s None ask = kept_all s
asked_keeps s (Some b) ask = record { terms = refl; lines = refl; refused = refl }

ended_keeps : (s : State) (o : Option Block) → Keeps s (ended_in s o)
ended_keeps s None = kept_all s
ended_keeps s (Some b) = record { terms = refl; lines = refl; refused = refl }

accepted_keeps : (s : State) (l : Line) → Keeps s (accepted s l)
accepted_keeps s line.Nothing = kept_all s
accepted_keeps s (line.Vertices n) = record { terms = refl; lines = refl; refused = refl }
accepted_keeps s (line.Star star) = updated_keeps s s.block star
accepted_keeps s (line.Edge u v w) = updated_keeps s s.block (star_with (graph_here s s.block) u v (Some w))
accepted_keeps s (line.Cut u v) = updated_keeps s s.block (star_with (graph_here s s.block) u v None)
accepted_keeps s (line.Grow m) = record { terms = refl; lines = refl; refused = refl }
accepted_keeps s line.Block = begun_keeps s s.terms.readers
accepted_keeps s (line.Ask x y since) = asked_keeps s s.block (record { x = x; y = y; since = since })
accepted_keeps s line.End = ended_keeps s s.block
accepted_keeps s (line.Dist x y) = kept_all s
accepted_keeps s (line.Path x y) = kept_all s
accepted_keeps s (line.Row x) = kept_all s
accepted_keeps s line.Stats = kept_all s
accepted_keeps s (line.Age list) = kept_all s
accepted_keeps s line.Cert = kept_all s
accepted_keeps s (line.Ecc x) = kept_all s
accepted_keeps s line.Report = kept_all s
accepted_keeps s (line.Through v) = kept_all s

-- the state after an accepted line
pub line_stands : (s : State) (content : List ℕ) (l : Line) (session : Session) → line_of (context_of s) content ≡ Ok l
    → HasInside session.network session.block (accepted (counted s) l) → session.terms ≡ s.terms
    → session.lines ≡ s.lines + 1 → session.refused ≡ s.refused → HasState session (after_line s content)
line_stands s content l session reading h terms lines refused =
    let F : Result Line Refusal → Type 0 = λ read. HasState session (after_read s read) in
    let k : Keeps (counted s) (accepted (counted s) l) = accepted_keeps (counted s) l in
    subst F (sym reading) (record {
      inside = h;
      terms = terms ∙ sym k.terms;
      lines = lines ∙ sym k.lines;
      refused = refused ∙ sym k.refused;
    })

pub line_stands_on : {E : Type 0} (r : Result (Unit {0}) E) (s : State) (content : List ℕ) (l : Line)
    (session : Session) → line_of (context_of s) content ≡ Ok l
    → OnOk r (HasInside session.network session.block (accepted (counted s) l)) → session.terms ≡ s.terms
    → session.lines ≡ s.lines + 1 → session.refused ≡ s.refused → OnOk r (HasState session (after_line s content))
line_stands_on (Err e) s content l session reading h terms lines refused = tt
line_stands_on (Ok u) s content l session reading h terms lines refused =
    line_stands s content l session reading h terms lines refused

-- a refused line
pub refused_stands : (s : State) (content : List ℕ) (session : Session) (refusal : Refusal)
    → line_of (context_of s) content ≡ Err refusal → HasInside session.network session.block s
    → session.terms ≡ s.terms → session.lines ≡ s.lines + 1 → session.refused ≡ true
    → HasState session (after_line s content)
refused_stands s content session refusal reading h terms lines refused =
    let F : Result Line Refusal → Type 0 = λ read. HasState session (after_read s read) in
    subst F (sym reading) (record {
      inside = record {
        network = network session.network h.network;
        block = h.block;
        asks = omega (arith, h.asks);
        lawful = record {
          most = h.lawful.most;
          block = h.lawful.block;
          live = h.lawful.live;
          commands
              = h.lawful.commands;
        };
      };
      terms = terms;
      lines = lines;
      refused = refused;
    })
  where
    network : (seen : Option EngineSeen) → HasNetwork seen s → HasNetwork seen (record (counted s) { refused = true })
    network None k = k
    network (Some e) k =
        record { vertices = k.vertices; smooth = k.smooth; stands = k.stands; few = omega (arith, k.few) }

-- ---- what each line does

-- the graph that the network has
pub graph_is : (e : EngineSeen) (s : State) → IsNetworkOf e s → e.graph ≡ graph_of s.vertices s.commands
graph_is e s h = h.stands.outline.graph ∙ ap (λ n. graph_of n s.commands) (sym h.vertices)

pub vertices_are : (seen : Option EngineSeen) (open_block : Option Block) (s : State) → HasInside seen open_block s
    → vertices_in seen ≡ (present_graph s).vertices
vertices_are seen open_block s h = at seen h.network
  where
    at : (e : Option EngineSeen) → HasNetwork e s → vertices_in e ≡ (present_graph s).vertices
    at None k = sym k.0 ∙ ap (λ commands. (graph_of s.vertices commands).vertices) (sym k.1)
    at (Some e) k = ap (λ (g : Graph). g.vertices) (graph_is e s k)

-- what the meaning of the next line depends on
pub context_told : (session : Session) (s : State) → HasState session s
    → context_at (vertices_in session.network) session.terms session.block ≡ context_of s
context_told session s h =
    λ i. context_at (vertices_are session.network session.block s h.inside i) (h.terms i) (h.inside.block i)

-- the fits of a line, for the state
fits_state : (seen : Option EngineSeen) (open_block : Option Block) (terms : Terms) (s : State) (l : Line)
    → HasInside seen open_block s → FitsContext (context_at (vertices_in seen) terms open_block) l
    → FitsContext (context_at (present_graph s).vertices terms s.block) l
fits_state seen open_block terms s l h f =
    let F : ℕ → Type 0 = λ n. FitsContext (context_at n terms open_block) l in
    let G : Option Block → Type 0 = λ o. FitsContext (context_at (present_graph s).vertices terms o) l in
    subst G h.block (subst F (vertices_are seen open_block s h) f)

counted_lawful : (s : State) → IsLawfulState s → IsLawfulState (counted s)
counted_lawful s h = record { most = h.most; block = h.block; live = h.live; commands = h.commands }

lawful_then : (seen : Option EngineSeen) (open_block : Option Block) (terms : Terms) (s : State) (l : Line)
    → HasInside seen open_block s → FitsContext (context_at (vertices_in seen) terms open_block) l
    → IsLawfulState (accepted (counted s) l)
lawful_then seen open_block terms s l h f =
    accepted_lawful (counted s) l (counted_lawful s h.lawful) terms (fits_state seen open_block terms s l h f)

-- the version that the network has
pub version_is : (e : EngineSeen) (s : State) → IsNetworkOf e s → version_of e ≡ version_after s.vertices s.commands
version_is e s h = λ i. record { number = length (h.stands.outline.vertices i); graph = graph_is e s h i }

-- its certificate is that of the state's version
pub certificate_stands : (r : Result (Unit {0}) Stop) (seen : Option EngineSeen) (e : EngineSeen) (s : State)
    (old new : Option (List ℕ)) (before now : ℕ) → seen ≡ Some e → HasNetwork seen s → (text : List ℕ)
    × IsTextOf (version_of e) text × LinesGiven r (sink_at old before) (sink_at new now) text
    → CertificateGiven r (sink_at old before) (sink_at new now) s
certificate_stands r seen e s old new before now is has given =
    let F : Option EngineSeen → Type 0 = λ o. HasNetwork o s in
    let G : Version → Type 0 =
    λ v. (text : List ℕ) × IsTextOf v text × LinesGiven r (sink_at old before) (sink_at new now) text in
    subst G (version_is e s (subst F is has)) given

-- ---- the updates of a block

record Moves (before : EngineSeen) (count : ℕ) (after : EngineSeen) : Type 0 where
  opening : after.opening ≡ before.opening
  smooth : after.smooth ≡ before.smooth
  vertices : length after.vertices ≡ length before.vertices + count

moves_by : (stars : List Star) (before after : EngineSeen) → AdvancesBy before stars after
    → Moves before (length stars) after
moves_by [] before after a =
    record {
      opening = ap (λ (e : EngineSeen). e.opening) a;
      smooth = ap (λ (e : EngineSeen). e.smooth) a;
      vertices
          = omega (arith, ap (λ (e : EngineSeen). length e.vertices) a);
    }
moves_by (star ∷ stars) before after a =
    let m = moves_by stars a.0 after a.2 in
    record {
      opening = m.opening ∙ a.1.opening;
      smooth = m.smooth ∙ a.1.smooth;
      vertices =
          omega (arith, m.vertices, ap length a.1.vertices, length-append before.vertices (Some star.vertex ∷ []));
    }

-- the block that is open
block_is : (e : EngineSeen) (s : State) (b : Block) → HasInside (Some e) (Some b) s → IsBlockOf s.vertices s.commands b
block_is e s b h =
    let F : Option Block → Type 0 = λ o. IfSome o (IsBlockOf s.vertices s.commands) in
    subst F (sym h.block) h.lawful.block

-- a block was run
pub block_ran : (before after : EngineSeen) (s : State) (b : Block) → HasInside (Some before) (Some b) s
    → AdvancesBy before b.plan.stars after → HasInside (Some after) None (accepted (counted s) line.End)
block_ran before after s b h a =
    let F : Option Block → Type 0 = λ o. HasInside (Some after) None (ended_in (counted s) o) in
    let m = moves_by b.plan.stars before after a in
    let few : length before.vertices + length b.plan.stars ≤ s.lines =
    let G : Option Block → Type 0 = λ o. length before.vertices + updates_in o ≤ s.lines in
    subst G (sym h.block) h.network.few in
    subst F h.block (record {
      network = record {
        vertices = h.network.vertices ∙ sym m.opening;
        smooth = m.smooth ∙ h.network.smooth;
        stands = stands_by b.plan.stars before after s.commands a h.network.stands;
        few = omega (arith, m.vertices, few);
      };
      block = refl;
      asks = omega arith;
      lawful = record {
        most = h.lawful.most;
        block = tt;
        live = λ none. refl;
        commands = stars_more s.vertices b.plan.stars s.commands h.lawful.commands (block_is before s b h).stars;
      };
    })

-- ---- lines outside and inside a block

counted_network : (seen : Option EngineSeen) (s : State) → HasNetwork seen s → HasNetwork seen (counted s)
counted_network None s k = k
counted_network (Some e) s k =
    record { vertices = k.vertices; smooth = k.smooth; stands = k.stands; few = omega (arith, k.few) }

-- a line that changes nothing
pub counted_inside : (seen : Option EngineSeen) (open_block : Option Block) (s : State) → HasInside seen open_block s
    → HasInside seen open_block (counted s)
counted_inside seen open_block s h =
    record {
      network = counted_network seen s h.network;
      block = h.block;
      asks = omega (arith, h.asks);
      lawful
          = counted_lawful s h.lawful;
    }

pub updated_outside : {E : Type 0} (r : Result (Unit {0}) E) (before after : EngineSeen) (s : State) (star : Star)
    → HasInside (Some before) None s → IsLawfulState (updated_in (counted s) s.block star)
    → OnOk r (Advance before (Star_update star) after)
    → OnOk r (HasInside (Some after) None (updated_in (counted s) s.block star))
updated_outside (Err e) before after s star h lawful a = tt
updated_outside (Ok u) before after s star h lawful a =
    let F : Option Block → Type 0 =
    λ o. IsLawfulState (updated_in (counted s) o star)
    → HasInside (Some after) None (updated_in (counted s) o star) in
    subst F h.block (λ l. record {
      network = record {
        vertices = h.network.vertices ∙ sym a.opening;
        smooth = a.smooth ∙ h.network.smooth;
        stands = law before after (Star_update star) s.commands a h.network.stands;
        few = omega (arith, ap length a.vertices, length-append before.vertices (Some star.vertex ∷ []), h.network.few);
      };
      block = h.block;
      asks = omega (arith, h.asks);
      lawful = l;
    }) lawful

-- the network grew
pub grown_outside : {E : Type 0} (r : Result (Unit {0}) E) (before after : EngineSeen) (s : State) (n : ℕ)
    → HasInside (Some before) None s → IsLawfulState (accepted (counted s) (line.Grow n))
    → OnOk r (Advance before (Grow_update n) after)
    → OnOk r (HasInside (Some after) None (accepted (counted s) (line.Grow n)))
grown_outside (Err e) before after s n h lawful a = tt
grown_outside (Ok u) before after s n h lawful a = record {
  network = record {
    vertices = h.network.vertices ∙ sym a.opening;
    smooth = a.smooth ∙ h.network.smooth;
    stands = law before after (Grow_update n) s.commands a h.network.stands;
    few = omega (arith, ap length a.vertices, length-append before.vertices (None ∷ []), h.network.few);
  };
  block = h.block;
  asks = omega (arith, h.asks);
  lawful = lawful;
}

pub edge_outside : {E : Type 0} (r : Result (Unit {0}) E) (before after : EngineSeen) (s : State) (u v : ℕ)
    (w : Option ℕ) → HasInside (Some before) None s
    → IsLawfulState (updated_in (counted s) s.block (star_with (graph_here (counted s) s.block) u v w))
    → OnOk r (Advance before (Star_update (star_with before.graph u v w)) after)
    → OnOk r (HasInside (Some after) None
    (updated_in (counted s) s.block (star_with (graph_here (counted s) s.block) u v w)))
edge_outside r before after s u v w h lawful a =
    let G : Option Block → Type 0 = λ o. before.graph ≡ graph_here (counted s) o in
    let here : before.graph ≡ graph_here (counted s) s.block = subst G h.block (graph_is before s h.network) in
    let F : Graph → Type 0 = λ g. OnOk r (Advance before (Star_update (star_with g u v w)) after) in
    updated_outside r before after s (star_with (graph_here (counted s) s.block) u v w) h lawful (subst F here a)

pub updated_inside : {E : Type 0} (r : Result (Unit {0}) E) (e : EngineSeen) (old new : Block) (s : State) (star : Star)
    → HasInside (Some e) (Some old) s → IsLawfulState (updated_in (counted s) s.block star)
    → OnOk r (new ≡ record old { plan = with_star old.plan star })
    → OnOk r (HasInside (Some e) (Some new) (updated_in (counted s) s.block star))
updated_inside (Err x) e old new s star h lawful is = tt
updated_inside (Ok u) e old new s star h lawful is =
    let F : Option Block → Type 0 =
    λ o. (length e.vertices + updates_in o ≤ s.lines) → (asks_in o ≤ s.lines)
    → IsLawfulState (updated_in (counted s) o star)
    → HasInside (Some e) (Some new) (updated_in (counted s) o star) in
    subst F h.block (λ few asks l. record {
      network =
          record {
            vertices = h.network.vertices;
            smooth = h.network.smooth;
            stands = h.network.stands;
            few = omega
                (arith, few, length-append old.plan.stars (star ∷ []));
          };
      block = ap Some is;
      asks = omega (arith, asks);
      lawful = l;
    }) h.network.few h.asks lawful

pub edge_inside : {E : Type 0} (r : Result (Unit {0}) E) (e : EngineSeen) (old new : Block) (s : State) (u v : ℕ)
    (w : Option ℕ) → HasInside (Some e) (Some old) s
    → IsLawfulState (updated_in (counted s) s.block (star_with (graph_here (counted s) s.block) u v w))
    → OnOk r (new ≡ record old { plan = with_star old.plan (star_with (last_graph old.plan) u v w) })
    → OnOk r (HasInside (Some e) (Some new)
    (updated_in (counted s) s.block (star_with (graph_here (counted s) s.block) u v w)))
edge_inside r e old new s u v w h lawful is =
    let G : Option Block → Type 0 = λ o. last_graph old.plan ≡ graph_here (counted s) o in
    let here : last_graph old.plan ≡ graph_here (counted s) s.block = subst G h.block refl in
    let F : Graph → Type 0 = λ g. OnOk r (new ≡ record old { plan = with_star old.plan (star_with g u v w) }) in
    updated_inside r e old new s (star_with (graph_here (counted s) s.block) u v w) h lawful (subst F here is)

pub asked_inside : {E : Type 0} (r : Result (Unit {0}) E) (e : EngineSeen) (old new : Block) (s : State) (ask : Ask)
    → HasInside (Some e) (Some old) s → IsLawfulState (asked_in (counted s) s.block ask)
    → OnOk r (new ≡ record old { asks = old.asks ++ ask ∷ [] })
    → OnOk r (HasInside (Some e) (Some new) (asked_in (counted s) s.block ask))
asked_inside (Err x) e old new s ask h lawful is = tt
asked_inside (Ok u) e old new s ask h lawful is =
    let F : Option Block → Type 0 =
    λ o. (length e.vertices + updates_in o ≤ s.lines) → (asks_in o ≤ s.lines)
    → IsLawfulState (asked_in (counted s) o ask) → HasInside (Some e) (Some new) (asked_in (counted s) o ask) in
    subst F h.block (λ few asks l. record {
      network =
          record {
            vertices = h.network.vertices;
            smooth = h.network.smooth;
            stands = h.network.stands;
            few = omega
                (arith, few);
          };
      block = ap Some is;
      asks = omega (arith, asks, length-append old.asks (ask ∷ []));
      lawful = l;
    }) h.network.few h.asks lawful

pub asked_outside : (e : EngineSeen) (s : State) (ask : Ask) → HasInside (Some e) None s
    → HasInside (Some e) None (asked_in (counted s) s.block ask)
asked_outside e s ask h =
    let F : Option Block → Type 0 = λ o. HasInside (Some e) None (asked_in (counted s) o ask) in
    subst F h.block (counted_inside (Some e) None s h)

-- without a block there is nothing to run
pub none_ran : (seen : Option EngineSeen) (s : State) → HasInside seen None s
    → HasInside seen None (accepted (counted s) line.End)
none_ran seen s h =
    let F : Option Block → Type 0 = λ o. HasInside seen None (ended_in (counted s) o) in
    subst F h.block (counted_inside seen None s h)

-- a block was begun
pub begun : (e : EngineSeen) (b : Block) (open_block : Option Block) (s : State) (n : ℕ)
    → HasInside (Some e) open_block s → s.terms.readers ≡ Some n
    → b ≡ record { plan = record { start = e.graph; lo = length e.vertices; stars = [] }; asks = [] }
    → IsLawfulState (accepted (counted s) line.Block) → HasInside (Some e) (Some b) (accepted (counted s) line.Block)
begun e b open_block s n h readers is lawful =
    let F : Option ℕ → Type 0 =
    λ r. IsLawfulState (begun_in (counted s) r) → HasInside (Some e) (Some b) (begun_in (counted s) r) in
    let fresh : b ≡ fresh_block (counted s) =
    is ∙ (λ i. record {
      plan = record
          { start = graph_is e s h.network i; lo = length (h.network.stands.outline.vertices i); stars = [] };
      asks = [];
    }) in
    subst F (sym readers) (λ l. record {
      network =
          record {
            vertices = h.network.vertices;
            smooth = h.network.smooth;
            stands = h.network.stands;
            few = omega
                (arith, h.network.few);
          };
      block = ap Some fresh;
      asks = omega arith;
      lawful = l;
    }) lawful

pub begun_when : (seen : Option EngineSeen) (open_block : Option Block) (e : EngineSeen) (b : Block) (s : State)
    (l : Line) (terms : Terms) (start : Graph) (lo : ℕ) → l ≡ line.Block → seen ≡ Some e → is_some terms.readers ≡ true
    → terms ≡ s.terms → b ≡ record { plan = record { start = start; lo = lo; stars = [] }; asks = [] }
    → start ≡ e.graph → lo ≡ length e.vertices → FitsContext (context_at (vertices_in seen) terms open_block) l
    → HasInside seen open_block s → HasInside (Some e) (Some b) (accepted (counted s) l)
begun_when seen open_block e b s l terms start lo is se live told fresh graph number fits h =
    let F : Option EngineSeen → Type 0 = λ z. HasInside z open_block s in
    let G : Option EngineSeen → Type 0 = λ z. FitsContext (context_at (vertices_in z) terms open_block) l in
    let H : Line → Type 0 = λ k. FitsContext (context_at (vertices_in (Some e)) terms open_block) k in
    let K : Line → Type 0 = λ k. HasInside (Some e) (Some b) (accepted (counted s) k) in
    let readers : terms.readers ≡ s.terms.readers = ap (λ (t : Terms). t.readers) told in
    subst K (sym is) (at terms.readers readers live (subst F se h) (subst H is (subst G se fits)))
  where
    same : b ≡ record { plan = record { start = e.graph; lo = length e.vertices; stars = [] }; asks = [] }
    same = fresh ∙ (λ i. record { plan = record { start = graph i; lo = number i; stars = [] }; asks = [] })

    at : (rd : Option ℕ) → rd ≡ s.terms.readers → is_some rd ≡ true → HasInside (Some e) open_block s
        → FitsContext (context_at (vertices_in (Some e)) terms open_block) line.Block
        → HasInside (Some e) (Some b) (accepted (counted s) line.Block)
    at None k l h f = absurd (let no : false ≡ true = l in cc)
    at (Some n) k l h f =
        begun e b open_block s n h (sym k) same (lawful_then (Some e) open_block terms s line.Block h f)

pub not_begun : (seen : Option EngineSeen) (open_block : Option Block) (s : State) → HasInside seen open_block s
    → s.terms.readers ≡ None → HasInside seen open_block (accepted (counted s) line.Block)
not_begun seen open_block s h none =
    let F : Option ℕ → Type 0 = λ r. HasInside seen open_block (begun_in (counted s) r) in
    subst F (sym none) (counted_inside seen open_block s h)

-- what a run of a block leaves, and what it replies
pub ran_stands : {E : Type 0} (r : Result (List Answer) E) (n : ℕ) (before after : EngineSeen) (s : State) (b : Block)
    → HasInside (Some before) (Some b) s → HasRun n before b.plan b.asks r after
    → IfOk r (λ _. HasInside (Some after) None (accepted (counted s) line.End))
ran_stands (Err e) n before after s b h run = tt
ran_stands (Ok a) n before after s b h run = block_ran before after s b h run.taken

pub ran_replies : {E : Type 0} (r : Result (List Answer) E) (n : ℕ) (readers : Option ℕ) (before after : EngineSeen)
    (s : State) (b : Block) → HasInside (Some before) (Some b) s → readers ≡ Some n
    → HasRun n before b.plan b.asks r after
    → IfOk r (λ answers. HasBlockReply readers s.block (flat_map answer_text answers))
ran_replies (Err e) n readers before after s b h some run = tt
ran_replies (Ok a) n readers before after s b h some run =
    let F : Option ℕ → Type 0 = λ r. HasBlockReply r s.block (flat_map answer_text a) in
    let G : Option Block → Type 0 = λ o. HasBlockReply (Some n) o (flat_map answer_text a) in
    subst F (sym some) (subst G h.block (a, run.answers, refl))

-- the block may be run
pub can_run : (e : EngineSeen) (s : State) (b : Block) → HasInside (Some e) (Some b) s → CanRun e b.plan b.asks
can_run e s b h =
    let k = block_is e s b h in
    record {
      not_spent = h.network.stands.not_spent;
      start = record {
        graph = graph_is e s h.network
            ∙ sym k.start;
        number = ap length h.network.stands.outline.vertices ∙ sym k.lo;
      };
      asks_of = k.asks;
    }

pub some_readers : (seen : Option EngineSeen) (b : Block) (s : State) → HasInside seen (Some b) s → IsSome s.terms.readers
some_readers seen b s h = at s.terms.readers refl
  where
    at : (r : Option ℕ) → s.terms.readers ≡ r → IsSome r
    at None e = absurd (let k : Some b ≡ None = h.block ∙ h.lawful.live e in cc)
    at (Some n) e = refl

pub inside_as : (seen : Option EngineSeen) (open_block : Option Block) (e : EngineSeen) (b : Block) (s : State)
    → seen ≡ Some e → open_block ≡ Some b → HasInside seen open_block s → HasInside (Some e) (Some b) s
inside_as seen open_block e b s se ob h =
    let F : Option EngineSeen → Type 0 = λ z. HasInside z open_block s in
    let G : Option Block → Type 0 = λ o. HasInside (Some e) o s in
    subst G ob (subst F se h)

-- the end of a block, where the session before it is that of some state
module _ {E : Type 0} (r : Result (List Answer) E) (seen : Option EngineSeen) (open_block : Option Block)
    (readers : Option ℕ) (before after : EngineSeen) (b : Block) (s0 s : State) (was : HasInside seen open_block s0)
    (told : s0.terms.readers ≡ readers) (se : seen ≡ Some before) (ob : open_block ≡ Some b)
    (run : (x : ℕ) → readers ≡ Some x → HasRun x before b.plan b.asks r after) (h : HasInside seen open_block s) where
  pub end_stands : (left : Option Block) → left ≡ None
      → IfOk r (λ _. HasInside (Some after) left (accepted (counted s) line.End))
  end_stands left none = at readers refl
    where
      at : (rd : Option ℕ) → readers ≡ rd → IfOk r (λ _. HasInside (Some after) left (accepted (counted s) line.End))
      at None e = absurd (let k : Some b ≡ None = sym ob ∙ was.block ∙ was.lawful.live (told ∙ e) in cc)
      at (Some n) e =
          let F : Option Block → Type 0 = λ o. IfOk r (λ _. HasInside (Some after) o (accepted (counted s) line.End)) in
          subst F (sym none) (ran_stands r n before after s b (inside_as seen open_block before b s se ob h) (run n e))

  pub end_replies : IfOk r (λ answers. HasBlockReply readers s.block (flat_map answer_text answers))
  end_replies = at readers refl
    where
      at : (rd : Option ℕ) → readers ≡ rd
          → IfOk r (λ answers. HasBlockReply readers s.block (flat_map answer_text answers))
      at None e = absurd (let k : Some b ≡ None = sym ob ∙ was.block ∙ was.lawful.live (told ∙ e) in cc)
      at (Some n) e =
          ran_replies r n readers before after s b (inside_as seen open_block before b s se ob h) e (run n e)

-- what the open block needs to know of a line
pub block_vertices : (seen : Option EngineSeen) (open_block : Option Block) (e : EngineSeen) (b : Block) (s : State)
    → seen ≡ Some e → open_block ≡ Some b → HasInside seen open_block s
    → (last_graph b.plan).vertices ≡ e.graph.vertices
block_vertices seen open_block e b s se ob was =
    let h = inside_as seen open_block e b s se ob was in
    let F : Option Block → Type 0 = λ o. (graph_here s o).vertices ≡ (present_graph s).vertices in
    subst F (sym h.block) (here_vertices s h.lawful) ∙ sym (vertices_are (Some e) (Some b) s h)

pub fits_in : (seen : Option EngineSeen) (open_block : Option Block) (terms : Terms) (e : EngineSeen) (b : Block)
    (l : Line) → seen ≡ Some e → open_block ≡ Some b → (last_graph b.plan).vertices ≡ e.graph.vertices
    → FitsContext (context_at (vertices_in seen) terms open_block) l
    → FitsContext (context_at (last_graph b.plan).vertices terms (Some b)) l
fits_in seen open_block terms e b l se ob same f =
    let F : Option EngineSeen → Type 0 = λ z. FitsContext (context_at (vertices_in z) terms open_block) l in
    let G : Option Block → Type 0 = λ o. FitsContext (context_at e.graph.vertices terms o) l in
    let H : ℕ → Type 0 = λ n. FitsContext (context_at n terms (Some b)) l in
    subst H (sym same) (subst G ob (subst F se f))

pub fits_out : (seen : Option EngineSeen) (open_block : Option Block) (terms : Terms) (e : EngineSeen) (l : Line)
    → seen ≡ Some e → open_block ≡ None → FitsContext (context_at (vertices_in seen) terms open_block) l
    → FitsContext (context_at e.graph.vertices terms None) l
fits_out seen open_block terms e l se ob f =
    let F : Option EngineSeen → Type 0 = λ z. FitsContext (context_at (vertices_in z) terms open_block) l in
    let G : Option Block → Type 0 = λ o. FitsContext (context_at e.graph.vertices terms o) l in
    subst G ob (subst F se f)

pub lawful_at : (seen : EngineSeen) (open_block : Option Block) (terms : Terms) (s : State) (l : Line)
    → HasInside (Some seen) open_block s → FitsContext (context_at seen.graph.vertices terms open_block) l
    → IsLawfulState (accepted (counted s) l)
lawful_at seen open_block terms s l h f = lawful_then (Some seen) open_block terms s l h f

pub lawful_inside : (e : EngineSeen) (b : Block) (terms : Terms) (s : State) (l : Line)
    → HasInside (Some e) (Some b) s → FitsContext (context_at (last_graph b.plan).vertices terms (Some b)) l
    → IsLawfulState (accepted (counted s) l)
lawful_inside e b terms s l h f =
    let F : ℕ → Type 0 = λ n. FitsContext (context_at n terms (Some b)) l in
    lawful_then (Some e) (Some b) terms s l h (subst F (block_vertices (Some e) (Some b) e b s refl refl h) f)

-- the plan of the open block has room for one update more
pub room_in : (seen : Option EngineSeen) (open_block : Option Block) (e : EngineSeen) (b : Block) (s : State)
    → seen ≡ Some e → open_block ≡ Some b → HasInside seen open_block s → s.lines < 2 ^ 40 → hi_of b.plan < 2 ^ 40
room_in seen open_block e b s se ob was few_lines =
    let h = inside_as seen open_block e b s se ob was in
    let G : Option Block → Type 0 = λ o. length e.vertices + updates_in o ≤ s.lines in
    let k = block_is e s b h in
    let few : length e.vertices + length b.plan.stars ≤ s.lines = subst G (sym h.block) h.network.few in
    omega (arith, few, few_lines, ap length h.network.stands.outline.vertices, k.lo)

-- a line that fits in a block has no reply
pub silent_inside : (n m : ℕ) (smooth : Bool) (commands : List Command) (terms : Terms) (b : Block) (l : Line)
    → FitsContext (context_at n terms (Some b)) l → HasReply m smooth commands l []
silent_inside n m smooth commands terms b line.Nothing f = refl
silent_inside n m smooth commands terms b (line.Vertices k) f = refl
silent_inside n m smooth commands terms b (line.Star star) f = refl
silent_inside n m smooth commands terms b (line.Edge u v w) f = refl
silent_inside n m smooth commands terms b (line.Cut u v) f = refl
silent_inside n m smooth commands terms b (line.Dist x y) f = absurd (let no : true ≡ false = f.0 in cc)
silent_inside n m smooth commands terms b (line.Path x y) f = absurd (let no : true ≡ false = f.0 in cc)
silent_inside n m smooth commands terms b (line.Row x) f = absurd (let no : true ≡ false = f.0 in cc)
silent_inside n m smooth commands terms b line.Stats f = absurd (let no : true ≡ false = f.0 in cc)
silent_inside n m smooth commands terms b (line.Age list) f = absurd (let no : true ≡ false = f.0 in cc)
silent_inside n m smooth commands terms b line.Cert f = absurd (let no : true ≡ false = f.0 in cc)
silent_inside n m smooth commands terms b (line.Grow k) f = refl
silent_inside n m smooth commands terms b (line.Ecc x) f = absurd (let no : true ≡ false = f.0 in cc)
silent_inside n m smooth commands terms b line.Report f = absurd (let no : true ≡ false = f.0 in cc)
silent_inside n m smooth commands terms b (line.Through v) f = absurd (let no : true ≡ false = f.0 in cc)
silent_inside n m smooth commands terms b line.Block f = refl
silent_inside n m smooth commands terms b (line.Ask x y since) f = refl
silent_inside n m smooth commands terms b line.End f = refl

-- what is said of the network's number of vertices and smoothing holds of those of the state
pub of_network : {E : Type 0} (r : Result (Unit {0}) E) (P : ℕ → Bool → List ℕ → Type 0) (e : EngineSeen) (s : State)
    (old new : List ℕ) → IsNetworkOf e s → OnOk r (GrowsBy (P e.opening e.smooth) old new)
    → OnOk r (GrowsBy (P s.vertices s.terms.smooth) old new)
of_network r P e s old new h grows =
    let F : ℕ → Type 0 = λ n. OnOk r (GrowsBy (P n e.smooth) old new) in
    let G : Bool → Type 0 = λ b. OnOk r (GrowsBy (P s.vertices b) old new) in
    subst G h.smooth (subst F (sym h.vertices) grows)

-- a text grows by a reply that is empty
pub grows_by_none : {E : Type 0} (r : Result (Unit {0}) E) (P : List ℕ → Type 0) (text : List ℕ) → P []
    → OnOk r (GrowsBy P text text)
grows_by_none (Err e) P text h = tt
grows_by_none (Ok u) P text h = ([], h, sym (append-nil text))
