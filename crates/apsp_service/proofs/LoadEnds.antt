-- How a run over generated input ends.
use Rattle.std.proofs.Common.{◌≡◌, ◌⊎◌, ℕ, ◌≤◌, Bool, false, List, [], ◌++◌, length, take, drop, refl, sym, ap, subst, ◌∙◌, arith, inl, inr}
use Rattle.std.specs.Prelude.{Option, Some, None, Result, Ok, Err, IsErrAnd}
use Rattle.std.specs.Io.KnownBytes.{Consumes, Appends}
use Rattle.std.proofs.lemmas.List.{take-append-drop}
use Rattle.certificate.proofs.Given.{appends_nothing}
use Rattle.network_replies.specs.Streams.{SourceSeen, SinkSeen}
use Rattle.command_line.specs.declared.words.Mode.{Mode}
use Rattle.command_line.specs.declared.words.Mode.TheVariants as mode
use Rattle.network_replies.specs.declared.stop.Stop.{Stop}
use Rattle.network_replies.specs.declared.stop.Stop.TheVariants as stop
use Rattle.apsp_service.specs.Giving.{TextGiven}
use Rattle.apsp_service.specs.Load.{IsLoadReply}
use Rattle.apsp_service.specs.Outcome.{IsLoadEnd}
use Rattle.apsp_service.specs.Ending.{IsShort, EndsAs}
use Rattle.apsp_service.proofs.Loads.{load_exists}

nothing_taken : (o : Option (List ℕ)) → Consumes o o []
nothing_taken None = tt
nothing_taken (Some xs) = refl

-- the source is as it was, and the sink got a front of the line
short_load : (n seed workers : ℕ) (source : SourceSeen) (old new : SinkSeen) (front rest : List ℕ)
    → IsLoadReply n seed (front ++ rest) → Appends old.held new.held front
    → IsShort (mode.Load n seed workers) (record { source = source; sink = old })
    (record { source = source; sink = new })
short_load n seed workers source old new front rest reply given = record {
  bytes = [];
  taken = nothing_taken source.left;
  few = omega arith;
  front = λ more told. record { front = front; rest = rest; status = 0; given = given; session = (reply, refl) };
}

pub load_memory : (n seed workers : ℕ) (r : Result Bool Stop) (source : SourceSeen) (sink : SinkSeen)
    → IsErrAnd r (λ y. y ≡ stop.Memory) → EndsAs (mode.Load n seed workers) r (record { source = source; sink = sink })
    (record { source = source; sink = sink })
load_memory n seed workers (Ok a) source sink h = absurd h
load_memory n seed workers (Err y) source sink h =
    let F : Stop → Type 0 =
    λ z. EndsAs (mode.Load n seed workers) (Err z) (record { source = source; sink = sink })
    (record { source = source; sink = sink }) in
    let line = load_exists n seed in
    subst F (sym h) (
      short_load n seed workers source sink sink [] line.0 line.1 (appends_nothing sink.held),
      λ check.
          absurd check,
    )

pub load_stops : (n seed workers : ℕ) (r : Result Bool Stop) (e : Stop) (source : SourceSeen) (old new : SinkSeen)
    (text : List ℕ) → IsErrAnd r (λ y. y ≡ e) → IsLoadReply n seed text → TextGiven {A = Unit {0}} (Err e) old new text
    → EndsAs (mode.Load n seed workers) r (record { source = source; sink = old })
    (record { source = source; sink = new })
load_stops n seed workers (Ok a) e source old new text h reply given = absurd h
load_stops n seed workers (Err y) e source old new text h reply given =
    let F : Stop → Type 0 =
    λ z. EndsAs (mode.Load n seed workers) (Err z) (record { source = source; sink = old })
    (record { source = source; sink = new }) in
    subst F (sym h) (at e given)
  where
    whole : (k : ℕ) → IsLoadReply n seed (take k text ++ drop k text)
    whole k = subst (λ t. IsLoadReply n seed t) (sym (take-append-drop k text)) reply

    at : (z : Stop) → TextGiven {A = Unit {0}} (Err z) old new text
        → EndsAs (mode.Load n seed workers) (Err z) (record { source = source; sink = old })
        (record { source = source; sink = new })
    at stop.Source s = absurd s
    at stop.Sink s =
        (short_load n seed workers source old new (take s.0.0 text) (drop s.0.0 text) (whole s.0.0) s.0.2, s.1)
    at stop.Memory s = (short_load n seed workers source old new [] text reply s, λ check. absurd check)
    at stop.Limit s = absurd s

pub load_done : (n seed workers : ℕ) (source : SourceSeen) (old new : SinkSeen) (text : List ℕ)
    → IsLoadReply n seed text → Appends old.held new.held text
    → EndsAs (mode.Load n seed workers) (Ok false) (record { source = source; sink = old })
    (record { source = source; sink = new })
load_done n seed workers source old new text reply given = (
  record {
    bytes = [];
    text = text;
    taken = nothing_taken source.left;
    last = λ reads. absurd (reads tt);
    unread
        = λ load. refl;
    given = given;
    session = (reply, refl);
  },
  omega arith,
)

-- ---- it ends in one of three ways

pub memory_end : (r : Result Bool Stop) → IsErrAnd r (λ y. y ≡ stop.Memory) → IsLoadEnd r
memory_end (Ok a) h = absurd h
memory_end (Err y) h = inr h

pub given_end : (r : Result Bool Stop) (e : Stop) (old new : SinkSeen) (text : List ℕ) → IsErrAnd r (λ y. y ≡ e)
    → TextGiven {A = Unit {0}} (Err e) old new text → IsLoadEnd r
given_end (Ok a) e old new text h given = absurd h
given_end (Err y) e old new text h given =
    let F : Stop → Type 0 = λ z. (z ≡ stop.Sink) ⊎ (z ≡ stop.Memory) in
    subst F (sym h) (at e given)
  where
    at : (z : Stop) → TextGiven {A = Unit {0}} (Err z) old new text → (z ≡ stop.Sink) ⊎ (z ≡ stop.Memory)
    at stop.Source s = absurd s
    at stop.Sink s = inl refl
    at stop.Memory s = inr refl
    at stop.Limit s = absurd s
