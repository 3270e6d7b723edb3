-- A run that checks: what was taken, and what the sink got.
use Rattle.std.proofs.Common.{◌≡◌, ℕ, ◌+◌, ◌≤◌, List, [], ◌++◌, length, take, drop, refl, sym, ap, subst, ◌∙◌, arith, append-nil}
use Rattle.std.specs.Prelude.{Bool, Option, Some, Result, Ok, Err, IsErrAnd}
use Rattle.std.specs.Io.KnownBytes.{Consumes, IsAtEnd, Appends}
use Rattle.std.proofs.lemmas.List.{take-append-drop, take_all}
use Rattle.std.specs.declared.alloc.Global.{Global}
use Rattle.std.specs.declared.vec.Vec.{Vec}
use Rattle.network_replies.specs.Streams.{SourceSeen, SinkSeen, Streams}
use Rattle.command_line.specs.declared.words.Mode.TheVariants as mode
use Rattle.network_replies.specs.declared.stop.Stop.{Stop}
use Rattle.network_replies.specs.declared.stop.Stop.TheVariants as stop
use Rattle.apsp_service.specs.declared.run.TheConstants.{MOST_INPUT}
use Rattle.apsp_service.specs.Check.{IsChecked}
use Rattle.apsp_service.specs.Giving.{TextGiven}
use Rattle.apsp_service.specs.Outcome.{status_after, IsStoppedEarly, GotFront}
use Rattle.apsp_service.specs.Ending.{IsShort, EndsAs, StopsTaking, TookMore, MoreEnds, TookAll, AllTaken}
use Rattle.apsp_service.proofs.Checked.{checked_exists}
use Rattle.apsp_service.proofs.Given.{appends_nothing, rose_later}
use Rattle.apsp_service.proofs.Ran.{consumes_nothing, consumes_both}

-- ---- all pieces

pub consumes_none : (left : Option (List ℕ)) (bytes : List ℕ) → bytes ≡ [] → Consumes left left bytes
consumes_none left bytes none =
    let F : List ℕ → Type 0 = λ z. Consumes left left z in subst F (sym none) (consumes_nothing left)

pub all_stops : (r : Result (Vec ℕ Global) Stop) (e : Stop) (first mid now : SourceSeen) (bytes new : List ℕ)
    → IsErrAnd r (λ y. y ≡ e) → Consumes first.left mid.left bytes → first.faults ≤ mid.faults
    → MoreEnds (Err e) mid now bytes new → AllTaken r first now
all_stops (Ok a) e first mid now bytes new h taken later ends = absurd h
all_stops (Err y) e first mid now bytes new h taken later ends =
    let F : Stop → Type 0 = λ z. AllTaken (Err z) first now in
    subst F (sym h) (
      bytes ++ ends.0,
      consumes_both first.left mid.left now.left bytes ends.0 taken ends.1,
      from_first e
          ends.2,
    )
  where
    from_first : (z : Stop) → StopsTaking z mid now (bytes ++ ends.0) → StopsTaking z first now (bytes ++ ends.0)
    from_first stop.Source s = (s.0, rose_later first.faults mid.faults now.faults now.faults later s.1 (omega arith))
    from_first stop.Sink s = s
    from_first stop.Memory s = s
    from_first stop.Limit s = s

pub more_taken : (first mid now : SourceSeen) (bytes new : List ℕ) (count : ℕ) → Consumes first.left mid.left bytes
    → TookMore mid now bytes new count → Consumes first.left now.left new
more_taken first mid now bytes new count taken more =
    let F : List ℕ → Type 0 = λ z. Consumes first.left now.left z in
    subst F (sym more.put) (consumes_both first.left mid.left now.left bytes more.piece taken more.taken)

-- ---- the end of the run

nothing_front : (held held_now : Option (List ℕ)) (input : List ℕ) → Appends held held_now []
    → GotFront mode.Check input held held_now
nothing_front held held_now input nothing =
    let c = checked_exists (take MOST_INPUT input) in
    record { front = []; rest = c.0; status = c.1; given = nothing; session = c.2 }

nothing_short : (before now : Streams) (bytes : List ℕ) → Consumes before.source.left now.source.left bytes
    → length bytes ≤ MOST_INPUT → Appends before.sink.held now.sink.held [] → IsShort mode.Check before now
nothing_short before now bytes taken few nothing = record {
  bytes = bytes;
  taken = taken;
  few = omega (arith, few);
  front = λ more told. nothing_front before.sink.held now.sink.held (bytes ++ more) nothing;
}

stopped_early : (before now : SourceSeen) (sink : SinkSeen) (bytes : List ℕ) → Consumes before.left now.left bytes
    → IsStoppedEarly mode.Check (record { source = before; sink = sink }) (record { source = now; sink = sink })
stopped_early before now sink bytes taken =
    record { bytes = bytes; text = []; taken = taken; given = appends_nothing sink.held; replies = refl }

-- a stop before anything is said: the sink is as it was
pub check_stops : (r : Result Bool Stop) (e : Stop) (before now : SourceSeen) (sink : SinkSeen)
    → IsErrAnd r (λ y. y ≡ e) → AllTaken (Err e) before now
    → EndsAs mode.Check r (record { source = before; sink = sink }) (record { source = now; sink = sink })
unfolding stopped_early
check_stops (Ok a) e before now sink h ends = absurd h
check_stops (Err y) e before now sink h ends =
    let F : Stop → Type 0 =
    λ z. EndsAs mode.Check (Err z) (record { source = before; sink = sink }) (record { source = now; sink = sink })
    in
    subst F (sym h) (at e ends.2)
  where
    at : (z : Stop) → StopsTaking z before now ends.0
        → EndsAs mode.Check (Err z) (record { source = before; sink = sink }) (record { source = now; sink = sink })
    at stop.Source s = (stopped_early before now sink ends.0 ends.1, s.0, s.1)
    at stop.Sink s = absurd s
    at stop.Memory s = (
      nothing_short (record { source = before; sink = sink }) (record { source = now; sink = sink }) ends.0 ends.1 s
          (appends_nothing sink.held),
      λ check. appends_nothing sink.held,
    )
    at stop.Limit s = (stopped_early before now sink ends.0 ends.1, s)

pub check_without_memory : (r : Result Bool Stop) (before now : SourceSeen) (sink : SinkSeen) (bytes : List ℕ)
    → IsErrAnd r (λ y. y ≡ stop.Memory) → TookAll before now bytes
    → EndsAs mode.Check r (record { source = before; sink = sink }) (record { source = now; sink = sink })
check_without_memory (Ok a) before now sink bytes h all = absurd h
check_without_memory (Err y) before now sink bytes h all =
    let F : Stop → Type 0 =
    λ z. EndsAs mode.Check (Err z) (record { source = before; sink = sink }) (record { source = now; sink = sink })
    in
    subst F (sym h) (
      nothing_short (record { source = before; sink = sink }) (record { source = now; sink = sink })
          bytes all.taken all.few (appends_nothing sink.held),
      λ check. appends_nothing sink.held,
    )

-- nothing is left behind all bytes
all_of : (left_now : Option (List ℕ)) (bytes more : List ℕ) → IsAtEnd left_now → length bytes ≤ MOST_INPUT
    → left_now ≡ Some more → take MOST_INPUT (bytes ++ more) ≡ bytes
all_of left_now bytes more last few told =
    let F : Option (List ℕ) → Type 0 = λ o. IsAtEnd o in
    let none : more ≡ [] = subst F told last in
    ap (λ z. take MOST_INPUT (bytes ++ z)) none ∙ ap (take MOST_INPUT) (append-nil bytes)
    ∙ take_all MOST_INPUT bytes few

front_short : (before now : Streams) (bytes text : List ℕ) (status k : ℕ) → TookAll before.source now.source bytes
    → IsChecked bytes text status → Appends before.sink.held now.sink.held (take k text) → IsShort mode.Check before now
front_short before now bytes text status k all checked given = record {
  bytes = bytes;
  taken = all.taken;
  few = omega (arith, all.few);
  front = λ more told.
      let F : List ℕ → Type 0 = λ z. IsChecked z text status in
      let G : List ℕ → Type 0 = λ t. IsChecked (take MOST_INPUT (bytes ++ more)) t status in
      let session : IsChecked (take MOST_INPUT (bytes ++ more)) text status =
      subst F (sym (all_of now.source.left bytes more all.last all.few told)) checked in
      record {
        front = take k text;
        rest = drop k text;
        status = status;
        given = given;
        session = subst G
            (sym (take-append-drop k text)) session;
      };
}

pub check_given : (r : Result Bool Stop) (e : Stop) (before now : Streams) (bytes text : List ℕ) (status : ℕ)
    → IsErrAnd r (λ y. y ≡ e) → TookAll before.source now.source bytes → IsChecked bytes text status
    → TextGiven {A = Unit {0}} (Err e) before.sink now.sink text → EndsAs mode.Check r before now
check_given (Ok a) e before now bytes text status h all checked given = absurd h
check_given (Err y) e before now bytes text status h all checked given =
    let F : Stop → Type 0 = λ z. EndsAs mode.Check (Err z) before now in
    subst F (sym h) (at e given)
  where
    at : (z : Stop) → TextGiven {A = Unit {0}} (Err z) before.sink now.sink text → EndsAs mode.Check (Err z) before now
    at stop.Source s = absurd s
    at stop.Sink s = (front_short before now bytes text status s.0.0 all checked s.0.2, s.1)
    at stop.Memory s = (nothing_short before now bytes all.taken all.few s, λ check. s)
    at stop.Limit s = absurd s

pub checked_to_end : (before now : Streams) (bytes text : List ℕ) (refused : Bool)
    → TookAll before.source now.source bytes → IsChecked bytes text (status_after (Ok refused))
    → Appends before.sink.held now.sink.held text → EndsAs mode.Check (Ok refused) before now
checked_to_end before now bytes text refused all checked given = (
  record {
    bytes = bytes;
    text = text;
    taken = all.taken;
    last = λ _. all.last;
    unread = λ load. absurd load;
    given
        = given;
    session = checked;
  },
  all.few,
)
