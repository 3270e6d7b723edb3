-- A run over an input, piece by piece.
use Rattle.std.proofs.Common.{◌≡◌, ℕ, ◌+◌, ◌-◌, ◌<◌, ◌≤◌, List, [], ◌++◌, length, take, Bool, inl, inr, refl, sym, ap, subst, ◌∙◌, arith, append_assoc, append-nil, length-append}
use Rattle.std.specs.Prelude.{Option, Some, None, Result, Ok, Err, IsErrAnd}
use Rattle.std.proofs.lemmas.Bool.{cases_lt}
use Rattle.std.proofs.Math.Seq.{take-append-add}
use Rattle.std.proofs.lemmas.List.{take_all, take-append-le, take-take}
use Rattle.std.specs.Io.KnownBytes.{Consumes, Keeps, IsAtEnd, Appends}
use Rattle.script_reader.specs.Input.{lines_of, line_if_some}
use Rattle.network_replies.specs.Streams.{SourceSeen, SinkSeen, Streams}
use Rattle.apsp_service.specs.declared.session.Session.{Session}
use Rattle.apsp_service.specs.declared.terms.Terms.{Terms}
use Rattle.network_replies.specs.declared.stop.Stop.{Stop}
use Rattle.network_replies.specs.declared.stop.Stop.TheVariants as stop
use Rattle.apsp_service.specs.declared.run.TheConstants.{MOST_INPUT}
use Rattle.apsp_service.specs.Begun.{lines_from, rest_from}
use Rattle.apsp_service.specs.Session.{State, first_state, ending_of, has_refused, after_lines}
use Rattle.apsp_service.specs.Giving.{Gave, GaveFront, GaveFrontOfAll, StopsAmong}
use Rattle.network_replies.specs.Growing.{LinesGiven}
use Rattle.apsp_service.specs.Standing.{HasStateAndContent, HasTaken}
use Rattle.apsp_service.specs.Running.{SoFar, StoppedAfter, StoppedAmong, StopsRun, TookPiece, PieceEnds, with_faults_of, AtEnd, AllEnds, RanToEnd, RunEnds, TakeEnds}
use Rattle.apsp_io.specs.Streams.{GrowsByPrefix}
use Rattle.apsp_service.specs.Lawful.{IsLawfulState}
use Rattle.apsp_service.proofs.Lines.{lines_from-append, lines_go_on, lines_at_end}
use Rattle.apsp_service.proofs.Replied.{after_lines-append, front_none, front_of_more}
use Rattle.apsp_service.proofs.Given.{front_to_end, front_in_ending, gave_to_end, appends_nothing, gave_nothing, gave_more, rose_later, stops_behind}
use Rattle.apsp_service.proofs.Taken.{after_front, gave_front}
use Rattle.network_replies.proofs.Seen.{sink_at}

-- ---- what the source gave

pub consumes_nothing : (left : Option (List ℕ)) → Consumes left left []
consumes_nothing None = tt
consumes_nothing (Some xs) = refl

pub consumes_both : (a b c : Option (List ℕ)) (xs ys : List ℕ) → Consumes a b xs → Consumes b c ys
    → Consumes a c (xs ++ ys)
consumes_both None b c xs ys h k = tt
consumes_both (Some us) None c xs ys h k = absurd h
consumes_both (Some us) (Some vs) None xs ys h k = absurd k
consumes_both (Some us) (Some vs) (Some ws) xs ys h k = h ∙ ap (λ z. xs ++ z) k ∙ sym (append_assoc xs ys ws)

pub consumes_kept : (a b c : Option (List ℕ)) (xs : List ℕ) → Consumes a b xs → Keeps b c → Consumes a c xs
consumes_kept None b c xs h k = tt
consumes_kept (Some us) None c xs h k = absurd h
consumes_kept (Some us) (Some vs) None xs h k = absurd k
consumes_kept (Some us) (Some vs) (Some ws) xs h k = h ∙ ap (λ z. xs ++ z) (sym k)

-- where a session begins
pub opening_is : (a b : Terms) → a ≡ b → first_state a ≡ first_state b
opening_is a b e = ap first_state e

module _ (start : State) (lawful : IsLawfulState start) where
  -- ---- what a stop leaves

  -- the replies to the whole lines of a part are a front of those to all lines
  front_goes_on : (held now : Option (List ℕ)) (part whole rest : List ℕ) → whole ≡ part ++ rest
      → GaveFront held now start (lines_from [] part) → GaveFrontOfAll held now start (lines_of whole)
  front_goes_on held now part whole rest is h =
      let others = lines_go_on part rest in
      let lines_are : lines_of whole ≡ lines_from [] part ++ others.0 = ap lines_of is ∙ others.1 in
      let F : List (List ℕ) → Type 0 = λ ls. GaveFrontOfAll held now start ls in
      subst F (sym lines_are) (front_to_end held now start (lines_from [] part ++ others.0)
      (h.0, front_of_more start (lines_from [] part) others.0 h.0 lawful h.1, h.2))

  take_both : (n : ℕ) (xs ys : List ℕ) → take n (xs ++ ys) ≡ take n xs ++ take (n - length xs) ys
  take_both n xs ys = elim (cases_lt n (length xs)) [
    | inl less ↦
        let none : 0 ≡ n - length xs = omega arith in
        take-append-le n xs ys (omega arith) ∙ sym (append-nil (take n xs)) ∙ ap (λ k. take n xs ++ take k ys) none
    | inr more ↦
        let split : n ≡ length xs + (n - length xs) = omega arith in
        ap (λ k. take k (xs ++ ys)) split ∙ take-append-add xs ys (n - length xs)
        ∙ ap (λ z. z ++ take (n - length xs) ys) (sym (take_all n xs more))
  ]

  take_more_front : (n : ℕ) (xs ys part : List ℕ) → take n xs ≡ part → take n (xs ++ ys) ≡ part
      ++ take (n - length xs) ys
  take_more_front n xs ys part is = take_both n xs ys ∙ ap (λ z. z ++ take (n - length xs) ys) is

  among : (before now : Streams) (bytes part : List ℕ) → Consumes before.source.left now.source.left bytes
      → length bytes ≤ MOST_INPUT + 1 → take MOST_INPUT bytes ≡ part
      → GaveFront before.sink.held now.sink.held start (lines_from [] part) → StoppedAmong start before now bytes
  among before now bytes part taken few is h = record {
    taken = taken;
    few = few;
    front = λ more told. front_goes_on before.sink.held now.sink.held part (take MOST_INPUT (bytes ++ more))
        (take (MOST_INPUT - length bytes) more) (take_more_front MOST_INPUT bytes more part is) h;
  }

  pub stops_run : (e : Stop) (before now : Streams) (bytes part : List ℕ)
      → Consumes before.source.left now.source.left bytes → length bytes ≤ MOST_INPUT + 1 → take MOST_INPUT bytes ≡ part
      → StopsAmong e before.sink now.sink start (lines_from [] part) → StopsRun start e before now
  stops_run stop.Source before now bytes part taken few is h = absurd h
  stops_run stop.Sink before now bytes part taken few is h =
      ((bytes, among before now bytes part taken few is h.0), h.1)
  stops_run stop.Memory before now bytes part taken few is h = (bytes, among before now bytes part taken few is h)
  stops_run stop.Limit before now bytes part taken few is h = absurd h

  -- what was taken and given does not hang on the faults at the first moment
  so_far_of : (session : Session) (first mid now : Streams) (bytes : List ℕ)
      → SoFar start session (with_faults_of mid first) now bytes → SoFar start session first now bytes
  so_far_of session first mid now bytes h = record { taken = h.taken; after = h.after; gave = h.gave }

  stopped_after_of : (first mid now : Streams) (bytes : List ℕ)
      → StoppedAfter start (with_faults_of mid first) now bytes → StoppedAfter start first now bytes
  stopped_after_of first mid now bytes h = record { taken = h.taken; gave = h.gave }

  stopped_among_of : (first mid now : Streams) (bytes : List ℕ)
      → StoppedAmong start (with_faults_of mid first) now bytes → StoppedAmong start first now bytes
  stopped_among_of first mid now bytes h = record { taken = h.taken; few = h.few; front = h.front }

  -- the counts are those from an earlier moment on
  pub stops_later : (e : Stop) (first mid now : Streams) → first.source.faults ≤ mid.source.faults
      → first.sink.faults ≤ mid.sink.faults → StopsRun start e (with_faults_of mid first) now
      → StopsRun start e first now
  stops_later stop.Source first mid now l k h = (
    (h.0.0, stopped_after_of first mid now h.0.0 h.0.1, h.0.2),
    rose_later first.source.faults mid.source.faults
        now.source.faults now.source.faults l h.1 (omega arith),
  )
  stops_later stop.Sink first mid now l k h = (
    (h.0.0, stopped_among_of first mid now h.0.0 h.0.1),
    rose_later first.sink.faults mid.sink.faults now.sink.faults
        now.sink.faults k h.1 (omega arith),
  )
  stops_later stop.Memory first mid now l k h = (h.0, stopped_among_of first mid now h.0 h.1)
  stops_later stop.Limit first mid now l k h = (h.0, stopped_after_of first mid now h.0 h.1, h.2)

  -- ---- one piece more

  short_whole : (bytes : List ℕ) → length bytes ≤ MOST_INPUT → take MOST_INPUT bytes ≡ bytes
  short_whole bytes few = take_all MOST_INPUT bytes few

  -- a stop while the source is asked for a piece, which the sink does not see
  pub take_stops : (r : Result ℕ Stop) (e : Stop) (session next : Session) (first mid : Streams) (source : SourceSeen)
      (room : ℕ) (buffer bytes : List ℕ) → IsErrAnd r (λ y. y ≡ e) → TakeEnds (Err e) mid.source source room buffer
      → SoFar start session first mid bytes → length bytes ≤ MOST_INPUT
      → PieceEnds start r next (with_faults_of mid first) (record { source = source; sink = mid.sink }) bytes
  take_stops (Ok a) e session next first mid source room buffer bytes h ends so_far few = absurd h
  take_stops (Err y) e session next first mid source room buffer bytes h ends so_far few =
      let now : Streams = record { source = source; sink = mid.sink } in
      let F : Stop → Type 0 = λ z. StopsRun start z (with_faults_of mid first) now in
      let G : List ℕ → Type 0 = λ z. Gave first.sink.held mid.sink.held start (lines_from [] z) in
      let after : StoppedAfter start (with_faults_of mid first) now bytes = record {
        taken = consumes_kept first.source.left mid.source.left source.left bytes so_far.taken ends.1;
        gave = subst G (sym (short_whole bytes few)) so_far.gave;
      } in
      subst F (sym (h ∙ ends.0)) ((bytes, after, few), ends.2)

  -- a stop while a part of the piece is answered
  pub piece_stops : (r : Result ℕ Stop) (e : Stop) (session next : Session) (first mid now : Streams)
      (bytes piece part : List ℕ) → IsErrAnd r (λ y. y ≡ e) → SoFar start session first mid bytes
      → Consumes mid.source.left now.source.left piece → length bytes + length piece ≤ MOST_INPUT + 1
      → take MOST_INPUT (bytes ++ piece) ≡ bytes ++ part
      → ((s : State) (content : List ℕ) → HasStateAndContent session s content
      → StopsAmong e mid.sink now.sink s (lines_from content part))
      → PieceEnds start r next (with_faults_of mid first) now bytes
  piece_stops (Ok a) e session next first mid now bytes piece part h so_far taken few is stops = absurd h
  piece_stops (Err y) e session next first mid now bytes piece part h so_far taken few is stops =
      let F : Stop → Type 0 = λ z. StopsRun start z (with_faults_of mid first) now in
      let G : List (List ℕ) → Type 0 = λ ls. StopsAmong e (sink_at first.sink.held mid.sink.faults) now.sink start ls in
      let lines_are : lines_from [] bytes ++ lines_from (rest_from [] bytes) part ≡ lines_from [] (bytes ++ part) =
      sym (lines_from-append [] bytes part) in
      let stop : StopsAmong e (sink_at first.sink.held mid.sink.faults) now.sink start (lines_from [] (bytes ++ part)) =
      subst G lines_are (stops_behind e first.sink.held mid.sink.held now.sink.held mid.sink.faults mid.sink.faults
      now.sink.faults start (lines_from [] bytes) (lines_from (rest_from [] bytes) part) so_far.gave (omega arith)
      (stops _ _ so_far.after)) in
      subst F (sym h) (stops_run e (with_faults_of mid first) now (bytes ++ piece) (bytes ++ part)
      (consumes_both first.source.left mid.source.left now.source.left bytes piece so_far.taken taken)
      (omega (arith, length-append bytes piece)) is stop)

  pub took_piece : (session next : Session) (first mid now : Streams) (bytes piece : List ℕ) (count : ℕ)
      → length piece ≡ count → SoFar start session first mid bytes → Consumes mid.source.left now.source.left piece
      → (count ≡ 0 → IsAtEnd now.source.left)
      → ((s : State) (content : List ℕ) → HasStateAndContent session s content → HasTaken next s content piece
      × Gave mid.sink.held now.sink.held s (lines_from content piece))
      → TookPiece start next (with_faults_of mid first) now bytes count
  took_piece session next first mid now bytes piece count size so_far taken last takes =
      let h = takes _ _ so_far.after in
      record {
        piece = piece;
        size = size;
        so_far = record {
          taken = consumes_both first.source.left mid.source.left now.source.left bytes piece so_far.taken taken;
          after = after_front next start [] bytes piece h.0;
          gave = gave_front first.sink.held mid.sink.held now.sink.held start [] bytes piece so_far.gave h.1;
        };
        last = last;
      }

  pub took_too_much : (session next : Session) (first mid now : Streams) (bytes piece part : List ℕ)
      → SoFar start session first mid bytes → Consumes mid.source.left now.source.left piece
      → length bytes + length piece ≡ MOST_INPUT + 1 → take MOST_INPUT (bytes ++ piece) ≡ bytes ++ part
      → ((s : State) (content : List ℕ) → HasStateAndContent session s content → HasTaken next s content part
      × Gave mid.sink.held now.sink.held s (lines_from content part)) → (all : List ℕ)
      × StoppedAfter start (with_faults_of mid first) now all × (length all ≡ MOST_INPUT + 1)
  took_too_much session next first mid now bytes piece part so_far taken size is takes =
      let h = takes _ _ so_far.after in
      let G : List ℕ → Type 0 = λ z. Gave first.sink.held now.sink.held start (lines_from [] z) in (
        bytes ++ piece,
        record {
          taken = consumes_both first.source.left mid.source.left now.source.left bytes piece so_far.taken taken;
          gave = subst G (sym is) (gave_front first.sink.held mid.sink.held now.sink.held start [] bytes part
              so_far.gave h.1);
        },
        omega (arith, length-append bytes piece, size),
      )

  -- the bytes that count where there is one too many
  pub without_last : (bytes buffer : List ℕ) (count : ℕ) → count ≤ length buffer → 0 < count
      → length bytes + count ≡ MOST_INPUT + 1 → take MOST_INPUT (bytes ++ take count buffer) ≡ bytes
      ++ take (count - 1) buffer
  without_last bytes buffer count inside some size =
      let split : MOST_INPUT ≡ length bytes + (count - 1) = omega arith in
      ap (λ k. take k (bytes ++ take count buffer)) split
      ∙ take-append-add bytes (take count buffer) (count - 1)
      ∙ ap (λ z. bytes ++ z) (take-take (count - 1) count buffer (omega arith))

  pub with_all : (bytes piece : List ℕ) → length bytes + length piece ≤ MOST_INPUT
      → take MOST_INPUT (bytes ++ piece) ≡ bytes ++ piece
  with_all bytes piece few = short_whole (bytes ++ piece) (omega (arith, length-append bytes piece))

  -- ---- piece after piece

  pub all_stops : {A : Type 0} (r : Result A Stop) (e : Stop) (session : Session) (first mid now : Streams)
      → IsErrAnd r (λ y. y ≡ e) → first.source.faults ≤ mid.source.faults → first.sink.faults ≤ mid.sink.faults
      → StopsRun start e (with_faults_of mid first) now → AllEnds start r session first now
  all_stops (Ok a) e session first mid now h l k stops = absurd h
  all_stops (Err y) e session first mid now h l k stops =
      let F : Stop → Type 0 = λ z. StopsRun start z first now in
      subst F (sym h) (stops_later e first mid now l k stops)

  pub all_taken : (session : Session) (first mid now : Streams) (bytes : List ℕ) (count : ℕ)
      → TookPiece start session (with_faults_of mid first) now bytes count → count ≡ 0
      → length bytes + count ≤ MOST_INPUT → (all : List ℕ) × AtEnd start session first now all
  all_taken session first mid now bytes count took none few = (
    bytes ++ took.piece,
    record {
      so_far = so_far_of session first mid now (bytes ++ took.piece) took.so_far;
      few
          = omega (arith, length-append bytes took.piece, took.size);
      last = took.last none;
    },
  )

  pub more_taken : (session : Session) (first mid now : Streams) (bytes : List ℕ) (count taken : ℕ)
      → TookPiece start session (with_faults_of mid first) now bytes count → length bytes ≡ taken → (all : List ℕ)
      × SoFar start session first now all × (length all ≡ taken + count)
  more_taken session first mid now bytes count taken took size = (
    bytes ++ took.piece,
    so_far_of session first mid now (bytes ++ took.piece) took.so_far,
    omega
        (arith, length-append bytes took.piece, took.size, size),
  )

  -- ---- the whole run

  pub run_begins : (session : Session) (first : Streams) → HasStateAndContent session start []
      → SoFar start session first first []
  run_begins session first at =
      record { taken = consumes_nothing first.source.left; after = at; gave = gave_nothing first.sink.held start }

  pub run_without_memory : (r : Result Bool Stop) (first : Streams) → IsErrAnd r (λ e. e ≡ stop.Memory)
      → RunEnds start r first first
  run_without_memory (Ok a) first h = absurd h
  run_without_memory (Err e) first h =
      let F : Stop → Type 0 = λ z. StopsRun start z first first in
      let stopped : StoppedAmong start first first [] = record {
        taken = consumes_nothing first.source.left;
        few = omega arith;
        front = λ more told. front_to_end first.sink.held first.sink.held start (lines_of (take MOST_INPUT more))
            ([], front_none start (lines_of (take MOST_INPUT more)) lawful, appends_nothing first.sink.held);
      } in
      subst F (sym h) ([], stopped)

  nothing_more : (left_now : Option (List ℕ)) (more : List ℕ) → IsAtEnd left_now → left_now ≡ Some more → more ≡ []
  nothing_more left_now more last told = let F : Option (List ℕ) → Type 0 = λ o. IsAtEnd o in subst F told last

  among_all : (first now : Streams) (bytes : List ℕ) → Consumes first.source.left now.source.left bytes
      → IsAtEnd now.source.left → length bytes ≤ MOST_INPUT
      → GaveFrontOfAll first.sink.held now.sink.held start (lines_of bytes) → StoppedAmong start first now bytes
  among_all first now bytes taken last few h = record {
    taken = taken;
    few = omega arith;
    front = λ more told.
        let all : take MOST_INPUT (bytes ++ more) ≡ bytes =
        ap (λ z. take MOST_INPUT (bytes ++ z)) (nothing_more now.source.left more last told)
        ∙ ap (take MOST_INPUT) (append-nil bytes) ∙ short_whole bytes few in
        let F : List ℕ → Type 0 = λ z. GaveFrontOfAll first.sink.held now.sink.held start (lines_of z) in
        subst F (sym all) h;
  }

  stops_at_end : (e : Stop) (first now : Streams) (bytes : List ℕ) → Consumes first.source.left now.source.left bytes
      → IsAtEnd now.source.left → length bytes ≤ MOST_INPUT → StopsAmong e first.sink now.sink start (lines_of bytes)
      → StopsRun start e first now
  stops_at_end stop.Source first now bytes taken last few h = absurd h
  stops_at_end stop.Sink first now bytes taken last few h = (
    (
      bytes,
      among_all first now bytes taken last few
          (front_to_end first.sink.held now.sink.held start (lines_of bytes) h.0),
    ),
    h.1,
  )
  stops_at_end stop.Memory first now bytes taken last few h = (
    bytes,
    among_all first now bytes taken last few
        (front_to_end first.sink.held now.sink.held start (lines_of bytes) h),
  )
  stops_at_end stop.Limit first now bytes taken last few h = absurd h

  -- a stop while what stands behind the last newline is answered: the source is as it was
  pub run_stops_last : (b : State) (r : Result Bool Stop) (e : Stop) (session : Session) (first mid : Streams)
      (sink : SinkSeen) (bytes : List ℕ) → start ≡ b → IsErrAnd r (λ y. y ≡ e) → AtEnd start session first mid bytes
      → first.sink.faults ≤ mid.sink.faults
      → ((s : State) (content : List ℕ) → HasStateAndContent session s content
      → StopsAmong e mid.sink sink s (line_if_some content))
      → RunEnds b r first (record { source = mid.source; sink = sink })
  run_stops_last b (Ok a) e session first mid sink bytes same h end l stops = absurd h
  run_stops_last b (Err y) e session first mid sink bytes same h end l stops =
      let now : Streams = record { source = mid.source; sink = sink } in
      let F : Stop → Type 0 = λ z. StopsRun b z first now in
      let H : State → Type 0 = λ c. StopsRun c e first now in
      let G : List (List ℕ) → Type 0 = λ ls. StopsAmong e first.sink sink start ls in
      let stop : StopsAmong e first.sink sink start (lines_of bytes) =
      subst G (sym (lines_at_end bytes)) (stops_behind e first.sink.held mid.sink.held sink.held first.sink.faults
      mid.sink.faults sink.faults start (lines_from [] bytes) (line_if_some (rest_from [] bytes)) end.so_far.gave l
      (stops _ _ end.so_far.after)) in
      subst F (sym h) (subst H same (stops_at_end e first now bytes end.so_far.taken end.last end.few stop))

  -- a stop while the reply to the end of the input is given
  pub run_stops_end : (b : State) (r : Result Bool Stop) (e : Stop) (session : Session) (first mid : Streams)
      (last sink : SinkSeen) (bytes : List ℕ) → start ≡ b → IsErrAnd r (λ y. y ≡ e)
      → AtEnd start session first mid bytes → first.sink.faults ≤ last.faults
      → ((s : State) (content : List ℕ) → HasStateAndContent session s content
      → Gave mid.sink.held last.held s (line_if_some content))
      → ((s : State) (content : List ℕ) → HasStateAndContent session s content
      → LinesGiven {A = Unit {0}} (Err e) last sink (ending_of (after_lines s (line_if_some content))))
      → RunEnds b r first (record { source = mid.source; sink = sink })
  run_stops_end b (Ok a) e session first mid last sink bytes same h end l gives stops = absurd h
  run_stops_end b (Err y) e session first mid last sink bytes same h end l gives stops =
      let F : Stop → Type 0 = λ z. StopsRun b z first (record { source = mid.source; sink = sink }) in
      let H : State → Type 0 = λ c. StopsRun c e first (record { source = mid.source; sink = sink }) in
      subst F (sym h) (subst H same (at_end e (stops _ _ end.so_far.after)))
    where
      last_line : List (List ℕ)
      last_line = line_if_some (rest_from [] bytes)

      here : State
      here = after_lines (after_lines start (lines_from [] bytes)) last_line

      all_given : Gave first.sink.held last.held start (lines_of bytes)
      all_given =
          let G : List (List ℕ) → Type 0 = λ ls. Gave first.sink.held last.held start ls in
          subst G (sym (lines_at_end bytes))
          (gave_more first.sink.held mid.sink.held last.held start (lines_from [] bytes) last_line end.so_far.gave
          (gives _ _ end.so_far.after))

      here_is : here ≡ after_lines start (lines_of bytes)
      here_is =
          sym (after_lines-append start (lines_from [] bytes) last_line)
          ∙ ap (λ ls. after_lines start ls) (sym (lines_at_end bytes))

      front_here : GrowsByPrefix last.held sink.held (ending_of here)
          → GaveFrontOfAll first.sink.held sink.held start (lines_of bytes)
      front_here k =
          let E : State → Type 0 = λ z. GrowsByPrefix last.held sink.held (ending_of z) in
          front_in_ending first.sink.held last.held sink.held start (lines_of bytes) all_given (subst E here_is k)

      short : GrowsByPrefix last.held sink.held (ending_of here)
          → StoppedAmong start first (record { source = mid.source; sink = sink }) bytes
      short k =
          among_all first (record { source = mid.source; sink = sink }) bytes end.so_far.taken end.last end.few
          (front_here k)

      at_end : (e : Stop) → LinesGiven {A = Unit {0}} (Err e) last sink (ending_of here)
          → StopsRun start e first (record { source = mid.source; sink = sink })
      at_end stop.Source k = absurd k
      at_end stop.Sink k =
          ((bytes, short k.0), rose_later first.sink.faults last.faults sink.faults sink.faults l k.1 (omega arith))
      at_end stop.Memory k = (bytes, short k)
      at_end stop.Limit k = absurd k

  pub ran_to_end : (session : Session) (first mid : Streams) (last sink : SinkSeen) (some_refused : Bool)
      (bytes : List ℕ) → AtEnd start session first mid bytes
      → ((s : State) (content : List ℕ) → HasStateAndContent session s content
      → Gave mid.sink.held last.held s (line_if_some content))
      → ((s : State) (content : List ℕ) → HasStateAndContent session s content
      → Appends last.held sink.held (ending_of (after_lines s (line_if_some content))))
      → ((s : State) (content : List ℕ) → HasStateAndContent session s content
      → some_refused ≡ has_refused (after_lines s (line_if_some content))) → (all : List ℕ)
      × RanToEnd start first (record { source = mid.source; sink = sink }) some_refused all
  ran_to_end session first mid last sink some_refused bytes end gives ends refuses =
      let last_line = line_if_some (rest_from [] bytes) in
      let F : List (List ℕ) → Type 0 = λ ls. Gave first.sink.held last.held start ls in
      let all_given : Gave first.sink.held last.held start (lines_of bytes) =
      subst F (sym (lines_at_end bytes))
      (gave_more first.sink.held mid.sink.held last.held start (lines_from [] bytes) last_line end.so_far.gave
      (gives _ _ end.so_far.after)) in
      let here_is : after_lines (after_lines start (lines_from [] bytes)) last_line ≡ after_lines start (lines_of bytes)
      =
      sym (after_lines-append start (lines_from [] bytes) last_line)
      ∙ ap (λ ls. after_lines start ls) (sym (lines_at_end bytes)) in
      let E : State → Type 0 = λ z. Appends last.held sink.held (ending_of z) in (
        bytes,
        record {
          taken = end.so_far.taken;
          last = end.last;
          few = end.few;
          gave = gave_to_end first.sink.held last.held sink.held start (lines_of bytes) all_given
              (subst E here_is (ends _ _ end.so_far.after));
          refused = refuses _ _ end.so_far.after ∙ ap has_refused here_is;
        },
      )

  -- the same for an equal state
  pub ran_for : (b : State) (first now : Streams) (some_refused : Bool) → start ≡ b → (bytes : List ℕ)
      × RanToEnd start first now some_refused bytes → (bytes : List ℕ) × RanToEnd b first now some_refused bytes
  ran_for b first now some_refused same h =
      let F : State → Type 0 = λ c. (bytes : List ℕ) × RanToEnd c first now some_refused bytes in
      subst F same h
