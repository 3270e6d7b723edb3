-- What a run's end says of its status.
use Rattle.std.proofs.Common.{◌≡◌, ◌⊎◌, ℕ, ◌+◌, ◌<◌, ◌≤◌, Bool, true, false, List, [], ◌++◌, length, take, refl, sym, ap, subst, ◌∙◌, arith, inl, inr, append-nil, length-append}
use Rattle.std.specs.Prelude.{◌↔◌, Option, Some, None, Result, Ok, Err, IfSome, if◌then◌else◌}
use Rattle.std.specs.Io.KnownBytes.{Consumes, IsAtEnd, Appends}
use Rattle.apsp_io.specs.Streams.{Rose}
use Rattle.script_reader.specs.Input.{lines_of, whole_lines}
use Rattle.network_replies.specs.Streams.{Streams}
use Rattle.command_line.specs.declared.words.Mode.{Mode}
use Rattle.command_line.specs.declared.words.Mode.TheVariants as mode
use Rattle.apsp_service.specs.declared.terms.Terms.{Terms}
use Rattle.network_replies.specs.declared.stop.Stop.{Stop}
use Rattle.network_replies.specs.declared.stop.Stop.TheVariants as stop
use Rattle.apsp_service.specs.declared.run.TheConstants.{MOST_INPUT}
use Rattle.apsp_service.specs.Session.{State, Session, HasSession, Work, Answer_lines, Check_certificate, Run_drawn, work_of, IsDone, AreWholeReplies, HasWholeReplies, HaveReplies, first_state, has_refused, after_lines, status_of}
use Rattle.apsp_service.specs.Running.{RunEnds, RanToEnd, StoppedAfter, StoppedAmong}
use Rattle.apsp_service.specs.Outcome.{status_after, IsStatus, IsChecking, IsCheck, IsDrawing, IsLoad, IsAnswered, IsStoppedEarly, GotFront, IsCutShort, TookMoreThan, IsComplete, ReadToEnd, IsOutcome}
use Rattle.apsp_service.specs.Ending.{IsShort, EndsAs}
use Rattle.apsp_service.proofs.Checked.{one_checked}
use Rattle.apsp_service.proofs.Lines.{whole_lines_is}

-- ---- what was taken, where the source tells

taken_is : (xs : List ℕ) (left_now : Option (List ℕ)) (bytes : List ℕ) → Consumes (Some xs) left_now bytes
    → (ys : List ℕ) × (left_now ≡ Some ys) × (xs ≡ bytes ++ ys)
taken_is xs None bytes h = absurd h
taken_is xs (Some ys) bytes h = (ys, refl, h)

took_few : (n : ℕ) (left left_now : Option (List ℕ)) (bytes : List ℕ) → Consumes left left_now bytes → length bytes ≤ n
    → TookMoreThan n left left_now → ⊥
took_few n None left_now bytes taken few more = more
took_few n (Some xs) None bytes taken few more = more
took_few n (Some xs) (Some ys) bytes taken few more = omega (arith, ap length taken, length-append bytes ys, more)

took_many : (n : ℕ) (left left_now : Option (List ℕ)) (bytes : List ℕ) → Consumes left left_now bytes
    → length bytes ≡ n + 1 → IfSome left (λ _. TookMoreThan n left left_now)
took_many n None left_now bytes taken many = tt
took_many n (Some xs) None bytes taken many = absurd taken
took_many n (Some xs) (Some ys) bytes taken many = omega (arith, ap length taken, length-append bytes ys, many)

all_taken : (xs : List ℕ) (left_now : Option (List ℕ)) (bytes : List ℕ) → Consumes (Some xs) left_now bytes
    → IsAtEnd left_now → xs ≡ bytes
all_taken xs None bytes taken last = absurd taken
all_taken xs (Some ys) bytes taken last = taken ∙ ap (λ z. bytes ++ z) last ∙ append-nil bytes

-- ---- the status of a session

-- an input has one status
status_done : (w : Work) (bytes t u : List ℕ) (a b : ℕ) → IsDone w bytes t a → IsDone w bytes u b → a ≡ b
status_done (Answer_lines terms) bytes t u a b h k = h.1 ∙ sym k.1
status_done Check_certificate bytes t u a b h k = (one_checked bytes t u a b h k).1
status_done (Run_drawn n seed) bytes t u a b h k = h.1 ∙ sym k.1

one_status : (m : Mode) (bytes t u : List ℕ) (a b : ℕ) → Session m bytes t a → Session m bytes u b → a ≡ b
one_status m bytes t u a b h k = status_done (work_of m) bytes t u a b h k

-- a mode reads its input, or its text does not depend on it
reads_or_not : (w : Work) → (IsDrawing w → ⊥)
    ⊎ ((bytes input text : List ℕ) (status : ℕ) → IsDone w bytes text status → IsDone w input text status)
reads_or_not (Answer_lines terms) = inl (λ load. load)
reads_or_not Check_certificate = inl (λ load. load)
reads_or_not (Run_drawn n seed) = inr (λ bytes input text status h. h)

-- ---- the outcome of each end

module _ (m : Mode) (before now : Streams) where
  if_some : (P : List ℕ → Type 0) (o : Option (List ℕ)) → ((xs : List ℕ) → o ≡ Some xs → P xs) → IfSome o P
  if_some P None h = tt
  if_some P (Some xs) h = h xs refl

  -- what is said of an input that has a refused line
  abbrev SaidOfRefused : ℕ → List ℕ → Type 0
  SaidOfRefused status input =
      (text : List ℕ) → Session m input text 1 → (status ≡ 1)
      ⊎ (TookMoreThan MOST_INPUT before.source.left now.source.left
      ⊎ (Rose before.source.faults now.source.faults ⊎ (Rose before.sink.faults now.sink.faults ⊎ (status ≡ 5))))

  -- what is said of an input that is not too long
  abbrev SaidOfWhole : ℕ → List ℕ → Type 0
  SaidOfWhole status input =
      length input ≤ MOST_INPUT → (Rose before.source.faults now.source.faults → ⊥)
      → (Rose before.sink.faults now.sink.faults → ⊥) → (status ≡ 5)
      ⊎ IsComplete m input before.sink.held now.sink.held status

  abbrev ended : Bool → ℕ
  ended refused = status_after (Ok refused)

  read_to_end : (refused : Bool) → ReadToEnd (ended refused)
  read_to_end false = inl refl
  read_to_end true = inr refl

  no_more : (refused : Bool) (k : ℕ) → 1 < k → ended refused ≡ k → ⊥
  no_more false k l e = omega (arith, e)
  no_more true k l e = omega (arith, e)

  neither : (refused : Bool) (j k : ℕ) → 1 < j → 1 < k → (ended refused ≡ j) ⊎ (ended refused ≡ k) → ⊥
  neither refused j k l i h = elim h [ inl e ↦ no_more refused j l e | inr e ↦ no_more refused k i e ]

  no_failure : (refused : Bool) → (ended refused ≡ 3) ⊎ ((ended refused ≡ 5) ⊎ (ended refused ≡ 6)) → ⊥
  no_failure refused h =
      elim h [ inl e ↦ no_more refused 3 (omega arith) e | inr e ↦ neither refused 5 6 (omega arith) (omega arith) e ]

  -- in the mode that checks nothing was given before an early stop
  early_nothing : IsCheck m → IsStoppedEarly m before now → Appends before.sink.held now.sink.held []
  early_nothing check s = at (work_of m) check s.replies
    where
      at : (w : Work) → IsChecking w → AreWholeReplies w (take MOST_INPUT s.bytes) s.text
          → Appends before.sink.held now.sink.held []
      at (Answer_lines terms) check replies = absurd check
      at (Run_drawn n seed) check replies = absurd check
      at Check_certificate check replies =
          let F : List ℕ → Type 0 = λ t. Appends before.sink.held now.sink.held t in subst F replies s.given

  session_is : (status : ℕ) (a : IsAnswered m before now status) (input : List ℕ) → before.source.left ≡ Some input
      → (text : List ℕ) × Appends before.sink.held now.sink.held text × Session m input text status
  session_is status a input told = elim (reads_or_not (work_of m)) [
    | inl reads ↦
        let F : Option (List ℕ) → Type 0 = λ o. Consumes o now.source.left a.bytes in
        let same : input ≡ a.bytes = all_taken input now.source.left a.bytes (subst F told a.taken) (a.last reads) in
        let G : List ℕ → Type 0 = λ z. Session m z a.text status in
        (a.text, a.given, subst G (sym same) a.session)
    | inr free ↦ (a.text, a.given, free a.bytes input a.text status a.session)
  ]

  ok_outcome : (refused : Bool) (a : IsAnswered m before now (ended refused)) → length a.bytes ≤ MOST_INPUT
      → IsOutcome m before now (ended refused)
  ok_outcome refused a few = record {
    statuses = inl (read_to_end refused);
    answered = λ e. a;
    source_failed = λ e. absurd (no_more refused 3 (omega arith) e);
    sink_failed = λ e. absurd (no_more refused 4 (omega arith) e);
    too_much = λ e. absurd (no_more refused 6 (omega arith) e);
    says_too_much = λ more. absurd (took_few MOST_INPUT before.source.left now.source.left a.bytes a.taken few more);
    says_refused = if_some (SaidOfRefused (ended refused)) before.source.left
        (λ input told text session. let s = session_is (ended refused) a input told in
        inl (one_status m input s.0 text (ended refused) 1 s.2 session));
    stopped_early = λ e. absurd (neither refused 3 6 (omega arith) (omega arith) e);
    cut_short = λ e. absurd (neither refused 4 5 (omega arith) (omega arith) e);
    complete = if_some (SaidOfWhole (ended refused)) before.source.left
        (λ input told few s k. let s = session_is (ended refused) a input told in
        inr (record { to_end = read_to_end refused; text = s.0; given = s.1; session = s.2 }));
    nothing_written = λ check e. absurd (no_failure refused e);
    takes = (a.bytes, a.taken, omega (arith, few));
  }

  source_outcome : (s : IsStoppedEarly m before now) → length s.bytes ≤ MOST_INPUT
      → Rose before.source.faults now.source.faults → IsOutcome m before now 3
  source_outcome s few rose = record {
    statuses = inr (inl refl);
    answered = λ e. absurd (elim e [ inl z ↦ omega (arith, z) | inr o ↦ omega (arith, o) ]);
    source_failed = λ e. rose;
    sink_failed = λ e. absurd (omega (arith, e));
    too_much = λ e. absurd (omega (arith, e));
    says_too_much = λ more. absurd (took_few MOST_INPUT before.source.left now.source.left s.bytes s.taken few more);
    says_refused = if_some (SaidOfRefused 3) before.source.left (λ input told text session. inr (inr (inl rose)));
    stopped_early = λ e. s;
    cut_short = λ e. absurd (elim e [ inl z ↦ omega (arith, z) | inr o ↦ omega (arith, o) ]);
    complete = if_some (SaidOfWhole 3) before.source.left (λ input told l no k. absurd (no rose));
    nothing_written = λ check e. early_nothing check s;
    takes = (s.bytes, s.taken, omega (arith, few));
  }

  limit_outcome : (s : IsStoppedEarly m before now) → length s.bytes ≡ MOST_INPUT + 1 → IsOutcome m before now 6
  limit_outcome s many = record {
    statuses = inr (inr (inr (inr refl)));
    answered = λ e. absurd (elim e [ inl z ↦ omega (arith, z) | inr o ↦ omega (arith, o) ]);
    source_failed = λ e. absurd (omega (arith, e));
    sink_failed = λ e. absurd (omega (arith, e));
    too_much = λ e. took_many MOST_INPUT before.source.left now.source.left s.bytes s.taken many;
    says_too_much = λ more. inl refl;
    says_refused =
        if_some (SaidOfRefused 6) before.source.left (λ input told text session. inr (inl (more_than input told)));
    stopped_early = λ e. s;
    cut_short = λ e. absurd (elim e [ inl z ↦ omega (arith, z) | inr o ↦ omega (arith, o) ]);
    complete = if_some (SaidOfWhole 6) before.source.left (λ input told l no k. absurd (too_long input told l));
    nothing_written = λ check e. early_nothing check s;
    takes = (s.bytes, s.taken, omega (arith, many));
  }
    where
      more_than : (input : List ℕ) → before.source.left ≡ Some input
          → TookMoreThan MOST_INPUT before.source.left now.source.left
      more_than input told =
          let F : Option (List ℕ) → Type 0 =
          λ o. IfSome o (λ _. TookMoreThan MOST_INPUT before.source.left now.source.left) in
          subst F told (took_many MOST_INPUT before.source.left now.source.left s.bytes s.taken many)

      too_long : (input : List ℕ) → before.source.left ≡ Some input → length input ≤ MOST_INPUT → ⊥
      too_long input told l =
          let F : Option (List ℕ) → Type 0 = λ o. Consumes o now.source.left s.bytes in
          let t = taken_is input now.source.left s.bytes (subst F told s.taken) in
          omega (arith, ap length t.2, length-append s.bytes t.0, many)

  -- a front of what the session replies
  short_of : IsShort m before now → IsCutShort m before now
  short_of s = if_some (λ input. GotFront m input before.sink.held now.sink.held) before.source.left short
    where
      short : (input : List ℕ) → before.source.left ≡ Some input → GotFront m input before.sink.held now.sink.held
      short input told =
          let F : Option (List ℕ) → Type 0 = λ o. Consumes o now.source.left s.bytes in
          let t = taken_is input now.source.left s.bytes (subst F told s.taken) in
          let G : List ℕ → Type 0 = λ z. GotFront m z before.sink.held now.sink.held in
          subst G (sym t.2) (s.front t.0 t.1)

  sink_outcome : IsShort m before now → Rose before.sink.faults now.sink.faults → IsOutcome m before now 4
  sink_outcome s rose = record {
    statuses = inr (inr (inl refl));
    answered = λ e. absurd (elim e [ inl z ↦ omega (arith, z) | inr o ↦ omega (arith, o) ]);
    source_failed = λ e. absurd (omega (arith, e));
    sink_failed = λ e. rose;
    too_much = λ e. absurd (omega (arith, e));
    says_too_much = λ more. inr (inl (refl, rose));
    says_refused = if_some (SaidOfRefused 4) before.source.left (λ input told text session. inr (inr (inr (inl rose))));
    stopped_early = λ e. absurd (elim e [ inl z ↦ omega (arith, z) | inr o ↦ omega (arith, o) ]);
    cut_short = λ e. short_of s;
    complete = if_some (SaidOfWhole 4) before.source.left (λ input told l no k. absurd (k rose));
    nothing_written =
        λ check e. absurd (elim e [
          | inl z ↦ omega (arith, z)
          | inr o ↦
              elim o [ inl z ↦ omega (arith, z) | inr z ↦ omega (arith, z) ]
        ]);
    takes = (s.bytes, s.taken, s.few);
  }

  memory_outcome : IsShort m before now → (IsCheck m → Appends before.sink.held now.sink.held [])
      → IsOutcome m before now 5
  memory_outcome s nothing = record {
    statuses = inr (inr (inr (inl refl)));
    answered = λ e. absurd (elim e [ inl z ↦ omega (arith, z) | inr o ↦ omega (arith, o) ]);
    source_failed = λ e. absurd (omega (arith, e));
    sink_failed = λ e. absurd (omega (arith, e));
    too_much = λ e. absurd (omega (arith, e));
    says_too_much = λ more. inr (inr refl);
    says_refused = if_some (SaidOfRefused 5) before.source.left (λ input told text session. inr (inr (inr (inr refl))));
    stopped_early = λ e. absurd (elim e [ inl z ↦ omega (arith, z) | inr o ↦ omega (arith, o) ]);
    cut_short = λ e. short_of s;
    complete = if_some (SaidOfWhole 5) before.source.left (λ input told l no k. inl refl);
    nothing_written = λ check e. nothing check;
    takes = (s.bytes, s.taken, s.few);
  }

  outcome_of : (r : Result Bool Stop) → EndsAs m r before now → IsOutcome m before now (status_after r)
  outcome_of (Ok refused) h = ok_outcome refused h.0 h.1
  outcome_of (Err stop.Source) h = source_outcome h.0 h.1 h.2
  outcome_of (Err stop.Sink) h = sink_outcome h.0 h.1
  outcome_of (Err stop.Memory) h = memory_outcome h.0 h.1
  outcome_of (Err stop.Limit) h = limit_outcome h.0 h.1

  pub outcome_at : (status : ℕ) (r : Result Bool Stop) → status ≡ status_after r → EndsAs m r before now
      → IsOutcome m before now status
  outcome_at status r is h =
      let F : ℕ → Type 0 = λ z. IsOutcome m before now z in
      subst F (sym is) (outcome_of r h)

-- ---- a run over lines

status_from : (refused some : Bool) → refused ≡ some → status_after (Ok refused) ≡ (if some then 1 else 0)
status_from false false e = refl
status_from true true e = refl
status_from false true e = cc
status_from true false e = cc

-- the mode is the session over lines that begins in this state
pub record IsOverLines (m : Mode) (start : State) : Type 0 where
  session : (bytes text : List ℕ) (status : ℕ) → HasSession start bytes text status → Session m bytes text status
  whole : (bytes text : List ℕ) → HaveReplies start (whole_lines bytes) text → HasWholeReplies m bytes text
  no_check : IsCheck m → ⊥
  no_load : IsLoad m → ⊥

pub over_lines : (m : Mode) (terms : Terms) → work_of m ≡ Answer_lines terms → IsOverLines m (first_state terms)
over_lines m terms is = record {
  session = λ bytes text status h. let F : Work → Type 0 = λ w. IsDone w bytes text status in subst F (sym is) h;
  whole = λ bytes text h. let F : Work → Type 0 = λ w. AreWholeReplies w bytes text in subst F (sym is) h;
  no_check = subst (λ w. IsChecking w → ⊥) (sym is) (λ check. check);
  no_load = subst (λ w. IsDrawing w → ⊥) (sym is) (λ load. load);
}

module _ (m : Mode) (start : State) (over : IsOverLines m start) (before now : Streams) where
  early_of : (bytes : List ℕ) → StoppedAfter start before now bytes → IsStoppedEarly m before now
  early_of bytes s =
      let F : List (List ℕ) → Type 0 = λ ls. HaveReplies start ls s.gave.0 in
      record {
        bytes = bytes;
        text = s.gave.0;
        taken = s.taken;
        given = s.gave.2;
        replies = over.whole
            (take MOST_INPUT bytes) s.gave.0 (subst F (sym (whole_lines_is (take MOST_INPUT bytes))) s.gave.1);
      }

  short_run : (bytes : List ℕ) → StoppedAmong start before now bytes → IsShort m before now
  short_run bytes s = record {
    bytes = bytes;
    taken = s.taken;
    few = s.few;
    front = λ more told.
        let f = s.front more told in
        let whole = take MOST_INPUT (bytes ++ more) in
        let status = status_of (after_lines start (lines_of whole)) in
        record {
          front = f.0;
          rest = f.1.0;
          status = status;
          given = f.2;
          session = over.session whole (f.0 ++ f.1.0)
              status (f.1.1, refl);
        };
  }

  pub run_ends : (r : Result Bool Stop) → RunEnds start r before now → EndsAs m r before now
  unfolding early_of
  run_ends (Ok refused) h =
      let r = h.1 in
      let status = status_after (Ok refused) in (
        record {
          bytes = h.0;
          text = r.gave.0;
          taken = r.taken;
          last = λ _. r.last;
          unread = λ load. absurd
              (over.no_load load);
          given = r.gave.2;
          session = over.session h.0 r.gave.0 status
              (r.gave.1, status_from refused (has_refused (after_lines start (lines_of h.0))) r.refused);
        },
        r.few,
      )
  run_ends (Err stop.Source) h = (early_of h.0.0 h.0.1, h.0.2, h.1)
  run_ends (Err stop.Sink) h = (short_run h.0.0 h.0.1, h.1)
  run_ends (Err stop.Memory) h = (short_run h.0 h.1, λ check. absurd (over.no_check check))
  run_ends (Err stop.Limit) h = (early_of h.0 h.1, h.2)

-- what holds of the mode holds of that which the words give
pub of_words : (P : Mode → Type 0) (read given : Option Mode) (m : Mode) → read ≡ Some m → read ≡ given → P m
    → IfSome given P
of_words P read given m is same h =
    let F : Option Mode → Type 0 = λ o. IfSome o P in
    subst F (sym is ∙ same) h

-- the outcome of a mode over lines
lines_outcome : (m : Mode) (terms : Terms) (before now : Streams) (status : ℕ) (r : Result Bool Stop)
    → work_of m ≡ Answer_lines terms → status ≡ status_after r → RunEnds (first_state terms) r before now
    → IsOutcome m before now status
lines_outcome m terms before now status r same is h =
    outcome_at m before now status r is (run_ends m (first_state terms) (over_lines m terms same) before now r h)

-- the terms of a mode that serves all commands
abbrev IsServingAll : Option ℕ → Bool → Terms → Type 0
IsServingAll readers smooth terms =
    terms ≡ record { readers = readers; smooth = smooth; no_age = false; no_grow = false }

pub run_ended : (workers : ℕ) (smooth : Bool) (terms : Terms) (before now : Streams) (r : Result Bool Stop)
    → IsServingAll None smooth terms → RunEnds (first_state terms) r before now
    → EndsAs (mode.Run workers smooth) r before now
run_ended workers smooth terms before now r is h =
    let m = mode.Run workers smooth in
    run_ends m (first_state terms) (over_lines m terms (ap Answer_lines (sym is))) before now r h

pub live_outcome : (workers readers slots : ℕ) (smooth : Bool) (terms : Terms) (before now : Streams) (status : ℕ)
    (r : Result Bool Stop) → IsServingAll (Some readers) smooth terms → status ≡ status_after r
    → RunEnds (first_state terms) r before now → IsOutcome (mode.Live workers readers slots smooth) before now status
live_outcome workers readers slots smooth terms before now status r same is h =
    lines_outcome (mode.Live workers readers slots smooth) terms before now status r (ap Answer_lines (sym same)) is h
