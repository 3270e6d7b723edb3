-- What a session gives to a sink, and how it stops. No public clause cites this module.
use Rattle.std.specs.Prelude.{◌≡◌, ℕ, ◌+◌, ◌<◌, ◌≤◌, ⊤, List, [], ◌++◌, length, false, Option, Some, None, Result, Ok, Err}
use Rattle.std.specs.List.{flat_map}
use Rattle.std.specs.Io.KnownBytes.{Appends}
use Rattle.apsp_model.specs.declared.TheConstants.{MOST_UPDATES}
use Rattle.apsp_io.specs.Streams.{Rose, GrowsByPrefix}
use Rattle.history_engine.specs.Seen.{EngineSeen}
use Rattle.history_engine.specs.Advance.{Stands}
use Rattle.script_reader.specs.Meaning.{line_of}
use Rattle.script_reader.specs.declared.Line.TheVariants as line
use Rattle.network_replies.specs.Streams.{SinkSeen}
use Rattle.network_replies.specs.Certificate.{IsCertReply}
use Rattle.network_replies.specs.Growing.{LinesGiven}
use Rattle.network_replies.specs.Replies.{answer_text}
use Rattle.apsp_service.specs.Session.{State, context_of, LineHasReply, HaveReplies, HaveAllReplies}
use Rattle.network_replies.specs.Blocks.{Block, updates_in, asks_in}
use Rattle.apsp_service.specs.Lawful.{IsLawfulState}
use Rattle.apsp_service.specs.declared.session.Reply.{Reply}
use Rattle.apsp_service.specs.declared.session.Reply.TheVariants as reply
use Rattle.network_replies.specs.declared.stop.Stop.{Stop}
use Rattle.network_replies.specs.declared.stop.Stop.TheVariants as stop

-- the sink got the replies to these lines
abbrev pub Gave : Option (List ℕ) → Option (List ℕ) → State → List (List ℕ) → Type 0
Gave old new s lines = (text : List ℕ) × HaveReplies s lines text × Appends old new text

-- the bytes are a front of the replies to these lines
abbrev pub IsFrontOfReplies : State → List (List ℕ) → List ℕ → Type 0
IsFrontOfReplies s lines front = (rest : List ℕ) × HaveReplies s lines (front ++ rest)

-- the sink got a front of them
abbrev pub GaveFront : Option (List ℕ) → Option (List ℕ) → State → List (List ℕ) → Type 0
GaveFront old new s lines = (front : List ℕ) × IsFrontOfReplies s lines front × Appends old new front

-- the sink got all replies to these lines and to the end of the input, or a front of them
abbrev pub GaveAll : Option (List ℕ) → Option (List ℕ) → State → List (List ℕ) → Type 0
GaveAll old new s lines = (text : List ℕ) × HaveAllReplies s lines text × Appends old new text

abbrev pub GaveFrontOfAll : Option (List ℕ) → Option (List ℕ) → State → List (List ℕ) → Type 0
GaveFrontOfAll old new s lines =
    (front : List ℕ) × ((rest : List ℕ) × HaveAllReplies s lines (front ++ rest)) × Appends old new front

-- what a stop while these lines are answered leaves
abbrev pub StopsAmong : Stop → SinkSeen → SinkSeen → State → List (List ℕ) → Type 0
StopsAmong stop.Source old new s lines = ⊥
StopsAmong stop.Sink old new s lines = GaveFront old.held new.held s lines × Rose old.faults new.faults
StopsAmong stop.Memory old new s lines = GaveFront old.held new.held s lines
StopsAmong stop.Limit old new s lines = ⊥

-- how giving the replies to these lines ends
abbrev pub GivingEnds : {A : Type 0} → Result A Stop → SinkSeen → SinkSeen → State → List (List ℕ) → Type 0
GivingEnds (Ok a) old new s lines = Gave old.held new.held s lines
GivingEnds (Err e) old new s lines = StopsAmong e old new s lines

-- a text was given
abbrev pub TextGiven : {A : Type 0} → Result A Stop → SinkSeen → SinkSeen → List ℕ → Type 0
TextGiven (Ok a) old new text = Appends old.held new.held text
TextGiven (Err stop.Source) old new text = ⊥
TextGiven (Err stop.Sink) old new text = GrowsByPrefix old.held new.held text × Rose old.faults new.faults
TextGiven (Err stop.Memory) old new text = Appends old.held new.held []
TextGiven (Err stop.Limit) old new text = ⊥

-- the certificate of the state's version was given, or a front of it
abbrev pub CertificateGiven : {A : Type 0} → Result A Stop → SinkSeen → SinkSeen → State → Type 0
CertificateGiven result old new s =
    (text : List ℕ) × IsCertReply s.vertices s.commands text × LinesGiven result old new text

-- the reply to a line is this text, or it is a certificate, or these answers are
abbrev pub IsRepliedBy : Reply → State → List ℕ → List ℕ → Type 0
IsRepliedBy reply.Text s content text = LineHasReply s content text
IsRepliedBy reply.Certificate s content text = line_of (context_of s) content ≡ Ok line.Cert
IsRepliedBy (reply.Answers answers) s content text = LineHasReply s content (flat_map answer_text answers)

-- the engine behind the session stands for the commands, of which there are no more than lines, with the
-- updates of the open block; before the line `vertices` there is none
pub record IsNetworkOf (e : EngineSeen) (s : State) : Type 0 where
  pub vertices : s.vertices ≡ e.opening
  pub smooth : e.smooth ≡ s.terms.smooth
  pub stands : Stands e s.commands
  pub few : length e.vertices + updates_in s.block ≤ s.lines

abbrev pub HasNetwork : Option EngineSeen → State → Type 0
HasNetwork None s = (s.vertices ≡ 0) × (s.commands ≡ []) × (s.block ≡ None)
HasNetwork (Some e) s = IsNetworkOf e s

-- the engine and the block of the session are those of the state
pub record HasInside (seen : Option EngineSeen) (open_block : Option Block) (s : State) : Type 0 where
  pub network : HasNetwork seen s
  pub block : open_block ≡ s.block
  pub asks : asks_in s.block ≤ s.lines
  pub lawful : IsLawfulState s

abbrev pub vertices_in : Option EngineSeen → ℕ
vertices_in None = 0
vertices_in (Some e) = e.graph.vertices

-- memory never ran out, and one more update may be made
abbrev pub CanBeUpdated : Option EngineSeen → Type 0
CanBeUpdated None = ⊤
CanBeUpdated (Some e) = (e.spent ≡ false) × (length e.vertices < MOST_UPDATES)
