-- The session: what is replied to the lines of an input, and with which status it ends.
use Rattle.std.specs.Prelude.{◌≡◌, ℕ, ◌+◌, Bool, true, false, List, [], ◌∷◌, ◌++◌, length, is_some, ◌||◌, Option, Some, None, Result, Ok, Err, if◌then◌else◌}
use Rattle.std.specs.List.{flat_map}
use Rattle.apsp_model.specs.Command.{Command, Star_update, Grow_update, graph_of, vertices_of}
use Rattle.apsp_model.specs.Graph.{Graph}
use Rattle.apsp_model.specs.Star.{Star}
use Rattle.script_reader.specs.Input.{lines_of, whole_lines}
use Rattle.script_reader.specs.Meaning.{line_of}
use Rattle.script_reader.specs.Refused.{Refusal}
use Rattle.script_reader.specs.declared.Context.{Context}
use Rattle.script_reader.specs.declared.Line.{Line}
use Rattle.script_reader.specs.declared.Line.TheVariants as line
use Rattle.command_line.specs.declared.words.Mode.{Mode}
use Rattle.command_line.specs.declared.words.Mode.TheVariants as mode
use Rattle.network_replies.specs.EdgeStar.{star_with}
use Rattle.network_replies.specs.Distance.{IsDistReply, IsRowReply}
use Rattle.network_replies.specs.Path.{IsPathReply}
use Rattle.network_replies.specs.Stats.{IsStatsReply}
use Rattle.network_replies.specs.Age.{IsAgeReply}
use Rattle.network_replies.specs.Certificate.{IsCertReply}
use Rattle.network_replies.specs.Reporting.{IsEccReply, IsReportReply, IsThroughReply}
use Rattle.apsp_service.specs.declared.terms.Terms.{Terms}
use Rattle.apsp_service.specs.Check.{IsChecked}
use Rattle.apsp_service.specs.Load.{IsLoadReply}
use Rattle.network_replies.specs.Replies.{error_text, answer_text}
use Rattle.graph_store.specs.Plan.{with_star}
use Rattle.network_replies.specs.Blocks.{Block, last_graph, updates_in, asks_in}
use Rattle.block_run.specs.Answers.{BlockReply}
use Rattle.block_run.specs.Run.{with_updates}
use Rattle.block_run.specs.declared.asks.Ask.{Ask}
use Rattle.block_run.specs.declared.answers.Answer.{Answer}
use Rattle.script_reader.specs.declared.code.TheConstants.{OPEN_BLOCK}

-- after some lines: the terms of the session; the opening number of vertices, that of the line `vertices`, and 0
-- before it; the commands so far, the latest first; the block that is open; how many lines there were; and whether
-- one of them was refused
pub record State : Type 0 where
  pub terms : Terms
  pub vertices : ℕ
  pub commands : List Command
  pub block : Option Block
  pub lines : ℕ
  pub refused : Bool

abbrev pub first_state : Terms → State
first_state terms = record {
  terms = terms;
  vertices = 0;
  commands = [];
  block = None;
  lines = 0;
  refused = false;
}

abbrev pub context_at : ℕ → Terms → Option Block → Context
context_at n terms block = record {
  vertices = n;
  live = is_some terms.readers;
  inside = is_some block;
  updates = updates_in block;
  asks = asks_in block;
  no_age = terms.no_age;
  no_grow = terms.no_grow;
}

-- the graph after the commands so far
abbrev pub present_graph : State → Graph
present_graph s = graph_of s.vertices s.commands

-- the number of vertices that a line sees is the present one
abbrev pub context_of : State → Context
context_of s = context_at (present_graph s).vertices s.terms s.block

-- the graph that the next update changes: in a block it is that after the block's updates so far
abbrev pub graph_here : State → Option Block → Graph
graph_here s None = present_graph s
graph_here s (Some b) = last_graph b.plan

-- an update outside a block is a command, and in a block it is put behind the plan
abbrev pub updated_in : State → Option Block → Star → State
updated_in s None star = record s { commands = Star_update star ∷ s.commands }
updated_in s (Some b) star = record s { block = Some (record b { plan = with_star b.plan star }) }

abbrev pub updated : State → Star → State
updated s star = updated_in s s.block star

-- a block that has nothing yet
abbrev pub fresh_block : State → Block
fresh_block s =
    record { plan = record { start = present_graph s; lo = length (vertices_of s.commands); stars = [] }; asks = [] }

-- a mode without blocks begins none; its lines are refused there
abbrev pub begun_in : State → Option ℕ → State
begun_in s None = s
begun_in s (Some readers) = record s { block = Some (fresh_block s) }

abbrev pub asked_in : State → Option Block → Ask → State
asked_in s None ask = s
asked_in s (Some b) ask = record s { block = Some (record b { asks = b.asks ++ ask ∷ [] }) }

-- a block that is run appends its updates to the commands, whatever was answered
abbrev pub ended_in : State → Option Block → State
ended_in s None = s
ended_in s (Some b) = record s { commands = with_updates b.plan.stars s.commands; block = None }

-- what an accepted line changes
abbrev pub accepted : State → Line → State
accepted s line.Nothing = s
accepted s (line.Vertices n) = record s { vertices = n; commands = []; block = None }
accepted s (line.Star star) = updated s star
accepted s (line.Edge u v w) = updated s (star_with (graph_here s s.block) u v (Some w))
accepted s (line.Cut u v) = updated s (star_with (graph_here s s.block) u v None)
accepted s (line.Grow n) = record s { commands = Grow_update n ∷ s.commands }
accepted s line.Block = begun_in s s.terms.readers
accepted s (line.Ask x y since) = asked_in s s.block (record { x = x; y = y; since = since })
accepted s line.End = ended_in s s.block
accepted s _ = s

abbrev pub counted : State → State
counted s = record s { lines = s.lines + 1 }

-- after one line more: a refused one changes nothing but that one was refused
abbrev pub after_read : State → Result Line Refusal → State
after_read s (Ok l) = accepted (counted s) l
after_read s (Err refusal) = record (counted s) { refused = true }

abbrev pub after_line : State → List ℕ → State
after_line s bytes = after_read s (line_of (context_of s) bytes)

-- the reply to an accepted line, after these commands on n vertices at first, with or without smoothing
abbrev pub HasReply : ℕ → Bool → List Command → Line → List ℕ → Type 0
HasReply n smooth commands (line.Dist x y) text = IsDistReply (graph_of n commands) x y text
HasReply n smooth commands (line.Path x y) text = IsPathReply (graph_of n commands) x y text
HasReply n smooth commands (line.Row x) text = IsRowReply (graph_of n commands) x text
HasReply n smooth commands line.Stats text = IsStatsReply n smooth commands text
HasReply n smooth commands (line.Age list) text = IsAgeReply n smooth commands list text
HasReply n smooth commands line.Cert text = IsCertReply n commands text
HasReply n smooth commands (line.Ecc x) text = IsEccReply (graph_of n commands) x text
HasReply n smooth commands line.Report text = IsReportReply (graph_of n commands) text
HasReply n smooth commands (line.Through v) text = IsThroughReply (graph_of n commands) v text
HasReply n smooth commands _ text = text ≡ []

-- the reply to a block, where so many readers answer it: answers that its questions may get
abbrev pub HasBlockReply : Option ℕ → Option Block → List ℕ → Type 0
HasBlockReply (Some readers) (Some b) text =
    (answers : List Answer) × BlockReply b.plan b.asks readers answers × (text ≡ flat_map answer_text answers)
HasBlockReply _ _ text = text ≡ []

abbrev pub HasLineReply : State → Line → List ℕ → Type 0
HasLineReply s line.End text = HasBlockReply s.terms.readers s.block text
HasLineReply s l text = HasReply s.vertices s.terms.smooth s.commands l text

abbrev pub HasAnswer : State → Result Line Refusal → List ℕ → Type 0
HasAnswer s (Ok l) text = HasLineReply s l text
HasAnswer s (Err refusal) text = text ≡ error_text (s.lines + 1) refusal.code refusal.place

abbrev pub LineHasReply : State → List ℕ → List ℕ → Type 0
LineHasReply s bytes text = HasAnswer s (line_of (context_of s) bytes) text

-- the replies to the lines, one after another
abbrev pub HaveReplies : State → List (List ℕ) → List ℕ → Type 0
HaveReplies s [] text = text ≡ []
HaveReplies s (bytes ∷ lines) text = (reply : List ℕ) × (replies : List ℕ) × LineHasReply s bytes reply
    × HaveReplies (after_line s bytes) lines replies × (text ≡ reply ++ replies)

abbrev pub after_lines : State → List (List ℕ) → State
after_lines s [] = s
after_lines s (bytes ∷ lines) = after_lines (after_line s bytes) lines

-- the reply to the end of the input: a block that is open there is not run
abbrev pub ending_in : Option Block → ℕ → List ℕ
ending_in None lines = []
ending_in (Some b) lines = error_text (lines + 1) OPEN_BLOCK 0

abbrev pub ending_of : State → List ℕ
ending_of s = ending_in s.block s.lines

-- the replies to all lines and to the end of the input
abbrev pub HaveAllReplies : State → List (List ℕ) → List ℕ → Type 0
HaveAllReplies s lines text =
    (replies : List ℕ) × HaveReplies s lines replies × (text ≡ replies ++ ending_of (after_lines s lines))

-- 1 where some line was refused, or a block was open at the end
abbrev pub has_refused : State → Bool
has_refused s = s.refused || is_some s.block

abbrev pub status_of : State → ℕ
status_of s = if has_refused s then 1 else 0

-- the session over the lines of an input that begins in this state
abbrev pub HasSession : State → List ℕ → List ℕ → ℕ → Type 0
HasSession start bytes text status =
    HaveAllReplies start (lines_of bytes) text × (status ≡ status_of (after_lines start (lines_of bytes)))

-- what a mode does: it answers the lines of its input on these terms, or says what holds of a certificate, or runs
-- the input that a seed draws on n vertices
pub data Work : Type 0 where
  Answer_lines : Terms → Work
  Check_certificate : Work
  Run_drawn : ℕ → ℕ → Work

abbrev pub work_of : Mode → Work
work_of (mode.Run workers smooth) =
    Answer_lines (record { readers = None; smooth = smooth; no_age = false; no_grow = false })
work_of (mode.Live workers readers slots smooth) =
    Answer_lines (record { readers = Some readers; smooth = smooth; no_age = false; no_grow = false })
work_of mode.Check = Check_certificate
work_of (mode.Load n seed workers) = Run_drawn n seed

abbrev pub IsDone : Work → List ℕ → List ℕ → ℕ → Type 0
IsDone (Answer_lines terms) bytes text status = HasSession (first_state terms) bytes text status
IsDone Check_certificate bytes text status = IsChecked bytes text status
IsDone (Run_drawn n seed) bytes text status = IsLoadReply n seed text × (status ≡ 0)

-- an input of these bytes has this text and this status
abbrev pub Session : Mode → List ℕ → List ℕ → ℕ → Type 0
Session mode bytes text status = IsDone (work_of mode) bytes text status

-- whether the answers may hang on the schedule
abbrev pub may_block : Work → Bool
may_block (Answer_lines terms) = is_some terms.readers
may_block Check_certificate = false
may_block (Run_drawn n seed) = false

abbrev pub has_blocks : Mode → Bool
has_blocks mode = may_block (work_of mode)

-- there is a text and a status that the session has for these bytes, and no other
pub record HasOneText (mode : Mode) (bytes : List ℕ) : Type 0 where
  pub text : List ℕ
  pub status : ℕ
  pub session : Session mode bytes text status
  pub only : (other : List ℕ) (ended : ℕ) → Session mode bytes other ended → (other ≡ text) × (ended ≡ status)

-- there is a text that the session has for these bytes, and with each text it has the same status
pub record HasOneStatus (mode : Mode) (bytes : List ℕ) : Type 0 where
  pub text : List ℕ
  pub status : ℕ
  pub session : Session mode bytes text status
  pub only : (other : List ℕ) (ended : ℕ) → Session mode bytes other ended → ended ≡ status

-- the replies to whole lines alone; work without lines has none before its end
abbrev pub AreWholeReplies : Work → List ℕ → List ℕ → Type 0
AreWholeReplies (Answer_lines terms) bytes text = HaveReplies (first_state terms) (whole_lines bytes) text
AreWholeReplies Check_certificate bytes text = text ≡ []
AreWholeReplies (Run_drawn n seed) bytes text = text ≡ []

abbrev pub HasWholeReplies : Mode → List ℕ → List ℕ → Type 0
HasWholeReplies mode bytes text = AreWholeReplies (work_of mode) bytes text
