-- A session has one text: each question has one answer.
use Rattle.std.proofs.Common.{◌≡◌, ℕ, suc, ◌<◌, List, [], ◌∷◌, ◌++◌, length, get_or, refl, sym, ap, subst, ◌∙◌, arith}
use Rattle.std.specs.Prelude.{Bool, false, is_some, Option, Some, None, Result, Ok, Err}
use Rattle.apsp_model.specs.Graph.{Graph}
use Rattle.apsp_model.specs.Walk.{weight_of}
use Rattle.apsp_model.specs.Least.{LeastIs}
use Rattle.apsp_model.specs.Command.{Command, Step, Star_step, Grow_step, Mend_step, graph_of, steps_of}
use Rattle.apsp_model.specs.Kept.{opening as opened, after_steps, IsKept, HasBirth}
use Rattle.apsp_model.proofs.Leasts.{least_unique}
use Rattle.fixup_math.proofs.Uniques.{birth_unique, counts_unique}
use Rattle.script_reader.specs.Input.{lines_of}
use Rattle.script_reader.specs.Meaning.{line_of}
use Rattle.script_reader.specs.Refused.{Refusal}
use Rattle.script_reader.specs.declared.Line.{Line}
use Rattle.script_reader.specs.declared.Line.TheVariants as line
use Rattle.command_line.specs.declared.words.Mode.{Mode}
use Rattle.network_replies.specs.Age.{IsBirth}
use Rattle.network_replies.specs.Distance.{IsDistance, AreDistances}
use Rattle.network_replies.specs.Replies.{dist_text, row_text, path_text, stats_text, age_text}
use Rattle.apsp_service.specs.declared.terms.Terms.{Terms}
use Rattle.apsp_service.specs.Session.{State, HasReply, HasBlockReply, HasLineReply, HasAnswer, HaveReplies, HaveAllReplies, HasSession, HasOneText, HasOneStatus, Work, Answer_lines, Check_certificate, Run_drawn, work_of, IsDone, may_block, has_blocks, first_state, ending_of, accepted, counted, graph_here, updated_in, begun_in, asked_in, ended_in, after_read, after_line, after_lines, context_of, status_of}
use Rattle.network_replies.proofs.Reported.{one_ecc, one_report, one_through}
use Rattle.network_replies.specs.EdgeStar.{star_with}
use Rattle.certificate.specs.Grammar.{text_of}
use Rattle.certificate.proofs.VersionLaws.{one_stated_of}
use Rattle.network_replies.specs.Certificate.{version_after}
use Rattle.apsp_service.proofs.Checked.{checked_exists, one_checked}
use Rattle.apsp_model.specs.Star.{Star}
use Rattle.block_run.specs.declared.asks.Ask.{Ask}
use Rattle.network_replies.specs.Blocks.{Block}
use Rattle.apsp_service.specs.Lawful.{IsLawfulState}
use Rattle.apsp_service.proofs.Lawful.{opening_lawful}
use Rattle.apsp_service.proofs.Replied.{replies_exist}
use Rattle.apsp_service.proofs.Loads.{load_exists, one_load}

-- ---- distances and walks

one_distance : (g : Graph) (x y : ℕ) (d e : Option ℕ) → IsDistance g x y d → IsDistance g x y e → d ≡ e
one_distance g x y None None h k = refl
one_distance g x y None (Some e) h k = absurd (h k.0 k.1.walk)
one_distance g x y (Some d) None h k = absurd (k h.0 h.1.walk)
one_distance g x y (Some d) (Some e) h k =
    ap Some (h.2 ∙ ap (λ p. weight_of g p) (least_unique g x y h.0 k.0 h.1 k.1) ∙ sym k.2)

same_entries : (xs ys : List (Option ℕ)) → length xs ≡ length ys
    → ((k : ℕ) → k < length xs → get_or xs k None ≡ get_or ys k None) → xs ≡ ys
same_entries [] [] size each = refl
same_entries [] (y ∷ ys) size each = absurd (omega (arith, size))
same_entries (x ∷ xs) [] size each = absurd (omega (arith, size))
same_entries (x ∷ xs) (y ∷ ys) size each =
    let first : x ≡ y = each 0 (omega arith) in
    let others : xs ≡ ys = same_entries xs ys (omega (arith, size)) (λ k l. each (suc k) (omega (arith, l))) in
    λ i. first i ∷ others i

one_row : (g : Graph) (x : ℕ) (row other : List (Option ℕ)) → AreDistances g x row → AreDistances g x other
    → row ≡ other
one_row g x row other h k = same_entries row other (h.size ∙ sym k.size) (λ y l.
    let inside : y < g.vertices = omega (arith, l, h.size) in
    one_distance g x y (get_or row y None) (get_or other y None) (h.each y inside) (k.each y inside))

one_walk : (g : Graph) (x y : ℕ) (p q : Option (List ℕ)) → LeastIs g x y p → LeastIs g x y q → p ≡ q
one_walk g x y None None h k = refl
one_walk g x y None (Some q) h k = absurd (h q k.walk)
one_walk g x y (Some p) None h k = absurd (k p h.walk)
one_walk g x y (Some p) (Some q) h k = ap Some (least_unique g x y p q h k)

-- ---- births

kept_after : (n : ℕ) (steps : List Step) (p : List ℕ) (b : ℕ) → (after_steps (opened n) steps).birth p b
    → (after_steps (opened n) steps).kept p
kept_after n [] p b h = h.0
kept_after n (Star_step v g ∷ earlier) p b h = h.0
kept_after n (Grow_step g ∷ earlier) p b h = h.0
kept_after n (Mend_step g ∷ earlier) p b h = h.0

-- a list that has a birth is kept
born_kept : (n : ℕ) (smooth : Bool) (commands : List Command) (p : List ℕ) (b : ℕ) → HasBirth n smooth commands p b
    → IsKept n smooth commands p
born_kept n smooth commands p b h = kept_after n (steps_of n smooth commands) p b h

one_birth : (n : ℕ) (smooth : Bool) (commands : List Command) (p : List ℕ) (b c : Option ℕ)
    → IsBirth n smooth commands p b → IsBirth n smooth commands p c → b ≡ c
one_birth n smooth commands p None None h k = refl
one_birth n smooth commands p None (Some c) h k = absurd (h (born_kept n smooth commands p c k))
one_birth n smooth commands p (Some b) None h k = absurd (k (born_kept n smooth commands p b h))
one_birth n smooth commands p (Some b) (Some c) h k = ap Some (birth_unique n smooth commands p b c h k)

-- ---- replies

one_reply : (n : ℕ) (smooth : Bool) (commands : List Command) (l : Line) (t u : List ℕ) → HasReply n smooth commands l t
    → HasReply n smooth commands l u → t ≡ u
one_reply n smooth commands line.Nothing t u h k = h ∙ sym k
one_reply n smooth commands (line.Vertices m) t u h k = h ∙ sym k
one_reply n smooth commands (line.Star star) t u h k = h ∙ sym k
one_reply n smooth commands (line.Edge a b w) t u h k = h ∙ sym k
one_reply n smooth commands (line.Cut a b) t u h k = h ∙ sym k
one_reply n smooth commands (line.Dist x y) t u h k =
    h.2 ∙ ap (λ d. dist_text x y d) (one_distance (graph_of n commands) x y h.0 k.0 h.1 k.1) ∙ sym k.2
one_reply n smooth commands (line.Path x y) t u h k =
    h.2 ∙ ap (λ p. path_text (graph_of n commands) x y p) (one_walk (graph_of n commands) x y h.0 k.0 h.1 k.1) ∙ sym k.2
one_reply n smooth commands (line.Row x) t u h k =
    h.2 ∙ ap (λ row. row_text x row) (one_row (graph_of n commands) x h.0 k.0 h.1 k.1) ∙ sym k.2
one_reply n smooth commands line.Block t u h k = h ∙ sym k
one_reply n smooth commands (line.Ask x y since) t u h k = h ∙ sym k
one_reply n smooth commands line.End t u h k = h ∙ sym k
one_reply n smooth commands line.Stats t u h k =
    h.2 ∙ ap stats_text (counts_unique n smooth commands h.0 k.0 h.1 k.1) ∙ sym k.2
one_reply n smooth commands (line.Age list) t u h k =
    h.2 ∙ ap (λ b. age_text list b) (one_birth n smooth commands list h.0 k.0 h.1 k.1) ∙ sym k.2
one_reply n smooth commands line.Cert t u h k =
    h.2 ∙ ap text_of (one_stated_of (version_after n commands) h.0 k.0 h.1 k.1) ∙ sym k.2
one_reply n smooth commands (line.Grow m) t u h k = h ∙ sym k
one_reply n smooth commands (line.Ecc x) t u h k = one_ecc (graph_of n commands) x t u h k
one_reply n smooth commands line.Report t u h k = one_report (graph_of n commands) t u h k
one_reply n smooth commands (line.Through v) t u h k = one_through (graph_of n commands) v t u h k

-- without blocks
one_line_reply : (s : State) (l : Line) (t u : List ℕ) → s.terms.readers ≡ None → HasLineReply s l t → HasLineReply s l u
    → t ≡ u
one_line_reply s line.End t u none h k =
    let F : Option ℕ → Type 0 = λ r. HasBlockReply r s.block t in
    let G : Option ℕ → Type 0 = λ r. HasBlockReply r s.block u in
    subst F none h ∙ sym (subst G none k)
one_line_reply s line.Nothing t u none h k = one_reply s.vertices s.terms.smooth s.commands line.Nothing t u h k
one_line_reply s (line.Vertices m) t u none h k = one_reply s.vertices s.terms.smooth s.commands (line.Vertices m) t u h k
one_line_reply s (line.Star star) t u none h k = one_reply s.vertices s.terms.smooth s.commands (line.Star star) t u h k
one_line_reply s (line.Edge a b w) t u none h k = one_reply s.vertices s.terms.smooth s.commands (line.Edge a b w) t u h k
one_line_reply s (line.Cut a b) t u none h k = one_reply s.vertices s.terms.smooth s.commands (line.Cut a b) t u h k
one_line_reply s (line.Dist x y) t u none h k = one_reply s.vertices s.terms.smooth s.commands (line.Dist x y) t u h k
one_line_reply s (line.Path x y) t u none h k = one_reply s.vertices s.terms.smooth s.commands (line.Path x y) t u h k
one_line_reply s (line.Row x) t u none h k = one_reply s.vertices s.terms.smooth s.commands (line.Row x) t u h k
one_line_reply s line.Stats t u none h k = one_reply s.vertices s.terms.smooth s.commands line.Stats t u h k
one_line_reply s (line.Age list) t u none h k = one_reply s.vertices s.terms.smooth s.commands (line.Age list) t u h k
one_line_reply s line.Cert t u none h k = one_reply s.vertices s.terms.smooth s.commands line.Cert t u h k
one_line_reply s (line.Grow m) t u none h k = one_reply s.vertices s.terms.smooth s.commands (line.Grow m) t u h k
one_line_reply s (line.Ecc x) t u none h k = one_reply s.vertices s.terms.smooth s.commands (line.Ecc x) t u h k
one_line_reply s line.Report t u none h k = one_reply s.vertices s.terms.smooth s.commands line.Report t u h k
one_line_reply s (line.Through v) t u none h k =
    one_reply s.vertices s.terms.smooth s.commands (line.Through v) t u h k
one_line_reply s line.Block t u none h k = one_reply s.vertices s.terms.smooth s.commands line.Block t u h k
one_line_reply s (line.Ask x y since) t u none h k =
    one_reply s.vertices s.terms.smooth s.commands (line.Ask x y since) t u h k

one_answer : (s : State) (read : Result Line Refusal) (t u : List ℕ) → s.terms.readers ≡ None → HasAnswer s read t
    → HasAnswer s read u → t ≡ u
one_answer s (Ok l) t u none h k = one_line_reply s l t u none h k
one_answer s (Err refusal) t u none h k = h ∙ sym k

-- lines do not change the terms
updated_terms : (s : State) (o : Option Block) (star : Star) → (updated_in s o star).terms ≡ s.terms
updated_terms s None star = refl
updated_terms s (Some b) star = refl

begun_terms : (s : State) (r : Option ℕ) → (begun_in s r).terms ≡ s.terms
begun_terms s None = refl
begun_terms s (Some n) = refl

asked_terms : (s : State) (o : Option Block) (ask : Ask) → (asked_in s o ask).terms ≡ s.terms
asked_terms s None ask = refl
asked_terms s (Some b) ask = refl

ended_terms : (s : State) (o : Option Block) → (ended_in s o).terms ≡ s.terms
ended_terms s None = refl
ended_terms s (Some b) = refl

accepted_terms : (s : State) (l : Line) → (accepted s l).terms ≡ s.terms
accepted_terms s line.Nothing = refl
accepted_terms s (line.Vertices n) = refl
accepted_terms s (line.Star star) = updated_terms s s.block star
accepted_terms s (line.Edge u v w) = updated_terms s s.block (star_with (graph_here s s.block) u v (Some w))
accepted_terms s (line.Cut u v) = updated_terms s s.block (star_with (graph_here s s.block) u v None)
accepted_terms s line.Block = begun_terms s s.terms.readers
accepted_terms s (line.Ask x y since) = asked_terms s s.block (record { x = x; y = y; since = since })
accepted_terms s line.End = ended_terms s s.block
accepted_terms s (line.Dist x y) = refl
accepted_terms s (line.Path x y) = refl
accepted_terms s (line.Row x) = refl
accepted_terms s line.Cert = refl
accepted_terms s line.Stats = refl
accepted_terms s (line.Age list) = refl
accepted_terms s (line.Grow m) = refl
accepted_terms s (line.Ecc x) = refl
accepted_terms s line.Report = refl
accepted_terms s (line.Through v) = refl

line_terms : (s : State) (bytes : List ℕ) → (after_line s bytes).terms ≡ s.terms
line_terms s bytes = at (line_of (context_of s) bytes)
  where
    at : (r : Result Line Refusal) → (after_read s r).terms ≡ s.terms
    at (Ok l) = accepted_terms (counted s) l
    at (Err refusal) = refl

replies_are : (s : State) (lines : List (List ℕ)) (t u : List ℕ) → s.terms.readers ≡ None → HaveReplies s lines t
    → HaveReplies s lines u → t ≡ u
replies_are s [] t u none h k = h ∙ sym k
replies_are s (bytes ∷ lines) t u none h k =
    let first : h.0 ≡ k.0 = one_answer s (line_of (context_of s) bytes) h.0 k.0 none h.2 k.2 in
    let others : h.1 ≡ k.1 = replies_are (after_line s bytes) lines h.1 k.1 (ap (λ (t : Terms). t.readers) (line_terms s bytes) ∙ none) h.3 k.3 in
    h.4 ∙ (λ i. first i ++ others i) ∙ sym k.4

-- ---- the laws

some_text : (s : State) (lines : List (List ℕ)) → IsLawfulState s → (t : List ℕ) × HaveAllReplies s lines t
some_text s lines h = let r = replies_exist s lines h in (r.0 ++ ending_of (after_lines s lines), (r.0, r.1, refl))

all_replies_are : (s : State) (lines : List (List ℕ)) (t u : List ℕ) → s.terms.readers ≡ None → HaveAllReplies s lines t
    → HaveAllReplies s lines u → t ≡ u
all_replies_are s lines t u none h k =
    h.2 ∙ ap (λ r. r ++ ending_of (after_lines s lines)) (replies_are s lines h.0 k.0 none h.1 k.1) ∙ sym k.2

-- a session over lines has a text and one status, and one text where there are no blocks
record HasOne (start : State) (bytes : List ℕ) : Type 0 where
  text : List ℕ
  session : HasSession start bytes text (status_of (after_lines start (lines_of bytes)))
  only : start.terms.readers ≡ None → (other : List ℕ) (ended : ℕ) → HasSession start bytes other ended → other ≡ text

one_over : (start : State) (bytes : List ℕ) → IsLawfulState start → HasOne start bytes
one_over start bytes h =
    let text = some_text start (lines_of bytes) h in
    record {
      text = text.0;
      session = (text.1, refl);
      only = λ none other ended k. all_replies_are start (lines_of bytes) other text.0 none k.0 text.1;
    }

-- the same of what a mode does
record HasOneTextOf (w : Work) (bytes : List ℕ) : Type 0 where
  text : List ℕ
  status : ℕ
  session : IsDone w bytes text status
  only : (other : List ℕ) (ended : ℕ) → IsDone w bytes other ended → (other ≡ text) × (ended ≡ status)

record HasOneStatusOf (w : Work) (bytes : List ℕ) : Type 0 where
  text : List ℕ
  status : ℕ
  session : IsDone w bytes text status
  only : (other : List ℕ) (ended : ℕ) → IsDone w bytes other ended → ended ≡ status

text_of_work : (w : Work) (bytes : List ℕ) → may_block w ≡ false → HasOneTextOf w bytes
text_of_work (Answer_lines terms) bytes none =
    let one = one_over (first_state terms) bytes (opening_lawful terms) in
    record {
      text = one.text;
      status = _;
      session = one.session;
      only = λ other ended k. (one.only (no_readers terms.readers none) other ended k, k.1);
    }
  where
    no_readers : (r : Option ℕ) → is_some r ≡ false → r ≡ None
    no_readers None e = refl
    no_readers (Some n) e = cc
text_of_work Check_certificate bytes none =
    let c = checked_exists bytes in
    record {
      text = c.0;
      status = c.1;
      session = c.2;
      only = λ other ended h. one_checked bytes other c.0 ended c.1 h c.2;
    }
text_of_work (Run_drawn n seed) bytes none =
    let c = load_exists n seed in
    record {
      text = c.0;
      status = 0;
      session = (c.1, refl);
      only = λ other ended h. (one_load n seed other c.0 h.0 c.1, h.1);
    }

pub one_text : (m : Mode) (bytes : List ℕ) → has_blocks m ≡ false → HasOneText m bytes
one_text m bytes none =
    let h = text_of_work (work_of m) bytes none in
    record { text = h.text; status = h.status; session = h.session; only = h.only }

status_of_work : (w : Work) (bytes : List ℕ) → HasOneStatusOf w bytes
status_of_work (Answer_lines terms) bytes =
    let one = one_over (first_state terms) bytes (opening_lawful terms) in
    record { text = one.text; status = _; session = one.session; only = λ other ended k. k.1 }
status_of_work Check_certificate bytes =
    let c = checked_exists bytes in
    record {
      text = c.0;
      status = c.1;
      session = c.2;
      only = λ other ended h. (one_checked bytes other c.0 ended c.1 h c.2).1;
    }
status_of_work (Run_drawn n seed) bytes =
    let c = load_exists n seed in
    record { text = c.0; status = 0; session = (c.1, refl); only = λ other ended h. h.1 }

pub one_status : (m : Mode) (bytes : List ℕ) → HasOneStatus m bytes
one_status m bytes =
    let h = status_of_work (work_of m) bytes in
    record { text = h.text; status = h.status; session = h.session; only = h.only }
