-- Replies to lines, one after another; there always are some, and no others.
use Rattle.std.proofs.Common.{◌≡◌, ℕ, zero, suc, ◌+◌, ◌<◌, List, [], ◌∷◌, ◌++◌, length, get_or, refl, sym, ap, subst, ◌∙◌, arith, inl, inr, append_assoc, append-nil, length-append}
use Rattle.std.specs.Prelude.{Bool, Option, Some, None, Result, Ok, Err}
use Rattle.std.proofs.lemmas.Bool.{cases_lt}
use Rattle.std.proofs.Math.ListN.{get_or-append}
use Rattle.std.proofs.Math.Seq.{get_or-append_seam}
use Rattle.apsp_model.specs.Graph.{Graph, IsGraph}
use Rattle.apsp_model.specs.Grows.{GrowsFit}
use Rattle.apsp_model.specs.Command.{Command, graph_of}
use Rattle.apsp_model.specs.Walk.{weight_of}
use Rattle.apsp_model.proofs.Exists.{least_or_none, least_is_some_option}
use Rattle.history_engine.proofs.Existing.{counts_exist, birth_exists}
use Rattle.network_replies.specs.Age.{IsAgeReply}
use Rattle.certificate.specs.Grammar.{text_of}
use Rattle.certificate.proofs.Versions.{value_of, value_is}
use Rattle.network_replies.specs.Certificate.{version_after}
use Rattle.network_replies.specs.Distance.{IsDistance}
use Rattle.network_replies.specs.Replies.{dist_text, row_text, path_text, stats_text, age_text, error_text}
use Rattle.script_reader.specs.Answer.{FitsContext}
use Rattle.script_reader.specs.Meaning.{line_of}
use Rattle.script_reader.specs.Refused.{Refusal}
use Rattle.script_reader.specs.declared.Line.{Line}
use Rattle.script_reader.specs.declared.Line.TheVariants as line
use Rattle.network_replies.specs.Blocks.{Block}
use Rattle.apsp_service.specs.declared.terms.Terms.{Terms}
use Rattle.apsp_service.specs.Session.{State, HasReply, HasLineReply, HasAnswer, LineHasReply, HaveReplies, after_line, after_lines, context_at, context_of}
use Rattle.apsp_service.specs.Giving.{IsFrontOfReplies}
use Rattle.apsp_service.specs.Lawful.{IsLawfulState}
use Rattle.network_replies.proofs.Reported.{ecc_exists, report_exists, through_exists}
use Rattle.network_replies.proofs.Rows.{IsFirstRow, row_none, row_more}
use Rattle.apsp_service.proofs.Lawful.{updates_fit, present_graph_is, read_fits, line_lawful, lines_lawful}
use Rattle.apsp_service.proofs.BlockAnswered.{block_reply_exists}

-- ---- there are replies

pub distance_exists : (g : Graph) (x y : ℕ) → (d : Option ℕ) × IsDistance g x y d
distance_exists g x y =
    elim (least_or_none g x y) [ inl p ↦ (Some (weight_of g p.0), (p.0, p.1, refl)) | inr none ↦ (None, none) ]

row_exists : (g : Graph) (x n : ℕ) → (row : List (Option ℕ)) × IsFirstRow g x n row
row_exists g x zero = ([], row_none g x)
row_exists g x (suc n) =
    let d = distance_exists g x n in
    let r = row_exists g x n in
    let one : n + 1 ≡ suc n = omega arith in
    let F : ℕ → Type 0 = λ k. IsFirstRow g x k (r.0 ++ d.0 ∷ []) in
    (r.0 ++ d.0 ∷ [], subst F one (row_more g x n d.0 r.0 r.1 d.1))

age_exists : (n : ℕ) (smooth : Bool) (commands : List Command) → GrowsFit n commands → (list : List ℕ) → (text : List ℕ)
    × IsAgeReply n smooth commands list text
age_exists n smooth commands fit list = elim (birth_exists n smooth commands fit list) [
  | inl b ↦ (age_text list (Some b.0), (Some b.0, b.1, refl))
  | inr none ↦ (age_text list None, (None, none, refl))
]

-- what the replies need to know of the commands
record CanBeAsked (n : ℕ) (commands : List Command) : Type 0 where
  fit : GrowsFit n commands
  graph : 0 < (graph_of n commands).vertices → IsGraph (graph_of n commands)

reply_exists : (n : ℕ) (smooth : Bool) (commands : List Command) (terms : Terms) (o : Option Block) → CanBeAsked n commands
    → (l : Line) → FitsContext (context_at (graph_of n commands).vertices terms o) l → (text : List ℕ)
    × HasReply n smooth commands l text
reply_exists n smooth commands terms o h line.Nothing f = ([], refl)
reply_exists n smooth commands terms o h (line.Vertices m) f = ([], refl)
reply_exists n smooth commands terms o h (line.Star star) f = ([], refl)
reply_exists n smooth commands terms o h (line.Edge u v w) f = ([], refl)
reply_exists n smooth commands terms o h (line.Cut u v) f = ([], refl)
reply_exists n smooth commands terms o h (line.Grow m) f = ([], refl)
reply_exists n smooth commands terms o h (line.Dist x y) f =
    let d = distance_exists (graph_of n commands) x y in (dist_text x y d.0, (d.0, d.1, refl))
reply_exists n smooth commands terms o h (line.Path x y) f =
    let walk =
    least_is_some_option (graph_of n commands) x y in
    (path_text (graph_of n commands) x y walk.0, (walk.0, walk.1, refl))
reply_exists n smooth commands terms o h (line.Row x) f =
    let r = row_exists (graph_of n commands) x (graph_of n commands).vertices in
    (row_text x r.0, (r.0, record { size = r.1.size; each = r.1.each }, refl))
reply_exists n smooth commands terms o h line.Block f = ([], refl)
reply_exists n smooth commands terms o h (line.Ask x y since) f = ([], refl)
reply_exists n smooth commands terms o h line.End f = ([], refl)
reply_exists n smooth commands terms o h line.Stats f =
    let c = counts_exist n smooth commands h.fit in (stats_text c.0, (c.0, c.1, refl))
reply_exists n smooth commands terms o h (line.Age list) f = age_exists n smooth commands h.fit list
reply_exists n smooth commands terms o h line.Cert f =
    let v = version_after n commands in (text_of (value_of v), (value_of v, value_is v, refl))
reply_exists n smooth commands terms o h (line.Ecc x) f =
    ecc_exists (graph_of n commands) x (h.graph (omega (arith, f.1))) f.1
reply_exists n smooth commands terms o h line.Report f = report_exists (graph_of n commands) (h.graph f.1)
reply_exists n smooth commands terms o h (line.Through v) f =
    through_exists (graph_of n commands) v (h.graph (omega (arith, f.1)))

line_reply_exists : (s : State) (l : Line) → IsLawfulState s → FitsContext (context_of s) l → (text : List ℕ)
    × HasLineReply s l text
line_reply_exists s l h f = at l f
  where
    read : CanBeAsked s.vertices s.commands
    read = record { fit = updates_fit s.vertices s.commands h.most h.commands; graph = present_graph_is s h }

    other : (l : Line) → FitsContext (context_of s) l → (text : List ℕ)
        × HasReply s.vertices s.terms.smooth s.commands l text
    other l f = reply_exists s.vertices s.terms.smooth s.commands s.terms s.block read l f

    at : (l : Line) → FitsContext (context_of s) l → (text : List ℕ) × HasLineReply s l text
    at line.End f = block_reply_exists s h
    at line.Nothing f = other line.Nothing f
    at (line.Vertices m) f = other (line.Vertices m) f
    at (line.Star star) f = other (line.Star star) f
    at (line.Edge u v w) f = other (line.Edge u v w) f
    at (line.Cut u v) f = other (line.Cut u v) f
    at (line.Grow m) f = other (line.Grow m) f
    at (line.Dist x y) f = other (line.Dist x y) f
    at (line.Path x y) f = other (line.Path x y) f
    at (line.Row x) f = other (line.Row x) f
    at line.Stats f = other line.Stats f
    at (line.Age list) f = other (line.Age list) f
    at line.Cert f = other line.Cert f
    at (line.Ecc x) f = other (line.Ecc x) f
    at line.Report f = other line.Report f
    at (line.Through v) f = other (line.Through v) f
    at line.Block f = other line.Block f
    at (line.Ask x y since) f = other (line.Ask x y since) f

answer_exists : (s : State) (bytes : List ℕ) → IsLawfulState s → (text : List ℕ) × LineHasReply s bytes text
answer_exists s bytes h = at (line_of (context_of s) bytes) refl
  where
    at : (read : Result Line Refusal) → line_of (context_of s) bytes ≡ read → (text : List ℕ) × HasAnswer s read text
    at (Ok l) e = line_reply_exists s l h (read_fits s bytes l h e)
    at (Err refusal) e = (error_text (s.lines + 1) refusal.code refusal.place, refl)

pub replies_exist : (s : State) (lines : List (List ℕ)) → IsLawfulState s → (text : List ℕ) × HaveReplies s lines text
replies_exist s [] h = ([], refl)
replies_exist s (bytes ∷ lines) h =
    let first = answer_exists s bytes h in
    let others = replies_exist (after_line s bytes) lines (line_lawful s bytes h) in
    (first.0 ++ others.0, (first.0, others.0, first.1, others.1, refl))

-- ---- one after another

pub after_lines-append : (s : State) (xs ys : List (List ℕ))
    → after_lines s (xs ++ ys) ≡ after_lines (after_lines s xs) ys
after_lines-append s [] ys = refl
after_lines-append s (bytes ∷ xs) ys = after_lines-append (after_line s bytes) xs ys

pub replies_append : (s : State) (xs ys : List (List ℕ)) (t u : List ℕ) → HaveReplies s xs t
    → HaveReplies (after_lines s xs) ys u → HaveReplies s (xs ++ ys) (t ++ u)
replies_append s [] ys t u h k =
    let P : List ℕ → Type 0 = λ v. HaveReplies s ys v in subst P (sym (ap (λ v. v ++ u) h)) k
replies_append s (bytes ∷ xs) ys t u h k = (
  h.0,
  h.1 ++ u,
  h.2,
  replies_append (after_line s bytes) xs ys h.1 u h.3 k,
  ap (λ v. v ++ u) h.4
      ∙ append_assoc h.0 h.1 u,
)

pub one_reply : (s : State) (bytes text : List ℕ) → LineHasReply s bytes text → HaveReplies s (bytes ∷ []) text
one_reply s bytes text h = (text, [], h, refl, sym (append-nil text))

-- a front of the replies to these lines is one of the replies to more lines
pub front_of_more : (s : State) (xs ys : List (List ℕ)) (front : List ℕ) → IsLawfulState s → IsFrontOfReplies s xs front
    → IsFrontOfReplies s (xs ++ ys) front
front_of_more s xs ys front lawful h =
    let more = replies_exist (after_lines s xs) ys (lines_lawful s xs lawful) in (
      h.0 ++ more.0,
      let P : List ℕ → Type 0 = λ v. HaveReplies s (xs ++ ys) v in
          subst P (append_assoc front h.0 more.0) (replies_append s xs ys (front ++ h.0) more.0 h.1 more.1),
    )

pub front_behind : (s : State) (xs ys : List (List ℕ)) (t front : List ℕ) → HaveReplies s xs t
    → IsFrontOfReplies (after_lines s xs) ys front → IsFrontOfReplies s (xs ++ ys) (t ++ front)
front_behind s xs ys t front h k = (
  k.0,
  let P : List ℕ → Type 0 = λ v. HaveReplies s (xs ++ ys) v in
      subst P (sym (append_assoc t front k.0)) (replies_append s xs ys t (front ++ k.0) h k.1),
)

pub front_whole : (s : State) (xs : List (List ℕ)) (t : List ℕ) → HaveReplies s xs t → IsFrontOfReplies s xs t
front_whole s xs t h = ([], let P : List ℕ → Type 0 = λ v. HaveReplies s xs v in subst P (sym (append-nil t)) h)

pub front_none : (s : State) (xs : List (List ℕ)) → IsLawfulState s → IsFrontOfReplies s xs []
front_none s xs lawful = replies_exist s xs lawful
