-- Before the line `vertices` no grow is accepted: for callers of `read_line`.
use Rattle.std.proofs.Common.{◌≡◌, ℕ, Bool, List, [], ◌∷◌, length, refl, ap, subst, ◌∙◌, arith, true, false}
use Rattle.std.specs.Prelude.{◌==◌, ◌<◌, ◌&&◌, ◌||◌, not, nat_lt, IfOk, if◌then◌else◌, Option, Some, None, Result, Ok, Err}
use Rattle.std.proofs.lemmas.Bool.Decides.{nat_tests}
use Rattle.script_reader.specs.Meaning.{is_vertices, changes_edges, is_inner, is_of_block, is_unserved, misplaced, vertex_count, line_with, line_unless, command_line, line_of_words, line_of}
use Rattle.script_reader.specs.Refused.{Refusal, refused, ◌>>=◌}
use Rattle.script_reader.specs.Words.{words_of, is_comment, command_of}
use Rattle.script_reader.specs.Answer.{MeaningIs}
use Rattle.script_reader.specs.declared.code.TheConstants.{COMMAND, NEEDS_LIVE, NOT_SERVED, OPEN_BLOCK, TOO_LONG}
use Rattle.script_reader.specs.declared.Command.{Command}
use Rattle.script_reader.specs.declared.Command.TheVariants as command
use Rattle.script_reader.specs.declared.Context.{Context}
use Rattle.script_reader.specs.declared.Line.{Line}
use Rattle.script_reader.specs.declared.Line.TheVariants as line
use Rattle.script_reader.specs.declared.LineError.{LineError}
use Rattle.script_reader.specs.declared.TheConstants.{MOST_LINE_BYTES}

-- a command other than `vertices` may stand only where there are vertices
some_vertices : (context : Context) (c : Command) → misplaced context c ≡ None → is_vertices c ≡ false
    → 0 < context.vertices
some_vertices context c e other =
    let first = test (context.live && (not context.inside && is_inner c)) COMMAND _ e in
    let second = test (not context.live && is_of_block c) NEEDS_LIVE _ first in
    let third = test (is_unserved context c) NOT_SERVED _ second in
    let fourth = test (context.inside && not (changes_edges c || is_inner c)) OPEN_BLOCK _ third in
    begun (is_vertices c) _ _ _ other fourth
  where
    test : (b : Bool) (code : ℕ) (rest : Option ℕ) → (if b then Some code else rest) ≡ None → rest ≡ None
    test true code rest e = cc
    test false code rest e = e

    at : (b : Bool) (code : ℕ) (rest : Option ℕ) → (context.vertices == 0) ≡ b → (if b then Some code else rest) ≡ None
        → 0 < context.vertices
    at true code rest t e = cc
    at false code rest t e = grind (arith, nat_tests)

    begun : (b : Bool) (twice : Option ℕ) (code : ℕ) (rest : Option ℕ) → b ≡ false → (if b then twice else
        (if context.vertices == 0 then Some code else rest)) ≡ None → 0 < context.vertices
    begun true twice code rest t e = cc
    begun false twice code rest t e = at (context.vertices == 0) code rest refl e

grow_at : (context : Context) (c : Command) (arguments : List (List ℕ)) (n : ℕ) → misplaced context c ≡ None
    → line_with c context arguments ≡ Ok (line.Grow n) → 0 < context.vertices
grow_at context command.Vertices arguments n placed e = absurd (at (vertex_count arguments) e)
  where
    at : (m : Result ℕ Refusal) → (m >>= (λ m. Ok (line.Vertices m))) ≡ Ok (line.Grow n) → ⊥
    at (Ok m) e = cc
    at (Err refusal) e = cc
grow_at context command.Star arguments n placed e = some_vertices context command.Star placed refl
grow_at context command.Edge arguments n placed e = some_vertices context command.Edge placed refl
grow_at context command.Cut arguments n placed e = some_vertices context command.Cut placed refl
grow_at context command.Dist arguments n placed e = some_vertices context command.Dist placed refl
grow_at context command.Path arguments n placed e = some_vertices context command.Path placed refl
grow_at context command.Row arguments n placed e = some_vertices context command.Row placed refl
grow_at context command.Stats arguments n placed e = some_vertices context command.Stats placed refl
grow_at context command.Age arguments n placed e = some_vertices context command.Age placed refl
grow_at context command.Cert arguments n placed e = some_vertices context command.Cert placed refl
grow_at context command.Block arguments n placed e = some_vertices context command.Block placed refl
grow_at context command.Ask arguments n placed e = some_vertices context command.Ask placed refl
grow_at context command.End arguments n placed e = some_vertices context command.End placed refl
grow_at context command.Grow arguments n placed e = some_vertices context command.Grow placed refl
grow_at context command.Ecc arguments n placed e = some_vertices context command.Ecc placed refl
grow_at context command.Report arguments n placed e = some_vertices context command.Report placed refl
grow_at context command.Through arguments n placed e = some_vertices context command.Through placed refl

grow_of_words : (context : Context) (words : List (List ℕ)) (n : ℕ) → line_of_words context words ≡ Ok (line.Grow n)
    → 0 < context.vertices
grow_of_words context [] n e = cc
grow_of_words context (w ∷ ws) n e = unless (is_comment w) e
  where
    of_place : (c : Command) (o : Option ℕ) → misplaced context c ≡ o
        → line_unless o c context ws ≡ Ok (line.Grow n) → 0 < context.vertices
    of_place c (Some code) placed e = cc
    of_place c None placed e = grow_at context c ws n placed e

    of_command : (o : Option Command) → command_line context o ws ≡ Ok (line.Grow n) → 0 < context.vertices
    of_command None e = cc
    of_command (Some c) e = of_place c (misplaced context c) refl e

    unless : (b : Bool)
        → (if b then Ok line.Nothing else command_line context (command_of w) ws) ≡ Ok (line.Grow n)
        → 0 < context.vertices
    unless true e = cc
    unless false e = of_command (command_of w) e

pub grow_begun : (context seen : Context) (bytes : List ℕ) (r : Result Line LineError) → MeaningIs (line_of context bytes) r
    → context ≡ seen → IfOk r (λ l. (n : ℕ) → l ≡ line.Grow n → 0 < seen.vertices)
grow_begun context seen bytes (Err e) meaning same = tt
grow_begun context seen bytes (Ok l) meaning same = λ n is.
    let F : Context → Type 0 = λ k. 0 < k.vertices in
    subst F same (unless (nat_lt MOST_LINE_BYTES (length bytes)) n (meaning ∙ ap Ok is))
  where
    unless : (b : Bool) (n : ℕ)
        → (if b then refused TOO_LONG 0 else line_of_words context (words_of bytes)) ≡ Ok (line.Grow n)
        → 0 < context.vertices
    unless true n e = cc
    unless false n e = grow_of_words context (words_of bytes) n e
