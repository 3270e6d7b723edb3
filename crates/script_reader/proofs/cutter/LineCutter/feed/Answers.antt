use Rattle.std.proofs.Common.{◌≡◌, ◌+◌, ◌++◌, ◌||◌, ◌∙◌, ap, refl, length, take, nat_lt, Bool, true, false, if◌then◌else◌}
use mir.Val.{bool_byte}
use Rattle.script_reader.specs.declared.TheConstants.{MOST_LINE_BYTES}
use Rattle.script_reader.specs.Cutter.{Cutting, line_part}
use Rattle.script_reader.proofs.Cutting.{cuts_lines, stands_for_more}
use Rattle.script_reader.proofs.cutter.LineCutter.feed.Goals as goal

as_number : (b : Bool) → bool_byte b ≡ (if b then 1 else 0)
as_number true = refl
as_number false = refl

pub returns-clause-lines : goal.returns-clause-lines
returns-clause-lines c =
    λ input. cuts_lines c.args.piece.now input _ _ c.line_part-whole.ensures.whole
    (ap (λ p. length p + c.from.result) c.line_part-whole.ensures.part
    ∙ ap (λ n. length (line_part c.args.piece.now) + n) (c.from.ensures ∙ as_number c.line_part-whole.result.1))

pub returns-clause-content : goal.returns-clause-content
returns-clause-content c = λ content h.
    stands_for_more c.args.self.now _ content (line_part c.args.piece.now) h
    (ap (λ (t : Cutting). t.kept) c.self.view_is ∙ c.keep.ensures.kept
    ∙ ap (λ p. take MOST_LINE_BYTES (c.args.self.now.kept ++ p)) c.line_part-whole.ensures.part)
    (ap (λ (t : Cutting). t.too_long) c.self.view_is ∙ c.keep.ensures.too_long
    ∙ ap (λ p. c.args.self.now.too_long || nat_lt MOST_LINE_BYTES (length c.args.self.now.kept + length p))
    c.line_part-whole.ensures.part)
