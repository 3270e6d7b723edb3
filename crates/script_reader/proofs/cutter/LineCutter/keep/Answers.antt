use Rattle.std.proofs.Common.{◌≡◌, ◌-◌, ◌++◌, ◌∙◌, ap, length, take, min, arith}
use Rattle.script_reader.specs.declared.TheConstants.{MOST_LINE_BYTES}
use Rattle.script_reader.specs.Cutter.{Cutting}
use Rattle.script_reader.proofs.Cutting.{kept_within}
use Rattle.script_reader.proofs.cutter.LineCutter.keep.Goals as goal

pub returns-clause-kept : goal.returns-clause-kept
returns-clause-kept c =
    let kept = c.self.inside.kept in
    let size : c.len-room.result ≡ length kept.items = omega (arith, c.len-room.ensures, kept.ok.0) in
    c.extend_within.ensures.items
    ∙ kept_within kept.items c.args.bytes.now c.min-count.result c.self.invariant.size
    (c.min-count.ensures ∙ ap (λ n. min (MOST_LINE_BYTES - n) (length c.args.bytes.now)) size)
    ∙ ap (λ (t : Cutting). take MOST_LINE_BYTES (t.kept ++ c.args.bytes.now)) c.self.view_is
