use Rattle.std.specs.Prelude.{string_bytes}
use Rattle.network_replies.proofs.Texts.{report_put}
use Rattle.network_replies.proofs.replies.put_report.Goals as goal

pub returns : goal.returns
returns c =
    report_put _ c.args.summary.now c.items.result.now (string_bytes c.args.text.now) _ _ _ c.in_ok-write.ensures.bytes
    c.items.ensures c.in_ok-put_radius.ensures c.push.ensures.bytes
