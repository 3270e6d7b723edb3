use Rattle.std.proofs.Common.{List, ℕ, subst}
use Rattle.std.specs.Prelude.{Ok, string_bytes}
use Rattle.apsp_service.specs.Check.{IsChecked}
use Rattle.network_replies.specs.Streams.{source_seen, sink_seen, streams}
use Rattle.apsp_service.specs.Outcome.{status_after}
use Rattle.apsp_service.proofs.Checking.{check_stops, check_without_memory, check_given, checked_to_end}
use Rattle.apsp_service.proofs.check.check_input.Goals as goal

pub returns-in_err-bytes-clause-ends : goal.returns-in_err-bytes-clause-ends
returns-in_err-bytes-clause-ends g c =
    check_stops _ _ (source_seen g.S.Source c.args.source.now) (source_seen g.S.Source c.take_all.new.source)
    (sink_seen g.K.Sink c.args.sink.now) c.from_residual.ensures.1 c.in_err-bytes.ensures.ends

pub returns-in_err-refused-clause-ends : goal.returns-in_err-refused-clause-ends
returns-in_err-refused-clause-ends g c =
    check_without_memory _ (source_seen g.S.Source c.args.source.now) (source_seen g.S.Source c.take_all.new.source)
    (sink_seen g.K.Sink c.args.sink.now) c.in_ok-bytes.bytes.items c.from_residual-in_err-refused.ensures.1
    c.in_ok-bytes.ensures.ends

pub returns-in_err-give-clause-ends : goal.returns-in_err-give-clause-ends
returns-in_err-give-clause-ends g c =
    let F : List ℕ → Type 0 =
    λ b. IsChecked b (string_bytes c.put_reply.new.text) (status_after (Ok c.in_ok-refused.refused)) in
    check_given _ _ (streams g.S.Source g.K.Sink c.args.source.now c.args.sink.now)
    (streams g.S.Source g.K.Sink c.take_all.new.source c.give.new.sink) c.in_ok-bytes.bytes.items
    (string_bytes c.put_reply.new.text) (status_after (Ok c.in_ok-refused.refused))
    c.from_residual-in_err-give.ensures.1 c.in_ok-bytes.ensures.ends
    (subst F c.deref.ensures.value c.in_ok-refused.ensures)
    (rw c.as_str.ensures.value at c.in_err-give.ensures.given)

pub returns-clause-ends : goal.returns-clause-ends
returns-clause-ends g c =
    let F : List ℕ → Type 0 =
    λ b. IsChecked b (string_bytes c.put_reply.new.text) (status_after (Ok c.in_ok-refused.refused)) in
    checked_to_end (streams g.S.Source g.K.Sink c.args.source.now c.args.sink.now)
    (streams g.S.Source g.K.Sink c.take_all.new.source c.give.new.sink) c.in_ok-bytes.bytes.items
    (string_bytes c.put_reply.new.text) c.in_ok-refused.refused
    c.in_ok-bytes.ensures.ends (subst F c.deref.ensures.value c.in_ok-refused.ensures)
    (rw c.as_str.ensures.value at c.in_ok-give.ensures.given)
