use Rattle.std.proofs.Common.{List, ℕ, ◌++◌, ap, ◌∙◌}
use Rattle.std.specs.Prelude.{string_bytes}
use Rattle.apsp_service.specs.Load.{load_text}
use Rattle.network_replies.specs.Streams.{sink_seen}
use Rattle.apsp_service.proofs.LoadEnds.{load_memory, load_stops, load_done, memory_end, given_end}
use Rattle.apsp_service.proofs.load.load.Goals as goal

pub returns-in_err-report-clause-ends : goal.returns-in_err-report-clause-ends
returns-in_err-report-clause-ends g c source =
    load_memory _ _ _ _ source (sink_seen g.K.Sink c.args.sink.now) c.from_residual.ensures.1

pub returns-in_err-report-clause-load : goal.returns-in_err-report-clause-load
returns-in_err-report-clause-load g c = memory_end _ c.from_residual.ensures.1

pub returns-in_err-put_load-clause-ends : goal.returns-in_err-put_load-clause-ends
returns-in_err-put_load-clause-ends g c source =
    load_memory _ _ _ _ source (sink_seen g.K.Sink c.args.sink.now) c.from_residual-in_err-put_load.ensures.1

pub returns-in_err-put_load-clause-load : goal.returns-in_err-put_load-clause-load
returns-in_err-put_load-clause-load g c = memory_end _ c.from_residual-in_err-put_load.ensures.1

pub returns-in_err-give-clause-ends : goal.returns-in_err-give-clause-ends
returns-in_err-give-clause-ends g c source =
    load_stops _ _ _ _ _ source (sink_seen g.K.Sink c.args.sink.now) (sink_seen g.K.Sink c.give.new.sink)
    (string_bytes c.put_load.new.text) c.from_residual-in_err-give.ensures.1 (
      c.in_ok-report.report,
      c.in_ok-report.ensures,
      c.in_ok-put_load.ensures
          ∙ ap (λ o. o ++ load_text c.args.n c.args.seed c.in_ok-report.report) c.new-text.ensures.bytes,
    )
    (rw c.as_str.ensures.value at c.in_err-give.ensures.given)

pub returns-in_err-give-clause-load : goal.returns-in_err-give-clause-load
returns-in_err-give-clause-load g c =
    given_end _ _ (sink_seen g.K.Sink c.args.sink.now) (sink_seen g.K.Sink c.give.new.sink) _
    c.from_residual-in_err-give.ensures.1 c.in_err-give.ensures.given

pub returns-clause-ends : goal.returns-clause-ends
returns-clause-ends g c source =
    load_done _ _ _ source (sink_seen g.K.Sink c.args.sink.now) (sink_seen g.K.Sink c.give.new.sink)
    (string_bytes c.put_load.new.text) (
      c.in_ok-report.report,
      c.in_ok-report.ensures,
      c.in_ok-put_load.ensures
          ∙ ap (λ o. o ++ load_text c.args.n c.args.seed c.in_ok-report.report) c.new-text.ensures.bytes,
    )
    (rw c.as_str.ensures.value at c.in_ok-give.ensures.given)
