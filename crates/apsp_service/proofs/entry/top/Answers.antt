use Rattle.std.proofs.Common.{rules, ap, ◌∙◌}
use Rattle.std.specs.Prelude.{Some}
use Rattle.apsp_service.proofs.Outcomes.{live_outcome, of_words}
use Rattle.apsp_service.proofs.entry.top.Goals as goal

pub returns-in-Some-clause-nothing_written : goal.returns-in-Some-clause-nothing_written
returns-in-Some-clause-nothing_written g c =
    of_words _ _ _ _ c.in-Some.is c.read_words.ensures.mode c.script.ensures.nothing_written

pub returns-in-Some-Live-clause-answered : goal.returns-in-Some-Live-clause-answered
returns-in-Some-Live-clause-answered g c =
    of_words _ _ _ _ (c.in-Some-Live.is ∙ ap Some c.in-Some-Live.field-0-is) c.read_words.ensures.mode
    (live_outcome c.in-Some-Live.workers c.in-Some-Live.readers c.in-Some-Live.slots c.in-Some-Live.smooth _ _ _ _ _
    c.terms.ensures c.status.ensures c.run.ensures.ends).answered

pub returns-in-Some-Live-clause-too_much : goal.returns-in-Some-Live-clause-too_much
returns-in-Some-Live-clause-too_much g c =
    (live_outcome c.in-Some-Live.workers c.in-Some-Live.readers c.in-Some-Live.slots c.in-Some-Live.smooth _ _ _ _ _
    c.terms.ensures c.status.ensures c.run.ensures.ends).too_much

pub returns-in-Some-Live-clause-says_too_much : goal.returns-in-Some-Live-clause-says_too_much
returns-in-Some-Live-clause-says_too_much g c =
    λ some. (live_outcome c.in-Some-Live.workers c.in-Some-Live.readers c.in-Some-Live.slots c.in-Some-Live.smooth _ _ _ _ _
    c.terms.ensures c.status.ensures c.run.ensures.ends).says_too_much

pub returns-in-Some-Live-clause-says_refused : goal.returns-in-Some-Live-clause-says_refused
returns-in-Some-Live-clause-says_refused g c =
    of_words _ _ _ _ (c.in-Some-Live.is ∙ ap Some c.in-Some-Live.field-0-is) c.read_words.ensures.mode
    (live_outcome c.in-Some-Live.workers c.in-Some-Live.readers c.in-Some-Live.slots c.in-Some-Live.smooth _ _ _ _ _
    c.terms.ensures c.status.ensures c.run.ensures.ends).says_refused

pub returns-in-Some-Live-clause-complete : goal.returns-in-Some-Live-clause-complete
returns-in-Some-Live-clause-complete g c =
    of_words _ _ _ _ (c.in-Some-Live.is ∙ ap Some c.in-Some-Live.field-0-is) c.read_words.ensures.mode
    (live_outcome c.in-Some-Live.workers c.in-Some-Live.readers c.in-Some-Live.slots c.in-Some-Live.smooth _ _ _ _ _
    c.terms.ensures c.status.ensures c.run.ensures.ends).complete

pub returns-in-Some-Live-clause-stopped_early : goal.returns-in-Some-Live-clause-stopped_early
returns-in-Some-Live-clause-stopped_early g c =
    of_words _ _ _ _ (c.in-Some-Live.is ∙ ap Some c.in-Some-Live.field-0-is) c.read_words.ensures.mode
    (live_outcome c.in-Some-Live.workers c.in-Some-Live.readers c.in-Some-Live.slots c.in-Some-Live.smooth _ _ _ _ _
    c.terms.ensures c.status.ensures c.run.ensures.ends).stopped_early

pub returns-in-Some-Live-clause-cut_short : goal.returns-in-Some-Live-clause-cut_short
returns-in-Some-Live-clause-cut_short g c =
    of_words _ _ _ _ (c.in-Some-Live.is ∙ ap Some c.in-Some-Live.field-0-is) c.read_words.ensures.mode
    (live_outcome c.in-Some-Live.workers c.in-Some-Live.readers c.in-Some-Live.slots c.in-Some-Live.smooth _ _ _ _ _
    c.terms.ensures c.status.ensures c.run.ensures.ends).cut_short

pub returns-in-Some-Live-clause-takes : goal.returns-in-Some-Live-clause-takes
returns-in-Some-Live-clause-takes g c =
    (live_outcome c.in-Some-Live.workers c.in-Some-Live.readers c.in-Some-Live.slots c.in-Some-Live.smooth _ _ _ _ _
    c.terms.ensures c.status.ensures c.run.ensures.ends).takes
