use Rattle.apsp_service.proofs.Standing.{certificate_stands}
use Rattle.apsp_service.proofs.session.Session.give_certificate.Goals as goal

pub returns-in-Some-clause-gives : goal.returns-in-Some-clause-gives
returns-in-Some-clause-gives g c = λ s has.
    certificate_stands _ _ c.in-Some.network s _ _ _ _ c.in-Some.is has.inside.network c.give_certificate.ensures.gives
