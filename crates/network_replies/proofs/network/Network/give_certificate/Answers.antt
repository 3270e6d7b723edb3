use Rattle.network_replies.proofs.Written.{certificate_begun, certificate_written}
use Rattle.network_replies.proofs.network.Network.give_certificate.Goals as goal

pub returns-in_err-version-clause-gives : goal.returns-in_err-version-clause-gives
returns-in_err-version-clause-gives g c = certificate_begun _ c.args.self.now _ _ _ c.from_residual.ensures.1

pub returns-clause-gives : goal.returns-clause-gives
returns-clause-gives g c =
    certificate_written _ c.write_certificate.result c.in_ok-version.version c.args.self.now _ _ _ _
    c.given-ended.ensures c.in_ok-version.ensures.present c.write_certificate.ensures.text
