use Rattle.apsp_service.proofs.Checked.{judged_is}
use Rattle.apsp_service.proofs.check.put_reply.Goals as goal

pub returns-in-Ok : goal.returns-in-Ok
returns-in-Ok c =
    judged_is c.put_judgement.result c.args.bytes.now _ _ c.in-Ok.stated c.requires c.in-Ok.ensures.found
    c.put_judgement.ensures
