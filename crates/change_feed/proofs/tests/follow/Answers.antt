use Rattle.std.proofs.Common.{rules}
use denote.Param.Send.{sendable}
use Rattle.change_feed.specs.Feeds.{IsSenderLater, IsMirrorLater}
use Rattle.change_feed.proofs.Crossing.{mirror_send}
use Rattle.change_feed.proofs.Leading.{feed_later}
use Rattle.change_feed.proofs.tests.follow.Goals as goal

pub join_mut-sent-requires-send-F : goal.join_mut-sent-requires-send-F
join_mut-sent-requires-send-F g c = let m = mirror_send in search sendable depth 20

pub take_beside-requires : goal.take_beside-requires
take_beside-requires g c =
    let s : IsSenderLater c.args.sender.now c.sender-1.given.0 = search rules in
    let m : IsMirrorLater c.args.mirror.now c.mirror-1.given.0 = search rules in
    feed_later _ _ _ _ c.requires.feed s m

pub returns : goal.returns
returns g c =
    let s : IsSenderLater c.args.sender.now c.sender-1.given.0 = search rules in
    let m : IsMirrorLater c.args.mirror.now c.mirror-1.given.0 = search rules in
    feed_later _ _ _ _ (feed_later _ _ _ _ c.requires.feed s m) c.take_beside.ensures.sender
    c.take_beside.ensures.mirror
