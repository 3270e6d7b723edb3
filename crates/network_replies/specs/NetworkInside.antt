-- What holds of the fields of a session's network. No public clause cites this module.
use Rattle.std.specs.Prelude.{◌≡◌}
use Rattle.std.specs.Option.{ForSome}
use Rattle.network_replies.specs.declared.network.Network.TheInside.{Inside}

-- there is room for a star, and for a version where one was asked for
pub record HasRoomForAnswers (n : Inside) : Type 0 where
  pub star : n.star.vertices ≡ n.engine.graph.vertices
  pub version : ForSome n.version (λ v. v.graph.vertices ≡ n.engine.graph.vertices)
