-- What holds of the block and the commands of a state that lines lead to. No public clause cites this module.
use Rattle.std.specs.Prelude.{◌≡◌, ℕ, ◌<◌, ◌≤◌, ⊤, List, [], ◌∷◌, length, All, None, IfSome}
use Rattle.apsp_model.specs.declared.TheConstants.{MOST_VERTICES}
use Rattle.apsp_model.specs.Command.{Command, Star_update, Grow_update, Mend, graph_of, vertices_of}
use Rattle.apsp_model.specs.Star.{Star, IsStar}
use Rattle.block_run.specs.Answers.{IsAskOf}
use Rattle.network_replies.specs.Blocks.{Block}
use Rattle.apsp_service.specs.Session.{State}

-- a star of a graph with n vertices
abbrev pub IsStarOn : ℕ → Star → Type 0
IsStarOn n star = (star.vertices ≡ n) × IsStar star

-- the plan begins behind the commands, and its questions are about it
pub record IsBlockOf (n : ℕ) (commands : List Command) (b : Block) : Type 0 where
  pub start : b.plan.start ≡ graph_of n commands
  pub lo : b.plan.lo ≡ length (vertices_of commands)
  pub stars : All (IsStarOn (graph_of n commands).vertices) b.plan.stars
  pub asks : All (IsAskOf b.plan) b.asks

-- each command is an update that fits the graph before it: a star of that many vertices, or a grow to more of them;
-- the lines of a script make no mends
abbrev pub AreUpdates : ℕ → List Command → Type 0
AreUpdates n [] = ⊤
AreUpdates n (Star_update s ∷ earlier) = IsStarOn (graph_of n earlier).vertices s × AreUpdates n earlier
AreUpdates n (Grow_update m ∷ earlier) =
    ((graph_of n earlier).vertices < m) × (m ≤ MOST_VERTICES) × AreUpdates n earlier
AreUpdates n (Mend ∷ earlier) = ⊥

pub record IsLawfulState (s : State) : Type 0 where
  pub most : s.vertices ≤ MOST_VERTICES
  pub block : IfSome s.block (IsBlockOf s.vertices s.commands)
  pub live : s.terms.readers ≡ None → s.block ≡ None
  pub commands : AreUpdates s.vertices s.commands
