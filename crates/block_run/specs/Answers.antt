-- The questions of a block, and which answers they may get.
use Rattle.std.specs.Prelude.{◌≡◌, ℕ, ◌+◌, ◌%◌, ◌<◌, ◌≤◌, List, [], length, slice_index_or, Option, unwrap_or}
use Rattle.apsp_model.specs.Graph.{Graph}
use Rattle.apsp_model.specs.Least.{LeastIs}
use Rattle.graph_store.specs.Plan.{Plan, plan_graph, hi_of}
use Rattle.version_face.specs.Entries.{dist_in}
use Rattle.block_run.specs.declared.asks.Ask.{Ask}
use Rattle.block_run.specs.declared.answers.Answer.{Answer}

-- a question about the vertices of this plan, after no more updates than it has
pub record IsAskOf (plan : Plan) (ask : Ask) : Type 0 where
  pub from : ask.x < plan.start.vertices
  pub to : ask.y < plan.start.vertices
  pub since : ask.since ≤ length plan.stars

-- the distance and the list are those of the least walk from x to y, or say that there is no walk
pub record IsFound (g : Graph) (x y d : ℕ) (list : List ℕ) : Type 0 where
  pub walk : Option (List ℕ)
  pub least : LeastIs g x y walk
  pub dist : d ≡ dist_in g walk
  pub is : list ≡ unwrap_or walk []

-- an answer from the plan's graph of its number, which is not older than was asked
pub record IsAnswer (plan : Plan) (ask : Ask) (a : Answer) : Type 0 where
  pub x : a.x ≡ ask.x
  pub y : a.y ≡ ask.y
  pub from_since : plan.lo + ask.since ≤ a.number
  pub to_hi : a.number ≤ hi_of plan
  pub found : IsFound (plan_graph plan a.number) ask.x ask.y a.dist a.walk

-- an answer to each question in their order; of the answers of one reader none is older than one before it
pub record BlockReply (plan : Plan) (asks : List Ask) (readers : ℕ) (answers : List Answer) : Type 0 where
  pub len : length answers ≡ length asks
  pub each : (i : ℕ) (d : Ask) (e : Answer) → i < length asks
      → IsAnswer plan (slice_index_or asks i d) (slice_index_or answers i e)
  pub rising : (i j : ℕ) (e : Answer) → i < j → j < length asks → i % readers ≡ j % readers
      → (slice_index_or answers i e).number ≤ (slice_index_or answers j e).number
