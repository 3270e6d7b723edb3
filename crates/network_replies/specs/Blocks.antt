-- Blocks that are open.
use Rattle.std.specs.Prelude.{ℕ, List, length, Option, Some, None, refl}
use Rattle.std.specs.Coded.{Coded, code_by, coded×, coded_ℕ, coded_list}
use Rattle.apsp_model.specs.Graph.{Graph}
use Rattle.graph_store.specs.Plan.{Plan, plan_code, graph_after}
use Rattle.block_run.specs.declared.asks.Ask.{Ask}

-- a block that is open: the plan of its updates, and its questions in order
pub record Block : Type 0 where
  pub plan : Plan
  pub asks : List Ask

abbrev pub ask_code : Coded Ask
ask_code =
    code_by (ℕ × (ℕ × ℕ)) (coded× coded_ℕ (coded× coded_ℕ coded_ℕ))
    (λ a. (a.x, (a.y, a.since))) (λ t. record { x = t.0; y = t.1.0; since = t.1.1 }) (λ _. refl)

abbrev pub block_code : Coded Block
block_code =
    code_by (Plan × List Ask) (coded× plan_code (coded_list ask_code))
    (λ b. (b.plan, b.asks)) (λ t. record { plan = t.0; asks = t.1 }) (λ _. refl)

-- the graph after all updates of a plan
abbrev pub last_graph : Plan → Graph
last_graph plan = graph_after plan.start plan.stars

-- how many updates and questions the open block has
abbrev pub updates_in : Option Block → ℕ
updates_in None = 0
updates_in (Some b) = length b.plan.stars

abbrev pub asks_in : Option Block → ℕ
asks_in None = 0
asks_in (Some b) = length b.asks
