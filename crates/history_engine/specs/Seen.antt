-- What contracts see of an engine.
use Rattle.std.specs.Prelude.{◌≡◌, ℕ, ◌↔◌, Bool, List, Option, Contains, refl}
use Rattle.std.specs.Coded.{Coded, code_by, coded×, coded_ℕ, coded_bool, coded_list, coded_option}
use Rattle.apsp_model.specs.Graph.{Graph, graph_code}
use Rattle.apsp_model.specs.Walk.{weight_of}
use Rattle.apsp_model.specs.Kept.{Moment}
use Rattle.path_book.specs.Book.{Book, book_code, kept_paths}
use Rattle.apsp_model.specs.Paths.{KeptPath, IsOncePerList, moment_in}

-- the opening number of vertices; the graph; whether smoothing is on; the vertex of each update, and none for a grow; the
-- number of steps; what the latest update formed and removed; whether the engine is spent; and the book that it holds
pub record EngineSeen : Type 0 where
  pub opening : ℕ
  pub graph : Graph
  pub smooth : Bool
  pub vertices : List (Option ℕ)
  pub steps : ℕ
  pub formed : ℕ
  pub removed : ℕ
  pub spent : Bool
  pub book : Book

abbrev pub engine_seen_code : Coded EngineSeen
engine_seen_code =
    code_by (ℕ × (Graph × (Bool × (List (Option ℕ) × (ℕ × (ℕ × (ℕ × (Bool × Book))))))))
    (coded× coded_ℕ
    (coded× graph_code
    (coded× coded_bool
    (coded× (coded_list (coded_option coded_ℕ))
    (coded× coded_ℕ (coded× coded_ℕ (coded× coded_ℕ (coded× coded_bool book_code))))))))
    (λ e. (e.opening, (e.graph, (e.smooth, (e.vertices, (e.steps, (e.formed, (e.removed, (e.spent, e.book)))))))))
    (λ t. record {
      opening = t.0;
      graph = t.1.0;
      smooth = t.1.1.0;
      vertices = t.1.1.1.0;
      steps = t.1.1.1.1.0;
      formed = t.1.1.1.1.1.0;
      removed = t.1.1.1.1.1.1.0;
      spent = t.1.1.1.1.1.1.1.0;
      book = t.1.1.1.1.1.1.1.1;
    })
    (λ _. refl)

-- the kept paths
abbrev pub paths_of : EngineSeen → List KeptPath
paths_of e = kept_paths e.book

-- what is seen, as a moment
abbrev pub moment_seen : EngineSeen → Moment
moment_seen e = moment_in e.steps (paths_of e)

-- two moments say the same
pub record SayTheSame (m n : Moment) : Type 0 where
  pub steps : m.steps ≡ n.steps
  pub historical : (p : List ℕ) → m.historical p ↔ n.historical p
  pub kept : (p : List ℕ) → m.kept p ↔ n.kept p
  pub birth : (p : List ℕ) (b : ℕ) → m.birth p b ↔ n.birth p b

-- the paths have their weights in the graph, each stands once, and they say what the moment says
pub record BookIs (e : EngineSeen) (m : Moment) : Type 0 where
  pub weights : (k : KeptPath) → Contains (paths_of e) k → k.weight ≡ weight_of e.graph k.list
  pub once : IsOncePerList (paths_of e)
  pub says : SayTheSame (moment_seen e) m
