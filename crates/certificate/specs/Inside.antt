-- The tables of a stated value. No public clause cites this module.
use Rattle.std.specs.Prelude.{◌≡◌, ℕ, ◌+◌, ◌*◌, List, length, Option}
use Rattle.std.specs.Option.{option_map}
use Rattle.std.specs.FinMap as map
use Rattle.apsp_model.specs.Stated.{Stated, Entry as Stated_entry}
use Rattle.certificate.specs.Grammar.{IsWritable}
use Rattle.version_face.specs.declared.Entry.{Entry}
use Rattle.version_face.specs.Entries.{stated}
use Rattle.certificate.specs.Table.{table_map, table_cell}

abbrev pub entry_cell : List (Option Entry) → ℕ → Option Stated_entry
entry_cell cells k = option_map stated (table_cell cells k)

-- what the tables state
abbrev pub stated_in : ℕ → ℕ → List (Option ℕ) → List (Option Entry) → Stated
stated_in number n weights entries = record {
  number = number;
  graph = record { vertices = n; edges = table_map n (λ u v. table_cell weights (u * n + v)) };
  entries = table_map n (λ x y. entry_cell entries (x * n + y));
}

pub record AreTables (number n : ℕ) (weights : List (Option ℕ)) (entries : List (Option Entry)) : Type 0 where
  pub weights_size : length weights ≡ n * n
  pub entries_size : length entries ≡ n * n
  pub writable : IsWritable (stated_in number n weights entries)

-- with one more edge, or one more entry
abbrev pub with_stated_edge : Stated → (ℕ × ℕ) × ℕ → Stated
with_stated_edge s e = record s { graph = record s.graph { edges = map.insert s.graph.edges e.0 e.1 } }

abbrev pub with_pair : Stated → (ℕ × ℕ) × Stated_entry → Stated
with_pair s e = record s { entries = map.insert s.entries e.0 e.1 }
