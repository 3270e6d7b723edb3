-- Numbers that are within a limit.

use Rattle.std.specs.Prelude.{ℕ, ◌≤◌}
use Rattle.apsp_model.specs.declared.TheConstants.{MOST_WORKERS, MOST_READERS, LEAST_SLOTS, MOST_SLOTS}

-- From 1 to MOST_WORKERS.
abbrev pub IsWorkerCount : ℕ → Type 0
IsWorkerCount workers = (1 ≤ workers) × (workers ≤ MOST_WORKERS)

-- From 1 to MOST_READERS.
abbrev pub IsReaderCount : ℕ → Type 0
IsReaderCount readers = (1 ≤ readers) × (readers ≤ MOST_READERS)

-- From LEAST_SLOTS to MOST_SLOTS.
abbrev pub IsSlotCount : ℕ → Type 0
IsSlotCount slots = (LEAST_SLOTS ≤ slots) × (slots ≤ MOST_SLOTS)
