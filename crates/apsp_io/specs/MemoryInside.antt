-- What holds of the fields of a source in memory. No public clause cites this module.
use Rattle.std.specs.Prelude.{◌≤◌, vec_len}
use Rattle.apsp_io.specs.declared.memory.MemorySource.TheInside.{Inside}

pub record IsLawfulSource (s : Inside) : Type 0 where
  pub inside : s.place ≤ vec_len s.bytes
  pub some : 1 ≤ s.piece
  pub counted : s.faults ≤ s.calls
