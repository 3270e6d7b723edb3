-- A source and a sink in memory, with the calls that fail listed by number.
use Rattle.std.specs.Prelude.{ℕ, ◌==◌, min, List, length, find, Option}
use Rattle.apsp_io.specs.declared.memory.Cutoff.{Cutoff}

-- a source in memory: the bytes that are left, the most bytes that a call gives, the numbers of
-- the calls that fail, how many calls were made, and how many of them failed
pub record Source : Type 0 where
  pub left : List ℕ
  pub piece : ℕ
  pub failing : List ℕ
  pub calls : ℕ
  pub faults : ℕ

-- a sink in memory: the bytes that it holds, the calls that fail, how many calls were made, and
-- how many of them answered that the sink failed
pub record Sink : Type 0 where
  pub held : List ℕ
  pub failing : List Cutoff
  pub calls : ℕ
  pub faults : ℕ

-- how many bytes a call gives that does not fail
abbrev pub given : Source → List ℕ → ℕ
given s into = min s.piece (min (length into) (length s.left))

-- the first cutoff that is listed for the call of this number
abbrev pub cutoff_at : List Cutoff → ℕ → Option Cutoff
cutoff_at failing number = find (λ c. c.call == number) failing
