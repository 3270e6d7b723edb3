use Rattle.fixup.specs.Growth.{EdgesAreFormed}
use Rattle.fixup.proofs.starts.form_edges.Given as goal

abbrev pub invariant-edges : goal.invariant-edges
invariant-edges l = EdgesAreFormed l.graph l.v l.birth l.initial.book l.u l.u l.book
