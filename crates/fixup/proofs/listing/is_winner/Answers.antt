use Rattle.std.proofs.Common.{sym, ◌∙◌, arith}
use Rattle.std.proofs.lemmas.Bool.{eq-eqb, eqb-true}
use Rattle.fixup.proofs.Searching.{searching_behind, searching_in_front, found_there, there_found}
use Rattle.fixup.proofs.listing.is_winner.Goals as goal

pub search-preserved-in-Less : goal.search-preserved-in-Less
search-preserved-in-Less c =
    searching_behind c.args.arena.now c.args.winners.now c.requires.sorted c.args.id c.search.low c.search.high
    c.search.invariant _ c.index-winners-middle.result
    (omega arith) (omega arith) c.index-winners-middle.is (sym c.compare_pairs.ensures ∙ c.in-Less.is)

pub returns-in-Equal : goal.returns-in-Equal
returns-in-Equal c = (
  λ e. found_there c.args.arena.now c.args.winners.now c.requires.sorted c.args.id c.search.low c.search.high
      c.search.invariant _ c.index-winners-middle.result
      (omega arith) (omega arith) c.index-winners-middle.is
      (eqb-true c.index-winners-middle.result c.args.id (sym c.eq.ensures ∙ e)),
  λ m. c.eq.ensures ∙ eq-eqb c.index-winners-middle.result c.args.id
      (there_found c.args.arena.now c.args.winners.now c.requires.sorted c.args.id c.search.low c.search.high
      c.search.invariant _ c.index-winners-middle.result
      (omega arith) (omega arith) c.index-winners-middle.is (sym c.compare_pairs.ensures ∙ c.in-Equal.is) m),
)

pub search-preserved : goal.search-preserved
search-preserved c =
    searching_in_front c.args.arena.now c.args.winners.now c.requires.sorted c.args.id c.search.low c.search.high
    c.search.invariant _ c.index-winners-middle.result
    (omega arith) (omega arith) c.index-winners-middle.is (sym c.compare_pairs.ensures ∙ c.in-Greater.is)
