use Rattle.std.proofs.Common.{◌≡◌, suc, ◌+◌, ◌<◌, ap, sym, subst, ◌∙◌, arith}
use Rattle.std.specs.Option.{option_map}
use Rattle.version_face.specs.Entries.{stated}
use Rattle.load_run.specs.declared.distances.Distances.{Distances}
use Rattle.load_run.specs.Rows.{RowDistancesAre}
use Rattle.load_run.proofs.Summing.{entry_few, row_own, row_without, row_more}
use Rattle.load_run.proofs.distances.row_distances.Goals as goal
use Rattle.load_run.proofs.distances.row_distances.Goals.{then-x-y+in-Some, then-x-y+in-None, else-x-y}

pub cells-preserved : goal.cells-preserved
cells-preserved c =
    let s = c.args.stated.now in
    let x = c.args.x in
    let y = c.cells.y in
    let one : suc y ≡ y + 1 = omega arith in
    let inside : y < s.graph.vertices = omega (arith, c.cells-test.true, c.vertices-y-end.ensures.vertices) in
    subst (λ k. RowDistancesAre s x k c.if-x-y.row.pairs c.if-x-y.row.sum) one (elim c.if-x-y.branch [
      | then-x-y+in-Some w ↦
          let is = sym w.entry.ensures.entry ∙ ap (option_map stated) w.in-Some.is in
          row_more s x y c.cells.row.pairs c.cells.row.sum _ c.if-x-y.row.pairs c.if-x-y.row.sum c.cells.invariant
          w.if-x-y.true is
          (entry_few s x y _ c.vertices-y-end.ensures.range.range.graph c.requires.lawful c.requires.from inside
          w.if-x-y.true is)
          (ap (λ (r : Distances). r.pairs) w.row-is) (ap (λ (r : Distances). r.sum) w.row-is)
      | then-x-y+in-None w ↦
          let is = sym w.entry.ensures.entry ∙ ap (option_map stated) w.in-None.is in
          subst (λ (r : Distances). RowDistancesAre s x (suc y) r.pairs r.sum) (sym w.row-is)
          (row_without s x y c.cells.row.pairs c.cells.row.sum c.cells.invariant w.if-x-y.true is)
      | else-x-y w ↦ subst (λ (r : Distances). RowDistancesAre s x (suc y) r.pairs r.sum) (sym w.row-is)
          (row_own s x y c.cells.row.pairs c.cells.row.sum c.cells.invariant w.if-x-y.false)
    ])
