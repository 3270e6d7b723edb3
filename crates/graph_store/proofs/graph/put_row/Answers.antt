use Rattle.std.proofs.Common.{length, refl}
use Rattle.graph_store.proofs.Cells.{row_put}
use Rattle.graph_store.proofs.graph.put_row.Goals as goal

pub returns : goal.returns
returns c =
    rw c.copy_from_slice.ensures.after (row_put (length c.args.row.now) c.args.number c.args.row.now c.args.cells.now
    c.requires.inside refl c.requires.size)
