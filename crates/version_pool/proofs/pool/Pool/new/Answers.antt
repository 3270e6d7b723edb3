use Rattle.std.proofs.Common.{rules, sym, ◌∙◌, ap}
use Rattle.version_face.specs.Seen.{VersionSeen}
use Rattle.version_pool.proofs.Versions.{vertices_of}
use Rattle.version_pool.proofs.pool.Pool.new.Goals as goal

pub returns-clause-publisher : goal.returns-clause-publisher
returns-clause-publisher c =
    let first =
    ap (λ (v : VersionSeen). v.graph.vertices) c.copy_into.ensures
    ∙ vertices_of c.args.plan.now _ _ c.requires.first in record {
      pool_is = search rules;
      slots = search rules;
      vertices = first ∙ sym (ap (λ (k : _). k.plan.start.vertices) c.in_ok-cells.ensures);
    }
