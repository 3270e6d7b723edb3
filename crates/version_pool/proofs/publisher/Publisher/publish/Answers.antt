use Rattle.std.proofs.Common.{ℕ, sym, ◌∙◌, ap}
use Rattle.version_pool.specs.Pooled.{Publisher, spare_vertices}
use Rattle.version_pool.proofs.Versions.{vertices_of}
use Rattle.version_pool.proofs.publisher.Publisher.publish.Goals as goal

pub refill-requires-clause-same : goal.refill-requires-clause-same
refill-requires-clause-same g c =
    let next = vertices_of c.args.pool.now.plan _ _ c.requires.of_plan in
    let spare =
    ap spare_vertices (sym c.in-Some.is ∙ c.take.ensures.value)
    ∙ ap (λ (p : Publisher). p.vertices) c.self.view_is in
    next ∙ sym (spare ∙ c.requires.publisher.vertices)

pub returns-in_default-claim_from_top-clause-publisher :
    goal.returns-in_default-claim_from_top-clause-publisher
returns-in_default-claim_from_top-clause-publisher g c =
    let filled = ap (λ (h : _). h.vertices) c.refill.ensures.graph in record {
      pool_is = ap (λ (p : Publisher). p.pool) c.self.view_is ∙ c.requires.publisher.pool_is;
      slots = ap (λ (p : Publisher). p.slots) c.self.view_is ∙ c.requires.publisher.slots;
      vertices = filled ∙ vertices_of c.args.pool.now.plan _ _ c.requires.of_plan;
    }

pub returns-in_default-claim_from_top-clause-unchanged :
    goal.returns-in_default-claim_from_top-clause-unchanged
returns-in_default-claim_from_top-clause-unchanged g c =
    let filled =
    ap (λ (h : _). h.vertices) c.refill.ensures.graph ∙ vertices_of c.args.pool.now.plan _ _ c.requires.of_plan in
    let was = ap (λ (p : Publisher). p.vertices) c.self.view_is ∙ c.requires.publisher.vertices in
    ap (λ (n : ℕ). record {
      pool = c.self.inside.seat.table_id;
      slots = c.self.inside.seat.me.0.slots;
      vertices = n;
      mark = c.self.inside.mark;
    }) (filled ∙ sym was) ∙ c.self.view_is

pub returns-clause-publisher : goal.returns-clause-publisher
returns-clause-publisher g c =
    let pool_plan = c.in-Some-claim_from_top.ensures.plan ∙ ap (λ (p : _). p.plan) c.pool.view_is in record {
      pool_is =
          c.announce.ensures.table ∙ (ap (λ (p : Publisher). p.pool) c.self.view_is ∙ c.requires.publisher.pool_is);
      slots = ap (λ (me : _). me.0.slots) c.announce.ensures.announced
          ∙ (ap (λ (p : Publisher). p.slots) c.self.view_is ∙ c.requires.publisher.slots);
      vertices = vertices_of _ _ _ c.put.ensures ∙ ap (λ (p : _). p.start.vertices) pool_plan;
    }
