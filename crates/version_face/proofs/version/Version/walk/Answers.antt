use Rattle.std.proofs.Common.{◌≡◌, ◌+◌, ◌*◌, ◌<◌, length, ap, subst, sym, ◌∙◌, arith}
use Rattle.std.proofs.lemmas.List.{get_or_read}
use Rattle.std.proofs.lemmas.Nat.{mul-add-lt}
use Rattle.version_face.specs.Entries.{WalkIs}
use Rattle.version_face.specs.Seen.{VersionSeen}
use Rattle.version_face.proofs.Follows.{IsWalkRead, walk_at}
use Rattle.version_face.proofs.version.Version.walk.Goals as goal

read : (c : goal.After-walk_length) → IsWalkRead c.vertices-n.result c.walk_length.result c.args.self.now.graph
    c.deref.result.now c.args.x c.args.y
read c =
    let n = c.vertices-n.result in
    let same : n ≡ c.args.self.now.graph.vertices =
    c.vertices-n.ensures.vertices ∙ ap (λ (v : VersionSeen). v.graph.vertices) c.self.view_is in
    let place : c.args.x * n + c.args.y < length c.self.inside.hops.items =
    omega (
      arith,
      mul-add-lt c.args.x n c.args.y n (omega (arith, c.requires.from, same))
          (omega (arith, c.requires.to, same)),
      c.self.invariant.cells.hops_size,
      ap (λ j. j * n)
          c.vertices-n.ensures.vertices,
      ap (λ j. c.self.inside.graph.vertices * j) c.vertices-n.ensures.vertices,
    ) in
    walk_at c.self.inside.graph c.args.self.now.graph n c.walk_length.result c.index-hops.result.now c.args.x c.args.y
    c.self.inside.dist.items c.self.inside.hops.items c.self.inside.next.items c.deref.result.now
    (ap (λ (v : VersionSeen). v.graph) c.self.view_is) c.vertices-n.ensures.vertices c.deref.ensures.value
    c.self.invariant.graph c.self.invariant.cells c.requires.from c.requires.to
    (get_or_read c.self.inside.hops.items _ _ place c.index-hops.ensures 0) c.walk_length.ensures

read_new : (c : goal.After-new) → IsWalkRead c.vertices-n.result c.walk_length.result c.args.self.now.graph
    c.deref.result.now c.args.x c.args.y
read_new c =
    let n = c.vertices-n.result in
    let same : n ≡ c.args.self.now.graph.vertices =
    c.vertices-n.ensures.vertices ∙ ap (λ (v : VersionSeen). v.graph.vertices) c.self.view_is in
    let place : c.args.x * n + c.args.y < length c.self.inside.hops.items =
    omega (
      arith,
      mul-add-lt c.args.x n c.args.y n (omega (arith, c.requires.from, same))
          (omega (arith, c.requires.to, same)),
      c.self.invariant.cells.hops_size,
      ap (λ j. j * n)
          c.vertices-n.ensures.vertices,
      ap (λ j. c.self.inside.graph.vertices * j) c.vertices-n.ensures.vertices,
    ) in
    walk_at c.self.inside.graph c.args.self.now.graph n c.walk_length.result c.index-hops.result.now c.args.x c.args.y
    c.self.inside.dist.items c.self.inside.hops.items c.self.inside.next.items c.deref.result.now
    (ap (λ (v : VersionSeen). v.graph) c.self.view_is) c.vertices-n.ensures.vertices c.deref.ensures.value
    c.self.invariant.graph c.self.invariant.cells c.requires.from c.requires.to
    (get_or_read c.self.inside.hops.items _ _ place c.index-hops.ensures 0) c.walk_length.ensures

pub new-requires : goal.new-requires
new-requires c = (read c).fits

pub returns : goal.returns
returns c = subst (WalkIs c.args.self.now.graph c.args.x c.args.y) (sym c.new.ensures) (read_new c).walk
