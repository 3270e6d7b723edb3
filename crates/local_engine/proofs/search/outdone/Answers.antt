use Rattle.std.proofs.Common.{rules, ◌≡◌, ◌+◌, ◌++◌, ◌∷◌, [], Vec, Global, take, sym, ◌∙◌, ap, subst, arith}
use Rattle.std.proofs.lemmas.Bool.{false≢true}
use Rattle.path_arena.specs.declared.id.PathId.{PathId}
use Rattle.shortest_math.proofs.Searches.{IsPicked, picking_starts}
use Rattle.local_engine.specs.Demoting.{size_at, AreMarked}
use Rattle.local_engine.proofs.Searching.{IsNotShortest, picked_more, picked_over, picked_all}
use Rattle.local_engine.proofs.search.outdone.Goals as goal
use Rattle.local_engine.proofs.search.outdone.Goals.{then-not-is_least+in_ok-map_err, else-not-is_least}

pub all-init : goal.all-init
all-init c = λ g covers. subst (λ xs. IsPicked (size_at c.args.book.now) (IsNotShortest g c.args.book.now) [] xs)
    (sym c.new-paths.ensures.items) (picking_starts (size_at c.args.book.now) (IsNotShortest g c.args.book.now))

pub is_least-requires : goal.is_least-requires
is_least-requires c =
    let marked : AreMarked c.args.book.now c.deref-id-items.result.now =
    subst (AreMarked c.args.book.now) (sym c.deref-id-items.ensures.value) c.in_ok-all.ensures.marked in
    record {
      live = c.show_lawful.ensures.marked_live c.id-item.result
          ((marked.exact c.id-item.result).0 (c.all.id-index, c.all-test.true, sym c.id-item.is));
    }

pub all-preserved : goal.all-preserved
all-preserved c = λ g covers.
    let b = c.args.book.now in
    let ids = c.deref-id-items.result.now in
    let marked : AreMarked b ids = subst (AreMarked b) (sym c.deref-id-items.ensures.value) c.in_ok-all.ensures.marked in
    let told = c.is_least.ensures.shortest g covers in
    elim c.if-not-is_least.branch [
      | then-not-is_least+in_ok-map_err w ↦
          let more : w.push.new.self.items ≡ c.all.paths.items ++ c.id-item.result ∷ [] = search rules in
          subst (IsPicked (size_at b) (IsNotShortest g b) (take (c.all.id-index + 1) ids))
          (sym (ap (λ (v : Vec PathId Global). v.items) w.paths-is ∙ more))
          (picked_more g b ids marked c.all.id-index c.id-item.result c.all.paths.items (c.all.invariant g covers)
          c.all-test.true c.id-item.is (λ h. false≢true (sym w.if-not-is_least.true ∙ told.1 h)))
      | else-not-is_least w ↦
          subst (IsPicked (size_at b) (IsNotShortest g b) (take (c.all.id-index + 1) ids))
          (sym (ap (λ (v : Vec PathId Global). v.items) w.paths-is))
          (picked_over g b ids marked c.all.id-index c.id-item.result c.all.paths.items (c.all.invariant g covers)
          c.all-test.true c.id-item.is (told.0 w.if-not-is_least.false))
    ]

pub returns : goal.returns
returns c = record {
  outdone = λ g covers. picked_all g c.args.book.now c.deref-id-items.result.now
      (subst (AreMarked c.args.book.now) (sym c.deref-id-items.ensures.value) c.in_ok-all.ensures.marked)
      c.all.id-index c.all.paths.items (omega (arith, c.all-test.false)) (c.all.invariant g covers);
}
