use Rattle.std.proofs.Common.{◌≡◌, ℕ, List, [], ◌∷◌, length, refl, sym, subst, arith, inr}
use Rattle.path_arena.specs.Arena.{Arena, HasAnEdge}
use Rattle.path_book.specs.Book.{kept_paths}
use Rattle.path_book.specs.Through.{IsVictims}
use Rattle.fixup_math.specs.Refresh.{IsRefreshed}
use Rattle.cleanup_tasks.proofs.Refreshing.{parts_are_least, higher_not_least}
use Rattle.cleanup_tasks.proofs.InPlace.{IsRefreshing, refreshing_none, refreshing_more, live_here, edge_here, through_here, least_here, parts_same, goes, free}
use Rattle.cleanup_tasks.proofs.Steps.{born_step, demoted_step, gone_step}
use Rattle.cleanup_tasks.proofs.Refreshed.{all_refreshed}
use Rattle.cleanup_tasks.proofs.in_place.refresh.Goals as goal

pub longest-init : goal.longest-init
longest-init c =
    let F : ℕ → Type 0 = λ v. IsVictims c.args.book.now v c.args.list.now.ids in
    let G : List ℕ → Type 0 = λ ids. IsVictims c.args.book.now c.vertex-v.result ids in
    refreshing_none c.vertex-v.result c.args.birth c.args.book.now c.ids-rest.result.now c.show_lawful.ensures
    (subst G (sym c.ids-rest.ensures) (subst F (sym c.vertex-v.ensures) c.requires.victims))

pub is_least-requires : goal.is_least-requires
is_least-requires c =
    live_here c.vertex-v.result c.args.birth c.args.book.now c.longest.book c.longest.rest.now c.in-Some.shorter.now
    c.in-Some.field-0-0.now c.in-Some.ensures.cases.0 c.longest.invariant

pub set_birth-requires : goal.set_birth-requires
set_birth-requires c =
    edge_here c.vertex-v.result c.args.birth c.args.book.now c.longest.book c.longest.rest.now c.in-Some.shorter.now
    c.in-Some.field-0-0.now c.in-Some.ensures.cases.0 c.longest.invariant

pub longest-preserved-then-is_least : goal.longest-preserved-then-is_least
longest-preserved-then-is_least c =
    let least =
    (least_here c.vertex-v.result c.args.birth c.args.book.now c.longest.book c.longest.rest.now
    c.in-Some.shorter.now c.in-Some.field-0-0.now c.in-Some.ensures.cases.0 c.longest.invariant).0
    (c.is_least.ensures.yes c.if-is_least.true) in
    refreshing_more c.vertex-v.result c.args.birth c.args.book.now c.longest.book c.longest.rest.now
    c.in-Some.shorter.now c.in-Some.field-0-0.now c.in-Some.ensures.cases.0 c.longest.invariant c.set_birth.new.self
    (born_step c.vertex-v.result c.args.birth c.in-Some.field-0-0.now c.args.book.now c.longest.book
    c.longest.book.marked c.longest.book.lists c.longest.invariant.book
    (edge_here c.vertex-v.result c.args.birth c.args.book.now c.longest.book c.longest.rest.now
    c.in-Some.shorter.now c.in-Some.field-0-0.now c.in-Some.ensures.cases.0 c.longest.invariant)
    (parts_are_least c.args.book.now c.longest.invariant.was c.requires.leasts c.in-Some.field-0-0.now least
    c.vertex-v.result)
    (λ q. (λ h. (h, λ _. inr least), λ h. h.0)) c.set_birth.new.self c.set_birth.ensures.born
    c.set_birth.ensures.lawful)

pub has_staying_parts-requires : goal.has_staying_parts-requires
has_staying_parts-requires c =
    through_here c.vertex-v.result c.args.birth c.args.book.now c.longest.book c.longest.rest.now c.in-Some.shorter.now
    c.in-Some.field-0-0.now c.in-Some.ensures.cases.0 c.longest.invariant

pub demote-requires-clause-edge : goal.demote-requires-clause-edge
demote-requires-clause-edge c =
    edge_here c.vertex-v.result c.args.birth c.args.book.now c.longest.book c.longest.rest.now c.in-Some.shorter.now
    c.in-Some.field-0-0.now c.in-Some.ensures.cases.0 c.longest.invariant

pub demote-requires-clause-free : goal.demote-requires-clause-free
demote-requires-clause-free c =
    free c.vertex-v.result c.args.birth c.args.book.now c.longest.book c.longest.rest.now c.in-Some.shorter.now
    c.in-Some.field-0-0.now c.in-Some.ensures.cases.0 c.longest.invariant
    (λ l. let h = (least_here c.vertex-v.result c.args.birth c.args.book.now c.longest.book c.longest.rest.now
    c.in-Some.shorter.now c.in-Some.field-0-0.now c.in-Some.ensures.cases.0 c.longest.invariant).1 l in
    higher_not_least c.longest.book c.longest.invariant.book c.in-Some.field-0-0.now
    (c.is_least.ensures.no c.if-is_least.false) h.0 h.1 h.2)

pub demote-requires-clause-above : goal.demote-requires-clause-above
demote-requires-clause-above c =
    higher_not_least c.longest.book c.longest.invariant.book c.in-Some.field-0-0.now
    (c.is_least.ensures.no c.if-is_least.false)

pub set_birth-requires-then-has_staying_parts : goal.set_birth-requires-then-has_staying_parts
set_birth-requires-then-has_staying_parts c =
    subst (λ (a : Arena). HasAnEdge a c.in-Some.field-0-0.now) (sym c.demote.ensures.arena)
    (edge_here c.vertex-v.result c.args.birth c.args.book.now c.longest.book c.longest.rest.now c.in-Some.shorter.now
    c.in-Some.field-0-0.now c.in-Some.ensures.cases.0 c.longest.invariant)

pub longest-preserved-then-has_staying_parts : goal.longest-preserved-then-has_staying_parts
longest-preserved-then-has_staying_parts c =
    refreshing_more c.vertex-v.result c.args.birth c.args.book.now c.longest.book c.longest.rest.now
    c.in-Some.shorter.now c.in-Some.field-0-0.now c.in-Some.ensures.cases.0 c.longest.invariant
    c.set_birth-then-has_staying_parts.new.self
    (demoted_step c.vertex-v.result c.args.birth c.in-Some.field-0-0.now c.args.book.now c.longest.book
    c.demote.new.book c.demote.ensures.arena c.longest.invariant.book
    (edge_here c.vertex-v.result c.args.birth c.args.book.now c.longest.book c.longest.rest.now
    c.in-Some.shorter.now c.in-Some.field-0-0.now c.in-Some.ensures.cases.0 c.longest.invariant)
    ((parts_same c.vertex-v.result c.args.birth c.args.book.now c.longest.book c.longest.rest.now c.in-Some.shorter.now
    c.in-Some.field-0-0.now c.in-Some.ensures.cases.0 c.longest.invariant).0
    (c.has_staying_parts.ensures.yes c.if-has_staying_parts.true))
    (goes c.vertex-v.result c.args.birth c.args.book.now c.longest.book c.longest.rest.now c.in-Some.shorter.now
    c.in-Some.field-0-0.now c.in-Some.ensures.cases.0 c.longest.invariant
    (λ l. let h = (least_here c.vertex-v.result c.args.birth c.args.book.now c.longest.book c.longest.rest.now
    c.in-Some.shorter.now c.in-Some.field-0-0.now c.in-Some.ensures.cases.0 c.longest.invariant).1 l in
    higher_not_least c.longest.book c.longest.invariant.book c.in-Some.field-0-0.now
    (c.is_least.ensures.no c.if-is_least.false) h.0 h.1 h.2))
    c.demote.ensures.marked c.set_birth-then-has_staying_parts.new.self c.set_birth-then-has_staying_parts.ensures.born
    c.set_birth-then-has_staying_parts.ensures.lawful)

pub forget_higher-requires-clause-edge : goal.forget_higher-requires-clause-edge
forget_higher-requires-clause-edge c =
    edge_here c.vertex-v.result c.args.birth c.args.book.now c.longest.book c.longest.rest.now c.in-Some.shorter.now
    c.in-Some.field-0-0.now c.in-Some.ensures.cases.0 c.longest.invariant

pub forget_higher-requires-clause-free : goal.forget_higher-requires-clause-free
forget_higher-requires-clause-free c =
    free c.vertex-v.result c.args.birth c.args.book.now c.longest.book c.longest.rest.now c.in-Some.shorter.now
    c.in-Some.field-0-0.now c.in-Some.ensures.cases.0 c.longest.invariant
    (λ l. let h = (least_here c.vertex-v.result c.args.birth c.args.book.now c.longest.book c.longest.rest.now
    c.in-Some.shorter.now c.in-Some.field-0-0.now c.in-Some.ensures.cases.0 c.longest.invariant).1 l in
    higher_not_least c.longest.book c.longest.invariant.book c.in-Some.field-0-0.now
    (c.is_least.ensures.no c.if-is_least.false) h.0 h.1 h.2)

pub forget_higher-requires-clause-above : goal.forget_higher-requires-clause-above
forget_higher-requires-clause-above c =
    higher_not_least c.longest.book c.longest.invariant.book c.in-Some.field-0-0.now
    (c.is_least.ensures.no c.if-is_least.false)

pub longest-preserved : goal.longest-preserved
longest-preserved c =
    refreshing_more c.vertex-v.result c.args.birth c.args.book.now c.longest.book c.longest.rest.now
    c.in-Some.shorter.now c.in-Some.field-0-0.now c.in-Some.ensures.cases.0 c.longest.invariant
    c.forget_higher.new.self
    (gone_step c.vertex-v.result c.args.birth c.in-Some.field-0-0.now c.args.book.now c.longest.book
    c.forget_higher.new.self c.forget_higher.ensures.forgotten c.forget_higher.ensures.lawful
    (c.is_least.ensures.no c.if-is_least.false)
    (higher_not_least c.longest.book c.longest.invariant.book c.in-Some.field-0-0.now
    (c.is_least.ensures.no c.if-is_least.false))
    (goes c.vertex-v.result c.args.birth c.args.book.now c.longest.book c.longest.rest.now c.in-Some.shorter.now
    c.in-Some.field-0-0.now c.in-Some.ensures.cases.0 c.longest.invariant
    (λ l. let h = (least_here c.vertex-v.result c.args.birth c.args.book.now c.longest.book c.longest.rest.now
    c.in-Some.shorter.now c.in-Some.field-0-0.now c.in-Some.ensures.cases.0 c.longest.invariant).1 l in
    higher_not_least c.longest.book c.longest.invariant.book c.in-Some.field-0-0.now
    (c.is_least.ensures.no c.if-is_least.false) h.0 h.1 h.2))
    (λ staying. c.has_staying_parts.ensures.no c.if-has_staying_parts.false
    ((parts_same c.vertex-v.result c.args.birth c.args.book.now c.longest.book c.longest.rest.now
    c.in-Some.shorter.now c.in-Some.field-0-0.now c.in-Some.ensures.cases.0 c.longest.invariant).1 staying)))

nothing_left : (xs : List ℕ) → length xs ≡ 0 → xs ≡ []
nothing_left [] e = refl
nothing_left (x ∷ xs) e = absurd (omega arith)

pub returns-clause-refreshed : goal.returns-clause-refreshed
returns-clause-refreshed c =
    let G : List ℕ → Type 0 = λ rest. IsRefreshing c.vertex-v.result c.args.birth c.args.book.now c.longest.book rest in
    let F : ℕ → Type 0 = λ v. IsRefreshed v c.args.birth (kept_paths c.args.book.now) (kept_paths c.longest.book) in
    subst F c.vertex-v.ensures (all_refreshed c.vertex-v.result c.args.birth c.args.book.now c.longest.book
    (subst G (nothing_left c.longest.rest.now c.in_default.ensures.cases) c.longest.invariant))
