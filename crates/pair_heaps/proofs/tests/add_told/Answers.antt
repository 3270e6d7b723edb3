use Rattle.std.proofs.Common.{◌≡◌, ℕ, sym, ◌∙◌, ap, subst, inl, inr}
use Rattle.std.specs.Prelude.{Contains}
use Rattle.path_arena.specs.Arena.{edge_path}
use Rattle.pair_heaps.specs.Heaps.{Pair, Heaps, held_at, IsHeld, IsReserved}
use Rattle.pair_heaps.proofs.Places.{same_pair}
use Rattle.pair_heaps.proofs.Fits.{ends_in_rows, fresh_in}
use Rattle.pair_heaps.proofs.tests.add_told.Goals as goal

-- what was not held is not where there is room for it
not_held : (h k : Heaps) (x y id : ℕ) → IsReserved h k x y → (IsHeld h id → ⊥) → IsHeld k id → ⊥
not_held h k x y id r fresh held = fresh (held.0, held.1, subst (λ xs. Contains xs id) (same held.0 held.1) held.2)
  where
    same : (u v : ℕ) → held_at k u v ≡ held_at h u v
    same u v = elim (same_pair x y u v) [
      | inl one ↦ ap (λ i. held_at k i v) one.0 ∙ ap (held_at k x) one.1 ∙ r.held ∙ sym (ap (held_at h x) one.1)
          ∙ sym (ap (λ i. held_at h i v) one.0)
      | inr other ↦ ap (λ (p : Pair). p.held) (r.only.others u v other)
    ]

pub first-x-requires : goal.first-x-requires
first-x-requires c =
    (fresh_in c.args.heaps.now c.args.arena.now c.edge.new.self c.in_ok-id.id
    (edge_path c.args.arena.now 0 2 c.args.w 1) c.requires.fits c.in_ok-id.ensures.fresh c.in_ok-id.ensures.added).live

pub last-y-requires : goal.last-y-requires
last-y-requires c =
    (fresh_in c.args.heaps.now c.args.arena.now c.edge.new.self c.in_ok-id.id
    (edge_path c.args.arena.now 0 2 c.args.w 1) c.requires.fits c.in_ok-id.ensures.fresh c.in_ok-id.ensures.added).live

pub reserve_room-requires : goal.reserve_room-requires
reserve_room-requires c =
    let new =
    fresh_in c.args.heaps.now c.args.arena.now c.edge.new.self c.in_ok-id.id
    (edge_path c.args.arena.now 0 2 c.args.w 1) c.requires.fits c.in_ok-id.ensures.fresh c.in_ok-id.ensures.added in
    let inside =
    ends_in_rows c.args.heaps.now c.edge.new.self c.in_ok-id.id c.first-x.result c.last-y.result new.fits
    c.first-x.ensures.lawful new.live (c.first-x.ensures.value, c.last-y.ensures.value) in
    record { from = inside.0; to = inside.1 }

pub insert_into-requires-clause-fits : goal.insert_into-requires-clause-fits
insert_into-requires-clause-fits c =
    (c.reserve_room.ensures.fits c.edge.new.self).0
    (fresh_in c.args.heaps.now c.args.arena.now c.edge.new.self c.in_ok-id.id
    (edge_path c.args.arena.now 0 2 c.args.w 1) c.requires.fits c.in_ok-id.ensures.fresh
    c.in_ok-id.ensures.added).fits

pub insert_into-requires-clause-live : goal.insert_into-requires-clause-live
insert_into-requires-clause-live c =
    (fresh_in c.args.heaps.now c.args.arena.now c.edge.new.self c.in_ok-id.id
    (edge_path c.args.arena.now 0 2 c.args.w 1) c.requires.fits c.in_ok-id.ensures.fresh c.in_ok-id.ensures.added).live

pub insert_into-requires-clause-fresh : goal.insert_into-requires-clause-fresh
insert_into-requires-clause-fresh c =
    not_held c.args.heaps.now c.reserve_room.new.self c.first-x.result c.last-y.result c.in_ok-id.id
    c.in_ok-room.ensures.ok
    (fresh_in c.args.heaps.now c.args.arena.now c.edge.new.self c.in_ok-id.id
    (edge_path c.args.arena.now 0 2 c.args.w 1) c.requires.fits c.in_ok-id.ensures.fresh
    c.in_ok-id.ensures.added).fresh
