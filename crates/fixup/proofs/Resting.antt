-- Where nothing is held any more, the least kept path of each pair is historical. Serves `settle_paths`, which notes
-- that no pair is dirty.
use Rattle.std.specs.Prelude.{◌≡◌, ℕ, List, refl}
use Rattle.std.proofs.Common.{sym, ◌∙◌, ap, inl, inr}
use Rattle.apsp_model.specs.Graph.{Graph}
use Rattle.apsp_model.specs.Walk.{IsWalkFrom, weight_of, first, last}
use Rattle.apsp_model.specs.Order.{path_cmp, IsBelow}
use Rattle.apsp_model.specs.Least.{IsLeast}
use Rattle.apsp_model.proofs.Exists.{least_or_none}
use Rattle.path_arena.specs.Arena.{IsLive, list_of, path_of}
use Rattle.pair_heaps.specs.Heaps.{HasEnds}
use Rattle.path_book.specs.Book.{Book, IsMarked, IsLeastKeptId, HasNoPendingLeast}
use Rattle.weight_classes.specs.Classes.{Classes, Rank, IsHeldWithRank}
use Rattle.fixup_math.specs.Ranks.{ByWeightThenHops}
use Rattle.fixup_math.proofs.Ranks.{weight_then_hops_is_rank}
use Rattle.fixup_math.proofs.Settling.{settled}
use Rattle.fixup.proofs.Growth.{id_weight}
use Rattle.fixup.specs.Views.{HeldIn, Kept, Marked, WonIn}
use Rattle.fixup.specs.Growth.{InvariantHolds}

module _ (g : Graph) (birth : ℕ) (b0 b : Book) (c : Classes) (s : InvariantHolds g birth b0 b c) (x y : ℕ) where
  walk_of : (q : ℕ) → IsLive b.arena q → HasEnds b.arena q x y → IsWalkFrom g x y (list_of b.arena q)
  walk_of q live ends =
      record { walk = ((s.settling.kept (list_of b.arena q)).0 (q, live, refl)).walk; from = ends.0; to = ends.1 }

  least_is_kept : (w : List ℕ) → IsLeast g x y w → (id : ℕ) → IsMarked b id → list_of b.arena id ≡ w
      → IsLeastKeptId b x y id
  least_is_kept w least id mark list = record {
    live = live_id;
    ends = (ap first list ∙ least.walk.from, ap last list ∙ least.walk.to);
    least = λ q live ends below. (
        let v : (path_of b.arena q).weight ≡ weight_of g (list_of b.arena q) = id_weight g birth b0 b s.grown q live in
        let u : (path_of b.arena id).weight ≡ weight_of g w =
        id_weight g birth b0 b s.grown id live_id ∙ ap (weight_of g) list in
        let lower : IsBelow g (list_of b.arena q) w =
        sym (λ i. path_cmp (v i) (list_of b.arena q) (u i) (list i)) ∙ below in
        least.least (list_of b.arena q) (walk_of q live ends) lower
        );
  }
    where
      live_id : IsLive b.arena id
      live_id = s.grown.lawful.marked_live id mark

  pub none_pending : ((r : Rank) (id : ℕ) → IsHeldWithRank c r id → ⊥) → HasNoPendingLeast b x y
  none_pending empty = elim (least_or_none g x y) [
    | inl w ↦
        let m : Marked b w.0 =
        (settled g (ByWeightThenHops g) (weight_then_hops_is_rank g) (Marked b0) (Marked b) (Kept b) (HeldIn b c)
        (WonIn c) s.settling (λ q held. empty held.0 held.1 held.2) w.0).1 (inr (x, y, w.1)) in
        inr (m.0, least_is_kept w.0 w.1 m.0 m.1 m.2, m.1)
    | inr none ↦ inl (λ q live ends. none (list_of b.arena q) (walk_of q live ends))
  ]
