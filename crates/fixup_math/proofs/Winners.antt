-- A class that is taken, before its winners are promoted.
--
-- The winner of a pair is the least walk of its pair. So all winners are local and least, and none of them is
-- historical.
--
-- The winner of a pair is the least walk of its pair. So all winners are local and least, and none of them is
-- historical.
--
-- The winner of a pair is the least walk of its pair. So all winners are local and least, and none of them is
-- historical.
use Rattle.std.specs.Prelude.{◌≡◌, ℕ, ◌⊎◌, ◌↔◌, List, [], ◌∷◌, Some, refl}
use Rattle.std.proofs.Common.{arith, inl, inr}
use Rattle.apsp_model.specs.Graph.{Graph}
use Rattle.apsp_model.specs.Walk.{IsWalk, IsWalkFrom, last}
use Rattle.apsp_model.specs.Least.{IsLeast}
use Rattle.apsp_model.proofs.Walks.{last_is}
use Rattle.fixup_math.specs.Ranks.{IsRank}
use Rattle.fixup_math.specs.Settling.{SettlingInvariant, IsClass}
use Rattle.fixup_math.proofs.Settling.{least_winner, winner_is_new, queued_popped}
use Rattle.fixup_math.specs.Settling.{ClassInvariant}

ends_of : (g : Graph) (p : List ℕ) → IsWalk g p → (x : ℕ) × (y : ℕ) × IsWalkFrom g x y p
ends_of g [] h = absurd h
ends_of g (x ∷ p) h =
    let l : (y : ℕ) × (last (x ∷ p) ≡ Some y) = last_is (x ∷ p) (omega arith) in
    (x, l.0, record { walk = h; from = refl; to = l.1 })

-- it holds once a class is taken
pub class_starts : (g : Graph) (UpTo : List ℕ → List ℕ → Type 0) (rank : IsRank g UpTo) (H0 H K Q : List ℕ → Type 0)
    (Won : ℕ → ℕ → Type 0) (s : SettlingInvariant g H0 H K Q Won) (Rest Winner : List ℕ → Type 0) (c : List ℕ)
    (class : IsClass g UpTo Q Rest Winner Won c) (Won1 : ℕ → ℕ → Type 0)
    → ((x y : ℕ) → Won1 x y ↔ (Won x y ⊎ ((w : List ℕ) × Winner w × IsWalkFrom g x y w)))
    → ClassInvariant g UpTo H0 H K Rest Winner Won1 c
class_starts g UpTo rank H0 H K Q Won s Rest Winner c class Won1 won1 = record {
  closed = s.closed;
  singles = s.singles;
  old = s.old;
  grown = s.grown;
  kept = s.kept;
  marked_kept = s.marked_kept;
  held_kept = λ p h. s.held_kept p (class.rest p h);
  queued = queued_popped g UpTo rank H0 H K Q Won s Rest Winner c class Won1 won1;
  won = λ x y h. elim ((won1 x y).0 h) [
    | inl before ↦ let w : (w : List ℕ) × H w × IsLeast g x y w = s.won x y before in (w.0, inl w.1, w.2)
    | inr w ↦ (w.0, inr w.1, least_winner g UpTo rank H0 H K Q Won s Rest Winner c class x y w.0 w.1 w.2)
  ];
  todo_kept = λ w h. s.held_kept w (class.winner_held w h);
  todo_least =
      λ w h. let e : (x : ℕ) × (y : ℕ) × IsWalkFrom g x y w = ends_of g w
      ((s.kept w).0 (s.held_kept w (class.winner_held w h))).walk in
      (e.0, e.1, least_winner g UpTo rank H0 H K Q Won s Rest Winner c class e.0 e.1 w h e.2);
  todo_long = class.winner_long;
  todo_new = winner_is_new g UpTo rank H0 H K Q Won s Rest Winner c class;
  todo_won = λ x y w h walk. (won1 x y).1 (inr (w, h, walk));
  todo_in_class = λ w h. class.lowest w (class.winner_held w h);
}
