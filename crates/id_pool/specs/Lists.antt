-- Many lists of ids, and what a change of one leaves of the others.
use Rattle.std.specs.Prelude.{◌≡◌, ◌≢◌, ℕ, ◌+◌, ◌-◌, ◌<◌, ◌≤◌, List, [], length, slice_index_or, refl}
use Rattle.std.specs.List.{swap, swap_remove}
use Rattle.std.specs.Coded.{Coded, code_by, coded×, coded_ℕ, coded_list}

-- the ids of a list, and how many of them, from the front, are marked
pub record Held : Type 0 where
  pub ids : List ℕ
  pub marked : ℕ

abbrev pub held_code : Coded Held
held_code =
    code_by (List ℕ × ℕ) (coded× (coded_list coded_ℕ) coded_ℕ) (λ h. (h.ids, h.marked))
    (λ t. record { ids = t.0; marked = t.1 }) (λ _. refl)

abbrev pub no_ids : Held
no_ids = record { ids = []; marked = 0 }

abbrev pub list_at : List Held → ℕ → Held
list_at lists k = slice_index_or lists k no_ids

abbrev pub ids_at : List Held → ℕ → List ℕ
ids_at lists k = (list_at lists k).ids

abbrev pub marked_at : List Held → ℕ → ℕ
marked_at lists k = (list_at lists k).marked

-- only one list is changed
pub record IsChanged (old new : List Held) (k : ℕ) : Type 0 where
  pub many : length new ≡ length old
  pub others : (j : ℕ) → j ≢ k → list_at new j ≡ list_at old j

-- the id at a place, which was not marked, changes places with the first such one, and is marked
pub record IsMarkedAt (old new : Held) (at : ℕ) : Type 0 where
  pub ids : new.ids ≡ swap old.ids old.marked at
  pub marked : new.marked ≡ old.marked + 1

-- the marked id at a place changes places with the last such one, and is marked no more
pub record IsUnmarkedAt (old new : Held) (at : ℕ) : Type 0 where
  pub ids : new.ids ≡ swap old.ids at (old.marked - 1)
  pub marked : new.marked ≡ old.marked - 1

-- the id at a place is taken out, and the last one takes its place, or that of the last marked one, which takes its
-- place, where the id is marked
pub record IsTakenAt (old new : Held) (at : ℕ) : Type 0 where
  pub marked_ids : at < old.marked → (d : ℕ)
      → new.ids ≡ swap_remove (swap old.ids at (old.marked - 1)) (old.marked - 1) d
  pub marked_fewer : at < old.marked → new.marked ≡ old.marked - 1
  pub plain_ids : old.marked ≤ at → (d : ℕ) → new.ids ≡ swap_remove old.ids at d
  pub plain_marked : old.marked ≤ at → new.marked ≡ old.marked
