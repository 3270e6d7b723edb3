-- A list when one of its ids is marked or taken out.
use Rattle.std.specs.Prelude.{◌≡◌, ℕ, ◌+◌, ◌-◌, ◌<◌, ◌≤◌, List, length, refl}
use Rattle.std.specs.List.{swap_remove}
use Rattle.std.proofs.Common.{◌∙◌, ap, arith, get_or, set, length-set}
use Rattle.id_pool.specs.Blocks.{room_of}
use Rattle.id_pool.specs.Heads.{Near, Far, IsPlacedInPool, IsMoved, held_of}
use Rattle.id_pool.specs.Lists.{IsMarkedAt, IsUnmarkedAt, IsTakenAt}
use Rattle.id_pool.proofs.Moves.{IsSameOutside, stays_near, written, set_outside, outside_then}
use Rattle.id_pool.proofs.Parts.{part_swap, part_close, few_swap, few_close}

two_outside : (ids : List ℕ) (place room i j x y : ℕ) → i < room → j < room
    → IsSameOutside ids (set (set ids (place + i) x) (place + j) y) place room
two_outside ids place room i j x y i_in j_in =
    outside_then ids (set ids (place + i) x) (set (set ids (place + i) x) (place + j) y) place room
    (length-set ids (place + i) x)
    (set_outside ids place room (place + i) x (omega arith) (omega arith))
    (set_outside (set ids (place + i) x) place room (place + j) y (omega arith) (omega arith))

pub two_many : (ids : List ℕ) (i j x y : ℕ) → length (set (set ids i x) j y) ≡ length ids
two_many ids i j x y = length-set (set ids i x) j y ∙ length-set ids i x

module _ (ids free : List ℕ) (level len place mark at : ℕ) (placed : IsPlacedInPool ids free (Far level len place mark))
    (inside : at < len) where
  part_in : place + len ≤ length ids
  part_in = omega (arith, placed.at.1, placed.at.3)

  -- ---- marked

  module _ (x y : ℕ) (plain : mark ≤ at) where
    pub far_marked_moved : IsMoved ids free (Far level len place mark) (set (set ids (place + mark) x) (place + at) y)
        free (Far level len place (mark + 1))
    far_marked_moved =
        written ids (set (set ids (place + mark) x) (place + at) y) free level len place mark len (mark + 1) placed.at.1
        (omega arith)
        (two_many ids (place + mark) (place + at) x y)
        (two_outside ids place (room_of level) mark at x y (omega (arith, placed.at.1))
        (omega (arith, placed.at.1)))

    pub far_marked : x ≡ get_or ids (place + at) 0 → y ≡ get_or ids (place + mark) 0
        → IsMarkedAt (held_of ids (Far level len place mark))
        (held_of (set (set ids (place + mark) x) (place + at) y) (Far level len place (mark + 1))) at
    far_marked x_is y_is =
        record { ids = part_swap ids place len mark at x y part_in (omega arith) inside x_is y_is; marked = refl }

  -- ---- marked no more

  module _ (x y : ℕ) (below : at < mark) where
    pub far_unmarked_moved : IsMoved ids free (Far level len place mark)
        (set (set ids (place + at) x) (place + (mark - 1)) y) free (Far level len place (mark - 1))
    far_unmarked_moved =
        written ids (set (set ids (place + at) x) (place + (mark - 1)) y) free level len place mark len (mark - 1)
        placed.at.1 (omega (arith, placed.at.2))
        (two_many ids (place + at) (place + (mark - 1)) x y)
        (two_outside ids place (room_of level) at (mark - 1) x y (omega (arith, placed.at.1))
        (omega (arith, placed.at.1, placed.at.2)))

    pub far_unmarked : x ≡ get_or ids (place + (mark - 1)) 0 → y ≡ get_or ids (place + at) 0
        → IsUnmarkedAt (held_of ids (Far level len place mark))
        (held_of (set (set ids (place + at) x) (place + (mark - 1)) y) (Far level len place (mark - 1))) at
    far_unmarked x_is y_is =
        record {
          ids = part_swap ids place len at (mark - 1) x y part_in inside (omega (arith, placed.at.2)) x_is y_is;
          marked = refl;
        }

  -- ---- taken out, where it is not marked

  module _ (x : ℕ) (plain : mark ≤ at) where
    pub far_plain_moved : IsMoved ids free (Far level len place mark) (set ids (place + at) x) free
        (Far level (len - 1) place mark)
    far_plain_moved =
        written ids (set ids (place + at) x) free level len place mark (len - 1) mark (omega (arith, placed.at.1))
        (omega arith) (length-set ids (place + at) x)
        (set_outside ids place (room_of level) (place + at) x (omega arith) (omega (arith, placed.at.1)))

    pub far_plain : x ≡ get_or ids (place + (len - 1)) 0
        → IsTakenAt (held_of ids (Far level len place mark))
        (held_of (set ids (place + at) x) (Far level (len - 1) place mark)) at
    far_plain x_is = record {
      marked_ids = λ below d. absurd (omega arith);
      marked_fewer = λ below. absurd (omega arith);
      plain_ids = λ from d. part_close ids place len at x d part_in inside x_is;
      plain_marked = λ from. refl;
    }

  -- ---- and where it is marked

  module _ (x y z : ℕ) (below : at < mark) where
    abbrev two : List ℕ
    two = set (set ids (place + at) x) (place + (mark - 1)) y

    pub far_taken_moved : IsMoved ids free (Far level len place mark)
        (set (set (set ids (place + at) x) (place + (mark - 1)) y) (place + (mark - 1)) z) free
        (Far level (len - 1) place (mark - 1))
    far_taken_moved =
        written ids (set two (place + (mark - 1)) z) free level len place mark (len - 1) (mark - 1)
        (omega (arith, placed.at.1)) (omega (arith, placed.at.2))
        (length-set two (place + (mark - 1)) z ∙ two_many ids (place + at) (place + (mark - 1)) x y)
        (outside_then ids two (set two (place + (mark - 1)) z) place (room_of level)
        (two_many ids (place + at) (place + (mark - 1)) x y)
        (two_outside ids place (room_of level) at (mark - 1) x y (omega (arith, placed.at.1))
        (omega (arith, placed.at.1, placed.at.2)))
        (set_outside two place (room_of level) (place + (mark - 1)) z (omega arith)
        (omega (arith, placed.at.1, placed.at.2))))

    pub far_taken : x ≡ get_or ids (place + (mark - 1)) 0 → y ≡ get_or ids (place + at) 0
        → z ≡ get_or (set (set ids (place + at) x) (place + (mark - 1)) y) (place + (len - 1)) 0
        → IsTakenAt (held_of ids (Far level len place mark))
        (held_of (set (set (set ids (place + at) x) (place + (mark - 1)) y) (place + (mark - 1)) z)
        (Far level (len - 1) place (mark - 1))) at
    far_taken x_is y_is z_is = record {
      marked_ids = λ under d.
          part_close two place len (mark - 1) z d
          (omega (arith, part_in, two_many ids (place + at) (place + (mark - 1)) x y)) (omega (arith, placed.at.2))
          z_is
          ∙ ap (λ (xs : List ℕ). swap_remove xs (mark - 1) d)
          (part_swap ids place len at (mark - 1) x y part_in inside (omega (arith, placed.at.2)) x_is y_is);
      marked_fewer = λ under. refl;
      plain_ids = λ from d. absurd (omega arith);
      plain_marked = λ from. absurd (omega arith);
    }

-- ---- the same of a list in place

module _ (ids free few : List ℕ) (len mark at : ℕ) (placed : IsPlacedInPool ids free (Near len mark few))
    (inside : at < len) where
  fits : len ≤ length few
  fits = omega (arith, placed.at.0, placed.at.2)

  module _ (x y : ℕ) (plain : mark ≤ at) where
    pub near_marked_moved : IsMoved ids free (Near len mark few) ids free
        (Near len (mark + 1) (set (set few mark x) at y))
    near_marked_moved =
        stays_near ids free few (set (set few mark x) at y) len mark len (mark + 1) placed.at.0 (omega arith)
        (two_many few mark at x y ∙ placed.at.2)

    pub near_marked : x ≡ get_or few at 0 → y ≡ get_or few mark 0
        → IsMarkedAt (held_of ids (Near len mark few)) (held_of ids (Near len (mark + 1) (set (set few mark x) at y)))
        at
    near_marked x_is y_is =
        record { ids = few_swap few len mark at x y fits (omega arith) inside x_is y_is; marked = refl }

  module _ (x y : ℕ) (below : at < mark) where
    pub near_unmarked_moved : IsMoved ids free (Near len mark few) ids free
        (Near len (mark - 1) (set (set few at x) (mark - 1) y))
    near_unmarked_moved =
        stays_near ids free few (set (set few at x) (mark - 1) y) len mark len (mark - 1) placed.at.0
        (omega (arith, placed.at.1)) (two_many few at (mark - 1) x y ∙ placed.at.2)

    pub near_unmarked : x ≡ get_or few (mark - 1) 0 → y ≡ get_or few at 0
        → IsUnmarkedAt (held_of ids (Near len mark few))
        (held_of ids (Near len (mark - 1) (set (set few at x) (mark - 1) y))) at
    near_unmarked x_is y_is =
        record {
          ids = few_swap few len at (mark - 1) x y fits inside (omega (arith, placed.at.1)) x_is y_is;
          marked
              = refl;
        }

  module _ (x : ℕ) (plain : mark ≤ at) where
    pub near_plain_moved : IsMoved ids free (Near len mark few) ids free (Near (len - 1) mark (set few at x))
    near_plain_moved =
        stays_near ids free few (set few at x) len mark (len - 1) mark (omega (arith, placed.at.0)) (omega arith)
        (length-set few at x ∙ placed.at.2)

    pub near_plain : x ≡ get_or few (len - 1) 0
        → IsTakenAt (held_of ids (Near len mark few)) (held_of ids (Near (len - 1) mark (set few at x))) at
    near_plain x_is = record {
      marked_ids = λ below d. absurd (omega arith);
      marked_fewer = λ below. absurd (omega arith);
      plain_ids = λ from d. few_close few len at x d fits inside x_is;
      plain_marked = λ from. refl;
    }

  module _ (x y z : ℕ) (below : at < mark) where
    abbrev pair : List ℕ
    pair = set (set few at x) (mark - 1) y

    pub near_taken_moved : IsMoved ids free (Near len mark few) ids free
        (Near (len - 1) (mark - 1) (set (set (set few at x) (mark - 1) y) (mark - 1) z))
    near_taken_moved =
        stays_near ids free few (set pair (mark - 1) z) len mark (len - 1) (mark - 1) (omega (arith, placed.at.0))
        (omega (arith, placed.at.1)) (length-set pair (mark - 1) z ∙ two_many few at (mark - 1) x y ∙ placed.at.2)

    pub near_taken : x ≡ get_or few (mark - 1) 0 → y ≡ get_or few at 0
        → z ≡ get_or (set (set few at x) (mark - 1) y) (len - 1) 0
        → IsTakenAt (held_of ids (Near len mark few))
        (held_of ids (Near (len - 1) (mark - 1) (set (set (set few at x) (mark - 1) y) (mark - 1) z))) at
    near_taken x_is y_is z_is = record {
      marked_ids = λ under d.
          few_close pair len (mark - 1) z d (omega (arith, fits, two_many few at (mark - 1) x y))
          (omega (arith, placed.at.1)) z_is
          ∙ ap (λ (xs : List ℕ). swap_remove xs (mark - 1) d)
          (few_swap few len at (mark - 1) x y fits inside (omega (arith, placed.at.1)) x_is y_is);
      marked_fewer = λ under. refl;
      plain_ids = λ from d. absurd (omega arith);
      plain_marked = λ from. absurd (omega arith);
    }
