-- What a move of one list leaves of the others.
use Rattle.std.specs.Prelude.{◌≡◌, ◌≢◌, ℕ, suc, ◌+◌, ◌<◌, ◌≤◌, ◌⊎◌, List, length, slice_index, slice_set, refl}
use Rattle.std.proofs.Common.{sym, ◌∙◌, arith, inl, inr, set, length-set, get_or-set_other}
use Rattle.id_pool.specs.Blocks.{Owner, Hand, Of, Free, Owns, HasOneOwnerEach, OwnerKeeps, IsGivenTo, IsGiven, room_of}
use Rattle.id_pool.specs.Heads.{Near, Far, Shape, IsAt, IsPlacedInPool, IsMovedTo, IsMoved}
use Rattle.id_pool.proofs.Places.{given, owns_given, kept_given_by, kept_then, owns_kept, room_some}
use Rattle.id_pool.proofs.Chains.{with_depth, returned, rewritten}

-- only places of a block are written
abbrev pub IsSameOutside : List ℕ → List ℕ → ℕ → ℕ → Type 0
IsSameOutside ids ids' place room =
    (p : ℕ) → p < length ids → (p < place) ⊎ (place + room ≤ p) → slice_index ids' p ≡ slice_index ids p

pub set_outside : (ids : List ℕ) (place room at x : ℕ) → place ≤ at → at < place + room
    → IsSameOutside ids (set ids at x) place room
set_outside ids place room at x from within p inside (inl below) = get_or-set_other ids at p x 0 (λ same. omega arith)
set_outside ids place room at x from within p inside (inr above) = get_or-set_other ids at p x 0 (λ same. omega arith)

pub outside_then : (ids1 ids2 ids3 : List ℕ) (place room : ℕ) → length ids2 ≡ length ids1
    → IsSameOutside ids1 ids2 place room → IsSameOutside ids2 ids3 place room → IsSameOutside ids1 ids3 place room
outside_then ids1 ids2 ids3 place room many one two p inside out = two p (omega arith) out ∙ one p inside out

of_used : (k l e : ℕ) → Of k ≡ Free l e → ⊥
of_used k l e same = cc

hand_used : (l e : ℕ) → Hand ≡ Free l e → ⊥
hand_used l e same = cc

pub hand_of : (k : ℕ) → Hand ≡ Of k → ⊥
hand_of k same = cc

of_hand : (k : ℕ) → Of k ≡ Hand → ⊥
of_hand k same = cc

of_same : (k j : ℕ) → Of k ≡ Of j → k ≡ j
of_same k j same = cc

of_apart : (k j : ℕ) → j ≢ k → Of k ≡ Of j → ⊥
of_apart k j apart same = apart (sym (of_same k j same))

-- one move after another
pub moved_then : (ids1 free1 ids2 free2 ids3 free3 : List ℕ) (h1 h2 h3 : Shape) → IsMoved ids1 free1 h1 ids2 free2 h2
    → IsMoved ids2 free2 h2 ids3 free3 h3 → IsMoved ids1 free1 h1 ids3 free3 h3
moved_then ids1 free1 ids2 free2 ids3 free3 h1 h2 h3 one two = λ o depth k stands at.
    let m : IsMovedTo ids1 ids2 free2 o k h2 = one o depth k stands at in
    let n : IsMovedTo ids2 ids3 free3 m.o' k h3 = two m.o' m.depth' k m.stands m.at in
    record {
      o' = n.o';
      depth' = n.depth';
      stands = n.stands;
      at = n.at;
      longer = omega (arith, m.longer, n.longer);
      kept = λ j apart. kept_then ids1 ids2 ids3 o m.o' n.o' (Of j) m.longer (m.kept j apart) (n.kept j apart);
    }

pub placed_moved : (ids free ids' free' : List ℕ) (h h' : Shape) → IsPlacedInPool ids free h
    → IsMoved ids free h ids' free' h' → IsPlacedInPool ids' free' h'
placed_moved ids free ids' free' h h' placed moved =
    let m : IsMovedTo ids ids' free' placed.o placed.k h' =
    moved placed.o placed.depth placed.k placed.stands placed.at in
    record { k = placed.k; o = m.o'; depth = m.depth'; stands = m.stands; at = m.at }

-- nothing of the pool changes
pub stays_near : (ids free few few' : List ℕ) (len mark len' mark' : ℕ) → len' ≤ 3 → mark' ≤ len' → length few' ≡ 3
    → IsMoved ids free (Near len mark few) ids free (Near len' mark' few')
stays_near ids free few few' len mark len' mark' fits marked many = λ o depth k stands at. record {
  o' = o;
  depth' = depth;
  stands = stands;
  at = (fits, marked, many);
  longer = omega arith;
  kept = λ j apart p inside own. (own, refl);
}

-- a list is written in its block
pub written : (ids ids' free : List ℕ) (level len place mark len' mark' : ℕ) → len' ≤ room_of level → mark' ≤ len'
    → length ids' ≡ length ids → IsSameOutside ids ids' place (room_of level)
    → IsMoved ids free (Far level len place mark) ids' free (Far level len' place mark')
written ids ids' free level len place mark len' mark' fits marked many same = λ o depth k stands at. record {
  o' = given o place (room_of level) (Of k);
  depth' = depth;
  stands = rewritten ids ids' free o depth (Of k) (Of k) place (room_of level) stands (of_used k) at.4 many same;
  at = (at.0, fits, marked, omega (arith, at.3), owns_given o place (room_of level) (Of k));
  longer = omega arith;
  kept = λ j apart. kept_given_by ids ids' o place (room_of level) (Of k) (Of k) (Of j) at.4 (of_apart k j apart) same;
}

-- a list goes from its place into a block that was taken
pub spilled : (ids free ids1 free1 ids2 few : List ℕ) (level len mark to : ℕ) → IsGiven ids free ids1 free1 to level
    → level < 13 → len ≤ room_of level → length ids2 ≡ length ids1 → IsSameOutside ids1 ids2 to (room_of level)
    → IsMoved ids free (Near len mark few) ids2 free1 (Far level len to mark)
spilled ids free ids1 free1 ids2 few level len mark to t level_in fits many same = λ o depth k stands at.
    let g : IsGivenTo ids ids1 free1 o to level = t.given o depth stands in
    record {
      o' = given g.o' to (room_of level) (Of k);
      depth' = g.depth';
      stands = rewritten ids1 ids2 free1 g.o' g.depth' Hand (Of k) to (room_of level) g.stands hand_used g.owns many
          same;
      at = (level_in, fits, at.1, omega (arith, t.inside), owns_given g.o' to (room_of level) (Of k));
      longer = omega (arith, t.longer);
      kept = λ j apart. kept_then ids ids1 ids2 o g.o' (given g.o' to (room_of level) (Of k)) (Of j) t.longer (g.kept j)
          (kept_given_by ids1 ids2 g.o' to (room_of level) Hand (Of k) (Of j) g.owns (hand_of j) same);
    }

-- a list goes from its block into another one that was taken, and its own is given back
module _ (ids free ids1 free1 ids2 : List ℕ) (level level' len place to mark : ℕ)
    (t : IsGiven ids free ids1 free1 to level') (level_in : level' < 13) (fits : len ≤ room_of level')
    (many : length ids2 ≡ length ids1) (same : IsSameOutside ids1 ids2 to (room_of level')) (o : ℕ → Owner)
    (depth : ℕ → ℕ) (k : ℕ) (stands : HasOneOwnerEach ids free o depth) (at : IsAt ids o k (Far level len place mark))
  where
    g : IsGivenTo ids ids1 free1 o to level'
    g = t.given o depth stands

    abbrev o1 : ℕ → Owner
    o1 = (t.given o depth stands).o'

    abbrev depth1 : ℕ → ℕ
    depth1 = (t.given o depth stands).depth'

    abbrev o2 : ℕ → Owner
    o2 = given o1 to (room_of level') Hand

    abbrev o3 : ℕ → Owner
    o3 = given o2 place (room_of level) (Free level (depth1 level))

    abbrev o4 : ℕ → Owner
    o4 = given o3 to (room_of level') (Of k)

    abbrev ids3 : List ℕ
    ids3 = slice_set ids2 place (slice_index free1 level)

    inside1 : place + room_of level ≤ length ids1
    inside1 = omega (arith, at.3, t.longer)

    inside2 : place + room_of level ≤ length ids2
    inside2 = omega (arith, at.3, t.longer, many)

    many3 : length ids3 ≡ length ids2
    many3 = length-set ids2 place (slice_index free1 level)

    owns1 : Owns o1 Hand to (room_of level')
    owns1 = (t.given o depth stands).owns

    keep1 : (j : ℕ) → OwnerKeeps ids ids1 o o1 (Of j)
    keep1 = (t.given o depth stands).kept

    keep2 : (w : Owner) → (Hand ≡ w → ⊥) → OwnerKeeps ids1 ids2 o1 o2 w
    keep2 w apart = kept_given_by ids1 ids2 o1 to (room_of level') Hand Hand w owns1 apart same

    list1 : Owns o1 (Of k) place (room_of level)
    list1 = owns_kept ids ids1 o o1 (Of k) place (room_of level) at.3 (keep1 k) at.4

    list2 : Owns o2 (Of k) place (room_of level)
    list2 = owns_kept ids1 ids2 o1 o2 (Of k) place (room_of level) inside1 (keep2 (Of k) (hand_of k)) list1

    keep3 : (w : Owner) → (Of k ≡ w → ⊥) → OwnerKeeps ids2 ids3 o2 o3 w
    keep3 w apart =
        kept_given_by ids2 ids3 o2 place (room_of level) (Of k) (Free level (depth1 level)) w list2 apart
        (set_outside ids2 place (room_of level) place (slice_index free1 level) (omega arith)
        (omega (arith, room_some level)))

    hand3 : Owns o3 Hand to (room_of level')
    hand3 = owns_kept ids2 ids3 o2 o3 Hand to (room_of level') (omega (arith, t.inside, many)) (keep3 Hand (of_hand k))
        (owns_given o1 to (room_of level') Hand)

    keep4 : (w : Owner) → (Hand ≡ w → ⊥) → OwnerKeeps ids3 ids3 o3 o4 w
    keep4 w apart = kept_given_by ids3 ids3 o3 to (room_of level') Hand (Of k) w hand3 apart (λ p inside out. refl)

    stands2 : HasOneOwnerEach ids2 free1 o2 depth1
    stands2 =
        rewritten ids1 ids2 free1 o1 depth1 Hand Hand to (room_of level') (t.given o depth stands).stands hand_used
        owns1
        many same

    stands3 : HasOneOwnerEach ids3 (slice_set free1 level place) o3 (with_depth depth1 level (suc (depth1 level)))
    stands3 = returned ids2 free1 o2 depth1 (Of k) place level stands2 at.0 (of_used k) inside2 list2

    pub moved_on_to : IsMovedTo ids ids3 (slice_set free1 level place) o k (Far level' len to mark)
    moved_on_to = record {
      o' = o4;
      depth' = with_depth depth1 level (suc (depth1 level));
      stands = rewritten ids3 ids3 (slice_set free1 level place) o3 (with_depth depth1 level (suc (depth1 level))) Hand
          (Of k) to (room_of level') stands3 hand_used hand3 refl (λ p inside out. refl);
      at = (level_in, fits, at.2, omega (arith, t.inside, many, many3), owns_given o3 to (room_of level') (Of k));
      longer = omega (arith, t.longer, many, many3);
      kept = λ j apart.
          kept_then ids ids1 ids3 o o1 o4 (Of j) t.longer (keep1 j)
          (kept_then ids1 ids2 ids3 o1 o2 o4 (Of j) (omega (arith, many)) (keep2 (Of j) (hand_of j))
          (kept_then ids2 ids3 ids3 o2 o3 o4 (Of j) (omega (arith, many3)) (keep3 (Of j) (of_apart k j apart))
          (keep4 (Of j) (hand_of j))));
    }

pub moved_on : (ids free ids1 free1 ids2 : List ℕ) (level level' len place to mark : ℕ)
    → IsGiven ids free ids1 free1 to level' → level' < 13 → len ≤ room_of level' → length ids2 ≡ length ids1
    → IsSameOutside ids1 ids2 to (room_of level')
    → IsMoved ids free (Far level len place mark) (slice_set ids2 place (slice_index free1 level))
    (slice_set free1 level place) (Far level' len to mark)
moved_on ids free ids1 free1 ids2 level level' len place to mark t level_in fits many same = λ o depth k stands at.
    moved_on_to ids free ids1 free1 ids2 level level' len place to mark t level_in fits many same o depth k stands at

-- a list goes back in place, and its block is given back
pub brought_back : (ids free few : List ℕ) (level len place mark len' mark' : ℕ) → len' ≤ 3
    → (mark ≤ len → mark' ≤ len') → length few ≡ 3
    → IsMoved ids free (Far level len place mark) (slice_set ids place (slice_index free level))
    (slice_set free level place) (Near len' mark' few)
brought_back ids free few level len place mark len' mark' fits marked three = λ o depth k stands at.
    let many : length (slice_set ids place (slice_index free level)) ≡ length ids =
    length-set ids place (slice_index free level) in
    record {
      o' = given o place (room_of level) (Free level (depth level));
      depth' = with_depth depth level (suc (depth level));
      stands = returned ids free o depth (Of k) place level stands at.0 (of_used k) at.3 at.4;
      at = (fits, marked at.2, three);
      longer = omega arith;
      kept = λ j apart. kept_given_by ids (slice_set ids place (slice_index free level)) o place (room_of level) (Of k)
          (Free level (depth level)) (Of j) at.4 (of_apart k j apart)
          (set_outside ids place (room_of level) place (slice_index free level) (omega arith)
          (omega (arith, room_some level)));
    }
