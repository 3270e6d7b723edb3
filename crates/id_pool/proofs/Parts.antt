-- The ids of a list in its block, after a write.
use Rattle.std.specs.Prelude.{◌≡◌, ℕ, zero, suc, ◌+◌, ◌-◌, ◌<◌, ◌≤◌, List, [], ◌∷◌, ◌++◌, length, take, drop, slice_index}
use Rattle.std.specs.List.{CopiedTo, swap, swap_remove}
use Rattle.std.proofs.Common.{sym, ◌∙◌, ap, subst, arith, inl, inr, get_or, set, length-set, length-drop, get_or-set_same, get_or-set_other}
use Rattle.std.proofs.lemmas.Bool.{cases_lt, cases_eq}
use Rattle.std.proofs.Math.Seq.{take-set-lt}
use Rattle.std.proofs.lemmas.List.{ext_get_or, get_or_default, get_or-take, get_or-drop, length-take-le, length_push, get_or_append_left, get_or_push}
use Rattle.id_pool.specs.Blocks.{Owner, Hand, Of, IsGivenTo, IsGiven, room_of}
use Rattle.id_pool.specs.Heads.{Far, IsPlacedInPool}
use Rattle.id_pool.proofs.Places.{owner_first, room_some}
use Rattle.id_pool.proofs.Moves.{hand_of}

pub part_at : (ids : List ℕ) (place len i : ℕ) → i < len
    → get_or (take len (drop place ids)) i 0 ≡ get_or ids (place + i) 0
part_at ids place len i inside = get_or-take len (drop place ids) i 0 inside ∙ get_or-drop place ids i 0

pub length_part : (ids : List ℕ) (place len : ℕ) → place + len ≤ length ids → length (take len (drop place ids)) ≡ len
length_part ids place len inside = length-take-le len (drop place ids) (omega (arith, length-drop place ids))

pub same_part : (ids ids' : List ℕ) (place place' len : ℕ) → place + len ≤ length ids → place' + len ≤ length ids'
    → ((i : ℕ) → i < len → slice_index ids' (place' + i) ≡ slice_index ids (place + i))
    → take len (drop place' ids') ≡ take len (drop place ids)
same_part ids ids' place place' len inside inside' same =
    ext_get_or 0 (take len (drop place' ids')) (take len (drop place ids))
    (length_part ids' place' len inside' ∙ sym (length_part ids place len inside))
    (λ i h. let at : i < len = omega (arith, length_part ids' place' len inside') in
    part_at ids' place' len i at ∙ same i at ∙ sym (part_at ids place len i at))

pub part_push : (ids : List ℕ) (place len id : ℕ) → place + len < length ids
    → take (len + 1) (drop place (set ids (place + len) id)) ≡ take len (drop place ids) ++ id ∷ []
part_push ids place len id inside =
    ext_get_or 0 (take (len + 1) (drop place ids')) (take len (drop place ids) ++ id ∷ [])
    (omega (arith, longer, length_push (take len (drop place ids)) id, short))
    (λ i h. elim (cases_lt i len) [
      | inl below ↦
          part_at ids' place (len + 1) i (omega arith)
          ∙ get_or-set_other ids (place + len) (place + i) id 0 (λ same. omega arith)
          ∙ sym (get_or_append_left (take len (drop place ids)) (id ∷ []) 0 i (omega (arith, short))
          ∙ part_at ids place len i below)
      | inr last ↦
          let here : i ≡ len = omega (arith, longer) in
          part_at ids' place (len + 1) i (omega arith)
          ∙ ap (λ j. get_or ids' (place + j) 0) here
          ∙ get_or-set_same ids (place + len) id 0 inside
          ∙ sym (get_or_push (take len (drop place ids)) id 0 i (omega (arith, short)))
    ])
  where
    ids' : List ℕ
    ids' = set ids (place + len) id

    short : length (take len (drop place ids)) ≡ len
    short = length_part ids place len (omega arith)

    longer : length (take (len + 1) (drop place (set ids (place + len) id))) ≡ len + 1
    longer = length_part (set ids (place + len) id) place (len + 1) (omega (arith, length-set ids (place + len) id))

pub part_set : (ids : List ℕ) (place len at id : ℕ) → place + len ≤ length ids → at < len
    → take len (drop place (set ids (place + at) id)) ≡ set (take len (drop place ids)) at id
part_set ids place len at id inside at_in =
    ext_get_or 0 (take len (drop place (set ids (place + at) id))) (set (take len (drop place ids)) at id)
    (many ∙ sym (length-set (take len (drop place ids)) at id ∙ short))
    (λ i h. let i_in : i < len = omega (arith, many) in
    part_at (set ids (place + at) id) place len i i_in ∙ elim (cases_eq i at) [
      | inl here ↦
          ap (λ j. get_or (set ids (place + at) id) (place + j) 0) here
          ∙ get_or-set_same ids (place + at) id 0 (omega arith)
          ∙ sym (ap (λ j. get_or (set (take len (drop place ids)) at id) j 0) here
          ∙ get_or-set_same (take len (drop place ids)) at id 0 (omega (arith, short)))
      | inr other ↦
          get_or-set_other ids (place + at) (place + i) id 0 (λ same. other (omega arith))
          ∙ sym (get_or-set_other (take len (drop place ids)) at i id 0 other ∙ part_at ids place len i i_in)
    ])
  where
    short : length (take len (drop place ids)) ≡ len
    short = length_part ids place len inside

    many : length (take len (drop place (set ids (place + at) id))) ≡ len
    many = length_part (set ids (place + at) id) place len (omega (arith, length-set ids (place + at) id))

-- the ids are copied into another block, and their own gets a mark in front
pub carried : (ids free ids1 free1 ids2 : List ℕ) (level level' len place to mark n x : ℕ)
    → IsPlacedInPool ids free (Far level len place mark) → IsGiven ids free ids1 free1 to level' → len ≤ room_of level'
    → n ≡ len → length ids2 ≡ length ids1 → CopiedTo ids1 ids2 place to n
    → take len (drop to (set ids2 place x)) ≡ take len (drop place ids)
carried ids free ids1 free1 ids2 level level' len place to mark n x placed t fits all many copied =
    same_part ids (set ids2 place x) place to len (omega (arith, placed.at.1, placed.at.3))
    (omega (arith, t.inside, length-set ids2 place x))
    (λ i h.
    get_or-set_other ids2 place (to + i) x 0
    (λ here. hand_of k (sym (subst (λ p. o1 p ≡ Hand) here (g.owns i (omega arith))) ∙ first))
    ∙ copied (to + i) 0 (omega arith) (omega arith)
    ∙ ap (λ p. get_or ids1 (place + p) 0) (back i)
    ∙ (g.kept k (place + i) (omega (arith, placed.at.1, placed.at.3)) (placed.at.4 i (omega (arith, placed.at.1)))).1)
  where
    k : ℕ
    k = placed.k

    back : (i : ℕ) → to + i - to ≡ i
    back i = omega arith

    g : IsGivenTo ids ids1 free1 placed.o to level'
    g = t.given placed.o placed.depth placed.stands

    o1 : ℕ → Owner
    o1 = (t.given placed.o placed.depth placed.stands).o'

    first : (t.given placed.o placed.depth placed.stands).o' place ≡ Of placed.k
    first = ((t.given placed.o placed.depth placed.stands).kept placed.k place
        (omega (arith, placed.at.3, room_some level))
        (owner_first placed.o (Of placed.k) place (room_of level) placed.at.4 (room_some level))).0

-- three ids are written in front of a block
pub few_written : (few ids : List ℕ) (to len a b e : ℕ) → length few ≡ 3 → len ≤ 3 → to + 8 ≤ length ids
    → a ≡ get_or few 0 0 → b ≡ get_or few 1 0 → e ≡ get_or few 2 0
    → take len (drop to (set (set (set ids to a) (to + 1) b) (to + 2) e)) ≡ take len few
few_written few ids to len a b e three fits inside a_is b_is e_is =
    ext_get_or 0 (take len (drop to ids3)) (take len few) (many ∙ sym (length-take-le len few (omega arith)))
    (λ i h. let i_in : i < len = omega (arith, many) in
    part_at ids3 to len i i_in ∙ at i (omega arith) ∙ sym (get_or-take len few i 0 i_in))
  where
    ids1 : List ℕ
    ids1 = set ids to a

    ids2 : List ℕ
    ids2 = set (set ids to a) (to + 1) b

    ids3 : List ℕ
    ids3 = set (set (set ids to a) (to + 1) b) (to + 2) e

    long1 : length (set ids to a) ≡ length ids
    long1 = length-set ids to a

    long2 : length (set (set ids to a) (to + 1) b) ≡ length ids
    long2 = length-set (set ids to a) (to + 1) b ∙ long1

    long3 : length (set (set (set ids to a) (to + 1) b) (to + 2) e) ≡ length ids
    long3 = length-set (set (set ids to a) (to + 1) b) (to + 2) e ∙ long2

    many : length (take len (drop to (set (set (set ids to a) (to + 1) b) (to + 2) e))) ≡ len
    many = length_part (set (set (set ids to a) (to + 1) b) (to + 2) e) to len (omega (arith, long3))

    at : (i : ℕ) → i < 3 → get_or (set (set (set ids to a) (to + 1) b) (to + 2) e) (to + i) 0 ≡ get_or few i 0
    at zero h =
        get_or-set_other (set (set ids to a) (to + 1) b) (to + 2) (to + 0) e 0 (λ same. omega arith)
        ∙ get_or-set_other (set ids to a) (to + 1) (to + 0) b 0 (λ same. omega arith)
        ∙ (let front : to + 0 ≡ to = omega arith in ap (λ p. get_or (set ids to a) p 0) front)
        ∙ get_or-set_same ids to a 0 (omega arith)
        ∙ a_is
    at (suc zero) h =
        get_or-set_other (set (set ids to a) (to + 1) b) (to + 2) (to + 1) e 0 (λ same. omega arith)
        ∙ get_or-set_same (set ids to a) (to + 1) b 0 (omega (arith, long1))
        ∙ b_is
    at (suc (suc zero)) h = get_or-set_same (set (set ids to a) (to + 1) b) (to + 2) e 0 (omega (arith, long2)) ∙ e_is
    at (suc (suc (suc i))) h = absurd (omega arith)

-- three ids are read in front of a block
pub few_read : (ids : List ℕ) (place len a b e : ℕ) → len ≤ 3 → place + len ≤ length ids → a ≡ get_or ids place 0
    → b ≡ get_or ids (place + 1) 0 → e ≡ get_or ids (place + 2) 0
    → take len (a ∷ b ∷ e ∷ []) ≡ take len (drop place ids)
few_read ids place len a b e fits inside a_is b_is e_is =
    ext_get_or 0 (take len (a ∷ b ∷ e ∷ [])) (take len (drop place ids)) (many ∙ sym (length_part ids place len inside))
    (λ i h. let i_in : i < len = omega (arith, many) in
    get_or-take len (a ∷ b ∷ e ∷ []) i 0 i_in ∙ at i (omega arith) ∙ sym (part_at ids place len i i_in))
  where
    many : length (take len (a ∷ b ∷ e ∷ [])) ≡ len
    many = length-take-le len (a ∷ b ∷ e ∷ []) (omega arith)

    at : (i : ℕ) → i < 3 → get_or (a ∷ b ∷ e ∷ []) i 0 ≡ get_or ids (place + i) 0
    at zero h = a_is ∙ (let front : place ≡ place + 0 = omega arith in ap (λ p. get_or ids p 0) front)
    at (suc zero) h = b_is
    at (suc (suc zero)) h = e_is
    at (suc (suc (suc i))) h = absurd (omega arith)

-- ---- two ids change places, or the last one takes the place of another

swap_is : (xs : List ℕ) (i j : ℕ) → i < length xs → j < length xs
    → swap xs i j ≡ set (set xs i (get_or xs j 0)) j (get_or xs i 0)
swap_is [] i j i_in j_in = absurd (omega arith)
swap_is (d ∷ ys) i j i_in j_in =
    ap (λ x. set (set (d ∷ ys) i x) j (get_or (d ∷ ys) i d)) (get_or_default (d ∷ ys) j d 0 j_in)
    ∙ ap (λ x. set (set (d ∷ ys) i (get_or (d ∷ ys) j 0)) j x) (get_or_default (d ∷ ys) i d 0 i_in)

pub part_swap : (ids : List ℕ) (place len i j x y : ℕ) → place + len ≤ length ids → i < len → j < len
    → x ≡ get_or ids (place + j) 0 → y ≡ get_or ids (place + i) 0
    → take len (drop place (set (set ids (place + i) x) (place + j) y)) ≡ swap (take len (drop place ids)) i j
part_swap ids place len i j x y inside i_in j_in x_is y_is =
    part_set (set ids (place + i) x) place len j y (omega (arith, length-set ids (place + i) x)) j_in
    ∙ ap (λ (zs : List ℕ). set zs j y) (part_set ids place len i x inside i_in)
    ∙ ap (λ v. set (set (take len (drop place ids)) i v) j y) (x_is ∙ sym (part_at ids place len j j_in))
    ∙ ap (λ v. set (set (take len (drop place ids)) i (get_or (take len (drop place ids)) j 0)) j v)
    (y_is ∙ sym (part_at ids place len i i_in))
    ∙ sym (swap_is (take len (drop place ids)) i j (omega (arith, short)) (omega (arith, short)))
  where
    short : length (take len (drop place ids)) ≡ len
    short = length_part ids place len inside

take_front : (n m : ℕ) (xs : List ℕ) → n ≤ m → m ≤ length xs → take n (take m xs) ≡ take n xs
take_front n m xs fits inside =
    ext_get_or 0 (take n (take m xs)) (take n xs) (long ∙ sym (length-take-le n xs (omega arith)))
    (λ i h. let at : i < n = omega (arith, long) in
    get_or-take n (take m xs) i 0 at ∙ get_or-take m xs i 0 (omega arith) ∙ sym (get_or-take n xs i 0 at))
  where
    long : length (take n (take m xs)) ≡ n
    long = length-take-le n (take m xs) (omega (arith, length-take-le m xs inside))

pub part_close : (ids : List ℕ) (place len hole x d : ℕ) → place + len ≤ length ids → hole < len
    → x ≡ get_or ids (place + (len - 1)) 0
    → take (len - 1) (drop place (set ids (place + hole) x)) ≡ swap_remove (take len (drop place ids)) hole d
part_close ids place len hole x d inside hole_in x_is =
    sym (take_front (len - 1) len (drop place (set ids (place + hole) x)) (omega arith)
    (omega (arith, length-drop place (set ids (place + hole) x), length-set ids (place + hole) x)))
    ∙ ap (λ (zs : List ℕ). take (len - 1) zs) (part_set ids place len hole x inside hole_in)
    ∙ ap (λ v. take (len - 1) (set (take len (drop place ids)) hole v))
    (x_is ∙ sym (part_at ids place len (len - 1) (omega arith))
    ∙ get_or_default (take len (drop place ids)) (len - 1) 0 d (omega (arith, short)))
    ∙ ap (λ n. take (n - 1) (set (take len (drop place ids)) hole (get_or (take len (drop place ids)) (n - 1) d)))
    (sym short)
  where
    short : length (take len (drop place ids)) ≡ len
    short = length_part ids place len inside

-- the same of a list in place

pub few_swap : (few : List ℕ) (len i j x y : ℕ) → len ≤ length few → i < len → j < len → x ≡ get_or few j 0
    → y ≡ get_or few i 0 → take len (set (set few i x) j y) ≡ swap (take len few) i j
few_swap few len i j x y inside i_in j_in x_is y_is =
    take-set-lt len (set few i x) j y j_in
    ∙ ap (λ (zs : List ℕ). set zs j y) (take-set-lt len few i x i_in)
    ∙ ap (λ v. set (set (take len few) i v) j y) (x_is ∙ sym (get_or-take len few j 0 j_in))
    ∙ ap (λ v. set (set (take len few) i (get_or (take len few) j 0)) j v) (y_is ∙ sym (get_or-take len few i 0 i_in))
    ∙ sym (swap_is (take len few) i j (omega (arith, length-take-le len few inside))
    (omega (arith, length-take-le len few inside)))

pub few_close : (few : List ℕ) (len hole x d : ℕ) → len ≤ length few → hole < len → x ≡ get_or few (len - 1) 0
    → take (len - 1) (set few hole x) ≡ swap_remove (take len few) hole d
few_close few len hole x d inside hole_in x_is =
    sym (take_front (len - 1) len (set few hole x) (omega arith) (omega (arith, length-set few hole x)))
    ∙ ap (λ (zs : List ℕ). take (len - 1) zs) (take-set-lt len few hole x hole_in)
    ∙ ap (λ v. take (len - 1) (set (take len few) hole v))
    (x_is ∙ sym (get_or-take len few (len - 1) 0 (omega arith))
    ∙ get_or_default (take len few) (len - 1) 0 d (omega (arith, short)))
    ∙ ap (λ n. take (n - 1) (set (take len few) hole (get_or (take len few) (n - 1) d))) (sym short)
  where
    short : length (take len few) ≡ len
    short = length-take-le len few inside
