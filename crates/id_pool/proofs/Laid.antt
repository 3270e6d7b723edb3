-- The lists, when one of them moves.
use Rattle.std.specs.Prelude.{◌≡◌, ℕ, ◌+◌, ◌<◌, ◌≤◌, List, [], ◌∷◌, ◌++◌, length, refl, Result, Ok, Err, OnOk, OnErr}
use Rattle.std.proofs.Common.{sym, ◌∙◌, ap, subst, arith, inl, inr, get_or, set, length-set, get_or-set_same, get_or-set_other}
use Rattle.std.proofs.lemmas.Bool.{cases_lt, cases_eq}
use Rattle.std.proofs.lemmas.List.{map-append, get_or-map, length-map, get_or_past, get_or_append_left, get_or_push, length_push, length-take-le, set-get_or}
use Rattle.id_pool.specs.declared.head.Head.{Head}
use Rattle.id_pool.specs.Blocks.{Owner, Hand, Of, HasOneOwnerEach, OwnerKeeps, room_of}
use Rattle.id_pool.specs.Heads.{Near, Far, Shape, shape, IsOneMore, IsAt, IsPlacedInPool, IsMoved, IsMovedTo, held_of, ids_of, len_of, mark_of}
use Rattle.id_pool.specs.Lists.{Held, IsChanged, list_at, no_ids}
use Rattle.id_pool.specs.Layout.{IsLaid, lists_of}
use Rattle.id_pool.proofs.Places.{owns_kept, room_most}
use Rattle.id_pool.proofs.Parts.{same_part, length_part}

-- ---- a list that does not move

at_kept : (ids ids' : List ℕ) (o o' : ℕ → Owner) (j : ℕ) (h : Shape) → length ids ≤ length ids'
    → OwnerKeeps ids ids' o o' (Of j) → IsAt ids o j h → IsAt ids' o' j h
at_kept ids ids' o o' j (Near len mark few) longer kept at = at
at_kept ids ids' o o' j (Far level len place mark) longer kept at =
    (at.0, at.1, at.2, omega (arith, at.3), owns_kept ids ids' o o' (Of j) place (room_of level) at.3 kept at.4)

ids_kept : (ids ids' : List ℕ) (o o' : ℕ → Owner) (j : ℕ) (h : Shape) → length ids ≤ length ids'
    → OwnerKeeps ids ids' o o' (Of j) → IsAt ids o j h → ids_of ids' h ≡ ids_of ids h
ids_kept ids ids' o o' j (Near len mark few) longer kept at = refl
ids_kept ids ids' o o' j (Far level len place mark) longer kept at =
    same_part ids ids' place place len (omega (arith, at.1, at.3)) (omega (arith, at.1, at.3))
    (λ i h. (kept (place + i) (omega (arith, at.1, at.3)) (at.4 i (omega (arith, at.1)))).1)

held_kept : (ids ids' : List ℕ) (o o' : ℕ → Owner) (j : ℕ) (h : Shape) → length ids ≤ length ids'
    → OwnerKeeps ids ids' o o' (Of j) → IsAt ids o j h → held_of ids' h ≡ held_of ids h
held_kept ids ids' o o' j h longer kept at =
    ap (λ (xs : List ℕ). record { ids = xs; marked = mark_of h }) (ids_kept ids ids' o o' j h longer kept at)

-- ---- what one list says of itself

pub length_ids : (ids free : List ℕ) (h : Shape) → IsPlacedInPool ids free h → length (ids_of ids h) ≡ len_of h
length_ids ids free (Near len mark few) placed =
    omega (arith, length-take-le len few (omega (arith, placed.at.0, placed.at.2)))
length_ids ids free (Far level len place mark) placed =
    length_part ids place len (omega (arith, placed.at.1, placed.at.3))

pub mark_most : (ids free : List ℕ) (h : Shape) → IsPlacedInPool ids free h → mark_of h ≤ len_of h
mark_most ids free (Near len mark few) placed = placed.at.1
mark_most ids free (Far level len place mark) placed = placed.at.2

pub len_most : (ids free : List ℕ) (h : Shape) → IsPlacedInPool ids free h → len_of h ≤ 32768
len_most ids free (Near len mark few) placed = omega (arith, placed.at.0)
len_most ids free (Far level len place mark) placed = omega (arith, placed.at.1, room_most level placed.at.0)

pub placed_at : (heads : List Head) (ids free : List ℕ) (k : ℕ) (h : Head) → IsLaid heads ids free → k < length heads
    → h ≡ get_or heads k h → IsPlacedInPool ids free (shape h)
placed_at heads ids free k h laid inside read = record {
  k = k;
  o = laid.o;
  depth = laid.depth;
  stands = laid.stands;
  at = subst (λ (g : Head). IsAt ids laid.o k (shape g)) (sym read) (laid.each k h inside);
}

-- ---- one list moves

moved_at : (heads : List Head) (ids free ids' free' : List ℕ) (k : ℕ) (h h' : Head) (laid : IsLaid heads ids free)
    → k < length heads → h ≡ get_or heads k h → IsMoved ids free (shape h) ids' free' (shape h')
    → IsMovedTo ids ids' free' laid.o k (shape h')
moved_at heads ids free ids' free' k h h' laid inside read moved =
    moved laid.o laid.depth k laid.stands
    (subst (λ (g : Head). IsAt ids laid.o k (shape g)) (sym read) (laid.each k h inside))

pub laid_moved : (heads : List Head) (ids free ids' free' : List ℕ) (k : ℕ) (h h' : Head) → IsLaid heads ids free
    → k < length heads → h ≡ get_or heads k h → IsMoved ids free (shape h) ids' free' (shape h')
    → IsLaid (set heads k h') ids' free'
laid_moved heads ids free ids' free' k h h' laid inside read moved =
    let m : IsMovedTo ids ids' free' laid.o k (shape h') =
    moved_at heads ids free ids' free' k h h' laid inside read moved in
    record {
      o = m.o';
      depth = m.depth';
      stands = m.stands;
      each = λ j d j_in. let j_was : j < length heads = omega (arith, length-set heads k h') in elim (cases_eq j k) [
        | inl here ↦
            let is : get_or (set heads k h') j d ≡ h' =
            ap (λ i. get_or (set heads k h') i d) here ∙ get_or-set_same heads k h' d inside in
            subst (λ (g : Head). IsAt ids' m.o' j (shape g)) (sym is)
            (subst (λ i. IsAt ids' m.o' i (shape h')) (sym here) m.at)
        | inr other ↦
            subst (λ (g : Head). IsAt ids' m.o' j (shape g)) (sym (get_or-set_other heads k j h' d other))
            (at_kept ids ids' laid.o m.o' j (shape (get_or heads j d)) m.longer (m.kept j other) (laid.each j d j_was))
      ];
    }

list_is : (ids : List ℕ) (heads : List Head) (j : ℕ) (d : Head) → j < length heads
    → list_at (lists_of ids heads) j ≡ held_of ids (shape (get_or heads j d))
list_is ids heads j d inside = get_or-map (λ h. held_of ids (shape h)) heads j d no_ids inside

-- the lists before and after, where one of them moved
pub record IsWritten (old new : List Held) (k : ℕ) (was now : Held) : Type 0 where
  pub only : IsChanged old new k
  pub before : list_at old k ≡ was
  pub after : list_at new k ≡ now

pub written : (heads : List Head) (ids free ids' free' : List ℕ) (k : ℕ) (h h' : Head) (old : List Held)
    → lists_of ids heads ≡ old → IsLaid heads ids free → k < length old → h ≡ get_or heads k h
    → IsMoved ids free (shape h) ids' free' (shape h')
    → IsWritten old (lists_of ids' (set heads k h')) k (held_of ids (shape h)) (held_of ids' (shape h'))
written heads ids free ids' free' k h h' old is laid k_in read moved =
    subst (λ (o : List Held). IsWritten o (lists_of ids' (set heads k h')) k (held_of ids (shape h))
    (held_of ids' (shape h'))) is
    (record {
      only = record {
        many = length-map (set heads k h') (λ g. held_of ids' (shape g)) ∙ length-set heads k h'
            ∙ sym (length-map heads (λ g. held_of ids (shape g)));
        others = λ j other. elim (cases_lt j (length heads)) [
          | inl j_in ↦
              list_is ids' (set heads k h') j h (omega (arith, length-set heads k h'))
              ∙ ap (λ (g : Head). held_of ids' (shape g)) (get_or-set_other heads k j h' h other)
              ∙ held_kept ids ids' laid.o m.o' j (shape (get_or heads j h)) m.longer (m.kept j other)
              (laid.each j h j_in)
              ∙ sym (list_is ids heads j h j_in)
          | inr past ↦
              get_or_past (lists_of ids' (set heads k h')) j no_ids
              (omega (arith, length-map (set heads k h') (λ g. held_of ids' (shape g)), length-set heads k h'))
              ∙ sym (get_or_past (lists_of ids heads) j no_ids
              (omega (arith, length-map heads (λ g. held_of ids (shape g)))))
        ];
      };
      before = list_is ids heads k h inside ∙ ap (λ (g : Head). held_of ids (shape g)) (sym read);
      after = list_is ids' (set heads k h') k h (omega (arith, inside, length-set heads k h'))
          ∙ ap (λ (g : Head). held_of ids' (shape g)) (get_or-set_same heads k h' h inside);
    })
  where
    inside : k < length heads
    inside = omega (arith, k_in, ap length is, length-map heads (λ g. held_of ids (shape g)))

    m : IsMovedTo ids ids' free' laid.o k (shape h')
    m = moved_at heads ids free ids' free' k h h' laid inside read moved

pub inside_heads : (heads : List Head) (ids : List ℕ) (old : List Held) (k : ℕ) → lists_of ids heads ≡ old
    → k < length old → k < length heads
inside_heads heads ids old k is inside = omega (arith, ap length is, length-map heads (λ g. held_of ids (shape g)))

-- what a list says of the one that stands there
pub held_at : (heads : List Head) (ids : List ℕ) (old : List Held) (k : ℕ) (h : Head) → lists_of ids heads ≡ old
    → k < length old → h ≡ get_or heads k h → list_at old k ≡ held_of ids (shape h)
held_at heads ids old k h is inside read =
    ap (λ (o : List Held). list_at o k) (sym is) ∙ list_is ids heads k h (inside_heads heads ids old k is inside)
    ∙ ap (λ (g : Head). held_of ids (shape g)) (sym read)

-- ---- no lists, and one more

pub laid_none : (ids free : List ℕ) (heads : List Head) → heads ≡ [] → HasOneOwnerEach ids free (λ _. Hand) (λ _. 0)
    → IsLaid heads ids free
laid_none ids free heads none stands = record {
  o = λ _. Hand;
  depth = λ _. 0;
  stands = stands;
  each = λ k d inside. absurd (let no : length heads ≡ 0 = ap length none in omega arith);
}

pub laid_more : (heads : List Head) (ids free : List ℕ) (h : Head) → IsLaid heads ids free
    → ((o : ℕ → Owner) (k : ℕ) → IsAt ids o k (shape h)) → IsLaid (heads ++ h ∷ []) ids free
laid_more heads ids free h laid at = record {
  o = laid.o;
  depth = laid.depth;
  stands = laid.stands;
  each = λ k d inside. elim (cases_lt k (length heads)) [
    | inl below ↦ subst (λ (g : Head). IsAt ids laid.o k (shape g)) (sym (get_or_append_left heads (h ∷ []) d k below))
        (laid.each k d below)
    | inr upto ↦
        let last : length heads ≡ k = omega (arith, length_push heads h) in
        subst (λ (g : Head). IsAt ids laid.o k (shape g)) (sym (get_or_push heads h d k last)) (at laid.o k)
  ];
}

pub laid_added : {E : Type 0} (r : Result (Unit {0}) E) (heads new : List Head) (ids free : List ℕ)
    → OnOk r (IsOneMore heads new) → OnErr r (new ≡ heads) → IsLaid heads ids free → IsLaid new ids free
laid_added (Ok u) heads new ids free ok err laid =
    subst (λ (hs : List Head). IsLaid hs ids free) (sym ok.is) (laid_more heads ids free ok.head laid (ok.at ids))
laid_added (Err e) heads new ids free ok err laid = subst (λ (hs : List Head). IsLaid hs ids free) (sym err) laid

pub added : {E : Type 0} (r : Result (Unit {0}) E) (heads new : List Head) (ids : List ℕ) (old : List Held)
    → lists_of ids heads ≡ old → OnOk r (IsOneMore heads new) → OnOk r (lists_of ids new ≡ old ++ no_ids ∷ [])
added (Ok u) heads new ids old is ok =
    ap (lists_of ids) ok.is
    ∙ map-append (λ h. held_of ids (shape h)) heads (ok.head ∷ [])
    ∙ ap (λ (o : List Held). o ++ held_of ids (shape ok.head) ∷ []) is
    ∙ ap (λ (h : Held). old ++ h ∷ []) (empty (shape ok.head) (ok.ids ids) ok.mark)
  where
    empty : (h : Shape) → ids_of ids h ≡ [] → mark_of h ≡ 0 → held_of ids h ≡ no_ids
    empty h none zero =
        ap (λ (xs : List ℕ). record { ids = xs; marked = mark_of h }) none
        ∙ ap (λ m. record { ids = []; marked = m }) zero
added (Err e) heads new ids old is ok = tt

-- ---- a list gets one more id, if there is memory

pub on_ok_both : {E : Type 0} {P Q R : Type 0} (r : Result (Unit {0}) E) → (P → Q → R) → OnOk r P → OnOk r Q → OnOk r R
on_ok_both (Ok u) f p q = f p q
on_ok_both (Err e) f p q = tt

set_back : (heads : List Head) (k : ℕ) (h h' : Head) → h ≡ get_or heads k h → h' ≡ h → set heads k h' ≡ heads
set_back heads k h h' read same = ap (set heads k) (same ∙ read) ∙ set-get_or heads k h

pub laid_put : {E : Type 0} (r : Result (Unit {0}) E) (heads : List Head) (ids free ids' free' : List ℕ) (k : ℕ)
    (h h' : Head) → IsLaid heads ids free → k < length heads → h ≡ get_or heads k h
    → OnOk r (IsMoved ids free (shape h) ids' free' (shape h')) → OnErr r (h' ≡ h) → OnErr r (ids' ≡ ids)
    → OnErr r (free' ≡ free) → IsLaid (set heads k h') ids' free'
laid_put (Ok u) heads ids free ids' free' k h h' laid inside read moved err_head err_ids err_free =
    laid_moved heads ids free ids' free' k h h' laid inside read moved
laid_put (Err e) heads ids free ids' free' k h h' laid inside read moved err_head err_ids err_free =
    subst (λ (hs : List Head). IsLaid hs ids' free') (sym (set_back heads k h h' read err_head))
    (subst (λ (xs : List ℕ). IsLaid heads xs free') (sym err_ids)
    (subst (λ (xs : List ℕ). IsLaid heads ids xs) (sym err_free) laid))

pub put_back : {E : Type 0} (r : Result (Unit {0}) E) (heads : List Head) (ids ids' : List ℕ) (k : ℕ) (h h' : Head)
    (old : List Held) → lists_of ids heads ≡ old → h ≡ get_or heads k h → OnErr r (h' ≡ h) → OnErr r (ids' ≡ ids)
    → OnErr r (lists_of ids' (set heads k h') ≡ old)
put_back (Ok u) heads ids ids' k h h' old is read err_head err_ids = tt
put_back (Err e) heads ids ids' k h h' old is read err_head err_ids =
    ap (λ (xs : List ℕ). lists_of xs (set heads k h')) err_ids ∙ ap (lists_of ids) (set_back heads k h h' read err_head)
    ∙ is
