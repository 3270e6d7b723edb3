-- For push and class_at: the ids that buckets hold, when one has one id more or gives its ids away.
use Rattle.std.specs.Prelude.{◌≡◌, ℕ, zero, suc, ◌<◌, ◌⊎◌, ◌↔◌, List, [], ◌∷◌, ◌++◌, length, slice_set, refl, Contains}
use Rattle.std.specs.List.Sorted.{IsPermutation}
use Rattle.std.proofs.Common.{sym, ◌∙◌, ap, subst, arith, inl, inr, get_or}
use Rattle.std.proofs.lemmas.List.{append_assoc, map-append, map-set, get_or-map, set-get_or, nil_from_length}
use Rattle.std.proofs.lemmas.List.Sorted.{IsPermutation-refl, IsPermutation-sym, IsPermutation-trans, IsPermutation-cons, IsPermutation-append_left, IsPermutation-append_right, IsPermutation-append_comm, Contains-permutation}
use Rattle.std.proofs.lemmas.List.Elements.{Contains-append_left, Contains-append_right, Contains-append_cases}
use Rattle.path_arena.specs.Arena.{Arena, IsLive}
use Rattle.weight_classes.specs.declared.buckets.Bucket.{Bucket}
use Rattle.weight_classes.specs.Classes.{Classes, Rank, IsHeldWithRank, IsPushed, IsPopped, ClassesFit, AgreeOnRanks, ranked, rank_of}
use Rattle.weight_classes.specs.Inside.{rank_in, ranks_in, nexts_in, idss_in, needs_in, need_at, rank_at, bucket_ids, no_rank, held_by}
use Rattle.weight_classes.specs.Ids.{ids_in, need_of}

-- ---- lists

pub in_cons : {X : Type 0} (x : X) (xs : List X) (y : X) → Contains (x ∷ xs) y → (x ≡ y) ⊎ Contains xs y
in_cons x xs y c = elim (Contains-append_cases (x ∷ []) xs y c) [ inl here ↦ inl (only here) | inr more ↦ inr more ]
  where
    only : Contains (x ∷ []) y → x ≡ y
    only (zero, inside, at) = at
    only (suc k, inside, at) = absurd (omega (arith, inside))

pub head_there : {X : Type 0} (x : X) (xs : List X) → Contains (x ∷ xs) x
head_there x xs = (0, omega arith, refl)

pub tail_there : {X : Type 0} (x : X) (xs : List X) (y : X) → Contains xs y → Contains (x ∷ xs) y
tail_there x xs y c = Contains-append_right (x ∷ []) xs y c

same_list : {X : Type 0} (xs ys : List X) → xs ≡ ys → IsPermutation xs ys
same_list xs ys e = subst (IsPermutation xs) e (IsPermutation-refl xs)

swap_front : {X : Type 0} (xs ys zs : List X) → IsPermutation (xs ++ (ys ++ zs)) (ys ++ (xs ++ zs))
swap_front xs ys zs =
    subst (λ ls. IsPermutation ls (ys ++ (xs ++ zs))) (append_assoc xs ys zs)
    (subst (IsPermutation ((xs ++ ys) ++ zs)) (append_assoc ys xs zs)
    (IsPermutation-append_left zs (xs ++ ys) (ys ++ xs) (IsPermutation-append_comm xs ys)))

pub same_rank : (r s : Rank) → r.weight ≡ s.weight → r.hops ≡ s.hops → r ≡ s
same_rank r s w h =
    ap (λ (k : ℕ). let t : Rank = record { weight = k; hops = r.hops } in t) w
    ∙ ap (λ (k : ℕ). let t : Rank = record { weight = s.weight; hops = k } in t) h

-- ---- the ids of a bucket and those of the others

pub record IsSplit (rs : List Rank) (idss : List (List ℕ)) (i : ℕ) : Type 0 where
  pub others : List (Rank × ℕ)
  pub with_ids : (ids : List ℕ) → IsPermutation (held_by rs (slice_set idss i ids))
      (ranked (rank_at rs i) ids ++ others)

pub split_at : (rs : List Rank) (idss : List (List ℕ)) (i : ℕ) → i < length rs → length idss ≡ length rs
    → IsSplit rs idss i
split_at [] idss i inside many = absurd (omega (arith, inside))
split_at (r ∷ rs) [] i inside many = absurd (omega (arith, many))
split_at (r ∷ rs) (ids ∷ idss) zero inside many =
    record { others = held_by rs idss; with_ids = λ new. IsPermutation-refl (ranked r new ++ held_by rs idss) }
split_at (r ∷ rs) (ids ∷ idss) (suc i) inside many =
    let s : IsSplit rs idss i = split_at rs idss i (omega (arith, inside)) (omega (arith, many)) in
    record {
      others = ranked r ids ++ s.others;
      with_ids =
          λ new. IsPermutation-trans (ranked r ids ++ held_by rs (slice_set idss i new))
          (ranked r ids ++ (ranked (rank_at rs i) new ++ s.others))
          (ranked (rank_at rs i) new ++ (ranked r ids ++ s.others))
          (IsPermutation-append_right (ranked r ids) (held_by rs (slice_set idss i new))
          (ranked (rank_at rs i) new ++ s.others) (s.with_ids new))
          (swap_front (ranked r ids) (ranked (rank_at rs i) new) s.others);
    }

module _ (rs : List Rank) (idss : List (List ℕ)) (i : ℕ) (inside : i < length rs) (many : length idss ≡ length rs) where
  split : IsSplit rs idss i
  split = split_at rs idss i inside many

  as_before : IsPermutation (held_by rs idss) (ranked (rank_at rs i) (bucket_ids idss i) ++ split.others)
  as_before =
      subst (λ js. IsPermutation (held_by rs js) (ranked (rank_at rs i) (bucket_ids idss i) ++ split.others))
      (set-get_or idss i []) (split.with_ids (bucket_ids idss i))

  pub held_more : (id : ℕ) → IsPermutation ((rank_at rs i, id) ∷ held_by rs idss)
      (held_by rs (slice_set idss i (bucket_ids idss i ++ id ∷ [])))
  held_more id =
      let r : Rank = rank_at rs i in
      let old : List (Rank × ℕ) = ranked r (bucket_ids idss i) in
      let one : List (Rank × ℕ) = (r, id) ∷ [] in
      let now : IsPermutation (held_by rs (slice_set idss i (bucket_ids idss i ++ id ∷ [])))
      ((old ++ one) ++ split.others) = subst
      (λ ls. IsPermutation (held_by rs (slice_set idss i (bucket_ids idss i ++ id ∷ []))) (ls ++ split.others))
      (map-append (λ (q : ℕ). let p : Rank × ℕ = (r, q) in p) (bucket_ids idss i) (id ∷ []))
      (split.with_ids (bucket_ids idss i ++ id ∷ [])) in
      let front : IsPermutation ((old ++ one) ++ split.others) ((one ++ old) ++ split.others) =
      IsPermutation-append_left split.others (old ++ one) (one ++ old) (IsPermutation-append_comm old one) in
      let before : IsPermutation ((r, id) ∷ held_by rs idss) ((r, id) ∷ (old ++ split.others)) =
      IsPermutation-cons (r, id) (held_by rs idss) (old ++ split.others) as_before in
      IsPermutation-trans ((r, id) ∷ held_by rs idss) ((r, id) ∷ (old ++ split.others))
      (held_by rs (slice_set idss i (bucket_ids idss i ++ id ∷ []))) before
      (IsPermutation-sym (held_by rs (slice_set idss i (bucket_ids idss i ++ id ∷ [])))
      ((r, id) ∷ (old ++ split.others))
      (IsPermutation-trans (held_by rs (slice_set idss i (bucket_ids idss i ++ id ∷ []))) ((old ++ one) ++ split.others)
      ((r, id) ∷ (old ++ split.others)) now front))

  pub held_less : IsPermutation (held_by rs idss)
      (ranked (rank_at rs i) (bucket_ids idss i) ++ held_by rs (slice_set idss i []))
  held_less =
      let r : Rank = rank_at rs i in
      IsPermutation-trans (held_by rs idss) (ranked r (bucket_ids idss i) ++ split.others)
      (ranked r (bucket_ids idss i) ++ held_by rs (slice_set idss i [])) as_before
      (IsPermutation-append_right (ranked r (bucket_ids idss i)) split.others (held_by rs (slice_set idss i []))
      (IsPermutation-sym (held_by rs (slice_set idss i [])) split.others (split.with_ids [])))

-- ---- what is held, by the buckets

in_ranked : (r : Rank) (ids : List ℕ) (s : Rank) (id : ℕ) → Contains (ranked r ids) (s, id) → (r ≡ s) × Contains ids id
in_ranked r [] s id c = absurd (omega (arith, c.1))
in_ranked r (x ∷ ids) s id c = elim (in_cons (r, x) (ranked r ids) (s, id) c) [
  | inl here ↦ (
    ap (λ (p : Rank × ℕ). p.0) here,
    subst (Contains (x ∷ ids)) (ap (λ (p : Rank × ℕ). p.1) here)
        (head_there x ids),
  )
  | inr more ↦ let h : (r ≡ s) × Contains ids id = in_ranked r ids s id more in (h.0, tail_there x ids id h.1)
]

to_ranked : (r : Rank) (ids : List ℕ) (id : ℕ) → Contains ids id → Contains (ranked r ids) (r, id)
to_ranked r [] id c = absurd (omega (arith, c.1))
to_ranked r (x ∷ ids) id c = elim (in_cons x ids id c) [
  | inl here ↦ subst (λ q. Contains ((r, x) ∷ ranked r ids) (r, q)) here (head_there (r, x) (ranked r ids))
  | inr more ↦ tail_there (r, x) (ranked r ids) (r, id) (to_ranked r ids id more)
]

module _ (rs : List Rank) (idss : List (List ℕ)) (i : ℕ) (inside : i < length rs) (many : length idss ≡ length rs) where
  -- the ids of a bucket are held with its rank
  pub held_there : (id : ℕ) → Contains (bucket_ids idss i) id → Contains (held_by rs idss) (rank_at rs i, id)
  held_there id c =
      let s : IsSplit rs idss i = split_at rs idss i inside many in
      Contains-permutation (ranked (rank_at rs i) (bucket_ids idss i) ++ s.others) (held_by rs idss) (rank_at rs i, id)
      (IsPermutation-sym (held_by rs idss) (ranked (rank_at rs i) (bucket_ids idss i) ++ s.others)
      (subst (λ js. IsPermutation (held_by rs js) (ranked (rank_at rs i) (bucket_ids idss i) ++ s.others))
      (set-get_or idss i []) (s.with_ids (bucket_ids idss i))))
      (Contains-append_left (ranked (rank_at rs i) (bucket_ids idss i)) s.others (rank_at rs i, id)
      (to_ranked (rank_at rs i) (bucket_ids idss i) id c))

-- the bucket in which an id is held
pub record IsIn (rs : List Rank) (idss : List (List ℕ)) (r : Rank) (id : ℕ) : Type 0 where
  pub i : ℕ
  pub inside : i < length rs
  pub rank : rank_at rs i ≡ r
  pub held : Contains (bucket_ids idss i) id

pub held_where : (rs : List Rank) (idss : List (List ℕ)) (r : Rank) (id : ℕ) → Contains (held_by rs idss) (r, id)
    → IsIn rs idss r id
held_where [] idss r id c = absurd (omega (arith, c.1))
held_where (s ∷ rs) [] r id c = absurd (omega (arith, c.1))
held_where (s ∷ rs) (ids ∷ idss) r id c = elim (Contains-append_cases (ranked s ids) (held_by rs idss) (r, id) c) [
  | inl here ↦ let h : (s ≡ r) × Contains ids id =
      in_ranked s ids r id here in record { i = 0; inside = omega arith; rank = h.0; held = h.1 }
  | inr more ↦ let h : IsIn rs idss r id =
      held_where rs idss r id more in record
      { i = suc h.i; inside = omega (arith, h.inside); rank = h.rank; held = h.held }
]

pub held_none : (rs : List Rank) (idss : List (List ℕ)) → ((i : ℕ) → length (bucket_ids idss i) ≡ 0)
    → held_by rs idss ≡ []
held_none [] idss none = refl
held_none (r ∷ rs) [] none = refl
held_none (r ∷ rs) (ids ∷ idss) none =
    ap (λ js. ranked r js ++ held_by rs idss) (nil_from_length ids (none 0)) ∙ held_none rs idss (λ i. none (suc i))

pub some_id : (ids : List ℕ) (id : ℕ) → Contains ids id → 0 < length ids
some_id ids id c = let l : c.0 < length ids = c.1 in omega (arith, l)

-- ---- an empty bucket more

pub ids_more : (idss : List (List ℕ)) (i : ℕ) → bucket_ids (idss ++ [] ∷ []) i ≡ bucket_ids idss i
ids_more [] zero = refl
ids_more [] (suc i) = refl
ids_more (ids ∷ idss) zero = refl
ids_more (ids ∷ idss) (suc i) = ids_more idss i

pub need_more : (needs : List ℕ) (i : ℕ) → need_at (needs ++ 0 ∷ []) i ≡ need_at needs i
need_more [] zero = refl
need_more [] (suc i) = refl
need_more (n ∷ needs) zero = refl
need_more (n ∷ needs) (suc i) = need_more needs i

pub held_same : (rs : List Rank) (idss : List (List ℕ)) (r : Rank) → length idss ≡ length rs
    → held_by (rs ++ r ∷ []) (idss ++ [] ∷ []) ≡ held_by rs idss
held_same [] [] r many = refl
held_same [] (ids ∷ idss) r many = absurd (omega (arith, many))
held_same (s ∷ rs) [] r many = absurd (omega (arith, many))
held_same (s ∷ rs) (ids ∷ idss) r many = ap (λ l. ranked s ids ++ l) (held_same rs idss r (omega (arith, many)))

pub ids_get : (bs : List Bucket) (i : ℕ) (b : Bucket) → i < length bs
    → bucket_ids (idss_in bs) i ≡ ids_in (get_or bs i b).ids
ids_get bs i b inside = get_or-map (λ (c : Bucket). ids_in c.ids) bs i b [] inside

-- ---- a bucket with other ids

module _ (bs : List Bucket) (i : ℕ) (b d : Bucket) (inside : i < length bs) (at : b ≡ get_or bs i b) where
  pub ranks_same : rank_in d ≡ rank_in b → ranks_in (slice_set bs i d) ≡ ranks_in bs
  ranks_same same =
      map-set rank_in bs i d ∙ ap (slice_set (ranks_in bs) i)
      (same ∙ ap rank_in at ∙ sym (get_or-map rank_in bs i b no_rank inside)) ∙ set-get_or (ranks_in bs) i no_rank

  pub nexts_same : d.next ≡ b.next → nexts_in (slice_set bs i d) ≡ nexts_in bs
  nexts_same same =
      map-set (λ (c : Bucket). c.next) bs i d
      ∙ ap (slice_set (nexts_in bs) i) (same ∙ ap (λ (c : Bucket). c.next) at
      ∙ sym (get_or-map (λ (c : Bucket). c.next) bs i b 0 inside)) ∙ set-get_or (nexts_in bs) i 0

  pub idss_now : idss_in (slice_set bs i d) ≡ slice_set (idss_in bs) i (ids_in d.ids)
  idss_now = map-set (λ (c : Bucket). ids_in c.ids) bs i d

  pub ids_is : bucket_ids (idss_in bs) i ≡ ids_in b.ids
  ids_is = get_or-map (λ (c : Bucket). ids_in c.ids) bs i b [] inside ∙ ap (λ (c : Bucket). ids_in c.ids) (sym at)

  pub idss_same : ids_in d.ids ≡ ids_in b.ids → idss_in (slice_set bs i d) ≡ idss_in bs
  idss_same same = idss_now ∙ ap (slice_set (idss_in bs) i) (same ∙ sym ids_is) ∙ set-get_or (idss_in bs) i []

pub needs_now : (bs : List Bucket) (i : ℕ) (d : Bucket)
    → needs_in (slice_set bs i d) ≡ slice_set (needs_in bs) i (need_of d.ids)
needs_now bs i d = map-set (λ (c : Bucket). need_of c.ids) bs i d

pub need_is : (bs : List Bucket) (i : ℕ) (b : Bucket) → i < length bs → b ≡ get_or bs i b
    → need_at (needs_in bs) i ≡ need_of b.ids
need_is bs i b inside at =
    get_or-map (λ (c : Bucket). need_of c.ids) bs i b 0 inside ∙ ap (λ (c : Bucket). need_of c.ids) (sym at)

-- ---- classes

pub fits_agree : (c : Classes) (a b : Arena) → ClassesFit c a → AgreeOnRanks c a b → ClassesFit c b
fits_agree c a b fits agree = record {
  vertices = agree.vertices ∙ fits.vertices;
  live = agree.live;
  ranks = λ r id held. agree.ranks r id held ∙ fits.ranks r id held;
}

-- which ids are held when one more is
pub pushed_held : (old new : Classes) (a : Arena) (id : ℕ) → IsPushed old new a id → (r : Rank) (q : ℕ)
    → IsHeldWithRank new r q ↔ (IsHeldWithRank old r q ⊎ ((r ≡ rank_of a id) × (q ≡ id)))
pushed_held old new a id s r q = (
  λ h. elim (in_cons (rank_of a id, id) old.held (r, q)
      (Contains-permutation new.held ((rank_of a id, id) ∷ old.held) (r, q)
      (IsPermutation-sym ((rank_of a id, id) ∷ old.held) new.held s.held) h)) [
        | inl here ↦ inr (ap (λ (p : Rank × ℕ). p.0) (sym here), ap (λ (p : Rank × ℕ). p.1) (sym here))
        | inr more ↦ inl more
      ],
  λ h. Contains-permutation ((rank_of a id, id) ∷ old.held) new.held (r, q) s.held (elim h [
    | inl more ↦ tail_there (rank_of a id, id) old.held (r, q) more
    | inr here ↦ subst (λ (k : Rank). Contains ((rank_of a id, id) ∷ old.held) (k, q)) (sym here.0)
        (subst (λ j. Contains ((rank_of a id, id) ∷ old.held) (rank_of a id, j)) (sym here.1)
        (head_there (rank_of a id, id) old.held))
  ]),
)

pub pushed_fits : (old new : Classes) (a : Arena) (id : ℕ) → IsPushed old new a id → ClassesFit old a → IsLive a id
    → ClassesFit new a
pushed_fits old new a id s fits live = record {
  vertices = fits.vertices ∙ sym s.vertices;
  live = λ r q h. elim ((pushed_held old new a id s r q).0 h)
      [ inl was ↦ fits.live r q was | inr is ↦ subst (IsLive a) (sym is.1) live ];
  ranks = λ r q h. elim ((pushed_held old new a id s r q).0 h)
      [ inl was ↦ fits.ranks r q was | inr is ↦ ap (rank_of a) is.1 ∙ sym is.0 ];
}

-- what was held is in the class or is held
pub popped_cases : (old new : Classes) (a : Arena) (rank : Rank) (winners : List ℕ)
    (s : IsPopped old new a rank winners) (r : Rank) (q : ℕ) → IsHeldWithRank old r q
    → ((rank ≡ r) × Contains s.class q) ⊎ IsHeldWithRank new r q
popped_cases old new a rank winners s r q h =
    elim (Contains-append_cases (ranked rank s.class) new.held (r, q)
    (Contains-permutation old.held (ranked rank s.class ++ new.held) (r, q) s.held h)) [
      | inl here ↦ inl (in_ranked rank s.class r q here)
      | inr more ↦ inr more
    ]

pub class_held : (old new : Classes) (a : Arena) (rank : Rank) (winners : List ℕ) (s : IsPopped old new a rank winners)
    (q : ℕ) → Contains s.class q → IsHeldWithRank old rank q
class_held old new a rank winners s q c =
    Contains-permutation (ranked rank s.class ++ new.held) old.held (rank, q)
    (IsPermutation-sym old.held (ranked rank s.class ++ new.held) s.held)
    (Contains-append_left (ranked rank s.class) new.held (rank, q) (to_ranked rank s.class q c))

pub still_held : (old new : Classes) (a : Arena) (rank : Rank) (winners : List ℕ) (s : IsPopped old new a rank winners)
    (r : Rank) (q : ℕ) → IsHeldWithRank new r q → IsHeldWithRank old r q
still_held old new a rank winners s r q h =
    Contains-permutation (ranked rank s.class ++ new.held) old.held (r, q)
    (IsPermutation-sym old.held (ranked rank s.class ++ new.held) s.held)
    (Contains-append_right (ranked rank s.class) new.held (r, q) h)

pub popped_fits : (old new : Classes) (a : Arena) (rank : Rank) (winners : List ℕ) → IsPopped old new a rank winners
    → ClassesFit old a → ClassesFit new a
popped_fits old new a rank winners s fits = record {
  vertices = fits.vertices ∙ sym s.vertices;
  live = λ r q h. fits.live r q (still_held old new a rank winners s r q h);
  ranks = λ r q h. fits.ranks r q (still_held old new a rank winners s r q h);
}
