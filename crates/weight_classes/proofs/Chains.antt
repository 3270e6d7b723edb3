-- For find and bucket_of: the bucket of a rank is found from its cell, bucket by bucket.
use Rattle.std.specs.Prelude.{◌≡◌, ◌≢◌, ℕ, ◌+◌, ◌<◌, ◌≤◌, ◌⊎◌, cond, List, [], ◌∷◌, ◌++◌, length, slice_index, slice_set, nat_eq, refl}
use Rattle.std.proofs.Common.{sym, ◌∙◌, ap, subst, arith, inl, inr, get_or}
use Rattle.std.proofs.lemmas.Bool.{cases_lt, cases_eq}
use Rattle.std.proofs.lemmas.List.{length-set, length_push, length-map, get_or-map, get_or_append_left, get_or_push, get_or-set_same, get_or-set_other, map-append}
use Rattle.weight_classes.specs.declared.buckets.Bucket.{Bucket}
use Rattle.weight_classes.specs.declared.buckets.TheConstants.{NO_BUCKET}
use Rattle.weight_classes.specs.Classes.{Rank}
use Rattle.weight_classes.specs.Inside.{rank_in, ranks_in, nexts_in, rank_at, no_rank, cell_of, IsLatestInCell, AreIndexed, IsIndexed}

-- p may be the bucket of the rank r, and none from there on is
pub record IsOnChain (cells : ℕ) (rs : List Rank) (r : Rank) (p : ℕ) : Type 0 where
  pub m : ℕ
  pub upto : m ≤ length rs
  pub latest : IsLatestInCell cells rs (cell_of cells r) p m
  pub others : (j : ℕ) → m ≤ j → j < length rs → rank_at rs j ≢ r

module _ (cells : ℕ) (heads : List ℕ) (rs : List Rank) (nexts : List ℕ) (s : AreIndexed cells heads rs nexts) (r : Rank)
  where
    pub chain_starts : (cell p : ℕ) → cell ≡ cell_of cells r → cell < cells → p ≡ slice_index heads cell
        → IsOnChain cells rs r p
    chain_starts cell p is inside at = record {
      m = length rs;
      upto = omega arith;
      latest = subst (λ k. IsLatestInCell cells rs k p (length rs)) is
          (subst (λ q. IsLatestInCell cells rs cell q (length rs)) (sym at) (s.latest cell inside));
      others = λ j upto in_j. absurd (omega (arith, upto, in_j));
    }

    pub on_bucket : (p : ℕ) → IsOnChain cells rs r p → p ≢ NO_BUCKET → p < length rs
    on_bucket p c some =
        elim c.latest [ inl none ↦ absurd (some none.0) | inr at ↦ let l : p < c.m = at.0 in omega (arith, l, c.upto) ]

    pub chain_steps : (p q : ℕ) → IsOnChain cells rs r p → p ≢ NO_BUCKET → rank_at rs p ≢ r → q ≡ slice_index nexts p
        → IsOnChain cells rs r q × ((q ≡ NO_BUCKET) ⊎ (q < p))
    chain_steps p q c some other at = elim c.latest [
      | inl none ↦ absurd (some none.0)
      | inr here ↦
          let l : p < c.m = here.0 in
          let inside : p < length rs = omega (arith, l, c.upto) in
          let here_cell : cell_of cells (rank_at rs p) ≡ cell_of cells r = here.1 in
          let next : IsLatestInCell cells rs (cell_of cells r) q p =
          subst (λ k. IsLatestInCell cells rs k q p) here_cell
          (subst (λ k. IsLatestInCell cells rs (cell_of cells (rank_at rs p)) k p) (sym at) (s.chained p inside)) in (
            record {
              m = p;
              upto = omega (arith, inside);
              latest = next;
              others = λ j upto in_j same. elim (cases_eq j p) [
                | inl is ↦ other (ap (rank_at rs) (sym is) ∙ same)
                | inr apart ↦ elim (cases_lt j c.m) [
                  | inl less ↦ here.2 j (omega (arith, upto, apart)) less (ap (cell_of cells) same)
                  | inr more ↦ c.others j more in_j same
                ]
              ];
            },
            elim next [ inl none ↦ inl none.0 | inr at_q ↦ inr at_q.0 ],
          )
    ]

    pub chain_ends : (p : ℕ) → IsOnChain cells rs r p → p ≡ NO_BUCKET → (i : ℕ) → i < length rs → rank_at rs i ≢ r
    chain_ends p c none i inside same = elim c.latest [
      | inl at ↦ elim (cases_lt i c.m) [
        | inl less ↦ at.1 i less (ap (cell_of cells) same)
        | inr more ↦
            c.others i more inside same
      ]
      | inr at ↦ let l : p < c.m = at.0 in absurd (omega (arith, l, c.upto, s.few, none))
    ]

-- how far a chain is from its end
unfoldable pub ahead : ℕ → ℕ
ahead p = cond (nat_eq p NO_BUCKET) 0 (p + 1)

pub ahead_falls : (p q : ℕ) → p ≢ NO_BUCKET → (q ≡ NO_BUCKET) ⊎ (q < p) → ahead q < ahead p
unfolding ahead
ahead_falls p q some h = elim h [ inl none ↦ grind arith | inr less ↦ grind arith ]

-- ---- one bucket more

rank_old : (rs : List Rank) (r : Rank) (j : ℕ) → j < length rs → rank_at (rs ++ r ∷ []) j ≡ rank_at rs j
rank_old rs r j inside = get_or_append_left rs (r ∷ []) no_rank j inside

rank_last : (rs : List Rank) (r : Rank) → rank_at (rs ++ r ∷ []) (length rs) ≡ r
rank_last rs r = get_or_push rs r no_rank (length rs) refl

-- a bucket behind does not matter below m
latest_below : (cells : ℕ) (rs : List Rank) (r : Rank) (cell p m : ℕ) → m ≤ length rs → IsLatestInCell cells rs cell p m
    → IsLatestInCell cells (rs ++ r ∷ []) cell p m
latest_below cells rs r cell p m upto h = elim h [
  | inl none ↦ inl (
    none.0,
    λ j less e. none.1 j less
        (ap (cell_of cells) (sym (rank_old rs r j (omega (arith, less, upto)))) ∙ e),
  )
  | inr at ↦
      let l : p < m = at.0 in
      inr (
        at.0,
        ap (cell_of cells) (rank_old rs r p (omega (arith, l, upto)))
            ∙ at.1,
        λ j more less e. at.2 j more less
            (ap (cell_of cells) (sym (rank_old rs r j (omega (arith, less, upto)))) ∙ e),
      )
]

-- a bucket of another cell does not matter
latest_other : (cells : ℕ) (rs : List Rank) (r : Rank) (cell p : ℕ) → cell_of cells r ≢ cell
    → IsLatestInCell cells rs cell p (length rs) → IsLatestInCell cells (rs ++ r ∷ []) cell p (length (rs ++ r ∷ []))
latest_other cells rs r cell p apart h = elim (latest_below cells rs r cell p (length rs) (omega arith) h) [
  | inl none ↦ inl (none.0, λ j less e. at_end j less e (none.1 j))
  | inr at ↦ let l : p < length rs =
      at.0 in inr (omega (arith, l, length_push rs r), at.1, λ j more less e. at_end j less e (at.2 j more))
]
  where
    at_end : (j : ℕ) → j < length (rs ++ r ∷ []) → cell_of cells (rank_at (rs ++ r ∷ []) j) ≡ cell
        → (j < length rs → cell_of cells (rank_at (rs ++ r ∷ []) j) ≢ cell) → ⊥
    at_end j less e before = elim (cases_lt j (length rs)) [
      | inl old ↦ before old e
      | inr last ↦ let is : j ≡ length rs =
          omega (arith, less, last, length_push rs r) in
          apart (ap (cell_of cells) (sym (rank_last rs r) ∙ ap (rank_at (rs ++ r ∷ [])) (sym is)) ∙ e)
    ]

module _ (cells : ℕ) (heads : List ℕ) (rs : List Rank) (nexts : List ℕ) (s : AreIndexed cells heads rs nexts) (r : Rank)
    (new : (i : ℕ) → i < length rs → rank_at rs i ≢ r) (few : length rs < NO_BUCKET) (cell : ℕ)
    (is : cell ≡ cell_of cells r) (inside : cell < cells) where
  pub indexed_more : AreIndexed cells (slice_set heads cell (length rs)) (rs ++ r ∷ [])
      (nexts ++ slice_index heads cell ∷ [])
  indexed_more = record {
    some = s.some;
    size = length-set heads cell (length rs) ∙ s.size;
    few = omega (arith, few, length_push rs r);
    many = omega (arith, s.many, length_push rs r, length_push nexts (slice_index heads cell));
    once = once;
    latest = λ k k_in. elim (cases_eq k cell) [
      | inl here ↦ inr (
        omega (arith, head_is k here, length_push rs r),
        ap (λ p. cell_of cells (rank_at (rs ++ r ∷ []) p)) (head_is k here) ∙ ap (cell_of cells) (rank_last rs r)
            ∙ sym is ∙ sym here,
        λ j more less. absurd (omega (arith, more, less, head_is k here, length_push rs r)),
      )
      | inr apart ↦ subst (λ p. IsLatestInCell cells (rs ++ r ∷ []) k p (length (rs ++ r ∷ [])))
          (sym (get_or-set_other heads cell k (length rs) 0 apart))
          (latest_other cells rs r k (slice_index heads k) (λ e. apart (sym e ∙ sym is)) (s.latest k k_in))
    ];
    chained = λ i i_in. elim (cases_lt i (length rs)) [
      | inl old ↦
          subst (λ (k : ℕ). IsLatestInCell cells (rs ++ r ∷ []) k (slice_index (nexts ++ slice_index heads cell ∷ []) i)
          i) (ap (cell_of cells) (sym (rank_old rs r i old)))
          (subst (λ p. IsLatestInCell cells (rs ++ r ∷ []) (cell_of cells (rank_at rs i)) p i)
          (sym (get_or_append_left nexts (slice_index heads cell ∷ []) 0 i (omega (arith, old, s.many))))
          (latest_below cells rs r (cell_of cells (rank_at rs i)) (slice_index nexts i) i (omega (arith, old))
          (s.chained i old)))
      | inr last ↦
          let at : i ≡ length rs = omega (arith, i_in, last, length_push rs r) in
          subst (λ k. IsLatestInCell cells (rs ++ r ∷ []) (cell_of cells (rank_at (rs ++ r ∷ []) k))
          (slice_index (nexts ++ slice_index heads cell ∷ []) k) k) (sym at)
          (subst (λ (k : ℕ). IsLatestInCell cells (rs ++ r ∷ []) k
          (slice_index (nexts ++ slice_index heads cell ∷ []) (length rs)) (length rs))
          (is ∙ ap (cell_of cells) (sym (rank_last rs r)))
          (subst (λ p. IsLatestInCell cells (rs ++ r ∷ []) cell p (length rs))
          (sym (get_or_push nexts (slice_index heads cell) 0 (length rs) s.many))
          (latest_below cells rs r cell (slice_index heads cell) (length rs) (omega arith) (s.latest cell inside))))
    ];
  }
    where
      head_is : (k : ℕ) → k ≡ cell → slice_index (slice_set heads cell (length rs)) k ≡ length rs
      head_is k here =
          ap (slice_index (slice_set heads cell (length rs))) here
          ∙ get_or-set_same heads cell (length rs) 0 (omega (arith, inside, s.size))

      once : (i j : ℕ) → i < length (rs ++ r ∷ []) → j < length (rs ++ r ∷ [])
          → rank_at (rs ++ r ∷ []) i ≡ rank_at (rs ++ r ∷ []) j → i ≡ j
      once i j i_in j_in same = elim (cases_lt i (length rs)) [
        | inl i_old ↦ elim (cases_lt j (length rs)) [
          | inl j_old ↦ s.once i j i_old j_old (sym (rank_old rs r i i_old) ∙ same ∙ rank_old rs r j j_old)
          | inr j_last ↦ absurd (new i i_old
              (sym (rank_old rs r i i_old) ∙ same
              ∙ ap (rank_at (rs ++ r ∷ [])) (omega (arith, j_in, j_last, length_push rs r)) ∙ rank_last rs r))
        ]
        | inr i_last ↦ elim (cases_lt j (length rs)) [
          | inl j_old ↦ absurd (new j j_old
              (sym (rank_old rs r j j_old) ∙ sym same
              ∙ ap (rank_at (rs ++ r ∷ [])) (omega (arith, i_in, i_last, length_push rs r)) ∙ rank_last rs r))
          | inr j_last ↦ omega (arith, i_in, j_in, i_last, j_last, length_push rs r)
        ]
      ]

-- ---- by the buckets

pub rank_is : (bs : List Bucket) (i : ℕ) (b : Bucket) → i < length bs → b ≡ get_or bs i b
    → rank_at (ranks_in bs) i ≡ rank_in b
rank_is bs i b inside at = get_or-map rank_in bs i b no_rank inside ∙ ap rank_in (sym at)

pub next_is : (bs : List Bucket) (i : ℕ) (b : Bucket) → i < length bs → b ≡ get_or bs i b
    → slice_index (nexts_in bs) i ≡ b.next
next_is bs i b inside at = get_or-map (λ (c : Bucket). c.next) bs i b 0 inside ∙ ap (λ (c : Bucket). c.next) (sym at)

pub indexed_by : (heads hs : List ℕ) (bs cs : List Bucket) → length hs ≡ length heads
    → AreIndexed (length heads) hs (ranks_in cs) (nexts_in cs) → IsIndexed hs cs
indexed_by heads hs bs cs same s = subst (λ k. AreIndexed k hs (ranks_in cs) (nexts_in cs)) (sym same) s

pub bucket_steps : (heads : List ℕ) (bs : List Bucket) (r : Rank) (p : ℕ) (b : Bucket) → IsIndexed heads bs
    → IsOnChain (length heads) (ranks_in bs) r p → p ≢ NO_BUCKET → b ≡ get_or bs p b
    → (b.weight ≡ r.weight → b.hops ≡ r.hops → ⊥) → IsOnChain (length heads) (ranks_in bs) r b.next
    × ((b.next ≡ NO_BUCKET) ⊎ (b.next < p))
bucket_steps heads bs r p b s c some at other =
    let inside : p < length bs =
    omega (arith, on_bucket (length heads) heads (ranks_in bs) (nexts_in bs) s r p c some, length-map bs rank_in) in
    let is : rank_at (ranks_in bs) p ≡ rank_in b = rank_is bs p b inside at in
    chain_steps (length heads) heads (ranks_in bs) (nexts_in bs) s r p b.next c some
    (λ same. let e : rank_in b ≡ r = sym is ∙ same in
    other (ap (λ (k : Rank). k.weight) e) (ap (λ (k : Rank). k.hops) e))
    (sym (next_is bs p b inside at))

-- a bucket of a new rank is put in front of its cell
pub bucket_indexed : (heads : List ℕ) (bs after : List Bucket) (b : Bucket) (cell len : ℕ) → IsIndexed heads bs
    → ((i : ℕ) → i < length bs → rank_at (ranks_in bs) i ≢ rank_in b) → len < NO_BUCKET → len ≡ length bs
    → cell ≡ cell_of (length heads) (rank_in b) → cell < length heads → b.next ≡ slice_index heads cell → after ≡ bs
    ++ b ∷ [] → IsIndexed (slice_set heads cell len) after
bucket_indexed heads bs after b cell len s new few many is inside next grown =
    let as_many : length (ranks_in bs) ≡ length bs = length-map bs rank_in in
    let more : AreIndexed (length heads) (slice_set heads cell (length (ranks_in bs))) (ranks_in bs ++ rank_in b ∷ [])
    (nexts_in bs ++ slice_index heads cell ∷ []) =
    indexed_more (length heads) heads (ranks_in bs) (nexts_in bs) s (rank_in b)
    (λ i i_in. new i (omega (arith, i_in, as_many))) (omega (arith, few, many, as_many)) cell is inside in
    indexed_by heads (slice_set heads cell len) bs after (length-set heads cell len)
    (subst (λ k. AreIndexed (length heads) (slice_set heads cell k) (ranks_in after) (nexts_in after))
    (as_many ∙ sym many)
    (subst (λ (cs : List Bucket). AreIndexed (length heads) (slice_set heads cell (length (ranks_in bs))) (ranks_in cs)
    (nexts_in cs)) (sym grown)
    (subst (λ (rs : List Rank). AreIndexed (length heads) (slice_set heads cell (length (ranks_in bs))) rs
    (nexts_in (bs ++ b ∷ []))) (sym (map-append rank_in bs (b ∷ [])))
    (subst (λ (ns : List ℕ). AreIndexed (length heads) (slice_set heads cell (length (ranks_in bs)))
    (ranks_in bs ++ rank_in b ∷ []) ns)
    (ap (λ n. nexts_in bs ++ n ∷ []) (sym next) ∙ sym (map-append (λ (c : Bucket). c.next) bs (b ∷ []))) more))))
