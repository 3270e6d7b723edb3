-- For class_at: what taking the ids of a bucket gives.
use Rattle.std.specs.Prelude.{◌≡◌, ◌≢◌, ℕ, ◌+◌, ◌*◌, ◌<◌, false, Bool, List, [], ◌++◌, length, slice_index_or, slice_set, replicate, refl, Contains}
use Rattle.std.proofs.Common.{sym, ◌∙◌, ap, subst, arith, inl, inr, get_or}
use Rattle.std.proofs.lemmas.Bool.{cases_lt, false≢true}
use Rattle.std.proofs.lemmas.List.{get_or-set_same, get_or-set_other, get_or-replicate, get_or_past, length-replicate, length-map}
use Rattle.std.proofs.lemmas.List.Elements.{Contains-append_right}
use Rattle.std.proofs.lemmas.List.Sorted.{IsPermutation-sym, Contains-permutation}
use Rattle.path_arena.specs.Arena.{Arena, IsLive}
use Rattle.weight_classes.specs.declared.buckets.Bucket.{Bucket}
use Rattle.weight_classes.specs.declared.ids.Ids.TheVariants.{Empty}
use Rattle.weight_classes.specs.Classes.{Classes, Rank, IsLower, ClassesFit, first_of, last_of, SamePair, IsPopped, ranked}
use Rattle.weight_classes.specs.Inside.{rank_in, ranks_in, idss_in, rank_at, bucket_ids, held_by, held_in, shown_by, AreRoomy, AreEmpty, IsIndexed, IsNextBucket}
use Rattle.weight_classes.specs.Choice.{IsWonAt, pair_place, EndsAreVertices, IsChosen}
use Rattle.weight_classes.proofs.Rows.{same_pair, in_order, place_below, one_place}
use Rattle.weight_classes.proofs.Held.{same_rank, held_where, held_less, held_there, held_none, some_id, IsIn}
use Rattle.weight_classes.proofs.Holding.{roomy_set}
use Rattle.weight_classes.specs.Ids.{ids_in, need_of}

lower_or_more : (r s : Rank) → r ≢ s → (IsLower s r → ⊥) → IsLower r s
lower_or_more r s apart not_lower = elim (cases_lt r.weight s.weight) [
  | inl less ↦ inl less
  | inr upto ↦ elim (cases_lt s.weight r.weight) [
    | inl more ↦ absurd (not_lower (inl more))
    | inr least ↦
        let w : r.weight ≡ s.weight = omega arith in
        elim (cases_lt r.hops s.hops) [
          | inl less ↦ inr (w, less)
          | inr upto_h ↦ elim (cases_lt s.hops r.hops) [
            | inl more ↦ absurd (not_lower (inr (sym w, more)))
            | inr least_h ↦ absurd (apart (same_rank r s w (omega (arith, upto_h, least_h))))
          ]
        ]
  ]
]

-- ---- pairs that are won

-- a pair that is won stands in a row
won_inside : (won : List Bool) (k : ℕ) → IsWonAt won k → k < length won
won_inside won k h =
    elim (cases_lt k (length won)) [
      | inl inside ↦ inside
      | inr past ↦
          absurd (false≢true (sym (get_or_past won k false past) ∙ h))
    ]

pub none_won : (won : List Bool) (n : ℕ) → won ≡ replicate n false → (k : ℕ) → IsWonAt won k → ⊥
none_won won n is k h =
    let now : IsWonAt (replicate n false) k = subst (λ ws. IsWonAt ws k) is h in
    elim (cases_lt k n) [
      | inl inside ↦ false≢true (sym (get_or-replicate n k false false inside) ∙ now)
      | inr past ↦ false≢true (sym (get_or_past (replicate n false) k false
          (omega (arith, past, length-replicate n false))) ∙ now)
    ]

pub filled_unwon : (won : List Bool) → ((k : ℕ) → k < length won → slice_index_or won k false ≡ false) → (k : ℕ)
    → IsWonAt won k → ⊥
filled_unwon won none k h = false≢true (sym (none k (won_inside won k h)) ∙ h)

-- ---- the class

module _ (a : Arena) (rs : List Rank) (idss : List (List ℕ)) (at : ℕ) (won marks : List Bool) (winners : List ℕ)
    (last : ℕ)
    (many : length idss ≡ length rs)
    (once : (i j : ℕ) → i < length rs → j < length rs → rank_at rs i ≡ rank_at rs j → i ≡ j)
    (inside : at < length rs)
    (some : 0 < length (bucket_ids idss at))
    (least : (j : ℕ) → j < length rs → 0 < length (bucket_ids idss j) → IsLower (rank_at rs j) (rank_at rs at) → ⊥)
    (chosen : IsChosen a (Contains (bucket_ids idss at)) won marks winners last)
    (ends : (q : ℕ) → Contains (bucket_ids idss at) q → EndsAreVertices a q)
    (pairs : length won ≡ a.vertices * a.vertices) where
  above : (r : Rank) (id : ℕ) → Contains (held_by rs (slice_set idss at [])) (r, id) → IsLower (rank_at rs at) r
  above r id c =
      let h : IsIn rs (slice_set idss at []) r id = held_where rs (slice_set idss at []) r id c in
      let apart : h.i ≢ at =
      λ same. let l : 0 < length (bucket_ids (slice_set idss at []) h.i) = some_id
      (bucket_ids (slice_set idss at []) h.i) id h.held in
      omega (
        arith,
        l,
        ap length (ap (bucket_ids (slice_set idss at [])) same
            ∙ get_or-set_same idss at [] [] (omega (arith, inside, many))),
      ) in
      let there : 0 < length (bucket_ids idss h.i) =
      omega (
        arith,
        some_id (bucket_ids (slice_set idss at []) h.i) id h.held,
        ap length
            (get_or-set_other idss at h.i [] [] apart),
      ) in
      subst (IsLower (rank_at rs at)) h.rank
      (lower_or_more (rank_at rs at) (rank_at rs h.i) (λ same. apart (sym (once at h.i inside h.inside same)))
      (least h.i h.inside there))

  place_same : (q w : ℕ) → SamePair a q w → pair_place a q ≡ pair_place a w
  place_same q w same = ap (λ z. z * a.vertices + last_of a q) same.0 ∙ ap (λ z. first_of a w * a.vertices + z) same.1

  pub popped : IsPopped (record { vertices = a.vertices; held = held_by rs idss; won = won })
      (record { vertices = a.vertices; held = held_by rs (slice_set idss at []); won = marks }) a (rank_at rs at)
      winners
  popped = record {
    class = bucket_ids idss at;
    some = some;
    held = held_less rs idss at inside many;
    above = above;
    are_winners = record {
      taken = chosen.seen;
      fresh = λ w c before. chosen.fresh w c before;
      least = λ w q c held same below. chosen.least w q c held (place_same q w same) below;
      each = λ q held. elim (chosen.each q held) [
        | inl before ↦ inl before
        | inr w ↦ inr (w.0, w.1, same_pair a w.0 q (ends w.0 (chosen.seen w.0 w.1)) (ends q held) w.2)
      ];
      in_order = in_order a winners (λ q c. ends q (chosen.seen q c)) chosen.rising;
    };
    vertices = refl;
    won = λ x y x_in y_in.
        let k_in : x * a.vertices + y < length won = omega (arith, pairs, place_below a.vertices x y x_in y_in) in (
          λ now. elim ((chosen.marked (x * a.vertices + y) k_in).0 now) [
            | inl old ↦ inl old
            | inr w ↦
                let e : EndsAreVertices a w.0 = ends w.0 (chosen.seen w.0 w.1) in
                let one : (first_of a w.0 ≡ x) × (last_of a w.0 ≡ y) =
                one_place a.vertices (first_of a w.0) (last_of a w.0) x y e.1 y_in w.2 in
                inr (w.0, w.1, one.0, one.1)
          ],
          λ h. (chosen.marked (x * a.vertices + y) k_in).1 (elim h [
            | inl old ↦ inl old
            | inr w ↦ inr (w.0, w.1, ap (λ z. z * a.vertices + last_of a w.0) w.2 ∙ ap (λ z. x * a.vertices + z) w.3)
          ]),
        );
  }

-- ---- from the fields

pub none_held : (h : Classes) (n : ℕ) (bs : List Bucket) (won : List Bool) → ◌≡◌ {A = Classes} (shown_by n bs won) h
    → AreEmpty bs → h.held ≡ []
none_held h n bs won is none = sym (ap (λ (c : Classes). c.held) is) ∙ held_none (ranks_in bs) (idss_in bs) none

module _ (a : Arena) (n : ℕ) (bs : List Bucket) (won : List Bool) (fits : ClassesFit (shown_by n bs won) a) where
  as_many : length (idss_in bs) ≡ length (ranks_in bs)
  as_many = length-map bs (λ (c : Bucket). ids_in c.ids) ∙ sym (length-map bs rank_in)

  module _ (at : ℕ) (inside : at < length bs) (ids : List ℕ) (are : ids ≡ bucket_ids (idss_in bs) at) where
    at_in : at < length (ranks_in bs)
    at_in = omega (arith, inside, length-map bs rank_in)

    -- the ids of a bucket are live
    pub bucket_live : (q : ℕ) → Contains ids q → IsLive a q
    bucket_live q c =
        fits.live (rank_at (ranks_in bs) at) q
        (held_there (ranks_in bs) (idss_in bs) at at_in as_many q (subst (λ js. Contains js q) are c))

    module _ (after : List Bucket) (ranks : ranks_in after ≡ ranks_in bs)
        (idss : idss_in after ≡ slice_set (idss_in bs) at []) where
      held_after : held_in after ≡ held_by (ranks_in bs) (slice_set (idss_in bs) at [])
      held_after = ap (λ (rs : List Rank). held_by rs (idss_in after)) ranks ∙ ap (held_by (ranks_in bs)) idss

      still_there : (r : Rank) (q : ℕ) → Contains (held_in after) (r, q) → Contains (held_in bs) (r, q)
      still_there r q c =
          let r_at : Rank = rank_at (ranks_in bs) at in
          let class : List (Rank × ℕ) = ranked r_at (bucket_ids (idss_in bs) at) in
          let rest : List (Rank × ℕ) = held_by (ranks_in bs) (slice_set (idss_in bs) at []) in
          Contains-permutation (class ++ rest) (held_in bs) (r, q)
          (IsPermutation-sym (held_in bs) (class ++ rest) (held_less (ranks_in bs) (idss_in bs) at at_in as_many))
          (Contains-append_right class rest (r, q) (subst (λ (hs : List (Rank × ℕ)). Contains hs (r, q)) held_after c))

      pub fits_after : (marks : List Bool) → ClassesFit (shown_by n after marks) a
      fits_after marks = record {
        vertices = fits.vertices;
        live = λ r q c. fits.live r q (still_there r q c);
        ranks = λ r q c. fits.ranks r q (still_there r q c);
      }

      pub popped_at : (r : Rank) → rank_at (ranks_in bs) at ≡ r → (marks : List Bool) (winners : List ℕ) (last : ℕ)
          → IsChosen a (Contains ids) won marks winners last → ((q : ℕ) → Contains ids q → EndsAreVertices a q)
          → length won ≡ n * n → (heads : List ℕ) → IsIndexed heads bs → IsNextBucket bs at
          → IsPopped (shown_by n bs won) (shown_by n after marks) a r winners
      popped_at r rank marks winners last chosen ends pairs heads indexed next =
          let count : a.vertices ≡ n = fits.vertices in
          let rs : List Rank = ranks_in bs in
          let taken : IsPopped (record { vertices = a.vertices; held = held_by rs (idss_in bs); won = won })
          (record { vertices = a.vertices; held = held_by rs (slice_set (idss_in bs) at []); won = marks }) a
          (rank_at rs at) winners =
          popped a rs (idss_in bs) at won marks winners last as_many indexed.once at_in next.some
          (λ j j_in some. next.least j (omega (arith, j_in, length-map bs rank_in)) some)
          (subst (λ (js : List ℕ). IsChosen a (Contains js) won marks winners last) are chosen)
          (subst (λ (js : List ℕ). (q : ℕ) → Contains js q → EndsAreVertices a q) are ends)
          (pairs ∙ ap (λ k. k * k) (sym count)) in
          subst (λ (k : Rank). IsPopped (shown_by n bs won) (shown_by n after marks) a k winners) rank
          (subst (λ (hs : List (Rank × ℕ)). IsPopped (shown_by n bs won)
          (record { vertices = n; held = hs; won = marks }) a (rank_at rs at) winners) (sym held_after)
          (subst (λ (k : ℕ). IsPopped (record { vertices = k; held = held_in bs; won = won })
          (record { vertices = k; held = held_by rs (slice_set (idss_in bs) at []); won = marks }) a (rank_at rs at)
          winners) count taken))

-- what is taken from a bucket needs no room
pub roomy_taken : (bs : List Bucket) (at : ℕ) (b d : Bucket) → at < length bs → b ≡ get_or bs at b → d.ids ≡ Empty
    → (most : ℕ) → AreRoomy most bs → AreRoomy most (slice_set bs at d)
roomy_taken bs at b d inside here none most room =
    roomy_set bs at b d inside here most most room (omega arith) (omega (arith, ap need_of none))
