-- For hold and push: one bucket has other ids.
use Rattle.std.specs.Prelude.{◌≡◌, ℕ, ◌<◌, ◌≤◌, true, Bool, List, [], ◌∷◌, ◌++◌, length, slice_set, is_ok, Result, Ok, Err, OnOk, OnErr, refl}
use Rattle.std.specs.List.Sorted.{IsPermutation}
use Rattle.std.proofs.Common.{sym, ◌∙◌, ap, subst, arith, inl, inr, get_or}
use Rattle.std.proofs.lemmas.Bool.{cases_eq, false≢true}
use Rattle.std.proofs.lemmas.List.{length-map, map-append, get_or-set_same, get_or-set_other}
use Rattle.std.proofs.lemmas.List.Sorted.{IsPermutation-sym, Contains-permutation}
use Rattle.weight_classes.specs.declared.buckets.Bucket.{Bucket}
use Rattle.weight_classes.specs.declared.ids.Ids.{Ids}
use Rattle.weight_classes.specs.declared.ids.Ids.TheVariants.{Empty}
use Rattle.path_arena.specs.Arena.{Arena}
use Rattle.weight_classes.specs.Classes.{Classes, Rank, IsPushed, rank_of}
use Rattle.weight_classes.specs.Inside.{rank_in, ranks_in, nexts_in, idss_in, needs_in, need_at, rank_at, bucket_ids, turn_of, AreTurns, AreRoomy, AreIndexed, IsIndexed, IsQueue, IsBucketAdded, held_by, held_in}
use Rattle.weight_classes.proofs.Held.{in_cons, head_there, tail_there, ranks_same, nexts_same, idss_now, needs_now, ids_is, need_more, held_same, held_more}
use Rattle.weight_classes.proofs.Chains.{rank_is}
use Rattle.weight_classes.specs.declared.turns.Turn.{Turn}
use Rattle.weight_classes.specs.Turns.{AreInOrder}
use Rattle.weight_classes.proofs.Waiting.{turns_more, turns_bucket}
use Rattle.weight_classes.specs.Ids.{ids_in, need_of}

pub ok_then : {A E P : Type 0} (r : Result A E) → is_ok r ≡ true → OnOk r P → P
ok_then (Ok a) ok p = p
ok_then (Err e) ok p = absurd (false≢true ok)

turns_pushed : (turns : List Turn) (rs : List Rank) (idss : List (List ℕ)) (at : ℕ) → AreTurns turns rs idss
    → at < length rs → (now : List Turn) → IsPermutation (turn_of (rank_at rs at) at ∷ turns) now → AreInOrder now
    → (ids : List ℕ) → AreTurns now rs (slice_set idss at ids)
turns_pushed turns rs idss at s inside now moved order ids =
    let t : Turn = turn_of (rank_at rs at) at in
    turns_more turns rs idss at s inside now order
    (λ u c. elim (in_cons t turns u (Contains-permutation now (t ∷ turns) u (IsPermutation-sym (t ∷ turns) now moved)
    c)) [ inl same ↦ inr (sym same) | inr old ↦ inl old ])
    (λ u c. Contains-permutation (t ∷ turns) now u moved (tail_there t turns u c))
    (Contains-permutation (t ∷ turns) now t moved (head_there t turns)) ids

turns_kept : (turns : List Turn) (rs : List Rank) (idss : List (List ℕ)) (at : ℕ) → AreTurns turns rs idss
    → at < length rs → 0 < length (bucket_ids idss at) → (ids : List ℕ) → AreTurns turns rs (slice_set idss at ids)
turns_kept turns rs idss at s inside some ids =
    turns_more turns rs idss at s inside turns s.ordered (λ u c. inl c) (λ u c. c) (s.each at inside some) ids

module _ (bs : List Bucket) (i : ℕ) (b d : Bucket) (inside : i < length bs) (at : b ≡ get_or bs i b)
    (same : rank_in d ≡ rank_in b) where
  pub indexed_same : d.next ≡ b.next → (heads : List ℕ) → IsIndexed heads bs → IsIndexed heads (slice_set bs i d)
  indexed_same next heads s =
      subst (λ (rs : List Rank). AreIndexed (length heads) heads rs (nexts_in (slice_set bs i d)))
      (sym (ranks_same bs i b d inside at same))
      (subst (λ (ns : List ℕ). AreIndexed (length heads) heads (ranks_in bs) ns)
      (sym (nexts_same bs i b d inside at next)) s)

  queue_by : (turns : List Turn) → AreTurns turns (ranks_in bs) (slice_set (idss_in bs) i (ids_in d.ids))
      → IsQueue turns (slice_set bs i d)
  queue_by turns s =
      subst (λ (rs : List Rank). AreTurns turns rs (idss_in (slice_set bs i d)))
      (sym (ranks_same bs i b d inside at same))
      (subst (λ (idss : List (List ℕ)). AreTurns turns (ranks_in bs) idss) (sym (idss_now bs i b d inside at)) s)

  inside_ranks : i < length (ranks_in bs)
  inside_ranks = omega (arith, inside, length-map bs rank_in)

  pub queue_pushed : (turns now : List Turn) → IsQueue turns bs → IsPermutation (turn_of (rank_in b) i ∷ turns) now
      → AreInOrder now → IsQueue now (slice_set bs i d)
  queue_pushed turns now s moved order =
      queue_by now (turns_pushed turns (ranks_in bs) (idss_in bs) i s inside_ranks now
      (subst (λ (r : Rank). IsPermutation (turn_of r i ∷ turns) now) (sym (rank_is bs i b inside at)) moved) order
      (ids_in d.ids))

  pub queue_kept : (turns : List Turn) → IsQueue turns bs → 0 < length (ids_in b.ids) → IsQueue turns (slice_set bs i d)
  queue_kept turns s some =
      queue_by turns (turns_kept turns (ranks_in bs) (idss_in bs) i s inside_ranks
      (omega (arith, some, ap length (ids_is bs i b d inside at))) (ids_in d.ids))

module _ (bs : List Bucket) (i : ℕ) (b d : Bucket) (inside : i < length bs) (at : b ≡ get_or bs i b) where
  pub roomy_set : (most now : ℕ) → AreRoomy most bs → most ≤ now → need_of d.ids ≤ now → AreRoomy now (slice_set bs i d)
  roomy_set most now room upto few k = elim (cases_eq k i) [
    | inl here ↦ omega (
      arith,
      few,
      ap (λ (ns : List ℕ). need_at ns k) (needs_now bs i d)
          ∙ ap (need_at (slice_set (needs_in bs) i (need_of d.ids))) here
          ∙ get_or-set_same (needs_in bs) i (need_of d.ids) 0
          (omega (arith, inside, length-map bs (λ (c : Bucket). need_of c.ids))),
    )
    | inr apart ↦ omega (
      arith,
      room k,
      upto,
      ap (λ (ns : List ℕ). need_at ns k) (needs_now bs i d)
          ∙ get_or-set_other (needs_in bs) i k (need_of d.ids) 0 apart,
    )
  ]

  -- the id stands behind those of the bucket
  pub idss_pushed : (id : ℕ) → (ids_in d.ids) ≡ (ids_in b.ids) ++ id ∷ []
      → idss_in (slice_set bs i d) ≡ slice_set (idss_in bs) i (bucket_ids (idss_in bs) i ++ id ∷ [])
  idss_pushed id is =
      idss_now bs i b d inside at ∙ ap (slice_set (idss_in bs) i)
      (is ∙ ap (λ (js : List ℕ). js ++ id ∷ []) (sym (ids_is bs i b d inside at)))

-- ---- an empty bucket more

module _ (old new : List Bucket) (added : IsBucketAdded old new) where
  as_many : (bs : List Bucket) → length (idss_in bs) ≡ length (ranks_in bs)
  as_many bs = length-map bs (λ (c : Bucket). ids_in c.ids) ∙ sym (length-map bs rank_in)

  ranks_grown : (b : Bucket) → ranks_in (old ++ b ∷ []) ≡ ranks_in old ++ rank_in b ∷ []
  ranks_grown b = map-append rank_in old (b ∷ [])

  idss_grown : (b : Bucket) → b.ids ≡ Empty → idss_in (old ++ b ∷ []) ≡ idss_in old ++ [] ∷ []
  idss_grown b none =
      map-append (λ (c : Bucket). ids_in c.ids) old (b ∷ []) ∙ ap (λ (ids : Ids). idss_in old ++ ids_in ids ∷ []) none

  pub added_held : held_in new ≡ held_in old
  added_held = elim added [
    | inl same ↦ ap held_in same
    | inr more ↦ ap held_in more.3 ∙ ap (λ (rs : List Rank). held_by rs (idss_in (old ++ more.0 ∷ [])))
        (ranks_grown more.0) ∙ ap (held_by (ranks_in old ++ rank_in more.0 ∷ [])) (idss_grown more.0 more.1)
        ∙ held_same (ranks_in old) (idss_in old) (rank_in more.0) (as_many old)
  ]

  needs_grown : (b : Bucket) → b.ids ≡ Empty → needs_in (old ++ b ∷ []) ≡ needs_in old ++ 0 ∷ []
  needs_grown b none =
      map-append (λ (c : Bucket). need_of c.ids) old (b ∷ [])
      ∙ ap (λ (ids : Ids). needs_in old ++ need_of ids ∷ []) none

  pub added_queue : (turns : List Turn) → IsQueue turns old → IsQueue turns new
  added_queue turns s = elim added [
    | inl same ↦ subst (IsQueue turns) (sym same) s
    | inr more ↦
        subst (IsQueue turns) (sym more.3)
        (subst (λ (rs : List Rank). AreTurns turns rs (idss_in (old ++ more.0 ∷ []))) (sym (ranks_grown more.0))
        (subst (λ (idss : List (List ℕ)). AreTurns turns (ranks_in old ++ rank_in more.0 ∷ []) idss)
        (sym (idss_grown more.0 more.1))
        (turns_bucket turns (ranks_in old) (idss_in old) (rank_in more.0) more.2 s)))
  ]

  pub added_roomy : (most : ℕ) → AreRoomy most old → AreRoomy most new
  added_roomy most room = elim added [
    | inl same ↦ subst (AreRoomy most) (sym same) room
    | inr more ↦ subst (AreRoomy most) (sym more.3)
        (λ i. omega (
          arith,
          room i,
          ap (λ (ns : List ℕ). need_at ns i) (needs_grown more.0 more.1)
              ∙ need_more (needs_in old) i,
        ))
  ]

pub both_cases : {A E P Q R : Type 0} (r : Result A E) → (P → R) → (Q → R) → OnOk r P → OnErr r Q → R
both_cases (Ok a) f g p q = f p
both_cases (Err e) f g p q = g q

-- ---- holding one id more

module _ (h : Classes) (a : Arena) (n id : ℕ) (r : Rank) (old made new : List Bucket) (won : List Bool) (at : ℕ)
    (is : ◌≡◌ {A = Classes} (record { vertices = n; held = held_in old; won = won }) h) (added : IsBucketAdded old made)
    (ranks : ranks_in new ≡ ranks_in made) where
  -- no id is held more
  pub held_still : idss_in new ≡ idss_in made
      → ◌≡◌ {A = Classes} (record { vertices = n; held = held_in new; won = won }) h
  held_still idss =
      ap (λ (hs : List (Rank × ℕ)). let c : Classes = record { vertices = n; held = hs; won = won } in c)
      (ap (λ (rs : List Rank). held_by rs (idss_in new)) ranks ∙ ap (held_by (ranks_in made)) idss
      ∙ added_held old made added) ∙ is

  pub held_pushed : at < length made → rank_at (ranks_in made) at ≡ r → r ≡ rank_of a id
      → idss_in new ≡ slice_set (idss_in made) at (bucket_ids (idss_in made) at ++ id ∷ [])
      → IsPushed h (record { vertices = n; held = held_in new; won = won }) a id
  held_pushed inside rank of idss =
      subst (λ (c : Classes). IsPushed c (record { vertices = n; held = held_in new; won = won }) a id) is (record {
        held = subst (λ (k : Rank). IsPermutation ((k, id) ∷ held_in old) (held_in new)) (rank ∙ of)
            (subst (λ (hs : List (Rank × ℕ)). IsPermutation ((rank_at (ranks_in made) at, id) ∷ hs) (held_in new))
            (added_held old made added)
            (subst (λ (rs : List Rank). IsPermutation ((rank_at (ranks_in made) at, id) ∷ held_in made)
            (held_by rs (idss_in new))) (sym ranks)
            (subst (λ (js : List (List ℕ)). IsPermutation ((rank_at (ranks_in made) at, id) ∷ held_in made)
            (held_by (ranks_in made) js)) (sym idss)
            (held_more (ranks_in made) (idss_in made) at (omega (arith, inside, length-map made rank_in))
            (as_many old made added made) id))));
        vertices = refl;
        won = refl;
      })
