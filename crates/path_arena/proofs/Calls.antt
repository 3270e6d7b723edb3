-- The calls that change an arena, as contracts see it before and after.
use Rattle.std.specs.Prelude.{◌≡◌, ◌≢◌, ℕ, zero, suc, ◌+◌, ◌-◌, ◌^◌, ◌<◌, ◌≤◌, ◌⊎◌, List, [], ◌∷◌, ◌++◌, length, Option, Some, None, unwrap_or, Result, IfOk, OnErr, slice_index, refl}
use Rattle.std.proofs.Common.{sym, ◌∙◌, ap, subst, arith, inl, inr}
use Rattle.std.proofs.lemmas.Bool.{cases_eq, cases_lt}
use Rattle.std.proofs.lemmas.List.{length-append, get_or_append_left}
use Rattle.std.proofs.Math.Seq.{get_or-append_seam}
use Rattle.apsp_model.specs.declared.TheConstants.{MOST_VERTICES, MOST_WEIGHT}
use Rattle.apsp_model.specs.Walk.{last}
use Rattle.apsp_model.proofs.Members.{in_cons as contains_cons, in_nil as contains_nil}
use Rattle.path_arena.specs.Arena.{Path, Arena, path_at, vertex_of, IsLive, path_of, weight_of_id, HasAnEdge, single, edge_path, overlap_of, joined_path, with_path, without_path, second, IsPartOfNone, CanJoin, IsPath, IsArena, IsOpening}
use Rattle.path_arena.specs.Records.{slot_at, record_at, list_under, part_id, path_from, arena_in, view_of, IsRecordOf, AreRecordsOfLists, IsSound, IsPut, IsTaken, IsSingleRecord}
use Rattle.path_arena.specs.declared.arena.Record.{Record}
use Rattle.path_arena.specs.declared.arena.Arena.TheInside.{Inside}
use Rattle.path_arena.proofs.Paths.{live_from_edge, parted, Parted, Meeting, meeting}
use Rattle.path_arena.proofs.Stores.{slot_of_live, path_of_slot, record_of_slot, arena_taken, kept_taken}
use Rattle.path_arena.proofs.Puts.{AfterPut, after_edge, IsEdgeRecord, after_join, IsJoinRecord, length_most, weight_most}

-- the arena m was changed by putting in p, or where there was no memory it stays
pub record Added {E : Type 0} (singles : List ℕ) (new : List (Option Record)) (m : Arena) (p : Path) (o : Result ℕ E)
    : Type 0 where
  pub kept : AreRecordsOfLists singles new
  pub fresh : IfOk o (λ id. path_at m id ≡ None)
  pub added : IfOk o (λ id. arena_in singles new ≡ with_path m id p)
  pub memory : OnErr o (arena_in singles new ≡ m)

from_put : {E : Type 0} (singles : List ℕ) (old new : List (Option Record)) (p : Path) (o : Result ℕ E)
    → AfterPut singles old new p o → Added singles new (arena_in singles old) p o
from_put singles old new p o h = record { kept = h.kept; fresh = h.fresh; added = h.added; memory = h.memory }

pub edge_added : {E : Type 0} (a : Inside) (m : Arena) → view_of a ≡ m → IsSound a
    → (new : List (Option Record)) (u v w birth : ℕ) (r : Record) → u < m.vertices → v < m.vertices → u ≢ v
    → w ≤ MOST_WEIGHT → IsEdgeRecord m u v w birth r → (o : Result ℕ E)
    → IfOk o (λ key. IsPut a.records.slots new key r) → OnErr o (new ≡ a.records.slots)
    → Added a.singles.items new m (edge_path m u v w birth) o
edge_added {E} a m e sound new u v w birth r from to apart most is o ok same =
    let F : Arena → Type 0 =
    λ n. u < n.vertices → v < n.vertices → IsEdgeRecord n u v w birth r
    → Added a.singles.items new n (edge_path n u v w birth) o in
    subst F e (λ from to is. from_put a.singles.items a.records.slots new (edge_path (view_of a) u v w birth) o
    (after_edge a.singles.items a.records.slots new sound u v w birth r from to apart most is o ok same)) from to is

pub join_added : {E : Type 0} (a : Inside) (m : Arena) → view_of a ≡ m → IsSound a
    → (new : List (Option Record)) (l r birth : ℕ) (q : Record) → CanJoin m l r
    → IsJoinRecord m l r (joined_path m l r birth).weight birth q → (o : Result ℕ E)
    → IfOk o (λ key. IsPut a.records.slots new key q) → OnErr o (new ≡ a.records.slots)
    → Added a.singles.items new m (joined_path m l r birth) o
join_added a m e sound new l r birth q can is o ok same =
    let F : Arena → Type 0 =
    λ n. CanJoin n l r → IsJoinRecord n l r (joined_path n l r birth).weight birth q
    → Added a.singles.items new n (joined_path n l r birth) o in
    subst F e (λ can is. from_put a.singles.items a.records.slots new (joined_path (view_of a) l r birth) o
    (after_join a.singles.items a.records.slots new sound l r birth q can is o ok same)) can is

pub record Removed (singles : List ℕ) (new : List (Option Record)) (m : Arena) (id : ℕ) : Type 0 where
  pub kept : AreRecordsOfLists singles new
  pub removed : arena_in singles new ≡ without_path m id

pub path_removed : (a : Inside) (m : Arena) → view_of a ≡ m → IsSound a → (new : List (Option Record)) (id : ℕ)
    → HasAnEdge m id → IsPartOfNone m id → IsTaken a.records.slots new id → Removed a.singles.items new m id
path_removed a m e sound new id edge free taken =
    let F : Arena → Type 0 = λ n. HasAnEdge n id → IsPartOfNone n id → Removed a.singles.items new n id in
    subst F e (λ edge free. record {
      kept = kept_taken a.singles.items a.records.slots new id sound taken edge free;
      removed = arena_taken a.singles.items a.records.slots new id sound taken edge free;
    }) edge free

-- ---- what a join reads

-- a record of a path with an edge knows its right part
pub right_of_record : (m : Arena) (id : ℕ) (r : Record) → IsRecordOf (path_of m id) r → (p : Parted m id)
    → p.parts.right ≡ r.right
right_of_record m id r is p = go r.hops refl
  where
    go : (h : ℕ) → r.hops ≡ h → p.parts.right ≡ r.right
    go zero e =
        absurd (let k : 1 < length p.path.list = p.parts.with_edge in
        omega (arith, is.hops, ap (λ q. length q.list) p.of))
    go (suc h) e =
        let two : Some p.parts.right ≡ Some r.right =
        sym (ap (λ q. q.right) p.of ∙ p.parts.right_is) ∙ is.right ∙ ap (λ k. part_id k r.right) e in
        cc

pub right_is_live : (m : Arena) (l r : ℕ) → IsArena m → CanJoin m l r → (left : Record) → IsRecordOf (path_of m l) left
    → IsLive m left.right
right_is_live m l r h can left is =
    let p : Parted m l = parted m l h can.left_live in
    let F : ℕ → Type 0 = λ k. IsLive m k in
    subst F (right_of_record m l left is p) p.parts.right_live

pub record JoinFacts (m : Arena) (l r birth : ℕ) (left right overlap : Record) : Type 0 where
  pub lighter : overlap.weight ≤ right.weight
  pub weight_fits : left.weight + (right.weight - overlap.weight) < 2 ^ 64
  pub hops_fit : left.hops + 1 < 2 ^ 16
  pub is : (q : Record) → q ≡ record {
    weight = left.weight + (right.weight - overlap.weight);
    first = left.first;
    second = left.second;
    last = right.last;
    hops = left.hops + 1;
    left = l;
    right = r;
    birth = birth;
  }
      → IsJoinRecord m l r (joined_path m l r birth).weight birth q

pub join_facts : (m : Arena) (l r birth : ℕ) → IsArena m → CanJoin m l r → (left right overlap : Record)
    → IsRecordOf (path_of m l) left → IsRecordOf (path_of m r) right → IsRecordOf (path_of m left.right) overlap
    → JoinFacts m l r birth left right overlap
join_facts m l r birth h can left right overlap left_is right_is overlap_is = record {
  lighter = lighter;
  weight_fits =
      (let wl = weight_most m l h (live_from_edge m l h can.left_live) in
      let wr = weight_most m r h (live_from_edge m r h can.right_live) in
      omega (arith, wl, wr, left_is.weight, right_is.weight));
  hops_fit = (let most = length_most m l h (live_from_edge m l h can.left_live) in omega (arith, most, left_is.hops));
  is = λ q e. subst (IsJoinRecord m l r (joined_path m l r birth).weight birth) (sym e) (record {
    weight_is =
        (let total : left.weight + (right.weight - overlap.weight) ≡ weight_of_id m l + weight_of_id m r - weight_of_id
        m (overlap_of m l) = omega (arith, lighter, left_is.weight, right_is.weight, middle_weight) in total);
    birth_is = refl;
    first = left_is.first;
    second = left_is.second;
    last = right_is.last;
    hops = left_is.hops;
    left = refl;
    right = refl;
  });
}
  where
    met : Meeting m l r
    met = meeting m l r h can

    middle : left.right ≡ met.middle
    middle =
        let p : Parted m l = met.left in
        let ids : p.parts.right ≡ met.middle =
        (let two : Some p.parts.right ≡ Some met.middle = sym (ap (λ q. q.right) p.of ∙ p.parts.right_is)
        ∙ met.middle_right in cc) in
        sym (right_of_record m l left left_is p) ∙ ids

    middle_weight : weight_of_id m (overlap_of m l) ≡ overlap.weight
    middle_weight = ap (weight_of_id m) (ap (λ o. unwrap_or o 0) met.middle_right ∙ sym middle) ∙ overlap_is.weight

    lighter : overlap.weight ≤ right.weight
    lighter =
        let p : Parted m r = met.right in
        let ids : p.parts.left ≡ met.middle =
        (let two : Some p.parts.left ≡ Some met.middle = sym (ap (λ q. q.left) p.of ∙ p.parts.left_is)
        ∙ met.middle_left in cc) in
        let k : weight_of_id m p.parts.left ≤ p.path.weight = p.parts.left_lighter in
        let same : weight_of_id m p.parts.left ≡ overlap.weight =
        ap (weight_of_id m) (ids ∙ sym middle) ∙ overlap_is.weight in
        omega (arith, right_is.weight, ap (λ q. q.weight) p.of)

-- ---- the opening

-- the slots hold the single vertices below v under these ids, and nothing else
pub record IsFilled (singles : List ℕ) (slots : List (Option Record)) (v : ℕ) : Type 0 where
  pub as_many : length singles ≡ v
  pub there : (u : ℕ) → u < v → (r : Record) × (slot_at slots (slice_index singles u) ≡ Some r) × IsSingleRecord u r
  pub only : (key : ℕ) (r : Record) → slot_at slots key ≡ Some r → (u : ℕ) × (u < v) × (key ≡ slice_index singles u)
      × IsSingleRecord u r

pub filled_none : (singles : List ℕ) (slots : List (Option Record)) → singles ≡ [] → slots ≡ []
    → IsFilled singles slots 0
filled_none singles slots e f = record {
  as_many = ap length e;
  there = λ u l. absurd (omega arith);
  only = λ key r there. absurd (let gone : slot_at slots key ≡ None = ap (λ s. slot_at s key) f in
      let two : None ≡ Some r = sym gone ∙ there in cc);
}

pub filled_more : (singles more : List ℕ) (old new : List (Option Record)) (v id : ℕ) (r : Record)
    → IsFilled singles old v → IsSingleRecord v r → IsPut old new id r → more ≡ singles ++ id ∷ []
    → IsFilled more new (v + 1)
filled_more singles more old new v id r h is put longer = record {
  as_many = omega (arith, ap length longer, length-append singles (id ∷ []), h.as_many);
  there = λ u l. there u l (cases_lt u v);
  only = λ key q e. only key q e (cases_eq key id);
}
  where
    before : (u : ℕ) → u < v → slice_index more u ≡ slice_index singles u
    before u l =
        ap (λ xs. slice_index xs u) longer ∙ get_or_append_left singles (id ∷ []) 0 u (omega (arith, h.as_many))

    at_end : slice_index more v ≡ id
    at_end = ap (λ xs. slice_index xs v) longer ∙ ap (λ k. slice_index (singles ++ id ∷ []) k) (sym h.as_many)
        ∙ get_or-append_seam singles id [] 0

    there : (u : ℕ) → u < v + 1 → (u < v) ⊎ (v ≤ u) → (q : Record) × (slot_at new (slice_index more u) ≡ Some q)
        × IsSingleRecord u q
    there u l (inl less) =
        let old_one = h.there u less in
        let apart : slice_index singles u ≢ id =
        λ same. (let none : slot_at old (slice_index singles u) ≡ None = ap (slot_at old) same ∙ put.was in
        let two : None ≡ Some old_one.0 = sym none ∙ old_one.1 in cc) in
        (old_one.0, ap (slot_at new) (before u less) ∙ put.others (slice_index singles u) apart ∙ old_one.1, old_one.2)
    there u l (inr more_than) =
        let same : u ≡ v = omega arith in (
          r,
          ap (λ k. slot_at new (slice_index more k)) same ∙ ap (slot_at new) at_end
              ∙ put.here,
          subst (λ k. IsSingleRecord k r) (sym same) is,
        )

    only : (key : ℕ) (q : Record) → slot_at new key ≡ Some q → (key ≡ id) ⊎ (key ≢ id) → (u : ℕ) × (u < v + 1)
        × (key ≡ slice_index more u) × IsSingleRecord u q
    only key q e (inl same) =
        let two : Some r ≡ Some q = sym put.here ∙ ap (slot_at new) (sym same) ∙ e in
        let one : r ≡ q = cc in
        (v, omega arith, same ∙ sym at_end, subst (IsSingleRecord v) one is)
    only key q e (inr apart) =
        let old_one = h.only key q (sym (put.others key apart) ∙ e) in (
          old_one.0,
          (let l : old_one.0 < v = old_one.1 in omega arith),
          old_one.2
              ∙ sym (before old_one.0 old_one.1),
          old_one.3,
        )

single_path : (slots : List (Option Record)) (key v : ℕ) (r : Record) → slot_at slots key ≡ Some r → IsSingleRecord v r
    → path_from slots key r ≡ single v
single_path slots key v r there is =
    let here : (record_at slots key).first ≡ v = ap (λ q. q.first) (record_of_slot slots key r there) ∙ is.first in
    let lists : list_under slots r.hops key ≡ v ∷ [] =
    ap (λ h. list_under slots h key) is.hops ∙ ap (λ x. x ∷ []) here in
    λ i. record {
      list = lists i;
      weight = is.weight i;
      birth = is.birth i;
      left = part_id (is.hops i) r.left;
      right
          = part_id (is.hops i) r.right;
    }

pub record Opened (singles : List ℕ) (slots : List (Option Record)) (n : ℕ) : Type 0 where
  pub kept : AreRecordsOfLists singles slots
  pub opening : IsOpening (arena_in singles slots) n

pub filled_all : (singles : List ℕ) (slots : List (Option Record)) (n : ℕ) → 1 ≤ n → n ≤ MOST_VERTICES
    → IsFilled singles slots n → Opened singles slots n
filled_all singles slots n some most h = record {
  kept = record {
    arena = record {
      some = omega (arith, h.as_many);
      most = omega (arith, h.as_many);
      as_many = refl;
      singles =
          λ v l. (let one = h.there v (omega (arith, h.as_many)) in
          path_of_slot singles slots (vertex_of a v) one.0 one.1
          ∙ ap Some (single_path slots (vertex_of a v) v one.0 one.1 one.2));
      paths = λ id p e. (
          let r = slot_of_live singles slots id (rw e refl) in
          let one = h.only id r.0 r.1 in
          let is : path_from slots id r.0 ≡ single one.0 = single_path slots id one.0 r.0 r.1 one.3 in
          let two : Some (path_from slots id r.0) ≡ Some p = sym (path_of_slot singles slots id r.0 r.1) ∙ e in
          let p_is : single one.0 ≡ p = sym is ∙ (cc) in
          subst (IsPath a id) p_is (path_is id one.0 (let l : one.0 < n = one.1 in omega (arith, h.as_many)) one.2)
          );
    };
    second = λ key r e. (
        let one = h.only key r e in
        ap (λ p. second p.list) (single_path slots key one.0 r e one.3) ∙ ap Some (sym one.3.second)
        );
    last = λ key r e. (
        let one = h.only key r e in
        ap (λ p. last p.list) (single_path slots key one.0 r e one.3) ∙ ap Some (sym one.3.last)
        );
  };
  opening = record {
    vertices = h.as_many;
    live = λ id live. (let r = slot_of_live singles slots id live in let one = h.only id r.0 r.1 in
        (one.0, one.1, one.2));
  };
}
  where
    a : Arena
    a = arena_in singles slots

    path_is : (id v : ℕ) → v < length singles → id ≡ vertex_of a v → IsPath a id (single v)
    path_is id v l e = record {
      inside = λ x c. elim (contains_cons x v [] c)
          [ inl same ↦ subst (λ y. y < length singles) same l | inr none ↦ absurd (contains_nil x none) ];
      simple = (λ c. contains_nil v c, tt);
      weight = omega arith;
      kind = inl (v, l, e, refl);
    }
