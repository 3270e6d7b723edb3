-- An arena in which one path with an edge has another birth.
use Rattle.std.specs.Prelude.{◌≡◌, ◌≢◌, ℕ, zero, suc, ◌⊎◌, List, [], ◌∷◌, length, slice_set, Option, Some, None, is_some, unwrap_or, refl}
use Rattle.std.specs.Option.{option_map}
use Rattle.std.specs.FinMap as map
use Rattle.std.proofs.Common.{sym, ◌∙◌, ap, subst, arith, inl, inr}
use Rattle.std.proofs.lemmas.Bool.{cases_eq, cases_lt, false≢true}
use Rattle.std.proofs.lemmas.List.{get_or_past, get_or-set_same}
use Rattle.apsp_model.specs.Walk.{last}
use Rattle.path_arena.specs.Arena.{Path, Arena, path_at, vertex_of, no_path, path_of, list_of, weight_of_id, HasAnEdge, single, with_birth, second, HasParts, IsSingle, IsPath, IsArena}
use Rattle.path_arena.specs.Records.{no_record, slot_at, record_at, list_under, part_id, path_from, paths_in, arena_in, view_of, IsSound, AreRecordsOfLists}
use Rattle.path_arena.specs.declared.arena.Record.{Record}
use Rattle.path_arena.specs.declared.arena.Arena.TheInside.{Inside}
use Rattle.path_arena.proofs.Keys.{get_put, get_put_other, same_put}
use Rattle.path_arena.proofs.Slots.{get-paths_in}
use Rattle.path_arena.proofs.Paths.{live_path, path_of_at, live_from_edge}
use Rattle.path_arena.proofs.Stores.{record_of_slot, path_of_slot}

-- ---- the arena as contracts see it

module _ (a : Arena) (id birth : ℕ) (was : IsArena a) (edge : HasAnEdge a id) where
  abbrev new : Arena
  new = with_birth a id birth

  abbrev born : Path
  born = record (path_of a id) { birth = birth }

  at_id : path_at new id ≡ Some born
  at_id = get_put a.paths id born

  elsewhere : (k : ℕ) → k ≢ id → path_at new k ≡ path_at a k
  elsewhere k apart = get_put_other a.paths id born k apart

  -- all but the birth stays
  pub field_still : {X : Type 0} (f : Path → X) → f born ≡ f (path_of a id) → (k : ℕ)
      → f (path_of new k) ≡ f (path_of a k)
  field_still f same k = elim (cases_eq k id) [
    | inl here ↦ ap (λ j. f (path_of new j)) here ∙ ap (λ o. f (unwrap_or o no_path)) at_id ∙ same
        ∙ sym (ap (λ j. f (path_of a j)) here)
    | inr apart ↦ ap (λ o. f (unwrap_or o no_path)) (elsewhere k apart)
  ]

  pub list_still : (k : ℕ) → list_of new k ≡ list_of a k
  list_still = field_still (λ p. p.list) refl

  pub weight_still : (k : ℕ) → weight_of_id new k ≡ weight_of_id a k
  weight_still = field_still (λ p. p.weight) refl

  pub live_still : (k : ℕ) → is_some (path_at new k) ≡ is_some (path_at a k)
  live_still k = elim (cases_eq k id) [
    | inl here ↦ ap (λ j. is_some (path_at new j)) here ∙ ap is_some at_id
        ∙ sym (ap (λ j. is_some (path_at a j)) here ∙ live_from_edge a id was edge)
    | inr apart ↦ ap is_some (elsewhere k apart)
  ]

  parts_still : (p : Path) (b : ℕ) → HasParts a p → HasParts new (record p { birth = b })
  parts_still p b h = record {
    with_edge = h.with_edge;
    left = h.left;
    right = h.right;
    left_is = h.left_is;
    right_is = h.right_is;
    left_live = live_still h.left ∙ h.left_live;
    right_live = live_still h.right ∙ h.right_live;
    left_list = list_still h.left ∙ h.left_list;
    right_list = list_still h.right ∙ h.right_list;
    left_lighter =
        (let e : weight_of_id new h.left ≡ weight_of_id a h.left = weight_still h.left in
        omega (arith, e, h.left_lighter));
    right_lighter =
        (let e : weight_of_id new h.right ≡ weight_of_id a h.right = weight_still h.right in
        omega (arith, e, h.right_lighter));
    last_edge =
        (let e : weight_of_id new h.left ≡ weight_of_id a h.left = weight_still h.left in
        omega (arith, e, h.last_edge));
  }

  kind_still : (k : ℕ) (p : Path) → IsSingle a k p ⊎ HasParts a p → IsSingle new k p ⊎ HasParts new p
  kind_still k p (inl one) = inl one
  kind_still k p (inr parts) = inr (parts_still p p.birth parts)

  path_still : (k : ℕ) (p : Path) → IsPath a k p → IsPath new k p
  path_still k p h = record { inside = h.inside; simple = h.simple; weight = h.weight; kind = kind_still k p h.kind }

  path_born : IsPath a id (path_of a id) → IsPath new id born
  path_born h = record { inside = h.inside; simple = h.simple; weight = h.weight; kind = at_kind h.kind }
    where
      at_kind : IsSingle a id (path_of a id) ⊎ HasParts a (path_of a id) → IsSingle new id born ⊎ HasParts new born
      at_kind (inl one) = absurd (false≢true (sym (ap (λ q. is_some q.left) one.3) ∙ edge))
      at_kind (inr parts) = inr (parts_still (path_of a id) birth parts)

  pub arena_born : IsArena new
  arena_born = record {
    some = was.some;
    most = was.most;
    as_many = was.as_many;
    singles = λ v inside. elsewhere (vertex_of a v) (λ same. (
        let of : path_of a id ≡ single v =
        path_of_at a id (single v) (subst (λ k. path_at a k ≡ Some (single v)) same (was.singles v inside)) in
        false≢true (sym (ap (λ q. is_some q.left) of) ∙ edge)
        )) ∙ was.singles v inside;
    paths = λ k p at. elim (cases_eq k id) [
      | inl here ↦
          let there = live_path a id (live_from_edge a id was edge) in
          let old : IsPath a id (path_of a id) =
          subst (IsPath a id) (sym (path_of_at a id there.0 there.1)) (was.paths id there.0 there.1) in
          let two : Some born ≡ Some p = sym at_id ∙ subst (λ j. path_at new j ≡ Some p) here at in
          let one : born ≡ p = cc in
          subst (λ j. IsPath new j p) (sym here) (subst (IsPath new id) one (path_born old))
      | inr apart ↦ path_still k p (was.paths k p (sym (elsewhere k apart) ∙ at))
    ];
  }

-- ---- the records

module _ (singles : List ℕ) (old new : List (Option Record)) (key birth : ℕ) (r : Record)
    (kept : AreRecordsOfLists singles old) (there : slot_at old key ≡ Some r)
    (here : slot_at new key ≡ Some (record r { birth = birth }))
    (others : (k : ℕ) → k ≢ key → slot_at new k ≡ slot_at old k) (edge : HasAnEdge (arena_in singles old) key) where
  record_still : {X : Type 0} (f : Record → X) → f (record r { birth = birth }) ≡ f r → (k : ℕ)
      → f (record_at new k) ≡ f (record_at old k)
  record_still f same k = elim (cases_eq k key) [
    | inl at ↦ ap (λ j. f (record_at new j)) at ∙ ap f (record_of_slot new key (record r { birth = birth }) here) ∙ same
        ∙ sym (ap (λ j. f (record_at old j)) at ∙ ap f (record_of_slot old key r there))
    | inr apart ↦ ap (λ o. f (unwrap_or o no_record)) (others k apart)
  ]

  list_under-still : (hops k : ℕ) → list_under new hops k ≡ list_under old hops k
  list_under-still zero k = ap (λ x. x ∷ []) (record_still (λ q. q.first) refl k)
  list_under-still (suc hops) k =
      (λ i. record_still (λ q. q.first) refl k i ∷ list_under new hops (record_still (λ q. q.right) refl k i))
      ∙ ap (λ l. (record_at old k).first ∷ l) (list_under-still hops (record_at old k).right)

  path_from-still : (k : ℕ) (q : Record) → path_from new k q ≡ path_from old k q
  path_from-still k q =
      let lists = list_under-still q.hops k in
      λ i. record {
        list = lists i;
        weight = q.weight;
        birth = q.birth;
        left = part_id q.hops q.left;
        right = part_id
            q.hops q.right;
      }

  get-still : (k : ℕ) → k ≢ key → map.get (paths_in new) k ≡ map.get (paths_in old) k
  get-still k apart = go (slot_at old k) refl
    where
      go : (o : Option Record) → slot_at old k ≡ o → map.get (paths_in new) k ≡ map.get (paths_in old) k
      go None e =
          get-paths_in new k ∙ ap (option_map (path_from new k)) (others k apart ∙ e)
          ∙ sym (get-paths_in old k ∙ ap (option_map (path_from old k)) e)
      go (Some q) e =
          get-paths_in new k ∙ ap (option_map (path_from new k)) (others k apart ∙ e)
          ∙ ap Some (path_from-still k q)
          ∙ sym (get-paths_in old k ∙ ap (option_map (path_from old k)) e)

  pub arena_renewed : arena_in singles new ≡ with_birth (arena_in singles old) key birth
  arena_renewed =
      let of : path_of (arena_in singles old) key ≡ path_from old key r =
      path_of_at (arena_in singles old) key (path_from old key r) (path_of_slot singles old key r there) in
      let at : map.get (paths_in new) key ≡ Some (record (path_of (arena_in singles old) key) { birth = birth }) =
      path_of_slot singles new key (record r { birth = birth }) here
      ∙ ap Some (path_from-still key (record r { birth = birth }))
      ∙ sym (ap (λ (p : Path). Some (record p { birth = birth })) of) in
      let maps : paths_in new ≡ map.insert (paths_in old) key
      (record (path_of (arena_in singles old) key) { birth = birth }) = same_put (paths_in old) (paths_in new) key
      (record (path_of (arena_in singles old) key) { birth = birth }) at get-still in
      λ i. record { vertices = length singles; singles = singles; paths = maps i }

  ends_still : (F : List ℕ → Record → Type 0) → ((q : Record) (l : List ℕ) → F l q → F l (record q { birth = birth }))
      → ((k : ℕ) (q : Record) → slot_at old k ≡ Some q → F (list_under old q.hops k) q) → (k : ℕ) (q : Record)
      → slot_at new k ≡ Some q → F (list_under new q.hops k) q
  ends_still F same before k q e = elim (cases_eq k key) [
    | inl at ↦
        let two : Some (record r { birth = birth }) ≡ Some q = sym here ∙ subst (λ j. slot_at new j ≡ Some q) at e in
        let one : record r { birth = birth } ≡ q = cc in
        subst (λ j. F (list_under new q.hops j) q) (sym at)
        (subst (λ (s : Record). F (list_under new s.hops key) s) one
        (subst (λ l. F l (record r { birth = birth })) (sym (list_under-still r.hops key))
        (same r (list_under old r.hops key) (before key r there))))
    | inr apart ↦ subst (λ l. F l q) (sym (list_under-still q.hops k)) (before k q (sym (others k apart) ∙ e))
  ]

  pub kept_renewed : AreRecordsOfLists singles new
  kept_renewed = record {
    arena = subst IsArena (sym arena_renewed) (arena_born (arena_in singles old) key birth kept.arena edge);
    second = ends_still (λ l q. second l ≡ Some q.second) (λ q l h. h) kept.second;
    last = ends_still (λ l q. last l ≡ Some q.last) (λ q l h. h) kept.last;
  }

-- ---- as `set_birth` sees it

pub record Renewed (singles : List ℕ) (new : List (Option Record)) (m : Arena) (id birth : ℕ) : Type 0 where
  pub kept : AreRecordsOfLists singles new
  pub renewed : arena_in singles new ≡ with_birth m id birth

pub path_renewed : (a : Inside) (m : Arena) → view_of a ≡ m → IsSound a
    → (new : List (Option Record)) (id birth : ℕ) (r : Record) → HasAnEdge m id → slot_at a.records.slots id ≡ Some r
    → slot_at new id ≡ Some (record r { birth = birth })
    → ((k : ℕ) → k ≢ id → slot_at new k ≡ slot_at a.records.slots k) → Renewed a.singles.items new m id birth
path_renewed a m e sound new id birth r edge there here others =
    let F : Arena → Type 0 = λ n. HasAnEdge n id → Renewed a.singles.items new n id birth in
    subst F e (λ edge. record {
      kept = kept_renewed a.singles.items a.records.slots new id birth r sound there here others edge;
      renewed = arena_renewed a.singles.items a.records.slots new id birth r sound there here others edge;
    }) edge

-- a write at a key that has a record
pub written : (slots : List (Option Record)) (key : ℕ) (r q : Record) → slot_at slots key ≡ Some r
    → slot_at (slice_set slots key (Some q)) key ≡ Some q
written slots key r q there = elim (cases_lt key (length slots)) [
  | inl inside ↦ get_or-set_same slots key (Some q) None inside
  | inr past ↦ absurd (let gone : slot_at slots key ≡ None = get_or_past slots key None past in
      let two : None ≡ Some r = sym gone ∙ there in cc)
]
