-- The slots of an arena: what they hold where it is lawful, and when a record is put in or taken out.
use Rattle.std.specs.Prelude.{◌≡◌, ◌≢◌, ℕ, zero, suc, ◌+◌, ◌⊎◌, List, [], ◌∷◌, length, Option, Some, None, IsSome, unwrap_or, refl}
use Rattle.std.specs.Option.{option_map}
use Rattle.std.specs.FinMap as map
use Rattle.std.proofs.Common.{sym, ◌∙◌, ap, subst, arith, inl, inr}
use Rattle.std.proofs.lemmas.Bool.{cases_eq, false≢true}
use Rattle.apsp_model.specs.Walk.{first, last}
use Rattle.apsp_model.specs.Part.{right_part}
use Rattle.path_arena.specs.Arena.{Path, Arena, path_at, IsLive, path_of, list_of, right_of, second, HasAnEdge, with_path, without_path, IsPartOfNone, HasParts, IsSingle, IsPath, IsArena}
use Rattle.path_arena.specs.Records.{no_record, slot_at, record_at, list_under, part_id, path_from, paths_in, arena_in, view_of, IsSound, IsRecordOf, AreRecordsOfLists, IsPut, IsTaken}
use Rattle.path_arena.specs.declared.arena.Record.{Record}
use Rattle.path_arena.specs.declared.arena.Arena.TheInside.{Inside}
use Rattle.path_arena.proofs.Keys.{same_put, same_gone}
use Rattle.path_arena.proofs.Slots.{get-paths_in}
use Rattle.path_arena.proofs.Paths.{live_apart, live_from, path_of_at, IsArena-with, IsArena-without}

pub length-list_at : (slots : List (Option Record)) (hops key : ℕ) → length (list_under slots hops key) ≡ hops + 1
length-list_at slots zero key = refl
length-list_at slots (suc hops) key = let rest = length-list_at slots hops (record_at slots key).right in omega arith

pub first-list_at : (slots : List (Option Record)) (hops key : ℕ)
    → first (list_under slots hops key) ≡ Some (record_at slots key).first
first-list_at slots zero key = refl
first-list_at slots (suc hops) key = refl

pub record_of_slot : (slots : List (Option Record)) (key : ℕ) (r : Record) → slot_at slots key ≡ Some r
    → record_at slots key ≡ r
record_of_slot slots key r e = ap (λ o. unwrap_or o no_record) e

-- ---- from slots to paths and back

module _ (singles : List ℕ) (slots : List (Option Record)) where
  pub path_of_slot : (key : ℕ) (r : Record) → slot_at slots key ≡ Some r
      → path_at (arena_in singles slots) key ≡ Some (path_from slots key r)
  path_of_slot key r e = get-paths_in slots key ∙ ap (option_map (path_from slots key)) e

  pub no_path_of_slot : (key : ℕ) → slot_at slots key ≡ None → path_at (arena_in singles slots) key ≡ None
  no_path_of_slot key e = get-paths_in slots key ∙ ap (option_map (path_from slots key)) e

  -- a live id has a record
  pub slot_of_live : (key : ℕ) → IsLive (arena_in singles slots) key → (r : Record) × (slot_at slots key ≡ Some r)
  slot_of_live key live = go (slot_at slots key) refl
    where
      go : (o : Option Record) → slot_at slots key ≡ o → (r : Record) × (slot_at slots key ≡ Some r)
      go None e =
          let F : Option Path → Type 0 = λ p. IsSome p in
          absurd (false≢true (subst F (no_path_of_slot key e) live))
      go (Some r) e = (r, e)

  pub record_describes : AreRecordsOfLists singles slots → (key : ℕ) (r : Record) → slot_at slots key ≡ Some r
      → IsRecordOf (path_of (arena_in singles slots) key) r
  record_describes kept key r e =
      let of : path_of (arena_in singles slots) key ≡ path_from slots key r =
      path_of_at (arena_in singles slots) key (path_from slots key r) (path_of_slot key r e) in
      subst (λ p. IsRecordOf p r) (sym of) (record {
        weight = refl;
        birth = refl;
        first = first-list_at slots r.hops key ∙ ap (λ q. Some q.first) (record_of_slot slots key r e);
        second = kept.second key r e;
        last = kept.last key r e;
        hops = length-list_at slots r.hops key;
        left = refl;
        right = refl;
      })

  -- the right part of a record with an edge has a record, with one edge less
  pub right_slot : AreRecordsOfLists singles slots → (key hops : ℕ) (r : Record) → slot_at slots key ≡ Some r
      → r.hops ≡ suc hops → (s : Record) × (slot_at slots r.right ≡ Some s) × (s.hops ≡ hops)
  right_slot kept key hops r e long = by_kind (kept.arena.paths key (path_from slots key r) (path_of_slot key r e)).kind
    where
      a : Arena
      a = arena_in singles slots

      by_kind : IsSingle a key (path_from slots key r) ⊎ HasParts a (path_from slots key r) → (s : Record)
          × (slot_at slots r.right ≡ Some s) × (s.hops ≡ hops)
      by_kind (inl one) = absurd (omega (arith, ap (λ p. length p.list) one.3, length-list_at slots r.hops key))
      by_kind (inr parts) =
          let shown : part_id r.hops r.right ≡ Some r.right = ap (λ h. part_id h r.right) long in
          let right_is : Some parts.right ≡ Some r.right = sym parts.right_is ∙ shown in
          let same : parts.right ≡ r.right = cc in
          let there = slot_of_live r.right (let F : ℕ → Type 0 = λ k. IsLive a k in subst F same parts.right_live) in
          let list_is : list_of a r.right ≡ list_under slots there.0.hops r.right =
          ap (λ p. p.list) (path_of_at a r.right (path_from slots r.right there.0)
          (path_of_slot r.right there.0 there.1)) in
          let tail : list_of a r.right ≡ right_part (list_under slots r.hops key) =
          ap (list_of a) (sym same) ∙ parts.right_list in
          let shorter : right_part (list_under slots r.hops key) ≡ list_under slots hops (record_at slots key).right =
          ap (λ h. right_part (list_under slots h key)) long in (
            there.0,
            there.1,
            omega (
              arith,
              ap length list_is,
              ap length tail,
              ap length shorter,
              length-list_at slots
                  there.0.hops r.right,
              length-list_at slots hops (record_at slots key).right,
            ),
          )

-- ---- records that stay

module _ (old new : List (Option Record)) (G : ℕ → Type 0)
    (same : (key : ℕ) → G key → slot_at new key ≡ slot_at old key)
    (closed : (key hops : ℕ) (r : Record) → G key → slot_at old key ≡ Some r → r.hops ≡ suc hops → (s : Record)
    × (slot_at old r.right ≡ Some s) × (s.hops ≡ hops) × G r.right) where
  list_at-same : (hops key : ℕ) (r : Record) → G key → slot_at old key ≡ Some r → r.hops ≡ hops
      → list_under new hops key ≡ list_under old hops key
  list_at-same zero key r g e h = ap (λ o. (unwrap_or o no_record).first ∷ []) (same key g)
  list_at-same (suc hops) key r g e h =
      let here : record_at new key ≡ record_at old key = ap (λ o. unwrap_or o no_record) (same key g) in
      let is : record_at old key ≡ r = record_of_slot old key r e in
      let next = closed key hops r g e h in
      let rest : list_under new hops r.right ≡ list_under old hops r.right =
      list_at-same hops r.right next.0 next.3 next.1 next.2 in
      ap (λ q. q.first ∷ list_under new hops q.right) (here ∙ is)
      ∙ ap (λ l. r.first ∷ l) rest
      ∙ ap (λ q. q.first ∷ list_under old hops q.right) (sym is)

  pub path_from-same : (key : ℕ) (r : Record) → G key → slot_at old key ≡ Some r
      → path_from new key r ≡ path_from old key r
  path_from-same key r g e =
      let lists : list_under new r.hops key ≡ list_under old r.hops key = list_at-same r.hops key r g e refl in
      λ i. record {
        list = lists i;
        weight = r.weight;
        birth = r.birth;
        left = part_id r.hops r.left;
        right = part_id
            r.hops r.right;
      }

  -- what the map finds there
  pub get-same : (key : ℕ) → G key → map.get (paths_in new) key ≡ map.get (paths_in old) key
  get-same key g = go (slot_at old key) refl
    where
      go : (o : Option Record) → slot_at old key ≡ o → map.get (paths_in new) key ≡ map.get (paths_in old) key
      go None e =
          get-paths_in new key ∙ ap (option_map (path_from new key)) (same key g ∙ e)
          ∙ sym (get-paths_in old key ∙ ap (option_map (path_from old key)) e)
      go (Some r) e =
          get-paths_in new key ∙ ap (option_map (path_from new key)) (same key g ∙ e)
          ∙ ap Some (path_from-same key r g e)
          ∙ sym (get-paths_in old key ∙ ap (option_map (path_from old key)) e)

-- ---- one record more

module _ (singles : List ℕ) (old new : List (Option Record)) (key : ℕ) (r : Record)
    (kept : AreRecordsOfLists singles old) (put : IsPut old new key r) where
  -- an old record is not the new one
  apart : (k : ℕ) → IsLive (arena_in singles old) k → k ≢ key
  apart = λ k live. live_apart (arena_in singles old) key k (no_path_of_slot singles old key put.was) live

  IsOther : ℕ → Type 0
  IsOther k = k ≢ key

  closed : (k hops : ℕ) (q : Record) → IsOther k → slot_at old k ≡ Some q → q.hops ≡ suc hops → (s : Record)
      × (slot_at old q.right ≡ Some s) × (s.hops ≡ hops) × IsOther q.right
  unfolding IsOther
  closed k hops q g e h =
      let next = right_slot singles old kept k hops q e h in (
        next.0,
        next.1,
        next.2,
        apart q.right
            (live_from (arena_in singles old) q.right (path_from old q.right next.0)
            (path_of_slot singles old q.right next.0 next.1)),
      )

  pub path_from_old : (k : ℕ) (q : Record) → slot_at old k ≡ Some q → path_from new k q ≡ path_from old k q
  unfolding IsOther
  path_from_old k q e =
      path_from-same old new IsOther put.others closed k q
      (apart k (live_from (arena_in singles old) k (path_from old k q) (path_of_slot singles old k q e))) e

  pub arena_put : (p : Path) → path_from new key r ≡ p → arena_in singles new ≡ with_path (arena_in singles old) key p
  unfolding IsOther
  arena_put p is =
      let there : map.get (paths_in new) key ≡ Some p = path_of_slot singles new key r put.here ∙ ap Some is in
      let maps : paths_in new ≡ map.insert (paths_in old) key p =
      same_put (paths_in old) (paths_in new) key p there (λ k g. get-same old new IsOther put.others closed k g) in
      λ i. record { vertices = length singles; singles = singles; paths = maps i }

  -- what each list of an old record had, each has, where the new one has it
  ends_put : (F : List ℕ → Record → Type 0)
      → ((k : ℕ) (q : Record) → slot_at old k ≡ Some q → F (list_under old q.hops k) q)
      → F (list_under new r.hops key) r → (k : ℕ) (q : Record) → slot_at new k ≡ Some q → F (list_under new q.hops k) q
  ends_put F before here k q e = at_key (cases_eq k key)
    where
      at_key : (k ≡ key) ⊎ (k ≢ key) → F (list_under new q.hops k) q
      at_key (inl same) =
          let there : slot_at new key ≡ Some q = subst (λ j. slot_at new j ≡ Some q) same e in
          let r_is : r ≡ q = (let two : Some r ≡ Some q = sym put.here ∙ there in cc) in
          subst (λ j. F (list_under new q.hops j) q) (sym same)
          (subst (λ (s : Record). F (list_under new s.hops key) s) r_is here)
      at_key (inr other) =
          let was : slot_at old k ≡ Some q = sym (put.others k other) ∙ e in
          subst (λ l. F l q) (sym (ap (λ (s : Path). s.list) (path_from_old k q was))) (before k q was)

  pub kept_put : (p : Path) → path_from new key r ≡ p → IsPath (arena_in singles old) key p
      → second p.list ≡ Some r.second → last p.list ≡ Some r.last → AreRecordsOfLists singles new
  kept_put p is path begins ends = record {
    arena = subst IsArena (sym (arena_put p is))
        (IsArena-with (arena_in singles old) key p kept.arena (no_path_of_slot singles old key put.was) path);
    second = ends_put (λ l q. second l ≡ Some q.second) kept.second (ap (λ (s : Path). second s.list) is ∙ begins);
    last = ends_put (λ l q. last l ≡ Some q.last) kept.last (ap (λ (s : Path). last s.list) is ∙ ends);
  }

-- ---- one record less

module _ (singles : List ℕ) (old new : List (Option Record)) (key : ℕ) (kept : AreRecordsOfLists singles old)
    (taken : IsTaken old new key) (edge : HasAnEdge (arena_in singles old) key)
    (free : IsPartOfNone (arena_in singles old) key) where
  IsLeft : ℕ → Type 0
  IsLeft k = k ≢ key

  left_closed : (k hops : ℕ) (q : Record) → IsLeft k → slot_at old k ≡ Some q → q.hops ≡ suc hops → (s : Record)
      × (slot_at old q.right ≡ Some s) × (s.hops ≡ hops) × IsLeft q.right
  unfolding IsLeft
  left_closed k hops q g e h =
      let next = right_slot singles old kept k hops q e h in
      let of : path_of (arena_in singles old) k ≡ path_from old k q =
      path_of_at (arena_in singles old) k (path_from old k q) (path_of_slot singles old k q e) in
      let right_is : right_of (arena_in singles old) k ≡ Some q.right =
      ap (λ p. p.right) of ∙ ap (λ n. part_id n q.right) h in
      (next.0, next.1, next.2, λ same. free.right k (right_is ∙ ap Some same))

  pub arena_taken : arena_in singles new ≡ without_path (arena_in singles old) key
  unfolding IsLeft
  arena_taken =
      let maps : paths_in new ≡ map.remove (paths_in old) key =
      same_gone (paths_in old) (paths_in new) key (no_path_of_slot singles new key taken.here)
      (λ k g. get-same old new IsLeft taken.others left_closed k g) in
      λ i. record { vertices = length singles; singles = singles; paths = maps i }

  -- what each list of a record had, each that is left has
  ends_taken : (F : List ℕ → Record → Type 0)
      → ((k : ℕ) (q : Record) → slot_at old k ≡ Some q → F (list_under old q.hops k) q) → (k : ℕ) (q : Record)
      → slot_at new k ≡ Some q → F (list_under new q.hops k) q
  unfolding IsLeft
  ends_taken F before k q e = at_key (cases_eq k key)
    where
      at_key : (k ≡ key) ⊎ (k ≢ key) → F (list_under new q.hops k) q
      at_key (inl same) =
          let there : slot_at new key ≡ Some q = subst (λ j. slot_at new j ≡ Some q) same e in
          absurd (let no : None ≡ Some q = sym taken.here ∙ there in cc)
      at_key (inr other) =
          let was : slot_at old k ≡ Some q = sym (taken.others k other) ∙ e in
          subst (λ l. F l q) (sym (ap (λ (s : Path). s.list)
          (path_from-same old new IsLeft taken.others left_closed k q other was))) (before k q was)

  pub kept_taken : AreRecordsOfLists singles new
  kept_taken = record {
    arena = subst IsArena (sym arena_taken) (IsArena-without (arena_in singles old) key kept.arena edge free);
    second = ends_taken (λ l q. second l ≡ Some q.second) kept.second;
    last = ends_taken (λ l q. last l ≡ Some q.last) kept.last;
  }

-- ---- as the arena's functions see it

-- the id of a live path has a slot with a value
pub live_slot : (a : Inside) (m : Arena) → view_of a ≡ m → (id : ℕ) → IsLive m id → IsSome (slot_at a.records.slots id)
live_slot a m e id live =
    let F : Arena → Type 0 = λ n. IsLive n id in
    let there = slot_of_live a.singles.items a.records.slots id (subst F (sym e) live) in
    rw there.1 refl

pub slot_describes : (a : Inside) (m : Arena) → view_of a ≡ m → IsSound a → (id : ℕ) (r : Record)
    → slot_at a.records.slots id ≡ Some r → IsRecordOf (path_of m id) r
slot_describes a m e sound id r there =
    let F : Arena → Type 0 = λ n. IsRecordOf (path_of n id) r in
    subst F e (record_describes a.singles.items a.records.slots sound id r there)

pub lawful_inside : (a : Inside) (m : Arena) → view_of a ≡ m → IsSound a → IsArena m
lawful_inside a m e sound = subst IsArena e sound.arena
