-- The place of each pair in rows, and what a change of one pair leaves.
use Rattle.std.specs.Prelude.{◌≡◌, ℕ, ◌+◌, ◌*◌, ◌<◌, ◌≤◌, ◌⊎◌, cond, List, [], length, refl, Contains, Option, Some, None, IsSome, unwrap_or, Result, Ok, Err, OnOk, OnErr, is_ok}
use Rattle.std.specs.List.{All}
use Rattle.std.proofs.Common.{sym, ◌∙◌, ap, subst, arith, inl, inr, get_or, set}
use Rattle.std.proofs.lemmas.Bool.{cases_eq, cases_lt, lt-ltb, le-ltb, false≢true, true≢false}
use Rattle.std.proofs.lemmas.Nat.{mul-add-lt}
use Rattle.std.proofs.lemmas.List.{get_or-set_same, get_or-set_other, get_or_past, get_or_default, length-set, set-get_or}
use Rattle.apsp_model.proofs.Lists.{first_in, last_in}
use Rattle.path_arena.specs.Arena.{Arena, Path, IsArena, IsLive, path_at, list_of, no_path}
use Rattle.pair_heaps.specs.Heaps.{Pair, Heaps, no_pair, place_of, pair_at, held_at, HasEnds, ChangesOnly, IsWith, IsAllBut, IsReserved, IsInserted, IsRemoved}
use Rattle.pair_heaps.specs.Rows.{heaps_of, IsHeaps}

-- ---- places

pub place_inside : (n x y : ℕ) → y < n → place_of n x y ≡ x * n + y
place_inside n x y y_in = ap (λ b. cond b (x * n + y) (n * n)) (lt-ltb y n y_in)

pub place_small : (n x y : ℕ) → x < n → y < n → place_of n x y < n * n
place_small n x y x_in y_in = omega (arith, place_inside n x y y_in, mul-add-lt x n y n x_in y_in)

one_row : (n x y u v : ℕ) → y < n → v < n → x * n + y ≡ u * n + v → x < u → ⊥
one_row n x y u v y_in v_in e less = omega (arith, mul-add-lt x n y u less y_in)

-- two pairs of one place are one pair
pub place_once : (n x y u v : ℕ) → x < n → y < n → place_of n u v ≡ place_of n x y → (u ≡ x) × (v ≡ y)
place_once n x y u v x_in y_in e = elim (cases_lt v n) [
  | inl v_in ↦
      let same : x * n + y ≡ u * n + v = sym (place_inside n x y y_in) ∙ sym e ∙ place_inside n u v v_in in
      elim (cases_lt x u) [
        | inl less ↦ absurd (one_row n x y u v y_in v_in same less)
        | inr upto ↦ elim (cases_lt u x) [
          | inl more ↦ absurd (one_row n u v x y v_in y_in (sym same) more)
          | inr least ↦ let rows : u ≡ x = omega arith in (rows, omega (arith, same, ap (λ w. w * n) rows))
        ]
      ]
  | inr past ↦ absurd (let out : place_of n u v ≡ n * n = ap (λ b. cond b (u * n + v) (n * n)) (le-ltb v n past) in
      omega (arith, place_small n x y x_in y_in, out, e))
]

-- ---- one pair put in place of another

abbrev pub with_pair : Heaps → ℕ → ℕ → Pair → Heaps
with_pair h x y p = record h { pairs = set h.pairs (place_of h.vertices x y) p }

pub same_pair : (x y u v : ℕ) → ((u ≡ x) × (v ≡ y)) ⊎ (u ≡ x → v ≡ y → ⊥)
same_pair x y u v = elim (cases_eq u x) [
  | inl rows ↦ elim (cases_eq v y) [ inl columns ↦ inl (rows, columns) | inr apart ↦ inr (λ r c. apart c) ]
  | inr apart ↦ inr (λ r c. apart r)
]

module _ (h : Heaps) (sound : IsHeaps h) (x y : ℕ) (x_in : x < h.vertices) (y_in : y < h.vertices) (p : Pair) where
  inside : place_of h.vertices x y < length h.pairs
  inside = let places : length h.pairs ≡ h.vertices * h.vertices =
      sound in omega (arith, place_small h.vertices x y x_in y_in)

  pub with_pair_here : pair_at (with_pair h x y p) x y ≡ p
  with_pair_here = get_or-set_same h.pairs (place_of h.vertices x y) p no_pair inside

  pub with_pair_only : ChangesOnly h (with_pair h x y p) x y
  with_pair_only = record {
    vertices = refl;
    others = λ u v apart. get_or-set_other h.pairs (place_of h.vertices x y) (place_of h.vertices u v) p no_pair
        (λ same. let one : (u ≡ x) × (v ≡ y) = place_once h.vertices x y u v x_in y_in same in apart one.0 one.1);
  }

  pub with_pair_sound : IsHeaps (with_pair h x y p)
  with_pair_sound = length-set h.pairs (place_of h.vertices x y) p ∙ sound

-- ---- one pair is replaced

-- the pair was p and is q
pub record IsWritten (h k : Heaps) (x y : ℕ) (p q : Pair) : Type 0 where
  pub was : pair_at h x y ≡ p
  pub now : pair_at k x y ≡ q
  pub only : ChangesOnly h k x y
  pub same : q ≡ p → k ≡ h
  pub sound : IsHeaps k

pub pair_read : (n x y k : ℕ) (items : List Pair) (v : Pair) → k ≡ place_of n x y → k < length items
    → v ≡ get_or items k v → pair_at (heaps_of n items) x y ≡ v
pair_read n x y k items v same inside at =
    ap (λ j. get_or items j no_pair) (sym same) ∙ get_or_default items k no_pair v inside ∙ sym at

written_to : (n x y k : ℕ) (items : List Pair) (v w : Pair) → IsHeaps (heaps_of n items) → x < n → y < n
    → k ≡ place_of n x y → k < length items → v ≡ get_or items k v
    → IsWritten (heaps_of n items) (heaps_of n (set items k w)) x y v w
written_to n x y k items v w sound x_in y_in same inside at =
    subst (λ (m : Heaps). IsWritten (heaps_of n items) m x y v w) (sym changed) (record {
      was = was;
      now = with_pair_here (heaps_of n items) sound x y x_in y_in w;
      only = with_pair_only (heaps_of n items) sound x y x_in y_in w;
      same = λ e. ap (λ (q : Pair). with_pair (heaps_of n items) x y q) (e ∙ sym was)
          ∙ ap (λ (ps : List Pair). let m : Heaps = record { vertices = n; pairs = ps } in m)
          (set-get_or items (place_of n x y) no_pair);
      sound = with_pair_sound (heaps_of n items) sound x y x_in y_in w;
    })
  where
    was : pair_at (heaps_of n items) x y ≡ v
    was = pair_read n x y k items v same inside at

    changed : heaps_of n (set items k w) ≡ with_pair (heaps_of n items) x y w
    changed =
        ap (λ (ps : List Pair). let m : Heaps = record { vertices = n; pairs = ps } in m) (ap (λ j. set items j w) same)

pub written : (n : ℕ) (items : List Pair) (h : Heaps) (x y k : ℕ) (v w : Pair) → heaps_of n items ≡ h
    → IsHeaps (heaps_of n items) → x < h.vertices → y < h.vertices → k ≡ place_of h.vertices x y → v ≡ get_or items k v
    → IsWritten h (heaps_of n (set items k w)) x y v w
written n items h x y k v w is sound x_in y_in same at =
    let as_many : h.vertices ≡ n = ap (λ (m : Heaps). m.vertices) (sym is) in
    let place : k ≡ place_of n x y = same ∙ ap (λ m. place_of m x y) as_many in
    subst (λ (m : Heaps). IsWritten m (heaps_of n (set items k w)) x y v w) is
    (written_to n x y k items v w sound (omega arith) (omega arith) place
    (let places : length items ≡ n * n = sound in omega (arith, place_small n x y (omega arith) (omega arith))) at)

-- ---- the ends of a path are vertices

path_inside : (a : Arena) (id v : ℕ) → IsArena a → IsLive a id → Contains (list_of a id) v → v < a.vertices
path_inside a id v lawful live c = go (path_at a id) refl live c
  where
    go : (o : Option Path) → path_at a id ≡ o → IsSome o → Contains (unwrap_or o no_path).list v → v < a.vertices
    go None e live c = absurd (false≢true live)
    go (Some p) e live c = (lawful.paths id p e).inside v c

pub ends_inside : (a : Arena) (id x y : ℕ) → IsArena a → IsLive a id → HasEnds a id x y → (x < a.vertices)
    × (y < a.vertices)
ends_inside a id x y lawful live ends = (
  path_inside a id x lawful live (first_in (list_of a id) x ends.0),
  path_inside a id y lawful live
      (last_in (list_of a id) y ends.1),
)

-- ---- what the calls say of their pair

pub reserved : (h k : Heaps) (x y : ℕ) (p q : Pair) → IsWritten h k x y p q → q.held ≡ p.held → 1 ≤ q.spare
    → IsReserved h k x y
reserved h k x y p q w held spare = record {
  only = w.only;
  held = ap (λ r. r.held) w.now ∙ held ∙ sym (ap (λ r. r.held) w.was);
  spare = omega (arith, ap (λ r. r.spare) w.now);
}

-- the ids of every pair stay
pub held_stays : (h k : Heaps) (x y : ℕ) (p q : Pair) → IsWritten h k x y p q → q.held ≡ p.held → (u v : ℕ)
    → held_at k u v ≡ held_at h u v
held_stays h k x y p q w held u v = elim (same_pair x y u v) [
  | inl one ↦ ap (λ z. held_at k z v) one.0 ∙ ap (λ z. held_at k x z) one.1 ∙ ap (λ r. r.held) w.now ∙ held
      ∙ sym (ap (λ r. r.held) w.was) ∙ sym (ap (λ z. held_at h x z) one.1) ∙ sym (ap (λ z. held_at h z v) one.0)
  | inr other ↦ ap (λ r. r.held) (w.only.others u v other)
]

pub inserted : (h k : Heaps) (id x y : ℕ) (p q : Pair) → IsWritten h k x y p q → IsWith id p.held q.held
    → p.spare ≤ q.spare + 1 → IsInserted h k id x y
inserted h k id x y p q w held spare = record {
  only = w.only;
  held = subst (λ (r : Pair). IsWith id r.held (held_at k x y)) (sym w.was)
      (subst (λ (r : Pair). IsWith id p.held r.held) (sym w.now) held);
  spare = omega (arith, ap (λ r. r.spare) w.now, ap (λ r. r.spare) w.was);
}

pub removed : (h k : Heaps) (id x y : ℕ) (p q : Pair) → IsWritten h k x y p q → IsAllBut id p.held q.held
    → p.spare ≤ q.spare → IsRemoved h k id x y
removed h k id x y p q w held spare = record {
  only = w.only;
  held = subst (λ (r : Pair). IsAllBut id r.held (held_at k x y)) (sym w.was)
      (subst (λ (r : Pair). IsAllBut id p.held r.held) (sym w.now) held);
  spare = omega (arith, ap (λ r. r.spare) w.now, ap (λ r. r.spare) w.was);
}

-- ---- by the ends of the path

-- a path has one pair of ends
pub at_ends : (a : Arena) (id x y : ℕ) (P : ℕ → ℕ → Type 0) → HasEnds a id x y → P x y → (u v : ℕ) → HasEnds a id u v
    → P u v
at_ends a id x y P ends p u v other =
    let firsts : Some x ≡ Some u = sym ends.0 ∙ other.0 in
    let lasts : Some y ≡ Some v = sym ends.1 ∙ other.1 in
    let rows : x ≡ u = cc in
    let columns : y ≡ v = cc in
    subst (λ r. P r v) rows (subst (P x) columns p)

-- what a success says, where another result is as good
pub from_ok : {A B E F P : Type 0} (r : Result A E) (s : Result B F) (b : B) → s ≡ Ok b → is_ok s ≡ is_ok r → OnOk r P
    → P
from_ok (Ok a) s b e same p = p
from_ok (Err a) s b e same p = absurd (true≢false (sym (ap is_ok e) ∙ same))

-- ---- pairs that hold nothing

pub none_held : (items : List Pair) → All (λ p. p.held ≡ []) items → (k : ℕ) → (get_or items k no_pair).held ≡ []
none_held items none k = elim (cases_lt k (length items)) [
  | inl inside ↦ none k no_pair inside
  | inr past ↦ ap (λ (p : Pair). p.held) (get_or_past items k no_pair past)
]
