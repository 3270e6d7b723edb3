-- For rise and sink: a turn on its way up or down, whose place is the hole.
use Rattle.std.specs.Prelude.{◌≡◌, ◌≢◌, ℕ, ◌+◌, ◌*◌, zero, suc, ◌-◌, ◌/◌, ◌%◌, ◌<◌, ◌≤◌, List, [], ◌∷◌, ◌++◌, length, slice_set, take, drop, refl, Contains}
use Rattle.std.specs.List.Sorted.{IsPermutation}
use Rattle.std.proofs.Common.{sym, ◌∙◌, ap, subst, arith, inl, inr, get_or}
use Rattle.std.proofs.lemmas.Bool.{cases_eq}
use Rattle.std.proofs.lemmas.List.{length-set, length_push, get_or-set_same, get_or-set_other, get_or_append_left, get_or_default, set-set, take-append-le, take_all}
use Rattle.std.proofs.lemmas.List.Edits.{swap_is}
use Rattle.std.proofs.lemmas.List.Sorted.{IsPermutation-swap, IsPermutation-trans, IsPermutation-cons, IsPermutation-append_comm}
use Rattle.weight_classes.specs.declared.turns.Turn.{Turn}
use Rattle.weight_classes.specs.Turns.{no_turn, key_at, IsChildOf, IsBeside, AreInOrder, AreAcross, MayRise, MaySink, IsFirst}

-- ---- places

same_above : (i p q : ℕ) → IsChildOf i p → IsChildOf i q → p ≡ q
same_above i p q (inl e) (inl f) = omega arith
same_above i p q (inl e) (inr f) = omega arith
same_above i p q (inr e) (inl f) = omega arith
same_above i p q (inr e) (inr f) = omega arith

pub further : (i p : ℕ) → IsChildOf i p → p < i
further i p (inl e) = omega arith
further i p (inr e) = omega arith

-- the two places under one stand side by side
pub beside : (i p right : ℕ) → right ≡ 2 * p + 2 → IsChildOf i p → IsBeside i right
beside i p right is (inl e) = inl (omega arith)
beside i p right is (inr e) = inr (omega arith)

pub under : (i p right : ℕ) → right ≡ 2 * p + 2 → IsBeside i right → IsChildOf i p
under i p right is (inl e) = inl (omega arith)
under i p right is (inr e) = inr (omega arith)

pub above_is : (i : ℕ) → 0 < i → IsChildOf i ((i - 1) / 2)
above_is i some = elim (cases_eq ((i - 1) % 2) 0) [ inl even ↦ inl (omega arith) | inr odd ↦ inr (omega arith) ]

-- ---- two keys in each other's place

record IsExchanged (old new : ℕ → ℕ) (up hole : ℕ) : Type 0 where
  pub first : new up ≡ old hole
  pub second : new hole ≡ old up
  pub others : (m : ℕ) → m ≢ up → m ≢ hole → new m ≡ old m

module _ (old new : ℕ → ℕ) (n up hole : ℕ) (under : IsChildOf hole up) (inside : hole < n) (less : old hole < old up)
    (x : IsExchanged old new up hole) where
  risen : MayRise old n hole → MayRise new n up
  risen r = (edges, across)
    where
      edges : (i p : ℕ) → IsChildOf i p → i < n → i ≢ up → new p ≤ new i
      edges i p of i_in apart =
          let p_i : p < i = further i p of in
          elim (cases_eq p up) [
            | inl p_up ↦ elim (cases_eq i hole) [
              | inl i_hole ↦ omega (arith, ap new p_up, ap new i_hole, x.first, x.second, less)
              | inr i_other ↦
                  let before : old up ≤ old i = r.0 i up (subst (IsChildOf i) p_up of) i_in i_other in
                  omega (arith, ap new p_up, x.first, x.others i apart i_other, less, before)
            ]
            | inr p_other ↦ elim (cases_eq p hole) [
              | inl p_hole ↦
                  let before : old up ≤ old i = r.1 i up (subst (IsChildOf i) p_hole of) under i_in in
                  omega (arith, ap new p_hole, x.second, x.others i apart (λ e. omega arith), before)
              | inr p_else ↦
                  let i_else : i ≢ hole = λ e. p_other (same_above hole p up (subst (λ m. IsChildOf m p) e of) under) in
                  let before : old p ≤ old i = r.0 i p of i_in i_else in
                  omega (arith, x.others p p_other p_else, x.others i apart i_else, before)
            ]
          ]

      across : AreAcross new n up
      across i p of p_of i_in =
          let p_up : p < up = further up p p_of in
          let up_i : up < i = further i up of in
          let up_hole : up < hole = further hole up under in
          let top : old p ≤ old up = r.0 up p p_of (omega arith) (λ e. omega arith) in
          elim (cases_eq i hole) [
            | inl i_hole ↦ omega (arith, ap new i_hole, x.second, x.others p (λ e. omega arith) (λ e. omega arith), top)
            | inr i_other ↦
                let before : old up ≤ old i = r.0 i up of i_in i_other in
                omega (
                  arith,
                  x.others i (λ e. omega arith) i_other,
                  x.others p (λ e. omega arith) (λ e. omega arith),
                  top,
                  before,
                )
          ]

  -- the same, seen from above, where the other key below is no lower than this one
  sunk : ((i : ℕ) → IsChildOf i up → i < n → old hole ≤ old i) → MaySink old n up → MaySink new n hole
  sunk lesser s = (edges, across)
    where
      edges : (i p : ℕ) → IsChildOf i p → i < n → p ≢ hole → new p ≤ new i
      edges i p of i_in apart =
          let p_i : p < i = further i p of in
          let up_hole : up < hole = further hole up under in
          elim (cases_eq p up) [
            | inl p_up ↦ elim (cases_eq i hole) [
              | inl i_hole ↦ omega (arith, ap new p_up, ap new i_hole, x.first, x.second, less)
              | inr i_other ↦
                  let before : old hole ≤ old i = lesser i (subst (IsChildOf i) p_up of) i_in in
                  omega (arith, ap new p_up, x.first, x.others i (λ e. omega arith) i_other, before)
            ]
            | inr p_other ↦
                let i_else : i ≢ hole = λ e. p_other (same_above hole p up (subst (λ m. IsChildOf m p) e of) under) in
                elim (cases_eq i up) [
                  | inl i_up ↦
                      let before : old p ≤ old hole = s.1 hole p under (subst (λ m. IsChildOf m p) i_up of) inside in
                      omega (arith, ap new i_up, x.first, x.others p p_other apart, before)
                  | inr i_other ↦
                      let before : old p ≤ old i = s.0 i p of i_in p_other in
                      omega (arith, x.others p p_other apart, x.others i i_other i_else, before)
                ]
          ]

      across : AreAcross new n hole
      across i p of p_of i_in =
          let hole_i : hole < i = further i hole of in
          let up_hole : up < hole = further hole up under in
          let p_up : p ≡ up = same_above hole p up p_of under in
          let before : old hole ≤ old i = s.0 i hole of i_in (λ e. omega arith) in
          omega (arith, ap new p_up, x.first, x.others i (λ e. omega arith) (λ e. omega arith), before)

-- ---- the hole goes to another place

module _ (ts : List Turn) (t : Turn) (hole next : ℕ) (hole_in : hole < length ts) (next_in : next < length ts)
    (apart : next ≢ hole) where
  abbrev pub moved_on : List Turn
  moved_on = slice_set (slice_set ts hole (get_or ts next no_turn)) next t

  as_many : length (slice_set ts hole (get_or ts next no_turn)) ≡ length ts
  as_many = length-set ts hole (get_or ts next no_turn)

  now_next : get_or moved_on next no_turn ≡ t
  now_next =
      get_or-set_same (slice_set ts hole (get_or ts next no_turn)) next t no_turn (omega (arith, next_in, as_many))

  now_hole : get_or moved_on hole no_turn ≡ get_or ts next no_turn
  now_hole =
      get_or-set_other (slice_set ts hole (get_or ts next no_turn)) next hole t no_turn (λ e. apart (sym e))
      ∙ get_or-set_same ts hole (get_or ts next no_turn) no_turn hole_in

  before_next : get_or (slice_set ts hole t) next no_turn ≡ get_or ts next no_turn
  before_next = get_or-set_other ts hole next t no_turn apart

  before_hole : get_or (slice_set ts hole t) hole no_turn ≡ t
  before_hole = get_or-set_same ts hole t no_turn hole_in

  exchanged : IsExchanged (key_at (slice_set ts hole t)) (key_at moved_on) next hole
  exchanged = record {
    first = ap (λ (u : Turn). u.key) (now_next ∙ sym before_hole);
    second = ap (λ (u : Turn). u.key) (now_hole ∙ sym before_next);
    others = λ m m_next m_hole. ap (λ (u : Turn). u.key) (
        get_or-set_other (slice_set ts hole (get_or ts next no_turn)) next m t no_turn m_next
        ∙ get_or-set_other ts hole m (get_or ts next no_turn) no_turn m_hole
        ∙ sym (get_or-set_other ts hole m t no_turn m_hole));
  }

  -- the other way round
  back : IsExchanged (key_at (slice_set ts hole t)) (key_at moved_on) hole next
  back = record {
    first = exchanged.second;
    second = exchanged.first;
    others = λ m m_hole m_next. exchanged.others m
        m_next m_hole;
  }

  pub moved_same : IsPermutation (slice_set ts hole t) moved_on
  moved_same =
      let xs : List Turn = slice_set ts hole t in
      let xs_many : length xs ≡ length ts = length-set ts hole t in
      IsPermutation-swap xs moved_on hole next (omega (arith, hole_in, xs_many)) (omega (arith, next_in, xs_many))
      (ap (λ (us : List Turn). slice_set us next t)
      (sym (set-set ts hole t (get_or ts next no_turn)) ∙ ap (slice_set xs hole) (sym before_next))
      ∙ ap (slice_set (slice_set xs hole (get_or xs next no_turn)) next) (sym before_hole)
      ∙ swap_is xs hole next no_turn (omega (arith, hole_in, xs_many)) (omega (arith, next_in, xs_many)))

  moved_many : length moved_on ≡ length ts
  moved_many = length-set (slice_set ts hole (get_or ts next no_turn)) next t ∙ as_many

  pub rises_on : IsChildOf hole next → t.key < key_at ts next → MayRise (key_at (slice_set ts hole t)) (length ts) hole
      → MayRise (key_at moved_on) (length ts) next
  rises_on under less r =
      risen (key_at (slice_set ts hole t)) (key_at moved_on) (length ts) next hole under hole_in
      (omega (arith, less, ap (λ (u : Turn). u.key) before_hole, ap (λ (u : Turn). u.key) before_next)) exchanged r

  pub sinks_on : IsChildOf next hole → key_at ts next < t.key
      → ((i : ℕ) → IsChildOf i hole → i < length ts → key_at ts next ≤ key_at ts i)
      → MaySink (key_at (slice_set ts hole t)) (length ts) hole → MaySink (key_at moved_on) (length ts) next
  sinks_on under less lesser s =
      sunk (key_at (slice_set ts hole t)) (key_at moved_on) (length ts) hole next under next_in
      (omega (arith, less, ap (λ (u : Turn). u.key) before_hole, ap (λ (u : Turn). u.key) before_next)) back
      (λ i of i_in.
      let past : hole < i = further i hole of in
      let l : key_at ts next ≤ key_at ts i = lesser i of i_in in
      omega (
        arith,
        l,
        ap (λ (u : Turn). u.key) before_next,
        ap (λ (u : Turn). u.key)
            (get_or-set_other ts hole i t no_turn (λ e. omega arith)),
      )) s

-- ---- where the ways end

module _ (ts : List Turn) (t : Turn) (hole : ℕ) (hole_in : hole < length ts) where
  here : key_at (slice_set ts hole t) hole ≡ t.key
  here = ap (λ (u : Turn). u.key) (get_or-set_same ts hole t no_turn hole_in)

  there : (m : ℕ) → m ≢ hole → key_at (slice_set ts hole t) m ≡ key_at ts m
  there m apart = ap (λ (u : Turn). u.key) (get_or-set_other ts hole m t no_turn apart)

  pub rises_end : ((p : ℕ) → IsChildOf hole p → key_at ts p ≤ t.key)
      → MayRise (key_at (slice_set ts hole t)) (length ts) hole → AreInOrder (slice_set ts hole t)
  rises_end top r i p of i_in =
      let i_was : i < length ts = omega (arith, i_in, length-set ts hole t) in
      let p_i : p < i = further i p of in
      elim (cases_eq i hole) [
        | inl i_hole ↦
            let upto : key_at ts p ≤ t.key = top p (subst (λ m. IsChildOf m p) i_hole of) in
            omega (arith, upto, here, ap (key_at (slice_set ts hole t)) i_hole, there p (λ e. omega arith))
        | inr i_other ↦ r.0 i p of i_was i_other
      ]

  pub sinks_end : ((i : ℕ) → IsChildOf i hole → i < length ts → t.key ≤ key_at ts i)
      → MaySink (key_at (slice_set ts hole t)) (length ts) hole → AreInOrder (slice_set ts hole t)
  sinks_end bottom s i p of i_in =
      let i_was : i < length ts = omega (arith, i_in, length-set ts hole t) in
      let p_i : p < i = further i p of in
      elim (cases_eq p hole) [
        | inl p_hole ↦
            let upto : t.key ≤ key_at ts i = bottom i (subst (IsChildOf i) p_hole of) i_was in
            omega (arith, upto, here, ap (key_at (slice_set ts hole t)) p_hole, there i (λ e. omega arith))
        | inr p_other ↦ s.0 i p of i_was p_other
      ]

-- ---- where they start

pub pushed_rises : (ts : List Turn) (t : Turn) → AreInOrder ts
    → MayRise (key_at (ts ++ t ∷ [])) (length (ts ++ t ∷ [])) (length ts)
pushed_rises ts t order = (
  λ i p of i_in apart.
      let p_i : p < i = further i p of in
      let i_was : i < length ts = omega (arith, i_in, length_push ts t) in
      let before : key_at ts p ≤ key_at ts i = order i p of i_was in
      omega (
        arith,
        before,
        ap (λ (u : Turn). u.key) (get_or_append_left ts (t ∷ []) no_turn i i_was),
        ap (λ (u : Turn). u.key) (get_or_append_left ts (t ∷ []) no_turn p (omega arith)),
      ),
  λ i p of p_of i_in. absurd (let past : length ts < i = further i (length ts) of in
      omega (arith, i_in, length_push ts t)),
)

pub first_sinks : (ts : List Turn) (t : Turn) → AreInOrder ts → MaySink (key_at (slice_set ts 0 t)) (length ts) 0
first_sinks ts t order = (
  λ i p of i_in apart.
      let p_i : p < i = further i p of in
      let before : key_at ts p ≤ key_at ts i = order i p of i_in in
      omega (
        arith,
        before,
        ap (λ (u : Turn). u.key) (get_or-set_other ts 0 i t no_turn (λ e. omega arith)),
        ap (λ (u : Turn). u.key) (get_or-set_other ts 0 p t no_turn apart),
      ),
  λ i p of p_of i_in. absurd (let past : p < 0 = further 0 p p_of in omega arith),
)

pub shorter_order : (ts : List Turn) (t : Turn) → AreInOrder (ts ++ t ∷ []) → AreInOrder ts
shorter_order ts t order i p of i_in =
    let p_i : p < i = further i p of in
    let before : key_at (ts ++ t ∷ []) p ≤ key_at (ts ++ t ∷ []) i =
    order i p of (omega (arith, i_in, length_push ts t)) in
    omega (
      arith,
      before,
      ap (λ (u : Turn). u.key) (get_or_append_left ts (t ∷ []) no_turn i i_in),
      ap (λ (u : Turn). u.key) (get_or_append_left ts (t ∷ []) no_turn p (omega arith)),
    )

-- ---- the first turn

first_upto : (ts : List Turn) → AreInOrder ts → (n i : ℕ) → i ≤ n → i < length ts → key_at ts 0 ≤ key_at ts i
first_upto ts order zero i upto inside = omega (arith, ap (key_at ts) (let first : i ≡ 0 = omega arith in first))
first_upto ts order (suc n) i upto inside = elim (cases_eq i 0) [
  | inl first ↦ omega (arith, ap (key_at ts) first)
  | inr more ↦
      let under : IsChildOf i ((i - 1) / 2) = above_is i (omega arith) in
      let before : (i - 1) / 2 < i = further i ((i - 1) / 2) under in
      let rest : key_at ts 0 ≤ key_at ts ((i - 1) / 2) =
      first_upto ts order n ((i - 1) / 2) (omega arith) (omega arith) in
      let last : key_at ts ((i - 1) / 2) ≤ key_at ts i = order i ((i - 1) / 2) under inside in
      omega (arith, rest, last)
]

pub first_is : (ts : List Turn) (t : Turn) → AreInOrder ts → 0 < length ts → t ≡ get_or ts 0 t → IsFirst t ts
first_is ts t order some at = record {
  there = (0, some, sym at);
  least = λ u c.
      let upto : key_at ts 0 ≤ key_at ts c.0 = first_upto ts order c.0 c.0 (omega arith) c.1 in
      omega (
        arith,
        upto,
        ap (λ (v : Turn). v.key) (at ∙ get_or_default ts 0 t no_turn some),
        ap (λ (v : Turn). v.key)
            (get_or_default ts c.0 no_turn u c.1 ∙ c.2),
      );
}

-- ---- the last turn takes the place of the first

pub first_out : (rest : List Turn) (first last : Turn) (now : List Turn) → 0 < length rest → first ≡ get_or rest 0 first
    → IsPermutation (slice_set rest 0 last) now → IsPermutation (rest ++ last ∷ []) (first ∷ now)
first_out [] first last now some at moved = absurd (omega (arith, some))
first_out (x ∷ rest) first last now some at moved =
    subst (λ (t : Turn). IsPermutation ((x ∷ rest) ++ last ∷ []) (t ∷ now)) (sym at)
    (IsPermutation-cons x (rest ++ last ∷ []) now
    (IsPermutation-trans (rest ++ last ∷ []) (last ∷ rest) now (IsPermutation-append_comm rest (last ∷ [])) moved))

-- ---- a vector whose slice was written

pub written : (xs ys : List Turn) (n : ℕ) → n ≡ length xs → length ys ≡ length xs
    → take n (ys ++ drop (length ys) xs) ≡ ys
written xs ys n many same =
    take-append-le n ys (drop (length ys) xs) (omega (arith, many, same)) ∙ take_all n ys (omega (arith, many, same))

-- the turn that stands alone
pub alone_first : (ts rest : List Turn) (t : Turn) → ts ≡ rest ++ t ∷ [] → length rest ≡ 0 → IsFirst t ts
alone_first ts [] t is none =
    subst (IsFirst t) (sym is) (record { there = (0, omega arith, refl); least = λ u c. only u c })
  where
    only : (u : Turn) → Contains (t ∷ []) u → t.key ≤ u.key
    only u (zero, inside, at) = omega (arith, ap (λ (v : Turn). v.key) at)
    only u (suc k, inside, at) = absurd (omega (arith, inside))
alone_first ts (x ∷ rest) t is none = absurd (omega (arith, none))
