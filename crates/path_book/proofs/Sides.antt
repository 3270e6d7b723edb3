-- The extension lists when a path is added, marked or taken out, against the parts that the arena tells.
use Rattle.std.specs.Prelude.{◌≡◌, ◌≢◌, ℕ, ◌⊎◌, ◌↔◌, Bool, true, false, IsTrue, ◌==◌, if◌then◌else◌, List, [], ◌∷◌, ◌++◌, Option, Some, None, is_some, unwrap_or, refl, Contains}
use Rattle.std.specs.FinMap as map
use Rattle.std.proofs.Common.{sym, ◌∙◌, ap, subst, inl, inr}
use Rattle.std.proofs.lemmas.Bool.{cases_eq, false≢true, ne_eqb, eq-eqb, eqb-true}
use Rattle.std.proofs.lemmas.List.Elements.{Contains-append_left, Contains-append_right, Contains-append_cases}
use Rattle.apsp_model.proofs.Members.{in_cons, in_nil, head_in}
use Rattle.path_arena.specs.Arena.{Path, Arena, path_at, no_path, path_of, with_path, without_path}
use Rattle.path_arena.proofs.Keys.{get_put, get_put_other, get_gone, get_gone_other}
use Rattle.extension_lists.specs.Known.{Sides, Known, no_sides, IsKnown, sides_at, change, IsLeft}

-- ---- one list

pub grown : (xs ys : List ℕ) (id : ℕ) (here : Bool) (Old New : ℕ → Type 0) → ys ≡ (if here then xs ++ id ∷ [] else xs)
    → ((q : ℕ) → Contains xs q ↔ Old q) → ((q : ℕ) → New q ↔ (Old q ⊎ (IsTrue here × (q ≡ id)))) → (q : ℕ)
    → Contains ys q ↔ New q
grown xs ys id true Old New is old new q = (
  λ c. elim (Contains-append_cases xs (id ∷ []) q (subst (λ zs. Contains zs q) is c)) [
    | inl before ↦ (new q).1 (inl ((old q).0 before))
    | inr at_end ↦ elim (in_cons q id [] at_end)
        [ inl same ↦ (new q).1 (inr (refl, sym same)) | inr none ↦ absurd (in_nil q none) ]
  ],
  λ h. subst (λ zs. Contains zs q) (sym is) (elim ((new q).0 h) [
    | inl before ↦ Contains-append_left xs (id ∷ []) q ((old q).1 before)
    | inr now ↦ Contains-append_right xs (id ∷ []) q (head_in q id [] (sym now.1))
  ]),
)
grown xs ys id false Old New is old new q = (
  λ c. (new q).1 (inl ((old q).0 (subst (λ zs. Contains zs q) is c))),
  λ h. elim ((new q).0 h) [
    | inl before ↦ subst (λ zs. Contains zs q) (sym is) ((old q).1 before)
    | inr now ↦
        absurd (false≢true now.0)
  ],
)

pub shrunk : (xs ys : List ℕ) (id : ℕ) (here : Bool) (Old New : ℕ → Type 0) → IsLeft here id xs ys
    → ((q : ℕ) → Contains xs q ↔ Old q) → ((q : ℕ) → New q ↔ (Old q × (q ≢ id))) → (here ≡ false → Old id → ⊥) → (q : ℕ)
    → Contains ys q ↔ New q
shrunk xs ys id true Old New is old new elsewhere q = (
  λ c. (let both = (is.others q).0 c in (new q).1 ((old q).0 both.0, both.1)),
  λ h. (let both = (new q).0 h in (is.others q).1 ((old q).1 both.0, both.1)),
)
shrunk xs ys id false Old New is old new elsewhere q = (
  λ c. (let before : Old q = (old q).0 (subst (λ zs. Contains zs q) is c) in
      (new q).1 (before, λ same. elsewhere refl (subst Old same before))),
  λ h. subst (λ zs. Contains zs q) (sym is) ((old q).1 ((new q).0 h).0),
)

-- ---- the parts that the arena tells

module _ (part : Path → Option ℕ) (lacks : part no_path ≡ None) where
  pub part_added : (a : Arena) (id key : ℕ) (p : Path) → path_at a id ≡ None → part p ≡ Some key → (k q : ℕ)
      → (part (path_of (with_path a id p) q) ≡ Some k) ↔
      ((part (path_of a q) ≡ Some k) ⊎ (IsTrue (k == key) × (q ≡ id)))
  part_added a id key p fresh is k q = by_case (cases_eq q id)
    where
      Then : Type 0
      Then = (part (path_of a q) ≡ Some k) ⊎ (IsTrue (k == key) × (q ≡ id))

      by_case : (q ≡ id) ⊎ (q ≢ id) → (part (path_of (with_path a id p) q) ≡ Some k) ↔
          ((part (path_of a q) ≡ Some k) ⊎ (IsTrue (k == key) × (q ≡ id)))
      by_case (inl same) =
          let now : path_of (with_path a id p) q ≡ p =
          ap (λ o. unwrap_or o no_path) (ap (path_at (with_path a id p)) same ∙ get_put a.paths id p) in
          let was : part (path_of a q) ≡ None =
          ap (λ o. part (unwrap_or o no_path)) (ap (path_at a) same ∙ fresh) ∙ lacks in (
            λ h. inr (eq-eqb k key (let two : Some k ≡ Some key = sym h ∙ ap part now ∙ is in cc), same),
            λ h. elim h [
              | inl before ↦ absurd (let two : None ≡ Some k = sym was ∙ before in cc)
              | inr now_is ↦ ap part now ∙ is ∙ ap Some (sym (eqb-true k key now_is.0))
            ],
          )
      by_case (inr apart) =
          let kept : path_of (with_path a id p) q ≡ path_of a q =
          ap (λ o. unwrap_or o no_path) (get_put_other a.paths id p q apart) in (
            λ h. inl (sym (ap part kept) ∙ h),
            λ h. elim h [ inl before ↦ ap part kept ∙ before | inr now_is ↦ absurd (apart now_is.1) ],
          )

  pub part_taken : (a : Arena) (id k q : ℕ)
      → (part (path_of (without_path a id) q) ≡ Some k) ↔ ((part (path_of a q) ≡ Some k) × (q ≢ id))
  part_taken a id k q = by_case (cases_eq q id)
    where
      by_case : (q ≡ id) ⊎ (q ≢ id) → (part (path_of (without_path a id) q) ≡ Some k) ↔
          ((part (path_of a q) ≡ Some k) × (q ≢ id))
      by_case (inl same) =
          let gone : part (path_of (without_path a id) q) ≡ None =
          ap (λ o. part (unwrap_or o no_path)) (ap (path_at (without_path a id)) same ∙ get_gone a.paths id)
          ∙ lacks in
          (λ h. absurd (let two : None ≡ Some k = sym gone ∙ h in cc), λ h. absurd (h.1 same))
      by_case (inr apart) =
          let kept : path_of (without_path a id) q ≡ path_of a q =
          ap (λ o. unwrap_or o no_path) (get_gone_other a.paths id q apart) in
          (λ h. (sym (ap part kept) ∙ h, apart), λ h. ap part kept ∙ h.0)

-- ---- lists of known ids

pub not_known : (m : Known) (id : ℕ) → (IsKnown m id → ⊥) → map.get m id ≡ None
not_known m id gone = go (map.get m id) refl
  where
    go : (o : Option Sides) → map.get m id ≡ o → map.get m id ≡ None
    go None e = e
    go (Some s) e = absurd (gone (ap is_some e))

pub sides_changed : (m : Known) (k : ℕ) (f : Sides → Sides) → sides_at (change m k f) k ≡ f (sides_at m k)
sides_changed m k f = ap (λ o. unwrap_or o no_sides) (get_put m k (f (sides_at m k)))

pub sides_other : (m : Known) (k : ℕ) (s : Sides) (q : ℕ) → q ≢ k → sides_at (map.insert m k s) q ≡ sides_at m q
sides_other m k s q apart = ap (λ o. unwrap_or o no_sides) (get_put_other m k s q apart)

-- two places are changed
pub sides_of_two : (m : Known) (l r : ℕ) (f g : Sides → Sides) (proj : Sides → List ℕ) (id k : ℕ)
    → ((s : Sides) → proj (f s) ≡ proj s ++ id ∷ []) → ((s : Sides) → proj (g s) ≡ proj s)
    → proj (sides_at (change (change m l f) r g) k) ≡
    (if k == l then proj (sides_at m k) ++ id ∷ [] else proj (sides_at m k))
sides_of_two m l r f g proj id k pushed kept = second (cases_eq k r)
  where
    first : (k ≡ l) ⊎ (k ≢ l) → proj (sides_at (change m l f) k) ≡
        (if k == l then proj (sides_at m k) ++ id ∷ [] else proj (sides_at m k))
    first (inl same) =
        ap (λ j. proj (sides_at (change m l f) j)) same ∙ ap proj (sides_changed m l f) ∙ pushed (sides_at m l)
        ∙ ap (λ j. proj (sides_at m j) ++ id ∷ []) (sym same)
        ∙ sym (ap (λ b. if b then proj (sides_at m k) ++ id ∷ [] else proj (sides_at m k)) (eq-eqb k l same))
    first (inr apart) =
        ap proj (sides_other m l (f (sides_at m l)) k apart)
        ∙ sym (ap (λ b. if b then proj (sides_at m k) ++ id ∷ [] else proj (sides_at m k)) (ne_eqb k l apart))

    second : (k ≡ r) ⊎ (k ≢ r) → proj (sides_at (change (change m l f) r g) k) ≡
        (if k == l then proj (sides_at m k) ++ id ∷ [] else proj (sides_at m k))
    second (inl same) =
        ap (λ j. proj (sides_at (change (change m l f) r g) j)) same ∙ ap proj (sides_changed (change m l f) r g)
        ∙ kept (sides_at (change m l f) r)
        ∙ ap (λ j. proj (sides_at (change m l f) j)) (sym same) ∙ first (cases_eq k l)
    second (inr apart) =
        ap proj (sides_other (change m l f) r (g (sides_at (change m l f) r)) k apart) ∙ first (cases_eq k l)

-- the same where the second change is the one that pushes
pub sides_of_two_later : (m : Known) (l r : ℕ) (f g : Sides → Sides) (proj : Sides → List ℕ) (id k : ℕ)
    → ((s : Sides) → proj (f s) ≡ proj s) → ((s : Sides) → proj (g s) ≡ proj s ++ id ∷ [])
    → proj (sides_at (change (change m l f) r g) k) ≡
    (if k == r then proj (sides_at m k) ++ id ∷ [] else proj (sides_at m k))
sides_of_two_later m l r f g proj id k kept pushed = second (cases_eq k r)
  where
    first : (j : ℕ) → (j ≡ l) ⊎ (j ≢ l) → proj (sides_at (change m l f) j) ≡ proj (sides_at m j)
    first j (inl same) =
        ap (λ i. proj (sides_at (change m l f) i)) same ∙ ap proj (sides_changed m l f) ∙ kept (sides_at m l)
        ∙ ap (λ i. proj (sides_at m i)) (sym same)
    first j (inr apart) = ap proj (sides_other m l (f (sides_at m l)) j apart)

    second : (k ≡ r) ⊎ (k ≢ r) → proj (sides_at (change (change m l f) r g) k) ≡
        (if k == r then proj (sides_at m k) ++ id ∷ [] else proj (sides_at m k))
    second (inl same) =
        ap (λ j. proj (sides_at (change (change m l f) r g) j)) same ∙ ap proj (sides_changed (change m l f) r g)
        ∙ pushed (sides_at (change m l f) r)
        ∙ ap (λ xs. xs ++ id ∷ []) (ap (λ j. proj (sides_at (change m l f) j)) (sym same) ∙ first k (cases_eq k l))
        ∙ sym (ap (λ b. if b then proj (sides_at m k) ++ id ∷ [] else proj (sides_at m k)) (eq-eqb k r same))
    second (inr apart) =
        ap proj (sides_other (change m l f) r (g (sides_at (change m l f) r)) k apart) ∙ first k (cases_eq k l)
        ∙ sym (ap (λ b. if b then proj (sides_at m k) ++ id ∷ [] else proj (sides_at m k)) (ne_eqb k r apart))

-- which ids are known where known ones are changed
pub known_put : (m : Known) (k : ℕ) (s : Sides) (q : ℕ) → IsKnown (map.insert m k s) q ↔ (IsKnown m q ⊎ (q ≡ k))
known_put m k s q = by_case (cases_eq q k)
  where
    by_case : (q ≡ k) ⊎ (q ≢ k) → IsKnown (map.insert m k s) q ↔ (IsKnown m q ⊎ (q ≡ k))
    by_case (inl same) = (λ h. inr same, λ h. ap is_some (ap (map.get (map.insert m k s)) same ∙ get_put m k s))
    by_case (inr apart) = (
      λ h. inl (sym (ap is_some (get_put_other m k s q apart)) ∙ h),
      λ h. elim h [ inl before ↦ ap is_some (get_put_other m k s q apart) ∙ before | inr same ↦ absurd (apart same) ],
    )

pub known_two : (m : Known) (l r : ℕ) (f g : Sides → Sides) (q : ℕ) → IsKnown m l → IsKnown m r
    → IsKnown (change (change m l f) r g) q ↔ IsKnown m q
known_two m l r f g q known_l known_r = (
  λ h. elim ((known_put (change m l f) r (g (sides_at (change m l f) r)) q).0 h) [
    | inl before ↦ elim ((known_put m l (f (sides_at m l)) q).0 before)
        [ inl was ↦ was | inr same ↦ subst (IsKnown m) (sym same) known_l ]
    | inr same ↦ subst (IsKnown m) (sym same) known_r
  ],
  λ h. (known_put (change m l f) r (g (sides_at (change m l f) r)) q).1
      (inl ((known_put m l (f (sides_at m l)) q).1 (inl h))),
)

-- neither change touches the list
pub sides_of_two_kept : (m : Known) (l r : ℕ) (f g : Sides → Sides) (proj : Sides → List ℕ) (k : ℕ)
    → ((s : Sides) → proj (f s) ≡ proj s) → ((s : Sides) → proj (g s) ≡ proj s)
    → proj (sides_at (change (change m l f) r g) k) ≡ proj (sides_at m k)
sides_of_two_kept m l r f g proj k first_kept second_kept = second (cases_eq k r)
  where
    first : (j : ℕ) → (j ≡ l) ⊎ (j ≢ l) → proj (sides_at (change m l f) j) ≡ proj (sides_at m j)
    first j (inl same) =
        ap (λ i. proj (sides_at (change m l f) i)) same ∙ ap proj (sides_changed m l f) ∙ first_kept (sides_at m l)
        ∙ ap (λ i. proj (sides_at m i)) (sym same)
    first j (inr apart) = ap proj (sides_other m l (f (sides_at m l)) j apart)

    second : (k ≡ r) ⊎ (k ≢ r) → proj (sides_at (change (change m l f) r g) k) ≡ proj (sides_at m k)
    second (inl same) =
        ap (λ j. proj (sides_at (change (change m l f) r g) j)) same ∙ ap proj (sides_changed (change m l f) r g)
        ∙ second_kept (sides_at (change m l f) r)
        ∙ ap (λ j. proj (sides_at (change m l f) j)) (sym same) ∙ first k (cases_eq k l)
    second (inr apart) =
        ap proj (sides_other (change m l f) r (g (sides_at (change m l f) r)) k apart) ∙ first k (cases_eq k l)
