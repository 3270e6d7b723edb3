-- Items parted into groups, and groups one behind the other: for the second text in `Words` and `Texts`, and for `Rows`.
use Rattle.std.specs.Prelude.{◌≡◌, ℕ, ◌<◌, ◌≤◌, ⊤, Bool, true, false, ◌==◌, ◌&&◌, nat_lt, if◌then◌else◌, List, [], ◌∷◌, ◌++◌, length, Option, Some, None, refl}
use Rattle.std.specs.FinMap as map
use Rattle.std.proofs.Common.{sym, ◌∙◌, ap, subst, arith}
use Rattle.std.proofs.lemmas.Bool.{eq-eqb, ne_eqb}
use Rattle.std.proofs.lemmas.Bool.Decides.{nat_tests}
use Rattle.apsp_model.specs.Graph.{pair_cmp}
use Rattle.certificate.specs.Groups.{insert_all, onto_groups, groups_of}
use Rattle.certificate.specs.Reading.{rises, is_above, seconds_rise}
use Rattle.certificate.proofs.Maps.{Rising, EachOf, each_weaker}

above_is : (u w : ℕ) → is_above (Some u) w ≡ true → u < w
above_is u w h = grind (arith, nat_tests)

rises_first : (a b c d : ℕ) → rises (Some (a, b)) (c, d) ≡ true → (a ≡ c → ⊥) → nat_lt a c ≡ true
rises_first a b c d r other = grind (arith, nat_tests)

rises_second : (a b c d : ℕ) → rises (Some (a, b)) (c, d) ≡ true → a ≡ c → nat_lt b d ≡ true
rises_second a b c d r same = grind (arith, nat_tests)

equal_if : (a b : ℕ) → (a == b) ≡ true → a ≡ b
equal_if a b h = grind (arith, nat_tests)

apart_if : (a b : ℕ) → (a == b) ≡ false → a ≡ b → ⊥
apart_if a b h e = grind (arith, nat_tests)

both_hold : (a b : Bool) → a ≡ true → b ≡ true → (a && b) ≡ true
both_hold true b p q = q
both_hold false b p q = cc

module _ {V : Type 0} where
  -- the items of groups, one behind the other
  abbrev pub all_of : List (List ((ℕ × ℕ) × V)) → List ((ℕ × ℕ) × V)
  all_of [] = []
  all_of (g ∷ gs) = g ++ all_of gs

  -- some items with one first number, which stands above the one before, and whose second numbers rise
  pub record IsGroup (before : Option ℕ) (u : ℕ) (es : List ((ℕ × ℕ) × V)) : Type 0 where
    pub some : 1 ≤ length es
    pub from : EachOf (λ e. e.0.0 ≡ u) es
    pub above : is_above before u ≡ true
    pub rise : seconds_rise None es ≡ true

  abbrev pub AreGroups : Option ℕ → List (List ((ℕ × ℕ) × V)) → Type 0
  AreGroups before [] = ⊤
  AreGroups before (g ∷ gs) = (u : ℕ) × IsGroup before u g × AreGroups (Some u) gs

  -- ---- what holds of items behind items

  pub each_both : (P : (ℕ × ℕ) × V → Type 0) (es fs : List ((ℕ × ℕ) × V)) → EachOf P es → EachOf P fs
      → EachOf P (es ++ fs)
  each_both P [] fs h k = k
  each_both P (e ∷ es) fs h k = (h.0, each_both P es fs h.1 k)

  pub each_front : (P : (ℕ × ℕ) × V → Type 0) (es fs : List ((ℕ × ℕ) × V)) → EachOf P (es ++ fs)
      → EachOf P es × EachOf P fs
  each_front P [] fs h = (tt, h)
  each_front P (e ∷ es) fs h = let r = each_front P es fs h.1 in ((h.0, r.0), r.1)

  pub insert_both : (m : map.FinMap pair_cmp V) (es fs : List ((ℕ × ℕ) × V))
      → insert_all m (es ++ fs) ≡ insert_all (insert_all m es) fs
  insert_both m [] fs = refl
  insert_both m (e ∷ es) fs = insert_both (map.insert m e.0 e.1) es fs

  -- ---- groups and their items

  same_first : (e f : (ℕ × ℕ) × V) (g : List ((ℕ × ℕ) × V)) (gs : List (List ((ℕ × ℕ) × V))) → e.0.0 ≡ f.0.0
      → onto_groups e ((f ∷ g) ∷ gs) ≡ (e ∷ f ∷ g) ∷ gs
  same_first e f g gs h =
      ap (λ b. if b then (e ∷ f ∷ g) ∷ gs else (e ∷ []) ∷ (f ∷ g) ∷ gs) (eq-eqb e.0.0 f.0.0 h)

  other_first : (e f : (ℕ × ℕ) × V) (g : List ((ℕ × ℕ) × V)) (gs : List (List ((ℕ × ℕ) × V)))
      → (e.0.0 ≡ f.0.0 → ⊥) → onto_groups e ((f ∷ g) ∷ gs) ≡ (e ∷ []) ∷ (f ∷ g) ∷ gs
  other_first e f g gs h =
      ap (λ b. if b then (e ∷ f ∷ g) ∷ gs else (e ∷ []) ∷ (f ∷ g) ∷ gs) (ne_eqb e.0.0 f.0.0 h)

  before_groups : (u : ℕ) (e : (ℕ × ℕ) × V) (gs : List (List ((ℕ × ℕ) × V))) → e.0.0 ≡ u → AreGroups (Some u) gs
      → onto_groups e gs ≡ (e ∷ []) ∷ gs
  before_groups u e [] h k = refl
  before_groups u e ([] ∷ gs) h k = absurd (omega (arith, k.1.some))
  before_groups u e ((f ∷ g) ∷ gs) h k =
      let l : u < k.0 = above_is u k.0 k.1.above in
      other_first e f g gs (λ same. omega (arith, l, h, same, k.1.from.0))

  -- a group before groups is parted from them
  parted_first : (u : ℕ) (g : List ((ℕ × ℕ) × V)) (gs : List (List ((ℕ × ℕ) × V))) → 1 ≤ length g
      → EachOf (λ e. e.0.0 ≡ u) g → AreGroups (Some u) gs → groups_of (all_of gs) ≡ gs
      → groups_of (g ++ all_of gs) ≡ g ∷ gs
  parted_first u [] gs some from later h = absurd (omega (arith, some))
  parted_first u (e ∷ []) gs some from later h = ap (onto_groups e) h ∙ before_groups u e gs from.0 later
  parted_first u (e ∷ f ∷ g) gs some from later h =
      ap (onto_groups e) (parted_first u (f ∷ g) gs (omega arith) from.1 later h)
      ∙ same_first e f g gs (from.0 ∙ sym from.1.0)

  -- the items of groups are parted into them
  pub parted_again : (before : Option ℕ) (gs : List (List ((ℕ × ℕ) × V))) → AreGroups before gs
      → groups_of (all_of gs) ≡ gs
  parted_again before [] h = refl
  parted_again before (g ∷ gs) h =
      parted_first h.0 g gs h.1.some h.1.from h.2 (parted_again (Some h.0) gs h.2)

  -- what rising items are parted into: their groups, the first of which begins with the first of them
  record IsHeaded (e : (ℕ × ℕ) × V) (es : List ((ℕ × ℕ) × V)) : Type 0 where
    g : List ((ℕ × ℕ) × V)
    gs : List (List ((ℕ × ℕ) × V))
    is : groups_of (e ∷ es) ≡ (e ∷ g) ∷ gs
    from : EachOf (λ f. f.0.0 ≡ e.0.0) g
    rise : seconds_rise (Some e.0.1) g ≡ true
    later : AreGroups (Some e.0.0) gs
    all : g ++ all_of gs ≡ es

  headed : (e : (ℕ × ℕ) × V) (es : List ((ℕ × ℕ) × V)) → Rising (Some e.0) es → IsHeaded e es
  headed e [] h = record { g = []; gs = []; is = refl; from = tt; rise = refl; later = tt; all = refl }
  headed e (f ∷ es) h = at (e.0.0 == f.0.0) refl (headed f es h.1)
    where
      at : (b : Bool) → (e.0.0 == f.0.0) ≡ b → IsHeaded f es → IsHeaded e (f ∷ es)
      at true t k =
          let same : e.0.0 ≡ f.0.0 = equal_if e.0.0 f.0.0 t in
          record {
            g = f ∷ k.g;
            gs = k.gs;
            is = ap (onto_groups e) k.is ∙ same_first e f k.g k.gs same;
            from = (
              sym same,
              each_weaker (λ d. d.0.0 ≡ f.0.0) (λ d. d.0.0 ≡ e.0.0) k.g (λ d p. p ∙ sym same) k.from,
            );
            rise = both_hold (nat_lt e.0.1 f.0.1) (seconds_rise (Some f.0.1) k.g)
                (rises_second e.0.0 e.0.1 f.0.0 f.0.1 h.0 same) k.rise;
            later = subst (λ u. AreGroups (Some u) k.gs) (sym same) k.later;
            all = ap (λ l. f ∷ l) k.all;
          }
      at false t k =
          let other : e.0.0 ≡ f.0.0 → ⊥ = apart_if e.0.0 f.0.0 t in
          record {
            g = [];
            gs = (f ∷ k.g) ∷ k.gs;
            is = ap (onto_groups e) k.is ∙ other_first e f k.g k.gs other;
            from = tt;
            rise = refl;
            later = (
              f.0.0,
              record {
                some = omega arith;
                from = (refl, k.from);
                above = rises_first e.0.0 e.0.1 f.0.0 f.0.1 h.0 other;
                rise = k.rise;
              },
              k.later,
            );
            all = ap (λ l. f ∷ l) k.all;
          }

  -- rising items are parted into groups
  pub record IsParted (es : List ((ℕ × ℕ) × V)) : Type 0 where
    pub groups : AreGroups None (groups_of es)
    pub all : all_of (groups_of es) ≡ es

  pub parted : (es : List ((ℕ × ℕ) × V)) → Rising None es → IsParted es
  parted [] h = record { groups = tt; all = refl }
  parted (e ∷ es) h =
      let k = headed e es h.1 in
      let first : IsGroup None e.0.0 (e ∷ k.g) =
      record { some = omega arith; from = (refl, k.from); above = refl; rise = k.rise } in
      record {
        groups = subst (AreGroups None) (sym k.is) (e.0.0, first, k.later);
        all = ap all_of k.is ∙ ap (λ l. e ∷ l) k.all;
      }

  -- ---- the items of groups rise

  rising_behind : (u v : ℕ) (es rest : List ((ℕ × ℕ) × V)) → EachOf (λ e. e.0.0 ≡ u) es
      → seconds_rise (Some v) es ≡ true → ((w : ℕ) → Rising (Some (u, w)) rest) → Rising (Some (u, v)) (es ++ rest)
  rising_behind u v [] rest from rise later = later v
  rising_behind u v (e ∷ es) rest from rise later =
      let s = split (nat_lt v e.0.1) (seconds_rise (Some e.0.1) es) rise in
      let P : ℕ → Type 0 = λ k. Rising (Some (k, e.0.1)) (es ++ rest) in
      (up u v e.0.0 e.0.1 (sym from.0) s.0, subst P (sym from.0) (rising_behind u e.0.1 es rest from.1 s.1 later))
    where
      split : (a b : Bool) → (a && b) ≡ true → (a ≡ true) × (b ≡ true)
      split true b h = (refl, h)
      split false b h = cc

      up : (a b c d : ℕ) → a ≡ c → nat_lt b d ≡ true → rises (Some (a, b)) (c, d) ≡ true
      up a b c d e h = grind (arith, nat_tests)

  rising_group : (before : Option (ℕ × ℕ)) (u : ℕ) (es rest : List ((ℕ × ℕ) × V)) → 1 ≤ length es
      → EachOf (λ e. e.0.0 ≡ u) es → seconds_rise None es ≡ true → ((v : ℕ) → rises before (u, v) ≡ true)
      → ((w : ℕ) → Rising (Some (u, w)) rest) → Rising before (es ++ rest)
  rising_group before u [] rest some from rise up later = absurd (omega (arith, some))
  rising_group before u (e ∷ es) rest some from rise up later =
      let P : ℕ → Type 0 = λ k. rises before (k, e.0.1) ≡ true in
      let Q : ℕ → Type 0 = λ k. Rising (Some (k, e.0.1)) (es ++ rest) in (
        subst P (sym from.0) (up e.0.1),
        subst Q (sym from.0) (rising_behind u e.0.1 es rest from.1 rise later),
      )

  rising_from : (u w : ℕ) (gs : List (List ((ℕ × ℕ) × V))) → AreGroups (Some u) gs → Rising (Some (u, w)) (all_of gs)
  rising_from u w [] h = tt
  rising_from u w (g ∷ gs) h =
      rising_group (Some (u, w)) h.0 g (all_of gs) h.1.some h.1.from h.1.rise
      (λ v. up u w h.0 v h.1.above) (λ v. rising_from h.0 v gs h.2)
    where
      up : (a b c d : ℕ) → is_above (Some a) c ≡ true → rises (Some (a, b)) (c, d) ≡ true
      up a b c d h = grind (arith, nat_tests)

  pub rising_all : (gs : List (List ((ℕ × ℕ) × V))) → AreGroups None gs → Rising None (all_of gs)
  rising_all [] h = tt
  rising_all (g ∷ gs) h =
      rising_group None h.0 g (all_of gs) h.1.some h.1.from h.1.rise (λ v. refl)
      (λ v. rising_from h.0 v gs h.2)

  -- ---- items behind items with lower first numbers

  -- one group, where there are items
  abbrev pub group_if_some : List ((ℕ × ℕ) × V) → List (List ((ℕ × ℕ) × V))
  group_if_some [] = []
  group_if_some (e ∷ es) = (e ∷ es) ∷ []

  alone : (u : ℕ) (e : (ℕ × ℕ) × V) (b : List ((ℕ × ℕ) × V)) → EachOf (λ e. e.0.0 ≡ u) (e ∷ b)
      → groups_of (e ∷ b) ≡ (e ∷ b) ∷ []
  alone u e [] from = refl
  alone u e (f ∷ b) from =
      ap (onto_groups e) (alone u f b from.1) ∙ same_first e f b [] (from.0 ∙ sym from.1.0)

  onto_some : (e : (ℕ × ℕ) × V) (gs : List (List ((ℕ × ℕ) × V))) → 1 ≤ length (onto_groups e gs)
  onto_some e [] = omega arith
  onto_some e ([] ∷ gs) = omega arith
  onto_some e ((f ∷ g) ∷ gs) = at (e.0.0 == f.0.0)
    where
      at : (b : Bool) → 1 ≤ length (if b then (e ∷ f ∷ g) ∷ gs else (e ∷ []) ∷ (f ∷ g) ∷ gs)
      at true = omega arith
      at false = omega arith

  onto_both : (e : (ℕ × ℕ) × V) (gs hs : List (List ((ℕ × ℕ) × V))) → 1 ≤ length gs
      → onto_groups e (gs ++ hs) ≡ onto_groups e gs ++ hs
  onto_both e [] hs some = absurd (omega (arith, some))
  onto_both e ([] ∷ gs) hs some = refl
  onto_both e ((f ∷ g) ∷ gs) hs some = at (e.0.0 == f.0.0)
    where
      at : (b : Bool) → (if b then (e ∷ f ∷ g) ∷ gs ++ hs else (e ∷ []) ∷ (f ∷ g) ∷ gs ++ hs) ≡
          (if b then (e ∷ f ∷ g) ∷ gs else (e ∷ []) ∷ (f ∷ g) ∷ gs) ++ hs
      at true = refl
      at false = refl

  pub parted_last : (u : ℕ) (a b : List ((ℕ × ℕ) × V)) → EachOf (λ e. e.0.0 < u) a → EachOf (λ e. e.0.0 ≡ u) b
      → groups_of (a ++ b) ≡ groups_of a ++ group_if_some b
  parted_last u [] [] low from = refl
  parted_last u [] (e ∷ b) low from = alone u e b from
  parted_last u (e ∷ []) [] low from = refl
  parted_last u (e ∷ []) (f ∷ b) low from =
      ap (onto_groups e) (alone u f b from)
      ∙ other_first e f b [] (λ same. omega (arith, low.0, same, from.0))
  parted_last u (e ∷ f ∷ a) b low from =
      ap (onto_groups e) (parted_last u (f ∷ a) b low.1 from)
      ∙ onto_both e (groups_of (f ∷ a)) (group_if_some b) (onto_some f (groups_of a))
