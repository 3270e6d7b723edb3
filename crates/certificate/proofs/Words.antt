-- The lines of text 2, from the text to the items and back: for `Texts`.
use Rattle.std.specs.Prelude.{◌≡◌, ℕ, zero, suc, ◌+◌, ◌-◌, ◌<◌, ◌≤◌, ◌^◌, Bool, true, false, not, ◌==◌, ◌&&◌, if◌then◌else◌, List, [], ◌∷◌, ◌++◌, map as each, length, Option, Some, None, Result, Ok, Err, refl}
use Rattle.std.specs.List.{list_all}
use Rattle.std.specs.FinMap as map
use Rattle.std.specs.Fmt.{decimal}
use Rattle.std.proofs.Common.{sym, ◌∙◌, ap, subst, arith, append_assoc, append-nil, length-append}
use Rattle.std.proofs.lemmas.Bool.{eq-eqb, ne_eqb}
use Rattle.std.proofs.lemmas.Bool.Decides.{nat_tests}
use Rattle.apsp_model.specs.Graph.{pair_cmp}
use Rattle.certificate.specs.declared.CertError.{CertError}
use Rattle.certificate.specs.declared.CertError.TheVariants.{Order, Range}
use Rattle.certificate.specs.Cuts.{onto_front, cut, ◌and_then◌, number_before, word_or_all}
use Rattle.certificate.specs.Groups.{insert_all}
use Rattle.certificate.specs.Grammar.{words_text, group_text, joined}
use Rattle.certificate.specs.Reading.{◌>>=◌, or_shape, Rest, line_at, words_in, group_in, is_above, seconds_rise, group_line, groups_onto}
use Rattle.certificate.proofs.Cutting.{avoids, IsCutAt, cut_parts, cut_again, avoids-append, newline_apart, space_apart}
use Rattle.certificate.proofs.Spellings.{joint, bound, shaped, ok_same, some_same, word_avoids, IsSpelledBefore, number_before_parts, number_before_again, line_again, IsLine, line_parts}
use Rattle.certificate.proofs.Maps.{EachOf}
use Rattle.certificate.proofs.Forms.{IsWordForm, IsItem}
use Rattle.certificate.proofs.Parting.{all_of, IsGroup, AreGroups, each_both, each_front, insert_both}

-- a text without the byte is not cut
cut_none : (c : ℕ) (s : List ℕ) → avoids c s ≡ true → cut c s ≡ None
unfolding cut
cut_none c [] h = refl
cut_none c (b ∷ bs) h = at (b == c) (cut_none c bs) h
  where
    at : (t : Bool) → (avoids c bs ≡ true → cut c bs ≡ None) → (not t && avoids c bs) ≡ true
        → (if t then Some ([], bs) else onto_front b (cut c bs)) ≡ None
    at true again e = cc
    at false again e = ap (onto_front b) (again e)

zero_if : (k : ℕ) → (k == 0) ≡ true → k ≡ 0
zero_if k h = grind (arith, nat_tests)

some_if : (k : ℕ) → (k == 0) ≡ false → 1 ≤ k
some_if k h = grind (arith, nat_tests)

both_of : (a b : Bool) → (a && b) ≡ true → (a ≡ true) × (b ≡ true)
both_of true b h = (refl, h)
both_of false b h = cc

-- a line and the lines behind it
line_behind : (l : List ℕ) (ls : List (List ℕ)) (t : List ℕ) → joined (l ∷ ls) ++ t ≡ l ++ 10 ∷ (joined ls ++ t)
line_behind l ls t = append_assoc (l ++ 10 ∷ []) (joined ls) t ∙ append_assoc l (10 ∷ []) (joined ls ++ t)

module _ {V : Type 0} (item_in : ℕ → List ℕ → Option ((ℕ × ℕ) × V)) (fits : (ℕ × ℕ) × V → Bool)
    (word : (ℕ × ℕ) × V → List ℕ) (Few : (ℕ × ℕ) × V → Type 0) (form : IsWordForm item_in fits word Few) where
  -- ---- the words of a line

  -- s is the words of the items, which are some and at most so many
  record AreWords (u most : ℕ) (s : List ℕ) (es : List ((ℕ × ℕ) × V)) : Type 0 where
    some : 1 ≤ length es
    few : length es ≤ most
    text : 32 ∷ s ≡ words_text word es
    from : EachOf (λ e. e.0.0 ≡ u) es
    small : EachOf Few es

  abbrev RestWords : ℕ → ℕ → Option (List ℕ) → Option (List ((ℕ × ℕ) × V))
  RestWords u k None = Some []
  RestWords u k (Some t) = words_in (item_in u) k t

  words_parts : (u k : ℕ) (s : List ℕ) (es : List ((ℕ × ℕ) × V)) → words_in (item_in u) k s ≡ Some es
      → AreWords u k s es
  words_parts u zero s es h = cc
  words_parts u (suc k) s es h = at (cut 32 s) refl (λ t fs e. words_parts u k t fs e) h
    where
      at : (o : Option (List ℕ × List ℕ)) → cut 32 s ≡ o
          → ((t : List ℕ) (fs : List ((ℕ × ℕ) × V)) → words_in (item_in u) k t ≡ Some fs → AreWords u k t fs)
          → (item_in u (word_or_all s o).0 and_then (λ e.
          (elim (word_or_all s o).1 [ None ↦ Some [] | Some t ↦ words_in (item_in u) k t ]) and_then
          (λ es. Some (e ∷ es)))) ≡ Some es → AreWords u (suc k) s es
      at None c again h =
          let a = joint (item_in u s) (λ e. Some (e ∷ [])) es h in
          let p = form.parts u s a.value a.first in
          let made : AreWords u (suc k) s (a.value ∷ []) = record {
            some = omega arith;
            few = omega arith;
            text = ap (λ w. 32 ∷ w) (p.0 ∙ sym (append-nil (word a.value)));
            from = (p.1, tt);
            small = (p.2, tt);
          } in
          subst (AreWords u (suc k) s) (some_same (a.value ∷ []) es a.second) made
      at (Some q) c again h =
          let a = joint (item_in u q.0) (λ e. words_in (item_in u) k q.1 and_then (λ es. Some (e ∷ es))) es h in
          let b = joint (words_in (item_in u) k q.1) (λ es. Some (a.value ∷ es)) es a.second in
          let p = form.parts u q.0 a.value a.first in
          let place : IsCutAt 32 s q.0 q.1 = cut_parts 32 s q.0 q.1 c in
          let later : AreWords u k q.1 b.value = again q.1 b.value b.first in
          let made : AreWords u (suc k) s (a.value ∷ b.value) = record {
            some = omega arith;
            few = omega (arith, later.few);
            text = ap (λ w. 32 ∷ w) (place.whole ∙ ap (λ w. w ++ 32 ∷ q.1) p.0
                ∙ ap (λ w. word a.value ++ w) later.text);
            from = (p.1, later.from);
            small = (p.2, later.small);
          } in
          subst (AreWords u (suc k) s) (some_same (a.value ∷ b.value) es b.second) made

  -- the words behind the first space
  abbrev behind : (ℕ × ℕ) × V → List ((ℕ × ℕ) × V) → List ℕ
  behind e es = word e ++ words_text word es

  words_again : (u k : ℕ) (e : (ℕ × ℕ) × V) (es : List ((ℕ × ℕ) × V)) → length (e ∷ es) ≤ k
      → EachOf (λ e. e.0.0 ≡ u) (e ∷ es) → EachOf (IsItem fits Few) (e ∷ es)
      → words_in (item_in u) k (behind e es) ≡ Some (e ∷ es)
  words_again u zero e es few from all = absurd (omega (arith, few))
  words_again u (suc k) e [] few from all =
      let again = form.again e all.0.fit all.0.few in
      let here : item_in u (word e) ≡ Some e = subst (λ v. item_in v (word e) ≡ Some e) from.0 again.0 in
      ap (words_in (item_in u) (suc k)) (append-nil (word e))
      ∙ ap (λ o. item_in u (word_or_all (word e) o).0 and_then (λ d.
      (elim (word_or_all (word e) o).1 [ None ↦ Some [] | Some t ↦ words_in (item_in u) k t ]) and_then
      (λ ds. Some (d ∷ ds)))) (cut_none 32 (word e) again.1)
      ∙ ap (λ o. o and_then (λ e. Some (e ∷ []))) here
  words_again u (suc k) e (f ∷ es) few from all =
      let again = form.again e all.0.fit all.0.few in
      let here : item_in u (word e) ≡ Some e = subst (λ v. item_in v (word e) ≡ Some e) from.0 again.0 in
      let later : words_in (item_in u) k (behind f es) ≡ Some (f ∷ es) =
      words_again u k f es (omega (arith, few)) from.1 all.1 in
      ap (λ o. item_in u (word_or_all (behind e (f ∷ es)) o).0 and_then (λ d.
      (elim (word_or_all (behind e (f ∷ es)) o).1 [ None ↦ Some [] | Some t ↦ words_in (item_in u) k t ]) and_then
      (λ ds. Some (d ∷ ds)))) (cut_again 32 (word e) (behind f es) again.1)
      ∙ ap (λ o. o and_then (λ e. words_in (item_in u) k (behind f es) and_then (λ es. Some (e ∷ es)))) here
      ∙ ap (λ o. o and_then (λ es. Some (e ∷ es))) later

  words_avoid : (es : List ((ℕ × ℕ) × V)) → EachOf (IsItem fits Few) es → avoids 10 (words_text word es) ≡ true
  words_avoid [] all = refl
  words_avoid (e ∷ es) all =
      avoids-append 10 (word e) (words_text word es) (form.again e all.0.fit all.0.few).2 (words_avoid es all.1)

  -- ---- a line

  -- a line's text is that of its items
  record IsGroupText (most : ℕ) (line : List ℕ) (u : ℕ) (es : List ((ℕ × ℕ) × V)) : Type 0 where
    some : 1 ≤ length es
    few : length es ≤ most
    text : line ≡ group_text word es
    from : EachOf (λ e. e.0.0 ≡ u) es
    small : EachOf Few es

  group_parts : (most : ℕ) (line : List ℕ) (g : ℕ × List ((ℕ × ℕ) × V)) → group_in item_in most line ≡ Some g
      → IsGroupText most line g.0 g.1
  group_parts most line g h =
      let a = joint (number_before 32 line) (λ a. words_in (item_in a.0) most a.1 and_then (λ es. Some (a.0, es))) g h
      in
      let b = joint (words_in (item_in a.value.0) most a.value.1) (λ es. Some (a.value.0, es)) g a.second in
      let n : IsSpelledBefore 32 line a.value.1 a.value.0 = number_before_parts 32 line a.value a.first in
      let w : AreWords a.value.0 most a.value.1 b.value = words_parts a.value.0 most a.value.1 b.value b.first in
      let P : ℕ × List ((ℕ × ℕ) × V) → Type 0 = λ x. IsGroupText most line x.0 x.1 in
      subst P (some_same (a.value.0, b.value) g b.second) (record {
        some = w.some;
        few = w.few;
        text = n.whole ∙ ap (λ r. decimal a.value.0 ++ r) w.text ∙ with_first a.value.0 b.value w.some w.from;
        from = w.from;
        small = w.small;
      })
    where
      with_first : (u : ℕ) (es : List ((ℕ × ℕ) × V)) → 1 ≤ length es → EachOf (λ e. e.0.0 ≡ u) es
          → decimal u ++ words_text word es ≡ group_text word es
      with_first u [] some from = absurd (omega (arith, some))
      with_first u (e ∷ es) some from = ap (λ k. decimal k ++ words_text word (e ∷ es)) (sym from.0)

  -- what is read of a group's text, and that it has no newline
  group_again : (most u : ℕ) (es : List ((ℕ × ℕ) × V)) → 1 ≤ length es → length es ≤ most
      → EachOf (λ e. e.0.0 ≡ u) es → EachOf (IsItem fits Few) es
      → (group_in item_in most (group_text word es) ≡ Some (u, es)) × (avoids 10 (group_text word es) ≡ true)
  group_again most u [] some few from all = absurd (omega (arith, some))
  group_again most u (e ∷ es) some few from all =
      let small : e.0.0 < 10 ^ 18 = form.first e all.0.fit in
      let counted : number_before 32 (group_text word (e ∷ es)) ≡ Some (u, behind e es) =
      number_before_again 32 e.0.0 (behind e es) space_apart small ∙ ap (λ k. Some (k, behind e es)) from.0 in (
        ap (λ o. o and_then (λ a. words_in (item_in a.0) most a.1 and_then (λ es. Some (a.0, es)))) counted
            ∙ ap (λ o. o and_then (λ es. Some (u, es))) (words_again u most e es few from all),
        avoids-append 10 (decimal e.0.0) (words_text word (e ∷ es)) (word_avoids 10 e.0.0 newline_apart small)
            (words_avoid (e ∷ es) all),
      )

  all_fit : (es : List ((ℕ × ℕ) × V)) → list_all fits es ≡ true → EachOf Few es → EachOf (IsItem fits Few) es
  all_fit [] h few = tt
  all_fit (e ∷ es) h few =
      let s = both_of (fits e) (list_all fits es) h in
      (record { fit = s.0; few = few.0 }, all_fit es s.1 few.1)

  fit_all : (es : List ((ℕ × ℕ) × V)) → EachOf (IsItem fits Few) es → list_all fits es ≡ true
  fit_all [] all = refl
  fit_all (e ∷ es) all = ap (λ b. b && list_all fits es) all.0.fit ∙ fit_all es all.1

  record IsGroupLine (most : ℕ) (before : Option ℕ) (r : Rest) (u : ℕ) (es : List ((ℕ × ℕ) × V)) (next : Rest)
      : Type 0 where
    group : IsGroup before u es
    few : length es ≤ most
    items : EachOf (IsItem fits Few) es
    place : IsLine r (group_text word es) next

  group_line_parts : (most : ℕ) (before : Option ℕ) (r : Rest) (x : (ℕ × List ((ℕ × ℕ) × V)) × Rest)
      → group_line item_in fits most before r ≡ Ok x → IsGroupLine most before r x.0.0 x.0.1 x.1
  group_line_parts most before r x h =
      let a = bound (line_at r) (λ l. or_shape (group_in item_in most l.0) r.number >>= (λ g.
      if not (list_all fits g.1) then Err (Range r.number) else
      (if is_above before g.0 && seconds_rise None g.1 then Ok (g, l.1) else Err (Order r.number)))) x h in
      let b = bound (or_shape (group_in item_in most a.value.0) r.number) (λ g.
      if not (list_all fits g.1) then Err (Range r.number) else
      (if is_above before g.0 && seconds_rise None g.1 then Ok (g, a.value.1) else Err (Order r.number))) x a.second
      in
      let l : IsLine r a.value.0 a.value.1 = line_parts r a.value a.first in
      let t = group_parts most a.value.0 b.value
      (shaped (group_in item_in most a.value.0) r.number b.value b.first) in
      let P : List ℕ → Type 0 = λ w. IsLine r w a.value.1 in
      tested b.value a.value.1 (list_all fits b.value.1) refl
      (is_above before b.value.0 && seconds_rise None b.value.1) refl a.value.0 t (subst P t.text l) b.second
    where
      tested : (g : ℕ × List ((ℕ × ℕ) × V)) (next : Rest) (b : Bool) → list_all fits g.1 ≡ b → (c : Bool)
          → (is_above before g.0 && seconds_rise None g.1) ≡ c → (line : List ℕ) → IsGroupText most line g.0 g.1
          → IsLine r (group_text word g.1) next → (if not b then Err (Range r.number) else
          (if c then Ok (g, next) else Err (Order r.number))) ≡ Ok x → IsGroupLine most before r x.0.0 x.0.1 x.1
      tested g next true f true u line t l h =
          let s = both_of (is_above before g.0) (seconds_rise None g.1) u in
          let made : IsGroupLine most before r g.0 g.1 next = record {
            group = record { some = t.some; from = t.from; above = s.0; rise = s.1 };
            few = t.few;
            items = all_fit g.1 f t.small;
            place = l;
          } in
          let P : (ℕ × List ((ℕ × ℕ) × V)) × Rest → Type 0 = λ y. IsGroupLine most before r y.0.0 y.0.1 y.1 in
          let same : ◌≡◌ {A = (ℕ × List ((ℕ × ℕ) × V)) × Rest} (g, next) x = ok_same (g, next) x h in
          subst P same made
      tested g next true f false u line t l h = cc
      tested g next false f c u line t l h = cc

  group_line_again : (most : ℕ) (before : Option ℕ) (number u : ℕ) (es : List ((ℕ × ℕ) × V)) (rest : List ℕ)
      → IsGroup before u es → length es ≤ most → EachOf (IsItem fits Few) es
      → group_line item_in fits most before
      (record { number = number; bytes = group_text word es ++ 10 ∷ rest }) ≡ Ok
      ((u, es), record { number = number + 1; bytes = rest })
  group_line_again most before number u es rest g few all =
      let again = group_again most u es g.some few g.from all in
      ap (λ m. m >>= (λ l. or_shape (group_in item_in most l.0) number >>= (λ g.
      if not (list_all fits g.1) then Err (Range number) else
      (if is_above before g.0 && seconds_rise None g.1 then Ok (g, l.1) else Err (Order number)))))
      (line_again number (group_text word es) rest again.1)
      ∙ ap (λ o. or_shape o number >>= (λ g. if not (list_all fits g.1) then Err (Range number) else
      (if is_above before g.0 && seconds_rise None g.1 then Ok (g, record { number = number + 1; bytes = rest }) else
      Err (Order number)))) again.0
      ∙ ap (λ b. if not b then Err (Range number) else
      (if is_above before u && seconds_rise None es then Ok ((u, es), record { number = number + 1; bytes = rest }) else
      Err (Order number))) (fit_all es all)
      ∙ ap (λ b. if b && seconds_rise None es then Ok ((u, es), record { number = number + 1; bytes = rest }) else
      Err (Order number)) g.above
      ∙ ap (λ b. if b then Ok ((u, es), record { number = number + 1; bytes = rest }) else Err (Order number)) g.rise

  -- ---- the lines of a table

  pub record AreGroupLines (m : map.FinMap pair_cmp V) (left : ℕ) (before : Option ℕ) (r : Rest)
      (n : map.FinMap pair_cmp V) (next : Rest) : Type 0 where
    pub gs : List (List ((ℕ × ℕ) × V))
    pub groups : AreGroups before gs
    pub count : length (all_of gs) ≡ left
    pub bytes : r.bytes ≡ joined (each (group_text word) gs) ++ next.bytes
    pub all : EachOf (IsItem fits Few) (all_of gs)
    pub made : n ≡ insert_all m (all_of gs)

  no_lines : (m : map.FinMap pair_cmp V) (left : ℕ) (before : Option ℕ) (r : Rest) (x : map.FinMap pair_cmp V × Rest)
      → left ≡ 0 → ◌≡◌ {A = Result (map.FinMap pair_cmp V × Rest) CertError} (Ok (m, r)) (Ok x)
      → AreGroupLines m left before r x.0 x.1
  no_lines m left before r x none h =
      let made : AreGroupLines m left before r m r =
      record { gs = []; groups = tt; count = sym none; bytes = refl; all = tt; made = refl } in
      let P : map.FinMap pair_cmp V × Rest → Type 0 = λ y. AreGroupLines m left before r y.0 y.1 in
      let same : ◌≡◌ {A = map.FinMap pair_cmp V × Rest} (m, r) x = ok_same (m, r) x h in
      subst P same made

  pub groups_parts : (k : ℕ) (m : map.FinMap pair_cmp V) (left : ℕ) (before : Option ℕ) (r : Rest)
      (x : map.FinMap pair_cmp V × Rest) → left ≤ k → groups_onto item_in fits k m left before r ≡ Ok x
      → AreGroupLines m left before r x.0 x.1
  groups_parts zero m left before r x enough h = no_lines m left before r x (omega (arith, enough)) h
  groups_parts (suc k) m left before r x enough h =
      at (left == 0) refl (λ n l u s e f. groups_parts k n l (Some u) s x e f) h
    where
      at : (b : Bool) → (left == 0) ≡ b
          → ((n : map.FinMap pair_cmp V) (l u : ℕ) (s : Rest) → l ≤ k
          → groups_onto item_in fits k n l (Some u) s ≡ Ok x → AreGroupLines n l (Some u) s x.0 x.1) → (if b then Ok (m, r) else
          (group_line item_in fits left before r >>= (λ g.
          groups_onto item_in fits k (insert_all m g.0.1) (left - length g.0.1) (Some g.0.0) g.1))) ≡ Ok x
          → AreGroupLines m left before r x.0 x.1
      at true t again h = no_lines m left before r x (zero_if left t) h
      at false t again h =
          let a = bound (group_line item_in fits left before r) (λ g.
          groups_onto item_in fits k (insert_all m g.0.1) (left - length g.0.1) (Some g.0.0) g.1) x h in
          let es : List ((ℕ × ℕ) × V) = a.value.0.1 in
          let here : IsGroupLine left before r a.value.0.0 es a.value.1 = group_line_parts left before r a.value a.first
          in
          let later : AreGroupLines (insert_all m es) (left - length es) (Some a.value.0.0) a.value.1 x.0 x.1 =
          again (insert_all m es) (left - length es) a.value.0.0 a.value.1
          (omega (arith, enough, here.group.some)) a.second in
          record {
            gs = es ∷ later.gs;
            groups = (a.value.0.0, here.group, later.groups);
            count = omega (arith, length-append es (all_of later.gs), later.count, here.few);
            bytes = here.place.bytes ∙ ap (λ t. group_text word es ++ 10 ∷ t) later.bytes
                ∙ sym (line_behind (group_text word es) (each (group_text word) later.gs) x.1.bytes);
            all = each_both (IsItem fits Few) es (all_of later.gs) here.items later.all;
            made = later.made ∙ sym (insert_both m es (all_of later.gs));
          }

  pub groups_again : (k : ℕ) (m : map.FinMap pair_cmp V) (left : ℕ) (before : Option ℕ) (number : ℕ) (t : List ℕ)
      (gs : List (List ((ℕ × ℕ) × V))) → AreGroups before gs → EachOf (IsItem fits Few) (all_of gs)
      → length (all_of gs) ≡ left → left ≤ k → (j : ℕ)
      × (groups_onto item_in fits k m left before
      (record { number = number; bytes = joined (each (group_text word) gs) ++ t }) ≡ Ok
      (insert_all m (all_of gs), record { number = j; bytes = t }))
  groups_again zero m left before number t [] h all count enough = (number, refl)
  groups_again (suc k) m left before number t [] h all count enough = (
    number,
    ap (λ b. if b then Ok (m, record { number = number; bytes = t }) else
        (group_line item_in fits left before (record { number = number; bytes = t }) >>= (λ g.
        groups_onto item_in fits k (insert_all m g.0.1) (left - length g.0.1) (Some g.0.0) g.1)))
        (eq-eqb left 0 (sym count)),
  )
  groups_again zero m left before number t (g ∷ gs) h all count enough =
      absurd (omega (arith, enough, count, length-append g (all_of gs), h.1.some))
  groups_again (suc k) m left before number t (g ∷ gs) h all count enough =
      let parts = each_front (IsItem fits Few) g (all_of gs) all in
      let size : length g + length (all_of gs) ≡ left = sym (length-append g (all_of gs)) ∙ count in
      let later = groups_again k (insert_all m g) (left - length g) (Some h.0) (number + 1) t gs h.2 parts.1
      (omega (arith, size)) (omega (arith, size, h.1.some, enough)) in
      let r : Rest = record { number = number; bytes = joined (each (group_text word) (g ∷ gs)) ++ t } in (
        later.0,
        ap (λ b. if b then Ok (m, r) else (group_line item_in fits left before r >>= (λ g.
            groups_onto item_in fits k (insert_all m g.0.1) (left - length g.0.1) (Some g.0.0) g.1)))
            (ne_eqb left 0 (λ e. omega (arith, e, size, h.1.some)))
            ∙ ap (λ b. group_line item_in fits left before (record { number = number; bytes = b }) >>= (λ g.
            groups_onto item_in fits k (insert_all m g.0.1) (left - length g.0.1) (Some g.0.0) g.1))
            (line_behind (group_text word g) (each (group_text word) gs) t)
            ∙ ap (λ o. o >>= (λ g.
            groups_onto item_in fits k (insert_all m g.0.1) (left - length g.0.1) (Some g.0.0) g.1))
            (group_line_again left before number h.0 g (joined (each (group_text word) gs) ++ t) h.1
            (omega (arith, size)) parts.0)
            ∙ later.1
            ∙ ap (λ n. Ok (n, record { number = later.0; bytes = t })) (sym (insert_both m g (all_of gs))),
      )
