-- Maps that are made of rising items, and the items of a map: for `Tables` and `Texts`.
use Rattle.std.specs.Prelude.{◌≡◌, ℕ, ⊤, Bool, true, false, ◌==◌, ◌&&◌, cond, List, [], ◌∷◌, ◌++◌, length, Option, Some, None, refl}
use Rattle.std.specs.Ordering.{nat_cmp, ordering_then, eq_by_cmp, is_lt}
use Rattle.std.specs.declared.cmp.Ordering.{Ordering}
use Rattle.std.specs.declared.cmp.Ordering.TheVariants.{Less, Equal, Greater}
use Rattle.std.specs.FinMap as map
use Rattle.std.specs.FinMap.{put, find, is_sorted}
use Rattle.std.specs.FinMap.Entries.{below_all, by_order}
use Rattle.std.proofs.Math.Dec.{T}
use Rattle.std.proofs.Common.{sym, ◌∙◌, ap, subst, arith, append_assoc}
use Rattle.std.proofs.lemmas.Bool.Decides.{nat_tests}
use Rattle.std.proofs.lemmas.List.{append-nil}
use Rattle.apsp_model.specs.Graph.{pair_cmp}
use Rattle.apsp_model.proofs.Stars.{pairs_total, exact_pair}
use Rattle.certificate.specs.Groups.{insert_all}
use Rattle.certificate.specs.Reading.{rises}
use Rattle.certificate.proofs.Spellings.{some_same}

-- ---- pairs that rise

-- rising goes on over a pair between
pub rises_chain : (before : Option (ℕ × ℕ)) (p q : ℕ × ℕ) → rises before p ≡ true → rises (Some p) q ≡ true
    → rises before q ≡ true
rises_chain None p q h k = refl
rises_chain (Some b) p q h k = grind (arith, nat_tests)

rises_greater : (p q : ℕ × ℕ) → rises (Some p) q ≡ true → pair_cmp q p ≡ Greater
rises_greater p q h = grind (arith, nat_tests)

lt_rises : (p q : ℕ × ℕ) → T (is_lt (pair_cmp p q)) → rises (Some p) q ≡ true
lt_rises p q h = at (nat_cmp p.0 q.0) refl (nat_cmp p.1 q.1) refl h
  where
    at : (r : Ordering) → nat_cmp p.0 q.0 ≡ r → (s : Ordering) → nat_cmp p.1 q.1 ≡ s → T (is_lt (ordering_then r s))
        → rises (Some p) q ≡ true
    at Less e s f h = grind (arith, nat_tests)
    at Equal e Less f h = grind (arith, nat_tests)
    at Equal e Equal f h = absurd h
    at Equal e Greater f h = absurd h
    at Greater e s f h = absurd h

-- pairs tie where both their numbers are equal
pub same_pair : (a b u v : ℕ) → eq_by_cmp pair_cmp (a, b) (u, v) ≡ (a == u && b == v)
same_pair a b u v = grind (arith, nat_tests)

untied : (p q : ℕ × ℕ) → rises (Some p) q ≡ true → eq_by_cmp pair_cmp q p ≡ false
untied p q h = same_pair q.0 q.1 p.0 p.1 ∙ at h
  where
    at : rises (Some p) q ≡ true → (q.0 == p.0 && q.1 == p.1) ≡ false
    at h = grind (arith, nat_tests)

tied_itself : (p : ℕ × ℕ) → eq_by_cmp pair_cmp p p ≡ true
tied_itself p = same_pair p.0 p.1 p.0 p.1 ∙ at
  where
    at : (p.0 == p.0 && p.1 == p.1) ≡ true
    at = grind (arith, nat_tests)

-- pairs that tie are the same
pub tied_same : (p q : ℕ × ℕ) → eq_by_cmp pair_cmp p q ≡ true → p ≡ q
tied_same p q h = let e : pair_cmp p q ≡ Equal = is_equal (pair_cmp p q) h in exact_pair p q e
  where
    is_equal : (r : Ordering) → (elim r [ Less ↦ false | Equal ↦ true | Greater ↦ false ]) ≡ true → r ≡ Equal
    is_equal Less e = cc
    is_equal Equal e = refl
    is_equal Greater e = cc

both_true : (a b : Bool) → T (a && b) → T a × T b
both_true true b h = (tt, h)
both_true false b h = absurd h

-- ---- items whose pairs rise

module _ {V : Type 0} where
  -- the pairs of the items rise, from the given one on
  abbrev pub Rising : Option (ℕ × ℕ) → List ((ℕ × ℕ) × V) → Type 0
  Rising before [] = ⊤
  Rising before (e ∷ es) = (rises before e.0 ≡ true) × Rising (Some e.0) es

  -- P holds of each item
  abbrev pub EachOf : ((ℕ × ℕ) × V → Type 0) → List ((ℕ × ℕ) × V) → Type 0
  EachOf P [] = ⊤
  EachOf P (e ∷ es) = P e × EachOf P es

  -- .. and then what follows from P
  pub each_weaker : (P Q : (ℕ × ℕ) × V → Type 0) (es : List ((ℕ × ℕ) × V)) → ((e : (ℕ × ℕ) × V) → P e → Q e)
      → EachOf P es → EachOf Q es
  each_weaker P Q [] f h = tt
  each_weaker P Q (e ∷ es) f h = (f e h.0, each_weaker P Q es f h.1)

  rising_after : (q : ℕ × ℕ) (es : List ((ℕ × ℕ) × V)) → T (below_all pair_cmp q es) → T (is_sorted pair_cmp es)
      → Rising (Some q) es
  rising_after q [] below sorted = tt
  rising_after q (e ∷ es) below sorted =
      let b = both_true (is_lt (pair_cmp q e.0)) (below_all pair_cmp q es) below in
      let s = both_true (below_all pair_cmp e.0 es) (is_sorted pair_cmp es) sorted in
      (lt_rises q e.0 b.0, rising_after e.0 es s.0 s.1)

  -- items that are sorted rise
  pub rising_from_sorted : (es : List ((ℕ × ℕ) × V)) → T (is_sorted pair_cmp es) → Rising None es
  rising_from_sorted [] sorted = tt
  rising_from_sorted (e ∷ es) sorted =
      let s = both_true (below_all pair_cmp e.0 es) (is_sorted pair_cmp es) sorted in
      (refl, rising_after e.0 es s.0 s.1)

  -- ---- items that are put into a map, one after the other

  abbrev AllBelow : ℕ × ℕ → List ((ℕ × ℕ) × V) → Type 0
  AllBelow k [] = ⊤
  AllBelow k (e ∷ es) = (pair_cmp k e.0 ≡ Greater) × AllBelow k es

  below-push : (k : ℕ × ℕ) (es : List ((ℕ × ℕ) × V)) (e : (ℕ × ℕ) × V) → AllBelow k es → pair_cmp k e.0 ≡ Greater
      → AllBelow k (es ++ e ∷ [])
  below-push k [] e h g = (g, tt)
  below-push k (f ∷ es) e h g = (h.0, below-push k es e h.1 g)

  put_behind : (k : ℕ × ℕ) (v : V) (es : List ((ℕ × ℕ) × V)) → AllBelow k es → put pair_cmp k v es ≡ es ++ (k, v) ∷ []
  put_behind k v [] h = refl
  put_behind k v (e ∷ es) h =
      ap (λ o. by_order o ((k, v) ∷ e ∷ es) ((e.0, v) ∷ es) (e ∷ put pair_cmp k v es)) h.0
      ∙ ap (λ r. e ∷ r) (put_behind k v es h.1)

  -- what may come next stands behind all of the items
  record IsUpTo (before : Option (ℕ × ℕ)) (es : List ((ℕ × ℕ) × V)) : Type 0 where
    below : (k : ℕ × ℕ) → rises before k ≡ true → AllBelow k es

  entries_onto : (m : map.FinMap pair_cmp V) (es : List ((ℕ × ℕ) × V)) (before : Option (ℕ × ℕ))
      → IsUpTo before (map.entries m) → Rising before es → map.entries (insert_all m es) ≡ map.entries m ++ es
  entries_onto m [] before upto h = sym (append-nil (map.entries m))
  entries_onto m (e ∷ es) before upto h =
      let here : map.entries (map.insert m e.0 e.1) ≡ map.entries m ++ e ∷ [] =
      map.entries-insert pairs_total m e.0 e.1 ∙ put_behind e.0 e.1 (map.entries m) (upto.below e.0 h.0) in
      let next : IsUpTo (Some e.0) (map.entries m ++ e ∷ []) =
      record {
        below = λ k r. below-push k (map.entries m) e (upto.below k (rises_chain before e.0 k h.0 r))
            (rises_greater e.0 k r);
      } in
      entries_onto (map.insert m e.0 e.1) es (Some e.0) (subst (IsUpTo (Some e.0)) (sym here) next) h.1
      ∙ ap (λ xs. xs ++ es) here
      ∙ append_assoc (map.entries m) (e ∷ []) es

  no_entries : map.entries (map.empty {X = V} {R = pair_cmp}) ≡ []
  no_entries =
      none_of (map.entries (map.empty {X = V} {R = pair_cmp}))
      (sym (map.len-entries (map.empty {X = V} {R = pair_cmp})) ∙ map.len-empty pair_cmp V)
    where
      none_of : (es : List ((ℕ × ℕ) × V)) → length es ≡ 0 → es ≡ []
      none_of [] e = refl
      none_of (x ∷ es) e = absurd (omega arith)

  -- rising items, put into a map, are its entries
  pub entries_made : (es : List ((ℕ × ℕ) × V)) → Rising None es → map.entries (insert_all map.empty es) ≡ es
  entries_made es h =
      let upto : IsUpTo None (map.entries (map.empty {X = V} {R = pair_cmp})) =
      subst (IsUpTo None) (sym no_entries) (record { below = λ k r. tt }) in
      entries_onto map.empty es None upto h ∙ ap (λ xs. xs ++ es) no_entries

  -- a map is made of its own entries
  pub made_again : (m : map.FinMap pair_cmp V) → insert_all map.empty (map.entries m) ≡ m
  made_again m =
      map.same_entries_map (insert_all map.empty (map.entries m)) m
      (entries_made (map.entries m) (rising_from_sorted (map.entries m) (map.entries_sorted m)))

  -- ---- what a map has at a pair, and its items

  pub found_among : (P : (ℕ × ℕ) × V → Type 0) (es : List ((ℕ × ℕ) × V)) (q : ℕ × ℕ) (v : V) → EachOf P es
      → find pair_cmp q es ≡ Some v → P (q, v)
  found_among P [] q v each e = cc
  found_among P (f ∷ es) q v each e = at (eq_by_cmp pair_cmp q f.0) refl (λ h. found_among P es q v each.1 h) e
    where
      same : q ≡ f.0 → f.1 ≡ v → P (q, v)
      same a b = subst (λ k. P (k, v)) (sym a) (subst (λ w. P (f.0, w)) b each.0)

      at : (b : Bool) → eq_by_cmp pair_cmp q f.0 ≡ b → (find pair_cmp q es ≡ Some v → P (q, v))
          → cond b (Some f.1) (find pair_cmp q es) ≡ Some v → P (q, v)
      at true t later e = same (tied_same q f.0 t) (some_same f.1 v e)
      at false t later e = later e

  -- each of the items is found among others
  abbrev FoundIn : List ((ℕ × ℕ) × V) → List ((ℕ × ℕ) × V) → Type 0
  FoundIn es [] = ⊤
  FoundIn es (f ∷ fs) = (find pair_cmp f.0 es ≡ Some f.1) × FoundIn es fs

  found_more : (e : (ℕ × ℕ) × V) (es fs : List ((ℕ × ℕ) × V)) → T (below_all pair_cmp e.0 fs) → FoundIn es fs
      → FoundIn (e ∷ es) fs
  found_more e es [] below h = tt
  found_more e es (f ∷ fs) below h =
      let b = both_true (is_lt (pair_cmp e.0 f.0)) (below_all pair_cmp e.0 fs) below in (
        ap (λ t. cond t (Some e.1) (find pair_cmp f.0 es)) (untied e.0 f.0 (lt_rises e.0 f.0 b.0))
            ∙ h.0,
        found_more e es fs b.1 h.1,
      )

  found_all : (es : List ((ℕ × ℕ) × V)) → T (is_sorted pair_cmp es) → FoundIn es es
  found_all [] sorted = tt
  found_all (e ∷ es) sorted =
      let s = both_true (below_all pair_cmp e.0 es) (is_sorted pair_cmp es) sorted in
      (ap (λ t. cond t (Some e.1) (find pair_cmp e.0 es)) (tied_itself e.0), found_more e es es s.0 (found_all es s.1))

  each_found : (P : (ℕ × ℕ) × V → Type 0) (es fs : List ((ℕ × ℕ) × V)) → FoundIn es fs
      → ((q : ℕ × ℕ) (v : V) → find pair_cmp q es ≡ Some v → P (q, v)) → EachOf P fs
  each_found P es [] h p = tt
  each_found P es (f ∷ fs) h p = (p f.0 f.1 h.0, each_found P es fs h.1 p)

  -- what holds of all that a map has holds of its items, and the other way round
  pub each_of_map : (P : (ℕ × ℕ) × V → Type 0) (m : map.FinMap pair_cmp V)
      → ((q : ℕ × ℕ) (v : V) → map.get m q ≡ Some v → P (q, v)) → EachOf P (map.entries m)
  each_of_map P m p =
      each_found P (map.entries m) (map.entries m) (found_all (map.entries m) (map.entries_sorted m))
      (λ q v e. p q v (map.get-entries m q ∙ e))

  -- what holds of each entry of a map holds of what it has at a pair
  pub map_of_each : (P : (ℕ × ℕ) × V → Type 0) (m : map.FinMap pair_cmp V) → EachOf P (map.entries m)
      → (q : ℕ × ℕ) (v : V) → map.get m q ≡ Some v → P (q, v)
  map_of_each P m each q v e = found_among P (map.entries m) q v each (sym (map.get-entries m q) ∙ e)
