-- Lists of joins that grow, partner by partner and winner by winner. Serves `list_side`, `push_all`, `list_winner`,
-- `list_alone`,
-- `list_by_tasks` and `promote_class`.
use Rattle.std.specs.Prelude.{◌≡◌, ℕ, Some, ◌+◌, ◌<◌, ◌≤◌, ◌⊎◌, ◌↔◌, zero, suc, List, [], ◌∷◌, ◌++◌, length, take, map, slice_index, refl, Contains}
use Rattle.std.specs.declared.cmp.Ordering.{Ordering}
use Rattle.std.specs.declared.cmp.Ordering.TheVariants.{Less, Equal, Greater}
use Rattle.std.specs.Ordering.{nat_cmp, ordering_then, ordering_reverse}
use Rattle.std.proofs.Common.{sym, ◌∙◌, ap, subst, arith, inl, inr, get_or}
use Rattle.std.proofs.lemmas.Bool.{cases_eq}
use Rattle.std.proofs.lemmas.List.{take_more, take_all, append_assoc, get_or_default, map_push}
use Rattle.std.proofs.lemmas.List.Elements.{Contains-push_cases, Contains-append_left, Contains-append_right, Contains-append_cases}
use Rattle.std.proofs.lemmas.Map.Lookups.{exact_bytes}
use Rattle.apsp_model.specs.Walk.{IsOnceEach, hops_of}
use Rattle.apsp_model.proofs.Members.{in_cons, in_nil, head_in, tail_in, once_append}
use Rattle.path_arena.specs.Arena.{Arena, left_of, right_of, id_cmp, list_of, weight_of_id, IsLive, HasAnEdge}
use Rattle.path_arena.proofs.Paths.{live_from_edge}
use Rattle.pair_heaps.proofs.Orders.{id_cmp_total}
use Rattle.extension_lists.specs.Known.{sides_at}
use Rattle.path_book.specs.Book.{Book, IsMarked, IsBook}
use Rattle.fixup.specs.declared.listing.Join.{Join}
use Rattle.fixup.specs.declared.listing.PartnerSide.{PartnerSide}
use Rattle.fixup.specs.declared.listing.PartnerSide.TheVariants.{Left, Right}
use Rattle.fixup.specs.Owing.{CanBeWinners, AreOwed, IsOwed}
use Rattle.fixup.specs.Listing.{AreAdded, Lists, ListsFrom, ListsAt, ListedByAny, Class, Yields, all_joins, join_at}
use Rattle.fixup.proofs.Parts.{not_its_partner}

-- ---- lists without repetitions

append_nil : {A : Type 0} (xs : List A) → xs ++ [] ≡ xs
append_nil [] = refl
append_nil (x ∷ xs) = ap (λ l. x ∷ l) (append_nil xs)

pub once_before : {A : Type 0} (xs : List A) (i : ℕ) (x : A) → IsOnceEach xs → i < length xs → x ≡ get_or xs i x
    → Contains (take i xs) x → ⊥
once_before [] i x once inside at c = let k : ⊥ = omega (arith, inside) in k
once_before (y ∷ xs) zero x once inside at c = in_nil x c
once_before (y ∷ xs) (suc i) x once inside at c = elim (in_cons x y (take i xs) c) [
  | inl same ↦ once.0 (subst (Contains xs) (sym same) (i, omega (arith, inside), sym at))
  | inr more ↦ once_before xs i x once.1 (omega (arith, inside)) at more
]

pub take_push : {A : Type 0} (xs : List A) (i : ℕ) (x : A) → i < length xs → x ≡ get_or xs i x
    → take (i + 1) xs ≡ take i xs ++ x ∷ []
take_push xs i x inside at = take_more xs i x inside ∙ ap (λ y. take i xs ++ y ∷ []) (sym at)

pub take_cases : {A : Type 0} (xs : List A) (i : ℕ) (x : A) → i < length xs → x ≡ get_or xs i x → (y : A)
    → Contains (take (i + 1) xs) y → Contains (take i xs) y ⊎ (y ≡ x)
take_cases xs i x inside at y c =
    elim (Contains-push_cases (take i xs) x y (subst (λ l. Contains l y) (take_push xs i x inside at) c))
    [ inl old ↦ inl old | inr same ↦ inr (sym same) ]

pub take_old : {A : Type 0} (xs : List A) (i : ℕ) (x : A) → i < length xs → x ≡ get_or xs i x → (y : A)
    → Contains (take i xs) y → Contains (take (i + 1) xs) y
take_old xs i x inside at y c =
    subst (λ l. Contains l y) (sym (take_push xs i x inside at)) (Contains-append_left (take i xs) (x ∷ []) y c)

pub take_new : {A : Type 0} (xs : List A) (i : ℕ) (x : A) → i < length xs → x ≡ get_or xs i x
    → Contains (take (i + 1) xs) x
take_new xs i x inside at =
    subst (λ l. Contains l x) (sym (take_push xs i x inside at))
    (Contains-append_right (take i xs) (x ∷ []) x (head_in x x [] refl))

-- a number stands in a list, or it does not
there_or_not : (xs : List ℕ) (x : ℕ) → Contains xs x ⊎ (Contains xs x → ⊥)
there_or_not [] x = inr (in_nil x)
there_or_not (y ∷ xs) x = elim (cases_eq y x) [
  | inl same ↦ inl (head_in x y xs same)
  | inr apart ↦ elim (there_or_not xs x) [
    | inl more ↦ inl (tail_in x y xs more)
    | inr none ↦ inr (λ c. elim (in_cons x y xs c) [ inl same ↦ apart same | inr more ↦ none more ])
  ]
]

then_third : (r s t : Ordering) → ordering_then r (ordering_then s t) ≡ Equal → t ≡ Equal
then_third Less s t e = cc
then_third Equal Less t e = cc
then_third Equal Equal t e = e
then_third Equal Greater t e = cc
then_third Greater s t e = cc

-- ids whose paths tie have one list
same_list : (a : Arena) (l r : ℕ) → id_cmp a l r ≡ Equal → list_of a l ≡ list_of a r
same_list a l r e =
    exact_bytes (list_of a l) (list_of a r)
    (then_third (nat_cmp (weight_of_id a l) (weight_of_id a r))
    (nat_cmp (hops_of (list_of a l)) (hops_of (list_of a r))) _ e)

-- ---- what is added

pub added_none : (P : Join → Type 0) (xs : List Join) → ((j : Join) → P j → ⊥) → AreAdded P xs xs
added_none P xs none =
    record {
      more = [];
      is = sym (append_nil xs);
      once = tt;
      are = λ j.
          (λ c. absurd (in_nil j c), λ h. absurd (none j h));
    }

pub added_as : (P Q : Join → Type 0) (old new : List Join) → ((j : Join) → P j ↔ Q j) → AreAdded P old new
    → AreAdded Q old new
added_as P Q old new same a =
    record {
      more = a.more;
      is = a.is;
      once = a.once;
      are = λ j.
          (λ c. (same j).0 ((a.are j).0 c), λ h. (a.are j).1 ((same j).1 h));
    }

pub added_both : (P Q : Join → Type 0) (old mid new : List Join) → AreAdded P old mid → AreAdded Q mid new
    → ((j : Join) → P j → Q j → ⊥) → AreAdded (λ j. P j ⊎ Q j) old new
added_both P Q old mid new a b apart = record {
  more = a.more ++ b.more;
  is = b.is ∙ ap (λ l. l ++ b.more) a.is ∙ append_assoc old a.more b.more;
  once = once_append a.more b.more a.once b.once (λ j left right. apart j ((a.are j).0 left) ((b.are j).0 right));
  are = λ j. (
    λ c. elim (Contains-append_cases a.more b.more j c)
        [ inl left ↦ inl ((a.are j).0 left) | inr right ↦ inr ((b.are j).0 right) ],
    λ h. elim h [
      | inl left ↦ Contains-append_left a.more b.more j ((a.are j).1 left)
      | inr right ↦
          Contains-append_right a.more b.more j ((b.are j).1 right)
    ],
  );
}

added_one : (old new : List Join) (j : Join) → new ≡ old ++ j ∷ [] → AreAdded (λ k. k ≡ j) old new
added_one old new j is = record {
  more = j ∷ [];
  is = is;
  once = (in_nil j, tt);
  are = λ k. (
    λ c. elim (in_cons k j [] c) [ inl same ↦ sym same | inr none ↦ absurd (in_nil k none) ],
    λ same. head_in
        k j [] (sym same),
  );
}

-- a list by itself, put behind what was listed before
pub added_behind : (P : Join → Type 0) (old list new : List Join) → AreAdded P [] list → new ≡ old ++ list
    → AreAdded P old new
added_behind P old list new a is =
    record { more = a.more; is = is ∙ ap (λ l. old ++ l) a.is; once = a.once; are = a.are }

-- what a task lists of a class, seen as its book and its winners
pub task_listed : (seen : Class) (b : Book) (winners : List ℕ) (k d : ℕ) (old joins : List Join)
    → record { book = b; winners = winners } ≡ seen → k < length winners → old ≡ []
    → AreAdded (Lists b winners (get_or winners k d)) old joins → ListsAt seen k joins
task_listed seen b winners k d old joins is inside none added =
    subst (λ (c : Class). ListsAt c k joins) is
    (subst (λ w. AreAdded (Lists b winners w) [] joins) (get_or_default winners k d 0 inside)
    (subst (λ xs. AreAdded (Lists b winners (get_or winners k d)) xs joins) none added))

-- ---- the partners on one side

same_partner : (side : PartnerSide) (w p q : ℕ) → join_at side w p ≡ join_at side w q → p ≡ q
same_partner Left w p q e = ap (λ j. j.left) e
same_partner Right w p q e = ap (λ j. j.right) e

-- one partner more, of whom all are listed
pub partner_more : (side : PartnerSide) (w : ℕ) (partners : List ℕ) (i q : ℕ) → i < length partners
    → q ≡ get_or partners i q → (old now new : List Join) (j : Join)
    → now ≡ old ++ map (join_at side w) (take i partners) → new ≡ now ++ j ∷ [] → j ≡ join_at side w q → new ≡ old
    ++ map (join_at side w) (take (i + 1) partners)
partner_more side w partners i q inside at old now new j before is same =
    is ∙ ap (λ xs. xs ++ j ∷ []) before ∙ append_assoc old (map (join_at side w) (take i partners)) (j ∷ [])
    ∙ ap (λ xs. old ++ xs) (ap (λ k. map (join_at side w) (take i partners) ++ k ∷ []) same
    ∙ sym (map_push (join_at side w) (take i partners) q)
    ∙ ap (map (join_at side w)) (sym (take_push partners i q inside at)))

mapped : (f : ℕ → Join) (xs : List ℕ) (j : Join) → Contains (map f xs) j → (q : ℕ) × Contains xs q × (j ≡ f q)
mapped f [] j c = absurd (in_nil j c)
mapped f (x ∷ xs) j c = elim (in_cons j (f x) (map f xs) c) [
  | inl same ↦ (x, head_in x x xs refl, sym same)
  | inr more ↦ let h : (q : ℕ) × Contains xs q × (j ≡ f q) = mapped f xs j more in (h.0, tail_in h.0 x xs h.1, h.2)
]

in_mapped : (f : ℕ → Join) (xs : List ℕ) (q : ℕ) → Contains xs q → Contains (map f xs) (f q)
in_mapped f [] q c = absurd (in_nil q c)
in_mapped f (x ∷ xs) q c = elim (in_cons q x xs c) [
  | inl same ↦ head_in (f q) (f x) (map f xs) (ap f same)
  | inr more ↦ tail_in (f q) (f x) (map f xs) (in_mapped f xs q more)
]

mapped_once : (f : ℕ → Join) → ((p q : ℕ) → f p ≡ f q → p ≡ q) → (xs : List ℕ) → IsOnceEach xs → IsOnceEach (map f xs)
mapped_once f apart [] once = tt
mapped_once f apart (x ∷ xs) once = (
  λ c. let h : (q : ℕ) × Contains xs q × (f x ≡ f q) =
      mapped f xs (f x) c in once.0 (subst (Contains xs) (sym (apart x h.0 h.2)) h.1),
  mapped_once f apart xs once.1,
)

sole : (xs : List ℕ) (w q : ℕ) → length xs ≡ 1 → Contains xs w → Contains xs q → q ≡ w
sole [] w q one in_w in_q = absurd (in_nil w in_w)
sole (x ∷ []) w q one in_w in_q = elim (in_cons w x [] in_w) [
  | inl first ↦ elim (in_cons q x [] in_q) [ inl other ↦ sym other ∙ first | inr none ↦ absurd (in_nil q none) ]
  | inr none ↦ absurd (in_nil w none)
]
sole (x ∷ y ∷ xs) w q one in_w in_q = let k : ⊥ = omega (arith, one) in absurd k

-- the only winner lists its joins with all its partners
pub side_whole : (a : Arena) (winners : List ℕ) (w : ℕ) (side : PartnerSide) (partners : List ℕ) → length winners ≡ 1
    → Contains winners w → ((q : ℕ) → Contains partners q → q ≡ w → ⊥) → IsOnceEach partners
    → (old new : List Join) → new ≡ old ++ map (join_at side w) partners
    → AreAdded (ListsFrom a winners w side partners) old new
side_whole a winners w side partners only one apart once old new is = record {
  more = map (join_at side w) partners;
  is = is;
  once = mapped_once (join_at side w) (same_partner side w) partners once;
  are = λ j. (
    λ c. let h : (q : ℕ) × Contains partners q × (j ≡ join_at side w q) = mapped (join_at side w) partners j c in
        (h.0, h.1, λ winner. absurd (apart h.0 h.1 (sole winners w h.0 only one winner)), h.2),
    λ h. subst (Contains (map (join_at side w) partners)) (sym h.3) (in_mapped (join_at side w) partners h.0 h.1),
  );
}

module _ (a : Arena) (winners : List ℕ) (w : ℕ) (side : PartnerSide) (partners : List ℕ) where
  -- the partners before a place
  abbrev pub Upto : ℕ → Join → Type 0
  Upto i = ListsFrom a winners w side (take i partners)

  pub side_starts : (xs : List Join) → AreAdded (Upto 0) xs xs
  side_starts xs = added_none (Upto 0) xs (λ j h. in_nil h.0 (take_zero h.0 h.1))
    where
      take_zero : (q : ℕ) → Contains (take 0 partners) q → Contains [] q
      take_zero q c = go partners c
        where
          go : (ps : List ℕ) → Contains (take 0 ps) q → Contains [] q
          go [] c = c
          go (p ∷ ps) c = c

  pub side_ends : (i : ℕ) (old new : List Join) → length partners ≤ i → AreAdded (Upto i) old new
      → AreAdded (ListsFrom a winners w side partners) old new
  side_ends i old new all h = subst (λ ps. AreAdded (ListsFrom a winners w side ps) old new) (take_all i partners all) h

  module _ (once : IsOnceEach partners) (i q : ℕ) (inside : i < length partners) (at : q ≡ get_or partners i q)
      (old new : List Join) (before : AreAdded (Upto i) old new) where
    -- the partner does not yield
    pub side_passes : (Yields a winners w q → ⊥) → AreAdded (Upto (i + 1)) old new
    side_passes not = added_as (Upto i) (Upto (i + 1)) old new (λ j. (
      λ h. (h.0, take_old partners i q inside at h.0 h.1, h.2, h.3),
      λ h. elim (take_cases partners i q inside at h.0 h.1)
          [ inl earlier ↦ (h.0, earlier, h.2, h.3) | inr same ↦ absurd (not (subst (Yields a winners w) same h.2)) ],
    )) before

    -- it does, and its join is listed
    pub side_lists : Yields a winners w q → (later : List Join) → later ≡ new ++ join_at side w q ∷ []
        → AreAdded (Upto (i + 1)) old later
    side_lists yields later is = added_as (λ j. Upto i j ⊎ (j ≡ join_at side w q)) (Upto (i + 1)) old later (λ j. (
      λ h. elim h [
        | inl earlier ↦ (earlier.0, take_old partners i q inside at earlier.0 earlier.1, earlier.2, earlier.3)
        | inr same ↦ (q, take_new partners i q inside at, yields, same)
      ],
      λ h. elim (take_cases partners i q inside at h.0 h.1)
          [ inl earlier ↦ inl (h.0, earlier, h.2, h.3) | inr same ↦ inr (h.3 ∙ ap (join_at side w) same) ],
    )) (added_both (Upto i) (λ j. j ≡ join_at side w q) old new later before (added_one new later (join_at side w q) is)
        (λ j h same. once_before partners i q once inside at
        (subst (Contains (take i partners)) (same_partner side w h.0 q (sym h.3 ∙ same)) h.1)))

-- ---- both sides of a winner

module _ (b : Book) (winners : List ℕ) (w : ℕ) (lawful : IsBook b) (edge : HasAnEdge b.arena w) (fs rs : List ℕ)
    (fronts : (q : ℕ) → Contains fs q ↔ ((right_of b.arena q ≡ left_of b.arena w) × IsMarked b q))
    (behinds : (q : ℕ) → Contains rs q ↔ ((left_of b.arena q ≡ right_of b.arena w) × IsMarked b q)) where
  pub winner_listed : (old mid new : List Join) → AreAdded (ListsFrom b.arena winners w Left fs) old mid
      → AreAdded (ListsFrom b.arena winners w Right rs) mid new → AreAdded (Lists b winners w) old new
  winner_listed old mid new left right =
      added_as (λ j. ListsFrom b.arena winners w Left fs j ⊎ ListsFrom b.arena winners w Right rs j) (Lists b winners w)
      old new both
      (added_both (ListsFrom b.arena winners w Left fs) (ListsFrom b.arena winners w Right rs) old mid new left right
      apart)
    where
      -- a winner is not its own partner
      apart : (j : Join) → ListsFrom b.arena winners w Left fs j → ListsFrom b.arena winners w Right rs j → ⊥
      apart j h k =
          let same : h.0 ≡ w = sym (ap (λ (i : Join). i.left) h.3) ∙ ap (λ (i : Join). i.left) k.3 in
          not_its_partner b.arena w lawful.arena edge (ap (right_of b.arena) (sym same) ∙ ((fronts h.0).0 h.1).0)

      both : (j : Join) → (ListsFrom b.arena winners w Left fs j ⊎ ListsFrom b.arena winners w Right rs j) ↔ Lists b
          winners w j
      both j = (
        λ h. elim h [
          | inl front ↦
              let is : j.left ≡ front.0 = ap (λ (i : Join). i.left) front.3 in
              let m : (right_of b.arena front.0 ≡ left_of b.arena w) × IsMarked b front.0 =
              (fronts front.0).0 front.1 in
              inl (
                ap (λ (i : Join). i.right) front.3,
                subst (IsMarked b) (sym is) m.1,
                ap (right_of b.arena) is
                    ∙ m.0,
                subst (Yields b.arena winners w) (sym is) front.2,
              )
          | inr behind ↦
              let is : j.right ≡ behind.0 = ap (λ (i : Join). i.right) behind.3 in
              let m : (left_of b.arena behind.0 ≡ right_of b.arena w) × IsMarked b behind.0 =
              (behinds behind.0).0 behind.1 in
              inr (
                ap (λ (i : Join). i.left) behind.3,
                subst (IsMarked b) (sym is) m.1,
                ap (left_of b.arena) is
                    ∙ m.0,
                subst (Yields b.arena winners w) (sym is) behind.2,
              )
        ],
        λ h. elim h [
          | inl front ↦ inl (
            j.left,
            (fronts j.left).1 (front.2, front.1),
            front.3,
            λ i. record
                { left = j.left; right = front.0 i },
          )
          | inr behind ↦ inr (
            j.right,
            (behinds j.right).1 (behind.2, behind.1),
            behind.3,
            λ i. record
                { left = behind.0 i; right = j.right },
          )
        ],
      )

  -- the only winner lists its joins with all its partners
  pub winner_whole : length winners ≡ 1 → Contains winners w → IsOnceEach fs → IsOnceEach rs → (old new : List Join)
      → new ≡ old ++ all_joins w fs rs → AreAdded (Lists b winners w) old new
  winner_whole only one once_fs once_rs old new is =
      let mid : List Join = old ++ map (join_at Left w) fs in
      winner_listed old mid new (side_whole b.arena winners w Left fs only one before once_fs old mid refl)
      (side_whole b.arena winners w Right rs only one after once_rs mid new
      (is ∙ sym (append_assoc old (map (join_at Left w) fs) (map (join_at Right w) rs))))
    where
      before : (q : ℕ) → Contains fs q → q ≡ w → ⊥
      before q m same =
          not_its_partner b.arena w lawful.arena edge (ap (right_of b.arena) (sym same) ∙ ((fronts q).0 m).0)

      after : (q : ℕ) → Contains rs q → q ≡ w → ⊥
      after q m same = not_its_partner b.arena w lawful.arena edge (sym ((behinds q).0 m).0 ∙ ap (left_of b.arena) same)

-- ---- all winners

module _ (b : Book) (winners : List ℕ) (class : CanBeWinners b winners) where
  -- the joins that the winners before a place list
  abbrev pub ListedBy : ℕ → Join → Type 0
  ListedBy i j = (w : ℕ) × Contains (take i winners) w × Lists b winners w j

  pub all_start : (xs : List Join) → AreAdded (ListedBy 0) xs xs
  all_start xs = added_none (ListedBy 0) xs (λ j h. in_nil h.0 (go winners h.0 h.1))
    where
      go : (ps : List ℕ) (q : ℕ) → Contains (take 0 ps) q → Contains [] q
      go [] q c = c
      go (p ∷ ps) q c = c

  live : (w : ℕ) → Contains winners w → IsLive b.arena w
  live w c = live_from_edge b.arena w class.lawful.arena (class.edge w c)

  -- of two winners one at most is below the other
  never_both : (v w : ℕ) → id_cmp b.arena v w ≡ Less → id_cmp b.arena w v ≡ Less → ⊥
  never_both v w up down =
      let e : Less ≡ Greater = sym up ∙ (id_cmp_total b.arena).antisymm v w ∙ ap ordering_reverse down in cc

  -- two winners do not list one join
  listed_once : (v w : ℕ) (j : Join) → Contains winners v → Contains winners w → Lists b winners v j
      → Lists b winners w j → v ≡ w
  listed_once v w j in_v in_w h k = elim h [
    | inl left ↦ elim k [
      | inl other ↦ sym left.0 ∙ other.0
      | inr other ↦ absurd (never_both v w (subst (Yields b.arena winners w) left.0 other.3 in_v)
          (subst (Yields b.arena winners v) other.0 left.3 in_w))
    ]
    | inr right ↦ elim k [
      | inl other ↦ absurd (never_both v w (subst (Yields b.arena winners w) right.0 other.3 in_v)
          (subst (Yields b.arena winners v) other.0 right.3 in_w))
      | inr other ↦ sym right.0 ∙ other.0
    ]
  ]

  pub all_more : IsOnceEach winners → (i w : ℕ) → i < length winners → w ≡ get_or winners i w
      → (old mid new : List Join) → AreAdded (ListedBy i) old mid → AreAdded (Lists b winners w) mid new
      → AreAdded (ListedBy (i + 1)) old new
  all_more once i w inside at old mid new before more =
      added_as (λ j. ListedBy i j ⊎ Lists b winners w j) (ListedBy (i + 1)) old new (λ j. (
        λ h. elim h [
          | inl earlier ↦ (earlier.0, take_old winners i w inside at earlier.0 earlier.1, earlier.2)
          | inr here ↦
              (w, take_new winners i w inside at, here)
        ],
        λ h. elim (take_cases winners i w inside at h.0 h.1)
            [ inl earlier ↦ inl (h.0, earlier, h.2) | inr same ↦ inr (subst (λ v. Lists b winners v j) same h.2) ],
      )) (added_both (ListedBy i) (Lists b winners w) old mid new before more (λ j h here.
      let in_v : Contains winners h.0 =
      subst (λ l. Contains l h.0) (take_all (length winners) winners (omega arith)) (taken winners i h.0 h.1) in
      once_before winners i w once inside at
      (subst (Contains (take i winners)) (listed_once h.0 w j in_v (i, inside, sym at) h.2 here) h.1)))
    where
      taken : (xs : List ℕ) (k q : ℕ) → Contains (take k xs) q → Contains (take (length xs) xs) q
      taken [] zero q c = c
      taken [] (suc k) q c = c
      taken (x ∷ xs) zero q c = absurd (in_nil q c)
      taken (x ∷ xs) (suc k) q c =
          elim (in_cons q x (take k xs) c) [
            | inl same ↦ head_in q x (take (length xs) xs) same
            | inr more ↦
                tail_in q x (take (length xs) xs) (taken xs k q more)
          ]

  -- the list of the winner's task is put behind those of the winners before it
  pub task_more : IsOnceEach winners → (i : ℕ) → i < length winners → (old mid list new : List Join)
      → AreAdded (ListedBy i) old mid → ListsAt (record { book = b; winners = winners }) i list → new ≡ mid ++ list
      → AreAdded (ListedBy (i + 1)) old new
  task_more once i inside old mid list new before given is =
      let w : ℕ = slice_index winners i in
      all_more once i w inside (sym (get_or_default winners i w 0 inside)) old mid new before
      (added_behind (Lists b winners w) mid list new given is)

  pub all_end : (i : ℕ) (old new : List Join) → length winners ≤ i → AreAdded (ListedBy i) old new
      → AreAdded (ListedByAny b winners) old new
  all_end i old new all added = added_as (ListedBy i) (ListedByAny b winners) old new (λ j. (
    λ h. (h.0, subst (λ l. Contains l h.0) (take_all i winners all) h.1, h.2),
    λ h. (h.0, subst (λ l. Contains l h.0) (sym (take_all i winners all)) h.1, h.2),
  )) added

-- ---- what is listed is owed

-- the winners are promoted, and each lists with those below it
module _ (b : Book) (winners : List ℕ) (class : CanBeWinners b winners)
    (marked : (w : ℕ) → Contains winners w → IsMarked b w) where
  -- of two halves that are winners one is below the other
  ordered : IsBook b → (l r : ℕ) → IsMarked b l → IsMarked b r → (l ≡ r → ⊥) → (id_cmp b.arena l r ≡ Less)
      ⊎ (id_cmp b.arena r l ≡ Less)
  ordered lawful l r in_l in_r apart = go (id_cmp b.arena l r) refl
    where
      turned : (o : Ordering) → ordering_reverse o ≡ Greater → o ≡ Less
      turned Less e = refl
      turned Equal e = cc
      turned Greater e = cc

      go : (o : Ordering) → id_cmp b.arena l r ≡ o → (id_cmp b.arena l r ≡ Less) ⊎ (id_cmp b.arena r l ≡ Less)
      go Less e = inl e
      go Equal e =
          absurd (apart (lawful.once l r (lawful.marked_live l in_l) (lawful.marked_live r in_r)
          (same_list b.arena l r e)))
      go Greater e = inr (turned (id_cmp b.arena r l) (sym ((id_cmp_total b.arena).antisymm l r) ∙ e))

  pub all_owed : (old joins : List Join) → old ≡ [] → AreAdded (ListedByAny b winners) old joins
      → AreOwed b winners joins
  all_owed old joins none added = record {
    once = subst IsOnceEach (sym is) added.once;
    are = λ j. (
      λ c. let h = (added.are j).0 (subst (λ l. Contains l j) is c) in is_owed j h.0 h.1 h.2,
      λ o. subst (λ l. Contains l j) (sym is) ((added.are j).1 (is_listed j o)),
    );
  }
    where
      is : joins ≡ added.more
      is = added.is ∙ ap (λ l. l ++ added.more) none

      is_owed : (j : Join) (w : ℕ) → Contains winners w → Lists b winners w j → IsOwed b winners j
      is_owed j w c h = elim h [
        | inl front ↦ record {
          left = front.1;
          right = subst (IsMarked b) (sym front.0) (marked w c);
          meets = front.2 ∙ ap (left_of b.arena) (sym front.0);
          promoted = inr (subst (Contains winners) (sym front.0) c);
        }
        | inr behind ↦ record {
          left = subst (IsMarked b) (sym behind.0) (marked w c);
          right = behind.1;
          meets = ap (right_of b.arena) behind.0 ∙ sym behind.2;
          promoted = inl (subst (Contains winners) (sym behind.0) c);
        }
      ]

      by_left : (j : Join) → IsOwed b winners j → Contains winners j.left → Yields b.arena winners j.left j.right
          → (w : ℕ) × Contains winners w × Lists b winners w j
      by_left j o c yields = (j.left, c, inr (refl, o.right, sym o.meets, yields))

      by_right : (j : Join) → IsOwed b winners j → Contains winners j.right → Yields b.arena winners j.right j.left
          → (w : ℕ) × Contains winners w × Lists b winners w j
      by_right j o c yields = (j.right, c, inl (refl, o.left, o.meets, yields))

      is_listed : (j : Join) → IsOwed b winners j → (w : ℕ) × Contains winners w × Lists b winners w j
      is_listed j o = elim (there_or_not winners j.left) [
        | inl left ↦ elim (there_or_not winners j.right) [
          | inl right ↦ elim (ordered class.lawful j.left j.right o.left o.right
              (λ same. not_its_partner b.arena j.left class.lawful.arena (class.edge j.left left)
              (o.meets ∙ ap (left_of b.arena) (sym same)))) [
                | inl below ↦ by_right j o right (λ c. below)
                | inr above ↦ by_left j o left (λ c. above)
              ]
          | inr none ↦ by_left j o left (λ c. absurd (none c))
        ]
        | inr none ↦ elim o.promoted [
          | inl left ↦ absurd (none left)
          | inr right ↦
              by_right j o right (λ c. absurd (none c))
        ]
      ]

-- ---- the partners of a winner

module _ (b : Book) (lawful : IsBook b) (w left right : ℕ) (l : left_of b.arena w ≡ Some left)
    (r : right_of b.arena w ≡ Some right) where
  pub fronts_are : (fs : List ℕ) → fs ≡ (sides_at b.lists left).left_star → (q : ℕ)
      → Contains fs q ↔ ((right_of b.arena q ≡ left_of b.arena w) × IsMarked b q)
  fronts_are fs are q =
      let e : Contains (sides_at b.lists left).left_star q ↔ ((right_of b.arena q ≡ Some left) × IsMarked b q) =
      lawful.extensions.left_star left q in (
        λ c. let h = e.0 (subst (λ x. Contains x q) are c) in (h.0 ∙ sym l, h.1),
        λ h. subst (λ x. Contains x q) (sym are) (e.1 (h.0 ∙ l, h.1)),
      )

  pub behinds_are : (rs : List ℕ) → rs ≡ (sides_at b.lists right).right_star → (q : ℕ)
      → Contains rs q ↔ ((left_of b.arena q ≡ right_of b.arena w) × IsMarked b q)
  behinds_are rs are q =
      let e : Contains (sides_at b.lists right).right_star q ↔ ((left_of b.arena q ≡ Some right) × IsMarked b q) =
      lawful.extensions.right_star right q in (
        λ c. let h = e.0 (subst (λ x. Contains x q) are c) in (h.0 ∙ sym r, h.1),
        λ h. subst (λ x. Contains x q) (sym are) (e.1 (h.0 ∙ r, h.1)),
      )
