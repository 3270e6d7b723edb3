-- Historical paths that are no longer least are demoted one by one, in falling hops, until exactly the locally
-- shortest paths are kept.
--
-- The mathematics. Let L be the single vertices and all least walks of g; L is closed under parts. After a settling H
-- is historical
-- and closed under parts, L ⊆ H, and K = Local(g, H) is kept. Todo, the paths to be demoted, is H without L. Let h be
-- a longest path of Todo.
-- * No historical path has h as a proper part: one of L would make h one of L, and one of Todo would be longer than h.
-- * So H without h is closed under parts, and a kept path has h as a proper part exactly where it is h with one more vertex
--   in front or behind: its part without an end is historical, and has h as a part, so it is h. These extensions all
--   have one hop more
--   than h, none of them is historical, and none is a proper part of a kept path. So they may be forgotten in any order.
-- * Behind that h is a proper part of no kept path and may be forgotten. Local(g, H without h) is what is left, and
--   h. Of these h is
--   formed again exactly where it is locally shortest: else one of its parts is in Todo too, and would take h with it
--   later.
--   So the invariant is that K is Local(g, H) without the demoted paths that are not locally shortest.
-- * Where Todo is empty, H is L, and K is Local(g, L).
use Rattle.std.specs.Prelude.{◌≡◌, ℕ, ◌+◌, ◌<◌, ◌≤◌, ◌⊎◌, ◌↔◌, List, [], ◌∷◌, ◌++◌, length, Some, refl, Contains}
use Rattle.std.proofs.Common.{sym, ◌∙◌, ap, subst, arith, inl, inr}
use Rattle.std.proofs.lemmas.List.{length-append}
use Rattle.std.proofs.lemmas.Bool.{cases_lt}
use Rattle.apsp_model.specs.Graph.{Graph}
use Rattle.apsp_model.specs.Walk.{IsWalk, IsWalkFrom, IsOnceEach, last}
use Rattle.apsp_model.specs.Order.{IsBelow}
use Rattle.apsp_model.specs.Part.{IsPart, IsProperPart, IsClosedUnderParts, left_part, right_part}
use Rattle.apsp_model.specs.Least.{IsLeast, IsLeastWalk}
use Rattle.apsp_model.specs.Local.{IsLocal, IsShortest}
use Rattle.apsp_model.proofs.Exists.{least_exists}
use Rattle.apsp_model.proofs.Leasts.{least_unique}
use Rattle.apsp_model.proofs.Lists.{left_and_last, length_right, part_is_whole, ends_differ}
use Rattle.apsp_model.proofs.Locals.{part_of_an_end, parts_by_ends, left_is_part, right_is_part}
use Rattle.apsp_model.proofs.Orders.{below_or_same_or_above, not_below_itself}
use Rattle.apsp_model.proofs.Walks.{last_is}
use Rattle.shortest_math.specs.Shortest.{IsLocallyShortest, IsFalling, IsDemoting, IsForgetting}
use Rattle.apsp_model.proofs.Members.{in_cons, in_nil, tail_in}
use Rattle.fixup_math.specs.Settling.{IsLeastKept}
use Rattle.fixup_math.proofs.Firsts.{upto_least}
use Rattle.fixup_math.proofs.Forming.{contains_push}
use Rattle.fixup_math.proofs.Mending.{shortest_closed}
use Rattle.fixup_math.proofs.Start.{vertex_of_one}

-- ---- what is shortest

pub same_or_apart : (g : Graph) (p q : List ℕ) → (p ≡ q) ⊎ (p ≡ q → ⊥)
same_or_apart g p q = elim (below_or_same_or_above g p q) [
  | inl below ↦ inr (λ same. not_below_itself g q (subst (λ (r : List ℕ). IsBelow g r q) same below))
  | inr rest ↦ elim rest [
    | inl same ↦ inl same
    | inr above ↦
        inr (λ same. not_below_itself g q (subst (λ (r : List ℕ). IsBelow g q r) same above))
  ]
]

ends_of : (g : Graph) (p : List ℕ) → IsWalk g p → (x : ℕ) × (y : ℕ) × IsWalkFrom g x y p
ends_of g [] h = absurd h
ends_of g (x ∷ p) h = let l : (y : ℕ) × (last (x ∷ p) ≡ Some y) = last_is (x ∷ p) (omega arith) in
    (x, l.0, record { walk = h; from = refl; to = l.1 })

same_pair : (g : Graph) (x y a b : ℕ) (p : List ℕ) → IsWalkFrom g x y p → IsWalkFrom g a b p → (a ≡ x) × (b ≡ y)
same_pair g x y a b p w v =
    let starts : Some a ≡ Some x = sym v.from ∙ w.from in
    let ends : Some b ≡ Some y = sym v.to ∙ w.to in
    (cc, cc)

-- a least walk is the least walk of its pair
pub least_of_pair : (g : Graph) (x y : ℕ) (p : List ℕ) → IsWalkFrom g x y p → IsLeastWalk g p → IsLeast g x y p
least_of_pair g x y p walk h =
    let e : (h.0 ≡ x) × (h.1 ≡ y) = same_pair g x y h.0 h.1 p walk h.2.walk in
    subst (λ (b : ℕ). IsLeast g x b p) e.1 (subst (λ (a : ℕ). IsLeast g a h.1 p) e.0 h.2)

-- of a walk it is decided whether it is least
pub least_or_not : (g : Graph) (p : List ℕ) → IsWalk g p → IsLeastWalk g p ⊎ (IsLeastWalk g p → ⊥)
least_or_not g p walk =
    let e : (x : ℕ) × (y : ℕ) × IsWalkFrom g x y p = ends_of g p walk in
    let l : (q : List ℕ) × IsLeast g e.0 e.1 q = least_exists g e.0 e.1 p e.2 in
    elim (same_or_apart g l.0 p) [
      | inl same ↦ inl (e.0, e.1, subst (IsLeast g e.0 e.1) same l.1)
      | inr apart ↦ inr (λ least. apart (least_unique g e.0 e.1 l.0 p l.1 (least_of_pair g e.0 e.1 p e.2 least)))
    ]

pub shortest_or_not : (g : Graph) (p : List ℕ) → IsWalk g p → IsShortest g p ⊎ (IsShortest g p → ⊥)
shortest_or_not g p walk = elim (cases_lt (length p) 2) [
  | inl short ↦ inl (inl (vertex_of_one g p walk short))
  | inr long ↦ elim (least_or_not g p walk) [
    | inl least ↦ inl (inr least)
    | inr apart ↦ inr (λ h. elim h [ inl single ↦ omega (arith, ap length single.2) | inr least ↦ apart least ])
  ]
]

length_left : (p : List ℕ) → 0 < length p → length (left_part p) + 1 ≡ length p
length_left p some = let split : (u : ℕ) × (p ≡ left_part p ++ u ∷ []) = left_and_last p some in
    omega (arith, ap length split.1, length-append (left_part p) (split.0 ∷ []))

walk_some : (g : Graph) (p : List ℕ) → IsWalk g p → 0 < length p
walk_some g [] h = absurd h
walk_some g (x ∷ p) h = omega arith

-- ---- the start

-- behind a settling, where what is to be demoted is historical and not shortest
pub demoting_starts : (g : Graph) (H K Todo : List ℕ → Type 0) → IsClosedUnderParts H
    → ((p : List ℕ) → IsShortest g p → H p) → ((p : List ℕ) → H p → K p) → ((p : List ℕ) → K p ↔ IsLocal g H p)
    → ((p : List ℕ) → Todo p ↔ (H p × (IsShortest g p → ⊥))) → IsDemoting g H H K Todo
demoting_starts g H K Todo closed shortest marked kept todo = record {
  closed = closed;
  old = λ p h. h;
  local = λ p h. (kept p).0 (marked p h);
  historical = λ p. (
    λ h. elim (shortest_or_not g p ((kept p).0 (marked p h)).walk) [
      | inl yes_it ↦ inl yes_it
      | inr apart ↦
          inr ((todo p).1 (h, apart))
    ],
    λ h. elim h [ inl yes_it ↦ shortest p yes_it | inr later ↦ ((todo p).0 later).0 ],
  );
  todo_apart = λ p h yes_it. ((todo p).0 h).1 yes_it;
  kept = λ p. (λ k. ((kept p).0 k, λ h. inl h), λ l. (kept p).1 l.0);
}

-- ---- at each moment

module _ (g : Graph) (H0 H K Todo : List ℕ → Type 0) (s : IsDemoting g H0 H K Todo) where
  pub shortest_is_historical : (p : List ℕ) → IsShortest g p → H p
  shortest_is_historical p h = (s.historical p).1 (inl h)

  pub historical_is_kept : (p : List ℕ) → H p → K p
  historical_is_kept p h = (s.kept p).1 (s.local p h, λ _. inl h)

  pub kept_is_local : (p : List ℕ) → K p → IsLocal g H p
  kept_is_local p k = ((s.kept p).0 k).0

  -- a path that is to be demoted has an edge
  pub todo_long : (h : List ℕ) → Todo h → 1 < length h
  todo_long h todo = elim (cases_lt 1 (length h)) [
    | inl long ↦ long
    | inr short ↦ absurd (s.todo_apart h todo
        (inl (vertex_of_one g h (s.local h ((s.historical h).1 (inr todo))).walk (omega arith))))
  ]

  -- the end: nothing is to be demoted any more
  pub all_demoted : ((p : List ℕ) → Todo p → ⊥) → ((p : List ℕ) → H p ↔ IsShortest g p)
      × ((p : List ℕ) → K p ↔ IsLocallyShortest g p)
  all_demoted none = (
    historical_is,
    λ p. (
      λ k. let l : IsLocal g H p = kept_is_local p k in
          record { simple = l.simple; walk = l.walk; parts = λ q part. (historical_is q).0 (l.parts q part) },
      λ l. (s.kept p).1 (
        record {
          simple = l.simple;
          walk = l.walk;
          parts =
              λ q part. (historical_is q).1 (l.parts q part);
        },
        λ _. inr l,
      ),
    ),
  )
    where
      historical_is : (p : List ℕ) → H p ↔ IsShortest g p
      historical_is p = (
        λ h. elim ((s.historical p).0 h) [ inl yes_it ↦ yes_it | inr todo ↦ absurd (none p todo) ],
        λ h. shortest_is_historical p h,
      )

  -- ---- one demotion, of a longest path h of those that are to be demoted

  module _ (h : List ℕ) (todo : Todo h) (longest : (p : List ℕ) → Todo p → length p ≤ length h) where
    pub was_historical : H h
    was_historical = (s.historical h).1 (inr todo)

    -- no historical path has it as a proper part
    pub none_above : (p : List ℕ) → H p → IsProperPart h p → ⊥
    none_above p old part = elim ((s.historical p).0 old) [
      | inl yes_it ↦ s.todo_apart h todo (shortest_closed g p h yes_it part.part)
      | inr later ↦ let upto : length p ≤ length h = longest p later in
          let more : length h < length p = part.shorter in omega arith
    ]

    ends_are : (p e : List ℕ) → H e → IsPart h e → e ≡ h
    ends_are p e old part = elim (part_is_whole e h part) [
      | inl shorter ↦
          absurd (none_above e old (record { part = part; shorter = shorter }))
      | inr same ↦ sym same
    ]

    -- the kept paths that have it as a proper part are its extensions by one vertex
    pub above_is_extension : (p : List ℕ) → K p → IsProperPart h p ↔ ((left_part p ≡ h) ⊎ (right_part p ≡ h))
    above_is_extension p k = (on, back)
      where
        l : IsLocal g H p
        l = kept_is_local p k

        some : 0 < length p
        some = walk_some g p (kept_is_local p k).walk

        on : IsProperPart h p → (left_part p ≡ h) ⊎ (right_part p ≡ h)
        on part =
            let two : 2 ≤ length p = (let less : length h < length p = part.shorter in
            let long : 1 < length h = todo_long h todo in omega arith) in
            elim (part_of_an_end p h part) [
              | inl left ↦ inl (ends_are p (left_part p) (l.parts (left_part p) (left_is_part p two)) left)
              | inr right ↦ inr (ends_are p (right_part p) (l.parts (right_part p) (right_is_part p two)) right)
            ]

        back : (left_part p ≡ h) ⊎ (right_part p ≡ h) → IsProperPart h p
        back e = elim e [
          | inl left ↦ subst (λ (r : List ℕ). IsProperPart r p) left
              (left_is_part p (let long : 1 < length h = todo_long h todo in
              omega (arith, ap length left, length_left p some)))
          | inr right ↦ subst (λ (r : List ℕ). IsProperPart r p) right
              (right_is_part p (let long : 1 < length h = todo_long h todo in
              omega (arith, ap length right, length_right p some)))
        ]

    -- each of them has one vertex more
    pub extension_length : (p : List ℕ) → K p → IsProperPart h p → length p ≡ length h + 1
    extension_length p k part = elim ((above_is_extension p k).0 part) [
      | inl left ↦ omega (arith, ap length left, length_left p (walk_some g p (kept_is_local p k).walk))
      | inr right ↦ omega (arith, ap length right, length_right p (walk_some g p (kept_is_local p k).walk))
    ]

    -- .. and extends it at one end alone
    pub extension_at_one_end : (p : List ℕ) → K p → left_part p ≡ h → right_part p ≡ h → ⊥
    extension_at_one_end p k left right = ends_differ p (let long : 1 < length h = todo_long h todo in
        omega (arith, ap length left, length_left p (walk_some g p (kept_is_local p k).walk)))
        (kept_is_local p k).simple (left ∙ sym right)

    -- .. and is a proper part of no kept path, so that they are forgotten in any order
    pub extension_is_part_of_none : (p q : List ℕ) → IsProperPart h p → K q → IsProperPart p q → ⊥
    extension_is_part_of_none p q part k above = none_above p ((kept_is_local q k).parts p above) part

    -- whether it is locally shortest is seen of its two parts
    pub locally_shortest_by_ends : IsLocallyShortest g h ↔ (IsShortest g (left_part h) × IsShortest g (right_part h))
    locally_shortest_by_ends = (
      λ l. ends.0 l.parts,
      λ e. let l : IsLocal g H h = s.local h was_historical in
          record { simple = l.simple; walk = l.walk; parts = ends.1 e },
    )
      where
        ends : ((q : List ℕ) → IsProperPart q h → IsShortest g q)
            ↔ (IsShortest g (left_part h) × IsShortest g (right_part h))
        ends = parts_by_ends (IsShortest g) (shortest_closed g) h (let long : 1 < length h = todo_long h todo in
            omega arith)

    -- H1 is historical behind it, K1 is kept once its extensions and itself are forgotten, and K2 once it is formed
    -- again where it is locally shortest
    module _ (H1 Todo1 K1 K2 : List ℕ → Type 0) (marked : (p : List ℕ) → H1 p ↔ (H p × (p ≡ h → ⊥)))
        (rest : (p : List ℕ) → Todo1 p ↔ (Todo p × (p ≡ h → ⊥))) (forgotten : (p : List ℕ)
        → K1 p ↔ ((K p × (IsProperPart h p → ⊥)) × (p ≡ h → ⊥))) (again : (p : List ℕ)
        → K2 p ↔ (K1 p ⊎ ((p ≡ h) × IsLocallyShortest g h))) where
      pub shortest_stays : (p : List ℕ) → IsShortest g p → H1 p
      shortest_stays p yes_it = (marked p).1
          (shortest_is_historical p yes_it, λ same. s.todo_apart h todo (subst (IsShortest g) same yes_it))

      pub closed_then : IsClosedUnderParts H1
      closed_then p q old part =
          let m : H p × (p ≡ h → ⊥) = (marked p).0 old in
          (marked q).1 (
            s.closed p q m.0 part,
            λ same. elim (part_is_whole p q part) [
              | inl shorter ↦ none_above p m.0
                  (subst (λ (r : List ℕ). IsProperPart r p) same (record { part = part; shorter = shorter }))
              | inr whole ↦ m.1 (sym whole ∙ same)
            ],
          )

      kept_on : (p : List ℕ) → K2 p → IsLocal g H1 p × (H0 p → H1 p ⊎ IsLocallyShortest g p)
      kept_on p k = elim ((again p).0 k) [
        | inl stays ↦
            let f : (K p × (IsProperPart h p → ⊥)) × (p ≡ h → ⊥) = (forgotten p).0 stays in
            let was : IsLocal g H p × (H0 p → H p ⊎ IsLocallyShortest g p) = (s.kept p).0 f.0.0 in (
              record {
                simple = was.0.simple;
                walk = was.0.walk;
                parts =
                    λ q part. (marked q).1 (
                      was.0.parts q part,
                      λ same. f.0.1 (subst (λ (r : List ℕ). IsProperPart r p) same part),
                    );
              },
              λ first_one. elim (was.1 first_one) [ inl old ↦ inl ((marked p).1 (old, f.1)) | inr yes_it ↦ inr yes_it ],
            )
        | inr new ↦
            let l : IsLocallyShortest g p = subst (IsLocallyShortest g) (sym new.0) new.1 in
            (record { simple = l.simple; walk = l.walk; parts = λ q part. shortest_stays q (l.parts q part) }, λ _. inr l)
      ]

      kept_back : (p : List ℕ) → IsLocal g H1 p → (H0 p → H1 p ⊎ IsLocallyShortest g p) → K2 p
      kept_back p l why = elim (same_or_apart g p h) [
        | inl same ↦ elim (why (s.old p (subst H (sym same) was_historical))) [
          | inl old ↦ absurd (((marked p).0 old).1 same)
          | inr yes_it ↦ (again p).1 (inr (same, subst (IsLocallyShortest g) same yes_it))
        ]
        | inr apart ↦ (again p).1 (inl ((forgotten p).1 (
          (
            (s.kept p).1 (
              record { simple = l.simple; walk = l.walk; parts = λ q part. ((marked q).0 (l.parts q part)).0 },
              λ first_one. elim (why first_one) [ inl old ↦ inl ((marked p).0 old).0 | inr yes_it ↦ inr yes_it ],
            ),
            λ part. ((marked h).0 (l.parts h part)).1 refl,
          ),
          apart,
        )))
      ]

      -- what holds before a demotion holds again behind it
      pub next_demotion : IsDemoting g H0 H1 K2 Todo1
      next_demotion = record {
        closed = closed_then;
        old = λ p m. s.old p ((marked p).0 m).0;
        local = λ p m. let l : IsLocal g H p = s.local p ((marked p).0 m).0 in
            record { simple = l.simple; walk = l.walk; parts = λ q part. closed_then p q m part.part };
        historical = λ p. (
          λ m. let was : H p × (p ≡ h → ⊥) = (marked p).0 m in
              elim ((s.historical p).0 was.0) [
                | inl yes_it ↦ inl yes_it
                | inr later ↦
                    inr ((rest p).1 (later, was.1))
              ],
          λ e. elim e [
            | inl yes_it ↦ shortest_stays p yes_it
            | inr later ↦ let was : Todo p × (p ≡ h → ⊥) =
                (rest p).0 later in (marked p).1 ((s.historical p).1 (inr was.0), was.1)
          ],
        );
        todo_apart = λ p later yes_it. s.todo_apart p ((rest p).0 later).0 yes_it;
        kept = λ p. (kept_on p, λ l. kept_back p l.0 l.1);
      }

-- ---- the order inside a demotion

pub forgetting_starts : (K : List ℕ → Type 0) (h : List ℕ) → IsForgetting K h [] K
forgetting_starts K h = record { kept = λ p. (λ k. (k, λ c. in_nil p c), λ k. k.0); above = λ p c. absurd (in_nil p c) }

-- one more path j that has h as a proper part is forgotten
pub forgets_one : (K : List ℕ → Type 0) (h : List ℕ) (done : List (List ℕ)) (K1 K2 : List ℕ → Type 0) (j : List ℕ)
    → IsForgetting K h done K1 → IsProperPart h j → ((p : List ℕ) → K2 p ↔ (K1 p × (p ≡ j → ⊥)))
    → IsForgetting K h (done ++ j ∷ []) K2
forgets_one K h done K1 K2 j f part forgotten = record {
  kept = λ p. (
    λ k. let m : K1 p × (p ≡ j → ⊥) = (forgotten p).0 k in let was : K p × (Contains done p → ⊥) = (f.kept p).0 m.0 in
        (was.0, λ c. elim ((contains_push done j p).0 c) [ inl before ↦ was.1 before | inr same ↦ m.1 same ]),
    λ k. (forgotten p).1 (
      (f.kept p).1 (k.0, λ c. k.1 ((contains_push done j p).1 (inl c))),
      λ same. k.1 ((contains_push done j p).1 (inr same)),
    ),
  );
  above = λ p c. elim ((contains_push done j p).0 c) [
    | inl before ↦ f.above p before
    | inr same ↦
        subst (IsProperPart h) (sym same) part
  ];
}

-- once all of them are forgotten h is a proper part of no kept path, and all others are left
pub forgot_all : (K : List ℕ → Type 0) (h : List ℕ) (done : List (List ℕ)) (K1 : List ℕ → Type 0)
    → IsForgetting K h done K1 → ((p : List ℕ) → K p → IsProperPart h p → Contains done p) → (p : List ℕ)
    → K1 p ↔ (K p × (IsProperPart h p → ⊥))
forgot_all K h done K1 f all p = (
  λ k. let was : K p × (Contains done p → ⊥) = (f.kept p).0 k in (was.0, λ part. was.1 (all p was.0 part)),
  λ k. (f.kept p).1 (k.0, λ c. k.1 (f.above p c)),
)

-- ---- the paths that are to be demoted, as a list of falling hops

pub todo_tail : (h : List ℕ) (rest : List (List ℕ)) → IsOnceEach (h ∷ rest) → (p : List ℕ)
    → Contains rest p ↔ (Contains (h ∷ rest) p × (p ≡ h → ⊥))
todo_tail h rest once p = (
  λ c. (tail_in p h rest c, λ same. once.0 (subst (Contains rest) same c)),
  λ c. elim (in_cons p h rest c.0) [ inl here ↦ absurd (c.1 (sym here)) | inr more ↦ more ],
)

pub head_is_longest : (h : List ℕ) (rest : List (List ℕ)) → IsFalling (h ∷ rest) → (p : List ℕ)
    → Contains (h ∷ rest) p → length p ≤ length h
head_is_longest h rest falling p c =
    elim (in_cons p h rest c) [ inl here ↦ omega (arith, ap length here) | inr more ↦ falling.0 p more ]

-- ---- which paths are shortest is read off the heads of the pairs

-- where each shortest list is kept and each kept list is a walk, the least kept path of a pair is its least walk, and
-- of a path with an edge it says whether it is shortest
module _ (g : Graph) (K : List ℕ → Type 0) (all : (p : List ℕ) → IsShortest g p → K p) (x y : ℕ) (q : List ℕ)
    (head : IsLeastKept g K x y q) where
  pub head_is_least : IsLeast g x y q
  head_is_least =
      let l : (p : List ℕ) × IsLeast g x y p = least_exists g x y q head.walk in
      let same : q ≡ l.0 = upto_least g x y q l.0 l.1 head.walk (head.first l.0 (all l.0 (inr (x, y, l.1))) l.1.walk) in
      subst (IsLeast g x y) (sym same) l.1

  pub shortest_by_head : (p : List ℕ) → IsWalkFrom g x y p → 1 < length p → IsShortest g p ↔ (p ≡ q)
  shortest_by_head p walk long = (
    λ h. elim h [
      | inl single ↦ absurd (omega (arith, ap length single.2))
      | inr least ↦
          least_unique g x y p q (least_of_pair g x y p walk least) head_is_least
    ],
    λ same. inr (x, y, subst (IsLeast g x y) (sym same) head_is_least),
  )
