-- For search.rt: the walk from parents to children, level by level.
use Rattle.std.specs.Prelude.{◌≡◌, ℕ, zero, suc, ◌+◌, ◌-◌, ◌<◌, ◌≤◌, ◌⊎◌, Bool, true, false, if◌then◌else◌, List, [], ◌∷◌, ◌++◌, length, take, map, Some, refl, Contains}
use Rattle.std.specs.FinMap as fin
use Rattle.std.proofs.Common.{get_or, sym, ◌∙◌, ap, subst, arith, inl, inr}
use Rattle.std.proofs.lemmas.Bool.{false≢true}
use Rattle.std.proofs.lemmas.List.{append-nil, append_assoc, length-append, length-map, take_more}
use Rattle.std.proofs.lemmas.List.Elements.{Contains-append_left, Contains-append_right, Contains-append_cases}
use Rattle.apsp_model.specs.Walk.{IsOnceEach}
use Rattle.apsp_model.proofs.Members.{in_cons, in_nil, head_in, tail_in, once_append}
use Rattle.path_arena.specs.Arena.{Path, vertex_of, left_of, right_of, IsLive}
use Rattle.path_arena.proofs.Paths.{live_path, live_from_edge}
use Rattle.extension_lists.specs.Known.{sides_at}
use Rattle.path_book.specs.Book.{Book, IsBook}
use Rattle.path_book.proofs.Tables.{in_entries, to_map}
use Rattle.path_book.specs.Through.{IsThrough, hops_at, InRisingHops, IsVictims}
use Rattle.cleanup_tasks.specs.declared.search.ExtensionSide.{ExtensionSide}
use Rattle.cleanup_tasks.specs.declared.search.ExtensionSide.TheVariants.{Left, Right}
use Rattle.cleanup_tasks.specs.Walk.{starts_at, side_of, extensions_of, AreExtensions}
use Rattle.cleanup_tasks.proofs.Parents.{PassesThrough, IsExtensionFrom, longer_exact, ChildFacts, child_facts, ParentOf, parent_of, one_parent, ends_apart, single_or_through, single_passes, some_hops, single_starts}

-- ---- lists

take_push : (xs : List ℕ) (i x : ℕ) → i < length xs → x ≡ get_or xs i x → take (i + 1) xs ≡ take i xs ++ x ∷ []
take_push xs i x inside at = take_more xs i x inside ∙ ap (λ y. take i xs ++ y ∷ []) (sym at)

-- one entry more of a list that is put behind another
pub behind_more : (old now new more : List ℕ) (i x : ℕ) → i < length more → x ≡ get_or more i x → now ≡ old
    ++ take i more → new ≡ now ++ x ∷ [] → new ≡ old ++ take (i + 1) more
behind_more old now new more i x inside at before is =
    is ∙ ap (λ xs. xs ++ x ∷ []) before ∙ append_assoc old (take i more) (x ∷ [])
    ∙ ap (λ xs. old ++ xs) (sym (take_push more i x inside at))

-- a list of different entries is no longer than one that has them all
record Without (ys : List ℕ) (x : ℕ) : Type 0 where
  rest : List ℕ
  shorter : length ys ≡ length rest + 1
  still : (y : ℕ) → Contains ys y → (x ≡ y → ⊥) → Contains rest y

without : (ys : List ℕ) (x : ℕ) → Contains ys x → Without ys x
without [] x c = absurd (in_nil x c)
without (y ∷ ys) x c = elim (in_cons x y ys c) [
  | inl same ↦ record {
    rest = ys;
    shorter = omega arith;
    still = λ z d apart. elim (in_cons z y ys d) [ inl here ↦ absurd (apart (sym same ∙ here)) | inr more ↦ more ];
  }
  | inr more ↦
      let w = without ys x more in
      record {
        rest = y ∷ w.rest;
        shorter = (let e : length ys ≡ length w.rest + 1 = w.shorter in omega arith);
        still = λ z d apart. elim (in_cons z y ys d)
            [ inl here ↦ head_in z y w.rest here | inr later ↦ tail_in z y w.rest (w.still z later apart) ];
      }
]

once_is_short : (xs ys : List ℕ) → IsOnceEach xs → ((x : ℕ) → Contains xs x → Contains ys x) → length xs ≤ length ys
once_is_short [] ys once inside = omega arith
once_is_short (x ∷ xs) ys once inside =
    let w : Without ys x = without ys x (inside x (head_in x x xs refl)) in
    let rest : length xs ≤ length w.rest =
    once_is_short xs w.rest once.1 (λ y c. w.still y (inside y (tail_in y x xs c))
    (λ same. once.0 (subst (Contains xs) (sym same) c))) in
    let e : length ys ≡ length w.rest + 1 = w.shorter in
    omega arith

-- ---- rising hops

pub rising_append : (b : Book) (xs ys : List ℕ) → InRisingHops b xs → InRisingHops b ys
    → ((x y : ℕ) → Contains xs x → Contains ys y → hops_at b x ≤ hops_at b y) → InRisingHops b (xs ++ ys)
rising_append b [] ys a c across = c
rising_append b (x ∷ xs) ys a c across = (
  λ q k. elim (Contains-append_cases xs ys q k)
      [ inl left ↦ a.0 q left | inr right ↦ across x q (head_in x x xs refl) right ],
  rising_append b xs ys a.1 c (λ y z left right. across y z (tail_in y x xs left) right),
)

pub rising_alike : (b : Book) (xs : List ℕ) (h : ℕ) → ((x : ℕ) → Contains xs x → hops_at b x ≡ h) → InRisingHops b xs
rising_alike b [] h alike = tt
rising_alike b (x ∷ xs) h alike = (
  λ q c. (let e : hops_at b x ≡ h = alike x (head_in x x xs refl) in
      let f : hops_at b q ≡ h = alike q (tail_in q x xs c) in omega arith),
  rising_alike b xs h (λ y c. alike y (tail_in y x xs c)),
)

-- ---- the paths that go on at a side of those of a list

pub extensions_append : (side : ExtensionSide) (b : Book) (xs ys : List ℕ)
    → extensions_of side b (xs ++ ys) ≡ extensions_of side b xs ++ extensions_of side b ys
extensions_append side b [] ys = refl
extensions_append side b (x ∷ xs) ys =
    let here : List ℕ = side_of side (sides_at b.lists x) in
    ap (λ l. here ++ l) (extensions_append side b xs ys)
    ∙ sym (append_assoc here (extensions_of side b xs) (extensions_of side b ys))

-- .. and those of one path more
pub extensions_more : (side : ExtensionSide) (b : Book) (xs : List ℕ) (i x : ℕ) → i < length xs → x ≡ get_or xs i x
    → extensions_of side b (take i xs) ++ side_of side (sides_at b.lists x) ≡ extensions_of side b (take (i + 1) xs)
extensions_more side b xs i x inside at =
    sym (ap (extensions_of side b) (take_push xs i x inside at) ∙ extensions_append side b (take i xs) (x ∷ [])
    ∙ ap (λ l. extensions_of side b (take i xs) ++ l) (append-nil (side_of side (sides_at b.lists x))))

-- what holds of the first entries and of the next
pub each_more : (P : ℕ → Type 0) (xs : List ℕ) (i x : ℕ) → i < length xs → x ≡ get_or xs i x
    → ((y : ℕ) → Contains (take i xs) y → P y) → P x → (y : ℕ) → Contains (take (i + 1) xs) y → P y
each_more P xs i x inside at old new y c =
    elim (Contains-append_cases (take i xs) (x ∷ []) y (subst (λ l. Contains l y) (take_push xs i x inside at) c)) [
      | inl earlier ↦ old y earlier
      | inr here ↦ elim (in_cons y x [] here) [ inl same ↦ subst P same new | inr none ↦ absurd (in_nil y none) ]
    ]

in_extensions : (side : ExtensionSide) (b : Book) (xs : List ℕ) (p q : ℕ) → Contains xs p
    → Contains (side_of side (sides_at b.lists p)) q → Contains (extensions_of side b xs) q
in_extensions side b [] p q at c = absurd (in_nil p at)
in_extensions side b (x ∷ xs) p q at c = elim (in_cons p x xs at) [
  | inl same ↦ Contains-append_left (side_of side (sides_at b.lists x)) (extensions_of side b xs) q
      (subst (λ k. Contains (side_of side (sides_at b.lists k)) q) (sym same) c)
  | inr more ↦ Contains-append_right (side_of side (sides_at b.lists x)) (extensions_of side b xs) q
      (in_extensions side b xs p q more c)
]

of_extensions : (side : ExtensionSide) (b : Book) (xs : List ℕ) (q : ℕ) → Contains (extensions_of side b xs) q → (p : ℕ)
    × Contains xs p × Contains (side_of side (sides_at b.lists p)) q
of_extensions side b [] q c = absurd (in_nil q c)
of_extensions side b (x ∷ xs) q c =
    elim (Contains-append_cases (side_of side (sides_at b.lists x)) (extensions_of side b xs) q c) [
      | inl here ↦ (x, head_in x x xs refl, here)
      | inr more ↦ (let k = of_extensions side b xs q more in (k.0, tail_in k.0 x xs k.1, k.2))
    ]

-- where no path goes on at this side of two, each of those that go on stands once
extensions_once : (side : ExtensionSide) (b : Book)
    → ((q p r : ℕ) → Contains (side_of side (sides_at b.lists p)) q → Contains (side_of side (sides_at b.lists r)) q
    → p ≡ r) → (xs : List ℕ) → IsOnceEach xs
    → ((p : ℕ) → Contains xs p → IsOnceEach (side_of side (sides_at b.lists p))) → IsOnceEach (extensions_of side b xs)
extensions_once side b one [] once each = tt
extensions_once side b one (x ∷ xs) once each =
    once_append (side_of side (sides_at b.lists x)) (extensions_of side b xs) (each x (head_in x x xs refl))
    (extensions_once side b one xs once.1 (λ p c. each p (tail_in p x xs c)))
    (λ q here more. (let k = of_extensions side b xs q more in once.0 (subst (Contains xs) (one q k.0 x k.2 here) k.1)))

module _ (b : Book) (was : IsBook b) where
  right_is : (p q : ℕ) → Contains (sides_at b.lists p).right q → left_of b.arena q ≡ Some p
  right_is p q c = (was.extensions.right p q).0 c

  left_is : (p q : ℕ) → Contains (sides_at b.lists p).left q → right_of b.arena q ≡ Some p
  left_is p q c = (was.extensions.left p q).0 c

  one_left : (q p r : ℕ) → left_of b.arena q ≡ Some p → left_of b.arena q ≡ Some r → p ≡ r
  one_left q p r e f = (let two : Some p ≡ Some r = sym e ∙ f in cc)

  one_right : (q p r : ℕ) → right_of b.arena q ≡ Some p → right_of b.arena q ≡ Some r → p ≡ r
  one_right q p r e f = (let two : Some p ≡ Some r = sym e ∙ f in cc)

  rights_once : (xs : List ℕ) → IsOnceEach xs → ((p : ℕ) → Contains xs p → IsOnceEach (sides_at b.lists p).right)
      → IsOnceEach (extensions_of Right b xs)
  rights_once = extensions_once Right b (λ q p r c d. one_left q p r (right_is p q c) (right_is r q d))

  lefts_once : (xs : List ℕ) → IsOnceEach xs → ((p : ℕ) → Contains xs p → IsOnceEach (sides_at b.lists p).left)
      → IsOnceEach (extensions_of Left b xs)
  lefts_once = extensions_once Left b (λ q p r c d. one_right q p r (left_is p q c) (left_is r q d))

  -- paths that pass v, of which the first start there and the others do not, and their children
  module _ (v : ℕ) (starting passing behind in_front : List ℕ) (l : AreExtensions b starting passing behind in_front)
      (passes : (p : ℕ) → Contains (starting ++ passing) p → PassesThrough b v p)
      (starts : (p : ℕ) → Contains starting p → starts_at b v p ≡ true)
      (away : (p : ℕ) → Contains passing p → starts_at b v p ≡ false)
      (once : IsOnceEach (starting ++ passing)) where
    front_is : in_front ≡ extensions_of Left b (starting ++ passing)
    front_is = l.lefts ∙ sym (extensions_append Left b starting passing)

    parent_behind : (q : ℕ) → Contains behind q → (p : ℕ) × Contains starting p × Contains (sides_at b.lists p).right q
    parent_behind q c = of_extensions Right b starting q (subst (λ xs. Contains xs q) l.rights c)

    parent_front : (q : ℕ) → Contains in_front q → (p : ℕ) × Contains (starting ++ passing) p
        × Contains (sides_at b.lists p).left q
    parent_front q c = of_extensions Left b (starting ++ passing) q (subst (λ xs. Contains xs q) front_is c)

    child_behind : (p q : ℕ) → Contains starting p → Contains (sides_at b.lists p).right q → IsExtensionFrom b v p q
    child_behind p q at c =
        (longer_exact b was v p q (passes p (Contains-append_left starting passing p at))).0
        (Contains-append_right (sides_at b.lists p).left (if starts_at b v p then (sides_at b.lists p).right else []) q
        (subst (λ (t : Bool). Contains (if t then (sides_at b.lists p).right else []) q) (sym (starts p at)) c))

    child_front : (p q : ℕ) → Contains (starting ++ passing) p → Contains (sides_at b.lists p).left q
        → IsExtensionFrom b v p q
    child_front p q at c =
        (longer_exact b was v p q (passes p at)).0
        (Contains-append_left (sides_at b.lists p).left (if starts_at b v p then (sides_at b.lists p).right else []) q
        c)

    pub new_parent : (q : ℕ) → Contains (behind ++ in_front) q → (p : ℕ) × Contains (starting ++ passing) p
        × IsExtensionFrom b v p q
    new_parent q c = elim (Contains-append_cases behind in_front q c) [
      | inl left ↦ (let k = parent_behind q left in
          (k.0, Contains-append_left starting passing k.0 k.1, child_behind k.0 q k.1 k.2))
      | inr right ↦ (let k = parent_front q right in (k.0, k.1, child_front k.0 q k.1 k.2))
    ]

    pub new_child : (p q : ℕ) → Contains (starting ++ passing) p → IsExtensionFrom b v p q
        → Contains (behind ++ in_front) q
    new_child p q at child =
        elim (Contains-append_cases (sides_at b.lists p).left
        (if starts_at b v p then (sides_at b.lists p).right else []) q
        ((longer_exact b was v p q (passes p at)).1 child)) [
          | inl left ↦ Contains-append_right behind in_front q
              (subst (λ xs. Contains xs q) (sym front_is) (in_extensions Left b (starting ++ passing) p q at left))
          | inr right ↦ elim (Contains-append_cases starting passing p at) [
            | inl here ↦
                let c : Contains (sides_at b.lists p).right q =
                subst (λ (t : Bool). Contains (if t then (sides_at b.lists p).right else []) q) (starts p here) right in
                Contains-append_left behind in_front q
                (subst (λ xs. Contains xs q) (sym l.rights) (in_extensions Right b starting p q here c))
            | inr there ↦ absurd (in_nil q
                (subst (λ (t : Bool). Contains (if t then (sides_at b.lists p).right else []) q)
                (away p there) right))
          ]
        ]

    pub new_starts : (q : ℕ) → Contains behind q → starts_at b v q ≡ true
    new_starts q c =
        let k = parent_behind q c in
        elim (child_behind k.0 q k.1 k.2) [
          | inl h ↦ h.0
          | inr h ↦ absurd (ends_apart b was q k.0 (right_is k.0 q k.2) h.1)
        ]

    pub new_away : (q : ℕ) → Contains in_front q → starts_at b v q ≡ false
    new_away q c =
        let k = parent_front q c in
        elim (child_front k.0 q k.1 k.2) [
          | inl h ↦ absurd (ends_apart b was q k.0 h.1 (left_is k.0 q k.2))
          | inr h ↦ h.0
        ]

    pub new_once : IsOnceEach (behind ++ in_front)
    new_once =
        once_append behind in_front (subst IsOnceEach (sym l.rights)
        (rights_once starting (front_once starting passing once) l.right_once))
        (subst IsOnceEach (sym front_is) (lefts_once (starting ++ passing) once left_each))
        (λ q left right. false≢true (sym (new_away q right) ∙ new_starts q left))
      where
        front_once : (xs ys : List ℕ) → IsOnceEach (xs ++ ys) → IsOnceEach xs
        front_once [] ys h = tt
        front_once (x ∷ xs) ys h = (λ c. h.0 (Contains-append_left xs ys x c), front_once xs ys h.1)

        left_each : (p : ℕ) → Contains (starting ++ passing) p → IsOnceEach (sides_at b.lists p).left
        left_each p c =
            elim (Contains-append_cases starting passing p c)
            [ inl here ↦ l.starting_once p here | inr there ↦ l.passing_once p there ]

    pub new_facts : (q : ℕ) → Contains (behind ++ in_front) q → (p : ℕ) × Contains (starting ++ passing) p
        × IsThrough b v q × (hops_at b q ≡ hops_at b p + 1)
    new_facts q c =
        let k = new_parent q c in
        let f : ChildFacts b was v k.0 q = child_facts b was v k.0 q (passes k.0 k.1) k.2 in
        (k.0, k.1, f.through, f.hops)

-- ---- the walk

-- the children of the single vertex and of what is done stand among what is done and the level, and nothing else
pub record IsWalked (b : Book) (v : ℕ) (done starting passing : List ℕ) (h : ℕ) : Type 0 where
  pub sound : (q : ℕ) → Contains (done ++ (starting ++ passing)) q → IsThrough b v q
  pub once : IsOnceEach (done ++ (starting ++ passing))
  pub rising : InRisingHops b (done ++ (starting ++ passing))
  pub starts : (q : ℕ) → Contains starting q → starts_at b v q ≡ true
  pub away : (q : ℕ) → Contains passing q → starts_at b v q ≡ false
  pub hops : (q : ℕ) → Contains (starting ++ passing) q → hops_at b q ≡ h
  pub below : (q : ℕ) → Contains done q → hops_at b q < h
  pub from : (q p : ℕ) → Contains (done ++ (starting ++ passing)) q → IsExtensionFrom b v p q
      → (p ≡ vertex_of b.arena v) ⊎ Contains done p
  pub to : (q p : ℕ) → IsExtensionFrom b v p q → (p ≡ vertex_of b.arena v) ⊎ Contains done p
      → Contains (done ++ (starting ++ passing)) q

-- .. the ids are these
pub record HasWalked (b : Book) (v : ℕ) (starting passing ids : List ℕ) : Type 0 where
  pub done : List ℕ
  pub hops : ℕ
  pub are : ids ≡ done ++ (starting ++ passing)
  pub walked : IsWalked b v done starting passing hops

module _ (b : Book) (was : IsBook b) (v : ℕ) (inside : v < b.arena.vertices) where
  abbrev pub root : ℕ
  root = vertex_of b.arena v

  through_passes : (id : ℕ) → IsThrough b v id → PassesThrough b v id
  through_passes id h = (live_from_edge b.arena id was.arena h.0, h.1)

  unfoldable pub walk_starts : (id : ℕ) (behind in_front ids : List ℕ) → id ≡ root
      → AreExtensions b (id ∷ []) [] behind in_front → ids ≡ [] ++ (behind ++ in_front)
      → HasWalked b v behind in_front ids
  walk_starts id behind in_front ids at longer are = record {
    done = [];
    hops = 1;
    are = are;
    walked = record {
      sound = λ q c. (facts q c).2;
      once = new_once b was v (root ∷ []) [] behind in_front l passes starts away once;
      rising = rising_alike b (behind ++ in_front) 1 one_hop;
      starts = new_starts b was v (root ∷ []) [] behind in_front l passes starts away once;
      away = new_away b was v (root ∷ []) [] behind in_front l passes starts away once;
      hops = one_hop;
      below = λ q c. absurd (in_nil q c);
      from = λ q p c child. (let k = new_parent b was v (root ∷ []) [] behind in_front l passes starts away once q c in
          inl (one_parent b was v p k.0 q child k.2 ∙ is k.0 k.1));
      to = λ q p child h. elim h [
        | inl same ↦ new_child b was v (root ∷ []) [] behind in_front l passes starts away once p q
            (head_in p root [] (sym same)) child
        | inr none ↦ absurd (in_nil p none)
      ];
    };
  }
    where
      l : AreExtensions b (root ∷ []) [] behind in_front
      l = subst (λ k. AreExtensions b (k ∷ []) [] behind in_front) at longer

      is : (p : ℕ) → Contains (root ∷ []) p → p ≡ root
      is p c = elim (in_cons p root [] c) [ inl same ↦ sym same | inr none ↦ absurd (in_nil p none) ]

      single : PassesThrough b v root × (hops_at b root ≡ 0)
      single = single_passes b was v inside

      passes : (p : ℕ) → Contains (root ∷ []) p → PassesThrough b v p
      passes p c = subst (PassesThrough b v) (sym (is p c)) single.0

      starts : (p : ℕ) → Contains (root ∷ []) p → starts_at b v p ≡ true
      starts p c = subst (λ k. starts_at b v k ≡ true) (sym (is p c)) (single_starts b was v inside)

      away : (p : ℕ) → Contains [] p → starts_at b v p ≡ false
      away p c = absurd (in_nil p c)

      once : IsOnceEach (root ∷ [])
      once = (in_nil root, tt)

      facts : (q : ℕ) → Contains (behind ++ in_front) q → (p : ℕ) × Contains (root ∷ []) p × IsThrough b v q
          × (hops_at b q ≡ hops_at b p + 1)
      facts = new_facts b was v (root ∷ []) [] behind in_front l passes starts away once

      one_hop : (q : ℕ) → Contains (behind ++ in_front) q → hops_at b q ≡ 1
      one_hop q c = let f = facts q c in omega (arith, f.3, ap (hops_at b) (is f.0 f.1), single.1)

  module _ (starting passing ids : List ℕ) (w : HasWalked b v starting passing ids) where
    abbrev pub all : List ℕ
    all = w.done ++ (starting ++ passing)

    in_level : (q : ℕ) → Contains (starting ++ passing) q → IsThrough b v q
    in_level q c = w.walked.sound q (Contains-append_right w.done (starting ++ passing) q c)

    pub level_live : (q : ℕ) → Contains (starting ++ passing) q → IsLive b.arena q
    level_live q c = live_from_edge b.arena q was.arena (in_level q c).0

    level_passes : (q : ℕ) → Contains (starting ++ passing) q → PassesThrough b v q
    level_passes q c = through_passes q (in_level q c)

    level_once : IsOnceEach (starting ++ passing)
    level_once = back_once w.done (starting ++ passing) w.walked.once
      where
        back_once : (xs ys : List ℕ) → IsOnceEach (xs ++ ys) → IsOnceEach ys
        back_once [] ys h = h
        back_once (x ∷ xs) ys h = back_once xs ys h.1

    pub walk_goes_on : (behind in_front more : List ℕ) → AreExtensions b starting passing behind in_front → more ≡ ids
        ++ (behind ++ in_front) → HasWalked b v behind in_front more
    walk_goes_on behind in_front more l are = record {
      done = all;
      hops = w.hops + 1;
      are = are ∙ ap (λ xs. xs ++ (behind ++ in_front)) w.are;
      walked = record {
        sound = λ q c. elim (Contains-append_cases all new q c)
            [ inl old ↦ w.walked.sound q old | inr fresh ↦ (facts q fresh).2 ];
        once = once_append all new w.walked.once
            (new_once b was v starting passing behind in_front l level_passes w.walked.starts w.walked.away level_once)
            apart;
        rising = rising_append b all new w.walked.rising (rising_alike b new (w.hops + 1) next_hop)
            (λ x y old fresh. (let k : hops_at b x < w.hops + 1 = old_hops x old in
            omega (arith, k, next_hop y fresh)));
        starts = new_starts b was v starting passing behind in_front l level_passes w.walked.starts w.walked.away
            level_once;
        away = new_away b was v starting passing behind in_front l level_passes w.walked.starts w.walked.away
            level_once;
        hops = next_hop;
        below = old_hops;
        from = λ q p c child. elim (Contains-append_cases all new q c) [
          | inl old ↦ elim (w.walked.from q p old child)
              [ inl same ↦ inl same | inr earlier ↦ inr (Contains-append_left w.done (starting ++ passing) p earlier) ]
          | inr fresh ↦ (let k = parent q fresh in
              inr (Contains-append_right w.done (starting ++ passing) p
              (subst (Contains (starting ++ passing)) (one_parent b was v k.0 p q k.2 child) k.1)))
        ];
        to = λ q p child h. elim h [
          | inl same ↦ Contains-append_left all new q (w.walked.to q p child (inl same))
          | inr c ↦ elim (Contains-append_cases w.done (starting ++ passing) p c) [
            | inl earlier ↦ Contains-append_left all new q (w.walked.to q p child (inr earlier))
            | inr here ↦ Contains-append_right all new q
                (new_child b was v starting passing behind in_front l level_passes w.walked.starts w.walked.away
                level_once p q here child)
          ]
        ];
      };
    }
      where
        new : List ℕ
        new = behind ++ in_front

        facts : (q : ℕ) → Contains (behind ++ in_front) q → (p : ℕ) × Contains (starting ++ passing) p × IsThrough b v q
            × (hops_at b q ≡ hops_at b p + 1)
        facts = new_facts b was v starting passing behind in_front l level_passes w.walked.starts w.walked.away
            level_once

        parent : (q : ℕ) → Contains (behind ++ in_front) q → (p : ℕ) × Contains (starting ++ passing) p
            × IsExtensionFrom b v p q
        parent = new_parent b was v starting passing behind in_front l level_passes w.walked.starts w.walked.away
            level_once

        next_hop : (q : ℕ) → Contains (behind ++ in_front) q → hops_at b q ≡ w.hops + 1
        next_hop q c = let f = facts q c in omega (arith, f.3, w.walked.hops f.0 f.1)

        old_hops : (q : ℕ) → Contains (w.done ++ (starting ++ passing)) q → hops_at b q < w.hops + 1
        old_hops q c = elim (Contains-append_cases w.done (starting ++ passing) q c) [
          | inl earlier ↦ (let k : hops_at b q < w.hops = w.walked.below q earlier in omega (arith, k))
          | inr here ↦ (let e : hops_at b q ≡ w.hops = w.walked.hops q here in omega (arith, e))
        ]

        -- a child of the level is not known yet
        apart : (q : ℕ) → Contains (w.done ++ (starting ++ passing)) q → Contains (behind ++ in_front) q → ⊥
        apart q old fresh =
            let k = parent q fresh in
            elim (w.walked.from q k.0 old k.2) [
              | inl same ↦
                  let some : 1 ≤ hops_at b k.0 = some_hops b was v k.0 (in_level k.0 k.1) in
                  let none : hops_at b k.0 ≡ 0 = ap (hops_at b) same ∙ (single_passes b was v inside).1 in
                  omega (arith, some, none)
              | inr earlier ↦
                  let less : hops_at b k.0 < w.hops = w.walked.below k.0 earlier in
                  let e : hops_at b k.0 ≡ w.hops = w.walked.hops k.0 k.1 in
                  omega (arith, less, e)
            ]

    -- there are no more of them than there are kept paths
    pub walk_most : length ids ≤ length (fin.entries b.arena.paths)
    walk_most =
        let short : length (w.done ++ (starting ++ passing)) ≤ length
        (map (λ (e : ℕ × Path). e.0) (fin.entries b.arena.paths)) = once_is_short (w.done ++ (starting ++ passing))
        (map (λ (e : ℕ × Path). e.0) (fin.entries b.arena.paths)) w.walked.once (λ q c. (
        let p = live_path b.arena q (live_from_edge b.arena q was.arena (w.walked.sound q c).0) in
        to_map (λ (e : ℕ × Path). e.0) (fin.entries b.arena.paths) (q, p.0) ((in_entries b.arena.paths q p.0).1 p.1)
        )) in
        omega (arith, short, ap length w.are, length-map (fin.entries b.arena.paths) (λ (e : ℕ × Path). e.0))

    -- .. so the walk ends
    pub walk_falls : (behind in_front more : List ℕ) → more ≡ ids ++ (behind ++ in_front)
        → 1 ≤ length starting + length passing
        → length (fin.entries b.arena.paths) + (length behind + length in_front) - length more < length
        (fin.entries b.arena.paths) + (length starting + length passing) - length ids
    walk_falls behind in_front more are some =
        less (length (fin.entries b.arena.paths)) (length ids) (length behind + length in_front)
        (length starting + length passing) (length more) walk_most some
        (omega (arith, ap length are, length-append ids (behind ++ in_front), length-append behind in_front))
      where
        less : (e i n m k : ℕ) → i ≤ e → 1 ≤ m → k ≡ i + n → e + n - k < e + m - i
        less e i n m k most some is = omega (arith, most, some, is)

    -- at the end every path through v was found
    pub walk_ends : starting ≡ [] → passing ≡ [] → IsVictims b v ids
    walk_ends none_starts none_passes = record {
      exact = λ q. (
        λ c. w.walked.sound q (subst (λ xs. Contains xs q) w.are c),
        λ h. subst (λ xs. Contains xs q)
            (sym w.are) (found (hops_at b q) q (omega arith) h),
      );
      once = subst IsOnceEach (sym w.are) w.walked.once;
      rising = subst (InRisingHops b) (sym w.are) w.walked.rising;
    }
      where
        done_all : w.done ++ (starting ++ passing) ≡ w.done
        done_all = ap (λ xs. w.done ++ xs) ((λ i. none_starts i ++ none_passes i)) ∙ append-nil w.done

        found : (most q : ℕ) → hops_at b q ≤ most → IsThrough b v q → Contains (w.done ++ (starting ++ passing)) q
        found zero q few h = absurd (let some : 1 ≤ hops_at b q = some_hops b was v q h in omega (arith, few, some))
        found (suc most) q few h =
            let p : ParentOf b was v q = parent_of b was v q h in
            let f : ChildFacts b was v p.parent q = child_facts b was v p.parent q p.passes p.is in
            w.walked.to q p.parent p.is (elim (single_or_through b was v p.parent p.passes) [
              | inl single ↦ inl single
              | inr through ↦ inr (subst (λ xs. Contains xs p.parent) done_all
                  (found most p.parent (omega (arith, few, f.hops)) through))
            ])
