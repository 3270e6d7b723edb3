-- A search from roots to children, in which each has one parent, as a queue: it finds all, each once, by rising size.
--
-- The mathematics. The queue is a list of which the first part is done: their children stand in it. The roots stand
-- in it from the start, and
-- whatever else stands in it is a child of one that is done. A child is larger by one than its parent, and no member
-- of the queue is larger by
-- more than one than the first that is not done; so the children of that one, put behind the queue, are as large as
-- any in it, and it stays
-- rising. They are new, since they have one parent, which was not done before. Where all are done the queue holds the
-- roots, and with each member
-- its children; so, by induction along parents, it holds all.
--
-- The historical paths are such: roots are the single vertices, and the parent of a path is its part without the last
-- vertex.
use Rattle.std.specs.Prelude.{◌≡◌, ℕ, zero, suc, ◌+◌, ◌<◌, ◌≤◌, ◌⊎◌, ◌↔◌, List, [], ◌∷◌, ◌++◌, length, refl, Contains}
use Rattle.std.proofs.Common.{sym, ◌∙◌, ap, subst, arith, inl, inr}
use Rattle.std.proofs.lemmas.Bool.{cases_lt}
use Rattle.std.proofs.lemmas.List.{append_assoc, length-append}
use Rattle.std.proofs.lemmas.List.Elements.{Contains-append_left, Contains-append_right, Contains-append_cases}
use Rattle.apsp_model.specs.Graph.{Graph}
use Rattle.apsp_model.specs.Walk.{IsOnceEach}
use Rattle.apsp_model.specs.Part.{IsClosedUnderParts, left_part}
use Rattle.apsp_model.specs.Local.{IsVertex, IsLocal}
use Rattle.apsp_model.proofs.Lists.{left_and_last}
use Rattle.apsp_model.proofs.Locals.{left_is_part}
use Rattle.shortest_math.specs.Rising.{IsRisingBy}
use Rattle.apsp_model.proofs.Members.{in_cons, in_nil, head_in, tail_in}
use Rattle.fixup_math.proofs.Start.{vertex_of_one}

module _ {A : Type 0} (size : A → ℕ) where
  pub rising_behind : (xs ys : List A) → IsRisingBy size xs → IsRisingBy size ys
      → ((x y : A) → Contains xs x → Contains ys y → size x ≤ size y) → IsRisingBy size (xs ++ ys)
  rising_behind [] ys a b under = b
  rising_behind (x ∷ xs) ys a b under = (
    λ y c. elim (Contains-append_cases xs ys y c) [
      | inl front ↦ a.0 y front
      | inr behind ↦
          under x y (head_in x x xs refl) behind
    ],
    rising_behind xs ys a.1 b (λ z y c e. under z y (tail_in z x xs c) e),
  )

  pub rising_alike : (k : ℕ) (xs : List A) → ((x : A) → Contains xs x → size x ≡ k) → IsRisingBy size xs
  rising_alike k [] alike = tt
  rising_alike k (x ∷ xs) alike = (
    λ y c. let e : size x ≡ k = alike x (head_in x x xs refl) in let f : size y ≡ k = alike y (tail_in y x xs c) in
        omega arith,
    rising_alike k xs (λ y c. alike y (tail_in y x xs c)),
  )

pub once_behind : {A : Type 0} (xs ys : List A) → IsOnceEach xs → IsOnceEach ys
    → ((x : A) → Contains xs x → Contains ys x → ⊥) → IsOnceEach (xs ++ ys)
once_behind [] ys a b apart = b
once_behind (x ∷ xs) ys a b apart = (
  λ c. elim (Contains-append_cases xs ys x c) [ inl left ↦ a.0 left | inr right ↦ apart x (head_in x x xs refl) right ],
  once_behind xs ys a.1 b (λ y left right. apart y (tail_in y x xs left) right),
)

-- in a list without repetitions what stands behind a front part does not stand in it
once_apart : {A : Type 0} (xs ys : List A) (x : A) → IsOnceEach (xs ++ ys) → Contains xs x → Contains ys x → ⊥
once_apart [] ys x once c d = in_nil x c
once_apart (z ∷ xs) ys x once c d = elim (in_cons x z xs c) [
  | inl here ↦ once.0 (subst (Contains (xs ++ ys)) (sym here) (Contains-append_right xs ys x d))
  | inr more ↦ once_apart xs ys x once.1 more d
]

module _ {A : Type 0} (size : A → ℕ) (Is Root : A → Type 0) (Child : A → A → Type 0) where
  -- each member is a root, or has one parent, which is a member and smaller by one
  pub record IsForest : Type 0 where
    pub roots_are : (x : A) → Root x → Is x
    pub children_are : (q x : A) → Is q → Child q x → Is x
    pub parent : (x : A) → Is x → Root x ⊎ ((q : A) × Is q × Child q x)
    pub longer : (q x : A) → Child q x → size x ≡ size q + 1
    pub one_parent : (q r x : A) → Child q x → Child r x → q ≡ r
    pub no_root : (q x : A) → Child q x → Root x → ⊥
    pub same_size : (x y : A) → Root x → Root y → size x ≡ size y

  pub record IsSearch (done left : List A) : Type 0 where
    pub once : IsOnceEach (done ++ left)
    pub members : (x : A) → Contains (done ++ left) x → Is x
    pub roots : (x : A) → Root x → Contains (done ++ left) x
    pub children : (q x : A) → Contains done q → Child q x → Contains (done ++ left) x
    pub origin : (x : A) → Contains (done ++ left) x → Root x ⊎ ((q : A) × Contains done q × Child q x)
    pub rising : IsRisingBy size (done ++ left)
    -- nothing is larger by more than one than what is not done
    pub near : (x y : A) → Contains left x → Contains (done ++ left) y → size y ≤ size x + 1

  module _ (f : IsForest) where
    -- the roots, each once
    pub search_starts : (left : List A) → IsOnceEach left → ((x : A) → Contains left x ↔ Root x) → IsSearch [] left
    search_starts left once exact = record {
      once = once;
      members = λ x c. f.roots_are x ((exact x).0 c);
      roots = λ x r. (exact x).1 r;
      children = λ q x c child. absurd (in_nil q c);
      origin = λ x c. inl ((exact x).0 c);
      rising = alike left (λ x c. (exact x).0 c);
      near = λ x y c d. let e : size x ≡ size y = f.same_size x y ((exact x).0 c) ((exact y).0 d) in omega arith;
    }
      where
        alike : (xs : List A) → ((x : A) → Contains xs x → Root x) → IsRisingBy size xs
        alike [] roots = tt
        alike (x ∷ xs) roots = (
          λ y c. let e : size x ≡ size y =
              f.same_size x y (roots x (head_in x x xs refl)) (roots y (tail_in y x xs c)) in omega arith,
          alike xs (λ y c. roots y (tail_in y x xs c)),
        )

    -- the first that is not done, whose children are put behind the queue
    module _ (done : List A) (q : A) (rest kids : List A) (s : IsSearch done (q ∷ rest)) (once_kids : IsOnceEach kids)
        (exact : (x : A) → Contains kids x ↔ Child q x) where
      whole : (done ++ q ∷ []) ++ (rest ++ kids) ≡ (done ++ q ∷ rest) ++ kids
      whole = append_assoc done (q ∷ []) (rest ++ kids) ∙ sym (append_assoc done (q ∷ rest) kids)

      here : Contains (done ++ q ∷ rest) q
      here = Contains-append_right done (q ∷ rest) q (head_in q q rest refl)

      in_done : (x : A) → Contains (done ++ q ∷ []) x → Contains done x ⊎ (q ≡ x)
      in_done x c = elim (Contains-append_cases done (q ∷ []) x c) [
        | inl before ↦ inl before
        | inr last ↦
            elim (in_cons x q [] last) [ inl same ↦ inr same | inr more ↦ absurd (in_nil x more) ]
      ]

      done_in : (x : A) → Contains done x → Contains (done ++ q ∷ []) x
      done_in x c = Contains-append_left done (q ∷ []) x c

      kid_is_new : (x : A) → Contains (done ++ q ∷ rest) x → Contains kids x → ⊥
      kid_is_new x c kid = elim (s.origin x c) [
        | inl root ↦ f.no_root q x ((exact x).0 kid) root
        | inr p ↦ once_apart done (q ∷ rest) q s.once
            (subst (Contains done) (f.one_parent p.0 q x p.2 ((exact x).0 kid)) p.1) (head_in q q rest refl)
      ]

      cases : (x : A) → Contains ((done ++ q ∷ rest) ++ kids) x → Contains (done ++ q ∷ rest) x ⊎ Child q x
      cases x c = elim (Contains-append_cases (done ++ q ∷ rest) kids x c) [
        | inl old ↦ inl old
        | inr kid ↦
            inr ((exact x).0 kid)
      ]

      still : (x : A) → Contains (done ++ q ∷ rest) x → Contains ((done ++ q ∷ rest) ++ kids) x
      still x c = Contains-append_left (done ++ q ∷ rest) kids x c

      put : (x : A) → Child q x → Contains ((done ++ q ∷ rest) ++ kids) x
      put x child = Contains-append_right (done ++ q ∷ rest) kids x ((exact x).1 child)

      back : (x : A) → Contains ((done ++ q ∷ []) ++ (rest ++ kids)) x → Contains ((done ++ q ∷ rest) ++ kids) x
      back x c = subst (λ (xs : List A). Contains xs x) whole c

      on : (x : A) → Contains ((done ++ q ∷ rest) ++ kids) x → Contains ((done ++ q ∷ []) ++ (rest ++ kids)) x
      on x c = subst (λ (xs : List A). Contains xs x) (sym whole) c

      smallest : (done rest : List A) → IsRisingBy size (done ++ q ∷ rest) → (x : A) → Contains rest x → size q ≤ size x
      smallest [] rest rising x c = rising.0 x c
      smallest (z ∷ done) rest rising x c = smallest done rest rising.1 x c

      pub search_goes_on : IsSearch (done ++ q ∷ []) (rest ++ kids)
      search_goes_on = record {
        once = subst IsOnceEach (sym whole) (once_behind (done ++ q ∷ rest) kids s.once once_kids kid_is_new);
        members = λ x c. elim (cases x (back x c)) [
          | inl old ↦ s.members x old
          | inr child ↦
              f.children_are q x (s.members q here) child
        ];
        roots = λ x r. on x (still x (s.roots x r));
        children = λ p x c child. on x (elim (in_done p c) [
          | inl before ↦ still x (s.children p x before child)
          | inr same ↦ put x (subst (λ (r : A). Child r x) (sym same) child)
        ]);
        origin = λ x c. elim (cases x (back x c)) [
          | inl old ↦ elim (s.origin x old) [ inl root ↦ inl root | inr p ↦ inr (p.0, done_in p.0 p.1, p.2) ]
          | inr child ↦ inr (q, Contains-append_right done (q ∷ []) q (head_in q q [] refl), child)
        ];
        rising = subst (IsRisingBy size) (sym whole)
            (rising_behind size (done ++ q ∷ rest) kids s.rising
            (rising_alike size (size q + 1) kids (λ x c. f.longer q x ((exact x).0 c))) (λ x y c d.
            let a : size x ≤ size q + 1 = s.near q x (head_in q q rest refl) c in
            let b : size y ≡ size q + 1 = f.longer q y ((exact y).0 d) in
            omega arith));
        near = λ x y c d.
            let least : size q ≤ size x = elim (Contains-append_cases rest kids x c) [
              | inl old ↦ smallest done rest s.rising x old
              | inr kid ↦ (let b : size x ≡ size q + 1 = f.longer q x ((exact x).0 kid) in omega arith)
            ] in
            let most : size y ≤ size q + 1 = elim (cases y (back y d)) [
              | inl old ↦ s.near q y (head_in q q rest refl) old
              | inr child ↦ (let b : size y ≡ size q + 1 = f.longer q y child in omega arith)
            ] in
            omega arith;
      }

    -- once all are done, the queue holds exactly the members, each once, rising
    pub search_ends : (done : List A) → IsSearch done [] → (x : A) → Contains done x ↔ Is x
    search_ends done s x = (λ c. s.members x (Contains-append_left done [] x c), λ is. found (size x) x refl is)
      where
        bare : (y : A) → Contains (done ++ []) y → Contains done y
        bare y c = elim (Contains-append_cases done [] y c) [ inl front ↦ front | inr none ↦ absurd (in_nil y none) ]

        found : (k : ℕ) (y : A) → size y ≡ k → Is y → Contains done y
        found zero y e is = elim (f.parent y is) [
          | inl root ↦ bare y (s.roots y root)
          | inr p ↦ absurd (let l : size y ≡ size p.0 + 1 = f.longer p.0 y p.2 in omega arith)
        ]
        found (suc k) y e is = elim (f.parent y is) [
          | inl root ↦ bare y (s.roots y root)
          | inr p ↦ bare y (s.children p.0 y (found k p.0 (let l : size y ≡ size p.0 + 1 = f.longer p.0 y p.2 in
              omega arith) p.1) p.2)
        ]

-- ---- those of a kind are picked from the list, one behind another

-- of the list 'seen' exactly those of the kind P are picked, each once, rising
pub record IsPicked {A : Type 0} (size : A → ℕ) (P : A → Type 0) (seen picked : List A) : Type 0 where
  pub exact : (x : A) → Contains picked x ↔ (Contains seen x × P x)
  pub once : IsOnceEach picked
  pub rising : IsRisingBy size picked

module _ {A : Type 0} (size : A → ℕ) (P : A → Type 0) where
  pub picking_starts : IsPicked size P [] []
  picking_starts = record { exact = λ x. (λ c. absurd (in_nil x c), λ h. absurd (in_nil x h.0)); once = tt; rising = tt }

  module _ (seen : List A) (x : A) (picked : List A) (s : IsPicked size P seen picked) where
    at_end : (xs : List A) (y : A) → Contains (xs ++ x ∷ []) y ↔ (Contains xs y ⊎ (x ≡ y))
    at_end xs y = (
      λ c. elim (Contains-append_cases xs (x ∷ []) y c) [
        | inl before ↦ inl before
        | inr last ↦
            elim (in_cons y x [] last) [ inl same ↦ inr same | inr more ↦ absurd (in_nil y more) ]
      ],
      λ h. elim h [
        | inl before ↦ Contains-append_left xs (x ∷ []) y before
        | inr same ↦
            Contains-append_right xs (x ∷ []) y (head_in y x [] same)
      ],
    )

    -- the next one is of the kind: it is new, and none that was seen is larger
    pub picks : P x → (Contains seen x → ⊥) → ((y : A) → Contains seen y → size y ≤ size x)
        → IsPicked size P (seen ++ x ∷ []) (picked ++ x ∷ [])
    picks kind new under = record {
      exact = λ y. (
        λ c. elim ((at_end picked y).0 c) [
          | inl before ↦ let h : Contains seen y × P y = (s.exact y).0 before in ((at_end seen y).1 (inl h.0), h.1)
          | inr same ↦ ((at_end seen y).1 (inr same), subst P same kind)
        ],
        λ h. (at_end picked y).1 (elim ((at_end seen y).0 h.0) [
          | inl before ↦
              inl ((s.exact y).1 (before, h.1))
          | inr same ↦ inr same
        ]),
      );
      once = once_behind picked (x ∷ []) s.once (in_nil x, tt)
          (λ y c d. elim (in_cons y x [] d) [
            | inl same ↦
                new (subst (Contains seen) (sym same) ((s.exact y).0 c).0)
            | inr more ↦ in_nil y more
          ]);
      rising = rising_behind size picked (x ∷ []) s.rising (λ y c. absurd (in_nil y c), tt)
          (λ y z c d. elim (in_cons z x [] d) [
            | inl same ↦
                subst (λ (w : A). size y ≤ size w) same (under y ((s.exact y).0 c).0)
            | inr more ↦
                absurd (in_nil z more)
          ]);
    }

    -- .. or it is not
    pub passes_over : (P x → ⊥) → IsPicked size P (seen ++ x ∷ []) picked
    passes_over other = record {
      exact = λ y. (
        λ c. let h : Contains seen y × P y = (s.exact y).0 c in ((at_end seen y).1 (inl h.0), h.1),
        λ h. elim ((at_end seen y).0 h.0) [
          | inl before ↦ (s.exact y).1 (before, h.1)
          | inr same ↦
              absurd (other (subst P (sym same) h.1))
        ],
      );
      once = s.once;
      rising = s.rising;
    }

-- in a rising list none is larger than one behind it
pub earlier_is_smaller : {A : Type 0} (size : A → ℕ) (xs : List A) (y : A) (ys : List A)
    → IsRisingBy size (xs ++ y ∷ ys) → (x : A) → Contains xs x → size x ≤ size y
earlier_is_smaller size [] y ys rising x c = absurd (in_nil x c)
earlier_is_smaller size (z ∷ xs) y ys rising x c = elim (in_cons x z xs c) [
  | inl here ↦ (let l : size z ≤ size y = rising.0 y (Contains-append_right xs (y ∷ ys) y (head_in y y ys refl)) in
      let e : size z ≡ size x = ap size here in omega arith)
  | inr more ↦ earlier_is_smaller size xs y ys rising.1 x more
]

-- ---- the historical paths

-- x goes on behind q by one vertex, and is historical: in a book such are the starred extensions of q behind its end
abbrev pub GoesOn : (List ℕ → Type 0) → List ℕ → List ℕ → Type 0
GoesOn H q x = H x × (1 < length x) × (left_part x ≡ q)

pub historical_forest : (g : Graph) (H : List ℕ → Type 0) → IsClosedUnderParts H
    → ((p : List ℕ) → IsVertex g.vertices p → H p) → ((p : List ℕ) → H p → IsLocal g H p)
    → IsForest length H (IsVertex g.vertices) (GoesOn H)
historical_forest g H closed singles local = record {
  roots_are = singles;
  children_are = λ q x h child. child.0;
  parent = λ x h. elim (cases_lt 1 (length x)) [
    | inl long ↦ inr (left_part x, closed x (left_part x) h (left_is_part x (omega (arith, long))).part, (h, long, refl))
    | inr short ↦ inl (vertex_of_one g x (local x h).walk (omega (arith, short)))
  ];
  longer = λ q x child.
      let long : 1 < length x = child.1 in
      let split : (u : ℕ) × (x ≡ left_part x ++ u ∷ []) = left_and_last x (omega arith) in
      omega (arith, ap length split.1, length-append (left_part x) (split.0 ∷ []), ap length child.2);
  one_parent = λ q r x a b. sym a.2 ∙ b.2;
  no_root = λ q x child root. omega (arith, child.1, ap length root.2);
  same_size = λ x y a b. ap length a.2 ∙ sym (ap length b.2);
}
