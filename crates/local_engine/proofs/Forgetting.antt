-- Several paths are forgotten one behind the other, and a path with all that have one vertex more: for `forget_each`,
-- `longer_by_one`
-- and `forget_from`.
use Rattle.std.specs.Prelude.{◌≡◌, ℕ, zero, suc, ◌+◌, ◌<◌, ◌≤◌, ◌⊎◌, ◌↔◌, List, [], ◌∷◌, ◌++◌, length, take, Some, is_some, unwrap_or, Contains, get_or}
use Rattle.std.proofs.Common.{sym, ◌∙◌, ap, subst, arith, inl, inr}
use Rattle.std.proofs.lemmas.List.{take_more, take_all, length-append}
use Rattle.std.proofs.lemmas.List.Elements.{Contains-append_left, Contains-append_right, Contains-append_cases}
use Rattle.apsp_model.specs.Walk.{IsOnceEach, IsSimple}
use Rattle.apsp_model.specs.Part.{left_part}
use Rattle.apsp_model.proofs.Lists.{ends_differ, left_and_last, length_right}
use Rattle.apsp_model.proofs.Members.{in_cons, in_nil, head_in, tail_in, once_append}
use Rattle.path_arena.specs.Arena.{Arena, no_path, path_at, IsLive, path_of, list_of, left_of, right_of, HasAnEdge, IsPartOfNone}
use Rattle.path_arena.proofs.Paths.{Parted, parted, live_path, live_from_edge}
use Rattle.extension_lists.specs.Known.{sides_at}
use Rattle.path_book.specs.Book.{Book, IsBook, IsMarked, IsForgotten}
use Rattle.path_book.specs.Through.{AreForgotten}
use Rattle.path_book.proofs.Changes.{none_forgotten, forgotten_more}
use Rattle.path_book.proofs.Ends.{Ends, ends, edge_of_right}
use Rattle.local_engine.specs.Demoting.{IsLongerBy, IsForgottenFrom, AreLonger}

-- ---- lists

pub once_before : {A : Type 0} (xs : List A) (i : ℕ) (x : A) → IsOnceEach xs → i < length xs → x ≡ get_or xs i x
    → Contains (take i xs) x → ⊥
once_before [] i x once inside at c = let k : ⊥ = omega (arith, inside) in k
once_before (y ∷ xs) zero x once inside at c = in_nil x c
once_before (y ∷ xs) (suc i) x once inside at c = elim (in_cons x y (take i xs) c) [
  | inl same ↦ once.0 (subst (Contains xs) (sym same) (i, omega (arith, inside), sym at))
  | inr more ↦ once_before xs i x once.1 (omega (arith, inside)) at more
]

pub take_push : {A : Type 0} (xs : List A) (i : ℕ) (x : A) → i < length xs → x ≡ get_or xs i x
    → take (i + 1) xs ≡ take i xs ++ x ∷ []
take_push xs i x inside at = take_more xs i x inside ∙ ap (λ y. take i xs ++ y ∷ []) (sym at)

pub in_push : {A : Type 0} (xs : List A) (x y : A) → Contains (xs ++ x ∷ []) y ↔ (Contains xs y ⊎ (y ≡ x))
in_push xs x y = (
  λ c. elim (Contains-append_cases xs (x ∷ []) y c) [
    | inl before ↦ inl before
    | inr last ↦ elim (in_cons y x [] last) [ inl same ↦ inr (sym same) | inr more ↦ absurd (in_nil y more) ]
  ],
  λ h. elim h [
    | inl before ↦ Contains-append_left xs (x ∷ []) y before
    | inr same ↦
        Contains-append_right xs (x ∷ []) y (head_in y x [] (sym same))
  ],
)

-- ---- what stays where several are forgotten

module _ (old new : Book) (ids : List ℕ) (f : AreForgotten old new ids) where
  pub path_still : (k : ℕ) → IsLive old.arena k → (Contains ids k → ⊥) → path_at new.arena k ≡ path_at old.arena k
  path_still k live stays = let p = live_path old.arena k live in (f.paths k p.0).1 (p.1, stays) ∙ sym p.1

  pub path_was : (k : ℕ) → IsLive new.arena k → (path_at new.arena k ≡ path_at old.arena k) × (Contains ids k → ⊥)
  path_was k live =
      let p = live_path new.arena k live in
      let was = (f.paths k p.0).0 p.1 in
      (p.1 ∙ sym was.0, was.1)

  pub forgotten_as : (others : List ℕ) → ((k : ℕ) → Contains ids k ↔ Contains others k) → AreForgotten old new others
  forgotten_as others same = record {
    vertices = f.vertices;
    singles = f.singles;
    paths = λ k p. (
      λ e. (let was = (f.paths k p).0 e in (was.0, λ c. was.1 ((same k).1 c))),
      λ e. (f.paths k p).1 (e.0, λ c. e.1 ((same k).0 c)),
    );
    marked = λ k. (
      λ m. (let was = (f.marked k).0 m in (was.0, λ c. was.1 ((same k).1 c))),
      λ m. (f.marked k).1 (m.0, λ c. m.1 ((same k).0 c)),
    );
  }

-- the path of an id is the same in two arenas
pub same_path_of : (a d : Arena) (k : ℕ) → path_at a k ≡ path_at d k → path_of a k ≡ path_of d k
same_path_of a d k e = ap (λ o. unwrap_or o no_path) e

-- a part is live, and so is what has it
left_live : (a : Arena) (k id : ℕ) → left_of a k ≡ Some id → HasAnEdge a k
left_live a k id e = ap is_some e

-- what is part of none stays so
pub free_still : (old new : Book) (ids : List ℕ) (id : ℕ) → AreForgotten old new ids → IsBook new
    → ((k : ℕ) → IsLongerBy old.arena id k → Contains ids k) → IsPartOfNone new.arena id
free_still old new ids id f now all = record {
  left = λ k e. (
      let live : IsLive new.arena k = live_from_edge new.arena k now.arena (ap is_some e) in
      let was = path_was old new ids f k live in
      was.1 (all k (inl (ap (λ p. p.left) (sym (same_path_of new.arena old.arena k was.0)) ∙ e)))
      );
  right = λ k e. (
      let live : IsLive new.arena k = live_from_edge new.arena k now.arena (edge_of_right new.arena now.arena k id e) in
      let was = path_was old new ids f k live in
      was.1 (all k (inr (ap (λ p. p.right) (sym (same_path_of new.arena old.arena k was.0)) ∙ e)))
      );
}

-- ---- one behind the other

pub record IsForgettingEach (old : Book) (ids : List ℕ) (i : ℕ) (now : Book) : Type 0 where
  pub gone : List ℕ
  pub exact : (k : ℕ) → Contains gone k ↔ Contains (take i ids) k
  pub forgotten : AreForgotten old now gone

pub forgetting_starts : (old : Book) (ids : List ℕ) → IsForgettingEach old ids 0 old
forgetting_starts old ids = record {
  gone = [];
  exact = λ k. (λ c. absurd (in_nil k c), λ c. absurd (in_nil k c));
  forgotten = none_forgotten old;
}

module _ (old now : Book) (ids : List ℕ) (i id : ℕ) (s : IsForgettingEach old ids i now) (inside : i < length ids)
    (at : id ≡ get_or ids i id) where
  here : Contains ids id
  here = (i, inside, sym at)

  module _ (once : IsOnceEach ids) (edges : (k : ℕ) → Contains ids k → HasAnEdge old.arena k) (was : IsBook old) where
    path_same : path_at now.arena id ≡ path_at old.arena id
    path_same = path_still old now s.gone s.forgotten id (live_from_edge old.arena id was.arena (edges id here))
        (λ c. once_before ids i id once inside at ((s.exact id).0 c))

    pub edge_now : HasAnEdge now.arena id
    edge_now = ap (λ p. is_some p.left) (same_path_of now.arena old.arena id path_same) ∙ edges id here

  pub free_now : IsBook now → ((k : ℕ) → Contains ids k → IsPartOfNone old.arena k) → IsPartOfNone now.arena id
  free_now lawful free = free_still old now s.gone id s.forgotten lawful
      (λ k longer. absurd (elim longer [ inl e ↦ (free id here).left k e | inr e ↦ (free id here).right k e ]))

  pub forgetting_more : (new : Book) → IsForgotten now new id → IsForgettingEach old ids (i + 1) new
  forgetting_more new f = record {
    gone = id ∷ s.gone;
    exact = λ k. (
      λ c. subst (λ xs. Contains xs k) (sym (take_push ids i id inside at))
          ((in_push (take i ids) id k).1
          (elim (in_cons k id s.gone c) [ inl same ↦ inr (sym same) | inr more ↦ inl ((s.exact k).0 more) ])),
      λ c. elim ((in_push (take i ids) id k).0 (subst (λ xs. Contains xs k) (take_push ids i id inside at) c))
          [ inl before ↦ tail_in k id s.gone ((s.exact k).1 before) | inr same ↦ head_in k id s.gone (sym same) ],
    );
    forgotten = forgotten_more old now new s.gone id s.forgotten f.arena f.marked;
  }

pub forgetting_ends : (old now : Book) (ids : List ℕ) (i : ℕ) → length ids ≤ i → IsForgettingEach old ids i now
    → AreForgotten old now ids
forgetting_ends old now ids i past s =
    forgotten_as old now s.gone s.forgotten ids
    (λ k. (
      λ c. subst (λ xs. Contains xs k) (take_all i ids past) ((s.exact k).0 c),
      λ c. (s.exact k).1 (subst (λ xs. Contains xs k) (sym (take_all i ids past)) c),
    ))

-- ---- the paths with one vertex more

simple_at : (b : Book) (k : ℕ) → IsBook b → HasAnEdge b.arena k → IsSimple (list_of b.arena k)
simple_at b k was edge = let p : Parted b.arena k = parted b.arena k was.arena edge in
    subst IsSimple (sym (ap (λ q. q.list) p.of)) p.is.simple

same_some : (x y : ℕ) → Some x ≡ Some y → x ≡ y
same_some x y e = cc

-- not both in front and behind
pub longer_at_one_end : (b : Book) (id k : ℕ) → IsBook b → left_of b.arena k ≡ Some id → right_of b.arena k ≡ Some id → ⊥
longer_at_one_end b id k was left right =
    let edge : HasAnEdge b.arena k = ap is_some left in
    let e : Ends b.arena k = ends b.arena k was.arena edge in
    let l : e.left ≡ id = same_some e.left id (sym e.left_is ∙ left) in
    let r : e.right ≡ id = same_some e.right id (sym e.right_is ∙ right) in
    ends_differ (list_of b.arena k) (let long : 1 < length (list_of b.arena k) = e.long in
    omega arith) (simple_at b k was edge)
    (sym e.left_list ∙ ap (list_of b.arena) (l ∙ sym r) ∙ e.right_list)

pub longer_are : (b : Book) (id : ℕ) (ids : List ℕ) → IsBook b
    → ids ≡ (sides_at b.lists id).left ++ (sides_at b.lists id).right → IsOnceEach (sides_at b.lists id).left
    → IsOnceEach (sides_at b.lists id).right → AreLonger b id ids
longer_are b id ids was is once_left once_right = subst (AreLonger b id) (sym is) (record {
  exact = λ k. (
    λ c. elim (Contains-append_cases (sides_at b.lists id).left (sides_at b.lists id).right k c) [
      | inl front ↦ inr ((was.extensions.left id k).0 front)
      | inr behind ↦ inl ((was.extensions.right id k).0 behind)
    ],
    λ h. elim h [
      | inl left ↦ Contains-append_right (sides_at b.lists id).left (sides_at b.lists id).right k
          ((was.extensions.right id k).1 left)
      | inr right ↦ Contains-append_left (sides_at b.lists id).left (sides_at b.lists id).right k
          ((was.extensions.left id k).1 right)
    ],
  );
  once = once_append (sides_at b.lists id).left (sides_at b.lists id).right once_left once_right
      (λ k front behind. longer_at_one_end b id k was ((was.extensions.right id k).0 behind)
      ((was.extensions.left id k).0 front));
})

-- they have an edge
pub longer_has_edge : (b : Book) (id k : ℕ) → IsBook b → IsLongerBy b.arena id k → HasAnEdge b.arena k
longer_has_edge b id k was h =
    elim h [ inl left ↦ ap is_some left | inr right ↦ edge_of_right b.arena was.arena k id right ]

-- they are parts of none, where none of them is historical
pub longer_is_free : (b : Book) (id k : ℕ) → IsBook b → ((q : ℕ) → IsMarked b q → IsLongerBy b.arena id q → ⊥)
    → IsLongerBy b.arena id k → IsPartOfNone b.arena k
longer_is_free b id k was none longer = record {
  left = λ q e. none k (was.left_marked q k e) longer;
  right = λ q e. none k (was.right_marked q k e) longer;
}

-- .. and the path itself has fewer vertices
not_itself : (b : Book) (id : ℕ) → IsBook b → IsLongerBy b.arena id id → ⊥
not_itself b id was longer =
    let edge : HasAnEdge b.arena id = longer_has_edge b id id was longer in
    let e : Ends b.arena id = ends b.arena id was.arena edge in
    let long : 1 < length (list_of b.arena id) = e.long in
    elim longer [
      | inl left ↦
          let same : e.left ≡ id = same_some e.left id (sym e.left_is ∙ left) in
          let w = left_and_last (list_of b.arena id) (omega arith) in
          omega (
            arith,
            ap length w.1,
            length-append (left_part (list_of b.arena id)) (w.0 ∷ []),
            ap length (sym (ap (list_of b.arena) same) ∙ e.left_list),
          )
      | inr right ↦
          let same : e.right ≡ id = same_some e.right id (sym e.right_is ∙ right) in
          omega (
            arith,
            length_right (list_of b.arena id) (omega arith),
            ap length (sym (ap (list_of b.arena) same) ∙ e.right_list),
          )
    ]

-- ---- the path itself, behind them

module _ (old mid : Book) (id : ℕ) (ids : List ℕ) (was : IsBook old) (edge : HasAnEdge old.arena id)
    (longer : AreLonger old id ids) (f : AreForgotten old mid ids) where
  pub still_edge : HasAnEdge mid.arena id
  still_edge =
      let same : path_at mid.arena id ≡ path_at old.arena id =
      path_still old mid ids f id (live_from_edge old.arena id was.arena edge)
      (λ c. not_itself old id was ((longer.exact id).0 c)) in
      ap (λ p. is_some p.left) (same_path_of mid.arena old.arena id same) ∙ edge

  pub then_free : IsBook mid → IsPartOfNone mid.arena id
  then_free now = free_still old mid ids id f now (λ k h. (longer.exact k).1 h)

  pub all_forgotten : (new : Book) → IsForgotten mid new id → IsForgottenFrom old new id
  all_forgotten new last = record {
    ids = id ∷ ids;
    exact = λ k. (
      λ c. elim (in_cons k id ids c) [ inl same ↦ inr (sym same) | inr more ↦ inl ((longer.exact k).0 more) ],
      λ h. elim h [ inl more ↦ tail_in k id ids ((longer.exact k).1 more) | inr same ↦ head_in k id ids (sym same) ],
    );
    forgotten = forgotten_more old mid new ids id f last.arena last.marked;
  }
