-- What the calls change of the list of kept paths.
use Rattle.std.specs.Prelude.{◌≡◌, ◌≢◌, ℕ, ◌<◌, ◌⊎◌, List, [], ◌∷◌, length, ◌↔◌, Bool, true, false, Option, Some, None, is_some, unwrap_or, refl, Contains}
use Rattle.std.specs.FinSet as set
use Rattle.std.proofs.Common.{sym, ◌∙◌, ap, subst, arith, inl, inr}
use Rattle.std.proofs.lemmas.Bool.{cases_eq, false≢true}
use Rattle.std.proofs.lemmas.List.{length-append}
use Rattle.apsp_model.specs.Paths.{KeptPath}
use Rattle.apsp_model.proofs.Members.{in_cons, in_nil, head_in, tail_in}
use Rattle.path_arena.specs.Arena.{Path, path_at, vertex_of, IsLive, no_path, path_of, list_of, single, joined_path, CanJoin, without_path, with_path}
use Rattle.path_arena.proofs.Keys.{get_put, get_put_other, get_gone, get_gone_other}
use Rattle.path_arena.proofs.Paths.{live_from, live_apart, path_of_at, live_path, Meeting, meeting}
use Rattle.extension_lists.specs.Known.{Known}
use Rattle.path_book.specs.Book.{Book, IsMarked, kept_path, kept_paths, with_kept, with_mark, IsForgotten, IsNewList, IsOpeningBook, IsBook}
use Rattle.path_book.specs.Through.{AreForgotten}
use Rattle.path_book.proofs.Kept.{KeptAt, in_kept, to_kept, live_is_kept, kept_at}
use Rattle.path_book.proofs.Sets.{marked_put, marked_put_other, marked_gone, marked_gone_other}

-- which ids are live after one is forgotten
pub live_is_left : (b new : Book) (id : ℕ) → IsForgotten b new id → (q : ℕ)
    → IsLive new.arena q ↔ (IsLive b.arena q × (q ≢ id))
live_is_left b new id f q = elim (cases_eq q id) [
  | inl same ↦
      let gone : path_at new.arena q ≡ None =
      ap (λ a. path_at a q) f.arena ∙ ap (path_at (without_path b.arena id)) same ∙ get_gone b.arena.paths id in
      (λ h. absurd (false≢true (sym (ap is_some gone) ∙ h)), λ h. absurd (h.1 same))
  | inr apart ↦
      let kept : path_at new.arena q ≡ path_at b.arena q =
      ap (λ a. path_at a q) f.arena ∙ get_gone_other b.arena.paths id q apart in
      (λ h. (sym (ap is_some kept) ∙ h, apart), λ h. ap is_some kept ∙ h.0)
]

-- a new path, as it is kept
abbrev pub new_kept : Path → KeptPath
new_kept p = record { list = p.list; weight = p.weight; historical = false; birth = p.birth }

module _ (b : Book) (id : ℕ) (p : Path) (fresh : IsLive b.arena id → ⊥) (unmarked : set.contains b.marked id ≡ false)
  where
    -- one path more
    pub kept_formed : (k : KeptPath) → Contains (kept_paths (with_kept b id p)) k ↔
        (Contains (kept_paths b) k ⊎ (k ≡ new_kept p))
    kept_formed k = (
      λ c. (
          let e = in_kept (with_kept b id p) k c in
          elim (cases_eq e.0 id) [
            | inl same ↦
                let two : Some p ≡ Some e.1 =
                sym (get_put b.arena.paths id p) ∙ ap (path_at (with_path b.arena id p)) (sym same) ∙ e.2 in
                let one : p ≡ e.1 = cc in
                let mark : set.contains b.marked e.0 ≡ false = ap (set.contains b.marked) same ∙ unmarked in
                inr (sym e.3 ∙ (λ i. record {
                  list = (sym one i).list;
                  weight = (sym one i).weight;
                  historical = mark i;
                  birth = (sym one i).birth;
                }))
            | inr apart ↦ inl (subst (Contains (kept_paths b)) e.3
                (to_kept b e.0 e.1 (sym (get_put_other b.arena.paths id p e.0 apart) ∙ e.2)))
          ]
          ),
      λ h. elim h [
        | inl before ↦ (
            let e = in_kept b k before in
            let apart : e.0 ≢ id = λ same. fresh (subst (IsLive b.arena) same (live_from b.arena e.0 e.1 e.2)) in
            subst (Contains (kept_paths (with_kept b id p))) e.3
            (to_kept (with_kept b id p) e.0 e.1 (get_put_other b.arena.paths id p e.0 apart ∙ e.2))
            )
        | inr new ↦ (
            let is : kept_path (with_kept b id p) id p ≡ new_kept p =
            (λ i. record { list = p.list; weight = p.weight; historical = unmarked i; birth = p.birth }) in
            subst (Contains (kept_paths (with_kept b id p))) (is ∙ sym new)
            (to_kept (with_kept b id p) id p (get_put b.arena.paths id p))
            )
      ],
    )

module _ (b : Book) (id : ℕ) (was : IsBook b) (live : IsLive b.arena id) where
  abbrev now_historical : KeptPath
  now_historical =
      record {
        list = list_of b.arena id;
        weight = (path_of b.arena id).weight;
        historical = true;
        birth
            = (path_of b.arena id).birth;
      }

  -- one path is historical now, and all others are as before
  pub kept_promoted : (lists : Known) (k : KeptPath)
      → Contains (kept_paths (with_mark b id lists)) k ↔
      ((Contains (kept_paths b) k × (k.list ≡ list_of b.arena id → ⊥))
      ⊎ (k ≡ record {
        list = list_of b.arena id;
        weight = (path_of b.arena id).weight;
        historical = true;
        birth
            = (path_of b.arena id).birth;
      }))
  kept_promoted lists k = (
    λ c. (
        let e = kept_at (with_mark b id lists) k c in
        elim (cases_eq e.id id) [
          | inl same ↦ inr (sym e.is ∙ ap (λ j. kept_path (with_mark b id lists) j (path_of b.arena j)) same
              ∙ (λ i. record {
                list = list_of b.arena id;
                weight = (path_of b.arena id).weight;
                historical = marked_put
                    b.marked id i;
                birth = (path_of b.arena id).birth;
              }))
          | inr apart ↦
              let mark : set.contains (set.insert b.marked id) e.id ≡ set.contains b.marked e.id =
              marked_put_other b.marked id e.id apart in
              let is : kept_path b e.id (path_of b.arena e.id) ≡ k =
              (λ i. record {
                list = list_of b.arena e.id;
                weight = (path_of b.arena e.id).weight;
                historical
                    = sym mark i;
                birth = (path_of b.arena e.id).birth;
              }) ∙ e.is in
              inl (
                subst (Contains (kept_paths b)) is (live_is_kept b e.id e.live),
                λ same. apart
                    (was.once e.id id e.live live (e.list ∙ same)),
              )
        ]
        ),
    λ h. elim h [
      | inl before ↦ (
          let e = kept_at b k before.0 in
          let apart : e.id ≢ id = λ same. before.1 (sym e.list ∙ ap (list_of b.arena) same) in
          let mark : set.contains (set.insert b.marked id) e.id ≡ set.contains b.marked e.id =
          marked_put_other b.marked id e.id apart in
          let is : kept_path (with_mark b id lists) e.id (path_of b.arena e.id) ≡ k =
          (λ i. record {
            list = list_of b.arena e.id;
            weight = (path_of b.arena e.id).weight;
            historical = mark i;
            birth = (path_of b.arena e.id).birth;
          }) ∙ e.is in
          subst (Contains (kept_paths (with_mark b id lists))) is (live_is_kept (with_mark b id lists) e.id e.live)
          )
      | inr now ↦ (
          let is : kept_path (with_mark b id lists) id (path_of b.arena id) ≡ now_historical =
          (λ i. record {
            list = list_of b.arena id;
            weight = (path_of b.arena id).weight;
            historical = marked_put
                b.marked id i;
            birth = (path_of b.arena id).birth;
          }) in
          subst (Contains (kept_paths (with_mark b id lists))) (is ∙ sym now)
          (live_is_kept (with_mark b id lists) id live)
          )
    ],
  )

  -- one path less
  pub kept_forgotten : (new : Book) → IsForgotten b new id → (k : KeptPath)
      → Contains (kept_paths new) k ↔ (Contains (kept_paths b) k × (k.list ≡ list_of b.arena id → ⊥))
  kept_forgotten new f k = (
    λ c. (
        let e = kept_at new k c in
        let old = (live_is_left b new id f e.id).0 e.live in
        let of : path_of new.arena e.id ≡ path_of b.arena e.id = path_left e.id old.1 in
        let is : kept_path b e.id (path_of b.arena e.id) ≡ k =
        (λ i. record {
          list = (sym of i).list;
          weight = (sym of i).weight;
          historical = sym (mark_left e.id old.1)
              i;
          birth = (sym of i).birth;
        }) ∙ e.is in (
          subst (Contains (kept_paths b)) is (live_is_kept b e.id old.0),
          λ same. old.1
              (was.once e.id id old.0 live (ap (λ q. q.list) is ∙ same)),
        )
        ),
    λ h. (
        let e = kept_at b k h.0 in
        let apart : e.id ≢ id = λ same. h.1 (sym e.list ∙ ap (list_of b.arena) same) in
        let of : path_of new.arena e.id ≡ path_of b.arena e.id = path_left e.id apart in
        let is : kept_path new e.id (path_of new.arena e.id) ≡ k =
        (λ i. record {
          list = (of i).list;
          weight = (of i).weight;
          historical = mark_left e.id apart i;
          birth
              = (of i).birth;
        }) ∙ e.is in
        subst (Contains (kept_paths new)) is (live_is_kept new e.id ((live_is_left b new id f e.id).1 (e.live, apart)))
        ),
  )
    where
      path_left : (q : ℕ) → q ≢ id → path_of new.arena q ≡ path_of b.arena q
      path_left q apart =
          ap (λ a. path_of a q) f.arena ∙ ap (λ o. unwrap_or o no_path) (get_gone_other b.arena.paths id q apart)

      mark_left : (q : ℕ) → q ≢ id → set.contains new.marked q ≡ set.contains b.marked q
      mark_left q apart = ap (λ s. set.contains s q) f.marked ∙ marked_gone_other b.marked id q apart

-- ---- what stays where several are forgotten

pub none_forgotten : (b : Book) → AreForgotten b b []
none_forgotten b = record {
  vertices = refl;
  singles = refl;
  paths = λ q p. (λ h. (h, in_nil q), λ h. h.0);
  marked = λ q. (λ h. (h, in_nil q), λ h. h.0);
}

-- one path more
pub forgotten_more : (b now new : Book) (ids : List ℕ) (id : ℕ) → AreForgotten b now ids
    → new.arena ≡ without_path now.arena id → new.marked ≡ set.remove now.marked id → AreForgotten b new (id ∷ ids)
forgotten_more b now new ids id f arena marked = record {
  vertices = ap (λ a. a.vertices) arena ∙ f.vertices;
  singles = ap (λ a. a.singles) arena ∙ f.singles;
  paths = λ q p. (
    λ h. (
        let apart : q ≢ id =
        λ same. (let no : None ≡ Some p = sym gone ∙ ap (path_at new.arena) (sym same) ∙ h in
        absurd (false≢true (ap is_some no))) in
        let was = (f.paths q p).0 (sym (path_left q apart) ∙ h) in
        (was.0, not_in q apart was.1)
        ),
    λ h. path_left q (apart_from q h.1) ∙ (f.paths q p).1 (h.0, λ c. h.1 (tail_in q id ids c)),
  );
  marked = λ q. (
    λ h. (
        let apart : q ≢ id = λ same. absurd (false≢true (sym unmarked ∙ ap (set.contains new.marked) (sym same) ∙ h)) in
        let was = (f.marked q).0 (sym (mark_left q apart) ∙ h) in
        (was.0, not_in q apart was.1)
        ),
    λ h. mark_left q (apart_from q h.1) ∙ (f.marked q).1 (h.0, λ c. h.1 (tail_in q id ids c)),
  );
}
  where
    gone : path_at new.arena id ≡ None
    gone = ap (λ a. path_at a id) arena ∙ get_gone now.arena.paths id

    path_left : (q : ℕ) → q ≢ id → path_at new.arena q ≡ path_at now.arena q
    path_left q apart = ap (λ a. path_at a q) arena ∙ get_gone_other now.arena.paths id q apart

    unmarked : set.contains new.marked id ≡ false
    unmarked = ap (λ s. set.contains s id) marked ∙ marked_gone now.marked id

    mark_left : (q : ℕ) → q ≢ id → set.contains new.marked q ≡ set.contains now.marked q
    mark_left q apart = ap (λ s. set.contains s q) marked ∙ marked_gone_other now.marked id q apart

    apart_from : (q : ℕ) → (Contains (id ∷ ids) q → ⊥) → q ≢ id
    apart_from q other same = other (head_in q id ids (sym same))

    not_in : (q : ℕ) → q ≢ id → (Contains ids q → ⊥) → Contains (id ∷ ids) q → ⊥
    not_in q apart other c = elim (in_cons q id ids c) [ inl same ↦ apart (sym same) | inr more ↦ other more ]

same_option : (o n : Option Path) → ((p : Path) → (n ≡ Some p) ↔ (o ≡ Some p)) → n ≡ o
same_option None None h = refl
same_option None (Some p) h = sym ((h p).0 refl)
same_option (Some p) n h = (h p).1 refl

same_truth : (a b : Bool) → ((a ≡ true) ↔ (b ≡ true)) → a ≡ b
same_truth true b h = sym (h.0 refl)
same_truth false true h = h.1 refl
same_truth false false h = refl

module _ (b new : Book) (ids : List ℕ) (f : AreForgotten b new ids) where
  same_path : (id : ℕ) → (Contains ids id → ⊥) → path_at new.arena id ≡ path_at b.arena id
  same_path id other =
      same_option (path_at b.arena id) (path_at new.arena id)
      (λ p. (λ h. ((f.paths id p).0 h).0, λ h. (f.paths id p).1 (h, other)))

  same_kept : (id : ℕ) → (Contains ids id → ⊥)
      → kept_path new id (path_of new.arena id) ≡ kept_path b id (path_of b.arena id)
  same_kept id other =
      let of : path_of new.arena id ≡ path_of b.arena id = ap (λ o. unwrap_or o no_path) (same_path id other) in
      let mark : set.contains new.marked id ≡ set.contains b.marked id =
      same_truth (set.contains new.marked id) (set.contains b.marked id)
      (λ h. ((f.marked id).0 h).0, λ h. (f.marked id).1 (h, other)) in
      (λ i. record { list = (of i).list; weight = (of i).weight; historical = mark i; birth = (of i).birth })

  -- what is kept was kept, and is none of them
  pub kept_before : (k : KeptPath) → Contains (kept_paths new) k → (at : KeptAt b k) × (Contains ids at.id → ⊥)
  kept_before k c =
      let at : KeptAt new k = kept_at new k c in
      let p = live_path new.arena at.id at.live in
      let was = (f.paths at.id p.0).0 p.1 in
      let is : kept_path b at.id (path_of b.arena at.id) ≡ k = sym (same_kept at.id was.1) ∙ at.is in
      (record { id = at.id; live = ap is_some was.0; is = is; list = ap (λ q. q.list) is }, was.1)

  pub kept_still : (id : ℕ) → IsLive b.arena id → (Contains ids id → ⊥)
      → Contains (kept_paths new) (kept_path b id (path_of b.arena id))
  kept_still id live other =
      subst (Contains (kept_paths new)) (same_kept id other)
      (live_is_kept new id (ap is_some (same_path id other) ∙ live))

-- ---- for callers: conditions that hold behind a call

-- a list of two or more vertices is new to an opening book
pub new_at_opening : (b : Book) (n : ℕ) (list : List ℕ) → IsBook b → IsOpeningBook b n → 1 < length list
    → IsNewList b list
new_at_opening b n list was opening long id live same =
    let u = opening.live id live in
    let inside : u.0 < b.arena.vertices = (let l : u.0 < n = u.1 in omega (arith, opening.vertices)) in
    let of : list_of b.arena id ≡ u.0 ∷ [] =
    ap (list_of b.arena) u.2 ∙ ap (λ p. p.list)
    (path_of_at b.arena (vertex_of b.arena u.0) (single u.0) (was.arena.singles u.0 inside)) in
    omega (arith, ap length same, ap length of)

-- a list stays new where another is formed
pub still_new : (b c : Book) (id : ℕ) (p : Path) (list : List ℕ) → c ≡ with_kept b id p → (p.list ≡ list → ⊥)
    → IsNewList b list → IsNewList c list
still_new b c id p list is other new =
    subst (λ d. IsNewList d list) (sym is) (λ q live same. elim (cases_eq q id) [
      | inl here ↦ other (sym (ap (λ r. r.list) (path_of_at (with_path b.arena id p) id p (get_put b.arena.paths id p)))
          ∙ ap (list_of (with_path b.arena id p)) (sym here) ∙ same)
      | inr apart ↦
          let kept : path_at (with_path b.arena id p) q ≡ path_at b.arena q =
          get_put_other b.arena.paths id p q apart in
          new q (sym (ap is_some kept) ∙ live) (sym (ap (λ o. (unwrap_or o no_path).list) kept) ∙ same)
    ])

-- a path is not historical yet where it was just formed
pub formed_pending : (b c : Book) (id : ℕ) (p : Path) → IsBook b → path_at b.arena id ≡ None → c ≡ with_kept b id p
    → IsMarked c id → ⊥
formed_pending b c id p was fresh is mark =
    let before : IsMarked b id = subst (λ d. IsMarked d id) is mark in
    live_apart b.arena id id fresh (was.marked_live id before) refl

-- nor where another is formed or made historical
pub still_pending_formed : (b c : Book) (id q : ℕ) (p : Path) → c ≡ with_kept b id p → (IsMarked b q → ⊥) → IsMarked c q
    → ⊥
still_pending_formed b c id q p is pending mark = pending (subst (λ d. IsMarked d q) is mark)

pub still_pending_marked : (b c : Book) (id q : ℕ) → c ≡ with_mark b id c.lists → q ≢ id → (IsMarked b q → ⊥)
    → IsMarked c q → ⊥
still_pending_marked b c id q is apart pending mark =
    pending (sym (marked_put_other b.marked id q apart) ∙ subst (λ d. IsMarked d q) is mark)

pub marked_now : (b c : Book) (id : ℕ) → c ≡ with_mark b id c.lists → IsMarked c id
marked_now b c id is = subst (λ d. IsMarked d id) (sym is) (marked_put b.marked id)

pub still_marked : (b c : Book) (id q : ℕ) → c ≡ with_mark b id c.lists → IsMarked b q → IsMarked c q
still_marked b c id q is mark = subst (λ d. IsMarked d q) (sym is) (elim (cases_eq q id) [
  | inl same ↦ ap (set.contains (set.insert b.marked id)) same ∙ marked_put b.marked id
  | inr apart ↦ marked_put_other b.marked id q apart ∙ mark
])

-- a join has three or more vertices
pub join_is_long : (b : Book) (l r birth : ℕ) → IsBook b → CanJoin b.arena l r
    → 2 < length (joined_path b.arena l r birth).list
join_is_long b l r birth was can =
    let m : Meeting b.arena l r = meeting b.arena l r was.arena can in
    let some : 1 < length (list_of b.arena l) = m.overlap.some in
    omega (arith, ap length (m.list birth), length-append (list_of b.arena l) (m.to ∷ []))
