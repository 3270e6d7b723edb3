-- For growing.rt: what a copy keeps, and one copy more.
use Rattle.std.specs.Prelude.{◌≡◌, ◌≢◌, ℕ, ◌+◌, ◌-◌, ◌*◌, ◌<◌, ◌≤◌, true, false, List, [], ◌∷◌, ◌++◌, length, Option, Some, None, IsSome, is_some, unwrap_or, option_to_list, slice_index, Result, Ok, Err, IfOk, refl, Contains}
use Rattle.std.specs.FinSet as set
use Rattle.std.proofs.Common.{sym, ◌∙◌, ap, subst, arith, inl, inr}
use Rattle.std.proofs.lemmas.Bool.{cases_eq, cases_Bool, false≢true}
use Rattle.apsp_model.specs.declared.TheConstants.{MOST_WEIGHT}
use Rattle.apsp_model.specs.Graph.{Graph}
use Rattle.apsp_model.specs.Walk.{IsWalk, weight_of, hops_of, first, last}
use Rattle.apsp_model.specs.Part.{left_part, right_part}
use Rattle.apsp_model.specs.Paths.{IsKeptIn}
use Rattle.apsp_model.specs.Settled.{HaveWeights}
use Rattle.apsp_model.proofs.Lists.{first_in, last_in, first_of_left, length_right}
use Rattle.apsp_model.proofs.Walks.{last_is, last_of_tail}
use Rattle.apsp_model.proofs.Joins.{joined, right-left, IsOverlap, overlap_of, join_is_whole, weight-joined}
use Rattle.path_arena.specs.Arena.{Path, Arena, path_at, path_of, list_of, weight_of_id, vertex_of, left_of, right_of, IsLive, HasAnEdge, IsPath, single, no_path, joined_path, with_path, CanJoin, IsArena}
use Rattle.path_arena.proofs.Keys.{get_put, get_put_other}
use Rattle.path_arena.proofs.Paths.{live_apart, live_path, live_from, live_from_edge, path_of_at}
use Rattle.extension_lists.specs.Known.{Known}
use Rattle.path_book.specs.Book.{Book, IsMarked, IsBook, IsNewList, kept_path, kept_paths, with_mark}
use Rattle.path_book.proofs.Kept.{live_is_kept}
use Rattle.path_book.proofs.Readers.{single_or_edge, ends_apart}
use Rattle.path_book.proofs.Sets.{marked_put, marked_put_other}
use Rattle.fixup.proofs.Parts.{Parts, parts_of, edge_from_right, edge_from_long, same_id}
use Rattle.book_widening.specs.Copies.{copy_at, HaveSums, IsCopy, AreCopies, CanBeCopied, IsFormedLike, HasCopied}

-- ---- options

pub none_some : (o : Option ℕ) (x : ℕ) → o ≡ None → o ≡ Some x → ⊥
none_some o x e f = let two : None ≡ Some x = sym e ∙ f in cc

pub some_from : (o : Option ℕ) → IsSome o → (x : ℕ) × (o ≡ Some x)
some_from None h = absurd (false≢true h)
some_from (Some x) h = (x, refl)

pub none_from : (o : Option ℕ) → (IsSome o → ⊥) → o ≡ None
none_from None h = refl
none_from (Some x) h = absurd (h refl)

pub some_is : (o : Option ℕ) (x : ℕ) → o ≡ Some x → IsSome o
some_is o x e = ap is_some e

-- ---- single vertices

pub single_path : (a : Arena) → IsArena a → (v : ℕ) → v < a.vertices → path_of a (vertex_of a v) ≡ single v
single_path a was v inside = path_of_at a (vertex_of a v) (single v) (was.singles v inside)

-- a live path whose list is that of a vertex weighs nothing
pub single_weight : (a : Arena) → IsArena a → (id v : ℕ) → IsLive a id → list_of a id ≡ v ∷ [] → weight_of_id a id ≡ 0
single_weight a was id v live list = elim (single_or_edge a id was live) [
  | inl one ↦ ap (weight_of_id a) one.2 ∙ ap (λ q. q.weight) (single_path a was one.0 one.1)
  | inr edge ↦ (let long : 1 < length (list_of a id) = (parts_of a id was edge).long in
      omega (arith, long, ap length list))
]

-- ---- the sums of weights

pub have_sums : (g : Graph) (b : Book) → IsBook b → ((p : List ℕ) → IsKeptIn (kept_paths b) p → IsWalk g p)
    → HaveWeights g (kept_paths b) → HaveSums b.arena
have_sums g b was walks weights id l r m left right middle =
    let a : Arena = b.arena in
    let p : Parts a id = parts_of a id was.arena (ap is_some left) in
    let at_l : p.left ≡ l = same_id p.left l (sym p.left_is ∙ left) in
    let at_r : p.right ≡ r = same_id p.right r (sym p.right_is ∙ right) in
    let live : IsLive a id = live_from_edge a id was.arena (ap is_some left) in
    let live_l : IsLive a l = subst (IsLive a) at_l p.left_live in
    let live_r : IsLive a r = subst (IsLive a) at_r p.right_live in
    let q : Parts a l = parts_of a l was.arena (edge_from_right a l m was.arena live_l middle) in
    let at_m : q.right ≡ m = same_id q.right m (sym q.right_is ∙ middle) in
    let live_m : IsLive a m = subst (IsLive a) at_m q.right_live in
    let whole : List ℕ = list_of a id in
    let list_l : list_of a l ≡ left_part whole = ap (list_of a) (sym at_l) ∙ p.left_list in
    let list_r : list_of a r ≡ right_part whole = ap (list_of a) (sym at_r) ∙ p.right_list in
    let list_m : list_of a m ≡ right_part (left_part whole) =
    ap (list_of a) (sym at_m) ∙ q.right_list ∙ ap right_part list_l in
    let long : 1 < length whole = p.long in
    let end : (y : ℕ) × (last whole ≡ Some y) = last_is whole (omega (arith, long)) in
    let three : 3 ≤ length whole =
    long_whole whole long (let l : 1 < length (list_of a l) = q.long in omega (arith, l, ap length list_l)) in
    let o : IsOverlap (left_part whole) (right_part whole) end.0 = overlap_of whole end.0 three end.1 in
    let walk : IsWalk g (right_part whole) =
    subst (IsWalk g) list_r (walks (list_of a r) (kept_path b r (path_of a r), live_is_kept b r live_r, refl)) in
    let sum : weight_of g (joined (left_part whole) end.0) + weight_of g (right_part (left_part whole)) ≡ weight_of g
    (left_part whole) + weight_of g (right_part whole) = weight-joined g (left_part whole) (right_part whole) end.0
    o walk in
    let w : weight_of_id a id ≡ weight_of g (joined (left_part whole) end.0) =
    weighs id live ∙ ap (weight_of g) (sym (join_is_whole whole end.0 end.1)) in
    let wl : weight_of_id a l ≡ weight_of g (left_part whole) = weighs l live_l ∙ ap (weight_of g) list_l in
    let wr : weight_of_id a r ≡ weight_of g (right_part whole) = weighs r live_r ∙ ap (weight_of g) list_r in
    let wm : weight_of_id a m ≡ weight_of g (right_part (left_part whole)) =
    weighs m live_m ∙ ap (weight_of g) list_m in
    omega (arith, sum, w, wl, wr, wm)
  where
    weighs : (k : ℕ) → IsLive b.arena k → weight_of_id b.arena k ≡ weight_of g (list_of b.arena k)
    weighs k live = weights (kept_path b k (path_of b.arena k)) (live_is_kept b k live)

    long_whole : (p : List ℕ) → 1 < length p → 1 < length (left_part p) → 3 ≤ length p
    long_whole [] long left = absurd (omega (arith, long))
    long_whole (x ∷ []) long left = absurd (omega (arith, long))
    long_whole (x ∷ y ∷ []) long left = absurd (omega (arith, left))
    long_whole (x ∷ y ∷ z ∷ p) long left = omega arith

-- ---- what is asked of the wider book where a path is copied

module _ (b w : Book) (copies : List (Option ℕ)) (s : AreCopies b w copies) (id : ℕ) (ready : CanBeCopied b copies id)
  where
    parts : Parts b.arena id
    parts = parts_of b.arena id s.from_book.arena ready.edge

    pub its_life : IsLive b.arena id
    its_life = live_from_edge b.arena id s.from_book.arena ready.edge

    -- no path of the wider book has the list
    pub new_list : IsNewList w (list_of b.arena id)
    new_list c live same = elim (s.only c live) [
      | inl old ↦
          let k : IsCopy b w old.0 c = s.copy old.0 c old.1 in
          let lists : list_of b.arena old.0 ≡ list_of b.arena id = ap (λ q. q.list) (sym k.is) ∙ same in
          let one : old.0 ≡ id = s.from_book.once old.0 id k.original its_life lists in
          none_some (copy_at copies id) c ready.new (ap (copy_at copies) (sym one) ∙ old.1)
      | inr one ↦
          let short : list_of w.arena c ≡ one.0 ∷ [] =
          ap (list_of w.arena) one.2 ∙ ap (λ q. q.list) (single_path w.arena s.book.arena one.0 one.1) in
          let long : 1 < length (list_of b.arena id) = parts.long in
          omega (arith, long, ap length same, ap length short)
    ]

    path_is : (p : Path) × (path_at b.arena id ≡ Some p)
    path_is = live_path b.arena id its_life

    of : path_of b.arena id ≡ path_is.0
    of = path_of_at b.arena id path_is.0 path_is.1

    its_path : IsPath b.arena id path_is.0
    its_path = s.from_book.arena.paths id path_is.0 path_is.1

    inside : (v : ℕ) → Contains (list_of b.arena id) v → v < w.arena.vertices
    inside v c =
        let below : v < b.arena.vertices = its_path.inside v (subst (λ xs. Contains xs v) (ap (λ q. q.list) of) c) in
        let more : b.arena.vertices ≤ w.arena.vertices = s.more in
        omega (arith, below, more)

    pub first_inside : (x : ℕ) → first (list_of b.arena id) ≡ Some x → x < w.arena.vertices
    first_inside x e = inside x (first_in (list_of b.arena id) x e)

    pub last_inside : (y : ℕ) → last (list_of b.arena id) ≡ Some y → y < w.arena.vertices
    last_inside y e = inside y (last_in (list_of b.arena id) y e)

    pub ends_differ : (x y : ℕ) → first (list_of b.arena id) ≡ Some x → last (list_of b.arena id) ≡ Some y → x ≢ y
    ends_differ x y begins ends = ends_apart b s.from_book id x y ready.edge (begins, ends)

    -- the list of an edge
    pub edge_list : (x y : ℕ) → first (list_of b.arena id) ≡ Some x → last (list_of b.arena id) ≡ Some y
        → hops_of (list_of b.arena id) ≡ 1 → x ∷ y ∷ [] ≡ list_of b.arena id
    edge_list x y begins ends one = go (list_of b.arena id) begins ends one
      where
        go : (p : List ℕ) → first p ≡ Some x → last p ≡ Some y → hops_of p ≡ 1 → x ∷ y ∷ [] ≡ p
        go [] e f h = absurd (let z : hops_of [] ≡ 0 = refl in omega (arith, h))
        go (u ∷ []) e f h = absurd (omega (arith, h))
        go (u ∷ v ∷ []) e f h =
            let one : u ≡ x = same_id u x e in let two : v ≡ y = same_id v y f in (λ i. sym one i ∷ sym two i ∷ [])
        go (u ∷ v ∷ z ∷ p) e f h = absurd (omega (arith, h))

    pub edge_is_light : hops_of (list_of b.arena id) ≡ 1 → weight_of_id b.arena id ≤ MOST_WEIGHT
    edge_is_light one =
        let most : path_is.0.weight ≤ hops_of path_is.0.list * MOST_WEIGHT = its_path.weight in
        let hops : hops_of path_is.0.list ≡ 1 = ap (λ q. hops_of q.list) (sym of) ∙ one in
        let most_one : path_is.0.weight ≤ 1 * MOST_WEIGHT = subst (λ h. path_is.0.weight ≤ h * MOST_WEIGHT) hops most in
        let is : weight_of_id b.arena id ≡ path_is.0.weight = ap (λ q. q.weight) of in
        omega (arith, most_one, is)

    -- ---- joins

    pub record JoinFacts (l r birth : ℕ) : Type 0 where
      pub can : CanJoin w.arena l r
      pub left : IsMarked w l
      pub right : IsMarked w r
      pub list : (joined_path w.arena l r birth).list ≡ list_of b.arena id
      pub weight : (joined_path w.arena l r birth).weight ≡ weight_of_id b.arena id

    pub join_facts : HaveSums b.arena → (ol or l r birth : ℕ) → left_of b.arena id ≡ Some ol
        → right_of b.arena id ≡ Some or → copy_at copies ol ≡ Some l → copy_at copies or ≡ Some r
        → (hops_of (list_of b.arena id) ≡ 1 → ⊥) → JoinFacts l r birth
    join_facts sums ol or l r birth left right at_l at_r more = record {
      can = record {
        left_live = edge_l;
        right_live = edge_r;
        meets = q.right_is ∙ ap Some (s.book.once q.right t.left q.right_live t.left_live
            (q.right_list ∙ ap right_part list_l ∙ right-left whole ∙ ap left_part (sym list_r) ∙ sym t.left_list))
            ∙ sym t.left_is;
        apart = λ same. ends_differ begin.0 end.0 begin.1 end.1 (same_id begin.0 end.0 (sym begins ∙ same ∙ ends));
      };
      left = ap (λ k. k.historical) cl.is ∙ s.from_book.left_marked id ol left;
      right = ap (λ k. k.historical) cr.is ∙ s.from_book.right_marked id or right;
      list = (λ i. list_l i ++ option_to_list (ends i)) ∙ join_is_whole whole end.0 end.1;
      weight =
          let over : weight_of_id w.arena (unwrap_or (right_of w.arena l) 0) ≡ weight_of_id b.arena m.right =
          ap (λ o. weight_of_id w.arena (unwrap_or o 0)) q.right_is ∙ same_weight in
          let wl : weight_of_id w.arena l ≡ weight_of_id b.arena ol = ap (λ k. k.weight) cl.is in
          let wr : weight_of_id w.arena r ≡ weight_of_id b.arena or = ap (λ k. k.weight) cr.is in
          let sum : weight_of_id b.arena id + weight_of_id b.arena m.right ≡ weight_of_id b.arena ol + weight_of_id
          b.arena or = sums id ol or m.right left right m.right_is in
          let here : (joined_path w.arena l r birth).weight ≡ weight_of_id w.arena l + weight_of_id w.arena r -
          weight_of_id w.arena (unwrap_or (right_of w.arena l) 0) = refl in
          omega (arith, over, wl, wr, sum, here);
    }
      where
        whole : List ℕ
        whole = list_of b.arena id

        long : 1 < length whole
        long = parts.long

        three : 3 ≤ length whole
        three = go whole long more
          where
            go : (p : List ℕ) → 1 < length p → (hops_of p ≡ 1 → ⊥) → 3 ≤ length p
            go [] h k = absurd (omega (arith, h))
            go (x ∷ []) h k = absurd (omega (arith, h))
            go (x ∷ y ∷ []) h k = absurd (k refl)
            go (x ∷ y ∷ z ∷ p) h k = omega arith

        cl : IsCopy b w ol l
        cl = s.copy ol l at_l

        cr : IsCopy b w or r
        cr = s.copy or r at_r

        old_l : list_of b.arena ol ≡ left_part whole
        old_l = ap (list_of b.arena) (same_id ol parts.left (sym left ∙ parts.left_is)) ∙ parts.left_list

        old_r : list_of b.arena or ≡ right_part whole
        old_r = ap (list_of b.arena) (same_id or parts.right (sym right ∙ parts.right_is)) ∙ parts.right_list

        list_l : list_of w.arena l ≡ left_part whole
        list_l = ap (λ k. k.list) cl.is ∙ old_l

        list_r : list_of w.arena r ≡ right_part whole
        list_r = ap (λ k. k.list) cr.is ∙ old_r

        long_left : 1 < length (left_part whole)
        long_left = go whole three
          where
            go : (p : List ℕ) → 3 ≤ length p → 1 < length (left_part p)
            go [] h = absurd (omega (arith, h))
            go (x ∷ []) h = absurd (omega (arith, h))
            go (x ∷ y ∷ []) h = absurd (omega (arith, h))
            go (x ∷ y ∷ z ∷ p) h = omega arith

        long_right : 1 < length (right_part whole)
        long_right =
            let e : length (right_part whole) + 1 ≡ length whole = length_right whole (omega (arith, three)) in
            omega (arith, e, three)

        edge_l : HasAnEdge w.arena l
        edge_l = edge_from_long w.arena l s.book.arena cl.live (omega (arith, long_left, ap length list_l))

        edge_r : HasAnEdge w.arena r
        edge_r = edge_from_long w.arena r s.book.arena cr.live (omega (arith, long_right, ap length list_r))

        q : Parts w.arena l
        q = parts_of w.arena l s.book.arena edge_l

        t : Parts w.arena r
        t = parts_of w.arena r s.book.arena edge_r

        m : Parts b.arena ol
        m = parts_of b.arena ol s.from_book.arena
            (edge_from_long b.arena ol s.from_book.arena cl.original (omega (arith, long_left, ap length old_l)))

        begin : (x : ℕ) × (first whole ≡ Some x)
        begin = go whole long
          where
            go : (p : List ℕ) → 1 < length p → (x : ℕ) × (first p ≡ Some x)
            go [] h = absurd (omega (arith, h))
            go (x ∷ p) h = (x, refl)

        end : (y : ℕ) × (last whole ≡ Some y)
        end = last_is whole (omega (arith, long))

        begins : first (list_of w.arena l) ≡ Some begin.0
        begins = ap first list_l ∙ first_of_left whole long ∙ begin.1

        last_right : (p : List ℕ) → 1 < length p → last (right_part p) ≡ last p
        last_right [] h = absurd (omega (arith, h))
        last_right (x ∷ p) h = sym (last_of_tail x p (omega (arith, h)))

        ends : last (list_of w.arena r) ≡ Some end.0
        ends = ap last list_r ∙ last_right whole long ∙ end.1

        middle_list : list_of w.arena q.right ≡ list_of b.arena m.right
        middle_list = q.right_list ∙ ap right_part list_l ∙ ap right_part (sym old_l) ∙ sym m.right_list

        same_weight : weight_of_id w.arena q.right ≡ weight_of_id b.arena m.right
        same_weight = elim (s.only q.right q.right_live) [
          | inl old ↦
              let k : IsCopy b w old.0 q.right = s.copy old.0 q.right old.1 in
              let one : old.0 ≡ m.right =
              s.from_book.once old.0 m.right k.original m.right_live (ap (λ j. j.list) (sym k.is) ∙ middle_list) in
              ap (λ j. j.weight) k.is ∙ ap (weight_of_id b.arena) one
          | inr one ↦
              let alone : list_of w.arena q.right ≡ one.0 ∷ [] =
              ap (list_of w.arena) one.2 ∙ ap (λ j. j.list) (single_path w.arena s.book.arena one.0 one.1) in
              single_weight w.arena s.book.arena q.right one.0 q.right_live alone
              ∙ sym (single_weight b.arena s.from_book.arena m.right one.0 m.right_live (sym middle_list ∙ alone))
        ]

    -- .. where the facts are of an arena that is the book's
    pub joins_found : HaveSums b.arena → (a : Arena) → a ≡ b.arena → (ol or l r birth hops : ℕ) → left_of a id ≡ Some ol
        → right_of a id ≡ Some or → copy_at copies ol ≡ Some l → copy_at copies or ≡ Some r
        → hops ≡ hops_of (list_of a id) → (hops ≡ 1 → ⊥) → JoinFacts l r birth
    joins_found sums a lent ol or l r birth hops left right at_l at_r hops_is more =
        join_facts sums ol or l r birth (ap (λ x. left_of x id) (sym lent) ∙ left)
        (ap (λ x. right_of x id) (sym lent) ∙ right) at_l at_r
        (λ one. more (hops_is ∙ ap (λ x. hops_of (list_of x id)) lent ∙ one))

-- ---- one copy more

module _ (b old mid : Book) (id c : ℕ) (live : IsLive b.arena id) (was : IsBook old) (f : IsFormedLike b old mid id c)
  where
    unmarked : set.contains old.marked c ≡ false
    unmarked = elim (cases_Bool (set.contains old.marked c)) [
      | inl mark ↦ absurd (live_apart old.arena c c f.fresh (was.marked_live c mark) refl)
      | inr plain ↦ plain
    ]

    has_copied : (new : Book) → new.arena ≡ with_path old.arena c f.path
        → ((q : ℕ) → q ≢ c → set.contains new.marked q ≡ set.contains old.marked q)
        → set.contains new.marked c ≡ set.contains b.marked id → IsBook new → HasCopied b old new id c
    has_copied new arena others mark lawful = record {
      book = lawful;
      vertices = ap (λ a. a.vertices) arena;
      singles = ap (λ a. a.singles) arena;
      fresh = f.fresh;
      only = λ q alive. elim (cases_eq q c) [
        | inl same ↦ inl same
        | inr apart ↦ inr (sym (ap is_some (get_put_other old.arena.paths c f.path q apart))
            ∙ sym (ap (λ a. is_some (path_at a q)) arena) ∙ alive)
      ];
      still = λ q alive.
          let apart : q ≢ c = live_apart old.arena c q f.fresh alive in
          let at : path_at new.arena q ≡ path_at old.arena q =
          ap (λ a. path_at a q) arena ∙ get_put_other old.arena.paths c f.path q apart in
          let same : path_of new.arena q ≡ path_of old.arena q = ap (λ o. unwrap_or o no_path) at in (
            ap is_some at ∙ alive,
            (λ i. record {
              list = (same i).list;
              weight = (same i).weight;
              historical = others q apart i;
              birth = (same i).birth;
            }),
          );
      copy =
          let at : path_at new.arena c ≡ Some f.path = ap (λ a. path_at a c) arena ∙ get_put old.arena.paths c f.path in
          let same : path_of new.arena c ≡ f.path = path_of_at new.arena c f.path at in
          record {
            original = live;
            live = live_from new.arena c f.path at;
            is = (λ i. record {
              list = ((ap (λ p. p.list) same) ∙ f.list) i;
              weight
                  = ((ap (λ p. p.weight) same) ∙ f.weight) i;
              historical = mark i;
              birth
                  = ((ap (λ p. p.birth) same) ∙ f.birth) i;
            });
          };
    }

    -- a path that is not historical
    pub copied_pending : set.contains b.marked id ≡ false → IsBook mid → HasCopied b old mid id c
    copied_pending plain lawful =
        has_copied mid (ap (λ k. k.arena) f.formed) (λ q apart. ap (λ k. set.contains k.marked q) f.formed)
        (ap (λ k. set.contains k.marked c) f.formed ∙ unmarked ∙ sym plain) lawful

    -- the new one is not marked yet
    pub not_marked : IsMarked mid c → ⊥
    not_marked h = false≢true (sym (ap (λ k. set.contains k.marked c) f.formed ∙ unmarked) ∙ h)

    pub formed_live : IsLive mid.arena c
    formed_live = live_from mid.arena c f.path (ap (λ k. path_at k.arena c) f.formed ∙ get_put old.arena.paths c f.path)

    -- a historical one
    pub copied_historical : set.contains b.marked id ≡ true → (new : Book) (lists : Known) → new ≡ with_mark mid c lists
        → IsBook new → HasCopied b old new id c
    copied_historical mark new lists is lawful =
        has_copied new (ap (λ k. k.arena) is ∙ ap (λ k. k.arena) f.formed)
        (λ q apart. ap (λ k. set.contains k.marked q) is ∙ marked_put_other mid.marked c q apart
        ∙ ap (λ k. set.contains k.marked q) f.formed)
        (ap (λ k. set.contains k.marked c) is ∙ marked_put mid.marked c ∙ sym mark) lawful

-- the table with it
pub copies_more : (b old new : Book) (copies more : List (Option ℕ)) (id c : ℕ) → AreCopies b old copies
    → copy_at copies id ≡ None → HasCopied b old new id c → copy_at more id ≡ Some c
    → ((k : ℕ) → k ≢ id → copy_at more k ≡ copy_at copies k) → AreCopies b new more
copies_more b old new copies more id c s none h here others = record {
  from_book = s.from_book;
  book = h.book;
  more = subst (λ n. b.arena.vertices ≤ n) (sym h.vertices) s.more;
  copy = λ o d e. elim (cases_eq o id) [
    | inl same ↦
        let one : c ≡ d = same_id c d (sym here ∙ ap (copy_at more) (sym same) ∙ e) in
        subst (λ k. IsCopy b new k d) (sym same) (subst (λ k. IsCopy b new id k) one h.copy)
    | inr apart ↦
        let k : IsCopy b old o d = s.copy o d (sym (others o apart) ∙ e) in
        let t = h.still d k.live in
        record { original = k.original; live = t.0; is = t.1 ∙ k.is }
  ];
  only = λ q live. elim (h.only q live) [
    | inl same ↦ inl (id, here ∙ ap Some (sym same))
    | inr before ↦ elim (s.only q before) [
      | inl copied ↦ inl (
        copied.0,
        others copied.0
            (λ same. none_some (copy_at copies id) q none (ap (copy_at copies) (sym same) ∙ copied.1)) ∙ copied.1,
      )
      | inr one ↦ inr (
        one.0,
        subst (λ n. one.0 < n) (sym h.vertices) one.1,
        one.2
            ∙ ap (λ (xs : List ℕ). slice_index xs one.0) (sym h.singles),
      )
    ]
  ];
}

-- what holds of an answer by two facts of it
pub if_both : {A E : Type 0} (P Q R : A → Type 0) → ((a : A) → P a → Q a → R a) → (r : Result A E) → IfOk r P → IfOk r Q
    → IfOk r R
if_both P Q R on (Ok a) h k = on a h k
if_both P Q R on (Err e) h k = tt
