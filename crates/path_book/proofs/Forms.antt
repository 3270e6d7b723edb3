-- How a new path is put into a book: what its parts ask for, and what they are afterwards.
use Rattle.std.specs.Prelude.{◌≡◌, ◌≢◌, ℕ, Bool, ◌+◌, ◌^◌, ◌<◌, ◌≤◌, [], ◌∷◌, length, Some, None, Result, Ok, Err, OnErr, unwrap_or, refl, Contains}
use Rattle.std.specs.FinMap as map
use Rattle.std.proofs.Common.{sym, ◌∙◌, ap, subst, arith, inl, inr}
use Rattle.std.proofs.lemmas.Cmp.{nat_cmp_total}
use Rattle.std.proofs.lemmas.Bool.{cases_eq}
use Rattle.apsp_model.specs.Walk.{first, last}
use Rattle.apsp_model.proofs.Walks.{first_is, last_is, length_from_last}
use Rattle.apsp_model.proofs.Lists.{first-append, last-push}
use Rattle.path_arena.specs.Arena.{Path, Arena, no_path, path_at, path_of, list_of, left_of, right_of, HasAnEdge, edge_path, joined_path, with_path, without_path, IsPartOfNone, CanJoin, IsArena}
use Rattle.path_arena.proofs.Keys.{get_put_other, get_gone, get_gone_other}
use Rattle.path_arena.proofs.Paths.{live_apart, live_from_edge, added_is_part_of_none, Meeting, meeting}
use Rattle.pair_heaps.specs.Heaps.{Heaps, held_at, spare_at, HeapsFit, HasEnds, IsHeld, IsReserved, TellsLeast}
use Rattle.pair_heaps.specs.declared.heaps.Room.{Room}
use Rattle.pair_heaps.proofs.Fits.{IsFreshIn, fresh_in, ends_in_rows}
use Rattle.extension_lists.specs.Known.{Known, IsKnown}
use Rattle.path_book.specs.Book.{Book, IsMarked, IsNewList, left_id, right_id, entered, with_kept, IsBook}
use Rattle.path_book.specs.Layout.{HoldsPaths, IsStored}
use Rattle.path_book.specs.Admitted.{StandsNowhere, CanEnter, HasRoomForPath, IsAdmitted, IsKnownPath}
use Rattle.path_book.proofs.Formed.{IsNew, same_pair, ends_alike, edge_now, path_of_new, stored_formed}

-- a path that was added and taken out again leaves the arena as it was
pub added_and_taken : (a : Arena) (id : ℕ) (p : Path) → path_at a id ≡ None → without_path (with_path a id p) id ≡ a
added_and_taken a id p fresh =
    let maps : map.remove (map.insert a.paths id p) id ≡ a.paths =
    map.same_map nat_cmp_total map.nat_cmp-IsAntisymmetric _ _ (λ q. elim (cases_eq q id) [
      | inl same ↦ ap (map.get (map.remove (map.insert a.paths id p) id)) same ∙ get_gone (map.insert a.paths id p) id
          ∙ sym fresh ∙ ap (map.get a.paths) (sym same)
      | inr apart ↦ get_gone_other (map.insert a.paths id p) id q apart ∙ get_put_other a.paths id p q apart
    ]) in
    λ i. record { vertices = a.vertices; singles = a.singles; paths = maps i }

-- with room for one more id the heaps hold what they held
pub holds_reserved : (a : Arena) (h k : Heaps) (x y : ℕ) → HoldsPaths a h → HeapsFit k a → IsReserved h k x y
    → HoldsPaths a k
holds_reserved a h k x y holds fits reserved = record {
  fits = fits;
  held = λ q u v edge ends. subst (λ xs. Contains xs q) (sym (same u v)) (holds.held q u v edge ends);
  only = λ q u v c. holds.only q u v (subst (λ xs. Contains xs q) (same u v) c);
}
  where
    same : (u v : ℕ) → held_at k u v ≡ held_at h u v
    same u v = elim (same_pair x y u v) [
      | inl there ↦ (λ i. held_at k (there.0 i) (there.1 i)) ∙ reserved.held
          ∙ (λ i. held_at h (sym there.0 i) (sym there.1 i))
      | inr apart ↦ ap (λ s. s.held) (reserved.only.others u v apart)
    ]

pub stored_reserved : (b : Book) (h k : Heaps) (x y historical pending : ℕ) → IsStored b h historical pending
    → (HeapsFit h b.arena → HeapsFit k b.arena) → IsReserved h k x y → IsStored b k historical pending
stored_reserved b h k x y historical pending stored fits reserved = record {
  book = stored.book;
  heaps = holds_reserved b.arena h k x y stored.heaps (fits stored.heaps.fits) reserved;
  historical_count = stored.historical_count;
  pending_count = stored.pending_count;
  most = stored.most;
}

-- what admitting a new path asks for
pub record AsksMet (b : Book) (now : Arena) (heaps : Heaps) (id : ℕ) : Type 0 where
  pub lawful : IsArena now
  pub edge : HasAnEdge now id
  pub free : IsPartOfNone now id
  pub room : HasRoomForPath now heaps id
  pub new : IsHeld heaps id → ⊥
  pub lists : CanEnter now b.lists id

pub asks_met : (b : Book) (id : ℕ) (p : Path) (h k : Heaps) (x y historical pending : ℕ) (now : Arena)
    → IsStored b h historical pending → IsNew b id p → now ≡ with_path b.arena id p
    → (HeapsFit h b.arena → HeapsFit k b.arena) → IsReserved h k x y → first p.list ≡ Some x → last p.list ≡ Some y
    → AsksMet b now k id
asks_met b id p h k x y historical pending now stored new is fits reserved from to = record {
  lawful = subst IsArena (sym is) new.arena;
  edge = subst (λ a. HasAnEdge a id) (sym is) (edge_now b id p stored.book new);
  free = added_is_part_of_none b.arena now id p stored.book.arena new.fresh left_apart right_apart is;
  room = record { fits = fresh.fits; spare = spare };
  new = fresh.fresh;
  lists = record { new = gone; left_known = left_known; right_known = right_known; nowhere = nowhere };
}
  where
    marked_apart : (q : ℕ) → IsMarked b q → q ≢ id
    marked_apart q mark = live_apart b.arena id q new.fresh (stored.book.marked_live q mark)

    left_apart : p.left ≡ Some id → ⊥
    left_apart e =
        marked_apart (left_id p) new.left_marked (let two : Some (left_id p) ≡ Some id = sym new.left ∙ e in cc)

    right_apart : p.right ≡ Some id → ⊥
    right_apart e =
        marked_apart (right_id p) new.right_marked (let two : Some (right_id p) ≡ Some id = sym new.right ∙ e in cc)

    fresh : IsFreshIn k now id
    fresh = fresh_in k b.arena now id p (fits stored.heaps.fits) new.fresh is

    of : path_of now id ≡ p
    of = ap (λ a. path_of a id) is ∙ path_of_new b id p stored.book new

    spare : (u v : ℕ) → HasEnds now id u v → 1 ≤ spare_at k u v
    spare u v ends =
        let there = ends_alike now id x y u v (ap (λ q. first q.list) of ∙ from, ap (λ q. last q.list) of ∙ to) ends in
        subst (λ w. 1 ≤ spare_at k w v) (sym there.0) (subst (λ w. 1 ≤ spare_at k x w) (sym there.1) reserved.spare)

    gone : IsKnown b.lists id → ⊥
    gone known = live_apart b.arena id id new.fresh ((stored.book.extensions.known id).0 known) refl

    left_known : (l : ℕ) → left_of now id ≡ Some l → IsKnown b.lists l
    left_known l e =
        let two : Some (left_id p) ≡ Some l = sym new.left ∙ sym (ap (λ q. q.left) of) ∙ e in
        let same : left_id p ≡ l = cc in
        (stored.book.extensions.known l).1 (stored.book.marked_live l (subst (IsMarked b) same new.left_marked))

    right_known : (r : ℕ) → right_of now id ≡ Some r → IsKnown b.lists r
    right_known r e =
        let two : Some (right_id p) ≡ Some r = sym new.right ∙ sym (ap (λ q. q.right) of) ∙ e in
        let same : right_id p ≡ r = cc in
        (stored.book.extensions.known r).1 (stored.book.marked_live r (subst (IsMarked b) same new.right_marked))

    -- an id that is not live has no part
    no_left : (l : ℕ) → left_of b.arena id ≡ Some l → ⊥
    no_left l e = (let none : None ≡ Some l = sym (ap (λ o. (unwrap_or o no_path).left) new.fresh) ∙ e in cc)

    no_right : (r : ℕ) → right_of b.arena id ≡ Some r → ⊥
    no_right r e = (let none : None ≡ Some r = sym (ap (λ o. (unwrap_or o no_path).right) new.fresh) ∙ e in cc)

    nowhere : StandsNowhere b.lists id
    nowhere = record {
      left = λ q c. no_right q ((stored.book.extensions.left q id).0 c);
      right = λ q c. no_left q ((stored.book.extensions.right q id).0 c);
      left_star = λ q c. no_right q ((stored.book.extensions.left_star q id).0 c).0;
      right_star = λ q c. no_left q ((stored.book.extensions.right_star q id).0 c).0;
    }

-- what an edge and a join are seen as
pub new_edge : (b : Book) (id u v w birth : ℕ) → IsBook b → u < b.arena.vertices → v < b.arena.vertices
    → path_at b.arena id ≡ None → IsNewList b (u ∷ v ∷ [])
    → IsArena (with_path b.arena id (edge_path b.arena u v w birth)) → IsNew b id (edge_path b.arena u v w birth)
new_edge b id u v w birth was from to fresh new lawful = record {
  fresh = fresh;
  left = refl;
  right = refl;
  left_marked = was.singles u from;
  right_marked = was.singles v to;
  list = new;
  arena = lawful;
}

pub new_join : (b : Book) (id l r birth : ℕ) → IsMarked b l → IsMarked b r → path_at b.arena id ≡ None
    → IsNewList b (joined_path b.arena l r birth).list → IsArena (with_path b.arena id (joined_path b.arena l r birth))
    → IsNew b id (joined_path b.arena l r birth)
new_join b id l r birth left right fresh new lawful = record {
  fresh = fresh;
  left = refl;
  right = refl;
  left_marked = left;
  right_marked = right;
  list = new;
  arena = lawful;
}

-- ---- afterwards

pub record IsFormed (b : Book) (later : Arena) (lists : Known) (heaps : Heaps) (id : ℕ) (p : Path)
    (historical pending : ℕ) : Type 0 where
  pub same : ◌≡◌ {A = Book} (record { arena = later; marked = b.marked; lists = lists }) (with_kept b id p)
  pub stored : IsStored (record { arena = later; marked = b.marked; lists = lists }) heaps historical (pending + 1)

pub is_formed : (b : Book) (id : ℕ) (p : Path) (h k : Heaps) (historical pending : ℕ) (now later : Arena)
    (lists : Known) → IsStored b h historical pending → IsNew b id p → now ≡ with_path b.arena id p → later ≡ now
    → IsAdmitted later h k b.lists lists id → historical + pending < 2 ^ 48
    → IsFormed b later lists k id p historical pending
is_formed b id p h k historical pending now later lists stored new is kept adm room =
    let arenas : later ≡ with_path b.arena id p = kept ∙ is in
    let of : path_of later id ≡ p = ap (λ a. path_of a id) arenas ∙ path_of_new b id p stored.book new in
    let entered_is : lists ≡ entered b.lists id (left_id p) (right_id p) =
    adm.entered_lists (left_id p) (right_id p) (ap (λ q. q.left) of ∙ new.left) (ap (λ q. q.right) of ∙ new.right)
    in
    let books : ◌≡◌ {A = Book} (record { arena = later; marked = b.marked; lists = lists }) (with_kept b id p) =
    (λ i. record { arena = arenas i; marked = b.marked; lists = entered_is i }) in
    record {
      same = books;
      stored = subst (λ c. IsStored c k historical (pending + 1)) (sym books)
          (stored_formed b id p stored.book new h h k b.lists lists historical pending stored stored.heaps
          (subst (λ a. IsAdmitted a h k b.lists lists id) arenas adm) room);
    }

-- where there was no memory for it
pub is_taken_back : (b : Book) (id : ℕ) (p : Path) (now later : Arena) (lists : Known) → path_at b.arena id ≡ None
    → now ≡ with_path b.arena id p → later ≡ without_path now id → lists ≡ b.lists
    → ◌≡◌ {A = Book} (record { arena = later; marked = b.marked; lists = lists }) b
is_taken_back b id p now later lists fresh is taken same =
    let arenas : later ≡ b.arena = taken ∙ ap (λ a. without_path a id) is ∙ added_and_taken b.arena id p fresh in
    λ i. record { arena = arenas i; marked = b.marked; lists = same i }

-- what holds anyhow holds after an error
pub on_err : {T E P : Type 0} (o : Result T E) → P → OnErr o P
on_err (Ok t) h = tt
on_err (Err e) h = h

-- the ends of a join
pub record JoinEnds (a : Arena) (h : Heaps) (l r birth x y : ℕ) : Type 0 where
  pub from : x < h.vertices
  pub to : y < h.vertices
  pub begins : first (joined_path a l r birth).list ≡ Some x
  pub finishes : last (joined_path a l r birth).list ≡ Some y

pub join_ends : (a : Arena) (h : Heaps) (l r birth x y : ℕ) → IsArena a → HeapsFit h a → CanJoin a l r
    → first (list_of a l) ≡ Some x → last (list_of a r) ≡ Some y → JoinEnds a h l r birth x y
join_ends a h l r birth x y lawful fits can from to = record {
  from = (ends_in_rows h a l x back fits lawful (live_from_edge a l lawful can.left_live) (from, left_ends)).0;
  to = (ends_in_rows h a r front y fits lawful (live_from_edge a r lawful can.right_live) (right_begins, to)).1;
  begins = ap first (m.list birth) ∙ first-append x (list_of a l) (m.to ∷ []) from;
  finishes = ap last (m.list birth) ∙ last-push (list_of a l) m.to ∙ sym m.ends ∙ to;
}
  where
    m : Meeting a l r
    m = meeting a l r lawful can

    long_left : 0 < length (list_of a l)
    long_left = let k : 1 < length (list_of a l) = m.overlap.some in omega arith

    back : ℕ
    back = (last_is (list_of a l) long_left).0

    left_ends : last (list_of a l) ≡ Some back
    left_ends = (last_is (list_of a l) long_left).1

    long_right : 0 < length (list_of a r)
    long_right = length_from_last y (list_of a r) to

    front : ℕ
    front = (first_is (list_of a r) long_right).0

    right_begins : first (list_of a r) ≡ Some front
    right_begins = (first_is (list_of a r) long_right).1

-- what is told at the ends that a room has is told at those that are these
pub told_at : (room : Room) (x y : ℕ) (a : Arena) (told : Bool) (new old : Heaps) (id : ℕ) → room.x ≡ x → room.y ≡ y
    → TellsLeast a told new old id room.x room.y → TellsLeast a told new old id x y
told_at room x y a told new old id from to tells =
    subst (λ u. TellsLeast a told new old id u y) from (subst (λ v. TellsLeast a told new old id room.x v) to tells)

-- the ends of a path that is new in the arena
pub new_ends : (b : Book) (id : ℕ) (p : Path) (now : Arena) (x y : ℕ) → IsBook b → IsNew b id p
    → now ≡ with_path b.arena id p → first p.list ≡ Some x → last p.list ≡ Some y → HasEnds now id x y
new_ends b id p now x y was new is begins finishes =
    let of : path_of now id ≡ p = ap (λ a. path_of a id) is ∙ path_of_new b id p was new in
    (ap (λ q. first q.list) of ∙ begins, ap (λ q. last q.list) of ∙ finishes)

-- the parts and the ends of a join that is new in the arena
pub join_known : (b : Book) (id l r birth : ℕ) (room : Room) (now : Arena) → IsBook b
    → IsNew b id (joined_path b.arena l r birth) → now ≡ with_path b.arena id (joined_path b.arena l r birth)
    → first (joined_path b.arena l r birth).list ≡ Some room.x → last (joined_path b.arena l r birth).list ≡ Some room.y
    → IsKnownPath now (record { id = id; left = l; right = r; room = room })
join_known b id l r birth room now was new is begins finishes =
    let of : path_of now id ≡ joined_path b.arena l r birth =
    ap (λ a. path_of a id) is ∙ path_of_new b id (joined_path b.arena l r birth) was new in
    record {
      left = ap (λ q. q.left) of;
      right = ap (λ q. q.right) of;
      ends = new_ends b id
          (joined_path b.arena l r birth) now room.x room.y was new is begins finishes;
    }
