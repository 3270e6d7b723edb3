-- A kept path is found by its vertices: its beginnings are kept, and each is an extension of the one before.
use Rattle.std.specs.Prelude.{◌≡◌, ℕ, zero, suc, ◌+◌, ◌<◌, ◌≤◌, List, [], ◌∷◌, ◌++◌, length, take, drop, ◌-◌, Some, is_some, refl, Contains}
use Rattle.std.proofs.Common.{get_or, inl, inr, sym, ◌∙◌, ap, subst, arith}
use Rattle.std.proofs.lemmas.List.{append_assoc, append-nil, length-append, get_or_default, take_all, drop_all, drop_more}
use Rattle.apsp_model.specs.Walk.{last}
use Rattle.apsp_model.specs.Part.{left_part}
use Rattle.apsp_model.specs.Paths.{IsKeptIn, HasBirthIn}
use Rattle.apsp_model.proofs.Lists.{left_part-push, left_and_last, last-push}
use Rattle.apsp_model.proofs.Walks.{length_from_last}
use Rattle.path_arena.specs.Arena.{IsLive, path_of, list_of, left_of, HasAnEdge}
use Rattle.path_arena.proofs.Paths.{Parted, parted, live_from_edge}
use Rattle.extension_lists.specs.Known.{sides_at}
use Rattle.path_book.specs.Book.{Book, kept_paths, IsBook}
use Rattle.path_book.specs.Layout.{IsExtensionTo}
use Rattle.path_book.proofs.Kept.{kept_live, birth_live}
use Rattle.path_book.proofs.Readers.{single_or_edge, edge_of_long, long_of_edge}

module _ (b : Book) (was : IsBook b) where
  -- the left part of a path with an edge
  pub record LeftPart (id : ℕ) : Type 0 where
    pub left : ℕ
    pub is : left_of b.arena id ≡ Some left
    pub live : IsLive b.arena left
    pub list : list_of b.arena left ≡ left_part (list_of b.arena id)

  pub left_part_of : (id : ℕ) → HasAnEdge b.arena id → LeftPart id
  left_part_of id edge =
      let p : Parted b.arena id = parted b.arena id was.arena edge in
      record {
        left = p.parts.left;
        is = ap (λ q. q.left) p.of ∙ p.parts.left_is;
        live = p.parts.left_live;
        list = p.parts.left_list ∙ ap (λ q. left_part q.list) (sym p.of);
      }

  -- each beginning of a kept path is kept
  pub beginning_is_live : (n : ℕ) (xs ys : List ℕ) (id : ℕ) → 0 < length xs → length ys ≡ n → IsLive b.arena id
      → list_of b.arena id ≡ xs ++ ys → (q : ℕ) × IsLive b.arena q × (list_of b.arena q ≡ xs)
  beginning_is_live zero xs [] id some e live is = (id, live, is ∙ append-nil xs)
  beginning_is_live zero xs (y ∷ ys) id some e live is = absurd (omega arith)
  beginning_is_live (suc n) xs ys id some e live is =
      let w = left_and_last ys (omega arith) in
      let long : 1 < length (list_of b.arena id) = omega (arith, ap length is, length-append xs ys) in
      let l : LeftPart id = left_part_of id (edge_of_long b.arena id was.arena live long) in
      let whole : xs ++ ys ≡ (xs ++ left_part ys) ++ w.0 ∷ [] =
      ap (λ zs. xs ++ zs) w.1 ∙ sym (append_assoc xs (left_part ys) (w.0 ∷ [])) in
      let list : list_of b.arena l.left ≡ xs ++ left_part ys =
      l.list ∙ ap left_part (is ∙ whole) ∙ left_part-push (xs ++ left_part ys) w.0 in
      beginning_is_live n xs (left_part ys) l.left some
      (omega (arith, e, ap length w.1, length-append (left_part ys) (w.0 ∷ []))) l.live list

  -- an extension is one vertex longer
  pub extended : (id v q : ℕ) → IsLive b.arena id → IsExtensionTo b.arena id v q → IsLive b.arena q
      × (list_of b.arena q ≡ list_of b.arena id ++ v ∷ [])
  extended id v q live ext =
      let edge : HasAnEdge b.arena q = ap is_some ext.0 in
      let live_q : IsLive b.arena q = live_from_edge b.arena q was.arena edge in
      let l : LeftPart q = left_part_of q edge in
      let same : l.left ≡ id = (let two : Some l.left ≡ Some id = sym l.is ∙ ext.0 in cc) in
      let left : left_part (list_of b.arena q) ≡ list_of b.arena id = sym l.list ∙ ap (list_of b.arena) same in
      let some : 0 < length (list_of b.arena q) = length_from_last v (list_of b.arena q) ext.1 in
      let w = left_and_last (list_of b.arena q) some in
      let ends : Some w.0 ≡ Some v = sym (last-push (left_part (list_of b.arena q)) w.0) ∙ ap last (sym w.1) ∙ ext.1 in
      let at_end : w.0 ≡ v = cc in
      (live_q, w.1 ∙ (λ i. left i ++ at_end i ∷ []))

  -- a kept path that goes on behind a kept one begins with an extension of it
  pub none_longer : (id v : ℕ) (rest : List ℕ) → IsLive b.arena id → 0 < length (list_of b.arena id)
      → ((q : ℕ) → IsExtensionTo b.arena id v q → ⊥) → IsKeptIn (kept_paths b) (list_of b.arena id ++ v ∷ rest) → ⊥
  none_longer id v rest live some none kept =
      let k = (kept_live b (list_of b.arena id ++ v ∷ rest)).0 kept in
      let whole : list_of b.arena k.0 ≡ (list_of b.arena id ++ v ∷ []) ++ rest =
      k.2 ∙ sym (append_assoc (list_of b.arena id) (v ∷ []) rest) in
      let longer : length (list_of b.arena id ++ v ∷ []) ≡ length (list_of b.arena id) + 1 =
      length-append (list_of b.arena id) (v ∷ []) in
      let q = beginning_is_live (length rest) (list_of b.arena id ++ v ∷ []) rest k.0 (omega arith) refl k.1 whole in
      let edge : HasAnEdge b.arena q.0 = edge_of_long b.arena q.0 was.arena q.1 (omega (arith, ap length q.2)) in
      let l : LeftPart q.0 = left_part_of q.0 edge in
      let left : list_of b.arena l.left ≡ list_of b.arena id =
      l.list ∙ ap left_part q.2 ∙ left_part-push (list_of b.arena id) v in
      let same : l.left ≡ id = was.once l.left id l.live live left in
      let ends : last (list_of b.arena q.0) ≡ Some v = ap last q.2 ∙ last-push (list_of b.arena id) v in
      none q.0 (l.is ∙ ap Some same, ends)

  pub birth_found : (id birth : ℕ) (list : List ℕ) → IsLive b.arena id → list_of b.arena id ≡ list
      → birth ≡ (path_of b.arena id).birth → HasBirthIn (kept_paths b) list birth
  birth_found id birth list live is of = (birth_live b list birth).1 (id, live, is, sym of)

-- ---- the search among the extensions of a path

-- the list of the right extensions of a path, as it is read place by place
module _ (b : Book) (was : IsBook b) (id : ℕ) (items : List ℕ) (lent : items ≡ (sides_at b.lists id).right) where
  pub listed_at : (k q : ℕ) → k < length items → q ≡ get_or items k q → (left_of b.arena q ≡ Some id) × IsLive b.arena q
  listed_at k q l e =
      let c : Contains items q = (k, l, sym e) in
      let left : left_of b.arena q ≡ Some id = (was.extensions.right id q).0 (subst (λ xs. Contains xs q) lent c) in
      (left, live_from_edge b.arena q was.arena (ap is_some left))

  -- what was passed over was no extension by v
  pub none_listed : (v n : ℕ) → length items ≤ n
      → ((k : ℕ) → k < n → last (list_of b.arena (get_or items k 0)) ≡ Some v → ⊥) → (q : ℕ)
      → IsExtensionTo b.arena id v q → ⊥
  none_listed v n all passed q ext =
      let c : Contains items q = subst (λ xs. Contains xs q) (sym lent) ((was.extensions.right id q).1 ext.0) in
      let within : c.0 < length items = c.1 in
      let there : get_or items c.0 0 ≡ q = get_or_default items c.0 0 q within ∙ c.2 in
      passed c.0 (omega arith) (ap (λ j. last (list_of b.arena j)) there ∙ ext.1)

-- ---- the list that is followed

pub by_head : (list : List ℕ) → 0 < length list → get_or list 0 0 ∷ take (length list - 1) (drop 1 list) ≡ list
by_head [] some = absurd (omega arith)
by_head (x ∷ xs) some =
    ap (λ ys. x ∷ ys) (ap (λ n. take n xs) (let e : length (x ∷ xs) - 1 ≡ length xs = omega arith in e)
    ∙ take_all (length xs) xs (omega arith))

pub one_further : (p items list : List ℕ) (i v : ℕ) → i < length items → v ≡ get_or items i 0 → p ++ drop i items ≡ list
    → (p ++ v ∷ []) ++ drop (i + 1) items ≡ list
one_further p items list i v l e is =
    let next : drop i items ≡ v ∷ drop (i + 1) items =
    drop_more items i 0 l ∙ ap (λ x. x ∷ drop (i + 1) items) (sym e) in
    append_assoc p (v ∷ []) (drop (i + 1) items) ∙ ap (λ ys. p ++ ys) (sym next) ∙ is

pub at_the_end : (p items list : List ℕ) (i : ℕ) → length items ≤ i → p ++ drop i items ≡ list → p ≡ list
at_the_end p items list i l is = sym (append-nil p) ∙ ap (λ ys. p ++ ys) (sym (drop_all i items l)) ∙ is

-- a list is not kept where the search stops before its end
pub absent : (b : Book) (was : IsBook b) (id v i : ℕ) (items list : List ℕ) → IsLive b.arena id
    → ((q : ℕ) → IsExtensionTo b.arena id v q → ⊥) → i < length items → v ≡ get_or items i 0 → list_of b.arena id
    ++ drop i items ≡ list → IsKeptIn (kept_paths b) list → ⊥
absent b was id v i items list live none l e is kept =
    let next : drop i items ≡ v ∷ drop (i + 1) items =
    drop_more items i 0 l ∙ ap (λ x. x ∷ drop (i + 1) items) (sym e) in
    let whole : list ≡ list_of b.arena id ++ v ∷ drop (i + 1) items =
    sym is ∙ ap (λ ys. list_of b.arena id ++ ys) next in
    none_longer b was id v (drop (i + 1) items) live some none (subst (IsKeptIn (kept_paths b)) whole kept)
  where
    some : 0 < length (list_of b.arena id)
    some = elim (single_or_edge b.arena id was.arena live) [
      | inl one ↦ omega (arith, ap length one.3)
      | inr edge ↦ (let long : 1 < length (list_of b.arena id) = long_of_edge b.arena id was.arena edge in omega arith)
    ]
