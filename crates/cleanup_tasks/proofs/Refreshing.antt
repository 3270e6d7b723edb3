-- For refresh: the least kept paths of pairs, and what a cleaning in place has done so far.
use Rattle.std.specs.Prelude.{◌≡◌, ℕ, ◌<◌, List, [], ◌∷◌, ◌++◌, length, Some, is_some, refl, Contains}
use Rattle.std.specs.Ordering.{nat_cmp, ordering_then, ordering_reverse}
use Rattle.std.specs.declared.cmp.Ordering.{Ordering}
use Rattle.std.specs.declared.cmp.Ordering.TheVariants.{Less, Equal, Greater}
use Rattle.std.proofs.Common.{sym, ◌∙◌, ap, subst, arith, inl, inr}
use Rattle.std.proofs.lemmas.Map.Lookups.{exact_bytes}
use Rattle.std.proofs.lemmas.List.Elements.{Contains-append_right}
use Rattle.apsp_model.specs.Walk.{IsOnceEach, IsSimple, hops_of, first, last}
use Rattle.apsp_model.specs.Order.{path_cmp}
use Rattle.apsp_model.specs.Part.{left_part, right_part}
use Rattle.apsp_model.specs.Paths.{KeptPath}
use Rattle.apsp_model.proofs.Members.{in_cons, in_nil, head_in}
use Rattle.apsp_model.proofs.Walks.{first_is, last_is}
use Rattle.apsp_model.proofs.Lists.{left_and_last, last-push, first_alone, to_right}
use Rattle.path_arena.specs.Arena.{Path, Arena, IsLive, path_of, list_of, weight_of_id, left_of, right_of, HasAnEdge, id_cmp}
use Rattle.path_arena.proofs.Paths.{Parted, parted}
use Rattle.pair_heaps.specs.Heaps.{HasEnds}
use Rattle.pair_heaps.proofs.Orders.{id_cmp_total}
use Rattle.fixup_math.specs.Refresh.{IsLeastListIn, HaveLeasts}
use Rattle.path_book.specs.Book.{Book, IsBook, IsLeastKeptId, kept_path, kept_paths}
use Rattle.path_book.proofs.Kept.{KeptAt, kept_at, live_is_kept}
use Rattle.path_book.proofs.Readers.{single_or_edge, long_of_edge}
use Rattle.path_book.proofs.Ends.{Ends, ends, edge_of_right, to_left}
use Rattle.path_book.specs.Through.{IsThrough}
use Rattle.cleanup_tasks.specs.Refreshing.{IsLeastId, IsHigherId, LeftStays, RightStays, HasStayingParts}

-- ---- the least of a pair

-- a kept list is not empty
pub some_vertex : (b : Book) → IsBook b → (id : ℕ) → IsLive b.arena id → 0 < length (list_of b.arena id)
some_vertex b was id live = elim (single_or_edge b.arena id was.arena live) [
  | inl one ↦ omega (arith, ap length one.3)
  | inr edge ↦ let long : 1 < length (list_of b.arena id) = long_of_edge b.arena id was.arena edge in omega arith
]

pub least_list : (b : Book) → IsBook b → (id : ℕ) → IsLeastId b id → IsLeastListIn (kept_paths b) (list_of b.arena id)
least_list b was id l = (
  kept_path b id (path_of b.arena id),
  record {
    kept = live_is_kept b id l.2.live;
    first = λ j c from to below.
        let at : KeptAt b j = kept_at b j c in
        let weight : weight_of_id b.arena at.id ≡ j.weight = ap (λ (k : KeptPath). k.weight) at.is in
        l.2.least at.id at.live (ap first at.list ∙ from ∙ l.2.ends.0, ap last at.list ∙ to ∙ l.2.ends.1)
        ((λ i. path_cmp (weight i) (at.list i) (weight_of_id b.arena id) (list_of b.arena id)) ∙ below);
  },
  refl,
)

pub least_at : (b : Book) → IsBook b → (p : List ℕ) → IsLeastListIn (kept_paths b) p → (id : ℕ) → IsLive b.arena id
    → list_of b.arena id ≡ p → IsLeastId b id
least_at b was p l id live is =
    let k : KeptPath = l.0 in
    let at : KeptAt b k = kept_at b k l.1.kept in
    let same : at.id ≡ id = was.once at.id id at.live live (at.list ∙ l.2 ∙ sym is) in
    let x = first_is (list_of b.arena id) (some_vertex b was id live) in
    let y = last_is (list_of b.arena id) (some_vertex b was id live) in
    let list : list_of b.arena id ≡ k.list = ap (list_of b.arena) (sym same) ∙ at.list in
    let weight : weight_of_id b.arena id ≡ k.weight =
    ap (weight_of_id b.arena) (sym same) ∙ ap (λ (j : KeptPath). j.weight) at.is in (
      x.0,
      y.0,
      record {
        live = live;
        ends = (x.1, y.1);
        least = λ q live_q ends_q below. l.1.first (kept_path b q (path_of b.arena q)) (live_is_kept b q live_q)
            (ends_q.0 ∙ sym x.1 ∙ ap first list) (ends_q.1 ∙ sym y.1 ∙ ap last list)
            ((λ i. path_cmp (weight_of_id b.arena q) (list_of b.arena q) (sym weight i) (sym list i)) ∙ below);
      },
    )

-- both parts of the least of a pair are the least of theirs, where that holds of the lists
pub parts_are_least : (b : Book) → IsBook b → HaveLeasts (kept_paths b) → (id : ℕ) → IsLeastId b id → (v : ℕ)
    → HasStayingParts v b id
parts_are_least b was leasts id l v = record {
  left = λ k e.
      let edge : HasAnEdge b.arena id = ap is_some e in
      let p : Ends b.arena id = ends b.arena id was.arena edge in
      let same : p.left ≡ k = (let two : Some p.left ≡ Some k = sym p.left_is ∙ e in cc) in
      inr (subst (IsLeastId b) same (least_at b was (left_part (list_of b.arena id))
      (leasts.left (list_of b.arena id) (least_list b was id l) p.long) p.left p.left_live p.left_list));
  right = λ k e.
      let edge : HasAnEdge b.arena id = edge_of_right b.arena was.arena id k e in
      let p : Ends b.arena id = ends b.arena id was.arena edge in
      let same : p.right ≡ k = (let two : Some p.right ≡ Some k = sym p.right_is ∙ e in cc) in
      inr (subst (IsLeastId b) same (least_at b was (right_part (list_of b.arena id))
      (leasts.right (list_of b.arena id) (least_list b was id l) p.long) p.right p.right_live p.right_list));
}

then_third : (r s t : Ordering) → ordering_then r (ordering_then s t) ≡ Equal → t ≡ Equal
then_third Less s t e = cc
then_third Equal Less t e = cc
then_third Equal Equal t e = e
then_third Equal Greater t e = cc
then_third Greater s t e = cc

-- two paths of which none is below the other have one list
same_list : (a : Arena) (p q : ℕ) → (id_cmp a p q ≡ Less → ⊥) → (id_cmp a q p ≡ Less → ⊥) → list_of a p ≡ list_of a q
same_list a p q not_below not_above = go (id_cmp a p q) refl
  where
    go : (o : Ordering) → id_cmp a p q ≡ o → list_of a p ≡ list_of a q
    go Less e = absurd (not_below e)
    go Equal e =
        exact_bytes (list_of a p) (list_of a q)
        (then_third (nat_cmp (weight_of_id a p) (weight_of_id a q))
        (nat_cmp (hops_of (list_of a p)) (hops_of (list_of a q))) _ e)
    go Greater e = absurd (not_above ((id_cmp_total a).antisymm q p ∙ ap ordering_reverse e))

-- a pair has one least path
pub one_least : (b : Book) → IsBook b → (x y p q : ℕ) → IsLeastKeptId b x y p → IsLeastKeptId b x y q → p ≡ q
one_least b was x y p q l k =
    was.once p q l.live k.live (same_list b.arena p q (k.least p l.live l.ends) (l.least q k.live k.ends))

pub same_ends : (b : Book) (id x y u v : ℕ) → HasEnds b.arena id x y → HasEnds b.arena id u v → (x ≡ u) × (y ≡ v)
same_ends b id x y u v h k =
    let starts : Some x ≡ Some u = sym h.0 ∙ k.0 in
    let finishes : Some y ≡ Some v = sym h.1 ∙ k.1 in
    (cc, cc)

-- where another one is the least it is not
pub higher_not_least : (b : Book) → IsBook b → (id : ℕ) → IsHigherId b id → (x y : ℕ) → IsLeastKeptId b x y id → ⊥
higher_not_least b was id h x y l =
    let same = same_ends b id h.from h.to x y h.ends l.ends in
    let there : IsLeastKeptId b x y h.other =
    subst (λ u. IsLeastKeptId b u y h.other) same.0 (subst (λ w. IsLeastKeptId b h.from w h.other) same.1 h.least)
    in
    h.apart (one_least b was x y h.other id there l)

-- ---- which parts stay

simple_of : (b : Book) → IsBook b → (id : ℕ) → HasAnEdge b.arena id → IsSimple (list_of b.arena id)
simple_of b was id edge =
    let p : Parted b.arena id = parted b.arena id was.arena edge in
    subst (λ (q : Path). IsSimple q.list) (sym p.of) p.is.simple

once_at_end : (xs : List ℕ) (x : ℕ) → IsOnceEach (xs ++ x ∷ []) → Contains xs x → ⊥
once_at_end [] x once c = in_nil x c
once_at_end (y ∷ xs) x once c = elim (in_cons x y xs c) [
  | inl same ↦ once.0 (Contains-append_right xs (x ∷ []) y (head_in y x [] (sym same)))
  | inr more ↦ once_at_end xs x once.1 more
]

last_alone : (p : List ℕ) (v : ℕ) → 0 < length p → IsSimple p → last p ≡ Some v → Contains (left_part p) v → ⊥
last_alone p v some simple ends_at c =
    let whole = left_and_last p some in
    let two : Some whole.0 ≡ Some v = sym (ap last whole.1 ∙ last-push (left_part p) whole.0) ∙ ends_at in
    let same : whole.0 ≡ v = cc in
    once_at_end (left_part p) v (subst (λ x. IsOnceEach (left_part p ++ x ∷ [])) same (subst IsOnceEach whole.1 simple))
    c

module _ (b : Book) (was : IsBook b) (v id : ℕ) (through : IsThrough b v id) where
  parts : Ends b.arena id
  parts = ends b.arena id was.arena through.0

  left_same : (k : ℕ) → left_of b.arena id ≡ Some k → parts.left ≡ k
  left_same k e = let two : Some parts.left ≡ Some k = sym parts.left_is ∙ e in cc

  right_same : (k : ℕ) → right_of b.arena id ≡ Some k → parts.right ≡ k
  right_same k e = let two : Some parts.right ≡ Some k = sym parts.right_is ∙ e in cc

  pub left_avoids : last (list_of b.arena id) ≡ Some v → LeftStays v b id
  left_avoids ends_at k e =
      let long : 1 < length (list_of b.arena id) = parts.long in
      inl (λ c. last_alone (list_of b.arena id) v (omega arith) (simple_of b was id through.0) ends_at
      (subst (λ xs. Contains xs v) (ap (list_of b.arena) (sym (left_same k e)) ∙ parts.left_list) c))

  pub right_avoids : first (list_of b.arena id) ≡ Some v → RightStays v b id
  right_avoids begins k e =
      inl (λ c. first_alone (list_of b.arena id) v (simple_of b was id through.0)
      (subst (λ xs. Contains xs v) (ap (list_of b.arena) (sym (right_same k e)) ∙ parts.right_list) c) begins)

  pub left_by_least : (l : ℕ) → left_of b.arena id ≡ Some l → IsLeastId b l → LeftStays v b id
  left_by_least l is least k e =
      inr (subst (IsLeastId b) (let two : Some l ≡ Some k = sym is ∙ e in let same : l ≡ k = cc in same) least)

  pub right_by_least : (r : ℕ) → right_of b.arena id ≡ Some r → IsLeastId b r → RightStays v b id
  right_by_least r is least k e =
      inr (subst (IsLeastId b) (let two : Some r ≡ Some k = sym is ∙ e in let same : r ≡ k = cc in same) least)

  pub left_goes : (to l : ℕ) → last (list_of b.arena id) ≡ Some to → (to ≡ v → ⊥) → left_of b.arena id ≡ Some l
      → IsHigherId b l → LeftStays v b id → ⊥
  left_goes to l finishes apart is higher stays =
      let long : 1 < length (list_of b.arena id) = parts.long in
      let contains : Contains (left_part (list_of b.arena id)) v =
      to_left (list_of b.arena id) v (omega arith)
      (λ f. apart (let two : Some to ≡ Some v = sym finishes ∙ f in cc)) through.1 in
      elim (stays l is) [
        | inl avoids ↦ avoids (subst (λ xs. Contains xs v) (sym parts.left_list ∙ ap (list_of b.arena) (left_same l is))
            contains)
        | inr least ↦ higher_not_least b was l higher least.0 least.1 least.2
      ]

  pub right_goes : (from r : ℕ) → first (list_of b.arena id) ≡ Some from → (from ≡ v → ⊥) → right_of b.arena id ≡ Some r
      → IsHigherId b r → RightStays v b id → ⊥
  right_goes from r begins apart is higher stays =
      let contains : Contains (right_part (list_of b.arena id)) v =
      to_right (list_of b.arena id) v (λ f. apart (let two : Some from ≡ Some v = sym begins ∙ f in cc)) through.1
      in
      elim (stays r is) [
        | inl avoids ↦ avoids (subst (λ xs. Contains xs v)
            (sym parts.right_list ∙ ap (list_of b.arena) (right_same r is)) contains)
        | inr least ↦ higher_not_least b was r higher least.0 least.1 least.2
      ]
