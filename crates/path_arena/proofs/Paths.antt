-- What the paths of an arena keep when one is added or taken out.
use Rattle.std.specs.Prelude.{◌≡◌, ◌≢◌, ℕ, ◌+◌, ◌*◌, ◌<◌, ◌≤◌, ◌⊎◌, List, [], ◌∷◌, ◌++◌, length, Option, Some, None, IsSome, is_some, unwrap_or, option_to_list, refl, Contains}
use Rattle.std.proofs.Common.{sym, ◌∙◌, ap, subst, arith, inl, inr}
use Rattle.std.proofs.lemmas.Bool.{cases_eq, false≢true}
use Rattle.std.proofs.lemmas.List.{length-append}
use Rattle.std.proofs.lemmas.List.Elements.{Contains-append_cases, Contains-append_right}
use Rattle.apsp_model.specs.declared.TheConstants.{MOST_WEIGHT}
use Rattle.apsp_model.specs.Walk.{IsSimple, hops_of, first, last}
use Rattle.apsp_model.specs.Part.{left_part, right_part}
use Rattle.apsp_model.proofs.Members.{in_cons as contains_cons, in_nil as contains_nil}
use Rattle.apsp_model.proofs.Walks.{first_is, last_is}
use Rattle.apsp_model.proofs.Joins.{IsOverlap, left-joined, right-joined, simple-joined}
use Rattle.path_arena.specs.Arena.{Path, Arena, path_at, vertex_of, IsLive, no_path, path_of, list_of, weight_of_id, left_of, right_of, HasAnEdge, single, edge_path, overlap_of, joined_path, with_path, without_path, IsPartOfNone, CanJoin, HasParts, IsSingle, IsPath, IsArena}
use Rattle.path_arena.proofs.Keys.{get_put, get_put_other, get_gone, get_gone_other}

same_path : (p q : Path) → Some p ≡ Some q → p ≡ q
same_path p q e = cc

same_id : (x y : ℕ) → Some x ≡ Some y → x ≡ y
same_id x y e = cc

-- a live id and one that is not live differ
pub live_apart : (a : Arena) (id k : ℕ) → path_at a id ≡ None → IsLive a k → k ≢ id
live_apart a id k gone live same =
    let F : ℕ → Type 0 = λ j. IsLive a j in
    let at_id : IsLive a id = subst F same live in
    let G : Option Path → Type 0 = λ o. IsSome o in
    false≢true (subst G gone at_id)

-- a live id has a path
pub live_path : (a : Arena) (id : ℕ) → IsLive a id → (p : Path) × (path_at a id ≡ Some p)
live_path a id live = go (path_at a id) live refl
  where
    go : (o : Option Path) → IsSome o → path_at a id ≡ o → (p : Path) × (path_at a id ≡ Some p)
    go None h e = absurd (false≢true h)
    go (Some p) h e = (p, e)

pub live_from : (a : Arena) (id : ℕ) (p : Path) → path_at a id ≡ Some p → IsLive a id
live_from a id p e = rw e refl

pub path_of_at : (a : Arena) (id : ℕ) (p : Path) → path_at a id ≡ Some p → path_of a id ≡ p
path_of_at a id p e = rw e refl

-- a live path with an edge, and its parts
pub record Parted (a : Arena) (id : ℕ) : Type 0 where
  pub path : Path
  pub here : path_at a id ≡ Some path
  pub of : path_of a id ≡ path
  pub is : IsPath a id path
  pub parts : HasParts a path

pub parted : (a : Arena) (id : ℕ) → IsArena a → HasAnEdge a id → Parted a id
parted a id h edge = go (path_at a id) refl
  where
    go : (o : Option Path) → path_at a id ≡ o → Parted a id
    go None e = absurd (
        let G : Option Path → Type 0 = λ o. IsSome (unwrap_or o no_path).left in
        false≢true (subst G e edge)
        )
    go (Some p) e =
        let here : path_at a id ≡ Some p = e in
        let is : IsPath a id p = h.paths id p e in
        record { path = p; here = here; of = path_of_at a id p here; is = is; parts = by_kind is.kind }
      where
        by_kind : IsSingle a id p ⊎ HasParts a p → HasParts a p
        by_kind (inr parts) = parts
        by_kind (inl one) =
            let G : Path → Type 0 = λ q. IsSome q.left in
            absurd (false≢true (subst G (path_of_at a id p e ∙ one.3) edge))

pub live_from_edge : (a : Arena) (id : ℕ) → IsArena a → HasAnEdge a id → IsLive a id
live_from_edge a id h edge = let p = parted a id h edge in live_from a id p.path p.here

-- ---- parts that stay

parts_kept : (a b : Arena) (p : Path) (h : HasParts a p) → path_at b h.left ≡ path_at a h.left
    → path_at b h.right ≡ path_at a h.right → HasParts b p
parts_kept a b p h l r =
    let left : path_of b h.left ≡ path_of a h.left = ap (λ o. unwrap_or o no_path) l in
    let right : path_of b h.right ≡ path_of a h.right = ap (λ o. unwrap_or o no_path) r in
    record {
      with_edge = h.with_edge;
      left = h.left;
      right = h.right;
      left_is = h.left_is;
      right_is = h.right_is;
      left_live = rw l h.left_live;
      right_live = rw r h.right_live;
      left_list = ap (λ q. q.list) left ∙ h.left_list;
      right_list = ap (λ q. q.list) right ∙ h.right_list;
      left_lighter =
          (let e : weight_of_id b h.left ≡ weight_of_id a h.left = ap (λ q. q.weight) left in
          let k : weight_of_id a h.left ≤ p.weight = h.left_lighter in omega arith);
      right_lighter =
          (let e : weight_of_id b h.right ≡ weight_of_id a h.right = ap (λ q. q.weight) right in
          let k : weight_of_id a h.right ≤ p.weight = h.right_lighter in omega arith);
      last_edge =
          (let e : weight_of_id b h.left ≡ weight_of_id a h.left = ap (λ q. q.weight) left in
          let k : p.weight ≤ weight_of_id a h.left + MOST_WEIGHT = h.last_edge in omega arith);
    }

-- ---- one path more

path_with : (a : Arena) (id : ℕ) (p : Path) → path_at a id ≡ None → (k : ℕ) (q : Path) → IsPath a k q
    → IsPath (with_path a id p) k q
path_with a id p fresh k q is = record {
  inside = is.inside;
  simple = is.simple;
  weight = is.weight;
  kind = by_kind is.kind;
}
  where
    by_kind : IsSingle a k q ⊎ HasParts a q → IsSingle (with_path a id p) k q ⊎ HasParts (with_path a id p) q
    by_kind (inl one) = inl one
    by_kind (inr h) =
        inr (parts_kept a (with_path a id p) q h
        (get_put_other a.paths id p h.left (live_apart a id h.left fresh h.left_live))
        (get_put_other a.paths id p h.right (live_apart a id h.right fresh h.right_live)))

pub IsArena-with : (a : Arena) (id : ℕ) (p : Path) → IsArena a → path_at a id ≡ None → IsPath a id p
    → IsArena (with_path a id p)
IsArena-with a id p h fresh is = record {
  some = h.some;
  most = h.most;
  as_many = h.as_many;
  singles =
      λ v l. get_put_other a.paths id p (vertex_of a v)
      (live_apart a id (vertex_of a v) fresh (live_from a (vertex_of a v) (single v) (h.singles v l))) ∙ h.singles v l;
  paths = λ k q e. at_key k q e (cases_eq k id);
}
  where
    at_key : (k : ℕ) (q : Path) → path_at (with_path a id p) k ≡ Some q → (k ≡ id) ⊎ (k ≢ id)
        → IsPath (with_path a id p) k q
    at_key k q e (inl same) =
        let there : path_at (with_path a id p) id ≡ Some q =
        subst (λ j. path_at (with_path a id p) j ≡ Some q) same e in
        let p_is : p ≡ q = same_path p q (sym (get_put a.paths id p) ∙ there) in
        subst (λ j. IsPath (with_path a id p) j q) (sym same)
        (subst (λ r. IsPath (with_path a id p) id r) p_is (path_with a id p fresh id p is))
    at_key k q e (inr apart) = path_with a id p fresh k q (h.paths k q (sym (get_put_other a.paths id p k apart) ∙ e))

-- ---- one path less

pub IsArena-without : (a : Arena) (id : ℕ) → IsArena a → HasAnEdge a id → IsPartOfNone a id
    → IsArena (without_path a id)
IsArena-without a id h edge free = record {
  some = h.some;
  most = h.most;
  as_many = h.as_many;
  singles = λ v l. get_gone_other a.paths id (vertex_of a v) (single_apart v l) ∙ h.singles v l;
  paths = λ k q e. at_key k q e (cases_eq k id);
}
  where
    single_apart : (v : ℕ) → v < a.vertices → vertex_of a v ≢ id
    single_apart v l same =
        let there : path_of a (vertex_of a v) ≡ single v = path_of_at a (vertex_of a v) (single v) (h.singles v l) in
        let F : ℕ → Type 0 = λ j. HasAnEdge a j in
        let edge_there : HasAnEdge a (vertex_of a v) = subst F (sym same) edge in
        let G : Path → Type 0 = λ q. IsSome q.left in
        false≢true (subst G there edge_there)

    kept : (k : ℕ) (q : Path) → path_at a k ≡ Some q → IsSingle a k q ⊎ HasParts a q → IsSingle (without_path a id) k q
        ⊎ HasParts (without_path a id) q
    kept k q e (inl one) = inl one
    kept k q e (inr parts) =
        let of : path_of a k ≡ q = path_of_at a k q e in
        inr (parts_kept a (without_path a id) q parts
        (get_gone_other a.paths id parts.left
        (λ same. free.left k (ap (λ r. r.left) of ∙ parts.left_is ∙ ap Some same)))
        (get_gone_other a.paths id parts.right
        (λ same. free.right k (ap (λ r. r.right) of ∙ parts.right_is ∙ ap Some same))))

    at_key : (k : ℕ) (q : Path) → path_at (without_path a id) k ≡ Some q → (k ≡ id) ⊎ (k ≢ id)
        → IsPath (without_path a id) k q
    at_key k q e (inl same) =
        let there : path_at (without_path a id) id ≡ Some q =
        subst (λ j. path_at (without_path a id) j ≡ Some q) same e in
        absurd (let none : None ≡ Some q = sym (get_gone a.paths id) ∙ there in cc)
    at_key k q e (inr apart) =
        let there : path_at a k ≡ Some q = sym (get_gone_other a.paths id k apart) ∙ e in
        let is : IsPath a k q = h.paths k q there in
        record { inside = is.inside; simple = is.simple; weight = is.weight; kind = kept k q there is.kind }

-- ---- the paths that are made

pub IsPath-edge : (a : Arena) (id u v w birth : ℕ) → IsArena a → u < a.vertices → v < a.vertices → u ≢ v
    → w ≤ MOST_WEIGHT → IsPath a id (edge_path a u v w birth)
IsPath-edge a id u v w birth h from to apart most = record {
  inside = λ x c. elim (contains_cons x u (v ∷ []) c) [
    | inl same ↦ subst (λ y. y < a.vertices) same from
    | inr more ↦ elim (contains_cons x v [] more)
        [ inl same ↦ subst (λ y. y < a.vertices) same to | inr none ↦ absurd (contains_nil x none) ]
  ];
  simple = (
    λ c. elim (contains_cons u v [] c) [ inl same ↦ apart (sym same) | inr none ↦ contains_nil u none ],
    (λ c. contains_nil v c, tt),
  );
  weight = omega arith;
  kind = inr (record {
    with_edge = omega arith;
    left = vertex_of a u;
    right = vertex_of a v;
    left_is = refl;
    right_is = refl;
    left_live = live_from a (vertex_of a u) (single u) at_u;
    right_live = live_from a (vertex_of a v) (single v) at_v;
    left_list = ap (λ q. q.list) of_u;
    right_list = ap (λ q. q.list) of_v;
    left_lighter = (let e : weight_of_id a (vertex_of a u) ≡ 0 = ap (λ q. q.weight) of_u in omega arith);
    right_lighter = (let e : weight_of_id a (vertex_of a v) ≡ 0 = ap (λ q. q.weight) of_v in omega arith);
    last_edge = omega arith;
  });
}
  where
    at_u : path_at a (vertex_of a u) ≡ Some (single u)
    at_u = h.singles u from

    at_v : path_at a (vertex_of a v) ≡ Some (single v)
    at_v = h.singles v to

    of_u : path_of a (vertex_of a u) ≡ single u
    of_u = path_of_at a (vertex_of a u) (single u) at_u

    of_v : path_of a (vertex_of a v) ≡ single v
    of_v = path_of_at a (vertex_of a v) (single v) at_v

last_stands : (p : List ℕ) (u : ℕ) → last p ≡ Some u → Contains p u
last_stands [] u e = cc
last_stands (x ∷ []) u e = (0, omega arith, same_id x u e)
last_stands (x ∷ y ∷ p) u e = Contains-append_right (x ∷ []) (y ∷ p) u (last_stands (y ∷ p) u e)

-- two paths that can be joined, their lists and what their join is
pub record Meeting (a : Arena) (l r : ℕ) : Type 0 where
  pub left : Parted a l
  pub right : Parted a r
  pub from : ℕ
  pub to : ℕ
  pub middle : ℕ
  pub middle_right : right_of a l ≡ Some middle
  pub middle_left : left_of a r ≡ Some middle
  pub begins : first (list_of a l) ≡ Some from
  pub ends : last (list_of a r) ≡ Some to
  pub differ : from ≢ to
  pub overlap : IsOverlap (list_of a l) (list_of a r) to
  pub list : (birth : ℕ) → (joined_path a l r birth).list ≡ list_of a l ++ to ∷ []

pub meeting : (a : Arena) (l r : ℕ) → IsArena a → CanJoin a l r → Meeting a l r
meeting a l r h j = record {
  left = pl;
  right = pr;
  from = x;
  to = u;
  middle = pl.parts.right;
  middle_right = right_is;
  middle_left = sym j.meets ∙ right_is;
  begins = begins;
  ends = ends;
  differ = λ same. j.apart (begins ∙ ap Some same ∙ sym ends);
  overlap = record { some = some_l; overlap = same_middle; ends = ends };
  list = λ birth. ap (λ o. list_of a l ++ option_to_list o) ends;
}
  where
    pl : Parted a l
    pl = parted a l h j.left_live

    pr : Parted a r
    pr = parted a r h j.right_live

    list_l : list_of a l ≡ pl.path.list
    list_l = ap (λ q. q.list) pl.of

    list_r : list_of a r ≡ pr.path.list
    list_r = ap (λ q. q.list) pr.of

    some_l : 1 < length (list_of a l)
    some_l = let k : 1 < length pl.path.list = pl.parts.with_edge in omega (arith, ap length list_l)

    some_r : 1 < length (list_of a r)
    some_r = let k : 1 < length pr.path.list = pr.parts.with_edge in omega (arith, ap length list_r)

    x : ℕ
    x = (first_is (list_of a l) (let k = some_l in omega arith)).0

    begins : first (list_of a l) ≡ Some x
    begins = (first_is (list_of a l) (let k = some_l in omega arith)).1

    u : ℕ
    u = (last_is (list_of a r) (let k = some_r in omega arith)).0

    ends : last (list_of a r) ≡ Some u
    ends = (last_is (list_of a r) (let k = some_r in omega arith)).1

    right_is : right_of a l ≡ Some pl.parts.right
    right_is = ap (λ q. q.right) pl.of ∙ pl.parts.right_is

    same_middle : right_part (list_of a l) ≡ left_part (list_of a r)
    same_middle =
        let left_is : left_of a r ≡ Some pr.parts.left = ap (λ q. q.left) pr.of ∙ pr.parts.left_is in
        let ids : pl.parts.right ≡ pr.parts.left =
        same_id pl.parts.right pr.parts.left (sym right_is ∙ j.meets ∙ left_is) in
        ap right_part list_l ∙ sym pl.parts.right_list ∙ ap (list_of a) ids ∙ pr.parts.left_list
        ∙ ap left_part (sym list_r)

pub IsPath-joined : (a : Arena) (id l r birth : ℕ) → IsArena a → CanJoin a l r → IsPath a id (joined_path a l r birth)
IsPath-joined a id l r birth h j = record {
  inside = λ x c. elim (Contains-append_cases (list_of a l) (to ∷ []) x
      (let F : List ℕ → Type 0 = λ p. Contains p x in subst F list_is c)) [
        | inl in_left ↦ m.left.is.inside x (let F : List ℕ → Type 0 = λ p. Contains p x in subst F list_l in_left)
        | inr at_end ↦ elim (contains_cons x to [] at_end) [
          | inl same ↦ subst (λ y. y < a.vertices) same
              (m.right.is.inside to (let F : List ℕ → Type 0 = λ p. Contains p to in
              subst F list_r (last_stands (list_of a r) to m.ends)))
          | inr none ↦ absurd (contains_nil x none)
        ]
      ];
  simple = subst IsSimple (sym list_is) (simple-joined m.from to (list_of a l) (list_of a r) m.overlap m.begins
      (subst IsSimple (sym list_l) m.left.is.simple) (subst IsSimple (sym list_r) m.right.is.simple) m.differ);
  weight = fits;
  kind = inr (record {
    with_edge = omega (arith, ap length list_is, length-append (list_of a l) (to ∷ []), long_left);
    left = l;
    right = r;
    left_is = refl;
    right_is = refl;
    left_live = live_from a l m.left.path m.left.here;
    right_live = live_from a r m.right.path m.right.here;
    left_list = sym (left-joined (list_of a l) to) ∙ ap left_part (sym list_is);
    right_list = sym (right-joined (list_of a l) (list_of a r) to m.overlap) ∙ ap right_part (sym list_is);
    left_lighter = omega (arith, weights.0, weights.1, weights.2);
    right_lighter = omega (arith, weights.0, weights.1, weights.2);
    last_edge = omega (arith, weights.0, weights.1, weights.2);
  });
}
  where
    m : Meeting a l r
    m = meeting a l r h j

    to : ℕ
    to = m.to

    list_l : list_of a l ≡ m.left.path.list
    list_l = ap (λ q. q.list) m.left.of

    list_r : list_of a r ≡ m.right.path.list
    list_r = ap (λ q. q.list) m.right.of

    long_left : 1 < length (list_of a l)
    long_left = m.overlap.some

    list_is : (joined_path a l r birth).list ≡ list_of a l ++ to ∷ []
    list_is = m.list birth

    -- the overlap weighs no more than either, and r weighs its last edge more
    weights : (weight_of_id a (overlap_of a l) ≤ weight_of_id a l)
        × (weight_of_id a (overlap_of a l) ≤ weight_of_id a r)
        × (weight_of_id a r ≤ weight_of_id a (overlap_of a l) + MOST_WEIGHT)
    weights =
        let in_left : m.left.parts.right ≡ m.middle =
        same_id _ _ (sym (ap (λ q. q.right) m.left.of ∙ m.left.parts.right_is) ∙ m.middle_right) in
        let in_right : m.right.parts.left ≡ m.middle =
        same_id _ _ (sym (ap (λ q. q.left) m.right.of ∙ m.right.parts.left_is) ∙ m.middle_left) in
        let overlap : overlap_of a l ≡ m.middle = ap (λ o. unwrap_or o 0) m.middle_right in
        let wl : weight_of_id a l ≡ m.left.path.weight = ap (λ q. q.weight) m.left.of in
        let wr : weight_of_id a r ≡ m.right.path.weight = ap (λ q. q.weight) m.right.of in
        let wm : weight_of_id a (overlap_of a l) ≡ weight_of_id a m.middle = ap (weight_of_id a) overlap in
        let wml : weight_of_id a m.left.parts.right ≡ weight_of_id a m.middle = ap (weight_of_id a) in_left in
        let wmr : weight_of_id a m.right.parts.left ≡ weight_of_id a m.middle = ap (weight_of_id a) in_right in
        let first : weight_of_id a m.left.parts.right ≤ m.left.path.weight = m.left.parts.right_lighter in
        let second : weight_of_id a m.right.parts.left ≤ m.right.path.weight = m.right.parts.left_lighter in
        let third : m.right.path.weight ≤ weight_of_id a m.right.parts.left + MOST_WEIGHT = m.right.parts.last_edge in
        (omega arith, omega arith, omega arith)

    fits : (joined_path a l r birth).weight ≤ hops_of (joined_path a l r birth).list * MOST_WEIGHT
    fits =
        let longer : hops_of (joined_path a l r birth).list ≡ hops_of (list_of a l) + 1 =
        omega (arith, ap length list_is, length-append (list_of a l) (to ∷ []), long_left) in
        let before : weight_of_id a l ≤ hops_of (list_of a l) * MOST_WEIGHT =
        (let k : m.left.path.weight ≤ hops_of m.left.path.list * MOST_WEIGHT = m.left.is.weight in
        let F : List ℕ → Type 0 = λ p. weight_of_id a l ≤ hops_of p * MOST_WEIGHT in
        subst F (sym list_l) (let wl : weight_of_id a l ≡ m.left.path.weight = ap (λ q. q.weight) m.left.of in
        omega arith)) in
        let F : ℕ → Type 0 = λ k. (joined_path a l r birth).weight ≤ k * MOST_WEIGHT in
        subst F (sym longer) (omega (arith, before, weights.0, weights.1, weights.2))

-- ---- for callers: what is live, can be joined and can be taken out, behind an equation for the new arena

pub live_added : (a b : Arena) (id : ℕ) (p : Path) → b ≡ with_path a id p → IsLive b id
live_added a b id p e = live_from b id p (ap (λ m. path_at m id) e ∙ get_put a.paths id p)

pub live_still : (a b : Arena) (id : ℕ) (p : Path) (k : ℕ) → b ≡ with_path a id p → IsLive a k → IsLive b k
live_still a b id p k e live = elim (cases_eq k id) [
  | inl same ↦ (let F : ℕ → Type 0 = λ j. IsLive b j in subst F (sym same) (live_added a b id p e))
  | inr apart ↦ (let there = live_path a k live in
      live_from b k there.0 (ap (λ m. path_at m k) e ∙ get_put_other a.paths id p k apart ∙ there.1))
]

-- a path that was added is part of no other
pub added_is_part_of_none : (a b : Arena) (id : ℕ) (p : Path) → IsArena a → path_at a id ≡ None → (p.left ≡ Some id → ⊥)
    → (p.right ≡ Some id → ⊥) → b ≡ with_path a id p → IsPartOfNone b id
added_is_part_of_none a b id p h fresh not_left not_right e =
    subst (λ m. IsPartOfNone m id) (sym e)
    (record { left = λ k is. left k is (cases_eq k id); right = λ k is. right k is (cases_eq k id) })
  where
    not_live : (q : Path) (x : ℕ) → IsPath a x q → (q.left ≡ Some id → ⊥) × (q.right ≡ Some id → ⊥)
    not_live q x is = by_kind is.kind
      where
        by_kind : IsSingle a x q ⊎ HasParts a q → (q.left ≡ Some id → ⊥) × (q.right ≡ Some id → ⊥)
        by_kind (inl one) = (
          λ l. absurd (let n : None ≡ Some id = sym (ap (λ r. r.left) one.3) ∙ l in cc),
          λ l. absurd
              (let n : None ≡ Some id = sym (ap (λ r. r.right) one.3) ∙ l in cc),
        )
        by_kind (inr parts) = (
          λ l. live_apart a id parts.left fresh parts.left_live (same_id parts.left id (sym parts.left_is ∙ l)),
          λ l. live_apart a id parts.right fresh parts.right_live (same_id parts.right id (sym parts.right_is ∙ l)),
        )

    -- what the old arena has under another id
    other : (k : ℕ) → (k ≢ id) → ((path_of a k).left ≡ Some id → ⊥) × ((path_of a k).right ≡ Some id → ⊥)
    other k apart = go (path_at a k) refl
      where
        go : (o : Option Path) → path_at a k ≡ o → ((path_of a k).left ≡ Some id → ⊥)
            × ((path_of a k).right ≡ Some id → ⊥)
        go None f = (
          λ l. (let n : None ≡ Some id = sym (ap (λ r. (unwrap_or r no_path).left) f) ∙ l in cc),
          λ l.
              (let n : None ≡ Some id = sym (ap (λ r. (unwrap_or r no_path).right) f) ∙ l in cc),
        )
        go (Some q) f =
            let no_part = not_live q k (h.paths k q f) in (
              λ l. no_part.0 (sym (ap (λ r. (unwrap_or r no_path).left) f) ∙ l),
              λ l. no_part.1
                  (sym (ap (λ r. (unwrap_or r no_path).right) f) ∙ l),
            )

    left : (k : ℕ) → left_of (with_path a id p) k ≡ Some id → (k ≡ id) ⊎ (k ≢ id) → ⊥
    left k is (inl same) =
        not_left (sym (ap (λ q. q.left) (path_of_at (with_path a id p) id p (get_put a.paths id p)))
        ∙ ap (left_of (with_path a id p)) (sym same) ∙ is)
    left k is (inr apart) =
        (other k apart).0 (sym (ap (λ o. (unwrap_or o no_path).left) (get_put_other a.paths id p k apart)) ∙ is)

    right : (k : ℕ) → right_of (with_path a id p) k ≡ Some id → (k ≡ id) ⊎ (k ≢ id) → ⊥
    right k is (inl same) =
        not_right (sym (ap (λ q. q.right) (path_of_at (with_path a id p) id p (get_put a.paths id p)))
        ∙ ap (right_of (with_path a id p)) (sym same) ∙ is)
    right k is (inr apart) =
        (other k apart).1 (sym (ap (λ o. (unwrap_or o no_path).right) (get_put_other a.paths id p k apart)) ∙ is)

-- two edges that were added one after the other, where the first ends at the vertex at which the second begins
pub edges_can_join : (a b d : Arena) (l r u v x w z birth later : ℕ) → path_at a l ≡ None
    → b ≡ with_path a l (edge_path a u v w birth) → path_at b r ≡ None → d ≡ with_path b r (edge_path b v x z later)
    → u ≢ x → CanJoin d l r
edges_can_join a b d l r u v x w z birth later fresh_l first_added fresh_r second_added apart = record {
  left_live = ap (λ q. is_some q.left) of_l;
  right_live = ap (λ q. is_some q.left) of_r;
  meets = ap (λ q. q.right) of_l ∙ ap (λ m. Some (vertex_of m v)) (sym first_added) ∙ sym (ap (λ q. q.left) of_r);
  apart = λ same. apart (same_id u x (sym (ap (λ q. first q.list) of_l) ∙ same ∙ ap (λ q. last q.list) of_r));
}
  where
    at_l : path_at b l ≡ Some (edge_path a u v w birth)
    at_l = ap (λ m. path_at m l) first_added ∙ get_put a.paths l (edge_path a u v w birth)

    differ : l ≢ r
    differ = live_apart b r l fresh_r (live_from b l (edge_path a u v w birth) at_l)

    of_l : path_of d l ≡ edge_path a u v w birth
    of_l = path_of_at d l (edge_path a u v w birth)
        (ap (λ m. path_at m l) second_added ∙ get_put_other b.paths r (edge_path b v x z later) l differ ∙ at_l)

    of_r : path_of d r ≡ edge_path b v x z later
    of_r = path_of_at d r (edge_path b v x z later)
        (ap (λ m. path_at m r) second_added ∙ get_put b.paths r (edge_path b v x z later))

-- what was added has an edge, where it has a left part
pub edge_added : (a b : Arena) (id : ℕ) (p : Path) (l : ℕ) → b ≡ with_path a id p → p.left ≡ Some l → HasAnEdge b id
edge_added a b id p l e has =
    ap is_some (ap (λ q. q.left) (path_of_at b id p (ap (λ m. path_at m id) e ∙ get_put a.paths id p)) ∙ has)
