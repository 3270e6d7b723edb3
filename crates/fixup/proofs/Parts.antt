-- The parts of a path with an edge, and that such a path does not follow itself. Serves `promote_class` and
-- `keep_joins`.
use Rattle.std.specs.Prelude.{◌≡◌, ℕ, ◌<◌, List, length, Some, None, is_some, Contains}
use Rattle.std.proofs.Common.{sym, ◌∙◌, ap, subst, arith, inl, inr}
use Rattle.apsp_model.specs.Walk.{IsSimple}
use Rattle.apsp_model.specs.Part.{left_part, right_part}
use Rattle.apsp_model.proofs.Lists.{ends_differ}
use Rattle.path_arena.specs.Arena.{Arena, path_of, list_of, left_of, right_of, IsLive, HasAnEdge, IsArena}
use Rattle.path_arena.proofs.Paths.{live_path, path_of_at, parted, Parted}

-- a live path with a right part has an edge
pub edge_from_right : (a : Arena) (id m : ℕ) → IsArena a → IsLive a id → right_of a id ≡ Some m → HasAnEdge a id
edge_from_right a id m lawful live e =
    let p = live_path a id live in
    let of : path_of a id ≡ p.0 = path_of_at a id p.0 p.1 in
    elim (lawful.paths id p.0 p.1).kind [
      | inl single ↦ absurd (none_some m (sym (ap (λ q. q.right) (of ∙ single.3)) ∙ e))
      | inr parts ↦ ap (λ q. is_some q.left) of ∙ ap is_some parts.left_is
    ]
  where
    none_some : (m : ℕ) → None ≡ Some m → ⊥
    none_some m e = cc

pub same_id : (x y : ℕ) → Some x ≡ Some y → x ≡ y
same_id x y e = cc

-- .. and so has one of two or more vertices
pub edge_from_long : (a : Arena) (id : ℕ) → IsArena a → IsLive a id → 1 < length (list_of a id) → HasAnEdge a id
edge_from_long a id lawful live long =
    let p = live_path a id live in
    let of : path_of a id ≡ p.0 = path_of_at a id p.0 p.1 in
    elim (lawful.paths id p.0 p.1).kind [
      | inl single ↦ absurd (omega (arith, long, ap (λ q. length q.list) (of ∙ single.3)))
      | inr parts ↦ ap (λ q. is_some q.left) of ∙ ap is_some parts.left_is
    ]

-- the lists of the two parts of a path with an edge
pub edge_from_left : (a : Arena) (id m : ℕ) → left_of a id ≡ Some m → HasAnEdge a id
edge_from_left a id m e = ap is_some e

pub record Parts (a : Arena) (id : ℕ) : Type 0 where
  pub left : ℕ
  pub right : ℕ
  pub left_is : left_of a id ≡ Some left
  pub right_is : right_of a id ≡ Some right
  pub long : 1 < length (list_of a id)
  pub left_list : list_of a left ≡ left_part (list_of a id)
  pub right_list : list_of a right ≡ right_part (list_of a id)
  pub left_live : IsLive a left
  pub right_live : IsLive a right

pub parts_of : (a : Arena) (id : ℕ) → IsArena a → HasAnEdge a id → Parts a id
parts_of a id lawful edge =
    let p : Parted a id = parted a id lawful edge in
    let list : list_of a id ≡ p.path.list = ap (λ q. q.list) p.of in
    record {
      left = p.parts.left;
      right = p.parts.right;
      left_is = ap (λ q. q.left) p.of ∙ p.parts.left_is;
      right_is = ap (λ q. q.right) p.of ∙ p.parts.right_is;
      long = let l : 1 < length p.path.list = p.parts.with_edge in omega (arith, ap length list);
      left_list = p.parts.left_list ∙ ap left_part (sym list);
      right_list = p.parts.right_list ∙ ap right_part (sym list);
      left_live = p.parts.left_live;
      right_live = p.parts.right_live;
    }

-- two paths that meet overlap in all but their ends
pub meets_in : (a : Arena) (l r : ℕ) → IsArena a → HasAnEdge a l → HasAnEdge a r → right_of a l ≡ left_of a r
    → right_part (list_of a l) ≡ left_part (list_of a r)
meets_in a l r lawful edge_l edge_r meets =
    let p : Parts a l = parts_of a l lawful edge_l in
    let q : Parts a r = parts_of a r lawful edge_r in
    sym p.right_list ∙ ap (list_of a) (same_id p.right q.left (sym p.right_is ∙ meets ∙ q.left_is)) ∙ q.left_list

-- no path with an edge is its own partner
pub not_its_partner : (a : Arena) (w : ℕ) → IsArena a → HasAnEdge a w → right_of a w ≡ left_of a w → ⊥
not_its_partner a w lawful edge same =
    let p : Parts a w = parts_of a w lawful edge in
    let d : Parted a w = parted a w lawful edge in
    let one : p.right ≡ p.left = same_id p.right p.left (sym p.right_is ∙ same ∙ p.left_is) in
    let l : 1 < length (list_of a w) = p.long in
    let simple : IsSimple (list_of a w) = subst IsSimple (sym (ap (λ q. q.list) d.of)) d.is.simple in
    ends_differ (list_of a w) (omega (arith, l)) simple (sym p.left_list ∙ ap (list_of a) (sym one) ∙ p.right_list)
