-- What contracts see of an arena: paths, each under its id.
use Rattle.std.specs.Prelude.{◌≡◌, ℕ, ◌+◌, ◌-◌, ◌*◌, ◌<◌, ◌≤◌, ◌⊎◌, List, [], ◌∷◌, ◌++◌, length, Option, Some, None, IsSome, unwrap_or, option_to_list, slice_index, refl, Contains}
use Rattle.std.specs.Ordering.{nat_cmp}
use Rattle.std.specs.declared.cmp.Ordering.{Ordering}
use Rattle.std.specs.Coded.{Coded, code_by, coded×, coded_ℕ, coded_list, coded_option}
use Rattle.std.specs.FinMap as map
use Rattle.apsp_model.specs.declared.TheConstants.{MOST_VERTICES, MOST_WEIGHT}
use Rattle.apsp_model.specs.Walk.{IsSimple, hops_of, first, last}
use Rattle.apsp_model.specs.Order.{path_cmp}
use Rattle.apsp_model.specs.Part.{left_part, right_part}

-- a path: its vertices, its weight, its birth, and the ids of its two parts, which a single vertex lacks
pub record Path : Type 0 where
  pub list : List ℕ
  pub weight : ℕ
  pub birth : ℕ
  pub left : Option ℕ
  pub right : Option ℕ

-- the number of vertices, the ids of the single vertices in order, and the path under each id
pub record Arena : Type 0 where
  pub vertices : ℕ
  pub singles : List ℕ
  pub paths : map.FinMap nat_cmp Path

abbrev pub path_code : Coded Path
path_code =
    code_by (List ℕ × (ℕ × (ℕ × (Option ℕ × Option ℕ))))
    (coded× (coded_list coded_ℕ)
    (coded× coded_ℕ (coded× coded_ℕ (coded× (coded_option coded_ℕ) (coded_option coded_ℕ)))))
    (λ p. (p.list, (p.weight, (p.birth, (p.left, p.right)))))
    (λ t. record { list = t.0; weight = t.1.0; birth = t.1.1.0; left = t.1.1.1.0; right = t.1.1.1.1 })
    (λ _. refl)

abbrev pub arena_code : Coded Arena
arena_code =
    code_by (ℕ × (List ℕ × map.FinMap nat_cmp Path))
    (coded× coded_ℕ (coded× (coded_list coded_ℕ) (map.code coded_ℕ path_code)))
    (λ a. (a.vertices, (a.singles, a.paths))) (λ t. record { vertices = t.0; singles = t.1.0; paths = t.1.1 })
    (λ _. refl)

abbrev pub path_at : Arena → ℕ → Option Path
path_at a id = map.get a.paths id

-- the id of a single vertex
abbrev pub vertex_of : Arena → ℕ → ℕ
vertex_of a v = slice_index a.singles v

abbrev pub IsLive : Arena → ℕ → Type 0
IsLive a id = IsSome (path_at a id)

-- stands for the path of an id that is not live
abbrev pub no_path : Path
no_path = record { list = []; weight = 0; birth = 0; left = None; right = None }

abbrev pub path_of : Arena → ℕ → Path
path_of a id = unwrap_or (path_at a id) no_path

-- its vertices from the first to the last
abbrev pub list_of : Arena → ℕ → List ℕ
list_of a id = (path_of a id).list

abbrev pub weight_of_id : Arena → ℕ → ℕ
weight_of_id a id = (path_of a id).weight

-- the id of the path without its last vertex
abbrev pub left_of : Arena → ℕ → Option ℕ
left_of a id = (path_of a id).left

-- the id of the path without its first vertex
abbrev pub right_of : Arena → ℕ → Option ℕ
right_of a id = (path_of a id).right

-- the id is live, and its path has an edge
abbrev pub HasAnEdge : Arena → ℕ → Type 0
HasAnEdge a id = IsSome (left_of a id)

-- by weight, then by the number of edges, then lexicographically
abbrev pub id_cmp : Arena → ℕ → ℕ → Ordering
id_cmp a x y = path_cmp (weight_of_id a x) (list_of a x) (weight_of_id a y) (list_of a y)

-- the vertex behind the first, or the first where it stands alone
abbrev pub second : List ℕ → Option ℕ
second [] = None
second (x ∷ []) = Some x
second (x ∷ y ∷ p) = Some y

abbrev pub single : ℕ → Path
single v = record { list = v ∷ []; weight = 0; birth = 0; left = None; right = None }

-- the edge from u to v
abbrev pub edge_path : Arena → ℕ → ℕ → ℕ → ℕ → Path
edge_path a u v w birth = record {
  list = u ∷ v ∷ [];
  weight = w;
  birth = birth;
  left = Some (vertex_of a u);
  right = Some (vertex_of a v);
}

-- the path that l and r overlap in, where they meet
abbrev pub overlap_of : Arena → ℕ → ℕ
overlap_of a l = unwrap_or (right_of a l) 0

-- l with the last vertex of r behind it
abbrev pub joined_path : Arena → ℕ → ℕ → ℕ → Path
joined_path a l r birth = record {
  list = list_of a l ++ option_to_list (last (list_of a r));
  weight = weight_of_id a l + weight_of_id a r - weight_of_id a (overlap_of a l);
  birth = birth;
  left = Some l;
  right = Some r;
}

abbrev pub with_path : Arena → ℕ → Path → Arena
with_path a id p = record a { paths = map.insert a.paths id p }

abbrev pub without_path : Arena → ℕ → Arena
without_path a id = record a { paths = map.remove a.paths id }

-- a live path has another birth
abbrev pub with_birth : Arena → ℕ → ℕ → Arena
with_birth a id birth = with_path a id (record (path_of a id) { birth = birth })

-- it is neither part of a live path
pub record IsPartOfNone (a : Arena) (id : ℕ) : Type 0 where
  pub left : (k : ℕ) → left_of a k ≡ Some id → ⊥
  pub right : (k : ℕ) → right_of a k ≡ Some id → ⊥

-- l and r are live paths with an edge, l without its first vertex is r without its last one, and the ends of both
-- together differ
pub record CanJoin (a : Arena) (l r : ℕ) : Type 0 where
  pub left_live : HasAnEdge a l
  pub right_live : HasAnEdge a r
  pub meets : right_of a l ≡ left_of a r
  pub apart : first (list_of a l) ≡ last (list_of a r) → ⊥

-- the parts of a path with an edge are live, are its list without an end, and do not weigh more
pub record HasParts (a : Arena) (p : Path) : Type 0 where
  pub with_edge : 1 < length p.list
  pub left : ℕ
  pub right : ℕ
  pub left_is : p.left ≡ Some left
  pub right_is : p.right ≡ Some right
  pub left_live : IsLive a left
  pub right_live : IsLive a right
  pub left_list : list_of a left ≡ left_part p.list
  pub right_list : list_of a right ≡ right_part p.list
  pub left_lighter : weight_of_id a left ≤ p.weight
  pub right_lighter : weight_of_id a right ≤ p.weight
  pub last_edge : p.weight ≤ weight_of_id a left + MOST_WEIGHT

-- the id is that of a single vertex
abbrev pub IsSingle : Arena → ℕ → Path → Type 0
IsSingle a id p = (v : ℕ) × (v < a.vertices) × (id ≡ vertex_of a v) × (p ≡ single v)

pub record IsPath (a : Arena) (id : ℕ) (p : Path) : Type 0 where
  pub inside : (v : ℕ) → Contains p.list v → v < a.vertices
  pub simple : IsSimple p.list
  pub weight : p.weight ≤ hops_of p.list * MOST_WEIGHT
  pub kind : IsSingle a id p ⊎ HasParts a p

-- what holds of every arena
pub record IsArena (a : Arena) : Type 0 where
  pub some : 1 ≤ a.vertices
  pub most : a.vertices ≤ MOST_VERTICES
  pub as_many : length a.singles ≡ a.vertices
  pub singles : (v : ℕ) → v < a.vertices → path_at a (vertex_of a v) ≡ Some (single v)
  pub paths : (id : ℕ) (p : Path) → path_at a id ≡ Some p → IsPath a id p

-- the single vertices and no other path
pub record IsOpening (a : Arena) (n : ℕ) : Type 0 where
  pub vertices : a.vertices ≡ n
  pub live : (id : ℕ) → IsLive a id → (v : ℕ) × (v < n) × (id ≡ vertex_of a v)
