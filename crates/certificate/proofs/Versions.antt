-- What a version states: for `write_certificate` and `law_version`.
use Rattle.std.specs.Prelude.{◌≡◌, ◌≢◌, ℕ, ◌<◌, ◌≤◌, ◌==◌, if◌then◌else◌, codes, List, [], ◌∷◌, ◌++◌, length, Option, Some, None, refl}
use Rattle.std.specs.FinMap as map
use Rattle.std.proofs.Common.{sym, ◌∙◌, ap, subst, inl, inr, arith}
use Rattle.std.proofs.lemmas.Bool.{eq-eqb, ne_eqb}
use Rattle.std.proofs.lemmas.Nat.{mul-le}
use Rattle.apsp_model.specs.declared.TheConstants.{MOST_WEIGHT}
use Rattle.apsp_model.specs.Graph.{Graph, IsGraph, pair_cmp, weight_at}
use Rattle.apsp_model.specs.Walk.{weight_of, hops_of}
use Rattle.apsp_model.specs.Least.{IsLeast, LeastIs}
use Rattle.apsp_model.specs.Stated.{Stated, Entry}
use Rattle.apsp_model.proofs.Exists.{least_is_some_option}
use Rattle.apsp_model.proofs.Leasts.{least_unique, least_is_simple}
use Rattle.apsp_model.proofs.Simples.{simple_walk_is_short, weight_most}
use Rattle.apsp_model.proofs.Stars.{pairs_total, exact_pair}
use Rattle.version_face.specs.declared.TheConstants.{NO_DISTANCE}
use Rattle.version_face.specs.Seen.{VersionSeen, DistIs, HopsIs, NextIs}
use Rattle.version_face.specs.Entries.{second_of, dist_in, hops_in, next_in}
use Rattle.certificate.specs.declared.lines.Layout.TheVariants.{ByVertex}
use Rattle.certificate.specs.Table.{table_items, table_map}
use Rattle.certificate.specs.Grammar.{named, edge_line_text, pair_line_text, edge_word_text, pair_word_text, lines_in, head_lines, pair_lines, joined, text_of}
use Rattle.certificate.specs.Giving.{StatedEntryIs, IsStatedOf}
use Rattle.certificate.specs.Writing.{table_text, IsEntryTable}
use Rattle.certificate.proofs.Tables.{entries-map_of, get_inside, get_outside, cases_inside}
use Rattle.certificate.proofs.Texts.{text_blocks}
use Rattle.certificate.proofs.Rows.{rows_are}

-- ---- a cell of the rows, and the entry of the pair

-- the entry of a least walk, and none where there is none
abbrev pub entry_of : Graph → Option (List ℕ) → Option Entry
entry_of g None = None
entry_of g (Some p) = Some (record { dist = weight_of g p; hops = hops_of p; next = second_of p })

same_option : (g : Graph) (x y : ℕ) (o r : Option (List ℕ)) → LeastIs g x y o → LeastIs g x y r → o ≡ r
same_option g x y None None h k = refl
same_option g x y None (Some q) h k = absurd (h q k.walk)
same_option g x y (Some p) None h k = absurd (k p h.walk)
same_option g x y (Some p) (Some q) h k = ap Some (least_unique g x y p q h k)

-- the entry of a table is that of the least walk
pub entry_is : (g : Graph) (x y : ℕ) (e : Option Entry) (o : Option (List ℕ)) → StatedEntryIs g x y e → LeastIs g x y o
    → e ≡ entry_of g o
entry_is g x y None o h least = ap (entry_of g) (same_option g x y None o h least)
entry_is g x y (Some e) o h least = ap Some h.2 ∙ ap (entry_of g) (same_option g x y (Some h.0) o h.1 least)

near : (g : Graph) (x y : ℕ) (p : List ℕ) → IsGraph g → IsLeast g x y p → weight_of g p < NO_DISTANCE
near g x y p graph least =
    let short : length p ≤ g.vertices = simple_walk_is_short g p least.walk.walk (least_is_simple g p (x, y, least)) in
    omega (
      arith,
      weight_most g graph p,
      mul-le (hops_of p) MOST_WEIGHT 512 4294967295
          (omega (arith, short, graph.most)) (omega arith),
    )

-- a vertex has no entry to itself
pub none_itself : (g : Graph) (f : ℕ → ℕ → Option Entry) (x y : ℕ) → IsEntryTable g f → x ≡ y → None ≡ f x y
none_itself g f x y h e = sym (subst (λ z. f x z ≡ None) e (h.own x))

-- .. nor a pair without a walk
pub none_far : (g : Graph) (f : ℕ → ℕ → Option Entry) (x y d : ℕ) → IsGraph g → IsEntryTable g f → x < g.vertices
    → y < g.vertices → x ≢ y → DistIs g x y d → d ≡ NO_DISTANCE → None ≡ f x y
none_far g f x y d graph h p q apart dist far = at dist.0 dist.1 dist.2
  where
    at : (o : Option (List ℕ)) → LeastIs g x y o → d ≡ dist_in g o → None ≡ f x y
    at None least e = sym (entry_is g x y (f x y) None (h.entries x y p q apart) least)
    at (Some w) least e = absurd (omega (arith, near g x y w graph least, e, far))

-- each other pair has the entry of its least walk
pub some_here : (g : Graph) (f : ℕ → ℕ → Option Entry) (x y d k z : ℕ) → IsEntryTable g f → x < g.vertices
    → y < g.vertices → x ≢ y → DistIs g x y d → d ≢ NO_DISTANCE → HopsIs g x y k → NextIs g x y z
    → Some (record { dist = d; hops = k; next = z }) ≡ f x y
some_here g f x y d k z h p q apart dist there hops next = at dist.0 dist.1 dist.2
  where
    same : (a b : Entry) → a.dist ≡ b.dist → a.hops ≡ b.hops → a.next ≡ b.next → a ≡ b
    same a b u v w = λ i. record { dist = u i; hops = v i; next = w i }

    at : (o : Option (List ℕ)) → LeastIs g x y o → d ≡ dist_in g o
        → Some (record { dist = d; hops = k; next = z }) ≡ f x y
    at None least e = absurd (there e)
    at (Some w) least e =
        let a : k ≡ hops_of w = hops.2 ∙ ap hops_in (same_option g x y hops.0 (Some w) hops.1 least) in
        let b : z ≡ second_of w = next.2 ∙ ap next_in (same_option g x y next.0 (Some w) next.1 least) in
        ap Some (same (record { dist = d; hops = k; next = z })
        (record { dist = weight_of g w; hops = hops_of w; next = second_of w }) e a b)
        ∙ sym (entry_is g x y (f x y) (Some w) (h.entries x y p q apart) least)

-- ---- the entries of a graph

pub entry_table : Graph → ℕ → ℕ → Option Entry
entry_table g x y = if x == y then None else entry_of g (least_is_some_option g x y).0

table_is : (g : Graph) → IsEntryTable g (entry_table g)
unfolding entry_table
table_is g = record {
  own = λ x. ap (λ b. if b then None else entry_of g (least_is_some_option g x x).0) (eq-eqb x x refl);
  entries =
      λ x y p q apart. subst (StatedEntryIs g x y)
      (sym (ap (λ b. if b then None else entry_of g (least_is_some_option g x y).0) (ne_eqb x y apart)))
      (at x y (least_is_some_option g x y).0 (least_is_some_option g x y).1);
}
  where
    at : (x y : ℕ) (o : Option (List ℕ)) → LeastIs g x y o → StatedEntryIs g x y (entry_of g o)
    at x y None least = least
    at x y (Some p) least = (p, least, refl)

-- ---- what a version states, and its text

-- what a version states, with its text in the tables that are given
pub record IsStatedText (v : VersionSeen) : Type 0 where
  pub stated : Stated
  pub is : IsStatedOf v stated
  pub table : ℕ → ℕ → Option Entry
  pub entries : IsEntryTable v.graph table
  pub text : text_of stated ≡ joined (codes "apsp certificate 2" ∷ named (codes "number") v.number ∷ named
      (codes "vertices") v.graph.vertices ∷ [])
      ++ (table_text (codes "edges") edge_word_text (weight_at v.graph) v.graph.vertices
      ++ (table_text (codes "pairs") pair_word_text table v.graph.vertices ++ (codes "end" ++ 10 ∷ [])))

none_or_some : {V : Type 0} (o : Option V) (P : Type 0) → (o ≡ None → P) → ((w : V) → o ≡ Some w → P) → P
none_or_some None P a b = a refl
none_or_some (Some w) P a b = b w refl

edges_are : (g : Graph) → IsGraph g → table_map g.vertices (weight_at g) ≡ g.edges
edges_are g graph =
    map.same_map pairs_total exact_pair (table_map g.vertices (weight_at g)) g.edges
    (λ q. elim (cases_inside g.vertices q.0 q.1) [
      | inl i ↦ get_inside g.vertices (weight_at g) q.0 q.1 i.0 i.1
      | inr o ↦ get_outside g.vertices (weight_at g) q.0 q.1 o
          ∙ none_or_some (weight_at g q.0 q.1) (None ≡ weight_at g q.0 q.1) (λ e. sym e)
          (λ w e. absurd (o (graph.edges q.0 q.1 w e).from (graph.edges q.0 q.1 w e).to))
    ])

table_lines : {V : Type 0} (name : List ℕ) (line word : (ℕ × ℕ) × V → List ℕ) (m : map.FinMap pair_cmp V)
    (f : ℕ → ℕ → Option V) (n : ℕ) → map.entries m ≡ table_items f n n
    → joined (named name (map.len m) ∷ lines_in ByVertex line word (map.entries m)) ≡ table_text name word f n
table_lines name line word m f n e =
    ap (λ k. joined (named name k ∷ lines_in ByVertex line word (map.entries m))) (map.len-entries m)
    ∙ ap (λ es. joined (named name (length es) ∷ lines_in ByVertex line word es)) e
    ∙ ap (λ t. (named name (length (table_items f n n)) ++ 10 ∷ []) ++ t) (rows_are word f n n)

-- what a version states
abbrev pub value_of : VersionSeen → Stated
value_of v = record { number = v.number; graph = v.graph; entries = table_map v.graph.vertices (entry_table v.graph) }

-- .. is stated of it
pub value_is : (v : VersionSeen) → IsStatedOf v (value_of v)
value_is v =
    let g = v.graph in
    let f = entry_table g in
    record {
      number = refl;
      graph = refl;
      inside = λ x y e h. elim (cases_inside g.vertices x y) [
        | inl i ↦ (
          i.0,
          i.1,
          λ same. none_some e
              (none_itself g f x y (table_is g) same ∙ sym (get_inside g.vertices f x y i.0 i.1) ∙ h),
        )
        | inr o ↦ absurd (none_some e (sym (get_outside g.vertices f x y o) ∙ h))
      ];
      entries =
          λ x y p q apart. subst (StatedEntryIs g x y) (sym (get_inside g.vertices f x y p q))
          ((table_is g).entries x y p q apart);
    }
  where
    none_some : (e : Entry) → None ≡ Some e → ⊥
    none_some e h = cc

-- each version of a graph states a value that has its text
pub stated_text : (v : VersionSeen) → IsGraph v.graph → IsStatedText v
stated_text v graph =
    let g = v.graph in
    let f = entry_table g in
    let s : Stated = value_of v in
    record {
      stated = s;
      is = value_is v;
      table = f;
      entries = table_is g;
      text = text_blocks ByVertex s ∙ ap (λ r. joined (head_lines ByVertex s)
          ++ (r ++ (joined (pair_lines ByVertex s) ++ (codes "end" ++ 10 ∷ []))))
          (table_lines (codes "edges") edge_line_text edge_word_text g.edges (weight_at g) g.vertices
          (ap map.entries (sym (edges_are g graph)) ∙ entries-map_of g.vertices (weight_at g)))
          ∙ ap (λ r. joined (head_lines ByVertex s)
          ++ (table_text (codes "edges") edge_word_text (weight_at g) g.vertices ++ (r ++ (codes "end" ++ 10 ∷ []))))
          (table_lines (codes "pairs") pair_line_text pair_word_text (table_map g.vertices f) f g.vertices
          (entries-map_of g.vertices f));
    }
