-- The numbers of an accepted line are in range: for `read_line`, and for the session above.
use Rattle.std.specs.Prelude.{◌≡◌, ◌≢◌, ℕ, ◌+◌, ◌<◌, ◌≤◌, Bool, true, false, not, ◌==◌, ◌&&◌, ◌||◌, nat_lt, nat_le, is_some, if◌then◌else◌, List, [], ◌∷◌, length, All, Option, Some, None, Result, Ok, Err, IfOk, refl}
use Rattle.std.specs.List.{before_first, after_first}
use Rattle.std.specs.FinMap as map
use Rattle.std.proofs.Common.{sym, ◌∙◌, subst, inl, inr, arith}
use Rattle.std.proofs.lemmas.Bool.Decides.{nat_tests}
use Rattle.std.proofs.lemmas.List.Elements.{All-nil, All-cons}
use Rattle.apsp_model.specs.declared.TheConstants.{MOST_VERTICES}
use Rattle.apsp_model.specs.Graph.{IsEdgeOf}
use Rattle.apsp_model.specs.Star.{Star as Star_model, IsStar}
use Rattle.graph_store.specs.Making.{IsVertexCount, no_star}
use Rattle.graph_store.specs.Edges.{IsWeight, with_edge}
use Rattle.graph_store.proofs.StarRows.{is_star-with, is_star-no_star}
use Rattle.script_reader.specs.declared.code.TheConstants.{NO_VERTICES, VERTICES_TWICE, COMMAND, NEEDS_LIVE, OPEN_BLOCK, BLOCK_FULL, SINCE, NOT_MORE, NOT_SERVED, TOO_LONG, VERTEX, SELF_EDGE, REPEAT, WEIGHT}
use Rattle.script_reader.specs.declared.TheConstants.{MOST_LINE_BYTES}
use Rattle.script_reader.specs.declared.LineError.{LineError}
use Rattle.script_reader.specs.declared.Context.{Context}
use Rattle.script_reader.specs.declared.Command.{Command}
use Rattle.script_reader.specs.declared.Command.TheVariants as command
use Rattle.script_reader.specs.declared.Group.{Group}
use Rattle.script_reader.specs.declared.Group.TheVariants.{Out, In}
use Rattle.script_reader.specs.declared.Line.{Line}
use Rattle.script_reader.specs.declared.Line.TheVariants.{Nothing, Vertices, Star, Edge, Cut, Dist, Path, Row, Stats, Age, Cert, Block, Ask, End, Grow, Ecc, Report, Through}
use Rattle.script_reader.specs.Words.{words_of, is_comment, command_of, is_out, is_in}
use Rattle.script_reader.specs.Refused.{Refusal, refused, ◌>>=◌}
use Rattle.script_reader.specs.Edges.{number_at, vertex_below, vertex_at, is_no_weight, weight_in_range, weight_at_word, is_colon, edge_of, star_with_edge, star_with_item, star_with_groups, first_misfit, vertices_at}
use Rattle.script_reader.specs.Meaning.{is_vertices, changes_edges, is_inner, is_of_block, is_unserved, is_full, misplaced, vertex_count, vertices_line, grow_line, star_unless, star_line, edge_line, one_vertex, two_vertices, cut_line, row_line, ecc_line, through_line, stats_line, report_line, age_line, cert_line, block_line, end_line, since_word, since_at, ask_line, line_with, line_unless, command_line, line_of_words, line_of}
use Rattle.script_reader.specs.Answer.{MeaningIs, FitsContext}

-- where both steps were accepted
record IsBound {A B : Type 0} (m : Result A Refusal) (f : A → Result B Refusal) (y : B) : Type 0 where
  value : A
  first : m ≡ Ok value
  second : f value ≡ Ok y

bound : {A B : Type 0} (m : Result A Refusal) (f : A → Result B Refusal) (y : B) → (m >>= f) ≡ Ok y → IsBound m f y
bound (Ok x) f y e = record { value = x; first = refl; second = e }
bound (Err r) f y e = cc

-- a test that was passed, whose failure is a refusal
passed : {A : Type 0} (b : Bool) (x y : A) (code place : ℕ)
    → ◌≡◌ {A = Result A Refusal} (if b then Ok x else refused code place) (Ok y) → (b ≡ true) × (x ≡ y)
passed true x y code place e = (refl, cc)
passed false x y code place e = cc

-- the same, where the test is of the failure
not_failed : {A : Type 0} (b : Bool) (r : Result A Refusal) (y : A) (code place : ℕ)
    → (if b then refused code place else r) ≡ Ok y → (b ≡ false) × (r ≡ Ok y)
not_failed true r y code place e = cc
not_failed false r y code place e = (refl, e)

vertex_fits : (n place : ℕ) (w : List ℕ) (u : ℕ) → vertex_at n place w ≡ Ok u → u < n
vertex_fits n place w u e =
    let b = bound (number_at place w) (vertex_below n place) u e in
    let t = passed (nat_lt b.value n) b.value u VERTEX place b.second in
    below b.value t.0 t.1
  where
    below : (x : ℕ) → nat_lt x n ≡ true → x ≡ u → u < n
    below x t s = grind (arith, nat_tests)

in_range : (w : ℕ) → is_no_weight w ≡ false → IsWeight w
in_range w t = grind (arith, nat_tests)

weight_fits : (place : ℕ) (word : List ℕ) (w : ℕ) → weight_at_word place word ≡ Ok w → IsWeight w
weight_fits place word w e =
    let b = bound (number_at place word) (weight_in_range place) w e in
    let t = not_failed (is_no_weight b.value) (Ok b.value) w WEIGHT place b.second in
    let same : b.value ≡ w = ok_same b.value w t.1 in
    subst IsWeight same (in_range b.value t.0)
  where
    ok_same : (x y : ℕ) → ◌≡◌ {A = Result ℕ Refusal} (Ok x) (Ok y) → x ≡ y
    ok_same x y e = cc

same_list : (xs ys : List ℕ) → ◌≡◌ {A = Result (List ℕ) Refusal} (Ok xs) (Ok ys) → xs ≡ ys
same_list xs ys e = cc

vertices_fit : (n place : ℕ) (ws : List (List ℕ)) (us : List ℕ) → vertices_at n place ws ≡ Ok us → All (λ x. x < n) us
vertices_fit n place [] us e = subst (All (λ x. x < n)) (same_list [] us e) (All-nil (λ x. x < n))
vertices_fit n place (w ∷ ws) us e =
    let b = bound (vertex_at n place w) (λ u. vertices_at n (place + 1) ws >>= (λ vs. Ok (u ∷ vs))) us e in
    let d = bound (vertices_at n (place + 1) ws) (λ vs. Ok (b.value ∷ vs)) us b.second in
    subst (All (λ x. x < n)) (same_list (b.value ∷ d.value) us d.second)
    (All-cons (λ x. x < n) b.value d.value (vertex_fits n place w b.value b.first)
    (vertices_fit n (place + 1) ws d.value d.first))

-- of one word or more there is a vertex
vertices_some : (n place : ℕ) (w : List ℕ) (ws : List (List ℕ)) (us : List ℕ) → vertices_at n place (w ∷ ws) ≡ Ok us
    → 0 < length us
vertices_some n place w ws us e =
    let b = bound (vertex_at n place w) (λ u. vertices_at n (place + 1) ws >>= (λ vs. Ok (u ∷ vs))) us e in
    let d = bound (vertices_at n (place + 1) ws) (λ vs. Ok (b.value ∷ vs)) us b.second in
    subst (λ vs. 0 < length vs) (same_list (b.value ∷ d.value) us d.second) (omega arith)

star_edge_fits : (s : Star_model) (g : Group) (place u w : ℕ) (t : Star_model) → IsStar s
    → star_with_edge s g place u w ≡ Ok t → (t.vertices ≡ s.vertices) × IsStar t
star_edge_fits s g place u w t star e =
    let first = not_failed (nat_le s.vertices u) _ t VERTEX place e in
    let second = not_failed (u == s.vertex) _ t SELF_EDGE place first.1 in
    let third = not_failed (is_some (map.get s.edges (edge_of s g u))) _ t REPEAT place second.1 in
    let fourth = not_failed (is_no_weight w) _ t WEIGHT place third.1 in
    let same : with_edge s (edge_of s g u) w ≡ t = ok_same (with_edge s (edge_of s g u) w) t fourth.1 in
    subst (λ r. (r.vertices ≡ s.vertices) × IsStar r) same
    (refl, at g (inside first.0) (apart second.0) (in_range w fourth.0))
  where
    ok_same : (x y : Star_model) → ◌≡◌ {A = Result Star_model Refusal} (Ok x) (Ok y) → x ≡ y
    ok_same x y e = cc

    inside : nat_le s.vertices u ≡ false → u < s.vertices
    inside t = grind (arith, nat_tests)

    apart : (u == s.vertex) ≡ false → u ≢ s.vertex
    apart t h = grind (arith, nat_tests)

    some_same : (x y : ℕ) → Some x ≡ Some y → x ≡ y
    some_same x y e = cc

    at : (g : Group) → u < s.vertices → u ≢ s.vertex → IsWeight w → IsStar (with_edge s (edge_of s g u) w)
    at Out p q r =
        is_star-with s s.vertex u (Some w) star (inl refl)
        (λ x e. subst (IsEdgeOf s.vertices s.vertex u) (some_same w x e)
        (record { from = star.inside; to = p; apart = λ e. q (sym e); most = r }))
    at In p q r =
        is_star-with s u s.vertex (Some w) star (inr refl)
        (λ x e. subst (IsEdgeOf s.vertices u s.vertex) (some_same w x e)
        (record { from = p; to = star.inside; apart = q; most = r }))

item_fits : (s : Star_model) (g : Group) (place : ℕ) (item : List ℕ) (t : Star_model) → IsStar s
    → star_with_item s g place item ≡ Ok t → (t.vertices ≡ s.vertices) × IsStar t
item_fits s g place item t star e =
    let b = bound (number_at place (before_first is_colon item))
    (λ u. number_at place (after_first is_colon item) >>= (λ w. star_with_edge s g place u w)) t e in
    let d = bound (number_at place (after_first is_colon item)) (λ w. star_with_edge s g place b.value w) t b.second in
    star_edge_fits s g place b.value d.value t star d.second

groups_fit : (s : Star_model) (g : Group) (place : ℕ) (ws : List (List ℕ)) (t : Star_model) → IsStar s
    → star_with_groups s g place ws ≡ Ok t → (t.vertices ≡ s.vertices) × IsStar t
groups_fit s g place [] t star e = subst (λ r. (r.vertices ≡ s.vertices) × IsStar r) (ok_same s t e) (refl, star)
  where
    ok_same : (x y : Star_model) → ◌≡◌ {A = Result Star_model Refusal} (Ok x) (Ok y) → x ≡ y
    ok_same x y e = cc
groups_fit s g place (w ∷ ws) t star e =
    at (is_out w) (is_in w)
    (λ f. groups_fit s Out (place + 1) ws t star f)
    (λ f. groups_fit s In (place + 1) ws t star f)
    (λ f. item f (λ r rs h. groups_fit r g (place + 1) ws t rs h))
    e
  where
    item : (star_with_item s g place w >>= (λ r. star_with_groups r g (place + 1) ws)) ≡ Ok t
        → ((r : Star_model) → IsStar r → star_with_groups r g (place + 1) ws ≡ Ok t → (t.vertices ≡ r.vertices)
        × IsStar t) → (t.vertices ≡ s.vertices) × IsStar t
    item f rest =
        let b = bound (star_with_item s g place w) (λ r. star_with_groups r g (place + 1) ws) t f in
        let here = item_fits s g place w b.value star b.first in
        let there = rest b.value here.1 b.second in
        (there.0 ∙ here.0, there.1)

    at : (o i : Bool) → (star_with_groups s Out (place + 1) ws ≡ Ok t → (t.vertices ≡ s.vertices) × IsStar t)
        → (star_with_groups s In (place + 1) ws ≡ Ok t → (t.vertices ≡ s.vertices) × IsStar t)
        → ((star_with_item s g place w >>= (λ r. star_with_groups r g (place + 1) ws)) ≡ Ok t
        → (t.vertices ≡ s.vertices) × IsStar t)
        → (if o then star_with_groups s Out (place + 1) ws else
        (if i then star_with_groups s In (place + 1) ws else
        (star_with_item s g place w >>= (λ r. star_with_groups r g (place + 1) ws)))) ≡ Ok t → (t.vertices ≡ s.vertices)
        × IsStar t
    at true i x y z e = x e
    at false true x y z e = y e
    at false false x y z e = z e

-- ---- the line of each command

as_line : (l m : Line) → ◌≡◌ {A = Result Line Refusal} (Ok l) (Ok m) → l ≡ m
as_line l m e = cc

two_fit : (n : ℕ) (ws : List (List ℕ)) (p : ℕ × ℕ) → two_vertices n ws ≡ Ok p → (p.0 < n) × (p.1 < n)
two_fit n [] p e = cc
two_fit n (a ∷ []) p e = cc
two_fit n (a ∷ b ∷ []) p e =
    let x = bound (vertex_at n 2 a) (λ x. vertex_at n 3 b >>= (λ y. Ok (x, y))) p e in
    let y = bound (vertex_at n 3 b) (λ y. Ok (x.value, y)) p x.second in
    subst (λ q. (q.0 < n) × (q.1 < n)) (same (x.value, y.value) p y.second)
    (vertex_fits n 2 a x.value x.first, vertex_fits n 3 b y.value y.first)
  where
    same : (p q : ℕ × ℕ) → ◌≡◌ {A = Result (ℕ × ℕ) Refusal} (Ok p) (Ok q) → p ≡ q
    same p q e = cc
two_fit n (a ∷ b ∷ c ∷ ws) p e = cc

one_fits : (n : ℕ) (ws : List (List ℕ)) (x : ℕ) → one_vertex n ws ≡ Ok x → x < n
one_fits n [] x e = cc
one_fits n (a ∷ []) x e = vertex_fits n 2 a x e
one_fits n (a ∷ b ∷ ws) x e = cc

count_fits : (ws : List (List ℕ)) (m : ℕ) → vertex_count ws ≡ Ok m → IsVertexCount m
count_fits [] m e = cc
count_fits (w ∷ []) m e =
    let b = bound (number_at 2 w) (λ k. if nat_le 1 k && nat_le k MOST_VERTICES then Ok k else refused VERTEX 2) m e in
    let t = passed (nat_le 1 b.value && nat_le b.value MOST_VERTICES) b.value m VERTEX 2 b.second in
    subst IsVertexCount t.1 (count b.value t.0)
  where
    count : (k : ℕ) → (nat_le 1 k && nat_le k MOST_VERTICES) ≡ true → IsVertexCount k
    count k t = record { some = grind (arith, nat_tests); most = grind (arith, nat_tests) }
count_fits (w ∷ v ∷ ws) m e = cc

-- a command that may stand where it does failed none of the tests
record MayStandThere (context : Context) (c : Command) : Type 0 where
  inner : (context.live && (not context.inside && is_inner c)) ≡ false
  of_block : (not context.live && is_of_block c) ≡ false
  served : is_unserved context c ≡ false
  within : (context.inside && not (changes_edges c || is_inner c)) ≡ false
  rest : ◌≡◌ {A = Option ℕ} (if is_vertices c then (if context.vertices == 0 then None else Some VERTICES_TWICE) else
      (if context.vertices == 0 then Some NO_VERTICES else
      (if context.inside && is_full context c then Some BLOCK_FULL else None))) None

placed : (context : Context) (c : Command) → misplaced context c ≡ None → MayStandThere context c
placed context c e =
    let first = test (context.live && (not context.inside && is_inner c)) COMMAND _ e in
    let second = test (not context.live && is_of_block c) NEEDS_LIVE _ first.1 in
    let third = test (is_unserved context c) NOT_SERVED _ second.1 in
    let fourth = test (context.inside && not (changes_edges c || is_inner c)) OPEN_BLOCK _ third.1 in
    record { inner = first.0; of_block = second.0; served = third.0; within = fourth.0; rest = fourth.1 }
  where
    test : (b : Bool) (code : ℕ) (rest : Option ℕ) → (if b then Some code else rest) ≡ None → (b ≡ false)
        × (rest ≡ None)
    test true code rest e = cc
    test false code rest e = (refl, e)

is_outside : (i : Bool) → (i && true) ≡ false → i ≡ false
is_outside true e = cc
is_outside false e = refl

is_live : (l : Bool) → (not l && true) ≡ false → l ≡ true
is_live true e = refl
is_live false e = cc

is_inside : (l i : Bool) → (l && (not i && true)) ≡ false → (not l && true) ≡ false → i ≡ true
is_inside true true e f = refl
is_inside true false e f = cc
is_inside false i e f = cc

some_vertices : (context : Context) (full : Bool)
    → ◌≡◌ {A = Option ℕ} (if context.vertices == 0 then Some NO_VERTICES else (if full then Some BLOCK_FULL else None))
    None → 1 ≤ context.vertices
some_vertices context full e = test (context.vertices == 0) refl e
  where
    test : (b : Bool) → (context.vertices == 0) ≡ b
        → ◌≡◌ {A = Option ℕ} (if b then Some NO_VERTICES else (if full then Some BLOCK_FULL else None)) None
        → 1 ≤ context.vertices
    test true t e = cc
    test false t e = grind (arith, nat_tests)

module _ (context : Context) where
  vertices_line_fits : (ws : List (List ℕ)) (l : Line) → context.inside ≡ false → vertices_line ws ≡ Ok l
      → FitsContext context l
  vertices_line_fits ws l out e =
      let m = bound (vertex_count ws) (λ m. Ok (Vertices m)) l e in
      subst (FitsContext context) (as_line (Vertices m.value) l m.second) (out, count_fits ws m.value m.first)

  grow_line_fits : (ws : List (List ℕ)) (l : Line) → context.inside ≡ false → context.no_grow ≡ false
      → grow_line context.vertices ws ≡ Ok l → FitsContext context l
  grow_line_fits ws l out served e =
      let m = bound (vertex_count ws)
      (λ m. if nat_le m context.vertices then refused NOT_MORE 2 else Ok (Grow m)) l e in
      let t = not_failed (nat_le m.value context.vertices) (Ok (Grow m.value)) l NOT_MORE 2 m.second in
      subst (FitsContext context) (as_line (Grow m.value) l t.1)
      (out, served, more m.value t.0, (count_fits ws m.value m.first).most)
    where
      more : (m : ℕ) → nat_le m context.vertices ≡ false → context.vertices < m
      more m t = grind (arith, nat_tests)

  star_line_fits : (ws : List (List ℕ)) (l : Line) → IsVertexCount context.vertices
      → star_line context.vertices ws ≡ Ok l → FitsContext context l
  star_line_fits [] l count e = cc
  star_line_fits (w ∷ ws) l count e = at (first_misfit [] 3 ws) e
    where
      fitted : (vertex_at context.vertices 2 w >>=
          (λ v. star_with_groups (no_star context.vertices v) Out 3 ws >>= (λ s. Ok (Star s)))) ≡ Ok l
          → FitsContext context l
      fitted e =
          let v = bound (vertex_at context.vertices 2 w)
          (λ v. star_with_groups (no_star context.vertices v) Out 3 ws >>= (λ s. Ok (Star s))) l e in
          let s = bound (star_with_groups (no_star context.vertices v.value) Out 3 ws) (λ s. Ok (Star s)) l v.second in
          let fit =
          groups_fit (no_star context.vertices v.value) Out 3 ws s.value
          (is_star-no_star context.vertices v.value count (vertex_fits context.vertices 2 w v.value v.first))
          s.first in
          subst (FitsContext context) (as_line (Star s.value) l s.second) fit

      at : (o : Option ℕ) → star_unless o context.vertices w ws ≡ Ok l → FitsContext context l
      at (Some place) e = cc
      at None e = fitted e

  edge_line_fits : (ws : List (List ℕ)) (l : Line) → edge_line context.vertices ws ≡ Ok l → FitsContext context l
  edge_line_fits [] l e = cc
  edge_line_fits (a ∷ []) l e = cc
  edge_line_fits (a ∷ b ∷ []) l e = cc
  edge_line_fits (a ∷ b ∷ c ∷ []) l e =
      let u = bound (vertex_at context.vertices 2 a)
      (λ u. vertex_at context.vertices 3 b >>=
      (λ v. if u == v then refused SELF_EDGE 3 else (weight_at_word 4 c >>= (λ w. Ok (Edge u v w))))) l e in
      let v = bound (vertex_at context.vertices 3 b)
      (λ v. if u.value == v then refused SELF_EDGE 3 else (weight_at_word 4 c >>= (λ w. Ok (Edge u.value v w)))) l
      u.second in
      let t = not_failed (u.value == v.value) (weight_at_word 4 c >>= (λ w. Ok (Edge u.value v.value w))) l SELF_EDGE 3
      v.second in
      let w = bound (weight_at_word 4 c) (λ w. Ok (Edge u.value v.value w)) l t.1 in
      subst (FitsContext context) (as_line (Edge u.value v.value w.value) l w.second) (
        vertex_fits context.vertices 2 a u.value u.first,
        vertex_fits context.vertices 3 b v.value v.first,
        apart
            u.value v.value t.0,
        weight_fits 4 c w.value w.first,
      )
    where
      apart : (u v : ℕ) → (u == v) ≡ false → u ≢ v
      apart u v t h = grind (arith, nat_tests)
  edge_line_fits (a ∷ b ∷ c ∷ d ∷ ws) l e = cc

  cut_line_fits : (ws : List (List ℕ)) (l : Line) → cut_line context.vertices ws ≡ Ok l → FitsContext context l
  cut_line_fits ws l e =
      let p = bound (two_vertices context.vertices ws)
      (λ p. if p.0 == p.1 then refused SELF_EDGE 3 else Ok (Cut p.0 p.1)) l e in
      let t = not_failed (p.value.0 == p.value.1) (Ok (Cut p.value.0 p.value.1)) l SELF_EDGE 3 p.second in
      let two = two_fit context.vertices ws p.value p.first in
      subst (FitsContext context) (as_line (Cut p.value.0 p.value.1) l t.1)
      (two.0, two.1, apart p.value.0 p.value.1 t.0)
    where
      apart : (u v : ℕ) → (u == v) ≡ false → u ≢ v
      apart u v t h = grind (arith, nat_tests)

  dist_fits : (ws : List (List ℕ)) (l : Line) → context.inside ≡ false
      → (two_vertices context.vertices ws >>= (λ p. Ok (Dist p.0 p.1))) ≡ Ok l → FitsContext context l
  dist_fits ws l out e =
      let p = bound (two_vertices context.vertices ws) (λ p. Ok (Dist p.0 p.1)) l e in
      let two = two_fit context.vertices ws p.value p.first in
      subst (FitsContext context) (as_line (Dist p.value.0 p.value.1) l p.second) (out, two.0, two.1)

  path_fits : (ws : List (List ℕ)) (l : Line) → context.inside ≡ false
      → (two_vertices context.vertices ws >>= (λ p. Ok (Path p.0 p.1))) ≡ Ok l → FitsContext context l
  path_fits ws l out e =
      let p = bound (two_vertices context.vertices ws) (λ p. Ok (Path p.0 p.1)) l e in
      let two = two_fit context.vertices ws p.value p.first in
      subst (FitsContext context) (as_line (Path p.value.0 p.value.1) l p.second) (out, two.0, two.1)

  row_line_fits : (ws : List (List ℕ)) (l : Line) → context.inside ≡ false → row_line context.vertices ws ≡ Ok l
      → FitsContext context l
  row_line_fits ws l out e =
      let x = bound (one_vertex context.vertices ws) (λ x. Ok (Row x)) l e in
      subst (FitsContext context) (as_line (Row x.value) l x.second)
      (out, one_fits context.vertices ws x.value x.first)

  ecc_line_fits : (ws : List (List ℕ)) (l : Line) → context.inside ≡ false → ecc_line context.vertices ws ≡ Ok l
      → FitsContext context l
  ecc_line_fits ws l out e =
      let x = bound (one_vertex context.vertices ws) (λ x. Ok (Ecc x)) l e in
      subst (FitsContext context) (as_line (Ecc x.value) l x.second)
      (out, one_fits context.vertices ws x.value x.first)

  through_line_fits : (ws : List (List ℕ)) (l : Line) → context.inside ≡ false
      → through_line context.vertices ws ≡ Ok l → FitsContext context l
  through_line_fits ws l out e =
      let v = bound (one_vertex context.vertices ws) (λ v. Ok (Through v)) l e in
      subst (FitsContext context) (as_line (Through v.value) l v.second)
      (out, one_fits context.vertices ws v.value v.first)

  stats_line_fits : (ws : List (List ℕ)) (l : Line) → context.inside ≡ false → 1 ≤ context.vertices
      → stats_line ws ≡ Ok l → FitsContext context l
  stats_line_fits [] l out some e = subst (FitsContext context) (as_line Stats l e) (out, omega (arith, some))
  stats_line_fits (w ∷ ws) l out some e = cc

  report_line_fits : (ws : List (List ℕ)) (l : Line) → context.inside ≡ false → 1 ≤ context.vertices
      → report_line ws ≡ Ok l → FitsContext context l
  report_line_fits [] l out some e = subst (FitsContext context) (as_line Report l e) (out, omega (arith, some))
  report_line_fits (w ∷ ws) l out some e = cc

  cert_line_fits : (ws : List (List ℕ)) (l : Line) → context.inside ≡ false → 1 ≤ context.vertices → cert_line ws ≡ Ok l
      → FitsContext context l
  cert_line_fits [] l out some e = subst (FitsContext context) (as_line Cert l e) (out, omega (arith, some))
  cert_line_fits (w ∷ ws) l out some e = cc

  age_line_fits : (ws : List (List ℕ)) (l : Line) → context.inside ≡ false → context.no_age ≡ false
      → age_line context.vertices ws ≡ Ok l → FitsContext context l
  age_line_fits [] l out served e = cc
  age_line_fits (w ∷ ws) l out served e =
      let us = bound (vertices_at context.vertices 2 (w ∷ ws)) (λ us. Ok (Age us)) l e in
      subst (FitsContext context) (as_line (Age us.value) l us.second) (
        out,
        served,
        vertices_some context.vertices 2 w ws us.value us.first,
        vertices_fit context.vertices 2 (w ∷ ws)
            us.value us.first,
      )

  block_line_fits : (ws : List (List ℕ)) (l : Line) → context.live ≡ true → context.inside ≡ false
      → 1 ≤ context.vertices → block_line ws ≡ Ok l → FitsContext context l
  block_line_fits [] l live out some e =
      subst (FitsContext context) (as_line Block l e) (live, out, omega (arith, some))
  block_line_fits (w ∷ ws) l live out some e = cc

  end_line_fits : (ws : List (List ℕ)) (l : Line) → context.inside ≡ true → end_line ws ≡ Ok l → FitsContext context l
  end_line_fits [] l within e = subst (FitsContext context) (as_line End l e) within
  end_line_fits (w ∷ ws) l within e = cc

  since_fits : (word : Option (List ℕ)) (j : ℕ) → since_at context.updates word ≡ Ok j → j ≤ context.updates
  since_fits None j e = none j e
    where
      none : (j : ℕ) → ◌≡◌ {A = Result ℕ Refusal} (Ok 0) (Ok j) → j ≤ context.updates
      none j e =
          let same : 0 ≡ j = cc in
          omega (arith, same)
  since_fits (Some w) j e =
      let b = bound (number_at 5 w) (λ j. if nat_lt context.updates j then refused SINCE 5 else Ok j) j e in
      let t = not_failed (nat_lt context.updates b.value) (Ok b.value) j SINCE 5 b.second in
      below b.value t.0 t.1
    where
      below : (x : ℕ) → nat_lt context.updates x ≡ false → ◌≡◌ {A = Result ℕ Refusal} (Ok x) (Ok j)
          → j ≤ context.updates
      below x t s =
          let same : x ≡ j = cc in
          grind (arith, nat_tests)

  ask_line_fits : (ws : List (List ℕ)) (l : Line) → context.inside ≡ true
      → ask_line context.vertices context.updates ws ≡ Ok l → FitsContext context l
  ask_line_fits [] l within e = cc
  ask_line_fits (a ∷ []) l within e = cc
  ask_line_fits (a ∷ b ∷ ws) l within e =
      let number =
      bound (since_word ws) (λ number. vertex_at context.vertices 2 a >>=
      (λ x. vertex_at context.vertices 3 b >>=
      (λ y. since_at context.updates number >>= (λ since. Ok (Ask x y since))))) l e in
      let x = bound (vertex_at context.vertices 2 a)
      (λ x. vertex_at context.vertices 3 b >>=
      (λ y. since_at context.updates number.value >>= (λ since. Ok (Ask x y since)))) l number.second in
      let y = bound (vertex_at context.vertices 3 b)
      (λ y. since_at context.updates number.value >>= (λ since. Ok (Ask x.value y since))) l x.second in
      let j = bound (since_at context.updates number.value) (λ since. Ok (Ask x.value y.value since)) l y.second in
      subst (FitsContext context) (as_line (Ask x.value y.value j.value) l j.second) (
        within,
        vertex_fits context.vertices 2 a x.value x.first,
        vertex_fits context.vertices 3 b y.value y.first,
        since_fits number.value j.value j.first,
      )

  line_fits : (c : Command) (ws : List (List ℕ)) (l : Line) → context.vertices ≤ MOST_VERTICES → MayStandThere context c
      → line_with c context ws ≡ Ok l → FitsContext context l
  line_fits command.Vertices ws l most p e = vertices_line_fits ws l (is_outside context.inside p.within) e
  line_fits command.Star ws l most p e =
      star_line_fits ws l (record { some = some_vertices context _ p.rest; most = most }) e
  line_fits command.Edge ws l most p e = edge_line_fits ws l e
  line_fits command.Cut ws l most p e = cut_line_fits ws l e
  line_fits command.Dist ws l most p e = dist_fits ws l (is_outside context.inside p.within) e
  line_fits command.Path ws l most p e = path_fits ws l (is_outside context.inside p.within) e
  line_fits command.Row ws l most p e = row_line_fits ws l (is_outside context.inside p.within) e
  line_fits command.Stats ws l most p e =
      stats_line_fits ws l (is_outside context.inside p.within) (some_vertices context _ p.rest) e
  line_fits command.Age ws l most p e = age_line_fits ws l (is_outside context.inside p.within) p.served e
  line_fits command.Cert ws l most p e =
      cert_line_fits ws l (is_outside context.inside p.within) (some_vertices context _ p.rest) e
  line_fits command.Block ws l most p e =
      block_line_fits ws l (is_live context.live p.of_block) (is_outside context.inside p.within)
      (some_vertices context _ p.rest) e
  line_fits command.Ask ws l most p e = ask_line_fits ws l (is_inside context.live context.inside p.inner p.of_block) e
  line_fits command.End ws l most p e = end_line_fits ws l (is_inside context.live context.inside p.inner p.of_block) e
  line_fits command.Grow ws l most p e = grow_line_fits ws l (is_outside context.inside p.within) p.served e
  line_fits command.Ecc ws l most p e = ecc_line_fits ws l (is_outside context.inside p.within) e
  line_fits command.Report ws l most p e =
      report_line_fits ws l (is_outside context.inside p.within) (some_vertices context _ p.rest) e
  line_fits command.Through ws l most p e = through_line_fits ws l (is_outside context.inside p.within) e

  words_fit : (ws : List (List ℕ)) (l : Line) → context.vertices ≤ MOST_VERTICES → line_of_words context ws ≡ Ok l
      → FitsContext context l
  words_fit [] l most e = subst (FitsContext context) (as_line Nothing l e) tt
  words_fit (w ∷ ws) l most e = at (is_comment w) e
    where
      unless : (c : Command) (o : Option ℕ) → misplaced context c ≡ o → line_unless o c context ws ≡ Ok l
          → FitsContext context l
      unless c (Some code) is e = cc
      unless c None is e = line_fits c ws l most (placed context c is) e

      named : (o : Option Command) → command_line context o ws ≡ Ok l → FitsContext context l
      named None e = cc
      named (Some c) e = unless c (misplaced context c) refl e

      at : (b : Bool) → (if b then Ok Nothing else command_line context (command_of w) ws) ≡ Ok l
          → FitsContext context l
      at true e = subst (FitsContext context) (as_line Nothing l e) tt
      at false e = named (command_of w) e

-- the answer for all words of a line
pub answer_fits : (context : Context) (ws : List (List ℕ)) (r : Result Line LineError)
    → context.vertices ≤ MOST_VERTICES → MeaningIs (line_of_words context ws) r → IfOk r (FitsContext context)
answer_fits context ws (Ok l) most e = words_fit context ws l most e
answer_fits context ws (Err e) most a = tt

-- an accepted line fits
pub accepted_fits : (context : Context) (bytes : List ℕ) (l : Line) → context.vertices ≤ MOST_VERTICES
    → line_of context bytes ≡ Ok l → FitsContext context l
accepted_fits context bytes l most e = at (nat_lt MOST_LINE_BYTES (length bytes)) e
  where
    at : (b : Bool) → (if b then refused TOO_LONG 0 else line_of_words context (words_of bytes)) ≡ Ok l
        → FitsContext context l
    at true e = cc
    at false e = words_fit context (words_of bytes) l most e
