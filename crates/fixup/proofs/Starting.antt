-- The start of a settling: the edges at the vertex are formed, and the heads of the pairs are held. Serves
-- `form_edges` and `settle_paths`.
use Rattle.std.specs.Prelude.{◌≡◌, ◌≢◌, ℕ, ◌+◌, ◌<◌, ◌⊎◌, ◌↔◌, true, ◌==◌, List, [], ◌∷◌, Option, Some, None, is_some, unwrap_or, refl}
use Rattle.std.proofs.Common.{sym, ◌∙◌, ap, subst, arith, inl, inr}
use Rattle.std.proofs.lemmas.Bool.{true≢false, or_cases, or_left, or_right, eqb-true, eq-eqb, cases_lt}
use Rattle.apsp_model.specs.Graph.{Graph, IsGraph, IsEdgeOf, HasEdge, weight_at, edge_weight}
use Rattle.apsp_model.specs.Star.{touches}
use Rattle.apsp_model.specs.Walk.{IsWalk, IsSimple, weight_of, first}
use Rattle.apsp_model.specs.Local.{IsLocal, IsVertex}
use Rattle.apsp_model.specs.Paths.{IsKeptIn, IsHistoricalIn}
use Rattle.apsp_model.specs.Settled.{IsReady, without_star}
use Rattle.path_arena.specs.Arena.{edge_path, vertex_of}
use Rattle.path_arena.proofs.Paths.{live_from, path_of_at}
use Rattle.path_book.specs.Book.{Book, IsBook, IsNewList, kept_paths, kept_path}
use Rattle.path_book.proofs.Kept.{kept_live, historical_marked, to_kept}
use Rattle.apsp_model.proofs.Members.{in_cons, in_nil}
use Rattle.fixup_math.proofs.Start.{CleanedInvariant, IsEdgeAt, none_at, weight_back}
use Rattle.fixup.specs.Starts.{IsEdgeFormed}
use Rattle.fixup.proofs.Views.{kept_with}
use Rattle.fixup.proofs.Growth.{grown_none, grown_with}
use Rattle.fixup.specs.Views.{Kept, Marked}
use Rattle.fixup.specs.Growth.{EdgesBy, EdgesAreFormed, IsGrown}

same_weight : (a b : ℕ) → Some a ≡ Some b → a ≡ b
same_weight a b e = cc

-- ---- as the list of kept paths says

pub kept_is : (b : Book) (p : List ℕ) → IsKeptIn (kept_paths b) p ↔ Kept b p
kept_is b p = kept_live b p

pub historical_is : (b : Book) → IsBook b → (p : List ℕ) → IsHistoricalIn (kept_paths b) p ↔ Marked b p
historical_is b lawful p =
    let e = historical_marked b p in (
      λ h. let d = e.0 h in (d.0, d.3, d.2),
      λ h. e.1 (h.0, lawful.marked_live h.0 h.1, h.2, h.1),
    )

-- a single vertex is historical
pub single_marked : (b : Book) → IsBook b → (p : List ℕ) → IsVertex b.arena.vertices p → Marked b p
single_marked b lawful p h = (
  vertex_of b.arena h.0,
  lawful.singles h.0 h.1,
  ap (λ q. q.list)
      (path_of_at b.arena (vertex_of b.arena h.0) _ (lawful.arena.singles h.0 h.1)) ∙ sym h.2,
)

-- what settling starts from, for a book that is ready
module _ (g : Graph) (v birth : ℕ) (b0 : Book) (lawful : IsBook b0) (vertices : b0.arena.vertices ≡ g.vertices)
    (ready : IsReady g v (kept_paths b0)) where
  local_there : (p : List ℕ) → Kept b0 p ↔ IsLocal (without_star g v) (Marked b0) p
  local_there p = (
    λ k. let l : IsLocal (without_star g v) (IsHistoricalIn (kept_paths b0)) p =
        (ready.kept p).0 ((kept_is b0 p).1 k) in
        record { simple = l.simple; walk = l.walk; parts = λ q part. (historical_is b0 lawful q).0 (l.parts q part) },
    λ l. (kept_is b0 p).0 ((ready.kept p).1
        (record {
          simple = l.simple;
          walk = l.walk;
          parts = λ q part. (historical_is b0 lawful q).1 (l.parts q part);
        })),
  )

  pub cleaned : CleanedInvariant g v (Marked b0) (Kept b0)
  cleaned = record {
    closed = λ p q h part. (historical_is b0 lawful q).0 (ready.closed p q ((historical_is b0 lawful p).1 h) part);
    singles = λ p h. single_marked b0 lawful p (h.0, subst (λ n. h.0 < n) (sym vertices) h.1, h.2);
    marked_kept = λ p h. (h.0, lawful.marked_live h.0 h.1, h.2);
    kept = local_there;
  }

  pub grown_at_start : IsGrown g birth b0 b0
  grown_at_start = grown_none g birth b0 lawful vertices (λ id p e.
      let k : Kept b0 p.list = (id, live_from b0.arena id p e, ap (λ q. q.list) (path_of_at b0.arena id p e)) in
      ready.weights (kept_path b0 id p) (to_kept b0 id p e) ∙ weight_back g v p.list ((local_there p.list).0 k).walk)

  -- ---- the edges

  pub edges_start : EdgesAreFormed g v birth b0 0 0 b0
  edges_start = record {
    grown = grown_at_start;
    marks = refl;
    kept = λ p. (
      λ k. inl k,
      λ h. elim h [
        | inl old ↦ old
        | inr edge ↦
            absurd (elim edge [
              | inl e ↦ let l : e.0 < 0 = e.1 in omega arith
              | inr e ↦ let l : e.0 < 0 = e.1 in
                  omega arith
            ])
      ],
    );
  }

  not_at_start : (x y : ℕ) → touches v (x, y) ≡ true → Kept b0 (x ∷ y ∷ []) → ⊥
  not_at_start x y at k = none_at g v x y at ((local_there (x ∷ y ∷ [])).0 k).walk.1

  at_first : (u : ℕ) → touches v (v, u) ≡ true
  at_first u = or_left (v == v) (u == v) (eq-eqb v v refl)

  at_second : (u : ℕ) → touches v (u, v) ≡ true
  at_second u = or_right (u == v) (v == v) (eq-eqb v v refl)

  apart_out : IsGraph g → (u w : ℕ) → weight_at g v u ≡ Some w → v ≢ u
  apart_out graph u w e = (graph.edges v u w e).apart

  has_edge : (x y w : ℕ) → weight_at g x y ≡ Some w → HasEdge g x y
  has_edge x y w e = ap is_some e

  weight_is : (x y w : ℕ) → weight_at g x y ≡ Some w → weight_of g (x ∷ y ∷ []) ≡ w
  weight_is x y w e = let one : edge_weight g x y ≡ w = ap (λ o. unwrap_or o 0) e in omega arith

  first_two : (x y a b : ℕ) (p q : List ℕ) → x ∷ y ∷ p ≡ a ∷ b ∷ q → (x ≡ a) × (y ≡ b)
  first_two x y a b p q e = (cc, cc)

  -- the edge from v to i is not kept yet
  pub out_new : (i j : ℕ) (b : Book) → EdgesAreFormed g v birth b0 i j b → IsGraph g → (w : ℕ)
      → weight_at g v i ≡ Some w → IsNewList b (v ∷ i ∷ [])
  out_new i j b s graph w e id live same = elim ((s.kept (v ∷ i ∷ [])).0 (id, live, same)) [
    | inl old ↦ not_at_start v i (at_first i) old
    | inr edge ↦ elim edge [
      | inl d ↦ let l : d.0 < i = d.1 in omega (arith, l, (first_two v i v d.0 [] [] d.3).1)
      | inr d ↦ apart_out graph i w e (sym (first_two v i d.0 v [] [] d.3).1)
    ]
  ]

  pub in_new_edge : (i j : ℕ) (b : Book) → EdgesAreFormed g v birth b0 i j b → IsGraph g → (w : ℕ)
      → weight_at g j v ≡ Some w → IsNewList b (j ∷ v ∷ [])
  in_new_edge i j b s graph w e id live same = elim ((s.kept (j ∷ v ∷ [])).0 (id, live, same)) [
    | inl old ↦ not_at_start j v (at_second j) old
    | inr edge ↦ elim edge [
      | inl d ↦ (graph.edges j v w e).apart (first_two j v v d.0 [] [] d.3).0
      | inr d ↦ let l : d.0 < j = d.1 in omega (arith, l, (first_two j v d.0 v [] [] d.3).0)
    ]
  ]

  below_or_here : (u i : ℕ) → u < i + 1 → (u < i) ⊎ (u ≡ i)
  below_or_here u i l = elim (cases_lt u i) [ inl less ↦ inl less | inr more ↦ inr (omega (arith, l, more)) ]

  -- the edge from v to i is formed where there is one
  pub out_step : (i j : ℕ) (b : Book) → EdgesAreFormed g v birth b0 i j b → (after : Book)
      → IsEdgeFormed g b v i birth after → IsBook after → EdgesAreFormed g v birth b0 (i + 1) j after
  out_step i j b s after h book = elim h [
    | inl none ↦ subst (EdgesAreFormed g v birth b0 (i + 1) j) (sym none.1) (record {
      grown = s.grown;
      marks = s.marks;
      kept = λ p. (
        λ k. elim ((s.kept p).0 k) [
          | inl old ↦ inl old
          | inr edge ↦
              inr (elim edge [ inl d ↦ inl (d.0, (let l : d.0 < i = d.1 in omega arith), d.2, d.3) | inr d ↦ inr d ])
        ],
        λ k. (s.kept p).1 (elim k [
          | inl old ↦ inl old
          | inr edge ↦ inr (elim edge [
            | inl d ↦ elim (below_or_here d.0 i d.1) [
              | inl less ↦ inl (d.0, less, d.2, d.3)
              | inr here ↦
                  absurd (true≢false (sym d.2 ∙ ap (λ u. is_some (weight_at g v u)) here ∙ ap is_some none.0))
            ]
            | inr d ↦ inr d
          ])
        ]),
      );
    })
    | inr made ↦ subst (EdgesAreFormed g v birth b0 (i + 1) j) (sym made.4) (record {
      grown = grown_with g birth b0 b s.grown made.1 (edge_path b.arena v i made.0 birth) made.3
          (sym (weight_is v i made.0 made.2)) refl (subst IsBook made.4 book);
      marks = s.marks;
      kept = λ p. (
        λ k. elim ((kept_with b made.1 (edge_path b.arena v i made.0 birth) made.3 p).0 k) [
          | inl before ↦ elim ((s.kept p).0 before) [
            | inl old ↦ inl old
            | inr edge ↦
                inr (elim edge [ inl d ↦ inl (d.0, (let l : d.0 < i = d.1 in omega arith), d.2, d.3) | inr d ↦ inr d ])
          ]
          | inr new ↦ inr (inl (i, omega arith, has_edge v i made.0 made.2, new))
        ],
        λ k. (kept_with b made.1 (edge_path b.arena v i made.0 birth) made.3 p).1 (elim k [
          | inl old ↦ inl ((s.kept p).1 (inl old))
          | inr edge ↦ elim edge [
            | inl d ↦ elim (below_or_here d.0 i d.1) [
              | inl less ↦ inl ((s.kept p).1 (inr (inl (d.0, less, d.2, d.3))))
              | inr here ↦
                  inr (d.3 ∙ ap (λ u. v ∷ u ∷ []) here)
            ]
            | inr d ↦ inl ((s.kept p).1 (inr (inr d)))
          ]
        ]),
      );
    })
  ]

  pub in_step : (i j : ℕ) (b : Book) → EdgesAreFormed g v birth b0 i j b → (after : Book)
      → IsEdgeFormed g b j v birth after → IsBook after → EdgesAreFormed g v birth b0 i (j + 1) after
  in_step i j b s after h book = elim h [
    | inl none ↦ subst (EdgesAreFormed g v birth b0 i (j + 1)) (sym none.1) (record {
      grown = s.grown;
      marks = s.marks;
      kept = λ p. (
        λ k. elim ((s.kept p).0 k) [
          | inl old ↦ inl old
          | inr edge ↦
              inr (elim edge [ inl d ↦ inl d | inr d ↦ inr (d.0, (let l : d.0 < j = d.1 in omega arith), d.2, d.3) ])
        ],
        λ k. (s.kept p).1 (elim k [
          | inl old ↦ inl old
          | inr edge ↦ inr (elim edge [
            | inl d ↦ inl d
            | inr d ↦ elim (below_or_here d.0 j d.1) [
              | inl less ↦ inr (d.0, less, d.2, d.3)
              | inr here ↦
                  absurd (true≢false (sym d.2 ∙ ap (λ u. is_some (weight_at g u v)) here ∙ ap is_some none.0))
            ]
          ])
        ]),
      );
    })
    | inr made ↦ subst (EdgesAreFormed g v birth b0 i (j + 1)) (sym made.4) (record {
      grown = grown_with g birth b0 b s.grown made.1 (edge_path b.arena j v made.0 birth) made.3
          (sym (weight_is j v made.0 made.2)) refl (subst IsBook made.4 book);
      marks = s.marks;
      kept = λ p. (
        λ k. elim ((kept_with b made.1 (edge_path b.arena j v made.0 birth) made.3 p).0 k) [
          | inl before ↦ elim ((s.kept p).0 before) [
            | inl old ↦ inl old
            | inr edge ↦
                inr (elim edge [ inl d ↦ inl d | inr d ↦ inr (d.0, (let l : d.0 < j = d.1 in omega arith), d.2, d.3) ])
          ]
          | inr new ↦ inr (inr (j, omega arith, has_edge j v made.0 made.2, new))
        ],
        λ k. (kept_with b made.1 (edge_path b.arena j v made.0 birth) made.3 p).1 (elim k [
          | inl old ↦ inl ((s.kept p).1 (inl old))
          | inr edge ↦ elim edge [
            | inl d ↦ inl ((s.kept p).1 (inr (inl d)))
            | inr d ↦ elim (below_or_here d.0 j d.1) [
              | inl less ↦ inl ((s.kept p).1 (inr (inr (d.0, less, d.2, d.3))))
              | inr here ↦
                  inr (d.3 ∙ ap (λ u. u ∷ v ∷ []) here)
            ]
          ]
        ]),
      );
    })
  ]

  -- all edges at v are formed
  edges_are : IsGraph g → (p : List ℕ) → EdgesBy g v g.vertices g.vertices p ↔ IsEdgeAt g v p
  edges_are graph p = (
    λ h. elim h [
      | inl d ↦ edge v d.0 (at_first d.0) d.2 d.3
      | inr d ↦ edge d.0 v (at_second d.0) d.2 d.3
    ],
    λ e. elim (or_cases (e.from == v) (e.to == v) e.at_vertex) [
      | inl first ↦ inl (
        e.to,
        (ends_in p e).1,
        subst (λ x. HasEdge g x e.to) (eqb-true e.from v first)
            (subst (IsWalk g) e.is e.walk).1,
        e.is ∙ ap (λ x. x ∷ e.to ∷ []) (eqb-true e.from v first),
      )
      | inr second ↦ inr (
        e.from,
        (ends_in p e).0,
        subst (λ x. HasEdge g e.from x) (eqb-true e.to v second)
            (subst (IsWalk g) e.is e.walk).1,
        e.is ∙ ap (λ x. e.from ∷ x ∷ []) (eqb-true e.to v second),
      )
    ],
  )
    where
      ends_in : (p : List ℕ) (e : IsEdgeAt g v p) → (e.from < g.vertices) × (e.to < g.vertices)
      ends_in p e = let w : IsWalk g (e.from ∷ e.to ∷ []) = subst (IsWalk g) e.is e.walk in (w.0, w.2)

      edge : (x y : ℕ) → touches v (x, y) ≡ true → HasEdge g x y → p ≡ x ∷ y ∷ [] → IsEdgeAt g v p
      edge x y at has is = some x y at has is (weight_at g x y) refl has
        where
          some : (x y : ℕ) → touches v (x, y) ≡ true → HasEdge g x y → p ≡ x ∷ y ∷ [] → (o : Option ℕ)
              → weight_at g x y ≡ o → HasEdge g x y → IsEdgeAt g v p
          some x y at has is None e edge = absurd (true≢false (sym edge ∙ ap is_some e))
          some x y at has is (Some w) e edge =
              let of : IsEdgeOf g.vertices x y w = graph.edges x y w e in
              record {
                from = x;
                to = y;
                is = is;
                at_vertex = at;
                walk = subst (IsWalk g) (sym is) (of.from, edge, of.to);
                simple = subst IsSimple (sym is) (
                  (λ c. elim (in_cons x y [] c) [ inl same ↦ of.apart (sym same) | inr none ↦ in_nil x none ]),
                  ((λ c. in_nil y c), tt),
                );
              }

  pub edges_done : IsGraph g → (b : Book) → EdgesAreFormed g v birth b0 g.vertices g.vertices b → (p : List ℕ)
      → Kept b p ↔ (Kept b0 p ⊎ IsEdgeAt g v p)
  edges_done graph b s p = (
    λ k. elim ((s.kept p).0 k) [ inl old ↦ inl old | inr edge ↦ inr ((edges_are graph p).0 edge) ],
    λ h. (s.kept p).1 (elim h [ inl old ↦ inl old | inr edge ↦ inr ((edges_are graph p).1 edge) ]),
  )
