-- All edges of a graph are formed row by row, in a book that keeps the single vertices alone. Serves `form_rows` and
-- `settle_whole_paths`.
--
-- The mathematics. The pairs stand in the order of rows: (u, v) before (x, y) where u is below x, or u is x and v below
-- y.
-- By the pair of x and y the edges of the pairs before it are formed. No pair stands before the first one; one pair
-- more
-- adds its edge, where there is one; the end of a row is the start of the next, since no edge ends at n or above; and
-- all
-- edges stand before row n. So at the end the single vertices and all edges are kept, and these are what is local of
-- the
-- single vertices.
use Rattle.std.specs.Prelude.{◌≡◌, ◌≢◌, ℕ, ◌+◌, ◌<◌, ◌⊎◌, ◌↔◌, List, [], ◌∷◌, length, Option, Some, None, is_some, unwrap_or, refl}
use Rattle.std.proofs.Common.{sym, ◌∙◌, ap, subst, arith, inl, inr}
use Rattle.std.proofs.lemmas.Bool.{cases_lt, true≢false}
use Rattle.apsp_model.specs.Graph.{Graph, HasEdge, IsGraph, IsEdgeOf, weight_at, edge_weight}
use Rattle.apsp_model.specs.Walk.{IsWalk, IsSimple, weight_of}
use Rattle.apsp_model.specs.Local.{IsVertex}
use Rattle.apsp_model.specs.Settled.{AreSingles}
use Rattle.apsp_model.proofs.Members.{in_cons, in_nil}
use Rattle.apsp_model.proofs.Growths.{edge_inside}
use Rattle.path_arena.specs.Arena.{Path, edge_path, path_at, list_of, vertex_of, single}
use Rattle.path_arena.proofs.Paths.{live_from, path_of_at}
use Rattle.path_book.specs.Book.{Book, IsBook, IsNewList, kept_paths}
use Rattle.fixup.specs.Starts.{IsEdgeFormed}
use Rattle.fixup.specs.Views.{Kept, Marked}
use Rattle.fixup.specs.Growth.{IsGrown, EdgesBefore, RowsAreFormed}
use Rattle.fixup.proofs.Views.{kept_with}
use Rattle.fixup.proofs.Growth.{grown_none, grown_with}
use Rattle.fixup.proofs.Starting.{kept_is, historical_is}

-- ---- the pairs

none_before : (g : Graph) (p : List ℕ) → EdgesBefore g 0 0 p → ⊥
none_before g p h = elim h.2 [ inl less ↦ omega (arith, less) | inr same ↦ omega (arith, same.1) ]

-- one pair more
one_more : (g : Graph) (x y : ℕ) (p : List ℕ)
    → EdgesBefore g x (y + 1) p ↔ (EdgesBefore g x y p ⊎ (HasEdge g x y × (p ≡ x ∷ y ∷ [])))
one_more g x y p = (
  λ h. elim h.2 [
    | inl less ↦ inl (h.0, h.1, inl less, h.3, h.4)
    | inr same ↦ elim (cases_lt h.1 y) [
      | inl less ↦ inl (h.0, h.1, inr (same.0, less), h.3, h.4)
      | inr more ↦
          let here : h.1 ≡ y = omega (arith, same.1, more) in
          inr (
            subst (λ (v : ℕ). HasEdge g x v) here (subst (λ (u : ℕ). HasEdge g u h.1) same.0 h.3),
            h.4
                ∙ (λ i. same.0 i ∷ here i ∷ []),
          )
    ]
  ],
  λ h. elim h [
    | inl old ↦ (
      old.0,
      old.1,
      elim old.2 [ inl less ↦ inl less | inr same ↦ inr (same.0, omega (arith, same.1)) ],
      old.3,
      old.4,
    )
    | inr new ↦ (x, y, inr (refl, omega arith), new.0, new.1)
  ],
)

-- the end of a row
row_ends : (g : Graph) → IsGraph g → (x : ℕ) (p : List ℕ) → EdgesBefore g x g.vertices p ↔ EdgesBefore g (x + 1) 0 p
row_ends g graph x p = (
  λ h. (h.0, h.1, elim h.2 [ inl less ↦ inl (omega (arith, less)) | inr same ↦ inl (omega (arith, same.0)) ], h.3, h.4),
  λ h. (
    h.0,
    h.1,
    elim h.2 [
      | inl less ↦ elim (cases_lt h.0 x) [
        | inl before ↦ inl before
        | inr here ↦
            inr (omega (arith, less, here), (edge_inside g graph h.0 h.1 h.3).1)
      ]
      | inr same ↦ absurd (omega (arith, same.1))
    ],
    h.3,
    h.4,
  ),
)

-- a list of two vertices that is a simple walk is an edge
edge_list : (g : Graph) → IsGraph g → (u v : ℕ) → HasEdge g u v → (length (u ∷ v ∷ []) ≡ 2) × IsWalk g (u ∷ v ∷ [])
    × IsSimple (u ∷ v ∷ [])
edge_list g graph u v edge = go (weight_at g u v) refl
  where
    go : (o : Option ℕ) → weight_at g u v ≡ o → (length (u ∷ v ∷ []) ≡ 2) × IsWalk g (u ∷ v ∷ [])
        × IsSimple (u ∷ v ∷ [])
    go None e = absurd (true≢false (sym edge ∙ ap is_some e))
    go (Some w) e =
        let r : IsEdgeOf g.vertices u v w = graph.edges u v w e in (
          refl,
          (r.from, edge, r.to),
          (
            λ c. elim (in_cons u v [] c)
                [ inl same ↦ r.apart (sym same) | inr none ↦ in_nil u none ],
            (λ c. in_nil v c, tt),
          ),
        )

-- the end of all rows
rows_end : (g : Graph) → IsGraph g → (p : List ℕ)
    → EdgesBefore g g.vertices 0 p ↔ ((length p ≡ 2) × IsWalk g p × IsSimple p)
rows_end g graph p = (
  λ h. subst (λ (q : List ℕ). (length q ≡ 2) × IsWalk g q × IsSimple q) (sym h.4) (edge_list g graph h.0 h.1 h.3),
  back p,
)
  where
    back : (p : List ℕ) → (length p ≡ 2) × IsWalk g p × IsSimple p → EdgesBefore g g.vertices 0 p
    back [] h = absurd (omega (arith, h.0))
    back (x ∷ []) h = absurd (omega (arith, h.0))
    back (x ∷ y ∷ []) h = (x, y, inl h.1.0, h.1.1, refl)
    back (x ∷ y ∷ z ∷ p) h = absurd (omega (arith, h.0))

-- ---- the book

pub marked_alone : (g : Graph) (b0 : Book) → IsBook b0 → AreSingles g.vertices (kept_paths b0) → (p : List ℕ)
    → Marked b0 p ↔ IsVertex g.vertices p
marked_alone g b0 lawful alone p = (
  λ h. (alone.historical p).0 ((historical_is b0 lawful p).1 h),
  λ h. (historical_is b0 lawful p).0
      ((alone.historical p).1 h),
)

module _ (g : Graph) (birth : ℕ) (b0 : Book) where
  pub rows_start : IsBook b0 → b0.arena.vertices ≡ g.vertices
      → ((id : ℕ) (p : Path) → path_at b0.arena id ≡ Some p → p.weight ≡ weight_of g p.list)
      → RowsAreFormed g birth b0 0 0 b0
  rows_start lawful vertices weights = record {
    grown = grown_none g birth b0 lawful vertices weights;
    marks = refl;
    kept = λ p. (λ k. inl k, λ h. elim h [ inl old ↦ old | inr edge ↦ absurd (none_before g p edge) ]);
  }

  weight_is : (x y w : ℕ) → weight_at g x y ≡ Some w → weight_of g (x ∷ y ∷ []) ≡ w
  weight_is x y w e = let one : edge_weight g x y ≡ w = ap (λ o. unwrap_or o 0) e in omega arith

  -- the edge of the pair is formed where there is one
  pub row_step : (x y : ℕ) (b : Book) → RowsAreFormed g birth b0 x y b → (after : Book)
      → IsEdgeFormed g b x y birth after → IsBook after → RowsAreFormed g birth b0 x (y + 1) after
  row_step x y b s after h book = elim h [
    | inl none ↦ subst (RowsAreFormed g birth b0 x (y + 1)) (sym none.1) (record {
      grown = s.grown;
      marks = s.marks;
      kept = λ p. (
        λ k. elim ((s.kept p).0 k) [ inl old ↦ inl old | inr edge ↦ inr ((one_more g x y p).1 (inl edge)) ],
        λ k. (s.kept p).1 (elim k [
          | inl old ↦ inl old
          | inr edge ↦ elim ((one_more g x y p).0 edge)
              [ inl before ↦ inr before | inr here ↦ absurd (true≢false (sym here.0 ∙ ap is_some none.0)) ]
        ]),
      );
    })
    | inr made ↦ subst (RowsAreFormed g birth b0 x (y + 1)) (sym made.4) (record {
      grown = grown_with g birth b0 b s.grown made.1 (edge_path b.arena x y made.0 birth) made.3
          (sym (weight_is x y made.0 made.2)) refl (subst IsBook made.4 book);
      marks = s.marks;
      kept = λ p. (
        λ k. elim ((kept_with b made.1 (edge_path b.arena x y made.0 birth) made.3 p).0 k) [
          | inl before ↦ elim ((s.kept p).0 before)
              [ inl old ↦ inl old | inr edge ↦ inr ((one_more g x y p).1 (inl edge)) ]
          | inr new ↦ inr ((one_more g x y p).1 (inr (ap is_some made.2, new)))
        ],
        λ k. (kept_with b made.1 (edge_path b.arena x y made.0 birth) made.3 p).1 (elim k [
          | inl old ↦ inl ((s.kept p).1 (inl old))
          | inr edge ↦ elim ((one_more g x y p).0 edge)
              [ inl before ↦ inl ((s.kept p).1 (inr before)) | inr here ↦ inr here.1 ]
        ]),
      );
    })
  ]

  -- a row is done
  pub row_done : IsGraph g → (x : ℕ) (b : Book) → RowsAreFormed g birth b0 x g.vertices b
      → RowsAreFormed g birth b0 (x + 1) 0 b
  row_done graph x b s = record {
    grown = s.grown;
    marks = s.marks;
    kept = λ p. (
      λ k. elim ((s.kept p).0 k) [ inl old ↦ inl old | inr edge ↦ inr ((row_ends g graph x p).0 edge) ],
      λ h. (s.kept p).1 (elim h [ inl old ↦ inl old | inr edge ↦ inr ((row_ends g graph x p).1 edge) ]),
    );
  }

module _ (g : Graph) (birth : ℕ) (b0 : Book) (alone : AreSingles g.vertices (kept_paths b0)) where
  kept_alone : (p : List ℕ) → Kept b0 p ↔ IsVertex g.vertices p
  kept_alone p = (λ h. (alone.kept p).0 ((kept_is b0 p).1 h), λ h. (kept_is b0 p).0 ((alone.kept p).1 h))

  -- a single vertex has no weight
  pub single_weights : IsBook b0 → b0.arena.vertices ≡ g.vertices → (id : ℕ) (p : Path) → path_at b0.arena id ≡ Some p
      → p.weight ≡ weight_of g p.list
  single_weights lawful vertices id p e =
      ap (λ (q : Path). q.weight) is ∙ ap (λ (q : Path). weight_of g q.list) (sym is)
    where
      list : list_of b0.arena id ≡ p.list
      list = ap (λ (q : Path). q.list) (path_of_at b0.arena id p e)

      one : IsVertex g.vertices p.list
      one = (kept_alone p.list).0 (id, live_from b0.arena id p e, list)

      at : path_at b0.arena (vertex_of b0.arena one.0) ≡ Some (single one.0)
      at = lawful.arena.singles one.0 (subst (λ n. one.0 < n) (sym vertices) one.1)

      same : id ≡ vertex_of b0.arena one.0
      same = lawful.once id (vertex_of b0.arena one.0) (live_from b0.arena id p e)
          (live_from b0.arena (vertex_of b0.arena one.0) (single one.0) at)
          (list ∙ one.2 ∙ sym (ap (λ (q : Path). q.list)
          (path_of_at b0.arena (vertex_of b0.arena one.0) (single one.0) at)))

      same_path : (p q : Path) → Some p ≡ Some q → p ≡ q
      same_path p q e = cc

      is : p ≡ single one.0
      is = same_path p (single one.0) (sym e ∙ ap (path_at b0.arena) same ∙ at)

  heads_same : (x y u v : ℕ) → x ∷ y ∷ [] ≡ u ∷ v ∷ [] → (x ≡ u) × (y ≡ v)
  heads_same x y u v e = (cc, cc)

  -- the edge of the next pair is not kept yet
  pub row_new : (x y : ℕ) (b : Book) → RowsAreFormed g birth b0 x y b → IsNewList b (x ∷ y ∷ [])
  row_new x y b s id live same = elim ((s.kept (x ∷ y ∷ [])).0 (id, live, same)) [
    | inl single ↦ omega (arith, ap length ((kept_alone (x ∷ y ∷ [])).0 single).2)
    | inr old ↦
        let is : (x ≡ old.0) × (y ≡ old.1) = heads_same x y old.0 old.1 old.4 in
        elim old.2 [ inl less ↦ omega (arith, less, is.0) | inr row ↦ omega (arith, row.1, is.1) ]
  ]

  -- all are
  pub rows_done : IsGraph g → (b : Book) → RowsAreFormed g birth b0 g.vertices 0 b → (p : List ℕ)
      → Kept b p ↔ (IsVertex g.vertices p ⊎ ((length p ≡ 2) × IsWalk g p × IsSimple p))
  rows_done graph b s p = (
    λ k. elim ((s.kept p).0 k) [ inl old ↦ inl ((kept_alone p).0 old) | inr edge ↦ inr ((rows_end g graph p).0 edge) ],
    λ h. (s.kept p).1 (elim h [
      | inl single ↦ inl ((kept_alone p).1 single)
      | inr edge ↦
          inr ((rows_end g graph p).1 edge)
    ]),
  )
