-- For the tests: the paths through a vertex, where all of them are edges.
use Rattle.std.specs.Prelude.{◌≡◌, ◌≢◌, ℕ, ◌<◌, ◌↔◌, List, [], ◌∷◌, ◌++◌, None, IsSome, is_some, unwrap_or, refl, Contains}
use Rattle.std.proofs.Common.{sym, ◌∙◌, ap, subst, arith, inl, inr}
use Rattle.std.proofs.lemmas.Bool.{cases_eq, false≢true}
use Rattle.std.proofs.lemmas.List.Elements.{Contains-push_cases, Contains-append_left, Contains-append_right}
use Rattle.apsp_model.specs.Walk.{IsOnceEach, hops_of}
use Rattle.apsp_model.proofs.Members.{in_nil, head_in, tail_in}
use Rattle.path_arena.specs.Arena.{Path, path_at, path_of, no_path, vertex_of, left_of, HasAnEdge, single, with_path}
use Rattle.path_arena.proofs.Keys.{get_put, get_put_other}
use Rattle.path_arena.proofs.Paths.{path_of_at, live_from_edge}
use Rattle.extension_lists.specs.Known.{Known}
use Rattle.path_book.specs.Book.{Book, with_kept, with_mark, IsNewList, IsOpeningBook, IsBook}
use Rattle.path_book.specs.Through.{IsThrough, hops_at, InRisingHops, IsVictims}

pub record AreEdges (b : Book) (v : ℕ) (ids : List ℕ) : Type 0 where
  pub exact : (id : ℕ) → Contains ids id ↔ IsThrough b v id
  pub once : IsOnceEach ids
  pub short : (id : ℕ) → Contains ids id → hops_at b id ≡ 1

pub are_victims : (b : Book) (v : ℕ) (ids : List ℕ) → AreEdges b v ids → IsVictims b v ids
are_victims b v ids e = record { exact = e.exact; once = e.once; rising = rising ids e.short }
  where
    rising : (xs : List ℕ) → ((q : ℕ) → Contains xs q → hops_at b q ≡ 1) → InRisingHops b xs
    rising [] h = tt
    rising (x ∷ xs) h = (
      λ q k. (let one = h x (head_in x x xs refl) in let other = h q (tail_in q x xs k) in omega (arith, one, other)),
      rising xs (λ q k. h q (tail_in q x xs k)),
    )

pub no_edges_yet : (b : Book) (n v : ℕ) → IsBook b → IsOpeningBook b n → AreEdges b v []
no_edges_yet b n v was opening = record {
  exact = λ q. (λ k. absurd (in_nil q k), λ h. absurd (edgeless q h.0));
  once = tt;
  short = λ q k. absurd (in_nil q k);
}
  where
    edgeless : (q : ℕ) → HasAnEdge b.arena q → ⊥
    edgeless q edge =
        let u = opening.live q (live_from_edge b.arena q was.arena edge) in
        let inside : u.0 < b.arena.vertices = (let l : u.0 < n = u.1 in omega (arith, opening.vertices)) in
        let none : left_of b.arena q ≡ None =
        ap (left_of b.arena) u.2 ∙ ap (λ p. p.left)
        (path_of_at b.arena (vertex_of b.arena u.0) (single u.0) (was.arena.singles u.0 inside)) in
        false≢true (sym (ap is_some none) ∙ edge)

pub edges_marked : (b c : Book) (id v : ℕ) (ids : List ℕ) (lists : Known) → c ≡ with_mark b id lists → AreEdges b v ids
    → AreEdges c v ids
edges_marked b c id v ids lists is e =
    subst (λ (d : Book). AreEdges d v ids) (sym is) (record { exact = e.exact; once = e.once; short = e.short })

pub new_marked : (b c : Book) (id : ℕ) (lists : Known) (list : List ℕ) → c ≡ with_mark b id lists → IsNewList b list
    → IsNewList c list
new_marked b c id lists list is new = subst (λ (d : Book). IsNewList d list) (sym is) new

once_back : (xs : List ℕ) (x : ℕ) → IsOnceEach xs → (Contains xs x → ⊥) → IsOnceEach (xs ++ x ∷ [])
once_back [] x once out = (λ k. in_nil x k, tt)
once_back (y ∷ xs) x once out = (
  λ k. elim (Contains-push_cases xs x y k) [
    | inl before ↦ once.0 before
    | inr same ↦ out (head_in x y xs (sym same))
  ],
  once_back xs x once.1 (λ k. out (tail_in x y xs k)),
)

-- one edge more
module _ (b c : Book) (id : ℕ) (p : Path) (v : ℕ) (ids : List ℕ) (fresh : path_at b.arena id ≡ None)
    (is : c ≡ with_kept b id p) (e : AreEdges b v ids) where
  of_new : path_of c.arena id ≡ p
  of_new = ap (λ (d : Book). path_of d.arena id) is
      ∙ path_of_at (with_path b.arena id p) id p (get_put b.arena.paths id p)

  of_old : (q : ℕ) → q ≢ id → path_of c.arena q ≡ path_of b.arena q
  of_old q apart =
      ap (λ (d : Book). path_of d.arena q) is ∙ ap (λ o. unwrap_or o no_path) (get_put_other b.arena.paths id p q apart)

  -- what had an edge before is another path
  other : (q : ℕ) → HasAnEdge b.arena q → q ≢ id
  other q edge same =
      false≢true (sym (ap (λ o. is_some (unwrap_or o no_path).left) fresh)
      ∙ ap (λ j. is_some (left_of b.arena j)) (sym same) ∙ edge)

  stands : (q : ℕ) → Contains ids q → q ≢ id
  stands q k = other q ((e.exact q).0 k).0

  still : (q : ℕ) → q ≢ id → IsThrough b v q ↔ IsThrough c v q
  still q apart = (
    λ h. (
      ap (λ (r : Path). is_some r.left) (of_old q apart)
          ∙ h.0,
      subst (λ (r : Path). Contains r.list v) (sym (of_old q apart)) h.1,
    ),
    λ h. (
      ap (λ (r : Path). is_some r.left) (sym (of_old q apart))
          ∙ h.0,
      subst (λ (r : Path). Contains r.list v) (of_old q apart) h.1,
    ),
  )

  as_short : (q : ℕ) → Contains ids q → hops_at c q ≡ 1
  as_short q k = ap (λ (r : Path). hops_of r.list) (of_old q (stands q k)) ∙ e.short q k

  pub edge_past : (Contains p.list v → ⊥) → AreEdges c v ids
  edge_past past = record {
    exact = λ q. (
      λ k. (still q (stands q k)).0 ((e.exact q).0 k),
      λ h. elim (cases_eq q id) [
        | inl same ↦ absurd (past (subst (λ (r : Path). Contains r.list v) (ap (path_of c.arena) same ∙ of_new) h.1))
        | inr apart ↦ (e.exact q).1 ((still q apart).1 h)
      ],
    );
    once = e.once;
    short = as_short;
  }

  pub edge_through : IsSome p.left → Contains p.list v → hops_of p.list ≡ 1 → AreEdges c v (ids ++ id ∷ [])
  edge_through edge passes one = record {
    exact = λ q. (
      λ k. elim (Contains-push_cases ids id q k) [
        | inl before ↦ (still q (stands q before)).0 ((e.exact q).0 before)
        | inr same ↦ subst (IsThrough c v) same here
      ],
      λ h. elim (cases_eq q id) [
        | inl same ↦ Contains-append_right ids (id ∷ []) q (head_in q id [] (sym same))
        | inr apart ↦ Contains-append_left ids (id ∷ []) q ((e.exact q).1 ((still q apart).1 h))
      ],
    );
    once = once_back ids id e.once (λ k. stands id k refl);
    short = λ q k. elim (Contains-push_cases ids id q k) [
      | inl before ↦ as_short q before
      | inr same ↦ ap (hops_at c) (sym same) ∙ ap (λ (r : Path). hops_of r.list) of_new ∙ one
    ];
  }
    where
      here : IsThrough c v id
      here = (
        ap (λ (r : Path). is_some r.left) of_new
            ∙ edge,
        subst (λ (r : Path). Contains r.list v) (sym of_new) passes,
      )
