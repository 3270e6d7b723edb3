-- How many kept paths pass a vertex: as many as are listed.
use Rattle.std.specs.Prelude.{◌≡◌, ℕ, List, [], ◌∷◌, map, length, refl, Contains}
use Rattle.std.proofs.Common.{sym, ap, subst, arith, inl, inr}
use Rattle.apsp_model.specs.Walk.{IsOnceEach}
use Rattle.apsp_model.specs.Kept.{IsWithEdge}
use Rattle.apsp_model.specs.Counts.{CountIs}
use Rattle.apsp_model.specs.Paths.{IsKeptIn}
use Rattle.apsp_model.proofs.Members.{in_cons, in_nil, head_in, tail_in}
use Rattle.path_arena.specs.Arena.{IsLive, list_of}
use Rattle.path_arena.proofs.Paths.{live_from_edge}
use Rattle.path_book.specs.Book.{Book, IsBook, kept_paths}
use Rattle.path_book.specs.Through.{IsThrough, IsVictims}
use Rattle.path_book.proofs.Kept.{kept_live}
use Rattle.path_book.proofs.Readers.{edge_of_long, long_of_edge}

module _ (f : ℕ → List ℕ) where
  from_listed : (ids : List ℕ) (p : List ℕ) → Contains (map f ids) p → (id : ℕ) × Contains ids id × (f id ≡ p)
  from_listed [] p c = absurd (in_nil p c)
  from_listed (x ∷ ids) p c = elim (in_cons p (f x) (map f ids) c) [
    | inl same ↦ (x, head_in x x ids refl, same)
    | inr more ↦ let rest = from_listed ids p more in (rest.0, tail_in rest.0 x ids rest.1, rest.2)
  ]

  to_listed : (ids : List ℕ) (id : ℕ) → Contains ids id → Contains (map f ids) (f id)
  to_listed [] id c = absurd (in_nil id c)
  to_listed (x ∷ ids) id c = elim (in_cons id x ids c) [
    | inl same ↦ head_in (f id) (f x) (map f ids) (ap f same)
    | inr more ↦ tail_in (f id) (f x) (map f ids) (to_listed ids id more)
  ]

  once_listed : (ids : List ℕ) → IsOnceEach ids → ((i j : ℕ) → Contains ids i → Contains ids j → f i ≡ f j → i ≡ j)
      → IsOnceEach (map f ids)
  once_listed [] once one = tt
  once_listed (x ∷ ids) once one = (
    λ c. (
        let there = from_listed ids (f x) c in
        once.0 (subst (Contains ids) (one there.0 x (tail_in there.0 x ids there.1) (head_in x x ids refl) there.2)
        there.1)
        ),
    once_listed ids once.1 (λ i j c d. one i j (tail_in i x ids c) (tail_in j x ids d)),
  )

  as_many : (ids : List ℕ) → length (map f ids) ≡ length ids
  as_many [] = refl
  as_many (x ∷ ids) = let rest : length (map f ids) ≡ length ids = as_many ids in omega arith

pub victims_count : (b : Book) → IsBook b → (v : ℕ) (ids : List ℕ) → IsVictims b v ids
    → CountIs (λ p. IsKeptIn (kept_paths b) p × IsWithEdge p × Contains p v) (length ids)
victims_count b was v ids w = record {
  lists = map (list_of b.arena) ids;
  once = once_listed (list_of b.arena) ids w.once (λ i j c d same. was.once i j (live i c) (live j d) same);
  exact = λ p. (
    λ c. (
        let there = from_listed (list_of b.arena) ids p c in
        let through : IsThrough b v there.0 = (w.exact there.0).0 there.1 in (
          (kept_live b p).1 (there.0, live there.0 there.1, there.2),
          subst IsWithEdge there.2 (long_of_edge b.arena there.0 was.arena through.0),
          subst (λ xs. Contains xs v) there.2 through.1,
        )
        ),
    λ h. (
        let at = (kept_live b p).0 h.0 in
        let edge = edge_of_long b.arena at.0 was.arena at.1 (subst IsWithEdge (sym at.2) h.1) in
        let stands : Contains ids at.0 = (w.exact at.0).1 (edge, subst (λ xs. Contains xs v) (sym at.2) h.2) in
        subst (Contains (map (list_of b.arena) ids)) at.2 (to_listed (list_of b.arena) ids at.0 stands)
        ),
  );
  length_is = as_many (list_of b.arena) ids;
}
  where
    live : (id : ℕ) → Contains ids id → IsLive b.arena id
    live id c = live_from_edge b.arena id was.arena ((w.exact id).0 c).0
