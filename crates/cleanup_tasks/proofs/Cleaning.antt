-- For forget_all: what is left where the paths through a vertex are forgotten.
use Rattle.std.specs.Prelude.{◌≡◌, ℕ, ◌<◌, ◌⊎◌, List, [], ◌∷◌, length, refl, Contains}
use Rattle.std.proofs.Common.{sym, ◌∙◌, ap, subst, arith, inl, inr}
use Rattle.apsp_model.specs.Local.{Avoids}
use Rattle.apsp_model.specs.Settled.{IsCleaned}
use Rattle.apsp_model.proofs.Members.{head_in}
use Rattle.apsp_model.proofs.Simples.{contained_or_not}
use Rattle.path_arena.specs.Arena.{list_of}
use Rattle.path_arena.proofs.Paths.{live_path, path_of_at, live_from_edge}
use Rattle.path_book.specs.Book.{Book, IsBook, kept_paths}
use Rattle.path_book.specs.Through.{AreForgotten, IsThrough, IsVictims}
use Rattle.path_book.proofs.Changes.{none_forgotten, kept_before, kept_still}
use Rattle.path_book.proofs.Kept.{KeptAt, kept_at, live_is_kept}
use Rattle.path_book.proofs.Readers.{single_or_edge, long_of_edge}

pub all_cleaned : (old new : Book) (v : ℕ) (ids : List ℕ) → IsBook old → IsVictims old v ids → AreForgotten old new ids
    → IsCleaned v (kept_paths old) (kept_paths new)
all_cleaned old new v ids was w f k = (
  λ kept. (
      let before = kept_before old new ids f k kept in
      let at : KeptAt old k = before.0 in
      (subst (Contains (kept_paths old)) at.is (live_is_kept old at.id at.live), what_is_left at before.1)
      ),
  λ h. (
      let at : KeptAt old k = kept_at old k h.0 in
      subst (Contains (kept_paths new)) at.is (kept_still old new ids f at.id at.live (λ c. (
      let through : IsThrough old v at.id = (w.exact at.id).0 c in
      elim h.1 [
        | inl avoids ↦ avoids (subst (λ xs. Contains xs v) at.list through.1)
        | inr one ↦ (let long : 1 < length (list_of old.arena at.id) = long_of_edge old.arena at.id was.arena through.0
            in omega (arith, ap length at.list))
      ]
      )))
      ),
)
  where
    what_is_left : (at : KeptAt old k) → (Contains ids at.id → ⊥) → Avoids k.list v ⊎ (length k.list ≡ 1)
    what_is_left at stays = elim (contained_or_not k.list v) [
      | inr gone ↦ inl gone
      | inl stands ↦ elim (single_or_edge old.arena at.id was.arena at.live) [
        | inl one ↦ inr (ap length (sym at.list ∙ one.3))
        | inr edge ↦ absurd (stays ((w.exact at.id).1 (edge, subst (λ xs. Contains xs v) (sym at.list) stands)))
      ]
    ]

-- where there are none nothing changes
pub none_cleaned : (b : Book) (v : ℕ) (ids : List ℕ) → IsBook b → IsVictims b v ids → ids ≡ []
    → IsCleaned v (kept_paths b) (kept_paths b)
none_cleaned b v ids was w none = all_cleaned b b v [] was (subst (IsVictims b v) none w) (none_forgotten b)

-- the vertex of a path is one of the book
pub vertex_inside : (b : Book) (v : ℕ) (ids : List ℕ) → IsBook b → IsVictims b v ids → 0 < length ids
    → v < b.arena.vertices
vertex_inside b v [] was w some = absurd (omega arith)
vertex_inside b v (id ∷ ids) was w some =
    let through : IsThrough b v id = (w.exact id).0 (head_in id id ids refl) in
    let p = live_path b.arena id (live_from_edge b.arena id was.arena through.0) in
    (was.arena.paths id p.0 p.1).inside v
    (subst (λ xs. Contains xs v) (ap (λ q. q.list) (path_of_at b.arena id p.0 p.1)) through.1)
