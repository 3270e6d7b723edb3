-- What the held ids are in a book that grows. Serves `hold_all` and `join`.
use Rattle.std.specs.Prelude.{◌≡◌, ℕ, ◌⊎◌, ◌↔◌, List, Option, is_some, unwrap_or, refl}
use Rattle.std.proofs.Common.{sym, ◌∙◌, ap, inl, inr}
use Rattle.path_arena.specs.Arena.{Arena, Path, path_at, list_of, IsLive, no_path}
use Rattle.path_book.specs.Book.{Book}
use Rattle.weight_classes.specs.Classes.{Classes, Rank, ClassesFit, IsPushed, rank_of}
use Rattle.weight_classes.proofs.Held.{pushed_held}
use Rattle.apsp_model.specs.Walk.{hops_of}
use Rattle.fixup.specs.Views.{HeldIn}

-- they fit every arena that gives the same of them
pub fits_there : (c : Classes) (a d : Arena) → d.vertices ≡ a.vertices
    → ((id : ℕ) → IsLive a id → path_at d id ≡ path_at a id) → ClassesFit c a → ClassesFit c d
fits_there c a d vertices still fits = record {
  vertices = vertices ∙ fits.vertices;
  live = λ r id h. ap is_some (still id (fits.live r id h)) ∙ fits.live r id h;
  ranks = λ r id h. ap (λ (o : Option Path). let s : Rank = record
      { weight = (unwrap_or o no_path).weight; hops = hops_of (unwrap_or o no_path).list } in s)
      (still id (fits.live r id h)) ∙ fits.ranks r id h;
}

pub held_pushed : (b : Book) (c d : Classes) (id : ℕ) → IsPushed c d b.arena id → (p : List ℕ)
    → HeldIn b d p ↔ (HeldIn b c p ⊎ (p ≡ list_of b.arena id))
held_pushed b c d id s p = (
  λ h. elim ((pushed_held c d b.arena id s h.0 h.1).0 h.2)
      [ inl old ↦ inl (h.0, h.1, old, h.3) | inr new ↦ inr (sym h.3 ∙ ap (list_of b.arena) new.1) ],
  λ h. elim h [
    | inl old ↦ (old.0, old.1, (pushed_held c d b.arena id s old.0 old.1).1 (inl old.2), old.3)
    | inr new ↦ (
      rank_of b.arena id,
      id,
      (pushed_held c d b.arena id s (rank_of b.arena id) id).1 (inr (refl, refl)),
      sym new,
    )
  ],
)
