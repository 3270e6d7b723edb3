-- What a call that forms a join leaves. Serves `join`.
use Rattle.std.specs.Prelude.{◌≡◌, ◌≢◌, ℕ, ◌<◌, Bool, true, false, List, [], ◌∷◌, ◌++◌, Some, None, is_some, unwrap_or, option_to_list, refl, Contains}
use Rattle.std.proofs.Common.{sym, ◌∙◌, ap, subst, inl, inr}
use Rattle.apsp_model.specs.Walk.{first, last}
use Rattle.apsp_model.proofs.Lists.{first-append, last-push, first_in, last_in}
use Rattle.path_arena.specs.Arena.{Arena, path_at, list_of, IsLive, IsArena, no_path, joined_path}
use Rattle.path_arena.proofs.Paths.{live_path, path_of_at, live_apart}
use Rattle.path_book.specs.Book.{Book, with_kept, TellsLeastKept}
use Rattle.pair_heaps.specs.Heaps.{HasEnds}
use Rattle.weight_classes.specs.Classes.{Classes, Rank, ClassesFit, IsHeldWithRank, IsPushed}
use Rattle.fixup.specs.Joining.{IsJoinFormed, IsJoined, IsQueuedIfLeast}
use Rattle.fixup.proofs.Views.{path_new, path_still}
use Rattle.fixup.proofs.Held.{fits_there}

in_vertices : (a : Arena) (id v : ℕ) → IsArena a → IsLive a id → Contains (list_of a id) v → v < a.vertices
in_vertices a id v lawful live c =
    let p = live_path a id live in
    (lawful.paths id p.0 p.1).inside v (subst (λ (q : List ℕ). Contains q v)
    (ap (λ q. q.list) (path_of_at a id p.0 p.1)) c)

pub first_inside : (a : Arena) (id x : ℕ) → IsArena a → IsLive a id → first (list_of a id) ≡ Some x → x < a.vertices
first_inside a id x lawful live e = in_vertices a id x lawful live (first_in (list_of a id) x e)

pub last_inside : (a : Arena) (id y : ℕ) → IsArena a → IsLive a id → last (list_of a id) ≡ Some y → y < a.vertices
last_inside a id y lawful live e = in_vertices a id y lawful live (last_in (list_of a id) y e)

module _ (b : Book) (l r birth id : ℕ) (after : Book) (fresh : path_at b.arena id ≡ None)
    (kept : after ≡ with_kept b id (joined_path b.arena l r birth)) where
  pub vertices_now : after.arena.vertices ≡ b.arena.vertices
  vertices_now = ap (λ (a : Book). a.arena.vertices) kept

  pub fits_now : (c : Classes) → ClassesFit c b.arena → ClassesFit c after.arena
  fits_now c fits =
      subst (λ (a : Book). ClassesFit c a.arena) (sym kept)
      (fits_there c b.arena (with_kept b id (joined_path b.arena l r birth)).arena refl
      (path_still b id (joined_path b.arena l r birth) fresh) fits)

  pub not_held : (c : Classes) → ClassesFit c b.arena → (r : Rank) → IsHeldWithRank c r id → ⊥
  not_held c fits w h = live_apart b.arena id id fresh (fits.live w id h) refl

  module _ (x y : ℕ) (begins : first (list_of b.arena l) ≡ Some x) (ends : last (list_of b.arena r) ≡ Some y) where
    pub ends_now : HasEnds after.arena id x y
    ends_now = subst (λ (a : Book). HasEnds a.arena id x y) (sym kept) (
      ap first list ∙ first-append x (list_of b.arena l) (y ∷ []) begins,
      ap last list ∙ last-push (list_of b.arena l) y,
    )
      where
        list : list_of (with_kept b id (joined_path b.arena l r birth)).arena id ≡ list_of b.arena l ++ y ∷ []
        list = ap (λ o. (unwrap_or o no_path).list) (path_new b id (joined_path b.arena l r birth) fresh)
            ∙ ap (λ o. list_of b.arena l ++ option_to_list o) ends

    live_now : IsLive after.arena id
    live_now =
        subst (λ (a : Book). IsLive a.arena id) (sym kept)
        (ap is_some (path_new b id (joined_path b.arena l r birth) fresh))

    formed : (c later : Classes) → IsQueuedIfLeast after x y id c later → IsJoinFormed b c l r birth after later
    formed c later queue =
        record { id = id; from = x; to = y; fresh = fresh; kept = kept; ends = ends_now; queued = queue }

    pub joined_held : (c later : Classes) → (first (list_of b.arena l) ≢ last (list_of b.arena r)) → (told : Bool)
        → TellsLeastKept after x y id told → told ≡ true → IsPushed c later after.arena id
        → IsJoined b c l r birth after later
    joined_held c later apart told tells e pushed = inr (apart, formed c later (inl (tells.yes e, pushed)))

    pub joined_left : (c : Classes) → (first (list_of b.arena l) ≢ last (list_of b.arena r)) → (told : Bool)
        → TellsLeastKept after x y id told → told ≡ false → IsJoined b c l r birth after c
    joined_left c apart told tells e = let q = tells.no e in inr (apart, formed c c (inr (q.0, q.1, q.2, refl)))
