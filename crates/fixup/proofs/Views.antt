-- What a book and the held ids say of lists, once a path is kept or marked. Serves all calls that change a book.
use Rattle.std.specs.Prelude.{◌≡◌, ◌≢◌, ℕ, ◌⊎◌, ◌↔◌, ◌||◌, List, Some, None, is_some, unwrap_or}
use Rattle.std.specs.Ordering.{nat_cmp, eq_by_cmp}
use Rattle.std.specs.FinSet as set
use Rattle.std.proofs.Common.{sym, ◌∙◌, ap, inl, inr}
use Rattle.std.proofs.lemmas.Bool.{cases_eq, true≢false, or_cases, or_left, or_right}
use Rattle.std.proofs.lemmas.Cmp.{nat_cmp_total}
use Rattle.path_arena.specs.Arena.{Path, path_at, list_of, IsLive, no_path}
use Rattle.path_arena.proofs.Keys.{tied_key, apart_key, get_put, get_put_other}
use Rattle.path_arena.proofs.Paths.{live_apart}
use Rattle.path_book.specs.Book.{Book, IsMarked, IsBook, with_kept, with_mark}
use Rattle.weight_classes.specs.Classes.{Classes, Rank, IsHeldWithRank}
use Rattle.fixup.specs.Views.{HeldIn, Kept, Marked}

-- ---- a path that is kept anew

module _ (b : Book) (id : ℕ) (q : Path) (fresh : path_at b.arena id ≡ None) where
  pub path_new : path_at (with_kept b id q).arena id ≡ Some q
  path_new = get_put b.arena.paths id q

  pub path_other : (k : ℕ) → k ≢ id → path_at (with_kept b id q).arena k ≡ path_at b.arena k
  path_other k apart = get_put_other b.arena.paths id q k apart

  pub path_still : (k : ℕ) → IsLive b.arena k → path_at (with_kept b id q).arena k ≡ path_at b.arena k
  path_still k live = path_other k (live_apart b.arena id k fresh live)

  pub list_still : (k : ℕ) → IsLive b.arena k → list_of (with_kept b id q).arena k ≡ list_of b.arena k
  list_still k live = ap (λ o. (unwrap_or o no_path).list) (path_still k live)

  pub live_still : (k : ℕ) → IsLive b.arena k → IsLive (with_kept b id q).arena k
  live_still k live = ap is_some (path_still k live) ∙ live

  list_new : list_of (with_kept b id q).arena id ≡ q.list
  list_new = ap (λ o. (unwrap_or o no_path).list) path_new

  pub kept_with : (p : List ℕ) → Kept (with_kept b id q) p ↔ (Kept b p ⊎ (p ≡ q.list))
  kept_with p = (
    λ h. elim (cases_eq h.0 id) [
      | inl new ↦ inr (sym h.2 ∙ ap (list_of (with_kept b id q).arena) new ∙ list_new)
      | inr old ↦ let live : IsLive b.arena h.0 =
          ap is_some (sym (path_other h.0 old)) ∙ h.1 in inl (h.0, live, sym (list_still h.0 live) ∙ h.2)
    ],
    λ h. elim h [
      | inl old ↦ (old.0, live_still old.0 old.1, list_still old.0 old.1 ∙ old.2)
      | inr new ↦ (id, ap is_some path_new, list_new ∙ sym new)
    ],
  )

  pub marked_with : IsBook b → (p : List ℕ) → Marked (with_kept b id q) p ↔ Marked b p
  marked_with lawful p = (
    λ h. let live : IsLive b.arena h.0 = lawful.marked_live h.0 h.1 in (h.0, h.1, sym (list_still h.0 live) ∙ h.2),
    λ h. let live : IsLive b.arena h.0 = lawful.marked_live h.0 h.1 in (h.0, h.1, list_still h.0 live ∙ h.2),
  )

  pub held_with : (c : Classes) → ((r : Rank) (k : ℕ) → IsHeldWithRank c r k → IsLive b.arena k) → (p : List ℕ)
      → HeldIn (with_kept b id q) c p ↔ HeldIn b c p
  held_with c live p = (
    λ h. (h.0, h.1, h.2, sym (list_still h.1 (live h.0 h.1 h.2)) ∙ h.3),
    λ h. (h.0, h.1, h.2, list_still h.1 (live h.0 h.1 h.2) ∙ h.3),
  )

-- ---- a path that is marked

module _ (b : Book) (id : ℕ) where
  contains_is : (k : ℕ) → set.contains (with_mark b id b.lists).marked k ≡
      (eq_by_cmp nat_cmp k id || set.contains b.marked k)
  contains_is k = set.contains-insert nat_cmp_total b.marked id k

  pub mark_new : IsMarked (with_mark b id b.lists) id
  mark_new = contains_is id ∙ or_left (eq_by_cmp nat_cmp id id) (set.contains b.marked id) (tied_key id)

  pub mark_still : (k : ℕ) → IsMarked b k → IsMarked (with_mark b id b.lists) k
  mark_still k h = contains_is k ∙ or_right (eq_by_cmp nat_cmp k id) (set.contains b.marked k) h

  pub mark_cases : (k : ℕ) → IsMarked (with_mark b id b.lists) k → IsMarked b k ⊎ (k ≡ id)
  mark_cases k h = elim (cases_eq k id) [
    | inl same ↦ inr same
    | inr apart ↦ elim (or_cases (eq_by_cmp nat_cmp k id) (set.contains b.marked k) (sym (contains_is k) ∙ h)) [
      | inl tied ↦ absurd (true≢false (sym tied ∙ apart_key id k apart))
      | inr old ↦ inl old
    ]
  ]

  pub marked_then : (p : List ℕ) → Marked (with_mark b id b.lists) p ↔ (Marked b p ⊎ (p ≡ list_of b.arena id))
  marked_then p = (
    λ h. elim (mark_cases h.0 h.1) [
      | inl old ↦ inl (h.0, old, h.2)
      | inr new ↦
          inr (sym h.2 ∙ ap (list_of b.arena) new)
    ],
    λ h. elim h [ inl old ↦ (old.0, mark_still old.0 old.1, old.2) | inr new ↦ (id, mark_new, sym new) ],
  )
