-- The kept paths of a book as a list, and as live ids.
use Rattle.std.specs.Prelude.{◌≡◌, ℕ, ◌<◌, ◌↔◌, T, List, [], ◌∷◌, map, Some, refl, Contains}
use Rattle.std.specs.Ordering.{nat_cmp}
use Rattle.std.specs.FinMap as fin
use Rattle.std.proofs.Common.{sym, ◌∙◌, ap, subst, arith}
use Rattle.apsp_model.specs.Paths.{KeptPath, IsKeptIn, IsHistoricalIn, HasBirthIn, IsOncePerList}
use Rattle.path_arena.specs.Arena.{Path, path_at, IsLive, path_of, list_of}
use Rattle.path_arena.proofs.Paths.{live_path, live_from, path_of_at}
use Rattle.path_book.specs.Book.{Book, IsMarked, kept_path, kept_paths, IsBook}
use Rattle.apsp_model.proofs.Members.{head_in, tail_in}
use Rattle.path_book.proofs.Tables.{in_entries, in_map, to_map, rising_head, rising_tail}

module _ (b : Book) where
  -- a kept path has an id
  pub in_kept : (k : KeptPath) → Contains (kept_paths b) k → (id : ℕ) × (p : Path) × (path_at b.arena id ≡ Some p)
      × (kept_path b id p ≡ k)
  in_kept k c =
      let e = in_map (λ (d : ℕ × Path). kept_path b d.0 d.1) (fin.entries b.arena.paths) k c in
      (e.0.0, e.0.1, (in_entries b.arena.paths e.0.0 e.0.1).0 e.1, e.2)

  pub to_kept : (id : ℕ) (p : Path) → path_at b.arena id ≡ Some p → Contains (kept_paths b) (kept_path b id p)
  to_kept id p e =
      to_map (λ (d : ℕ × Path). kept_path b d.0 d.1) (fin.entries b.arena.paths) (id, p)
      ((in_entries b.arena.paths id p).1 e)

  -- a live id is kept
  pub live_is_kept : (id : ℕ) → IsLive b.arena id → Contains (kept_paths b) (kept_path b id (path_of b.arena id))
  live_is_kept id live =
      let p = live_path b.arena id live in
      subst (λ q. Contains (kept_paths b) (kept_path b id q)) (sym (path_of_at b.arena id p.0 p.1)) (to_kept id p.0 p.1)

  -- the id of a kept path
  pub record KeptAt (k : KeptPath) : Type 0 where
    pub id : ℕ
    pub live : IsLive b.arena id
    pub is : kept_path b id (path_of b.arena id) ≡ k
    pub list : list_of b.arena id ≡ k.list

  pub kept_at : (k : KeptPath) → Contains (kept_paths b) k → KeptAt k
  kept_at k c =
      let e = in_kept k c in
      let of : path_of b.arena e.0 ≡ e.1 = path_of_at b.arena e.0 e.1 e.2 in
      let is : kept_path b e.0 (path_of b.arena e.0) ≡ k = ap (kept_path b e.0) of ∙ e.3 in
      record { id = e.0; live = live_from b.arena e.0 e.1 e.2; is = is; list = ap (λ q. q.list) is }

  pub kept_live : (p : List ℕ) → IsKeptIn (kept_paths b) p ↔ ((id : ℕ) × IsLive b.arena id × (list_of b.arena id ≡ p))
  kept_live p = (
    λ h. (let k = kept_at h.0 h.1 in (k.id, k.live, k.list ∙ h.2)),
    λ h. (kept_path b h.0 (path_of b.arena h.0), live_is_kept h.0 h.1, h.2),
  )

  pub historical_marked : (p : List ℕ) → IsHistoricalIn (kept_paths b) p ↔
      ((id : ℕ) × IsLive b.arena id × (list_of b.arena id ≡ p) × IsMarked b id)
  historical_marked p = (
    λ h. (let k = kept_at h.0 h.1 in (k.id, k.live, k.list ∙ h.2, ap (λ q. q.historical) k.is ∙ h.3)),
    λ h. (kept_path b h.0 (path_of b.arena h.0), live_is_kept h.0 h.1, h.2, h.3),
  )

  pub birth_live : (p : List ℕ) (n : ℕ) → HasBirthIn (kept_paths b) p n ↔
      ((id : ℕ) × IsLive b.arena id × (list_of b.arena id ≡ p) × ((path_of b.arena id).birth ≡ n))
  birth_live p n = (
    λ h. (let k = kept_at h.0 h.1 in (k.id, k.live, k.list ∙ h.2, ap (λ q. q.birth) k.is ∙ h.3)),
    λ h. (kept_path b h.0 (path_of b.arena h.0), live_is_kept h.0 h.1, h.2, h.3),
  )

  -- no list is kept twice
  pub kept_once : IsBook b → IsOncePerList (kept_paths b)
  kept_once h =
      go (fin.entries b.arena.paths) (fin.entries_sorted b.arena.paths)
      (λ d c. live_from b.arena d.0 d.1 ((in_entries b.arena.paths d.0 d.1).0 c))
      (λ d c. ap (λ q. q.list) (path_of_at b.arena d.0 d.1 ((in_entries b.arena.paths d.0 d.1).0 c)))
    where
      f : ℕ × Path → KeptPath
      f d = kept_path b d.0 d.1

      go : (es : List (ℕ × Path)) → T (fin.is_sorted nat_cmp es) → ((d : ℕ × Path) → Contains es d → IsLive b.arena d.0)
          → ((d : ℕ × Path) → Contains es d → list_of b.arena d.0 ≡ d.1.list)
          → IsOncePerList (map (λ (d : ℕ × Path). kept_path b d.0 d.1) es)
      go [] sorted live list = tt
      go (e ∷ es) sorted live list = (
        λ j c same. (
            let d = in_map (λ (d : ℕ × Path). kept_path b d.0 d.1) es j c in
            let above : e.0 < d.0.0 = rising_head e es sorted d.0 d.1 in
            let later : Contains (e ∷ es) d.0 = tail_in d.0 e es d.1 in
            let first : Contains (e ∷ es) e = head_in e e es refl in
            let lists : list_of b.arena d.0.0 ≡ list_of b.arena e.0 =
            list d.0 later ∙ ap (λ q. q.list) d.2 ∙ same ∙ sym (list e first) in
            let ids : d.0.0 ≡ e.0 = h.once d.0.0 e.0 (live d.0 later) (live e first) lists in
            omega arith
            ),
        go es (rising_tail e es sorted) (λ d c. live d (tail_in d e es c)) (λ d c. list d (tail_in d e es c)),
      )
