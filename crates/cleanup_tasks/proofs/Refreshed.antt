-- For refresh: what the book keeps once all listed paths are as the cleaning leaves them.
use Rattle.std.specs.Prelude.{◌≡◌, ℕ, ◌<◌, ◌⊎◌, ◌↔◌, List, [], length, Some, is_some, refl, Contains}
use Rattle.std.proofs.Common.{sym, ◌∙◌, ap, subst, arith, inl, inr}
use Rattle.apsp_model.specs.Part.{left_part, right_part}
use Rattle.apsp_model.specs.Local.{Avoids}
use Rattle.apsp_model.specs.Kept.{IsWithEdge}
use Rattle.apsp_model.specs.Paths.{KeptPath, IsKeptIn, IsHistoricalIn, HasBirthIn}
use Rattle.apsp_model.proofs.Members.{in_nil}
use Rattle.apsp_model.proofs.Simples.{contained_or_not}
use Rattle.path_arena.specs.Arena.{IsLive, path_of, list_of}
use Rattle.fixup_math.specs.Refresh.{StaysHistorical, StaysKept, RefreshedBirth, IsRefreshed}
use Rattle.path_book.specs.Book.{Book, IsBook, IsMarked, kept_path, kept_paths}
use Rattle.path_book.specs.Through.{IsThrough}
use Rattle.path_book.proofs.Kept.{KeptAt, kept_at, kept_live, historical_marked, birth_live, live_is_kept}
use Rattle.path_book.proofs.Readers.{single_or_edge, edge_of_long, long_of_edge}
use Rattle.path_book.proofs.Ends.{Ends, ends, edge_of_right}
use Rattle.cleanup_tasks.specs.Refreshing.{StaysMarked, HasStayingParts}
use Rattle.cleanup_tasks.proofs.Refreshing.{least_list, least_at}
use Rattle.cleanup_tasks.proofs.InPlace.{IsRefreshing}

done : {P : Type 0} (q : ℕ) → Contains [] q ⊎ P → P
done q h = elim h [ inl none ↦ absurd (in_nil q none) | inr p ↦ p ]

module _ (v birth : ℕ) (old new : Book) (i : IsRefreshing v birth old new []) where
  was : IsBook old
  was = i.was

  -- what stays historical, by id and by list
  stays_listed : (id : ℕ) → IsLive old.arena id
      → (IsMarked old id × StaysMarked v old id) ↔ StaysHistorical v (kept_paths old) (list_of old.arena id)
  stays_listed id live = (
    λ h. (
      (historical_marked old (list_of old.arena id)).1 (id, live, refl, h.0),
      elim h.1
          [ inl avoids ↦ inl avoids | inr least ↦ inr (least_list old i.was id least) ],
    ),
    λ h.
        let at = (historical_marked old (list_of old.arena id)).0 h.0 in
        let same : at.0 ≡ id = i.was.once at.0 id at.1 live at.2 in (
          subst (IsMarked old) same at.3,
          elim h.1 [
            | inl avoids ↦ inl avoids
            | inr least ↦
                inr (least_at old i.was (list_of old.arena id) least id live refl)
          ],
        ),
  )

  parts_listed : (id : ℕ) → IsLive old.arena id
      → HasStayingParts v old id ↔ (IsWithEdge (list_of old.arena id)
      → StaysHistorical v (kept_paths old) (left_part (list_of old.arena id))
      × StaysHistorical v (kept_paths old) (right_part (list_of old.arena id)))
  parts_listed id live = (
    λ h long.
        let p : Ends old.arena id = ends old.arena id i.was.arena (edge_of_long old.arena id i.was.arena live long) in (
          subst (StaysHistorical v (kept_paths old)) p.left_list
              ((stays_listed p.left p.left_live).0 (i.was.left_marked id p.left p.left_is, h.left p.left p.left_is)),
          subst (StaysHistorical v (kept_paths old)) p.right_list
              ((stays_listed p.right p.right_live).0
              (i.was.right_marked id p.right p.right_is, h.right p.right p.right_is)),
        ),
    λ h. record {
      left = λ k e.
          let p : Ends old.arena id = ends old.arena id i.was.arena (ap is_some e) in
          let same : p.left ≡ k = (let two : Some p.left ≡ Some k = sym p.left_is ∙ e in cc) in
          subst (StaysMarked v old) same ((stays_listed p.left p.left_live).1
          (subst (StaysHistorical v (kept_paths old)) (sym p.left_list) (h p.long).0)).1;
      right = λ k e.
          let p : Ends old.arena id = ends old.arena id i.was.arena (edge_of_right old.arena i.was.arena id k e) in
          let same : p.right ≡ k = (let two : Some p.right ≡ Some k = sym p.right_is ∙ e in cc) in
          subst (StaysMarked v old) same ((stays_listed p.right p.right_live).1
          (subst (StaysHistorical v (kept_paths old)) (sym p.right_list) (h p.long).1)).1;
    },
  )

  live_before : (id : ℕ) → IsLive new.arena id → IsLive old.arena id
  live_before id live = ((i.live id).0 live).0

  list_before : (id : ℕ) (p : List ℕ) → IsLive new.arena id → list_of new.arena id ≡ p → list_of old.arena id ≡ p
  list_before id p live is = sym (i.lists id live) ∙ is

  historical_is : (p : List ℕ) → IsHistoricalIn (kept_paths new) p ↔ StaysHistorical v (kept_paths old) p
  historical_is p = (
    λ h.
        let at = (historical_marked new p).0 h in
        let m = (i.marked at.0).0 at.3 in
        subst (StaysHistorical v (kept_paths old)) (list_before at.0 p at.1 at.2)
        ((stays_listed at.0 (i.was.marked_live at.0 m.0)).0 (m.0, done at.0 m.1)),
    λ h.
        let at = (historical_marked old p).0 h.0 in
        let s = (stays_listed at.0 at.1).1 (subst (StaysHistorical v (kept_paths old)) (sym at.2) h) in
        let mark : IsMarked new at.0 = (i.marked at.0).1 (s.0, inr s.1) in
        let live : IsLive new.arena at.0 = i.book.marked_live at.0 mark in
        (historical_marked new p).1 (at.0, live, i.lists at.0 live ∙ at.2, mark),
  )

  Parts : List ℕ → Type 0
  Parts q =
      IsWithEdge q → StaysHistorical v (kept_paths old) (left_part q)
      × StaysHistorical v (kept_paths old) (right_part q)

  kept_is : (p : List ℕ) → IsKeptIn (kept_paths new) p ↔ StaysKept v (kept_paths old) p
  kept_is p = (
    λ h.
        let at = (kept_live new p).0 h in
        let o = (i.live at.0).0 at.1 in
        let list : list_of old.arena at.0 ≡ p = list_before at.0 p at.1 at.2 in
        let F : List ℕ → Type 0 =
        λ q. IsWithEdge q → StaysHistorical v (kept_paths old) (left_part q)
        × StaysHistorical v (kept_paths old) (right_part q) in
        ((kept_live old p).1 (at.0, o.0, list), subst F list ((parts_listed at.0 o.0).0 (done at.0 o.1))),
    λ h.
        let at = (kept_live old p).0 h.0 in
        let F : List ℕ → Type 0 =
        λ q. IsWithEdge q → StaysHistorical v (kept_paths old) (left_part q)
        × StaysHistorical v (kept_paths old) (right_part q) in
        let live : IsLive new.arena at.0 =
        (i.live at.0).1 (at.1, inr ((parts_listed at.0 at.1).1 (subst F (sym at.2) h.1))) in
        (kept_live new p).1 (at.0, live, i.lists at.0 live ∙ at.2),
  )

  -- a path that has no edge through v avoids it or is a single vertex
  not_through : (id : ℕ) (p : List ℕ) → IsLive old.arena id → list_of old.arena id ≡ p → (IsThrough old v id → ⊥)
      → Avoids p v ⊎ (length p ≡ 1)
  not_through id p live list none = elim (contained_or_not p v) [
    | inr avoids ↦ inl avoids
    | inl contains ↦ elim (single_or_edge old.arena id i.was.arena live) [
      | inl one ↦ inr (sym (ap length list) ∙ ap length one.3)
      | inr edge ↦ absurd (none (edge, subst (λ xs. Contains xs v) (sym list) contains))
    ]
  ]

  births_are : (p : List ℕ) (n : ℕ) → HasBirthIn (kept_paths new) p n ↔
      (StaysKept v (kept_paths old) p × RefreshedBirth v birth (kept_paths old) p n)
  births_are p n = (
    λ h.
        let at = (birth_live new p n).0 h in
        let live : IsLive old.arena at.0 = live_before at.0 at.1 in
        let list : list_of old.arena at.0 ≡ p = list_before at.0 p at.1 at.2 in (
          (kept_is p).0 ((kept_live new p).1 (at.0, at.1, at.2)),
          elim (i.births at.0 at.1) [
            | inl stayed ↦ inl (
              not_through at.0 p live list (done at.0 stayed.0),
              (birth_live old p n).1
                  (at.0, live, list, sym stayed.1 ∙ at.3),
            )
            | inr born ↦ inr (
              subst IsWithEdge list (long_of_edge old.arena at.0 i.was.arena (born.0).0),
              subst
                  (λ xs. Contains xs v) list (born.0).1,
              sym at.3 ∙ born.2,
            )
          ],
        ),
    λ h.
        let at = (kept_live new p).0 ((kept_is p).1 h.0) in
        let live : IsLive old.arena at.0 = live_before at.0 at.1 in
        let list : list_of old.arena at.0 ≡ p = list_before at.0 p at.1 at.2 in
        (birth_live new p n).1 (
          at.0,
          at.1,
          at.2,
          elim (i.births at.0 at.1) [
            | inl stayed ↦ elim h.1 [
              | inl own ↦
                  let was_at = (birth_live old p n).0 own.1 in
                  let same : was_at.0 ≡ at.0 = i.was.once was_at.0 at.0 was_at.1 live (was_at.2 ∙ sym list) in
                  stayed.1 ∙ ap (λ j. (path_of old.arena j).birth) (sym same) ∙ was_at.3
              | inr step ↦ absurd (done at.0 stayed.0 (
                edge_of_long old.arena at.0 i.was.arena live (subst IsWithEdge (sym list) step.0),
                subst
                    (λ xs. Contains xs v) (sym list) step.1,
              ))
            ]
            | inr born ↦ elim h.1 [
              | inl own ↦ elim own.0 [
                | inl avoids ↦ absurd (avoids (subst (λ xs. Contains xs v) list (born.0).1))
                | inr one ↦ absurd (let long : 1 < length (list_of old.arena at.0) = long_of_edge old.arena at.0
                    i.was.arena (born.0).0 in omega (arith, long, ap length list, one))
              ]
              | inr step ↦ born.2 ∙ sym step.2
            ]
          ],
        ),
  )

  pub all_refreshed : IsRefreshed v birth (kept_paths old) (kept_paths new)
  all_refreshed = record {
    historical = historical_is;
    kept = kept_is;
    births = births_are;
    weights = λ k c.
        let at : KeptAt new k = kept_at new k c in
        let live : IsLive old.arena at.id = live_before at.id at.live in (
          kept_path old at.id (path_of old.arena at.id),
          live_is_kept old at.id live,
          list_before at.id k.list at.live
              at.list,
          sym (i.weights at.id at.live) ∙ ap (λ (j : KeptPath). j.weight) at.is,
        );
  }
