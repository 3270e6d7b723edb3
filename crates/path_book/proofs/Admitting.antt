-- A new path stands in the heap of its pair and in the lists of its parts.
use Rattle.std.specs.Prelude.{◌≡◌, ℕ, ◌<◌, false, Some, Result, Ok, Err, OnOk, length}
use Rattle.std.specs.Result.{is_err}
use Rattle.std.proofs.Common.{sym, ◌∙◌, ap, subst, arith}
use Rattle.apsp_model.proofs.Walks.{first_is, last_is}
use Rattle.path_arena.specs.Arena.{Arena, list_of, HasAnEdge, IsArena}
use Rattle.path_arena.proofs.Paths.{Parted, parted}
use Rattle.pair_heaps.specs.Heaps.{Heaps, IsInserted, HeapsFit, HasEnds}
use Rattle.extension_lists.specs.Known.{Known}
use Rattle.path_book.specs.Book.{entered}
use Rattle.path_book.specs.Admitted.{IsAdmitted, IsKnownPath}
use Rattle.path_book.specs.declared.admit.NewPath.{NewPath}

-- the ends of a live path with an edge
pub ends_of : (a : Arena) (id : ℕ) → IsArena a → HasAnEdge a id → (x : ℕ) × (y : ℕ) × HasEnds a id x y
ends_of a id h edge =
    let p : Parted a id = parted a id h edge in
    let long : 1 < length p.path.list = p.parts.with_edge in
    let same : length (list_of a id) ≡ length p.path.list = ap (λ q. length q.list) p.of in
    let some : 0 < length (list_of a id) = omega arith in
    let x = first_is (list_of a id) some in
    let y = last_is (list_of a id) some in
    (x.0, y.0, (x.1, y.1))

same_ends : (a : Arena) (id x y u v : ℕ) → HasEnds a id x y → HasEnds a id u v → (u ≡ x) × (v ≡ y)
same_ends a id x y u v e f = (
  let two : Some u ≡ Some x = sym f.0 ∙ e.0 in cc,
  let two : Some v ≡ Some y = sym f.1 ∙ e.1 in cc,
)

pub admitted : {F E : Type 0} (a : Arena) (old new : Heaps) (lists later : Known) (path : NewPath) → IsArena a
    → HasAnEdge a path.id → IsKnownPath a path → (e : Result F E) → is_err e ≡ false
    → OnOk e (later ≡ entered lists path.id path.left path.right) → IsInserted old new path.id path.room.x path.room.y
    → HeapsFit new a → IsAdmitted a old new lists later path.id
admitted a old new lists later path h edge known (Err e) fine done ok fits = cc
admitted a old new lists later path h edge known (Ok t) fine done ok fits = record {
  fits = fits;
  inserted = λ x y ends. (
      let two : (x ≡ path.room.x) × (y ≡ path.room.y) =
      same_ends a path.id path.room.x path.room.y x y known.ends ends in
      subst (λ k. IsInserted old new path.id k y) (sym two.0)
      (subst (λ k. IsInserted old new path.id path.room.x k) (sym two.1) ok)
      );
  entered_lists = λ k q is_left is_right. (
      let same_l : path.left ≡ k = (let two : Some path.left ≡ Some k = sym known.left ∙ is_left in cc) in
      let same_r : path.right ≡ q = (let two : Some path.right ≡ Some q = sym known.right ∙ is_right in cc) in
      done ∙ (λ i. entered lists path.id (same_l i) (same_r i))
      );
}
