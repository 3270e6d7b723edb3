-- Of each pair that is not dirty the least kept path, if there is one, is historical.
use Rattle.std.specs.Prelude.{◌≡◌, ◌≢◌, ℕ, ◌<◌, [], ◌∷◌, Some, is_some, unwrap_or, refl}
use Rattle.std.specs.FinSet as set
use Rattle.std.proofs.Common.{sym, ◌∙◌, ap, subst, arith, inl, inr}
use Rattle.std.proofs.lemmas.Bool.{cases_eq, false≢true, true≢false}
use Rattle.apsp_model.specs.Order.{path_cmp}
use Rattle.apsp_model.specs.Walk.{first, last}
use Rattle.path_arena.specs.Arena.{Path, path_at, vertex_of, IsLive, no_path, path_of, list_of, single, HasAnEdge, id_cmp, with_path, without_path}
use Rattle.path_arena.proofs.Keys.{get_put_other, get_gone, get_gone_other}
use Rattle.path_arena.proofs.Paths.{path_of_at, live_from_edge}
use Rattle.pair_heaps.specs.Heaps.{HasEnds}
use Rattle.pair_heaps.proofs.Places.{ends_inside}
use Rattle.extension_lists.specs.Known.{Known}
use Rattle.path_book.specs.Book.{Book, IsMarked, with_kept, with_mark, IsOpeningBook, IsBook, IsLeastKeptId, KeepsNone, HasNoPendingLeast}
use Rattle.path_book.specs.Dirty.{Dirty, is_dirty, with_all, IsNoted}
use Rattle.path_book.specs.Layout.{IsClean}
use Rattle.path_book.proofs.Sets.{marked_put, marked_put_other, marked_gone_other}
use Rattle.path_book.proofs.Formed.{IsNew, same_pair, ends_alike, path_of_new}
use Rattle.path_book.proofs.Readers.{least_single}

-- ---- the pairs

-- a vertex of the book stands in pairs
pub in_pairs : (b seen : Book) (d : Dirty) (x : ℕ) → IsClean b d → b ≡ seen → x < seen.arena.vertices → x < d.vertices
in_pairs b seen d x clean is inside =
    subst (λ n. x < n) clean.vertices (subst (λ (c : Book). x < c.arena.vertices) (sym is) inside)

-- ---- a change of one pair

-- the books agree on all ids but one, which has the ends x and y where it is kept
pub record AgreeBut (old new : Book) (id x y : ℕ) : Type 0 where
  pub vertices : new.arena.vertices ≡ old.arena.vertices
  pub paths : (q : ℕ) → q ≢ id → path_at new.arena q ≡ path_at old.arena q
  pub marks : (q : ℕ) → q ≢ id → IsMarked old q → IsMarked new q
  pub before : (u v : ℕ) → IsLive old.arena id → HasEnds old.arena id u v → (u ≡ x) × (v ≡ y)
  pub after : (u v : ℕ) → IsLive new.arena id → HasEnds new.arena id u v → (u ≡ x) × (v ≡ y)

module _ (old new : Book) (id x y : ℕ) (agree : AgreeBut old new id x y) (u v : ℕ) (other : u ≡ x → v ≡ y → ⊥) where
  apart_before : (q : ℕ) → IsLive old.arena q → HasEnds old.arena q u v → q ≢ id
  apart_before q live ends same =
      let there =
      agree.before u v (subst (IsLive old.arena) same live) (subst (λ j. HasEnds old.arena j u v) same ends) in
      other there.0 there.1

  apart_after : (q : ℕ) → IsLive new.arena q → HasEnds new.arena q u v → q ≢ id
  apart_after q live ends same =
      let there =
      agree.after u v (subst (IsLive new.arena) same live) (subst (λ j. HasEnds new.arena j u v) same ends) in
      other there.0 there.1

  path_same : (q : ℕ) → q ≢ id → path_of new.arena q ≡ path_of old.arena q
  path_same q apart = ap (λ o. unwrap_or o no_path) (agree.paths q apart)

  live_before : (q : ℕ) → q ≢ id → IsLive new.arena q → IsLive old.arena q
  live_before q apart live = sym (ap is_some (agree.paths q apart)) ∙ live

  ends_before : (q : ℕ) → q ≢ id → HasEnds new.arena q u v → HasEnds old.arena q u v
  ends_before q apart ends = (
    sym (ap (λ p. first p.list) (path_same q apart)) ∙ ends.0,
    sym (ap (λ p. last p.list) (path_same q apart))
        ∙ ends.1,
  )

  below_before : (q r : ℕ) → q ≢ id → r ≢ id → id_cmp new.arena q r ≡ id_cmp old.arena q r
  below_before q r q_apart r_apart =
      let p = path_same q q_apart in
      let s = path_same r r_apart in
      λ i. path_cmp (p i).weight (p i).list (s i).weight (s i).list

  pub none_still : KeepsNone old u v → KeepsNone new u v
  none_still none q live ends =
      let apart = apart_after q live ends in
      none q (live_before q apart live) (ends_before q apart ends)

  pub least_still : (q : ℕ) → IsLeastKeptId old u v q → IsLeastKeptId new u v q
  least_still q least =
      let apart : q ≢ id = apart_before q least.live least.ends in
      record {
        live = ap is_some (agree.paths q apart) ∙ least.live;
        ends = (
          ap (λ p. first p.list) (path_same q apart) ∙ least.ends.0,
          ap (λ p. last p.list) (path_same q apart)
              ∙ least.ends.1,
        );
        least = λ r live ends below. (
            let r_apart = apart_after r live ends in
            least.least r (live_before r r_apart live) (ends_before r r_apart ends)
            (sym (below_before r q r_apart apart) ∙ below)
            );
      }

  pub no_pending_still : HasNoPendingLeast old u v → HasNoPendingLeast new u v
  no_pending_still h = elim h [
    | inl none ↦ inl (none_still none)
    | inr least ↦ inr (
      least.0,
      least_still least.0 least.1,
      agree.marks least.0
          (apart_before least.0 least.1.live least.1.ends) least.2,
    )
  ]

-- the pair of the id is dirty
pub clean_but : (old new : Book) (d noted : Dirty) (id x y : ℕ) → IsClean old d → IsNoted d noted x y
    → AgreeBut old new id x y → IsClean new noted
clean_but old new d noted id x y clean note agree = record {
  vertices = agree.vertices ∙ clean.vertices ∙ sym note.vertices;
  clean = λ u v u_in v_in none. elim (same_pair x y u v) [
    | inl here ↦ absurd (true≢false (sym note.here ∙ (λ i. is_dirty noted (sym here.0 i) (sym here.1 i)) ∙ none))
    | inr other ↦ no_pending_still old new id x y agree u v other
        (clean.clean u v (subst (λ n. u < n) note.vertices u_in) (subst (λ n. v < n) note.vertices v_in)
        (note.still u v none))
  ];
}

pub clean_formed : (b : Book) (id : ℕ) (p : Path) (d noted : Dirty) (x y : ℕ) → IsBook b → IsNew b id p → IsClean b d
    → IsNoted d noted x y → first p.list ≡ Some x → last p.list ≡ Some y → IsClean (with_kept b id p) noted
clean_formed b id p d noted x y was new clean note begins finishes =
    clean_but b (with_kept b id p) d noted id x y clean note (record {
      vertices = refl;
      paths = λ q apart. get_put_other b.arena.paths id p q apart;
      marks = λ q apart mark. mark;
      before = λ u v live ends. absurd (false≢true (sym (ap is_some new.fresh) ∙ live));
      after = λ u v live ends.
          ends_alike (with_path b.arena id p) id x y u v (
            ap (λ q. first q.list) (path_of_new b id p was new) ∙ begins,
            ap (λ q. last q.list) (path_of_new b id p was new)
                ∙ finishes,
          ) ends;
    })

pub clean_forgotten : (b new : Book) (id : ℕ) (d noted : Dirty) (x y : ℕ) → new.arena ≡ without_path b.arena id
    → new.marked ≡ set.remove b.marked id → IsClean b d → IsNoted d noted x y → HasEnds b.arena id x y
    → IsClean new noted
clean_forgotten b new id d noted x y arena marked clean note ends = clean_but b new d noted id x y clean note (record {
  vertices = ap (λ a. a.vertices) arena;
  paths = λ q apart. ap (λ a. path_at a q) arena ∙ get_gone_other b.arena.paths id q apart;
  marks = λ q apart mark. ap (λ m. set.contains m q) marked ∙ marked_gone_other b.marked id q apart ∙ mark;
  before = λ u v live there. ends_alike b.arena id x y u v ends there;
  after = λ u v live there. absurd (false≢true
      (sym (ap is_some (ap (λ a. path_at a id) arena ∙ get_gone b.arena.paths id)) ∙ live));
})

-- the ends of a path with an edge are vertices of the book
pub ends_in_pairs : (b seen : Book) (d : Dirty) (id x y : ℕ) → IsBook b → IsClean b d → b ≡ seen
    → HasAnEdge seen.arena id → first (list_of b.arena id) ≡ Some x → last (list_of b.arena id) ≡ Some y
    → (x < d.vertices) × (y < d.vertices)
ends_in_pairs b seen d id x y was clean is edge begins finishes =
    let live : IsLive b.arena id =
    live_from_edge b.arena id was.arena (subst (λ (c : Book). HasAnEdge c.arena id) (sym is) edge) in
    let inside = ends_inside b.arena id x y was.arena live (begins, finishes) in
    (subst (λ n. x < n) clean.vertices inside.0, subst (λ n. y < n) clean.vertices inside.1)

-- ---- the other calls

-- where all pairs are dirty there is nothing to show
pub clean_all : (b new : Book) (d : Dirty) → IsClean b d → new.arena.vertices ≡ b.arena.vertices
    → IsClean new (with_all d)
clean_all b new d clean same =
    record { vertices = same ∙ clean.vertices; clean = λ u v u_in v_in none. absurd (true≢false none) }

-- the same pairs are dirty
pub clean_same : (b : Book) (d listed : Dirty) → IsClean b d → listed.vertices ≡ d.vertices
    → ((x y : ℕ) → x < d.vertices → y < d.vertices → is_dirty listed x y ≡ is_dirty d x y) → IsClean b listed
clean_same b d listed clean vertices same = record {
  vertices = clean.vertices ∙ sym vertices;
  clean = λ u v u_in v_in none. (
      let u_was : u < d.vertices = subst (λ n. u < n) vertices u_in in
      let v_was : v < d.vertices = subst (λ n. v < n) vertices v_in in
      clean.clean u v u_was v_was (sym (same u v u_was v_was) ∙ none)
      );
}

-- no pair has a least path that is not historical
pub clean_cleared : (b seen : Book) (d cleared : Dirty) → IsClean b d → b ≡ seen → cleared.vertices ≡ d.vertices
    → ((x y : ℕ) → x < seen.arena.vertices → y < seen.arena.vertices → HasNoPendingLeast seen x y) → IsClean b cleared
clean_cleared b seen d cleared clean is vertices all = record {
  vertices = clean.vertices ∙ sym vertices;
  clean = λ u v u_in v_in none. (
      let as_many : cleared.vertices ≡ seen.arena.vertices =
      vertices ∙ sym clean.vertices ∙ ap (λ (c : Book). c.arena.vertices) is in
      subst (λ (c : Book). HasNoPendingLeast c u v) (sym is)
      (all u v (subst (λ n. u < n) as_many u_in) (subst (λ n. v < n) as_many v_in))
      );
}

pub clean_promoted : (b : Book) (id : ℕ) (lists : Known) (d : Dirty) → IsClean b d → IsClean (with_mark b id lists) d
clean_promoted b id lists d clean = record {
  vertices = clean.vertices;
  clean = λ u v u_in v_in none. elim (clean.clean u v u_in v_in none) [
    | inl none ↦ inl none
    | inr least ↦ inr (
      least.0,
      record { live = least.1.live; ends = least.1.ends; least = least.1.least },
      elim (cases_eq least.0 id) [
        | inl same ↦ ap (set.contains (set.insert b.marked id)) same ∙ marked_put b.marked id
        | inr apart ↦ marked_put_other b.marked id least.0 apart ∙ least.2
      ],
    )
  ];
}

pub clean_opening : (b : Book) (n : ℕ) (d : Dirty) → IsBook b → IsOpeningBook b n → n ≡ d.vertices → IsClean b d
clean_opening b n d was opening as_many = record {
  vertices = opening.vertices ∙ as_many;
  clean = λ u v u_in v_in none. elim (cases_eq u v) [
    | inl same ↦
        let inside : u < b.arena.vertices = omega (arith, u_in, opening.vertices, as_many) in
        inr (
          vertex_of b.arena u,
          subst (λ w. IsLeastKeptId b u w (vertex_of b.arena u)) same
              (least_single b was u inside),
          was.singles u inside,
        )
    | inr apart ↦ inl (λ q live ends. (
        let single_is = opening.live q live in
        let inside : single_is.0 < b.arena.vertices =
        (let l : single_is.0 < n = single_is.1 in omega (arith, opening.vertices)) in
        let list : list_of b.arena q ≡ single_is.0 ∷ [] =
        ap (list_of b.arena) single_is.2
        ∙ ap (λ p. p.list) (path_of_at b.arena (vertex_of b.arena single_is.0) (single single_is.0)
        (was.arena.singles single_is.0 inside)) in
        let begins : Some single_is.0 ≡ Some u = sym (ap first list) ∙ ends.0 in
        let finishes : Some single_is.0 ≡ Some v = sym (ap last list) ∙ ends.1 in
        apart (let one : u ≡ single_is.0 = cc in let two : single_is.0 ≡ v = cc in one ∙ two)
        ))
  ];
}
