-- The winners of a class are promoted, and then its joins are formed one behind another. Serves `settle_class` and
-- `keep_joins`, by `Pairing`.
use Rattle.std.specs.Prelude.{◌≡◌, ◌≢◌, ℕ, ◌+◌, ◌*◌, ◌<◌, ◌≤◌, ◌⊎◌, ◌↔◌, false, List, [], ◌∷◌, ◌++◌, length, Some, None, is_some, unwrap_or, slice_index_or, refl, Contains}
use Rattle.std.specs.FinSet as set
use Rattle.std.proofs.Common.{sym, ◌∙◌, ap, subst, arith, inl, inr}
use Rattle.apsp_model.specs.Graph.{Graph}
use Rattle.apsp_model.specs.Least.{IsLeast}
use Rattle.apsp_model.specs.Walk.{IsWalk, IsWalkFrom, weight_of, first, last}
use Rattle.apsp_model.specs.Order.{path_cmp}
use Rattle.apsp_model.specs.Local.{IsLocal}
use Rattle.apsp_model.specs.Order.{IsUpto}
use Rattle.apsp_model.proofs.Below.{upto_or_above}
use Rattle.path_arena.specs.Arena.{Arena, Path, path_at, path_of, list_of, IsLive, no_path}
use Rattle.path_book.specs.Book.{Book, IsMarked, IsBook, IsLeastKeptId, with_kept}
use Rattle.pair_heaps.specs.Heaps.{HasEnds}
use Rattle.weight_classes.specs.Classes.{Classes, Rank, ClassesFit, IsHeldWithRank, IsPushed, IsWon}
use Rattle.fixup_math.specs.Joins.{IsJoin, Then}
use Rattle.apsp_model.proofs.Members.{in_nil}
use Rattle.fixup_math.specs.Ranks.{IsRank, ByWeightThenHops}
use Rattle.fixup_math.proofs.Ranks.{weight_then_hops_is_rank}
use Rattle.fixup_math.specs.Settling.{IsLeastKept as IsLeastKeptOf, FormingInvariant, SettlingInvariant, ClassInvariant}
use Rattle.fixup_math.proofs.Forming.{forming_starts, forms_pushed, forms_unpushed, contains_push}
use Rattle.fixup_math.proofs.Settling.{apart_by_simple}
use Rattle.fixup_math.proofs.Batches.{joins_are_above, joins_are_not_marked, queued_all, class_closes}
use Rattle.fixup.specs.Joining.{IsQueuedIfLeast}
use Rattle.fixup.proofs.Views.{kept_with, held_with, path_new, path_other, path_still, list_still}
use Rattle.fixup.proofs.Growth.{grown_with, id_weight}
use Rattle.fixup.proofs.Held.{held_pushed}
use Rattle.fixup.specs.Stage.{Stage}
use Rattle.fixup.specs.Views.{HeldIn, Kept, Marked, WonIn}
use Rattle.fixup.specs.Owing.{IsPromoted}
use Rattle.fixup.specs.Growth.{ClassIsTaken, ClassIsSettled, IsGrown, JoinsAreFormed, ListedIn}

-- the stage of a class
abbrev pub stage_of : Graph → Book → List ℕ → List ℕ → Book → Classes → Book → Stage
stage_of g b0 cl winners before held promoted =
    record { graph = g; opening = b0; class = cl; winners = winners; before = before; held = held; promoted = promoted }

-- the least kept path of a book is the least one of the graph's order
pub least_kept : (g : Graph) (birth : ℕ) (b0 b : Book) → IsGrown g birth b0 b → ((p : List ℕ) → Kept b p → IsWalk g p)
    → (x y id : ℕ) → IsLeastKeptId b x y id → IsLeastKeptOf g (Kept b) x y (list_of b.arena id)
least_kept g birth b0 b s walks x y id l = record {
  kept = (id, l.live, refl);
  walk = record { walk = walks (list_of b.arena id) (id, l.live, refl); from = l.ends.0; to = l.ends.1 };
  first = λ p k walk. elim (upto_or_above g (list_of b.arena id) p) [
    | inl upto ↦ upto
    | inr above ↦
        let list : list_of b.arena k.0 ≡ p = k.2 in
        let ends : HasEnds b.arena k.0 x y = (ap first list ∙ walk.from, ap last list ∙ walk.to) in
        let v : (path_of b.arena k.0).weight ≡ weight_of g p =
        id_weight g birth b0 b s k.0 k.1 ∙ ap (weight_of g) list in
        let w : (path_of b.arena id).weight ≡ weight_of g (list_of b.arena id) = id_weight g birth b0 b s id l.live in
        absurd (l.least k.0 k.1 ends ((λ i. path_cmp (v i) (list i) (w i) (list_of b.arena id)) ∙ above))
  ];
}

-- ---- predicates that say the same

forming_same : (g : Graph) (H K Rest : List ℕ → Type 0) (Won : ℕ → ℕ → Type 0) (done : List (List ℕ))
    (K1 Q1 Q2 : List ℕ → Type 0) → ((p : List ℕ) → Q2 p ↔ Q1 p) → FormingInvariant g H K Rest Won done K1 Q1
    → FormingInvariant g H K Rest Won done K1 Q2
forming_same g H K Rest Won done K1 Q1 Q2 same f = record {
  kept = f.kept;
  rest_held = λ p h. (same p).1 (f.rest_held p h);
  held = λ p h. f.held p ((same p).0 h);
  queued = record {
    covered = λ x y p k walk long. elim (f.queued.covered x y p k walk long) [
      | inl won ↦ inl won
      | inr q ↦ inr (q.0, elim q.1 [ inl held ↦ inl ((same q.0).1 held) | inr old ↦ inr old ], q.2, q.3)
    ];
    first = λ x y q p held. f.queued.first x y q p ((same q).0 held);
    fresh = λ x y q held. f.queued.fresh x y q ((same q).0 held);
  };
}

settling_as : (g : Graph) (H0 H H1 K Q : List ℕ → Type 0) (Won Won1 : ℕ → ℕ → Type 0) → ((p : List ℕ) → H1 p ↔ H p)
    → ((x y : ℕ) → Won1 x y ↔ Won x y) → SettlingInvariant g H0 H K Q Won → SettlingInvariant g H0 H1 K Q Won1
settling_as g H0 H H1 K Q Won Won1 marks wons s = record {
  closed = λ p q h part. (marks q).1 (s.closed p q ((marks p).0 h) part);
  singles = λ p h. (marks p).1 (s.singles p h);
  old = λ p h. (marks p).1 (s.old p h);
  grown = λ p h. s.grown p ((marks p).0 h);
  kept = λ p. (λ k. on p ((s.kept p).0 k), λ l. (s.kept p).1 (back p l));
  marked_kept = λ p h. s.marked_kept p ((marks p).0 h);
  held_kept = s.held_kept;
  queued = record {
    covered = λ x y p k walk long. elim (s.queued.covered x y p k walk long) [
      | inl won ↦ inl ((wons x y).1 won)
      | inr q ↦ inr (q.0, elim q.1 [ inl held ↦ inl held | inr old ↦ inr ((marks q.0).1 old) ], q.2, q.3)
    ];
    first = λ x y q p held old walk_q walk_p. elim (s.queued.first x y q p held ((marks p).0 old) walk_q walk_p)
        [ inl won ↦ inl ((wons x y).1 won) | inr upto ↦ inr upto ];
    fresh = λ x y q held old walk. (wons x y).1 (s.queued.fresh x y q held ((marks q).0 old) walk);
  };
  won = λ x y h. let v : (v : List ℕ) × H v × IsLeast g x y v =
      s.won x y ((wons x y).0 h) in (v.0, (marks v.0).1 v.1, v.2);
}
  where
    on : (p : List ℕ) → IsLocal g H p → IsLocal g H1 p
    on p l = record { simple = l.simple; walk = l.walk; parts = λ q part. (marks q).1 (l.parts q part) }

    back : (p : List ℕ) → IsLocal g H1 p → IsLocal g H p
    back p l = record { simple = l.simple; walk = l.walk; parts = λ q part. (marks q).0 (l.parts q part) }

-- a book with the same paths has grown as much
grown_as : (g : Graph) (birth : ℕ) (b0 b d : Book) → IsGrown g birth b0 b → IsBook d → d.arena ≡ b.arena
    → IsGrown g birth b0 d
grown_as g birth b0 b d s lawful same = record {
  lawful = lawful;
  vertices = ap (λ (a : Arena). a.vertices) same ∙ s.vertices;
  weights = λ id p e. s.weights id p (sym (at id) ∙ e);
  old = λ id p e. at id ∙ s.old id p e;
  new = λ id p e. s.new id p (sym (at id) ∙ e);
}
  where
    at : (id : ℕ) → path_at d.arena id ≡ path_at b.arena id
    at id = ap (λ (a : Arena). path_at a id) same

-- ---- the winners of a class

module _ (g : Graph) (birth : ℕ) (b0 : Book) (cl : List ℕ) (winners : List ℕ) (before : Book) (held : Classes)
    (promoted : Book) where
  -- the paths of the winners
  abbrev pub Winner : List ℕ → Type 0
  Winner = ListedIn before winners

  -- what is historical once they are promoted
  abbrev pub Promoted : List ℕ → Type 0
  Promoted = Then (Marked before) Winner

  rank : IsRank g (ByWeightThenHops g)
  rank = weight_then_hops_is_rank g

  pub promoting_starts : ClassIsTaken g birth b0 cl winners before held → IsPromoted before winners promoted
      → JoinsAreFormed (stage_of g b0 cl winners before held promoted) birth [] promoted held
  promoting_starts start promotion = record {
    start = start;
    promotion = promotion;
    grown = grown_as g birth b0 before promoted start.grown promotion.lawful promotion.arena;
    fits = subst (ClassesFit held) (sym promotion.arena) start.fits;
    marks = refl;
    still = λ id live. ap (λ (a : Arena). path_at a id) promotion.arena;
    won = refl;
    vertices = refl;
    joins = λ p c. absurd (in_nil p c);
    forming =
        subst (λ (a : Arena). FormingInvariant g Promoted (Kept before) (HeldIn before held) (WonIn held) []
        (λ p. (id : ℕ) × IsLive a id × (list_of a id ≡ p))
        (λ p. (r : Rank) × (id : ℕ) × IsHeldWithRank held r id × (list_of a id ≡ p))) (sym promotion.arena)
        (forming_starts g Promoted (Kept before) (HeldIn before held) (WonIn held)
        (queued_all g (ByWeightThenHops g) rank (Marked b0) (Marked before) (Kept before) (HeldIn before held) Winner
        (WonIn held) cl start.inside Promoted (λ p. (λ h. h, λ h. h))));
  }

  module _ (done : List (List ℕ)) (b : Book) (c : Classes)
      (s : JoinsAreFormed (stage_of g b0 cl winners before held promoted) birth done b c) where
    inside : ClassInvariant g (ByWeightThenHops g) (Marked b0) (Marked before) (Kept before) (HeldIn before held) Winner
        (WonIn held) cl
    inside = s.start.inside

    pub list_as : (id : ℕ) → IsLive before.arena id → list_of b.arena id ≡ list_of before.arena id
    list_as id live = ap (λ o. (unwrap_or o no_path).list) (s.still id live)

    pub live_as : (id : ℕ) → IsLive before.arena id → IsLive b.arena id
    live_as id live = ap is_some (s.still id live) ∙ live

    -- what is marked by now was marked before, or is a winner
    pub marked_cases : (id : ℕ) → IsMarked b id → IsMarked before id ⊎ Contains winners id
    marked_cases id m = (s.promotion.marks id).0 (ap (λ n. set.contains n id) (sym s.marks) ∙ m)

    pub marked_then : (id : ℕ) → IsMarked before id ⊎ Contains winners id → IsMarked b id
    marked_then id h = ap (λ n. set.contains n id) s.marks ∙ (s.promotion.marks id).1 h

    pub live_before : (id : ℕ) → IsMarked before id ⊎ Contains winners id → IsLive before.arena id
    live_before id h = elim h [ inl old ↦ s.start.grown.lawful.marked_live id old | inr new ↦ s.start.live id new ]

    pub marks_are : (p : List ℕ) → Marked b p ↔ Promoted p
    marks_are p = (
      λ h. let m : IsMarked before h.0 ⊎ Contains winners h.0 = marked_cases h.0 h.1 in
          let e : list_of before.arena h.0 ≡ p = sym (list_as h.0 (live_before h.0 m)) ∙ h.2 in
          elim m [ inl old ↦ inl (h.0, old, e) | inr new ↦ inr (h.0, new, e) ],
      λ h. elim h [
        | inl old ↦ (old.0, marked_then old.0 (inl old.1), list_as old.0 (live_before old.0 (inl old.1)) ∙ old.2)
        | inr new ↦ (new.0, marked_then new.0 (inr new.1), list_as new.0 (live_before new.0 (inr new.1)) ∙ new.2)
      ],
    )

    pub marked_kept_now : (p : List ℕ) → Promoted p → Kept b p
    marked_kept_now p h =
        (s.forming.kept p).1 (inl (elim h [ inl old ↦ inside.marked_kept p old | inr new ↦ inside.todo_kept p new ]))

    pub walks : (p : List ℕ) → Kept b p → IsWalk g p
    walks p k =
        elim ((s.forming.kept p).0 k) [ inl old ↦ ((inside.kept p).0 old).walk | inr new ↦ (s.joins p new).walk ]

    -- one more of their joins is kept
    module _ (id : ℕ) (q : Path) (fresh : path_at b.arena id ≡ None) (weight : q.weight ≡ weight_of g q.list)
        (born : q.birth ≡ birth) (join : IsJoin g (Marked before) Winner q.list) (x y : ℕ) where
      -- it was not kept before
      pub joined_form : (later : Classes) → HasEnds (with_kept b id q).arena id x y
          → IsQueuedIfLeast (with_kept b id q) x y id c later → IsBook (with_kept b id q)
          → ClassesFit later (with_kept b id q).arena
          → JoinsAreFormed (stage_of g b0 cl winners before held promoted) birth (done ++ q.list ∷ [])
          (with_kept b id q) later
      joined_form later ends queue lawful fits_later = record {
        start = s.start;
        promotion = s.promotion;
        grown = grown_now;
        fits = fits_later;
        marks = s.marks;
        still = λ k live. path_still b id q fresh k (live_as k live) ∙ s.still k live;
        won = elim queue [ inl pushed ↦ pushed.1.won ∙ s.won | inr other ↦ ap (λ d. d.won) other.3 ∙ s.won ];
        vertices =
            elim queue [
              | inl pushed ↦ pushed.1.vertices ∙ s.vertices
              | inr other ↦
                  ap (λ d. d.vertices) other.3 ∙ s.vertices
            ];
        joins = λ p h. elim ((contains_push done q.list p).0 h)
            [ inl old ↦ s.joins p old | inr new ↦ subst (IsJoin g (Marked before) Winner) (sym new) join ];
        forming =
            elim queue [
              | inl pushed ↦ with_push pushed.0 pushed.1
              | inr other ↦
                  without_push other.0 other.1 other.2 other.3
            ];
      }
        where
          grown_now : IsGrown g birth b0 (with_kept b id q)
          grown_now = grown_with g birth b0 b s.grown id q fresh weight born lawful

          list_now : list_of (with_kept b id q).arena id ≡ q.list
          list_now = ap (λ o. (unwrap_or o no_path).list) (path_new b id q fresh)

          walk_now : IsWalkFrom g x y q.list
          walk_now =
              record { walk = join.walk; from = ap first (sym list_now) ∙ ends.0; to = ap last (sym list_now) ∙ ends.1 }

          held_same : (p : List ℕ) → HeldIn (with_kept b id q) c p ↔ HeldIn b c p
          held_same = held_with b id q fresh c (λ r k h. s.fits.live r k h)

          walks_now : (p : List ℕ) → Kept (with_kept b id q) p → IsWalk g p
          walks_now p k =
              elim ((kept_with b id q fresh p).0 k)
              [ inl old ↦ walks p old | inr new ↦ subst (IsWalk g) (sym new) join.walk ]

          with_push : IsLeastKeptId (with_kept b id q) x y id → IsPushed c later (with_kept b id q).arena id
              → FormingInvariant g Promoted (Kept before) (HeldIn before held) (WonIn held) (done ++ q.list ∷ [])
              (Kept (with_kept b id q)) (HeldIn (with_kept b id q) later)
          with_push least pushed =
              forms_pushed g Promoted (Kept before) (HeldIn before held) (WonIn held) done (Kept b) (HeldIn b c)
              s.forming x y q.list walk_now (Kept (with_kept b id q)) (kept_with b id q fresh)
              (HeldIn (with_kept b id q) later)
              (λ p. let e : HeldIn (with_kept b id q) later p ↔
              (HeldIn (with_kept b id q) c p ⊎ (p ≡ list_of (with_kept b id q).arena id)) = held_pushed
              (with_kept b id q) c later id pushed p in (
                λ h. elim (e.0 h) [ inl old ↦ inl ((held_same p).0 old) | inr new ↦ inr (new ∙ list_now) ],
                λ h. e.1 (elim h [ inl old ↦ inl ((held_same p).1 old) | inr new ↦ inr (new ∙ sym list_now) ]),
              ))
              (subst (IsLeastKeptOf g (Kept (with_kept b id q)) x y) list_now
              (least_kept g birth b0 (with_kept b id q) grown_now walks_now x y id least))
              (λ p h. (kept_with b id q fresh p).1 (inl (marked_kept_now p h)))
              (joins_are_not_marked g (ByWeightThenHops g) rank (Marked b0) (Marked before) (Kept before)
              (HeldIn before held) Winner (WonIn held) cl inside Promoted (λ p. (λ h. h, λ h. h)) q.list join)

          without_push : (k : ℕ) → k ≢ id → IsLeastKeptId (with_kept b id q) x y k → later ≡ c
              → FormingInvariant g Promoted (Kept before) (HeldIn before held) (WonIn held) (done ++ q.list ∷ [])
              (Kept (with_kept b id q)) (HeldIn (with_kept b id q) later)
          without_push k apart least same =
              let l : IsLeastKeptOf g (Kept (with_kept b id q)) x y (list_of (with_kept b id q).arena k) =
              least_kept g birth b0 (with_kept b id q) grown_now walks_now x y k least in
              let live : IsLive b.arena k = ap is_some (sym (path_other b id q fresh k apart)) ∙ least.live in
              let list : list_of (with_kept b id q).arena k ≡ list_of b.arena k = list_still b id q fresh k live in
              let upto : IsUpto g (list_of (with_kept b id q).arena k) q.list =
              l.first q.list ((kept_with b id q fresh q.list).1 (inr refl)) walk_now in
              forming_same g Promoted (Kept before) (HeldIn before held) (WonIn held) (done ++ q.list ∷ [])
              (Kept (with_kept b id q)) (HeldIn b c) (HeldIn (with_kept b id q) later)
              (λ p. subst (λ (d : Classes). HeldIn (with_kept b id q) d p ↔ HeldIn b c p) (sym same) (held_same p))
              (forms_unpushed g Promoted (Kept before) (HeldIn before held) (WonIn held) done (Kept b) (HeldIn b c)
              s.forming x y q.list walk_now (Kept (with_kept b id q)) (kept_with b id q fresh)
              (inr (
                list_of (with_kept b id q).arena k,
                (k, live, sym list),
                long_by_ends
                    (list_of (with_kept b id q).arena k) l.walk.from l.walk.to,
                l.walk,
                upto,
              )))
            where
              long_by_ends : (p : List ℕ) → first p ≡ Some x → last p ≡ Some y → 1 < length p
              long_by_ends [] e f = cc
              long_by_ends (z ∷ []) e f =
                  absurd (apart_by_simple g x y q.list join.simple
                  (let l : 3 ≤ length q.list = join.long in omega arith) walk_now
                  (let a : z ≡ x = cc in let d : z ≡ y = cc in sym a ∙ d))
              long_by_ends (z ∷ u ∷ p) e f = omega arith

    -- once all of their joins are formed the class is done
    pub promoting_ends : ((p : List ℕ) → IsJoin g (Marked before) Winner p → Contains done p)
        → ClassIsSettled g birth b0 cl b c
    promoting_ends all = record {
      at = record {
        grown = s.grown;
        fits = s.fits;
        held_long =
            λ p h. elim (s.forming.held p h) [
              | inl old ↦ s.start.held_long p old
              | inr new ↦ let l : 3 ≤ length p = (s.joins p new).long in
                  omega arith
            ];
        settling = settling_as g (Marked b0) Promoted (Marked b) (Kept b) (HeldIn b c) (WonIn held) (WonIn c) marks_are
            (λ x y. (
              λ h. (
                subst (λ n. x < n) s.vertices h.0,
                subst (λ n. y < n) s.vertices h.1,
                won_same x y c held s.won
                    s.vertices h.2,
              ),
              λ h. (
                subst (λ n. x < n) (sym s.vertices) h.0,
                subst (λ n. y < n) (sym s.vertices) h.1,
                won_same x y held
                    c (sym s.won) (sym s.vertices) h.2,
              ),
            ))
            (class_closes g (ByWeightThenHops g) rank (Marked b0) (Marked before) (Kept before) (HeldIn before held)
            Winner (WonIn held) cl inside Promoted (λ p. (λ h. h, λ h. h)) done (λ p. (s.joins p, all p)) (Kept b)
            (HeldIn b c) s.forming);
      };
      above = λ p h. elim (s.forming.held p h) [
        | inl old ↦ s.start.above p old
        | inr new ↦ joins_are_above g (ByWeightThenHops g) rank (Marked b0) (Marked before) (Kept before)
            (HeldIn before held) Winner (WonIn held) cl inside p (s.joins p new)
      ];
    }
      where
        won_same : (x y : ℕ) (d e : Classes) → d.won ≡ e.won → d.vertices ≡ e.vertices → IsWon d x y → IsWon e x y
        won_same x y d e won vertices h = (λ i. slice_index_or (sym won i) (x * (sym vertices i) + y) false) ∙ h
