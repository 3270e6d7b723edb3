-- From class to class, and the whole of a settling. Serves `take_classes` and `settle_paths`.
use Rattle.std.specs.Prelude.{◌≡◌, ℕ, ◌+◌, ◌-◌, ◌*◌, ◌<◌, ◌≤◌, List, [], ◌∷◌, refl}
use Rattle.std.specs.Ordering.{nat_cmp, ordering_then}
use Rattle.std.specs.declared.cmp.Ordering.TheVariants.{Less}
use Rattle.std.proofs.Common.{sym, ◌∙◌, ap, subst, arith, length}
use Rattle.apsp_model.specs.Graph.{Graph, IsGraph}
use Rattle.apsp_model.specs.Walk.{IsOnceEach, hops_of, weight_of as weight_in}
use Rattle.apsp_model.specs.Settled.{IsReady, AreSingles}
use Rattle.apsp_model.specs.declared.TheConstants.{MOST_VERTICES, MOST_WEIGHT}
use Rattle.path_arena.specs.Arena.{Arena, IsArena, IsLive, list_of}
use Rattle.apsp_model.proofs.Orders.{nat_cmp_same}
use Rattle.path_arena.proofs.Paths.{live_path, path_of_at}
use Rattle.path_arena.proofs.Puts.{weight_most, length_most}
use Rattle.path_book.specs.Book.{Book, IsBook, IsMarked, kept_paths}
use Rattle.weight_classes.specs.Classes.{Classes, Rank, IsLower, ClassesFit, IsHeldWithRank, IsPopped, InOrder, first_of, last_of, rank_of}
use Rattle.fixup_math.proofs.Settling.{start_by_star, start_of_whole}
use Rattle.fixup.specs.Views.{Kept, Marked}
use Rattle.fixup.specs.Growth.{HeadsAreHeld, InvariantHolds, IsGrown, EdgesAreFormed, RowsAreFormed}
use Rattle.fixup.specs.Stage.{Start, Stage}
use Rattle.fixup.specs.Stages.{InvariantHoldsOfSomeStart, ClassIsTakenAt, ClassIsSettledAt, SomeClassIsTaken}
use Rattle.fixup.proofs.Classing.{class_path, class_taken, class_weight, class_hops, class_one, class_one_in}
use Rattle.fixup.proofs.Growth.{id_weight}
use Rattle.fixup.proofs.Heads.{at_start}
use Rattle.fixup.proofs.Lightest.{above_all, number, number_rises, number_most, lower_by, lightest, lightest_upto, lightest_from, left_over, left_over_is}
use Rattle.fixup.proofs.Starting.{cleaned, edges_done}
use Rattle.fixup.proofs.Rows.{marked_alone, rows_done}

-- ---- the winners of a class

same_is_not_less : (k l : ℕ) → ordering_then (nat_cmp k k) (nat_cmp l l) ≡ Less → ⊥
same_is_not_less k l e = let i = nat_cmp_same k in let j = nat_cmp_same l in cc

pub each_once : (a : Arena) (ids : List ℕ) → InOrder a ids → IsOnceEach ids
each_once a [] order = tt
each_once a (id ∷ ids) order =
    (λ more. same_is_not_less (first_of a id) (last_of a id) (order.0 id more), each_once a ids order.1)

-- ---- the next class

module _ (g : Graph) (birth : ℕ) (b0 b : Book) (c : Classes) (s : InvariantHolds g birth b0 b c) (later : Classes)
    (rank : Rank) (winners : List ℕ) (popped : IsPopped c later b.arena rank winners) (fits : ClassesFit later b.arena)
  where
    pub stage : Stage
    stage = record {
      graph = g;
      opening = b0;
      class = class_path g birth b0 b c s later rank winners popped fits;
      winners
          = winners;
      before = b;
      held = later;
      promoted = b;
    }

    pub stage_taken : ClassIsTakenAt stage birth winners b later
    unfolding stage
    stage_taken = class_taken g birth b0 b c s later rank winners popped fits

    pub stage_done : (after : Book) (final : Classes) → ClassIsSettledAt stage birth after final
        → InvariantHolds g birth b0 after final
    unfolding stage
    stage_done after final done = done.at

    less : (A L M w : ℕ) → L ≤ w → w < A → w + 1 ≤ M → A - M < A - L
    less A L M w l m n = omega (arith, l, m, n)

    beyond : (w A : ℕ) → w + 1 ≤ A → w < A
    beyond w A l = omega (arith, l)

    falls : (x y z u : ℕ) → x ≡ y → z ≡ u → y < u → x < z
    falls x y z u e f l = omega (arith, e, f, l)

    few : (d : Classes) (e : Book) → ClassesFit d e.arena → IsArena e.arena → (r : Rank) (id : ℕ)
        → IsHeldWithRank d r id
        → (r.hops < MOST_VERTICES) × (r.weight ≤ MOST_VERTICES * MOST_WEIGHT)
    few d e f lawful r id h =
        let live : IsLive e.arena id = f.live r id h in
        let is : rank_of e.arena id ≡ r = f.ranks r id h in
        let some : 1 ≤ MOST_VERTICES = omega arith in (
          few_hops (length (list_of e.arena id)) r.hops MOST_VERTICES (length_most e.arena id lawful live) some
              (sym (ap (λ (k : Rank). k.hops) is)),
          omega
              (arith, weight_most e.arena id lawful live, ap (λ (k : Rank). k.weight) is),
        )
      where
        few_hops : (l h m : ℕ) → l ≤ m → 1 ≤ m → h ≡ l - 1 → h < m
        few_hops l h m upto some e = omega (arith, upto, some, e)

    above : (after : Book) (final : Classes) → ClassIsSettledAt stage birth after final → (r : Rank) (id : ℕ)
        → IsHeldWithRank final r id → number rank + 1 ≤ number r
    unfolding stage
    above after final done r id h =
        let is : rank_of after.arena id ≡ r = done.at.fits.ranks r id h in
        let i = id_weight g birth b0 after done.at.grown id (done.at.fits.live r id h) in
        let cl : List ℕ = class_path g birth b0 b c s later rank winners popped fits in
        let lower : IsLower rank r =
        lower_by rank r (weight_in g (list_of after.arena id)) (hops_of (list_of after.arena id)) (weight_in g cl)
        (hops_of cl) (done.above (list_of after.arena id) (r, id, h, refl))
        (class_weight g birth b0 b c s later rank winners popped fits)
        (class_hops g birth b0 b c s later rank winners popped fits)
        (sym (ap (λ (k : Rank). k.weight) is) ∙ i) (sym (ap (λ (k : Rank). k.hops) is)) in
        number_rises rank r lower (few c b s.fits s.grown.lawful.arena rank
        (class_one g birth b0 b c s later rank winners popped fits)
        (class_one_in g birth b0 b c s later rank winners popped fits)).0

    -- what is held ranks higher after each class
    pub lighter : (after : Book) (final : Classes) → ClassIsSettledAt stage birth after final
        → left_over final.held < left_over c.held
    lighter after final done =
        let id : ℕ = class_one g birth b0 b c s later rank winners popped fits in
        let held : IsHeldWithRank c rank id = class_one_in g birth b0 b c s later rank winners popped fits in
        let f = few c b s.fits s.grown.lawful.arena rank id held in
        let most : number rank + 1 ≤ above_all = number_most rank f.1 f.0 in
        let now : lightest c.held ≤ number rank = lightest_upto c.held rank id held in
        let next : number rank + 1 ≤ lightest final.held =
        lightest_from final.held (number rank + 1) most (above after final done) in
        let now_is = left_over_is c.held in
        let next_is = left_over_is final.held in
        falls (left_over final.held) (above_all - lightest final.held) (left_over c.held) (above_all - lightest c.held)
        next_is now_is (less above_all (lightest c.held) (lightest final.held) (number rank) now
        (beyond (number rank) above_all most) next)

-- ---- the start

marked_lists : (g : Graph) (birth : ℕ) (b0 b : Book) → IsBook b0 → IsGrown g birth b0 b → (id : ℕ) → IsMarked b0 id
    → list_of b.arena id ≡ list_of b0.arena id
marked_lists g birth b0 b lawful grown id m =
    let q = live_path b0.arena id (lawful.marked_live id m) in
    let now = grown.old id q.0 q.1 in
    ap (λ r. r.list) (path_of_at b.arena id q.0 now ∙ sym (path_of_at b0.arena id q.0 q.1))

pub starts : (g : Graph) (v birth : ℕ) (b0 b : Book) (c : Classes) → IsGraph g → IsBook b0
    → b0.arena.vertices ≡ g.vertices → IsReady g v (kept_paths b0) → EdgesAreFormed g v birth b0 g.vertices g.vertices b
    → HeadsAreHeld b c → InvariantHolds g birth b0 b c
starts g v birth b0 b c graph lawful same ready formed_edges queued =
    at_start g birth b0 b c formed_edges.grown formed_edges.marks (marked_lists g birth b0 b lawful formed_edges.grown)
    (start_by_star g v (Marked b0) (Kept b0) (Kept b) (cleaned g v birth b0 lawful same ready)
    (edges_done g v birth b0 lawful same ready graph b formed_edges))
    queued

-- .. of a whole graph
pub whole_starts : (g : Graph) (birth : ℕ) (b0 b : Book) (c : Classes) → IsGraph g → IsBook b0
    → AreSingles g.vertices (kept_paths b0) → RowsAreFormed g birth b0 g.vertices 0 b → HeadsAreHeld b c
    → InvariantHolds g birth b0 b c
whole_starts g birth b0 b c graph lawful alone rows queued =
    at_start g birth b0 b c rows.grown rows.marks (marked_lists g birth b0 b lawful rows.grown)
    (start_of_whole g (Marked b0) (Kept b) (marked_alone g b0 lawful alone) (rows_done g birth b0 alone graph b rows))
    queued

pub none_held : (c : Classes) → c.held ≡ [] → (r : Rank) (id : ℕ) → IsHeldWithRank c r id → ⊥
none_held c e r id h = let l : h.0 < length c.held = h.1 in omega (arith, l, ap length e)

pub popped_here : (c later : Classes) (a d : Arena) (rank : Rank) (winners : List ℕ) → d ≡ a
    → IsPopped c later d rank winners → IsPopped c later a rank winners
popped_here c later a d rank winners e p = subst (λ x. IsPopped c later x rank winners) e p

pub fits_here : (c : Classes) (a d : Arena) → d ≡ a → ClassesFit c d → ClassesFit c a
fits_here c a d e f = subst (λ x. ClassesFit c x) e f

module _ (birth : ℕ) (b0 b : Book) (c0 c : Classes)
    (before : (s : Start) → InvariantHolds s.graph birth s.opening b0 c0 → InvariantHolds s.graph birth s.opening b c)
    (started : InvariantHoldsOfSomeStart birth b0 c0)
    (later : Classes) (lent : Arena) (same : lent ≡ b.arena) (rank : Rank) (winners : List ℕ)
    (popped : IsPopped c later lent rank winners) (fits : ClassesFit later lent) (ids : List ℕ)
    (are : ids ≡ winners) where
  taken_here : (g : Graph) (o : Book) (s : InvariantHolds g birth o b c)
      → ClassIsTakenAt (stage g birth o b c s later rank winners
      (popped_here c later b.arena lent rank winners same popped) (fits_here later b.arena lent same fits)) birth ids b
      later
  taken_here g o s =
      let p : IsPopped c later b.arena rank winners = popped_here c later b.arena lent rank winners same popped in
      let f : ClassesFit later b.arena = fits_here later b.arena lent same fits in
      subst (λ todo. ClassIsTakenAt (stage g birth o b c s later rank winners p f) birth todo b later) (sym are)
      (stage_taken g birth o b c s later rank winners p f)

  pub class_ready : SomeClassIsTaken birth ids b later
  class_ready =
      let g : Graph = started.0.graph in
      let o : Book = started.0.opening in
      let s : InvariantHolds g birth o b c = before started.0 started.1 in (
        stage g birth o b c s later rank winners (popped_here c later b.arena lent rank winners same popped)
            (fits_here later b.arena lent same fits),
        taken_here g o s,
      )

  module _ (after : Book) (final : Classes)
      (done : (s : Stage) → ClassIsTakenAt s birth ids b later → ClassIsSettledAt s birth after final) where
    pub class_over : (s : Start) → InvariantHolds s.graph birth s.opening b0 c0
        → InvariantHolds s.graph birth s.opening after final
    class_over s h =
        let at : InvariantHolds s.graph birth s.opening b c = before s h in
        let p : IsPopped c later b.arena rank winners = popped_here c later b.arena lent rank winners same popped in
        let f : ClassesFit later b.arena = fits_here later b.arena lent same fits in
        stage_done s.graph birth s.opening b c at later rank winners p f after final
        (done (stage s.graph birth s.opening b c at later rank winners p f) (taken_here s.graph s.opening at))

    pub class_falls : left_over final.held < left_over c.held
    class_falls =
        let g : Graph = started.0.graph in
        let o : Book = started.0.opening in
        let at : InvariantHolds g birth o b c = before started.0 started.1 in
        let p : IsPopped c later b.arena rank winners = popped_here c later b.arena lent rank winners same popped in
        let f : ClassesFit later b.arena = fits_here later b.arena lent same fits in
        lighter g birth o b c at later rank winners p f after final
        (done (stage g birth o b c at later rank winners p f) (taken_here g o at))
