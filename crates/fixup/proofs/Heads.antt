-- The heads of the pairs: which of them are held before the first class. Serves `hold_all`, `queue_heads` and
-- `settle_paths`.
use Rattle.std.specs.Prelude.{◌≡◌, ℕ, ◌+◌, ◌*◌, ◌<◌, ◌⊎◌, ◌↔◌, false, ◌≤◌, slice_index_or, List, [], ◌∷◌, length, take, get_or, Some, Result, Ok, Err, OnOk, refl, Contains}
use Rattle.std.specs.FinSet as set
use Rattle.std.proofs.Common.{sym, ◌∙◌, ap, subst, arith, inl, inr}
use Rattle.std.proofs.lemmas.Bool.{cases_lt}
use Rattle.std.proofs.lemmas.List.{take_all}
use Rattle.apsp_model.specs.Graph.{Graph}
use Rattle.apsp_model.specs.Walk.{IsOnceEach, IsWalk, IsWalkFrom, first, last}
use Rattle.apsp_model.specs.Least.{IsLeast}
use Rattle.apsp_model.specs.Local.{IsLocal, IsVertex}
use Rattle.apsp_model.proofs.Simples.{inside_walk}
use Rattle.apsp_model.proofs.Members.{head_in, tail_in, in_nil}
use Rattle.path_arena.specs.Arena.{Arena, IsLive, list_of}
use Rattle.path_book.specs.Book.{Book, IsMarked, IsPendingLeast, HasNoPendingLeast, ArePendingLeasts}
use Rattle.weight_classes.specs.Classes.{Classes, Rank, ClassesFit, IsHeldWithRank, IsWon, IsPushed, rank_of}
use Rattle.weight_classes.proofs.Held.{pushed_held}
use Rattle.fixup_math.specs.Settling.{HeldCoverKept, IsLeastKept as IsLeastKeptOf, SettlingInvariant}
use Rattle.fixup_math.proofs.Firsts.{queued_at_start}
use Rattle.fixup_math.proofs.Settling.{StartInvariant, settling_starts}
use Rattle.fixup_math.proofs.Start.{vertex_of_one}
use Rattle.fixup.proofs.Adding.{once_before, take_cases, take_old, take_new}
use Rattle.fixup.proofs.Promoting.{least_kept}
use Rattle.fixup.proofs.Starting.{single_marked}
use Rattle.fixup.specs.Views.{HeldIn, Kept, Marked, WonIn}
use Rattle.fixup.specs.Growth.{HeadsAreHeld, InvariantHolds, IsGrown, ExactlyTheseAreHeld}

pub queueing_starts : (a : Arena) (c : Classes) → ClassesFit c a → ((u v : ℕ) → WonIn c u v → ⊥)
    → ((r : Rank) (id : ℕ) → IsHeldWithRank c r id → ⊥) → ExactlyTheseAreHeld a [] c
queueing_starts a c fits none_won empty = record {
  fits = fits;
  none_won = none_won;
  held = λ id. (λ h. absurd (empty h.0 id h.1), λ l. absurd (in_nil id l));
}

-- one id more
pub held_step : (a : Arena) (heads : List ℕ) (i id : ℕ) (c later : Classes) → ExactlyTheseAreHeld a (take i heads) c
    → i < length heads → id ≡ get_or heads i id → IsPushed c later a id → ClassesFit later a
    → ExactlyTheseAreHeld a (take (i + 1) heads) later
held_step a heads i id c later s inside at pushed fits = record {
  fits = fits;
  none_won =
      λ u v w. s.none_won u v (
        subst (λ n. u < n) pushed.vertices w.0,
        subst (λ n. v < n) pushed.vertices w.1,
        won_before u v w.2,
      );
  held = λ q. (
    λ h. elim ((pushed_held c later a id pushed h.0 q).0 h.1) [
      | inl old ↦ take_old heads i id inside at q ((s.held q).0 (h.0, old))
      | inr new ↦ subst (Contains (take (i + 1) heads)) (sym new.1) (take_new heads i id inside at)
    ],
    λ l. elim (take_cases heads i id inside at q l) [
      | inl old ↦ let h = (s.held q).1 old in (h.0, (pushed_held c later a id pushed h.0 q).1 (inl h.1))
      | inr new ↦ (rank_of a id, (pushed_held c later a id pushed (rank_of a id) q).1 (inr (refl, new)))
    ],
  );
}
  where
    won_before : (u v : ℕ) → IsWon later u v → IsWon c u v
    won_before u v w = (λ i. slice_index_or (sym pushed.won i) (u * (sym pushed.vertices i) + v) false) ∙ w

-- it is not held yet
pub head_fresh : (a : Arena) (heads : List ℕ) (i id : ℕ) (c : Classes) → IsOnceEach heads
    → ExactlyTheseAreHeld a (take i heads) c → i < length heads → id ≡ get_or heads i id → (r : Rank)
    → IsHeldWithRank c r id → ⊥
head_fresh a heads i id c once s inside at r h = once_before heads i id once inside at ((s.held id).0 (r, h))

pub held_ends : (a : Arena) (heads : List ℕ) (i : ℕ) (c : Classes) → length heads ≤ i
    → ExactlyTheseAreHeld a (take i heads) c → ExactlyTheseAreHeld a heads c
held_ends a heads i c past s = subst (λ ids. ExactlyTheseAreHeld a ids c) (take_all i heads past) s

-- what the book lists is live
pub heads_live : (b : Book) (n : ℕ) (ids : List ℕ) → ArePendingLeasts b n ids → (id : ℕ) → Contains ids id
    → IsLive b.arena id
heads_live b n ids are id here = (are.only id here).4.0.live

pub heads_queued : {T E : Type 0} (b : Book) (heads : List ℕ) (c : Classes) → ArePendingLeasts b b.arena.vertices heads
    → (r : Result T E) → OnOk r (ExactlyTheseAreHeld b.arena heads c) → OnOk r (HeadsAreHeld b c)
heads_queued b heads c are (Ok t) s = record { heads = heads; are = are; queueing = s }
heads_queued b heads c are (Err e) s = s

last_in : (p : List ℕ) (y : ℕ) → last p ≡ Some y → Contains p y
last_in [] y e = cc
last_in (z ∷ []) y e = head_in y z [] (let same : z ≡ y = cc in same)
last_in (z ∷ u ∷ p) y e = tail_in y z (u ∷ p) (last_in (u ∷ p) y e)

first_in : (p : List ℕ) (x : ℕ) → first p ≡ Some x → Contains p x
first_in [] x e = cc
first_in (z ∷ p) x e = head_in x z p (let same : z ≡ x = cc in same)

pub ends_inside : (g : Graph) (x y : ℕ) (p : List ℕ) → IsWalkFrom g x y p → (x < g.vertices) × (y < g.vertices)
ends_inside g x y p w = (inside_walk g p w.walk x (first_in p x w.from), inside_walk g p w.walk y (last_in p y w.to))

same_end : (x y : ℕ) → Some x ≡ Some y → x ≡ y
same_end x y e = cc

pub settling_same : (g : Graph) (H0 H H1 K Q : List ℕ → Type 0) (Won : ℕ → ℕ → Type 0) → ((p : List ℕ) → H1 p ↔ H p)
    → SettlingInvariant g H0 H K Q Won → SettlingInvariant g H0 H1 K Q Won
settling_same g H0 H H1 K Q Won marks s = record {
  closed = λ p q h part. (marks q).1 (s.closed p q ((marks p).0 h) part);
  singles = λ p h. (marks p).1 (s.singles p h);
  old = λ p h. (marks p).1 (s.old p h);
  grown = λ p h. s.grown p ((marks p).0 h);
  kept = λ p. (λ k. on p ((s.kept p).0 k), λ l. (s.kept p).1 (back p l));
  marked_kept = λ p h. s.marked_kept p ((marks p).0 h);
  held_kept = s.held_kept;
  queued = record {
    covered = λ x y p k walk long. elim (s.queued.covered x y p k walk long) [
      | inl won ↦ inl won
      | inr q ↦ inr (q.0, elim q.1 [ inl held ↦ inl held | inr old ↦ inr ((marks q.0).1 old) ], q.2, q.3)
    ];
    first = λ x y q p held old. s.queued.first x y q p held ((marks p).0 old);
    fresh = λ x y q held old. s.queued.fresh x y q held ((marks q).0 old);
  };
  won = λ x y h. let w : (w : List ℕ) × H w × IsLeast g x y w = s.won x y h in (w.0, (marks w.0).1 w.1, w.2);
}
  where
    on : (p : List ℕ) → IsLocal g H p → IsLocal g H1 p
    on p l = record { simple = l.simple; walk = l.walk; parts = λ q part. (marks q).1 (l.parts q part) }

    back : (p : List ℕ) → IsLocal g H1 p → IsLocal g H p
    back p l = record { simple = l.simple; walk = l.walk; parts = λ q part. (marks q).0 (l.parts q part) }

-- once all heads are held
pub at_start : (g : Graph) (birth : ℕ) (b0 b : Book) (c : Classes) → IsGrown g birth b0 b → b.marked ≡ b0.marked
    → ((id : ℕ) → IsMarked b0 id → list_of b.arena id ≡ list_of b0.arena id) → StartInvariant g (Marked b0) (Kept b)
    → HeadsAreHeld b c → InvariantHolds g birth b0 b c
at_start g birth b0 b c grown marks lists start s = record {
  grown = grown;
  fits = s.queueing.fits;
  held_long = λ p h. long p h;
  settling = settling_same g (Marked b0) (Marked b0) (Marked b) (Kept b) (HeldIn b c) (WonIn c) marked_is
      (settling_starts g (Marked b0) (Kept b) (HeldIn b c) (WonIn c) start held_kept queued s.queueing.none_won);
}
  where
    marked_is : (p : List ℕ) → Marked b p ↔ Marked b0 p
    marked_is p = (
      λ h. let m : IsMarked b0 h.0 =
          ap (λ n. set.contains n h.0) (sym marks) ∙ h.1 in (h.0, m, sym (lists h.0 m) ∙ h.2),
      λ h. (h.0, ap (λ n. set.contains n h.0) marks ∙ h.1, lists h.0 h.1 ∙ h.2),
    )

    held_kept : (p : List ℕ) → HeldIn b c p → Kept b p
    held_kept p h = (h.1, s.queueing.fits.live h.0 h.1 h.2, h.3)

    -- the pair of which a held path is the least kept one
    head_of : (p : List ℕ) (h : HeldIn b c p) → (x : ℕ) × (y : ℕ) × IsPendingLeast b x y h.1
    head_of p h = let d = s.are.only h.1 ((s.queueing.held h.1).0 (h.0, h.2)) in (d.0, d.1, d.4)

    not_marked : (p : List ℕ) → HeldIn b c p → Marked b p → ⊥
    not_marked p h m =
        let d = (head_of p h).2 in
        d.1 (subst (IsMarked b) (grown.lawful.once m.0 h.1 (grown.lawful.marked_live m.0 m.1) d.0.live (m.2 ∙ sym h.3))
        m.1)

    walks : (p : List ℕ) → Kept b p → IsWalk g p
    walks p k = ((start.kept p).0 k).walk

    long : (p : List ℕ) → HeldIn b c p → 1 < length p
    long p h = elim (cases_lt 1 (length p)) [
      | inl more ↦ more
      | inr less ↦
          let single : IsVertex g.vertices p = vertex_of_one g p (walks p (held_kept p h)) (omega (arith, less)) in
          absurd (not_marked p h (single_marked b grown.lawful p
          (single.0, subst (λ n. single.0 < n) (sym grown.vertices) single.1, single.2)))
    ]

    -- a kept path of a pair has a least one
    least_or_held : (x y : ℕ) (p : List ℕ) → Kept b p → IsWalkFrom g x y p
        → (HasNoPendingLeast b x y ⊎ ((id : ℕ) × IsPendingLeast b x y id × Contains s.heads id)) → (q : List ℕ)
        × IsLeastKeptOf g (Kept b) x y q × (HeldIn b c q ⊎ Marked b0 q)
    least_or_held x y p k walk h = elim h [
      | inl settled ↦ elim settled [
        | inl none ↦ absurd (none k.0 k.1 (ap first k.2 ∙ walk.from, ap last k.2 ∙ walk.to))
        | inr id ↦ (
          list_of b.arena id.0,
          least_kept g birth b0 b grown walks x y id.0 id.1,
          inr
              ((marked_is (list_of b.arena id.0)).0 (id.0, id.2, refl)),
        )
      ]
      | inr id ↦
          let held = (s.queueing.held id.0).1 id.2 in
          (list_of b.arena id.0, least_kept g birth b0 b grown walks x y id.0 id.1.0, inl (held.0, id.0, held.1, refl))
    ]

    queued : HeldCoverKept g (Marked b0) (Kept b) (HeldIn b c) (WonIn c)
    queued = queued_at_start g (Marked b0) (Kept b) (HeldIn b c) (WonIn c) start.marked_kept
        (λ x y p k walk long.
        let e : (x < g.vertices) × (y < g.vertices) = ends_inside g x y p walk in
        least_or_held x y p k walk (s.are.pairs x y (subst (λ n. x < n) (sym grown.vertices) e.0)
        (subst (λ n. y < n) (sym grown.vertices) e.1)))
        (λ x y q h walk.
        let d = head_of q h in
        let l : IsLeastKeptOf g (Kept b) d.0 d.1 q =
        subst (IsLeastKeptOf g (Kept b) d.0 d.1) h.3 (least_kept g birth b0 b grown walks d.0 d.1 h.1 d.2.0) in
        let from : d.0 ≡ x = same_end d.0 x (sym l.walk.from ∙ walk.from) in
        let to : d.1 ≡ y = same_end d.1 y (sym l.walk.to ∙ walk.to) in
        subst (λ n. IsLeastKeptOf g (Kept b) x n q) to (subst (λ n. IsLeastKeptOf g (Kept b) n d.1 q) from l))
        (λ q h old. not_marked q h ((marked_is q).1 old))
