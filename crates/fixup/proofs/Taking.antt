-- Winner by winner and pair by pair, as the loops take them. Serves `promote_all`, `keep_joins` and `settle_class`.
use Rattle.std.specs.Prelude.{◌≡◌, ℕ, ◌+◌, ◌<◌, ◌≤◌, List, [], ◌∷◌, Contains, refl}
use Rattle.std.proofs.Common.{sym, ◌∙◌, ap, subst, take, get_or, length, inl, inr}
use Rattle.std.proofs.lemmas.List.{take_all}
use Rattle.apsp_model.specs.Walk.{IsOnceEach, first, last}
use Rattle.apsp_model.proofs.Members.{in_nil}
use Rattle.path_arena.specs.Arena.{Arena, IsLive, list_of, HasAnEdge, CanJoin, joined_path}
use Rattle.path_arena.proofs.Paths.{live_from_edge}
use Rattle.path_book.specs.Book.{Book, IsBook, IsMarked, IsNewList, with_mark}
use Rattle.weight_classes.specs.Classes.{Classes, ClassesFit, InOrder}
use Rattle.fixup.specs.declared.listing.Join.{Join}
use Rattle.fixup.specs.Joining.{IsJoined}
use Rattle.fixup.specs.Owing.{CanBeWinners, IsPromoted, IsOwed, AreOwed}
use Rattle.fixup.specs.Stage.{Stage}
use Rattle.fixup.specs.Growth.{PairsAreJoined}
use Rattle.fixup.specs.Stages.{ClassIsTakenAt, ClassIsSettledAt, AreOwedAt, SomeClassOwes}
use Rattle.fixup.proofs.Views.{mark_new, mark_still, mark_cases}
use Rattle.fixup.proofs.Adding.{once_before, take_push, take_cases, take_old, take_new}
use Rattle.fixup.proofs.Pairing.{joining_starts, joining_ends, pair_can, pair_fresh, pair_step, left_marked, right_marked, left_now, right_now}

-- ---- the winners become historical

pub promoted_none : (b : Book) (winners : List ℕ) → IsBook b → IsPromoted b (take 0 winners) b
promoted_none b winners lawful =
    record {
      lawful = lawful;
      arena = refl;
      marks = λ id.
          (λ m. inl m, λ h. elim h [ inl m ↦ m | inr c ↦ absurd (none winners id c) ]);
    }
  where
    none : (ws : List ℕ) (id : ℕ) → Contains (take 0 ws) id → ⊥
    none [] id c = in_nil id c
    none (w ∷ ws) id c = in_nil id c

module _ (b0 b : Book) (winners : List ℕ) (i w : ℕ) (inside : i < length winners) (at : w ≡ get_or winners i w)
    (p : IsPromoted b0 (take i winners) b) where
  pub promote_live : CanBeWinners b0 winners → IsLive b.arena w
  promote_live class =
      subst (λ (a : Arena). IsLive a w) (sym p.arena)
      (live_from_edge b0.arena w class.lawful.arena (class.edge w (i, inside, sym at)))

  pub promote_pending : ((v : ℕ) → Contains winners v → IsMarked b0 v → ⊥) → IsOnceEach winners → IsMarked b w → ⊥
  promote_pending pending once m =
      elim ((p.marks w).0 m) [
        | inl old ↦ pending w (i, inside, sym at) old
        | inr earlier ↦
            once_before winners i w once inside at earlier
      ]

  pub promoted_more : (after : Book) → after ≡ with_mark b w after.lists → IsBook after
      → IsPromoted b0 (take (i + 1) winners) after
  promoted_more after is lawful = record {
    lawful = lawful;
    arena = ap (λ (d : Book). d.arena) is ∙ p.arena;
    marks = λ id. (
      λ m. elim (mark_cases b w id (subst (λ (d : Book). IsMarked d id) is m)) [
        | inl old ↦ elim ((p.marks id).0 old)
            [ inl before ↦ inl before | inr earlier ↦ inr (take_old winners i w inside at id earlier) ]
        | inr same ↦ inr (subst (Contains (take (i + 1) winners)) (sym same) (take_new winners i w inside at))
      ],
      λ h. subst (λ (d : Book). IsMarked d id) (sym is) (elim h [
        | inl before ↦ mark_still b w id ((p.marks id).1 (inl before))
        | inr c ↦ elim (take_cases winners i w inside at id c) [
          | inl earlier ↦ mark_still b w id ((p.marks id).1 (inr earlier))
          | inr same ↦ subst (IsMarked (with_mark b w after.lists)) (sym same) (mark_new b w)
        ]
      ]),
    );
  }

pub promoted_all : (b0 b : Book) (winners : List ℕ) (i : ℕ) → length winners ≤ i → IsPromoted b0 (take i winners) b
    → IsPromoted b0 winners b
promoted_all b0 b winners i all p = subst (λ ws. IsPromoted b0 ws b) (take_all i winners all) p

pub winners_then : (b0 b : Book) (winners : List ℕ) → CanBeWinners b0 winners → IsPromoted b0 winners b
    → CanBeWinners b winners
winners_then b0 b winners class p = record {
  lawful = p.lawful;
  in_order = subst (λ (a : Arena). InOrder a winners) (sym p.arena) class.in_order;
  edge = λ w c. subst (λ (a : Arena). HasAnEdge a w) (sym p.arena) (class.edge w c);
}

-- ---- the pairs are joined

-- what a call needs of the two sides
pub record JoinHalves (birth : ℕ) (b : Book) (c : Classes) (l r : ℕ) : Type 0 where
  pub left_live : IsLive b.arena l
  pub right_live : IsLive b.arena r
  pub left : IsMarked b l
  pub right : IsMarked b r
  pub can : (first (list_of b.arena l) ≡ last (list_of b.arena r) → ⊥) → CanJoin b.arena l r
  pub new : (first (list_of b.arena l) ≡ last (list_of b.arena r) → ⊥)
      → IsNewList b (joined_path b.arena l r birth).list
  pub fits : ClassesFit c b.arena

module _ (birth : ℕ) (pairs : List Join) (b0 b : Book) (c0 c : Classes) (once : IsOnceEach pairs) (i : ℕ) (j : Join)
    (inside : i < length pairs) (at : j ≡ get_or pairs i j)
    (before : (s : Stage) → PairsAreJoined s birth [] b0 c0 → AreOwedAt s pairs
    → PairsAreJoined s birth (take i pairs) b c) where
  there : Contains pairs j
  there = (i, inside, sym at)

  apart : Contains (take i pairs) j → ⊥
  apart = once_before pairs i j once inside at

  pub pair_sides : SomeClassOwes birth pairs b0 c0 → JoinHalves birth b c j.left j.right
  pair_sides ready =
      let s : Stage = ready.0 in
      let o : IsOwed s.promoted s.winners j = ready.2 j there in
      let k : PairsAreJoined s birth (take i pairs) b c = before s ready.1 ready.2 in
      record {
        left_live =
            left_now s.graph birth s.opening s.class s.winners s.before s.held s.promoted (take i pairs) b c k j o;
        right_live =
            right_now s.graph birth s.opening s.class s.winners s.before s.held s.promoted (take i pairs) b c k j o;
        left = left_marked s.graph birth s.opening s.class s.winners s.before s.held s.promoted (take i pairs) b c k j
            o;
        right = right_marked s.graph birth s.opening s.class s.winners s.before s.held s.promoted (take i pairs) b c k j
            o;
        can = pair_can s.graph birth s.opening s.class s.winners s.before s.held s.promoted (take i pairs) b c k j o;
        new = pair_fresh s.graph birth s.opening s.class s.winners s.before s.held s.promoted (take i pairs) b c k j o
            birth apart;
        fits = k.forming.fits;
      }

  pub pair_more : (after : Book) (later : Classes) → IsJoined b c j.left j.right birth after later → IsBook after
      → ClassesFit later after.arena → (s : Stage) → PairsAreJoined s birth [] b0 c0 → AreOwedAt s pairs
      → PairsAreJoined s birth (take (i + 1) pairs) after later
  pair_more after later joined lawful fits s start owed =
      let k : PairsAreJoined s birth (take i pairs) b c = before s start owed in
      subst (λ ps. PairsAreJoined s birth ps after later) (sym (take_push pairs i j inside at))
      (pair_step s.graph birth s.opening s.class s.winners s.before s.held s.promoted (take i pairs) b c k j
      (owed j there) apart after later joined lawful fits)

pub pairs_end : (birth : ℕ) (pairs : List Join) (b0 b : Book) (c0 c : Classes) (i : ℕ) → length pairs ≤ i
    → ((s : Stage) → PairsAreJoined s birth [] b0 c0 → AreOwedAt s pairs → PairsAreJoined s birth (take i pairs) b c)
    → (s : Stage) → PairsAreJoined s birth [] b0 c0 → AreOwedAt s pairs → PairsAreJoined s birth pairs b c
pairs_end birth pairs b0 b c0 c i all before s start owed =
    subst (λ ps. PairsAreJoined s birth ps b c) (take_all i pairs all) (before s start owed)

-- ---- the whole class

module _ (birth : ℕ) (winners : List ℕ) (before : Book) (held : Classes) (promoted : Book)
    (promotion : IsPromoted before winners promoted) where
  abbrev pub staged : Stage → Stage
  staged s =
      record {
        graph = s.graph;
        opening = s.opening;
        class = s.class;
        winners = winners;
        before = before;
        held = held;
        promoted = promoted;
      }

  pub staged_starts : (s : Stage) → ClassIsTakenAt s birth winners before held
      → PairsAreJoined (staged s) birth [] promoted held
  staged_starts s t = joining_starts s.graph birth s.opening s.class winners before held t promoted promotion

  pub staged_done : (s : Stage) → ClassIsTakenAt s birth winners before held → (pairs : List Join)
      → AreOwed promoted winners pairs → (after : Book) (later : Classes)
      → ((s : Stage) → PairsAreJoined s birth [] promoted held → AreOwedAt s pairs
      → PairsAreJoined s birth pairs after later) → ClassIsSettledAt s birth after later
  staged_done s t pairs owed after later done =
      joining_ends s.graph birth s.opening s.class winners before held promoted pairs after later
      (done (staged s) (staged_starts s t) (λ j c. (owed.are j).0 c)) (λ j o. (owed.are j).1 o)
