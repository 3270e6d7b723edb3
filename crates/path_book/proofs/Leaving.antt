-- For forget_through: the lists of what stays, when the longest path through v is forgotten.
use Rattle.std.specs.Prelude.{◌≡◌, ◌≢◌, ℕ, ◌↔◌, Bool, true, false, MatchBool, ◌==◌, if◌then◌else◌, List, [], ◌∷◌, ◌++◌, Some, is_some, unwrap_or, refl, Contains}
use Rattle.std.specs.FinMap as map
use Rattle.std.specs.FinSet as set
use Rattle.std.proofs.Common.{sym, ◌∙◌, ap, subst, inl, inr}
use Rattle.std.proofs.lemmas.Bool.{cases_eq, false≢true, true≢false, eq-eqb}
use Rattle.apsp_model.specs.Walk.{first, last}
use Rattle.apsp_model.proofs.Members.{in_nil}
use Rattle.path_arena.specs.Arena.{IsLive, list_of, left_of, right_of, HasAnEdge, IsPartOfNone, without_path}
use Rattle.path_arena.proofs.Keys.{get_gone, get_gone_other}
use Rattle.extension_lists.specs.Known.{Sides, Known, no_sides, IsKnown, sides_at, IsLeft, IsTakenFromLeft, IsTakenFromRight}
use Rattle.path_book.specs.Book.{Book, IsMarked}
use Rattle.path_book.specs.Through.{IsVictims}
use Rattle.path_book.proofs.Sides.{shrunk, part_taken}
use Rattle.path_book.proofs.Forgotten.{IsBookButLists, live_left, marked_left}
use Rattle.path_book.proofs.Victims.{IsSettledAt, cases, last_through, last_is_free, right_goes, left_goes}

-- ---- what a part's lists lose, where it stays

record LosesLeft (old new : Known) (id : ℕ) (here : ℕ → Bool) : Type 0 where
  pub known : (k : ℕ) → is_some (map.get new k) ≡ is_some (map.get old k)
  pub left : (k : ℕ) → IsLeft (here k) id (sides_at old k).left (sides_at new k).left
  pub left_star : (k : ℕ) → IsLeft (here k) id (sides_at old k).left_star (sides_at new k).left_star
  pub right : (k : ℕ) → (sides_at new k).right ≡ (sides_at old k).right
  pub right_star : (k : ℕ) → (sides_at new k).right_star ≡ (sides_at old k).right_star

record LosesRight (old new : Known) (id : ℕ) (here : ℕ → Bool) : Type 0 where
  pub known : (k : ℕ) → is_some (map.get new k) ≡ is_some (map.get old k)
  pub left : (k : ℕ) → (sides_at new k).left ≡ (sides_at old k).left
  pub left_star : (k : ℕ) → (sides_at new k).left_star ≡ (sides_at old k).left_star
  pub right : (k : ℕ) → IsLeft (here k) id (sides_at old k).right (sides_at new k).right
  pub right_star : (k : ℕ) → IsLeft (here k) id (sides_at old k).right_star (sides_at new k).right_star

-- whether it is this part, and stays
abbrev at_part : Bool → ℕ → ℕ → Bool
at_part stays part k = if stays then k == part else false

loses_left : (old new : Known) (id r : ℕ) (stays : Bool) → MatchBool stays (IsTakenFromLeft old new id r) (new ≡ old)
    → LosesLeft old new id (at_part stays r)
loses_left old new id r true t =
    record { known = t.known; left = t.left; left_star = t.left_star; right = t.right; right_star = t.right_star }
loses_left old new id r false same = record {
  known = λ k. ap (λ (m : Known). is_some (map.get m k)) same;
  left = λ k. ap (λ (m : Known). (sides_at m k).left) same;
  left_star = λ k. ap (λ (m : Known). (sides_at m k).left_star) same;
  right = λ k. ap (λ (m : Known). (sides_at m k).right) same;
  right_star = λ k. ap (λ (m : Known). (sides_at m k).right_star) same;
}

loses_right : (old new : Known) (id l : ℕ) (stays : Bool) → MatchBool stays (IsTakenFromRight old new id l) (new ≡ old)
    → LosesRight old new id (at_part stays l)
loses_right old new id l true t =
    record { known = t.known; left = t.left; left_star = t.left_star; right = t.right; right_star = t.right_star }
loses_right old new id l false same = record {
  known = λ k. ap (λ (m : Known). is_some (map.get m k)) same;
  left = λ k. ap (λ (m : Known). (sides_at m k).left) same;
  left_star = λ k. ap (λ (m : Known). (sides_at m k).left_star) same;
  right = λ k. ap (λ (m : Known). (sides_at m k).right) same;
  right_star = λ k. ap (λ (m : Known). (sides_at m k).right_star) same;
}

-- ---- the lists of what stays

-- exactly the paths of which it is a part stand in the lists of an id
pub record IsListedAt (b : Book) (k : ℕ) : Type 0 where
  pub left : (id : ℕ) → Contains (sides_at b.lists k).left id ↔ (right_of b.arena id ≡ Some k)
  pub right : (id : ℕ) → Contains (sides_at b.lists k).right id ↔ (left_of b.arena id ≡ Some k)
  pub left_star : (id : ℕ) → Contains (sides_at b.lists k).left_star id ↔
      ((right_of b.arena id ≡ Some k) × IsMarked b id)
  pub right_star : (id : ℕ) → Contains (sides_at b.lists k).right_star id ↔
      ((left_of b.arena id ≡ Some k) × IsMarked b id)

-- so are those that are settled while these paths are still to be forgotten
pub record AreListed (b : Book) (v : ℕ) (rest : List ℕ) : Type 0 where
  pub known : (id : ℕ) → IsKnown b.lists id ↔ IsLive b.arena id
  pub settled : (k : ℕ) → IsSettledAt b v rest k → IsListedAt b k

both : {A B P Q R : Type 0} → (A ↔ (P × R)) → (B ↔ (Q × R)) → (A × B) ↔ ((P × Q) × R)
both f g = (
  λ h. (((f.0 h.0).0, (g.0 h.1).0), (f.0 h.0).1),
  λ h. (f.1 (h.0.0, h.1), g.1 (h.0.1, h.1)),
)

module _ (b : Book) (was : IsBookButLists b) (v id l r from to : ℕ) (rest fewer : List ℕ) (is : rest ≡ fewer ++ id ∷ [])
    (w : IsVictims b v rest) (listed : AreListed b v rest) (left : left_of b.arena id ≡ Some l)
    (right : right_of b.arena id ≡ Some r) (begins : first (list_of b.arena id) ≡ Some from)
    (finishes : last (list_of b.arena id) ≡ Some to) (one two three : Known)
    (first_step : MatchBool (from == v) (IsTakenFromLeft b.lists one id r) (one ≡ b.lists))
    (second_step : MatchBool (to == v) (IsTakenFromRight one two id l) (two ≡ one))
    (third_step : three ≡ map.remove two id) where
  abbrev now : Book
  now = record { arena = without_path b.arena id; marked = set.remove b.marked id; lists = three }

  in_left_lists : LosesLeft b.lists one id (at_part (from == v) r)
  in_left_lists = loses_left b.lists one id r (from == v) first_step

  in_right_lists : LosesRight one two id (at_part (to == v) l)
  in_right_lists = loses_right one two id l (to == v) second_step

  edge : HasAnEdge b.arena id
  edge = (last_through b was v id rest fewer is w).0

  free : IsPartOfNone b.arena id
  free = last_is_free b was v id rest fewer is w

  other : (k : ℕ) → k ≢ id → sides_at three k ≡ sides_at two k
  other k apart =
      ap (λ (m : Known). sides_at m k) third_step ∙ ap (λ o. unwrap_or o no_sides) (get_gone_other two id k apart)

  own : sides_at three id ≡ no_sides
  own = ap (λ (m : Known). sides_at m id) third_step ∙ ap (λ o. unwrap_or o no_sides) (get_gone two id)

  known_then : (q : ℕ) → IsKnown three q ↔ IsLive now.arena q
  known_then q = elim (cases_eq q id) [
    | inl same ↦ (
      λ h. absurd (false≢true (sym (ap is_some
          (ap (map.get three) same ∙ ap (λ (m : Known). map.get m id) third_step ∙ get_gone two id)) ∙ h)),
      λ h. absurd (((live_left b id three was edge free q).0 h).1 same),
    )
    | inr apart ↦
        let still : is_some (map.get three q) ≡ is_some (map.get b.lists q) =
        ap (λ (m : Known). is_some (map.get m q)) third_step ∙ ap is_some (get_gone_other two id q apart)
        ∙ in_right_lists.known q ∙ in_left_lists.known q in (
          λ h. (live_left b id three was edge free q).1 ((listed.known q).0 (sym still ∙ h), apart),
          λ h. still ∙ (listed.known q).1 ((live_left b id three was edge free q).0 h).0,
        )
  ]

  no_left : (k : ℕ) → IsSettledAt b v rest k → at_part (from == v) r k ≡ false → right_of b.arena id ≡ Some k → ⊥
  no_left k settled off e = elim (cases_eq from v) [
    | inl at_v ↦
        let same : k ≡ r = (let two : Some k ≡ Some r = sym e ∙ right in cc) in
        true≢false (sym ((λ i. at_part (eq-eqb from v at_v i) r k) ∙ eq-eqb k r same) ∙ off)
    | inr apart ↦ right_goes b was v id rest fewer is w from k begins apart e settled
  ]

  no_right : (k : ℕ) → IsSettledAt b v rest k → at_part (to == v) l k ≡ false → left_of b.arena id ≡ Some k → ⊥
  no_right k settled off e = elim (cases_eq to v) [
    | inl at_v ↦
        let same : k ≡ l = (let two : Some k ≡ Some l = sym e ∙ left in cc) in
        true≢false (sym ((λ i. at_part (eq-eqb to v at_v i) l k) ∙ eq-eqb k l same) ∙ off)
    | inr apart ↦ left_goes b was v id rest fewer is w to k finishes apart e settled
  ]

  own_listed : IsListedAt now id
  own_listed = record {
    left = λ q. (
      λ c. absurd (in_nil q (subst (λ (s : Sides). Contains s.left q) own c)),
      λ h. absurd
          (free.right q ((part_taken (λ p. p.right) refl b.arena id id q).0 h).0),
    );
    right = λ q. (
      λ c. absurd (in_nil q (subst (λ (s : Sides). Contains s.right q) own c)),
      λ h. absurd
          (free.left q ((part_taken (λ p. p.left) refl b.arena id id q).0 h).0),
    );
    left_star =
        λ q. (
          λ c. absurd (in_nil q (subst (λ (s : Sides). Contains s.left_star q) own c)),
          λ h. absurd
              (free.right q ((part_taken (λ p. p.right) refl b.arena id id q).0 h.0).0),
        );
    right_star =
        λ q. (
          λ c. absurd (in_nil q (subst (λ (s : Sides). Contains s.right_star q) own c)),
          λ h. absurd
              (free.left q ((part_taken (λ p. p.left) refl b.arena id id q).0 h.0).0),
        );
  }

  other_listed : (k : ℕ) → k ≢ id → IsSettledAt b v rest k → IsListedAt now k
  other_listed k apart settled = record {
    left = λ q.
        shrunk (sides_at b.lists k).left (sides_at three k).left id (at_part (from == v) r k)
        (λ p. right_of b.arena p ≡ Some k) (λ p. right_of now.arena p ≡ Some k)
        (subst (IsLeft (at_part (from == v) r k) id (sides_at b.lists k).left)
        (sym (ap (λ (s : Sides). s.left) (other k apart) ∙ in_right_lists.left k)) (in_left_lists.left k))
        (listed.settled k settled).left (λ p. part_taken (λ s. s.right) refl b.arena id k p) (no_left k settled) q;
    right = λ q.
        shrunk (sides_at b.lists k).right (sides_at three k).right id (at_part (to == v) l k)
        (λ p. left_of b.arena p ≡ Some k) (λ p. left_of now.arena p ≡ Some k)
        (subst (λ xs. IsLeft (at_part (to == v) l k) id xs (sides_at three k).right) (in_left_lists.right k)
        (subst (IsLeft (at_part (to == v) l k) id (sides_at one k).right)
        (sym (ap (λ (s : Sides). s.right) (other k apart))) (in_right_lists.right k)))
        (listed.settled k settled).right (λ p. part_taken (λ s. s.left) refl b.arena id k p) (no_right k settled) q;
    left_star = λ q.
        shrunk (sides_at b.lists k).left_star (sides_at three k).left_star id (at_part (from == v) r k)
        (λ p. (right_of b.arena p ≡ Some k) × IsMarked b p) (λ p. (right_of now.arena p ≡ Some k) × IsMarked now p)
        (subst (IsLeft (at_part (from == v) r k) id (sides_at b.lists k).left_star)
        (sym (ap (λ (s : Sides). s.left_star) (other k apart) ∙ in_right_lists.left_star k))
        (in_left_lists.left_star k))
        (listed.settled k settled).left_star
        (λ p. both (part_taken (λ s. s.right) refl b.arena id k p) (marked_left b id three was edge free p))
        (λ off h. no_left k settled off h.0) q;
    right_star = λ q.
        shrunk (sides_at b.lists k).right_star (sides_at three k).right_star id (at_part (to == v) l k)
        (λ p. (left_of b.arena p ≡ Some k) × IsMarked b p) (λ p. (left_of now.arena p ≡ Some k) × IsMarked now p)
        (subst (λ xs. IsLeft (at_part (to == v) l k) id xs (sides_at three k).right_star) (in_left_lists.right_star k)
        (subst (IsLeft (at_part (to == v) l k) id (sides_at one k).right_star)
        (sym (ap (λ (s : Sides). s.right_star) (other k apart))) (in_right_lists.right_star k)))
        (listed.settled k settled).right_star
        (λ p. both (part_taken (λ s. s.left) refl b.arena id k p) (marked_left b id three was edge free p))
        (λ off h. no_right k settled off h.0) q;
  }

  pub fewer_listed : AreListed now v fewer
  fewer_listed = record {
    known = known_then;
    settled = λ k settled. elim (cases_eq k id) [
      | inl same ↦ subst (IsListedAt now) (sym same) own_listed
      | inr apart ↦ other_listed k apart (
        λ c. elim (cases b was v id rest fewer is w k c)
            [ inl still ↦ settled.0 still | inr same ↦ apart same ],
        settled.1,
      )
    ];
  }
