-- A count with one list less.
use Rattle.std.specs.Prelude.{◌≡◌, ℕ, ◌+◌, ◌-◌, ◌≤◌, ◌↔◌, List, [], ◌∷◌, length, Contains}
use Rattle.std.proofs.Common.{sym, ◌∙◌, subst, arith, inl, inr}
use Rattle.apsp_model.specs.Walk.{IsOnceEach}
use Rattle.apsp_model.specs.Counts.{CountIs}
use Rattle.apsp_model.proofs.Members.{in_cons, in_nil, head_in, tail_in}

-- a list with one entry taken out
record Taken (ys : List (List ℕ)) (x : List ℕ) : Type 0 where
  rest : List (List ℕ)
  shorter : length ys ≡ length rest + 1
  once : IsOnceEach rest
  exact : (y : List ℕ) → Contains rest y ↔ (Contains ys y × (y ≡ x → ⊥))

taken : (ys : List (List ℕ)) (x : List ℕ) → IsOnceEach ys → Contains ys x → Taken ys x
taken [] x once c = absurd (in_nil x c)
taken (y ∷ ys) x once c = elim (in_cons x y ys c) [
  | inl here ↦ record {
    rest = ys;
    shorter = omega arith;
    once = once.1;
    exact = λ z. (
      λ d. (tail_in z y ys d, λ same. once.0 (subst (Contains ys) (same ∙ sym here) d)),
      λ h. elim (in_cons z y ys h.0) [ inl first ↦ absurd (h.1 (sym first ∙ here)) | inr more ↦ more ],
    );
  }
  | inr more ↦
      let w = taken ys x once.1 more in
      record {
        rest = y ∷ w.rest;
        shorter = (let e : length ys ≡ length w.rest + 1 = w.shorter in omega arith);
        once = (λ d. once.0 ((w.exact y).0 d).0, w.once);
        exact = λ z. (
          λ d. elim (in_cons z y w.rest d) [
            | inl first ↦ (head_in z y ys first, λ same. once.0 (subst (Contains ys) (sym same ∙ sym first) more))
            | inr later ↦ (let both = (w.exact z).0 later in (tail_in z y ys both.0, both.1))
          ],
          λ h. elim (in_cons z y ys h.0) [
            | inl first ↦ head_in z y w.rest first
            | inr later ↦
                tail_in z y w.rest ((w.exact z).1 (later, h.1))
          ],
        );
      }
]

-- one list less: there was one, and the count is lower by one
pub count_less : (P Q : List ℕ → Type 0) (a : ℕ) (p : List ℕ) → P p → ((q : List ℕ) → Q q ↔ (P q × (q ≡ p → ⊥)))
    → CountIs P a → (1 ≤ a) × CountIs Q (a - 1)
count_less P Q a p has e c =
    let w : Taken c.lists p = taken c.lists p c.once ((c.exact p).1 has) in
    let long : length c.lists ≡ length w.rest + 1 = w.shorter in
    let is : length c.lists ≡ a = c.length_is in (
      omega arith,
      record {
        lists = w.rest;
        once = w.once;
        exact = λ q. (
          λ d. (let both = (w.exact q).0 d in (e q).1 ((c.exact q).0 both.0, both.1)),
          λ h. (let both = (e q).0 h in (w.exact q).1 ((c.exact q).1 both.0, both.1)),
        );
        length_is = omega arith;
      },
    )
