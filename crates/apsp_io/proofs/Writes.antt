-- A loop over `write`, and what a writer took so far of a piece: for `write_out`.
use Rattle.std.proofs.Common.{◌≡◌, ℕ, List, [], ◌∷◌, ◌++◌, length, take, drop, refl, sym, ap, subst, ◌∙◌, arith, rules, length-append, append_assoc}
use Rattle.std.proofs.lemmas.List.{take-append-drop}
use Rattle.std.proofs.Math.Seq.{take-append_seam}
use Rattle.std.specs.Prelude.{Option, Some, None}
use Rattle.std.specs.Io.KnownBytes.{Appends, Keeps}
use Rattle.apsp_io.specs.Streams.{GrowsByPrefix}

-- a front of the piece was taken, and the rest is left
pub record TookFront (old now : Option (List ℕ)) (piece rest : List ℕ) : Type 0 where
  pub front : List ℕ
  pub whole : piece ≡ front ++ rest
  pub taken : Appends old now front

Appends-none : (old : Option (List ℕ)) → Appends old old []
Appends-none None = tt
Appends-none (Some xs) = search rules

Appends-more : (old mid new : Option (List ℕ)) (xs ys : List ℕ) → Appends old mid xs → Appends mid new ys
    → Appends old new (xs ++ ys)
Appends-more None mid new xs ys h k = tt
Appends-more (Some os) None new xs ys h k = absurd h
Appends-more (Some os) (Some ms) None xs ys h k = absurd k
Appends-more (Some os) (Some ms) (Some ns) xs ys h k = k ∙ ap (λ zs. zs ++ ys) h ∙ append_assoc os xs ys

Appends-kept : (old mid new : Option (List ℕ)) (xs : List ℕ) → Appends old mid xs → Keeps mid new → Appends old new xs
Appends-kept None mid new xs h k = tt
Appends-kept (Some os) None new xs h k = absurd h
Appends-kept (Some os) (Some ms) None xs h k = absurd k
Appends-kept (Some os) (Some ms) (Some ns) xs h k = k ∙ h

pub took_none : (old : Option (List ℕ)) (piece : List ℕ) → TookFront old old piece piece
took_none old piece = record { front = []; whole = refl; taken = Appends-none old }

-- after one more write a longer front of the piece was taken
pub took_more : (old mid new : Option (List ℕ)) (piece rest after : List ℕ) (n : ℕ) → TookFront old mid piece rest
    → Appends mid new (take n rest) → after ≡ drop n rest → TookFront old new piece after
took_more old mid new piece rest after n t a e = record {
  front = t.front ++ take n rest;
  whole = t.whole ∙ ap (λ zs. t.front ++ zs) (sym (take-append-drop n rest))
      ∙ sym (append_assoc t.front (take n rest) (drop n rest)) ∙ ap (λ zs. (t.front ++ take n rest) ++ zs) (sym e);
  taken = Appends-more old mid new t.front (take n rest) t.taken a;
}

-- what was taken when the writer fails
pub took_part : (old mid new : Option (List ℕ)) (piece rest : List ℕ) → TookFront old mid piece rest → Keeps mid new
    → GrowsByPrefix old new piece
took_part old mid new piece rest t k =
    let front_is : take (length t.front) piece ≡ t.front =
    ap (take (length t.front)) t.whole ∙ take-append_seam t.front rest in
    let P : List ℕ → Type 0 = λ zs. Appends old new zs in (
      length t.front,
      omega (arith, ap length t.whole, length-append t.front rest),
      subst P (sym front_is) (Appends-kept old mid new t.front t.taken k),
    )

pub took_all : (old mid new : Option (List ℕ)) (piece rest : List ℕ) → TookFront old mid piece rest → length rest ≡ 0
    → Keeps mid new → Appends old new piece
took_all old mid new piece [] t e k =
    let P : List ℕ → Type 0 = λ zs. Appends old new zs in
    let front_is : t.front ≡ piece = sym (t.whole ∙ search rules) in
    subst P front_is (Appends-kept old mid new t.front t.taken k)
took_all old mid new piece (x ∷ xs) t e k = absurd (omega (arith, e))
