-- A front of what is left is copied into a buffer: for `take` of a source in memory.
use Rattle.std.proofs.Common.{◌≡◌, ℕ, ◌+◌, ◌<◌, ◌≤◌, min, length, take, drop, List, [], ◌++◌, arith, sym, ◌∙◌, ap, length-drop}
use Rattle.std.proofs.lemmas.List.{take-append-drop, length-take-le}
use Rattle.std.proofs.lemmas.Grind.{common_steps}

front_of : (front rest : List ℕ) (n : ℕ) → length front ≡ n → take n (front ++ rest) ≡ front
front_of front rest n e = grind (arith, common_steps)

drop_more : (bytes : List ℕ) (n place : ℕ) → drop n (drop place bytes) ≡ drop (place + n) bytes
drop_more bytes n place = grind (arith, common_steps)

-- what was left before a take is the front of the buffer, and what is left behind it
pub taken_front : (bytes left front rest : List ℕ) (n place : ℕ) → left ≡ drop place bytes → n ≤ length left
    → front ≡ take n left → left ≡ take n (front ++ rest) ++ drop (place + n) bytes
taken_front bytes left front rest n place e h f =
    let at_front : take n (front ++ rest) ≡ take n left =
    front_of front rest n (ap length f ∙ length-take-le n left h) ∙ f in
    let behind : drop (place + n) bytes ≡ drop n left = sym (drop_more bytes n place) ∙ ap (drop n) (sym e) in
    sym (ap (λ zs. zs ++ drop (place + n) bytes) at_front ∙ ap (λ zs. take n left ++ zs) behind
    ∙ take-append-drop n left)

-- a take of nothing into some room is at the end
pub taken_end : (bytes left : List ℕ) (n place piece room : ℕ) → left ≡ drop place bytes → 1 ≤ piece
    → n ≡ min piece (min room (length left)) → n ≡ 0 → 0 < room → drop (place + n) bytes ≡ []
taken_end bytes left n place piece room e some is z r =
    let none : length left ≡ 0 = omega arith in
    let all : length bytes ≤ place + n = omega (arith, ap length e, length-drop place bytes) in
    grind (arith, common_steps)
