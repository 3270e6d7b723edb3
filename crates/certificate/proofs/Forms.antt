-- The lines of edges and pairs, from the text to the map and back: for `pair_line`, and for the tables in `Texts`.
use Rattle.std.specs.Prelude.{◌≡◌, ◌≢◌, ℕ, ◌-◌, ◌<◌, ◌≤◌, ◌^◌, Bool, true, false, not, ◌==◌, ◌&&◌, nat_lt, nat_le, if◌then◌else◌, List, [], ◌∷◌, length, slice_index, Option, Some, None, refl}
use Rattle.std.proofs.Common.{sym, ◌∙◌, ap, subst, arith}
use Rattle.std.proofs.lemmas.Bool.Decides.{nat_tests}
use Rattle.apsp_model.specs.declared.TheConstants.{MOST_VERTICES, MOST_WEIGHT}
use Rattle.apsp_model.specs.Graph.{IsEdgeOf}
use Rattle.apsp_model.specs.Stated.{Entry, IsEntryOf}
use Rattle.certificate.specs.Cuts.{◌and_then◌, numbers_by}
use Rattle.certificate.specs.Grammar.{parted, edge_line_text, pair_line_text, edge_word_text, pair_word_text}
use Rattle.certificate.specs.Reading.{edge_of_numbers, pair_of_numbers, edge_in, pair_in, edge_in_word, pair_in_word, ends_fit, edge_fits, entry_fits, pair_fits}
use Rattle.certificate.specs.Answer.{if_fits}
use Rattle.certificate.proofs.Cutting.{avoids, newline_apart, space_apart, colon_apart}
use Rattle.certificate.proofs.Spellings.{joint, some_same, AreSmall, AreNumbers, numbers_parts, numbers_again, parted_avoids}

-- an item that was given is one that fits
pub fits_if : {V : Type 0} (fits : (ℕ × ℕ) × V → Bool) (o : Option ((ℕ × ℕ) × V)) (e : (ℕ × ℕ) × V)
    → Some e ≡ if_fits fits o → fits e ≡ true
fits_if fits None e h = cc
fits_if fits (Some p) e h = at (fits p) refl h
  where
    at : (b : Bool) → fits p ≡ b → Some e ≡ (if b then Some p else None) → fits e ≡ true
    at true t h = let same : e ≡ p = some_same e p h in ap fits same ∙ t
    at false t h = cc

-- the item is the one that the numbers say
pub item_if : {V : Type 0} (fits : (ℕ × ℕ) × V → Bool) (o : Option ((ℕ × ℕ) × V)) (e : (ℕ × ℕ) × V)
    → Some e ≡ if_fits fits o → o ≡ Some e
item_if fits None e h = cc
item_if fits (Some p) e h = at (fits p) h
  where
    at : (b : Bool) → Some e ≡ (if b then Some p else None) → Some p ≡ Some e
    at true h = sym h
    at false h = cc

-- ---- what the numbers of a line say

record IsEdgeRow (ks : List ℕ) (e : (ℕ × ℕ) × ℕ) : Type 0 where
  is : ks ≡ e.0.0 ∷ e.0.1 ∷ e.1 ∷ []

edge_row : (ks : List ℕ) (e : (ℕ × ℕ) × ℕ) → edge_of_numbers ks ≡ Some e → IsEdgeRow ks e
edge_row [] e h = cc
edge_row (u ∷ []) e h = cc
edge_row (u ∷ v ∷ []) e h = cc
edge_row (u ∷ v ∷ w ∷ []) e h =
    let made : IsEdgeRow (u ∷ v ∷ w ∷ []) ((u, v), w) = record { is = refl } in
    subst (IsEdgeRow (u ∷ v ∷ w ∷ [])) (some_same ((u, v), w) e h) made
edge_row (u ∷ v ∷ w ∷ x ∷ ks) e h = cc

record IsPairRow (ks : List ℕ) (e : (ℕ × ℕ) × Entry) : Type 0 where
  is : ks ≡ e.0.0 ∷ e.0.1 ∷ e.1.dist ∷ e.1.hops ∷ e.1.next ∷ []

pair_row : (ks : List ℕ) (e : (ℕ × ℕ) × Entry) → pair_of_numbers ks ≡ Some e → IsPairRow ks e
pair_row [] e h = cc
pair_row (a ∷ []) e h = cc
pair_row (a ∷ b ∷ []) e h = cc
pair_row (a ∷ b ∷ c ∷ []) e h = cc
pair_row (a ∷ b ∷ c ∷ d ∷ []) e h = cc
pair_row (a ∷ b ∷ c ∷ d ∷ f ∷ []) e h =
    let made : IsPairRow (a ∷ b ∷ c ∷ d ∷ f ∷ []) ((a, b), record { dist = c; hops = d; next = f }) =
    record { is = refl } in
    subst (IsPairRow (a ∷ b ∷ c ∷ d ∷ f ∷ [])) (some_same ((a, b), record { dist = c; hops = d; next = f }) e h) made
pair_row (a ∷ b ∷ c ∷ d ∷ f ∷ g ∷ ks) e h = cc

-- the weight of an entry that was read has at most 18 digits
pub pair_small : (fits : (ℕ × ℕ) × Entry → Bool) (line ks : List ℕ) (e : (ℕ × ℕ) × Entry) → numbers_by 32 5 line ≡ Some ks
    → Some e ≡ if_fits fits (pair_of_numbers ks) → e.1.dist < 10 ^ 18
pair_small fits line ks e read h =
    let row = pair_row ks e (item_if fits (pair_of_numbers ks) e h) in
    let small : AreSmall ks = (numbers_parts 32 4 line ks read).small in
    let there : AreSmall (e.0.0 ∷ e.0.1 ∷ e.1.dist ∷ e.1.hops ∷ e.1.next ∷ []) = subst AreSmall row.is small in
    there.1.1.0

-- ---- the ranges

both : (a b : Bool) → (a && b) ≡ true → (a ≡ true) × (b ≡ true)
both true b h = (refl, h)
both false b h = cc

ends_facts : (n u v : ℕ) → ends_fit n (u, v) ≡ true → (u < n) × (v < n) × (u ≢ v)
ends_facts n u v h = (grind (arith, nat_tests), grind (arith, nat_tests), λ e. grind (arith, nat_tests))

ends_test : (n u v : ℕ) → u < n → v < n → u ≢ v → ends_fit n (u, v) ≡ true
ends_test n u v p q r = grind (arith, nat_tests)

-- an edge that passes the test is an edge of a graph of n vertices
pub edge_from_test : (n : ℕ) (e : (ℕ × ℕ) × ℕ) → edge_fits n e ≡ true → IsEdgeOf n e.0.0 e.0.1 e.1
edge_from_test n e h =
    let s = both (ends_fit n e.0) (nat_le e.1 MOST_WEIGHT) h in
    let ends = ends_facts n e.0.0 e.0.1 s.0 in
    record { from = ends.0; to = ends.1; apart = ends.2; most = weight e.1 s.1 }
  where
    weight : (w : ℕ) → nat_le w MOST_WEIGHT ≡ true → w ≤ MOST_WEIGHT
    weight w h = grind (arith, nat_tests)

-- .. and such an edge passes it
pub edge_test : (n : ℕ) (e : (ℕ × ℕ) × ℕ) → IsEdgeOf n e.0.0 e.0.1 e.1 → edge_fits n e ≡ true
edge_test n e h =
    ap (λ b. b && (nat_le e.1 MOST_WEIGHT)) (ends_test n e.0.0 e.0.1 h.from h.to h.apart)
    ∙ weight e.1 h.most
  where
    weight : (w : ℕ) → w ≤ MOST_WEIGHT → nat_le w MOST_WEIGHT ≡ true
    weight w p = grind (arith, nat_tests)

-- an entry that passes the test is within its ranges
pub entry_from_test : (n : ℕ) (e : (ℕ × ℕ) × Entry) → pair_fits n e ≡ true → IsEntryOf n e.0.0 e.0.1 e.1
entry_from_test n e h =
    let s = both (ends_fit n e.0) (entry_fits n e.0.0 e.1.hops e.1.next) h in
    let ends = ends_facts n e.0.0 e.0.1 s.0 in
    let r = rest e.1.hops e.1.next e.0.0 s.1 in
    record { from = ends.0; to = ends.1; apart = ends.2; some_hops = r.0; most_hops = r.1; next = r.2; moves = r.3 }
  where
    rest : (h z x : ℕ) → ((nat_le 1 h && nat_le h (n - 1)) && (nat_lt z n && not (z == x))) ≡ true → (1 ≤ h)
        × (h ≤ n - 1) × (z < n) × (z ≢ x)
    rest h z x t =
        (grind (arith, nat_tests), grind (arith, nat_tests), grind (arith, nat_tests), λ e. grind (arith, nat_tests))

-- .. and such an entry passes it
pub entry_test : (n : ℕ) (e : (ℕ × ℕ) × Entry) → IsEntryOf n e.0.0 e.0.1 e.1 → pair_fits n e ≡ true
entry_test n e h =
    ap (λ b. b && entry_fits n e.0.0 e.1.hops e.1.next) (ends_test n e.0.0 e.0.1 h.from h.to h.apart)
    ∙ rest e.1.hops e.1.next e.0.0 h.some_hops h.most_hops h.next h.moves
  where
    rest : (h z x : ℕ) → 1 ≤ h → h ≤ n - 1 → z < n → z ≢ x
        → ((nat_le 1 h && nat_le h (n - 1)) && (nat_lt z n && not (z == x))) ≡ true
    rest h z x b c f g = grind (arith, nat_tests)

-- ---- the form of an item's line, for edges and for pairs

-- what the item of a line looks like, where Few is what its digits say beyond its ranges
pub record IsForm {V : Type 0} (item_in : List ℕ → Option ((ℕ × ℕ) × V)) (fits : (ℕ × ℕ) × V → Bool)
    (line : (ℕ × ℕ) × V → List ℕ) (Few : (ℕ × ℕ) × V → Type 0) : Type 0 where
  pub parts : (l : List ℕ) (e : (ℕ × ℕ) × V) → item_in l ≡ Some e → (l ≡ line e) × Few e
  pub again : (e : (ℕ × ℕ) × V) → fits e ≡ true → Few e → (item_in (line e) ≡ Some e) × (avoids 10 (line e) ≡ true)

-- an item that is in range, and has few digits
pub record IsItem {V : Type 0} (fits : (ℕ × ℕ) × V → Bool) (Few : (ℕ × ℕ) × V → Type 0) (e : (ℕ × ℕ) × V) : Type 0 where
  pub fit : fits e ≡ true
  pub few : Few e

-- the lines of edges have the form of an item
pub edges_form : (n : ℕ) → n ≤ MOST_VERTICES → IsForm edge_in (edge_fits n) edge_line_text (λ _. Unit {0})
edges_form n most = record { parts = parts; again = again }
  where
    parts : (l : List ℕ) (e : (ℕ × ℕ) × ℕ) → edge_in l ≡ Some e → (l ≡ edge_line_text e) × Unit {0}
    parts l e h =
        let j = joint (numbers_by 32 3 l) edge_of_numbers e h in
        let ks : AreNumbers 32 3 l j.value = numbers_parts 32 2 l j.value j.first in
        (ks.text ∙ ap (parted 32) (edge_row j.value e j.second).is, tt)

    small : (e : (ℕ × ℕ) × ℕ) → IsEdgeOf n e.0.0 e.0.1 e.1 → AreSmall (e.0.0 ∷ e.0.1 ∷ e.1 ∷ [])
    small e h = (omega (arith, h.from, most), (omega (arith, h.to, most), (omega (arith, h.most), tt)))

    again : (e : (ℕ × ℕ) × ℕ) → edge_fits n e ≡ true → Unit {0} → (edge_in (edge_line_text e) ≡ Some e)
        × (avoids 10 (edge_line_text e) ≡ true)
    again e h few =
        let s : AreSmall (e.0.0 ∷ e.0.1 ∷ e.1 ∷ []) = small e (edge_from_test n e h) in (
          ap (λ o. o and_then edge_of_numbers) (numbers_again 32 e.0.0 (e.0.1 ∷ e.1 ∷ []) space_apart s),
          parted_avoids 10 32 (e.0.0 ∷ e.0.1 ∷ e.1 ∷ []) newline_apart refl s,
        )

-- the lines of pairs have the form of an item
pub pairs_form : (n : ℕ) → n ≤ MOST_VERTICES → IsForm pair_in (pair_fits n) pair_line_text (λ e. e.1.dist < 10 ^ 18)
pairs_form n most = record { parts = parts; again = again }
  where
    parts : (l : List ℕ) (e : (ℕ × ℕ) × Entry) → pair_in l ≡ Some e → (l ≡ pair_line_text e) × (e.1.dist < 10 ^ 18)
    parts l e h =
        let j = joint (numbers_by 32 5 l) pair_of_numbers e h in
        let ks : AreNumbers 32 5 l j.value = numbers_parts 32 4 l j.value j.first in
        let row = pair_row j.value e j.second in
        let there : AreSmall (e.0.0 ∷ e.0.1 ∷ e.1.dist ∷ e.1.hops ∷ e.1.next ∷ []) = subst AreSmall row.is ks.small in
        (ks.text ∙ ap (parted 32) row.is, there.1.1.0)

    small : (e : (ℕ × ℕ) × Entry) → IsEntryOf n e.0.0 e.0.1 e.1 → e.1.dist < 10 ^ 18
        → AreSmall (e.0.0 ∷ e.0.1 ∷ e.1.dist ∷ e.1.hops ∷ e.1.next ∷ [])
    small e h few = (
      omega (arith, h.from, most),
      (
        omega (arith, h.to, most),
        (few, (omega (arith, h.most_hops, most), (omega (arith, h.next, most), tt))),
      ),
    )

    again : (e : (ℕ × ℕ) × Entry) → pair_fits n e ≡ true → e.1.dist < 10 ^ 18 → (pair_in (pair_line_text e) ≡ Some e)
        × (avoids 10 (pair_line_text e) ≡ true)
    again e h few =
        let s : AreSmall (e.0.0 ∷ e.0.1 ∷ e.1.dist ∷ e.1.hops ∷ e.1.next ∷ []) =
        small e (entry_from_test n e h) few in (
          ap (λ o. o and_then pair_of_numbers) (numbers_again 32 e.0.0 (e.0.1 ∷ e.1.dist ∷ e.1.hops ∷ e.1.next ∷ []) space_apart s),
          parted_avoids 10 32 (e.0.0 ∷ e.0.1 ∷ e.1.dist ∷ e.1.hops ∷ e.1.next ∷ []) newline_apart refl s,
        )

-- ---- the form of an item's word behind the first number of its line

-- what the word of an item looks like, where Few is what its digits say beyond its ranges
pub record IsWordForm {V : Type 0} (item_in : ℕ → List ℕ → Option ((ℕ × ℕ) × V)) (fits : (ℕ × ℕ) × V → Bool)
    (word : (ℕ × ℕ) × V → List ℕ) (Few : (ℕ × ℕ) × V → Type 0) : Type 0 where
  pub parts : (u : ℕ) (w : List ℕ) (e : (ℕ × ℕ) × V) → item_in u w ≡ Some e → (w ≡ word e) × (e.0.0 ≡ u) × Few e
  pub again : (e : (ℕ × ℕ) × V) → fits e ≡ true → Few e → (item_in e.0.0 (word e) ≡ Some e)
      × (avoids 32 (word e) ≡ true) × (avoids 10 (word e) ≡ true)
  pub first : (e : (ℕ × ℕ) × V) → fits e ≡ true → e.0.0 < 10 ^ 18

-- the list behind the first of two equal ones
heads : (u v : ℕ) (ks ls : List ℕ) → ◌≡◌ {A = List ℕ} (u ∷ ks) (v ∷ ls) → (u ≡ v) × (ks ≡ ls)
heads u v ks ls e = (cc, cc)

-- the words of edges have the form of an item
pub edge_words_form : (n : ℕ) → n ≤ MOST_VERTICES
    → IsWordForm edge_in_word (edge_fits n) edge_word_text (λ _. Unit {0})
edge_words_form n most = record { parts = parts; again = again; first = first }
  where
    parts : (u : ℕ) (w : List ℕ) (e : (ℕ × ℕ) × ℕ) → edge_in_word u w ≡ Some e → (w ≡ edge_word_text e) × (e.0.0 ≡ u)
        × Unit {0}
    parts u w e h =
        let j = joint (numbers_by 58 2 w) (λ ks. edge_of_numbers (u ∷ ks)) e h in
        let ks : AreNumbers 58 2 w j.value = numbers_parts 58 1 w j.value j.first in
        let row = heads u e.0.0 j.value (e.0.1 ∷ e.1 ∷ []) (edge_row (u ∷ j.value) e j.second).is in
        (ks.text ∙ ap (parted 58) row.1, sym row.0, tt)

    small : (e : (ℕ × ℕ) × ℕ) → IsEdgeOf n e.0.0 e.0.1 e.1 → AreSmall (e.0.1 ∷ e.1 ∷ [])
    small e h = (omega (arith, h.to, most), (omega (arith, h.most), tt))

    again : (e : (ℕ × ℕ) × ℕ) → edge_fits n e ≡ true → Unit {0} → (edge_in_word e.0.0 (edge_word_text e) ≡ Some e)
        × (avoids 32 (edge_word_text e) ≡ true) × (avoids 10 (edge_word_text e) ≡ true)
    again e h few =
        let s : AreSmall (e.0.1 ∷ e.1 ∷ []) = small e (edge_from_test n e h) in (
          ap (λ o. o and_then (λ ks. edge_of_numbers (e.0.0 ∷ ks)))
              (numbers_again 58 e.0.1 (e.1 ∷ []) colon_apart s),
          parted_avoids 32 58 (e.0.1 ∷ e.1 ∷ []) space_apart refl s,
          parted_avoids 10 58 (e.0.1 ∷ e.1 ∷ []) newline_apart refl s,
        )

    first : (e : (ℕ × ℕ) × ℕ) → edge_fits n e ≡ true → e.0.0 < 10 ^ 18
    first e h = omega (arith, (edge_from_test n e h).from, most)

-- the words of pairs have the form of an item
pub pair_words_form : (n : ℕ) → n ≤ MOST_VERTICES
    → IsWordForm pair_in_word (pair_fits n) pair_word_text (λ e. e.1.dist < 10 ^ 18)
pair_words_form n most = record { parts = parts; again = again; first = first }
  where
    parts : (x : ℕ) (w : List ℕ) (e : (ℕ × ℕ) × Entry) → pair_in_word x w ≡ Some e → (w ≡ pair_word_text e)
        × (e.0.0 ≡ x) × (e.1.dist < 10 ^ 18)
    parts x w e h =
        let j = joint (numbers_by 58 4 w) (λ ks. pair_of_numbers (x ∷ ks)) e h in
        let ks : AreNumbers 58 4 w j.value = numbers_parts 58 3 w j.value j.first in
        let row = heads x e.0.0 j.value (e.0.1 ∷ e.1.dist ∷ e.1.hops ∷ e.1.next ∷ [])
        (pair_row (x ∷ j.value) e j.second).is in
        let there : AreSmall (e.0.1 ∷ e.1.dist ∷ e.1.hops ∷ e.1.next ∷ []) = subst AreSmall row.1 ks.small in
        (ks.text ∙ ap (parted 58) row.1, sym row.0, there.1.0)

    small : (e : (ℕ × ℕ) × Entry) → IsEntryOf n e.0.0 e.0.1 e.1 → e.1.dist < 10 ^ 18
        → AreSmall (e.0.1 ∷ e.1.dist ∷ e.1.hops ∷ e.1.next ∷ [])
    small e h few =
        (omega (arith, h.to, most), (few, (omega (arith, h.most_hops, most), (omega (arith, h.next, most), tt))))

    again : (e : (ℕ × ℕ) × Entry) → pair_fits n e ≡ true → e.1.dist < 10 ^ 18
        → (pair_in_word e.0.0 (pair_word_text e) ≡ Some e) × (avoids 32 (pair_word_text e) ≡ true)
        × (avoids 10 (pair_word_text e) ≡ true)
    again e h few =
        let s : AreSmall (e.0.1 ∷ e.1.dist ∷ e.1.hops ∷ e.1.next ∷ []) = small e (entry_from_test n e h) few in (
          ap (λ o. o and_then (λ ks. pair_of_numbers (e.0.0 ∷ ks)))
              (numbers_again 58 e.0.1 (e.1.dist ∷ e.1.hops ∷ e.1.next ∷ []) colon_apart s),
          parted_avoids 32 58 (e.0.1 ∷ e.1.dist ∷ e.1.hops ∷ e.1.next ∷ []) space_apart refl s,
          parted_avoids 10 58 (e.0.1 ∷ e.1.dist ∷ e.1.hops ∷ e.1.next ∷ []) newline_apart refl s,
        )

    first : (e : (ℕ × ℕ) × Entry) → pair_fits n e ≡ true → e.0.0 < 10 ^ 18
    first e h = omega (arith, (entry_from_test n e h).from, most)

-- ---- the numbers of a word, by their places

-- the item that the numbers of a word say
pub edge_word_is : (u : ℕ) (w ns : List ℕ) → numbers_by 58 2 w ≡ Some ns
    → edge_in_word u w ≡ Some ((u, slice_index ns 0), slice_index ns 1)
edge_word_is u w ns h = at ns (numbers_parts 58 1 w ns h).count h
  where
    at : (ns : List ℕ) → length ns ≡ 2 → numbers_by 58 2 w ≡ Some ns
        → edge_in_word u w ≡ Some ((u, slice_index ns 0), slice_index ns 1)
    at [] count h = absurd (omega (arith, count))
    at (a ∷ []) count h = absurd (omega (arith, count))
    at (a ∷ b ∷ []) count h = ap (λ o. o and_then (λ ks. edge_of_numbers (u ∷ ks))) h
    at (a ∷ b ∷ c ∷ ns) count h = absurd (omega (arith, count))

pub pair_word_is : (u : ℕ) (w ns : List ℕ) → numbers_by 58 4 w ≡ Some ns
    → (pair_in_word u w ≡ Some
    ((u, slice_index ns 0), record { dist = slice_index ns 1; hops = slice_index ns 2; next = slice_index ns 3 }))
    × (slice_index ns 1 < 10 ^ 18)
pair_word_is u w ns h =
    let p : AreNumbers 58 4 w ns = numbers_parts 58 3 w ns h in at ns p.count p.small h
  where
    at : (ns : List ℕ) → length ns ≡ 4 → AreSmall ns → numbers_by 58 4 w ≡ Some ns → (pair_in_word u w ≡ Some
        ((u, slice_index ns 0), record { dist = slice_index ns 1; hops = slice_index ns 2; next = slice_index ns 3 }))
        × (slice_index ns 1 < 10 ^ 18)
    at [] count small h = absurd (omega (arith, count))
    at (a ∷ []) count small h = absurd (omega (arith, count))
    at (a ∷ b ∷ []) count small h = absurd (omega (arith, count))
    at (a ∷ b ∷ c ∷ []) count small h = absurd (omega (arith, count))
    at (a ∷ b ∷ c ∷ d ∷ []) count small h = (ap (λ o. o and_then (λ ks. pair_of_numbers (u ∷ ks))) h, small.1.0)
    at (a ∷ b ∷ c ∷ d ∷ e ∷ ns) count small h = absurd (omega (arith, count))
