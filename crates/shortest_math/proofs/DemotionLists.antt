-- Demotions as lists: where the paths that are to be demoted come from, in which order they stand, and one turn of
-- the loop.
--
-- The mathematics. Historical paths are closed under parts, so each one with an edge is a historical extension,
-- behind its end, of its own
-- left part, and of no other path. So the single vertices, then their historical extensions behind, then those of
-- these, and so on, are all
-- historical paths by rising hops, each once; no simple walk has more vertices than the graph, so the levels end. The
-- levels put together
-- the other way round, without what is shortest, are the paths that are to be demoted, in falling hops. Of a path
-- with an edge it is read off
-- the least kept path of its pair whether it is shortest. A path that is formed again is never forgotten again, so
-- each demotion
-- forms at most one path.
use Rattle.std.specs.Prelude.{◌≡◌, ℕ, zero, suc, ◌+◌, ◌<◌, ◌≤◌, ◌⊎◌, ◌↔◌, List, [], ◌∷◌, ◌++◌, length, drop, refl, Contains}
use Rattle.std.proofs.Common.{ap, subst, arith, inl, inr}
use Rattle.std.proofs.lemmas.List.{length-append}
use Rattle.std.proofs.lemmas.List.Elements.{Contains-append_cases}
use Rattle.apsp_model.specs.Graph.{Graph}
use Rattle.apsp_model.specs.Walk.{IsWalk, IsOnceEach}
use Rattle.apsp_model.specs.Part.{IsProperPart, IsClosedUnderParts, left_part, right_part}
use Rattle.apsp_model.specs.Local.{IsVertex, IsLocal}
use Rattle.apsp_model.proofs.Lists.{left_and_last}
use Rattle.apsp_model.proofs.Locals.{left_is_part}
use Rattle.apsp_model.proofs.Simples.{simple_walk_is_short}
use Rattle.shortest_math.specs.Shortest.{IsLocallyShortest, IsFalling, IsDemoting, IsForgetting}
use Rattle.apsp_model.proofs.Members.{in_cons, in_nil, tail_in}
use Rattle.fixup_math.proofs.Forming.{contains_push}
use Rattle.shortest_math.proofs.Demotions.{forgot_all, above_is_extension, extension_length, next_demotion}
use Rattle.shortest_math.specs.Rising.{IsRisingBy}
use Rattle.fixup_math.proofs.Start.{vertex_of_one}

-- ---- falling hops

pub falling_append : (ps qs : List (List ℕ)) → IsFalling ps → IsFalling qs
    → ((p q : List ℕ) → Contains ps p → Contains qs q → length q ≤ length p) → IsFalling (ps ++ qs)
falling_append [] qs a b apart = b
falling_append (p ∷ ps) qs a b apart = (
  λ q c. elim (Contains-append_cases ps qs q c) [
    | inl front ↦ a.0 q front
    | inr behind ↦
        apart p q (0, omega arith, refl) behind
  ],
  falling_append ps qs a.1 b (λ r q c d. apart r q (tail_in r p ps c) d),
)

-- paths of one length stand in falling hops, in whatever order
pub falling_alike : (ps : List (List ℕ)) (k : ℕ) → ((p : List ℕ) → Contains ps p → length p ≡ k) → IsFalling ps
falling_alike [] k alike = tt
falling_alike (p ∷ ps) k alike = (
  λ q c. let e : length q ≡ k = alike q (tail_in q p ps c) in let f : length p ≡ k = alike p (0, omega arith, refl) in
      omega arith,
  falling_alike ps k (λ q c. alike q (tail_in q p ps c)),
)

pub falling_drop : (ps : List (List ℕ)) (i : ℕ) → IsFalling ps → IsFalling (drop i ps)
falling_drop ps zero h = h
falling_drop [] (suc i) h = tt
falling_drop (p ∷ ps) (suc i) h = falling_drop ps i h.1

pub once_drop : (ps : List (List ℕ)) (i : ℕ) → IsOnceEach ps → IsOnceEach (drop i ps)
once_drop ps zero h = h
once_drop [] (suc i) h = tt
once_drop (p ∷ ps) (suc i) h = once_drop ps i h.1

-- ---- the levels of the historical paths

module _ (g : Graph) (H : List ℕ → Type 0) (closed : IsClosedUnderParts H) (local : (p : List ℕ) → H p
    → IsLocal g H p) where
  longer_by_one : (p : List ℕ) → 0 < length p → length p ≡ length (left_part p) + 1
  longer_by_one p some = let split : (u : ℕ) × (p ≡ left_part p ++ u ∷ []) = left_and_last p some in
      omega (arith, ap length split.1, length-append (left_part p) (split.0 ∷ []))

  -- those of one vertex more are the historical extensions behind those of one level
  pub next_level : (k : ℕ) (p : List ℕ) → (H p × (length p ≡ suc (suc k)))
      ↔ ((q : List ℕ) × (H q × (length q ≡ suc k)) × H p × (left_part p ≡ q) × (0 < length p))
  next_level k p = (
    λ h.
        let some : 0 < length p = omega (arith, h.1) in (
          left_part p,
          (
            closed p (left_part p) h.0 (left_is_part p (omega (arith, h.1))).part,
            omega (arith, h.1, longer_by_one p some),
          ),
          h.0,
          refl,
          some,
        ),
    λ h. (h.2, omega (arith, h.1.1, ap length h.3, longer_by_one p h.4)),
  )

  -- the first level is the single vertices, and no level has more vertices than the graph
  pub first_level : (p : List ℕ) → H p → length p ≡ 1 → IsVertex g.vertices p
  first_level p h e = vertex_of_one g p (local p h).walk (omega (arith, e))

  pub last_level : (p : List ℕ) → H p → length p ≤ g.vertices
  last_level p h = simple_walk_is_short g p (local p h).walk (local p h).simple

  -- so what holds of the single vertices, and of a historical path where it holds of its left part, holds of all
  pub by_levels : (S : List ℕ → Type 0) → ((p : List ℕ) → IsVertex g.vertices p → S p)
      → ((p : List ℕ) → H p → 1 < length p → S (left_part p) → S p) → (p : List ℕ) → H p → S p
  by_levels S singles step p h = go (length p) p refl h
    where
      go : (k : ℕ) (p : List ℕ) → length p ≡ k → H p → S p
      go zero p e h = none p e (local p h).walk
        where
          none : (p : List ℕ) → length p ≡ 0 → IsWalk g p → S p
          none [] e walk = absurd walk
          none (x ∷ p) e walk = absurd (omega arith)
      go (suc zero) p e h = singles p (first_level p h e)
      go (suc (suc k)) p e h =
          let q = (next_level k p).0 (h, e) in
          step p h (omega (arith, e)) (go (suc k) (left_part p) (omega (arith, e, longer_by_one p (omega (arith, e))))
          (closed p (left_part p) h (left_is_part p (omega (arith, e))).part))

-- ---- one turn of the loop: h is a longest path that is to be demoted

module _ (g : Graph) (H0 H K Todo : List ℕ → Type 0) (s : IsDemoting g H0 H K Todo) (h : List ℕ) (todo : Todo h)
    (longest : (p : List ℕ) → Todo p → length p ≤ length h) where
  abbrev pub IsExtension : List ℕ → Type 0
  IsExtension p = (left_part p ≡ h) ⊎ (right_part p ≡ h)

  pub extension_is_above : (p : List ℕ) → K p → IsProperPart h p ↔ IsExtension p
  extension_is_above = above_is_extension g H0 H K Todo s h todo longest

  -- any list of its extensions stands in falling hops
  pub extensions_fall : (ps : List (List ℕ)) → ((p : List ℕ) → Contains ps p → K p × IsExtension p) → IsFalling ps
  extensions_fall ps inside = falling_alike ps (length h + 1) (λ p c. let i : K p × IsExtension p = inside p c in
      extension_length g H0 H K Todo s h todo longest p i.0 ((extension_is_above p i.0).1 i.1))

  -- done are all its kept extensions, K1 what is kept once they are forgotten, K2 without h, and K3 with h again
  -- where it is locally shortest; H1 is historical then
  pub turn_done : (H1 K1 K2 K3 Todo1 : List ℕ → Type 0) (done : List (List ℕ)) → IsForgetting K h done K1
      → ((p : List ℕ) → K p → IsExtension p → Contains done p) → ((p : List ℕ) → K2 p ↔ (K1 p × (p ≡ h → ⊥)))
      → ((p : List ℕ) → H1 p ↔ (H p × (p ≡ h → ⊥))) → ((p : List ℕ) → Todo1 p ↔ (Todo p × (p ≡ h → ⊥)))
      → ((p : List ℕ) → K3 p ↔ (K2 p ⊎ ((p ≡ h) × IsLocallyShortest g h))) → IsDemoting g H0 H1 K3 Todo1
  turn_done H1 K1 K2 K3 Todo1 done f all gone marked rest again =
      next_demotion g H0 H K Todo s h todo longest H1 Todo1 K2 K3 marked rest
      (λ p.
      let left : K1 p ↔ (K p × (IsProperPart h p → ⊥)) =
      forgot_all K h done K1 f (λ q k part. all q k ((extension_is_above q k).0 part)) p in (
        λ k. let m : K1 p × (p ≡ h → ⊥) = (gone p).0 k in (left.0 m.0, m.1),
        λ k. (gone p).1 (left.1 k.0, k.1),
      ))
      again

-- ---- the paths that are to be demoted as a list of rising hops, from whose end they are taken

abbrev pub IsRising : List (List ℕ) → Type 0
IsRising = IsRisingBy length

pub last_is_longest : (ps : List (List ℕ)) (h : List ℕ) → IsRising (ps ++ h ∷ []) → (p : List ℕ)
    → Contains (ps ++ h ∷ []) p → length p ≤ length h
last_is_longest [] h rising p c =
    elim (in_cons p h [] c) [ inl here ↦ omega (arith, ap length here) | inr more ↦ absurd (in_nil p more) ]
last_is_longest (q ∷ ps) h rising p c = elim (in_cons p q (ps ++ h ∷ []) c) [
  | inl here ↦ let l : length q ≤ length h = rising.0 h ((contains_push ps h h).1 (inr refl)) in
      omega (arith, ap length here, l)
  | inr more ↦ last_is_longest ps h rising.1 p more
]

pub rising_init : (ps : List (List ℕ)) (h : List ℕ) → IsRising (ps ++ h ∷ []) → IsRising ps
rising_init [] h rising = tt
rising_init (q ∷ ps) h rising = (λ p c. rising.0 p ((contains_push ps h p).1 (inl c)), rising_init ps h rising.1)

pub last_is_apart : (ps : List (List ℕ)) (h : List ℕ) → IsOnceEach (ps ++ h ∷ []) → Contains ps h → ⊥
last_is_apart [] h once c = in_nil h c
last_is_apart (q ∷ ps) h once c = elim (in_cons h q ps c) [
  | inl here ↦ once.0 ((contains_push ps h q).1 (inr here))
  | inr more ↦ last_is_apart ps h once.1 more
]

pub once_init : (ps : List (List ℕ)) (h : List ℕ) → IsOnceEach (ps ++ h ∷ []) → IsOnceEach ps
once_init [] h once = tt
once_init (q ∷ ps) h once = (λ c. once.0 ((contains_push ps h q).1 (inl c)), once_init ps h once.1)

pub todo_init : (ps : List (List ℕ)) (h : List ℕ) → IsOnceEach (ps ++ h ∷ []) → (p : List ℕ)
    → Contains ps p ↔ (Contains (ps ++ h ∷ []) p × (p ≡ h → ⊥))
todo_init ps h once p = (
  λ c. ((contains_push ps h p).1 (inl c), λ same. last_is_apart ps h once (subst (Contains ps) same c)),
  λ c. elim ((contains_push ps h p).0 c.0) [ inl before ↦ before | inr same ↦ absurd (c.1 same) ],
)

-- what a queue takes behind its end, level by level, keeps it rising
pub rising_push : (ps : List (List ℕ)) (p : List ℕ) → IsRising ps
    → ((q : List ℕ) → Contains ps q → length q ≤ length p) → IsRising (ps ++ p ∷ [])
rising_push [] p rising under = (λ q c. absurd (in_nil q c), tt)
rising_push (q ∷ ps) p rising under = (
  λ r c. elim ((contains_push ps p r).0 c) [
    | inl before ↦ rising.0 r before
    | inr same ↦ let l : length q ≤ length p =
        under q (0, omega arith, refl) in omega (arith, ap length same, l)
  ],
  rising_push ps p rising.1 (λ r c. under r (tail_in r q ps c)),
)

-- the path is formed again, or it is not
pub formed_again : (g : Graph) (h : List ℕ) (K2 K3 : List ℕ → Type 0) → IsLocallyShortest g h
    → ((p : List ℕ) → K3 p ↔ (K2 p ⊎ (p ≡ h))) → (p : List ℕ) → K3 p ↔ (K2 p ⊎ ((p ≡ h) × IsLocallyShortest g h))
formed_again g h K2 K3 yes_it formed p = (
  λ k. elim ((formed p).0 k) [ inl old ↦ inl old | inr same ↦ inr (same, yes_it) ],
  λ k. (formed p).1 (elim k [ inl old ↦ inl old | inr new ↦ inr new.0 ]),
)

pub not_formed_again : (g : Graph) (h : List ℕ) (K2 : List ℕ → Type 0) → (IsLocallyShortest g h → ⊥) → (p : List ℕ)
    → K2 p ↔ (K2 p ⊎ ((p ≡ h) × IsLocallyShortest g h))
not_formed_again g h K2 no_it p = (λ k. inl k, λ k. elim k [ inl old ↦ old | inr new ↦ absurd (no_it new.1) ])

-- a locally shortest path is above none that is to be demoted: so it is forgotten at its own demotion at most, and
-- once it is formed again it stays
pub locally_shortest_stays : (g : Graph) (H0 H K Todo : List ℕ → Type 0) → IsDemoting g H0 H K Todo → (p t : List ℕ)
    → IsLocallyShortest g p → Todo t → IsProperPart t p → ⊥
locally_shortest_stays g H0 H K Todo s p t l todo part = s.todo_apart t todo (l.parts t part)

-- ---- the end of the loop

pub none_left : (g : Graph) (H0 H K : List ℕ → Type 0) → IsDemoting g H0 H K (Contains []) → (p : List ℕ)
    → Contains [] p → ⊥
none_left g H0 H K s p c = in_nil p c

-- where a list says what is to be demoted
pub demoting_as_listed : (g : Graph) (H0 H K Todo Listed : List ℕ → Type 0) → ((p : List ℕ) → Todo p ↔ Listed p)
    → IsDemoting g H0 H K Todo → IsDemoting g H0 H K Listed
demoting_as_listed g H0 H K Todo Listed same s = record {
  closed = s.closed;
  old = s.old;
  local = s.local;
  historical = λ p. (
    λ h. elim ((s.historical p).0 h) [ inl yes_it ↦ inl yes_it | inr todo ↦ inr ((same p).0 todo) ],
    λ h. (s.historical p).1 (elim h [ inl yes_it ↦ inl yes_it | inr listed ↦ inr ((same p).1 listed) ]),
  );
  todo_apart = λ p listed yes_it. s.todo_apart p ((same p).1 listed) yes_it;
  kept = s.kept;
}
