-- Each stated value that is within the ranges has one verdict.
use Rattle.std.specs.Prelude.{◌≡◌, ◌≢◌, ℕ, zero, suc, ◌+◌, ◌<◌, ◌⊎◌, Option, Some, None, MatchOption, refl}
use Rattle.std.specs.declared.cmp.Ordering.{Ordering}
use Rattle.std.specs.declared.cmp.Ordering.TheVariants.{Less, Equal, Greater}
use Rattle.std.proofs.Common.{sym, ◌∙◌, ap, subst, inl, inr, arith}
use Rattle.std.proofs.lemmas.Bool.{cases_eq, cases_lt}
use Rattle.apsp_model.specs.Graph.{weight_at}
use Rattle.apsp_model.specs.Stated.{Stated, Entry, entry_at, entry_cmp, IsWay, through, StepHolds, NoSmaller, NoneMissing, IsInRange}
use Rattle.apsp_model.proofs.Certs.{passes_lawful, lawful_passes}
use Rattle.cert_check.specs.declared.Reason.{Reason}
use Rattle.cert_check.specs.declared.Reason.TheVariants.{Step, Smaller, Missing}
use Rattle.cert_check.specs.declared.Verdict.{Verdict}
use Rattle.cert_check.specs.declared.Verdict.TheVariants.{Yes, No}
use Rattle.cert_check.specs.Tests.{Passes, FailsFirst, IsBefore, IsFirstFailing, IsVerdict}
use Rattle.cert_check.specs.Pairs.{RowPasses, RowsPass}
use Rattle.cert_check.proofs.Passing.{fails_not_passes, no_rows, more_rows, first_failing, lawful, not_lawful}

some_same : {V : Type 0} (x y : V) → Some x ≡ Some y → x ≡ y
some_same x y e = cc

-- ---- ways

module _ (s : Stated) (x y : ℕ) where
  abbrev WayOver : ℕ → Type 0
  WayOver u = (w : ℕ) × (d : Entry) × IsWay s x u y w d

  abbrev NoWayOver : ℕ → Type 0
  NoWayOver u = (w : ℕ) (d : Entry) → IsWay s x u y w d → ⊥

  way_over : (u : ℕ) → WayOver u ⊎ NoWayOver u
  way_over u = at (weight_at s.graph x u) refl (entry_at s u y) refl
    where
      at : (o : Option ℕ) → weight_at s.graph x u ≡ o → (r : Option Entry) → entry_at s u y ≡ r → WayOver u
          ⊎ NoWayOver u
      at None a r b = inr (λ w d way. let e : Some w ≡ None = sym way.edge ∙ a in cc)
      at (Some w) a None b = inr (λ v d way. let e : Some d ≡ None = sym way.rest ∙ b in cc)
      at (Some w) a (Some d) b = inl (w, d, record { edge = a; rest = b })

  one_weight : (u w v : ℕ) (d c : Entry) → IsWay s x u y w d → IsWay s x u y v c → w ≡ v
  one_weight u w v d c a b = some_same w v (sym a.edge ∙ b.edge)

  one_rest : (u w v : ℕ) (d c : Entry) → IsWay s x u y w d → IsWay s x u y v c → d ≡ c
  one_rest u w v d c a b = some_same d c (sym a.rest ∙ b.rest)

  -- whether an edge to a vertex below k leads on to an entry
  some_way : (k : ℕ) → ((u : ℕ) × WayOver u) ⊎ ((u w : ℕ) (d : Entry) → u < k → IsWay s x u y w d → ⊥)
  some_way zero = inr (λ u w d p. absurd (omega (arith, p)))
  some_way (suc k) = elim (way_over k) [
    | inl way ↦ inl (k, way)
    | inr none ↦ elim (some_way k) [
      | inl way ↦ inl way
      | inr others ↦ inr (λ u w d p way. elim (cases_eq u k) [
        | inl same ↦ none w d (subst (λ j. IsWay s x j y w d) same way)
        | inr apart ↦ others u w d (omega (arith, p, apart)) way
      ])
    ]
  ]

  -- whether one makes less than an entry
  abbrev MakesLess : Entry → ℕ → ℕ → Entry → Type 0
  MakesLess e u w d = entry_cmp (through u w d) e ≡ Less

  is_less : (o : Ordering) → (o ≡ Less) ⊎ (o ≡ Less → ⊥)
  is_less Less = inl refl
  is_less Equal = inr (λ e. cc)
  is_less Greater = inr (λ e. cc)

  smaller_over : (e : Entry) (u : ℕ) → ((w : ℕ) × (d : Entry) × IsWay s x u y w d × MakesLess e u w d)
      ⊎ ((w : ℕ) (d : Entry) → IsWay s x u y w d → MakesLess e u w d → ⊥)
  smaller_over e u = elim (way_over u) [
    | inr none ↦ inr (λ w d way less. none w d way)
    | inl found ↦ elim (is_less (entry_cmp (through u found.0 found.1) e)) [
      | inl less ↦ inl (found.0, found.1, found.2, less)
      | inr not_less ↦ inr (λ w d way less.
          let F : ℕ → Type 0 = λ v. MakesLess e u v found.1 in
          let G : Entry → Type 0 = λ c. MakesLess e u w c in
          not_less (subst F (one_weight u w found.0 d found.1 way found.2)
          (subst G (one_rest u w found.0 d found.1 way found.2) less)))
    ]
  ]

  some_smaller : (e : Entry) (k : ℕ) → ((u : ℕ) × (w : ℕ) × (d : Entry) × IsWay s x u y w d × MakesLess e u w d)
      ⊎ ((u w : ℕ) (d : Entry) → u < k → IsWay s x u y w d → MakesLess e u w d → ⊥)
  some_smaller e zero = inr (λ u w d p. absurd (omega (arith, p)))
  some_smaller e (suc k) = elim (smaller_over e k) [
    | inl f ↦ inl (k, f.0, f.1, f.2, f.3)
    | inr none ↦ elim (some_smaller e k) [
      | inl found ↦ inl found
      | inr others ↦ inr (λ u w d p way less. elim (cases_eq u k) [
        | inl same ↦ none w d (subst (λ j. IsWay s x j y w d) same way) (subst (λ j. MakesLess e j w d) same less)
        | inr apart ↦ others u w d (omega (arith, p, apart)) way less
      ])
    ]
  ]

  -- whether an entry is made of the edge to its next vertex and the entry from there on
  step_or_not : (e : Entry) → StepHolds s x y e ⊎ (StepHolds s x y e → ⊥)
  step_or_not e = elim (way_over e.next) [
    | inr none ↦ inr (λ h. none h.0 h.1 h.2)
    | inl found ↦ elim (cases_eq e.dist (found.0 + found.1.dist)) [
      | inr other ↦ inr (λ h. other (ap (λ (c : Entry). c.dist) h.3
          ∙ (λ i. one_weight e.next h.0 found.0 h.1 found.1 h.2 found.2 i +
          (one_rest e.next h.0 found.0 h.1 found.1 h.2 found.2 i).dist)))
      | inl dist ↦ elim (cases_eq e.hops (1 + found.1.hops)) [
        | inr other ↦ inr (λ h. other (ap (λ (c : Entry). c.hops) h.3
            ∙ (λ i. 1 + (one_rest e.next h.0 found.0 h.1 found.1 h.2 found.2 i).hops)))
        | inl hops ↦ inl (found.0, found.1, found.2, λ i. record { dist = dist i; hops = hops i; next = e.next })
      ]
    ]
  ]

-- ---- pairs

-- the ends of edges are vertices
edge_inside : (s : Stated) (x u y w : ℕ) (d : Entry) → IsInRange s → IsWay s x u y w d → u < s.graph.vertices
edge_inside s x u y w d range way = (range.graph.edges x u w way.edge).to

abbrev PairOutcome : Stated → ℕ → ℕ → Type 0
PairOutcome s x y = Passes s x y ⊎ ((r : Reason) × FailsFirst s x y r)

pair_outcome : (s : Stated) (x y : ℕ) → IsInRange s → PairOutcome s x y
pair_outcome s x y range = at (entry_at s x y) refl
  where
    passes_with : (o : Option Entry) → entry_at s x y ≡ o
        → MatchOption o (NoneMissing s x y) (λ e. StepHolds s x y e × NoSmaller s x y e) → Passes s x y
    passes_with o is h =
        let F : Option Entry → Type 0 =
        λ r. MatchOption r (NoneMissing s x y) (λ e. StepHolds s x y e × NoSmaller s x y e) in
        subst F (sym is) h

    at : (o : Option Entry) → entry_at s x y ≡ o → PairOutcome s x y
    at None is = elim (some_way s x y s.graph.vertices) [
      | inl found ↦ inr (Missing, (is, λ none. none found.0 found.1.0 found.1.1 found.1.2))
      | inr none ↦ inl (passes_with None is (λ u w d way. none u w d (edge_inside s x u y w d range way) way))
    ]
    at (Some e) is = elim (step_or_not s x y e) [
      | inr not ↦ inr (Step, (e, is, not))
      | inl step ↦ elim (some_smaller s x y e s.graph.vertices) [
        | inl found ↦ inr (Smaller, (e, is, step, λ none. none found.0 found.1 found.2 found.3 found.4))
        | inr none ↦ inl (passes_with (Some e) is
            (step, λ u w d way less. none u w d (edge_inside s x u y w d range way) way less))
      ]
    ]

abbrev RowOutcome : Stated → ℕ → ℕ → Type 0
RowOutcome s x k = RowPasses s x k ⊎ ((y : ℕ) × (r : Reason) × (y < k) × (x ≢ y) × FailsFirst s x y r × RowPasses s x y)

row_outcome : (s : Stated) (x k : ℕ) → IsInRange s → RowOutcome s x k
row_outcome s x zero range = inl (λ y p. absurd (omega (arith, p)))
row_outcome s x (suc k) range = elim (row_outcome s x k range) [
  | inr f ↦ inr (f.0, f.1, omega (arith, f.2), f.3, f.4, f.5)
  | inl passes ↦ elim (cases_eq x k) [
    | inl own ↦ inl (λ y p apart. passes y (omega (arith, p, own, apart)) apart)
    | inr apart ↦ elim (pair_outcome s x k range) [
      | inr f ↦ inr (k, f.0, omega arith, apart, f.1, passes)
      | inl pass ↦ inl (λ y p other. elim (cases_eq y k) [
        | inl same ↦ subst (λ j. Passes s x j) (sym same) pass
        | inr less ↦ passes y (omega (arith, p, less)) other
      ])
    ]
  ]
]

abbrev AllOutcome : Stated → ℕ → Type 0
AllOutcome s k = RowsPass s k ⊎ ((x : ℕ) × (y : ℕ) × (r : Reason) × IsFirstFailing s x y r)

all_outcome : (s : Stated) (k : ℕ) → IsInRange s → (k < s.graph.vertices + 1) → AllOutcome s k
all_outcome s zero range below = inl (no_rows s)
all_outcome s (suc k) range below = elim (all_outcome s k range (omega (arith, below))) [
  | inr f ↦ inr f
  | inl passes ↦ elim (row_outcome s k s.graph.vertices range) [
    | inl row ↦ inl (let F : ℕ → Type 0 = λ j. RowsPass s j in let one : k + 1 ≡ suc k = omega arith in
        subst F one (more_rows s k passes row))
    | inr f ↦ inr (k, f.0, f.1, first_failing s k f.0 f.1 passes (omega (arith, below)) f.2 f.3 f.4 f.5)
  ]
]

-- ---- verdicts

pub verdict_exists : (s : Stated) → IsInRange s → (v : Verdict) × IsVerdict s v
verdict_exists s range = elim (all_outcome s s.graph.vertices range (omega arith)) [
  | inl passes ↦ (
    Yes s.number,
    (
      lawful s s.graph.vertices (passes_lawful s range, lawful_passes s range) passes
          (omega arith),
      refl,
    ),
  )
  | inr f ↦ (
    No f.0 f.1 f.2,
    (
      not_lawful s f.0 f.1 f.2 (passes_lawful s range, lawful_passes s range) f.3.from f.3.to
          f.3.apart f.3.fails,
      f.3,
    ),
  )
]

same_reason : (s : Stated) (x y : ℕ) (r q : Reason) → FailsFirst s x y r → FailsFirst s x y q → r ≡ q
same_reason s x y Step Step h k = refl
same_reason s x y Smaller Smaller h k = refl
same_reason s x y Missing Missing h k = refl
same_reason s x y Step Smaller h k =
    absurd (h.2 (subst (λ e. StepHolds s x y e) (some_same k.0 h.0 (sym k.1 ∙ h.1)) k.2))
same_reason s x y Smaller Step h k =
    absurd (k.2 (subst (λ e. StepHolds s x y e) (some_same h.0 k.0 (sym h.1 ∙ k.1)) h.2))
same_reason s x y Step Missing h k = let e : Some h.0 ≡ None = sym h.1 ∙ k.0 in cc
same_reason s x y Missing Step h k = let e : Some k.0 ≡ None = sym k.1 ∙ h.0 in cc
same_reason s x y Smaller Missing h k = let e : Some h.0 ≡ None = sym h.1 ∙ k.0 in cc
same_reason s x y Missing Smaller h k = let e : Some k.0 ≡ None = sym k.1 ∙ h.0 in cc

-- of two first failing pairs none stands before the other
not_before : (s : Stated) (x y a b : ℕ) (r q : Reason) → IsFirstFailing s x y r → IsFirstFailing s a b q
    → IsBefore x y a b → ⊥
not_before s x y a b r q h k before = fails_not_passes s x y r h.fails (k.before x y h.from h.to h.apart before)

same_failing : (s : Stated) (x y a b : ℕ) (r q : Reason) → IsFirstFailing s x y r → IsFirstFailing s a b q
    → No x y r ≡ No a b q
same_failing s x y a b r q h k =
    let from : x ≡ a = elim (cases_eq x a) [
      | inl same ↦ same
      | inr apart ↦ elim (cases_lt x a) [
        | inl less ↦ absurd (not_before s x y a b r q h k (inl less))
        | inr more ↦ absurd (not_before s a b x y q r k h (inl (omega (arith, more, apart))))
      ]
    ] in
    let to : y ≡ b = elim (cases_eq y b) [
      | inl same ↦ same
      | inr apart ↦ elim (cases_lt y b) [
        | inl less ↦ absurd (not_before s x y a b r q h k (inr (from, less)))
        | inr more ↦ absurd (not_before s a b x y q r k h (inr (sym from, omega (arith, more, apart))))
      ]
    ] in
    let F : ℕ → Type 0 = λ i. FailsFirst s i b q in
    let G : ℕ → Type 0 = λ j. FailsFirst s x j q in
    let reason : r ≡ q = same_reason s x y r q h.fails (subst G (sym to) (subst F (sym from) k.fails)) in
    λ i. No (from i) (to i) (reason i)

pub one_verdict : (s : Stated) (v w : Verdict) → IsVerdict s v → IsVerdict s w → v ≡ w
one_verdict s (Yes k) (Yes l) h j = ap Yes (h.1 ∙ sym j.1)
one_verdict s (Yes k) (No a b q) h j = absurd (j.0 h.0)
one_verdict s (No x y r) (Yes l) h j = absurd (h.0 j.0)
one_verdict s (No x y r) (No a b q) h j = same_failing s x y a b r q h.1 j.1
