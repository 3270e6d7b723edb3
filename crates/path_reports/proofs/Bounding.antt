-- The diameter and the radius, vertex by vertex, and what is central.
use Rattle.std.specs.Prelude.{◌≡◌, ◌≢◌, zero, suc, ℕ, ◌+◌, ◌-◌, ◌<◌, ◌≤◌, ◌⊎◌, max, min, List, [], ◌∷◌, length, Contains, Option, Some, None, slice_index_or, refl}
use Rattle.std.specs.List.{AllZip, range_with_len}
use Rattle.std.proofs.Common.{sym, ◌∙◌, subst, inl, inr, arith}
use Rattle.std.proofs.lemmas.Bool.{cases_lt}
use Rattle.apsp_model.specs.Graph.{Graph, IsGraph}
use Rattle.apsp_model.specs.Walk.{IsOnceEach}
use Rattle.apsp_model.proofs.Members.{in_cons, in_nil, head_in, tail_in}
use Rattle.path_reports.specs.Reports.{IsFar, IsReach, IsSpan, IsDiameter, IsRadius, ReachesAll, IsCentral}
use Rattle.path_reports.specs.Spans.{IsDiameterBelow, IsRadiusBelow, AreSpans, AreBounds}
use Rattle.path_reports.specs.declared.reports.Span.{Span}
use Rattle.path_reports.specs.declared.summaries.Bounds.{Bounds}

-- a list with one entry taken out
record Without (ys : List ℕ) (x : ℕ) : Type 0 where
  rest : List ℕ
  shorter : length ys ≡ length rest + 1
  still : (y : ℕ) → Contains ys y → (x ≡ y → ⊥) → Contains rest y

without : (ys : List ℕ) (x : ℕ) → Contains ys x → Without ys x
without [] x c = absurd (in_nil x c)
without (y ∷ ys) x c = elim (in_cons x y ys c) [
  | inl same ↦ record {
    rest = ys;
    shorter = omega arith;
    still = λ z d apart. elim (in_cons z y ys d) [ inl here ↦ absurd (apart (sym same ∙ here)) | inr more ↦ more ];
  }
  | inr more ↦
      let w = without ys x more in
      record {
        rest = y ∷ w.rest;
        shorter = let e : length ys ≡ length w.rest + 1 = w.shorter in omega arith;
        still = λ z d apart. elim (in_cons z y ys d)
            [ inl here ↦ head_in z y w.rest here | inr later ↦ tail_in z y w.rest (w.still z later apart) ];
      }
]

once_is_short : (xs ys : List ℕ) → IsOnceEach xs → ((x : ℕ) → Contains xs x → Contains ys x) → length xs ≤ length ys
once_is_short [] ys once inside = omega arith
once_is_short (x ∷ xs) ys once inside =
    let w : Without ys x = without ys x (inside x (head_in x x xs refl)) in
    let rest : length xs ≤ length w.rest =
    once_is_short xs w.rest once.1 (λ y c. w.still y (inside y (tail_in y x xs c))
    (λ same. once.0 (subst (Contains xs) (sym same) c))) in
    let e : length ys ≡ length w.rest + 1 = w.shorter in
    omega arith

pub far_unique : (g : Graph) (x a b : ℕ) → IsFar g x a → IsFar g x b → a ≡ b
far_unique g x a b h k = omega (arith, k.most h.some.0 a h.some.1, h.most k.some.0 b k.some.1)

pub reach_unique : (g : Graph) (x a b : ℕ) → IsReach g x a → IsReach g x b → a ≡ b
reach_unique g x a b h k =
    let up : length h.vertices ≤ length k.vertices =
    once_is_short h.vertices k.vertices h.once (λ y c. (k.exact y).1 ((h.exact y).0 c)) in
    let down : length k.vertices ≤ length h.vertices =
    once_is_short k.vertices h.vertices k.once (λ y c. (h.exact y).1 ((k.exact y).0 c)) in
    let e : length h.vertices ≡ a = h.length_is in
    let f : length k.vertices ≡ b = k.length_is in
    omega arith

below_or_here : (y k : ℕ) → y < k + 1 → (y < k) ⊎ (y ≡ k)
below_or_here y k h = elim (cases_lt y k) [ inl less ↦ inl less | inr more ↦ inr (omega (arith, h, more)) ]

pub no_bounds_yet : (g : Graph) → AreBounds g 0 (record { diameter = 0; radius = None })
no_bounds_yet g = record {
  diameter = record { some = inl (refl, refl); most = λ x far below h. absurd (omega (arith, below)) };
  radius = λ x below h. absurd (omega (arith, below));
}

wider : (g : Graph) (k d far : ℕ) → IsFar g k far → IsDiameterBelow g k d → IsDiameterBelow g (k + 1) (max d far)
wider g k d far here h = record {
  some = inr (elim (cases_lt d far) [
    | inl less ↦ let e : far ≡ max d far = omega (arith, less) in (k, omega arith, subst (IsFar g k) e here)
    | inr more ↦ let e : d ≡ max d far = omega (arith, more) in elim h.some [
      | inl none ↦ let z : far ≡ max d far = omega (arith, none.1, more) in (k, omega arith, subst (IsFar g k) z here)
      | inr some ↦ (some.0, omega (arith, some.1), subst (IsFar g some.0) e some.2)
    ]
  ]);
  most = λ x f below has. elim (below_or_here x k below) [
    | inl less ↦ omega (arith, h.most x f less has)
    | inr same ↦ let s : f ≡ far = far_unique g k f far (subst (λ z. IsFar g z f) same has) here in omega (arith, s)
  ];
}

pub not_whole : (g : Graph) (x : ℕ) (s : Span) → IsSpan g x s → s.reach ≢ g.vertices → ReachesAll g x → ⊥
not_whole g x s h apart all = apart (reach_unique g x s.reach g.vertices h.reach all.1)

pub whole : (g : Graph) (x : ℕ) (s : Span) → x < g.vertices → IsSpan g x s → s.reach ≡ g.vertices → ReachesAll g x
whole g x s inside h e = (inside, subst (IsReach g x) e h.reach)

-- ---- the span at a place

spans_from : (g : Graph) (k m i : ℕ) (spans : List Span) → AllZip (λ x s. IsSpan g x s) (range_with_len k m) spans
    → i < m → (i < length spans) × ((d : Span) → IsSpan g (k + i) (slice_index_or spans i d))
spans_from g k zero i spans h below = absurd (omega (arith, below))
spans_from g k (suc m) i [] h below = absurd h
spans_from g k (suc m) zero (s ∷ ss) h below =
    (omega arith, λ d. let e : k ≡ k + 0 = omega arith in subst (λ z. IsSpan g z s) e h.0)
spans_from g k (suc m) (suc i) (s ∷ ss) h below =
    let r = spans_from g (k + 1) m i ss h.1 (omega (arith, below)) in
    let e : k + 1 + i ≡ k + suc i = omega arith in
    (omega (arith, r.0), λ d. subst (λ z. IsSpan g z (slice_index_or ss i d)) e (r.1 d))

pub spans_inside : (g : Graph) (x : ℕ) (spans : List Span) → AreSpans g spans → x < g.vertices → x < length spans
spans_inside g x spans h below = (spans_from g 0 (g.vertices - 0) x spans h (omega (arith, below))).0

pub span_at : (g : Graph) (x : ℕ) (spans : List Span) (d : Span) → AreSpans g spans → x < g.vertices
    → IsSpan g x (slice_index_or spans x d)
span_at g x spans d h below =
    let e : 0 + x ≡ x = omega arith in
    subst (λ z. IsSpan g z (slice_index_or spans x d)) e
    ((spans_from g 0 (g.vertices - 0) x spans h (omega (arith, below))).1 d)

-- ---- one vertex more

same_radius : (g : Graph) (x : ℕ) (r : Option ℕ) → (ReachesAll g x → ⊥) → IsRadiusBelow g x r
    → IsRadiusBelow g (x + 1) r
same_radius g x None not_all h = λ y below all. elim (below_or_here y x below) [
  | inl less ↦ h y less all
  | inr here ↦ not_all (subst (ReachesAll g) here all)
]
same_radius g x (Some r) not_all h = (
  h.0,
  λ y far below all is. elim (below_or_here y x below) [
    | inl less ↦ h.1 y far less all is
    | inr here ↦ absurd (not_all (subst (ReachesAll g) here all))
  ],
)

pub with_part : (g : Graph) (x n : ℕ) (b : Bounds) (s : Span) → n ≡ g.vertices → IsSpan g x s → s.reach ≢ n
    → AreBounds g x b → AreBounds g (x + 1) (record { diameter = max b.diameter s.far; radius = b.radius })
with_part g x n b s e h apart bounds = record {
  diameter = wider g x b.diameter s.far h.far bounds.diameter;
  radius = same_radius g x b.radius (not_whole g x s h (λ same. apart (same ∙ sym e))) bounds.radius;
}

first_radius : (g : Graph) (x far : ℕ) → ReachesAll g x → IsFar g x far → IsRadiusBelow g x None
    → IsRadiusBelow g (x + 1) (Some far)
first_radius g x far all is h = (
  (x, all, is),
  λ y f below reaches has. elim (below_or_here y x below) [
    | inl less ↦ absurd (h y less reaches)
    | inr here ↦ let s : f ≡ far = far_unique g x f far (subst (λ z. IsFar g z f) here has) is in omega (arith, s)
  ],
)

lesser_radius : (g : Graph) (x r far : ℕ) → ReachesAll g x → IsFar g x far → IsRadiusBelow g x (Some r)
    → IsRadiusBelow g (x + 1) (Some (min r far))
lesser_radius g x r far all is h = (
  elim (cases_lt far r) [
    | inl less ↦ let e : far ≡ min r far = omega (arith, less) in (x, all, subst (IsFar g x) e is)
    | inr more ↦ let e : r ≡ min r far = omega (arith, more) in (h.0.0, h.0.1, subst (IsFar g h.0.0) e h.0.2)
  ],
  λ y f below reaches has. elim (below_or_here y x below) [
    | inl less ↦ omega (arith, h.1 y f less reaches has)
    | inr here ↦ let s : f ≡ far = far_unique g x f far (subst (λ z. IsFar g z f) here has) is in omega (arith, s)
  ],
)

pub with_first : (g : Graph) (x n : ℕ) (b : Bounds) (s : Span) → n ≡ g.vertices → x < g.vertices → IsSpan g x s
    → s.reach ≡ n → b.radius ≡ None → AreBounds g x b
    → AreBounds g (x + 1) (record { diameter = max b.diameter s.far; radius = Some s.far })
with_first g x n b s e inside h all none bounds = record {
  diameter = wider g x b.diameter s.far h.far bounds.diameter;
  radius = first_radius g x s.far (whole g x s inside h (all ∙ e)) h.far (subst (IsRadiusBelow g x) none bounds.radius);
}

pub with_lesser : (g : Graph) (x n r : ℕ) (b : Bounds) (s : Span) → n ≡ g.vertices → x < g.vertices → IsSpan g x s
    → s.reach ≡ n → b.radius ≡ Some r → AreBounds g x b
    → AreBounds g (x + 1) (record { diameter = max b.diameter s.far; radius = Some (min r s.far) })
with_lesser g x n r b s e inside h all some bounds = record {
  diameter = wider g x b.diameter s.far h.far bounds.diameter;
  radius = lesser_radius g x r s.far (whole g x s inside h (all ∙ e)) h.far
      (subst (IsRadiusBelow g x) some bounds.radius);
}

-- ---- all vertices

pub diameter_done : (g : Graph) (b : Bounds) → IsGraph g → AreBounds g g.vertices b → IsDiameter g b.diameter
diameter_done g b graph h = record {
  some = elim h.diameter.some [ inl none ↦ absurd (omega (arith, none.0, graph.some)) | inr some ↦ some ];
  most = h.diameter.most;
}

pub radius_done : (g : Graph) (r : Option ℕ) → IsRadiusBelow g g.vertices r → IsRadius g r
radius_done g None h = λ x all. h x all.0 all
radius_done g (Some r) h = (h.0, λ x far all is. h.1 x far all.0 all is)

-- ---- the centre

pub central_if : (g : Graph) (x n : ℕ) (s : Span) (radius : Option ℕ) → n ≡ g.vertices → x < g.vertices → IsSpan g x s
    → s.reach ≡ n → radius ≡ Some s.far → IsCentral g radius x
central_if g x n s radius e inside h all is = (whole g x s inside h (all ∙ e), (s.far, is, h.far))

pub central_only_whole : (g : Graph) (x n : ℕ) (s : Span) (radius : Option ℕ) → n ≡ g.vertices → IsSpan g x s
    → s.reach ≢ n → IsCentral g radius x → ⊥
central_only_whole g x n s radius e h apart c = not_whole g x s h (λ same. apart (same ∙ sym e)) c.0

some_same : (a b : ℕ) → Some a ≡ Some b → a ≡ b
some_same a b e = cc

pub central_only_near : (g : Graph) (x r : ℕ) (s : Span) (radius : Option ℕ) → IsSpan g x s → radius ≡ Some r
    → s.far ≢ r → IsCentral g radius x → ⊥
central_only_near g x r s radius h is apart c =
    apart (far_unique g x s.far c.1.0 h.far c.1.2 ∙ some_same c.1.0 r (sym c.1.1 ∙ is))

pub central_only_some : (g : Graph) (x : ℕ) (radius : Option ℕ) → radius ≡ None → IsCentral g radius x → ⊥
central_only_some g x radius none c = let e : None ≡ Some c.1.0 = sym none ∙ c.1.1 in cc
