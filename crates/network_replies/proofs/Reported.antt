-- Each of `ecc`, `report` and `through` has one reply. What stands above cites it: a session has one text.
use Rattle.std.specs.Prelude.{◌≡◌, ◌≢◌, zero, suc, ℕ, ◌+◌, ◌-◌, ◌*◌, ◌/◌, ◌%◌, ◌<◌, ◌≤◌, ◌⊎◌, max, min, List, [], ◌∷◌, length, Contains, Option, Some, None, filter_map, refl}
use Rattle.std.specs.List.{AllZip, AllPairs, range_with_len}
use Rattle.std.proofs.Common.{sym, ◌∙◌, ap, subst, inl, inr, arith}
use Rattle.std.proofs.lemmas.Bool.{cases_eq}
use Rattle.apsp_model.specs.Graph.{Graph, IsGraph}
use Rattle.apsp_model.specs.Least.{LeastIs}
use Rattle.apsp_model.proofs.Exists.{least_is_some_option}
use Rattle.apsp_model.proofs.Leasts.{least_unique}
use Rattle.apsp_model.proofs.Members.{in_cons, in_nil, head_in, tail_in}
use Rattle.version_face.specs.declared.TheConstants.{NO_DISTANCE}
use Rattle.version_face.specs.Entries.{dist_in}
use Rattle.version_face.specs.Seen.{DistIs}
use Rattle.path_reports.specs.Reports.{IsSpan, IsSummary, IsDiameter, IsRadius, IsCentre, IsCentral, IsPassing, ArePassing, row_place}
use Rattle.path_reports.specs.Spans.{IsSpanBelow, AreBounds, IsCentralPick, IsPassingPick}
use Rattle.path_reports.specs.declared.reports.Span.{Span}
use Rattle.path_reports.specs.declared.reports.Summary.{Summary}
use Rattle.path_reports.specs.declared.reports.Pair.{Pair}
use Rattle.path_reports.specs.declared.summaries.Bounds.{Bounds}
use Rattle.path_reports.proofs.Reaches.{span_starts, span_reached, span_missed, span_done}
use Rattle.path_reports.proofs.Bounding.{far_unique, reach_unique, no_bounds_yet, with_part, with_first, with_lesser, diameter_done, radius_done, central_if, central_only_whole, central_only_near, central_only_some}
use Rattle.path_reports.proofs.Passed.{passing_found, centre_found}
use Rattle.network_replies.specs.Replies.{ecc_text, report_text, through_text}
use Rattle.network_replies.specs.Reporting.{IsEccReply, IsReportReply, IsThroughReply}

-- ---- spans

record HasSpanBelow (g : Graph) (x k : ℕ) : Type 0 where
  far : ℕ
  reach : ℕ
  is : IsSpanBelow g x k far reach

one_cell_more : (g : Graph) (x k d : ℕ) → IsGraph g → DistIs g x k d → HasSpanBelow g x k → HasSpanBelow g x (k + 1)
one_cell_more g x k d graph cell b = elim (cases_eq d NO_DISTANCE) [
  | inl none ↦ record {
    far = b.far;
    reach = b.reach;
    is = span_missed g x k d b.far b.reach graph cell none b.is;
  }
  | inr some ↦ record {
    far = max b.far d;
    reach = b.reach + 1;
    is = span_reached g x k d b.far b.reach cell some b.is;
  }
]

span_below : (g : Graph) (x k : ℕ) → IsGraph g → x < g.vertices → HasSpanBelow g x k
span_below g x zero graph inside = record { far = 0; reach = 0; is = span_starts g x inside }
span_below g x (suc k) graph inside =
    let o = least_is_some_option g x k in
    let cell : DistIs g x k (dist_in g o.0) = (o.0, o.1, refl) in
    let one : k + 1 ≡ suc k = omega arith in
    subst (HasSpanBelow g x) one
    (one_cell_more g x k (dist_in g o.0) graph cell (span_below g x k graph inside))

span_exists : (g : Graph) (x : ℕ) → IsGraph g → x < g.vertices → (s : Span) × IsSpan g x s
span_exists g x graph inside =
    let b : HasSpanBelow g x g.vertices = span_below g x g.vertices graph inside in
    let s : Span = record { far = b.far; reach = b.reach } in
    (s, span_done g x s b.is)

one_span : (g : Graph) (x : ℕ) (s t : Span) → IsSpan g x s → IsSpan g x t → s ≡ t
one_span g x s t h k =
    let far : s.far ≡ t.far = far_unique g x s.far t.far h.far k.far in
    let reach : s.reach ≡ t.reach = reach_unique g x s.reach t.reach h.reach k.reach in
    λ i. record { far = far i; reach = reach i }

pub ecc_exists : (g : Graph) (x : ℕ) → IsGraph g → x < g.vertices → (text : List ℕ) × IsEccReply g x text
ecc_exists g x graph inside = let s = span_exists g x graph inside in (ecc_text x s.0, (s.0, s.1, refl))

pub one_ecc : (g : Graph) (x : ℕ) (t u : List ℕ) → IsEccReply g x t → IsEccReply g x u → t ≡ u
one_ecc g x t u h k = h.2 ∙ ap (ecc_text x) (one_span g x h.0 k.0 h.1 k.1) ∙ sym k.2

-- ---- the diameter and the radius

record HasBounds (g : Graph) (k : ℕ) : Type 0 where
  bounds : Bounds
  are : AreBounds g k bounds

whole_more : (g : Graph) (x : ℕ) (s : Span) (b : Bounds) (r : Option ℕ) → x < g.vertices → IsSpan g x s
    → s.reach ≡ g.vertices → AreBounds g x b → b.radius ≡ r → HasBounds g (x + 1)
whole_more g x s b None inside span all are none = record {
  bounds = record { diameter = max b.diameter s.far; radius = Some s.far };
  are = with_first g x g.vertices b s refl inside span all none are;
}
whole_more g x s b (Some r) inside span all are some = record {
  bounds = record { diameter = max b.diameter s.far; radius = Some (min r s.far) };
  are = with_lesser g x g.vertices r b s refl inside span all some are;
}

one_vertex_more : (g : Graph) (x : ℕ) (s : Span) (b : Bounds) → x < g.vertices → IsSpan g x s → AreBounds g x b
    → HasBounds g (x + 1)
one_vertex_more g x s b inside span are = elim (cases_eq s.reach g.vertices) [
  | inl all ↦ whole_more g x s b b.radius inside span all are refl
  | inr part ↦ record {
    bounds = record { diameter = max b.diameter s.far; radius = b.radius };
    are = with_part g x g.vertices b s refl span part are;
  }
]

bounds_below : (g : Graph) (k : ℕ) → IsGraph g → k ≤ g.vertices → HasBounds g k
bounds_below g zero graph few = record { bounds = record { diameter = 0; radius = None }; are = no_bounds_yet g }
bounds_below g (suc k) graph few =
    let inside : k < g.vertices = omega (arith, few) in
    let s = span_exists g k graph inside in
    let one : k + 1 ≡ suc k = omega arith in
    let before : HasBounds g k = bounds_below g k graph (omega (arith, few)) in
    subst (HasBounds g) one (one_vertex_more g k s.0 before.bounds inside s.1 before.are)

one_diameter : (g : Graph) (d e : ℕ) → IsDiameter g d → IsDiameter g e → d ≡ e
one_diameter g d e h k =
    omega (arith, k.most h.some.0 d h.some.1 h.some.2, h.most k.some.0 e k.some.1 k.some.2)

one_radius : (g : Graph) (r s : Option ℕ) → IsRadius g r → IsRadius g s → r ≡ s
one_radius g None None h k = refl
one_radius g None (Some s) h k = absurd (h k.0.0 k.0.1)
one_radius g (Some r) None h k = absurd (k h.0.0 h.0.1)
one_radius g (Some r) (Some s) h k =
    let same : r ≡ s = omega (arith, h.1 k.0.0 s k.0.1 k.0.2, k.1 h.0.0 r h.0.1 h.0.2) in
    ap Some same

-- ---- items by their places

-- what each place of a range has, as a list
picks_exist : {A : Type 0} (P : ℕ → Option A → Type 0) (k m : ℕ)
    → ((x : ℕ) → k ≤ x → x < k + m → (o : Option A) × P x o) → (os : List (Option A)) × AllZip P (range_with_len k m) os
picks_exist P k zero each = ([], tt)
picks_exist P k (suc m) each =
    let first = each k (omega arith) (omega arith) in
    let others = picks_exist P (k + 1) m (λ x l h. each x (omega (arith, l)) (omega (arith, h))) in
    (first.0 ∷ others.0, (first.1, others.1))

later : {A : Type 0} (R : A → A → Type 0) (x : A) (xs : List A) → AllPairs R (x ∷ xs) → AllPairs R xs
later R x xs h = λ i j d l m. h (suc i) (suc j) d (omega (arith, l)) (omega (arith, m))

before_all : {A : Type 0} (R : A → A → Type 0) (x : A) (xs : List A) → AllPairs R (x ∷ xs) → (a : A) → Contains xs a → R x a
before_all R x xs h a c = subst (R x) c.2 (h 0 (suc c.0) a (omega arith) (omega (arith, c.1)))

-- two lists in the same rising order that hold the same items are one
rising_same : {A : Type 0} (key : A → ℕ) (xs ys : List A) → AllPairs (λ a b. key a < key b) xs
    → AllPairs (λ a b. key a < key b) ys → ((a : A) → Contains xs a → Contains ys a)
    → ((a : A) → Contains ys a → Contains xs a) → xs ≡ ys
rising_same key [] [] h k up down = refl
rising_same key [] (y ∷ ys) h k up down = absurd (in_nil y (down y (head_in y y ys refl)))
rising_same key (x ∷ xs) [] h k up down = absurd (in_nil x (up x (head_in x x xs refl)))
rising_same {A = A} key (x ∷ xs) (y ∷ ys) h k up down =
    let others : xs ≡ ys =
    rising_same key xs ys (later (λ a b. key a < key b) x xs h) (later (λ a b. key a < key b) y ys k) into back in
    λ i. first i ∷ others i
  where
    above_x : (a : A) → Contains xs a → key x < key a
    above_x a c = before_all (λ a b. key a < key b) x xs h a c

    above_y : (a : A) → Contains ys a → key y < key a
    above_y a c = before_all (λ a b. key a < key b) y ys k a c

    first : x ≡ y
    first = elim (in_cons x y ys (up x (head_in x x xs refl))) [
      | inl same ↦ sym same
      | inr behind_y ↦ elim (in_cons y x xs (down y (head_in y y ys refl))) [
        | inl same ↦ same
        | inr behind_x ↦ absurd (omega (arith, above_y x behind_y, above_x y behind_x))
      ]
    ]

    into : (a : A) → Contains xs a → Contains ys a
    into a c = elim (in_cons a y ys (up a (tail_in a x xs c))) [
      | inl same ↦
          let e : key x ≡ key a = ap key (first ∙ same) in
          absurd (omega (arith, e, above_x a c))
      | inr more ↦ more
    ]

    back : (a : A) → Contains ys a → Contains xs a
    back a c = elim (in_cons a x xs (down a (tail_in a y ys c))) [
      | inl same ↦
          let e : key y ≡ key a = ap key (sym first ∙ same) in
          absurd (omega (arith, e, above_y a c))
      | inr more ↦ more
    ]

-- ---- the centre

central_or_not : (g : Graph) (x : ℕ) (s : Span) (radius r : Option ℕ) → x < g.vertices → IsSpan g x s → radius ≡ r
    → IsCentral g radius x ⊎ (IsCentral g radius x → ⊥)
central_or_not g x s radius None inside span none = inr (central_only_some g x radius none)
central_or_not g x s radius (Some r) inside span some = elim (cases_eq s.reach g.vertices) [
  | inl all ↦ elim (cases_eq s.far r) [
    | inl near ↦ inl (central_if g x g.vertices s radius refl inside span all (some ∙ ap Some (sym near)))
    | inr far ↦ inr (central_only_near g x r s radius span some far)
  ]
  | inr part ↦ inr (central_only_whole g x g.vertices s radius refl span part)
]

central_pick : (g : Graph) (radius : Option ℕ) (x : ℕ) → IsGraph g → x < g.vertices → (o : Option ℕ)
    × IsCentralPick g radius x o
central_pick g radius x graph inside =
    let s = span_exists g x graph inside in
    elim (central_or_not g x s.0 radius radius inside s.1 refl) [
      | inl central ↦ (Some x, (refl, central))
      | inr not_central ↦ (None, λ a same central. not_central (subst (IsCentral g radius) same central))
    ]

centre_exists : (g : Graph) (radius : Option ℕ) → IsGraph g → (vertices : List ℕ) × IsCentre g radius vertices
centre_exists g radius graph =
    let found = picks_exist (IsCentralPick g radius) 0 (g.vertices - 0)
    (λ x l h. central_pick g radius x graph (omega (arith, h))) in (
      filter_map (λ o. o) found.0,
      centre_found g radius g.vertices (range_with_len 0 (g.vertices - 0)) found.0 refl refl found.1,
    )

one_centre : (g : Graph) (radius : Option ℕ) (a b : List ℕ) → IsCentre g radius a → IsCentre g radius b → a ≡ b
one_centre g radius a b h k =
    rising_same (λ x. x) a b h.rising k.rising (λ x c. (k.exact x).1 ((h.exact x).0 c))
    (λ x c. (h.exact x).1 ((k.exact x).0 c))

summary_exists : (g : Graph) → IsGraph g → (s : Summary) × IsSummary g s
summary_exists g graph =
    let b : HasBounds g g.vertices = bounds_below g g.vertices graph (omega arith) in
    let c = centre_exists g b.bounds.radius graph in (
      record { diameter = b.bounds.diameter; radius = b.bounds.radius; centre = c.0 },
      record {
        diameter = diameter_done g b.bounds graph b.are;
        radius = radius_done g b.bounds.radius b.are.radius;
        centre = c.1;
      },
    )

one_summary : (g : Graph) (s t : Summary) → IsSummary g s → IsSummary g t → s ≡ t
one_summary g s t h k =
    let diameter : s.diameter ≡ t.diameter = one_diameter g s.diameter t.diameter h.diameter k.diameter in
    let radius : s.radius ≡ t.radius = one_radius g s.radius t.radius h.radius k.radius in
    let same : IsCentre g t.radius s.centre = subst (λ r. IsCentre g r s.centre) radius h.centre in
    let centre : s.centre ≡ t.centre = one_centre g t.radius s.centre t.centre same k.centre in
    λ i. record { diameter = diameter i; radius = radius i; centre = centre i }

pub report_exists : (g : Graph) → IsGraph g → (text : List ℕ) × IsReportReply g text
report_exists g graph = let s = summary_exists g graph in (report_text s.0, (s.0, s.1, refl))

pub one_report : (g : Graph) (t u : List ℕ) → IsReportReply g t → IsReportReply g u → t ≡ u
one_report g t u h k = h.2 ∙ ap report_text (one_summary g h.0 k.0 h.1 k.1) ∙ sym k.2

-- ---- pairs

in_or_not : (v : ℕ) (p : List ℕ) → Contains p v ⊎ (Contains p v → ⊥)
in_or_not v [] = inr (in_nil v)
in_or_not v (u ∷ p) = elim (cases_eq u v) [
  | inl here ↦ inl (head_in v u p here)
  | inr apart ↦ elim (in_or_not v p) [
    | inl behind ↦ inl (tail_in v u p behind)
    | inr not_behind ↦
        inr (λ c. elim (in_cons v u p c) [ inl same ↦ apart same | inr behind ↦ not_behind behind ])
  ]
]

passing_or_not : (g : Graph) (v x y : ℕ) → IsPassing g v x y ⊎ (IsPassing g v x y → ⊥)
passing_or_not g v x y = elim (cases_eq x y) [
  | inl same ↦ inr (λ h. h.0 same)
  | inr p ↦ elim (cases_eq x v) [
    | inl same ↦ inr (λ h. h.1 same)
    | inr q ↦ elim (cases_eq y v) [
      | inl same ↦ inr (λ h. h.2 same)
      | inr r ↦ at p q r (least_is_some_option g x y).0 (least_is_some_option g x y).1
    ]
  ]
]
  where
    at : x ≢ y → x ≢ v → y ≢ v → (o : Option (List ℕ)) → LeastIs g x y o
        → IsPassing g v x y ⊎ (IsPassing g v x y → ⊥)
    at p q r None none = inr (λ h. none h.3.0 h.3.1.walk)
    at p q r (Some l) least = elim (in_or_not v l) [
      | inl passes ↦ inl (p, q, r, (l, least, passes))
      | inr misses ↦
          inr (λ h. misses (subst (λ w. Contains w v) (least_unique g x y h.3.0 l h.3.1 least) h.3.2))
    ]

passing_pick : (g : Graph) (v k : ℕ) → (o : Option Pair) × IsPassingPick g v k o
passing_pick g v k = elim (passing_or_not g v (k / g.vertices) (k % g.vertices)) [
  | inl passes ↦ (Some (record { x = k / g.vertices; y = k % g.vertices }), (refl, refl, passes))
  | inr misses ↦ (None, misses)
]

passing_exists : (g : Graph) (v : ℕ) → IsGraph g → (pairs : List Pair) × ArePassing g v pairs
passing_exists g v graph =
    let some : 0 < g.vertices = omega (arith, graph.some) in
    let found = picks_exist (IsPassingPick g v) 0 (g.vertices * g.vertices - 0) (λ k l h. passing_pick g v k) in (
      filter_map (λ o. o) found.0,
      passing_found g v some (g.vertices * g.vertices) (range_with_len 0 (g.vertices * g.vertices - 0)) found.0 refl refl found.1,
    )

one_passing : (g : Graph) (v : ℕ) (a b : List Pair) → ArePassing g v a → ArePassing g v b → a ≡ b
one_passing g v a b h k =
    rising_same (row_place g.vertices) a b h.rising k.rising (λ p c. (k.exact p).1 ((h.exact p).0 c))
    (λ p c. (h.exact p).1 ((k.exact p).0 c))

pub through_exists : (g : Graph) (v : ℕ) → IsGraph g → (text : List ℕ) × IsThroughReply g v text
through_exists g v graph =
    let pairs = passing_exists g v graph in
    (through_text v (length pairs.0), (pairs.0, pairs.1, refl))

pub one_through : (g : Graph) (v : ℕ) (t u : List ℕ) → IsThroughReply g v t → IsThroughReply g v u → t ≡ u
one_through g v t u h k =
    h.2 ∙ ap (λ pairs. through_text v (length pairs)) (one_passing g v h.0 k.0 h.1 k.1) ∙ sym k.2
