-- Each question about a list of commands has an answer: for the one text of an input, which the session above states.
--
-- The mathematics. At each moment the historical paths are closed under parts and it is decided of each list whether it
-- is
-- historical: a star step asks for the moment before, for the vertex and for least walks, a grow step for the moment
-- before, and a mend step for least walks alone. So what is kept is counted, and so is any decided kind of it. A star
-- step
-- forms what is kept behind it and was not left, a grow step forms nothing, and what an update forms and removes is the
-- sum over its steps, since the paths between two steps are counted once.
use Rattle.std.specs.Prelude.{◌≡◌, ℕ, ◌+◌, ◌<◌, ◌⊎◌, ◌↔◌, Bool, true, false, if◌then◌else◌, IsTrue, List, [], ◌∷◌, length, refl, Contains}
use Rattle.std.specs.List.{filter}
use Rattle.std.proofs.Common.{sym, ap, subst, arith, inl, inr}
use Rattle.std.proofs.lemmas.Bool.{cases_lt, true≢false}
use Rattle.apsp_model.specs.Graph.{Graph, widened, no_edges, weight_at}
use Rattle.apsp_model.specs.Walk.{IsWalk, IsSimple}
use Rattle.apsp_model.specs.Star.{touches}
use Rattle.apsp_model.specs.Part.{IsProperPart, IsClosedUnderParts, left_part, right_part}
use Rattle.apsp_model.specs.Least.{IsLeastWalk}
use Rattle.apsp_model.specs.Local.{IsVertex, Avoids, HistStep, HistGrow, IsShortest, IsLocal}
use Rattle.apsp_model.specs.Command.{Command, Star_update, Grow_update, Mend, Step, Star_step, graph_of, vertices_of, steps_of, cleaned, with_cleaning, with_star_steps}
use Rattle.apsp_model.specs.Kept.{Moment, IsWithEdge, opening, after_star, after_grow, after_mend, after_steps, moment_of, IsKept, HasBirth}
use Rattle.apsp_model.specs.Counts.{CountIs, RemovedIs, PathsAre, HistoricalAre, LatestTurnoverIs, Counts, CountsAre}
use Rattle.apsp_model.specs.Grows.{IsGrowable, GrowsFit}
use Rattle.apsp_model.proofs.Simples.{contained_or_not}
use Rattle.apsp_model.proofs.Locals.{parts_by_ends}
use Rattle.fixup_math.proofs.Births.{StateBefore, Left, formed_is, book_after, opening_book}
use Rattle.fixup_math.proofs.Books.{same_star}
use Rattle.fixup_math.proofs.Growing.{book_grown, long_kept, grown_turnover}
use Rattle.fixup_math.proofs.Mending.{book_mended}
use Rattle.fixup_math.proofs.Start.{vertex_of_one}
use Rattle.apsp_model.proofs.Members.{in_cons, in_nil, head_in, tail_in}
use Rattle.apsp_model.proofs.Counting.{count_unique, count_same, count_none, count_more, count_decides}
use Rattle.apsp_model.proofs.Deciding.{Known, simple_test, simple_test_is, walk_test, walk_test_is, least_test, least_test_is, vertex_test, walks, in_walks}
use Rattle.apsp_model.proofs.Finding.{vertex_test_is, in_filter}

-- ---- kinds that are decided

abbrev Decided : Type 0 → Type 0
Decided P = P ⊎ (P → ⊥)

by_test : (b : Bool) (P : Type 0) → IsTrue b ↔ P → Decided P
by_test true P e = inl (e.0 refl)
by_test false P e = inr (λ h. true≢false (sym (e.1 h)))

both : (P Q : Type 0) → Decided P → Decided Q → Decided (P × Q)
both P Q a b = elim a [
  | inl here ↦ elim b [ inl there ↦ inl (here, there) | inr gone ↦ inr (λ h. gone h.1) ]
  | inr gone ↦ inr (λ h. gone h.0)
]

either : (P Q : Type 0) → Decided P → Decided Q → Decided (P ⊎ Q)
either P Q a b = elim a [
  | inl here ↦ inl (inl here)
  | inr gone ↦ elim b [
    | inl there ↦ inl (inr there)
    | inr away ↦
        inr (λ h. elim h [ inl here ↦ gone here | inr there ↦ away there ])
  ]
]

neither : (P Q : Type 0) → Decided P → Decided Q → Decided (P ⊎ Q → ⊥)
neither P Q a b = elim a [
  | inl here ↦ inr (λ h. h (inl here))
  | inr gone ↦ elim b [
    | inl here ↦ inr (λ h. h (inr here))
    | inr away ↦
        inl (λ h. elim h [ inl here ↦ gone here | inr here ↦ away here ])
  ]
]

long_or_not : (p : List ℕ) → Decided (IsWithEdge p)
long_or_not p = elim (cases_lt 1 (length p)) [ inl long ↦ inl long | inr short ↦ inr (λ h. omega (arith, h, short)) ]

test_of : (P : Type 0) → Decided P → (b : Bool) × (IsTrue b ↔ P)
test_of P d =
    elim d [
      | inl here ↦ (true, (λ _. here, λ _. refl))
      | inr gone ↦
          (false, (λ e. absurd (true≢false (sym e)), λ h. absurd (gone h)))
    ]

-- ---- counts of what is decided

members : (ps : List (List ℕ)) → (k : ℕ) × CountIs (Contains ps) k
members [] = (0, count_none (Contains []) (λ p c. in_nil p c))
members (q ∷ ps) =
    let rest : (k : ℕ) × CountIs (Contains ps) k = members ps in
    elim (count_decides (Contains ps) rest.0 rest.1 q) [
      | inl old ↦ (
        rest.0,
        count_same (Contains ps) (Contains (q ∷ ps)) rest.0
            (λ p. (
              λ c. tail_in p q ps c,
              λ c. elim (in_cons p q ps c)
                  [ inl here ↦ subst (Contains ps) here old | inr more ↦ more ],
            )) rest.1,
      )
      | inr new ↦ (
        rest.0 + 1,
        count_more (Contains ps) (Contains (q ∷ ps)) rest.0 q new (λ p. (
          λ c. elim (in_cons p q ps c) [ inl here ↦ inr (sym here) | inr more ↦ inl more ],
          λ h. elim h [ inl old ↦ tail_in p q ps old | inr here ↦ head_in p q ps (sym here) ],
        )) rest.1,
      )
    ]

-- ---- what is decided of a list

abbrev known_of : Graph → Known
known_of g = record { graph = g; weight = weight_at g; is = λ a b. refl }

vertex_or_not : (n : ℕ) (p : List ℕ) → Decided (IsVertex n p)
vertex_or_not n p = by_test (vertex_test n p) (IsVertex n p) (vertex_test_is n p)

least_or_not : (g : Graph) (p : List ℕ) → Decided (IsLeastWalk g p)
least_or_not g p = by_test (least_test g.vertices (weight_at g) p) (IsLeastWalk g p) (least_test_is (known_of g) p)

avoids_or_not : (p : List ℕ) (v : ℕ) → Decided (Avoids p v)
avoids_or_not p v = elim (contained_or_not p v) [ inl through ↦ inr (λ h. h through) | inr apart ↦ inl apart ]

local_or_not : (g : Graph) (H : List ℕ → Type 0) → IsClosedUnderParts H → ((p : List ℕ) → Decided (H p)) → (p : List ℕ)
    → Decided (IsLocal g H p)
local_or_not g H closed decided p = elim (by_test (simple_test p) (IsSimple p) (simple_test_is p)) [
  | inr gone ↦ inr (λ l. gone l.simple)
  | inl simple ↦ elim (by_test (walk_test g.vertices (weight_at g) p) (IsWalk g p) (walk_test_is (known_of g) p)) [
    | inr gone ↦ inr (λ l. gone l.walk)
    | inl walk ↦ elim (cases_lt (length p) 2) [
      | inl short ↦ inl (record {
        simple = simple;
        walk = walk;
        parts = λ q part. absurd
            (let s : 0 < length q = part.part.some in let l : length q < length p = part.shorter in omega arith);
      })
      | inr long ↦
          let ends : ((q : List ℕ) → IsProperPart q p → H q) ↔ (H (left_part p) × H (right_part p)) =
          parts_by_ends H closed p (omega (arith, long)) in
          elim (both (H (left_part p)) (H (right_part p)) (decided (left_part p)) (decided (right_part p))) [
            | inl old ↦ inl (record { simple = simple; walk = walk; parts = ends.1 old })
            | inr gone ↦ inr (λ l. gone (ends.0 l.parts))
          ]
    ]
  ]
]

-- of these lists those of a decided kind
picked : (ps : List (List ℕ)) (P : List ℕ → Type 0) → ((p : List ℕ) → Decided (P p)) → (k : ℕ)
    × CountIs (λ p. Contains ps p × P p) k
picked ps P decided =
    let passing : (k : ℕ) × CountIs (Contains (filter test ps)) k = members (filter test ps) in (
      passing.0,
      count_same (Contains (filter test ps)) (λ p. Contains ps p × P p) passing.0 (λ p. (
        λ c. let h : Contains ps p × IsTrue (test p) =
            (in_filter test ps p).0 c in (h.0, (test_of (P p) (decided p)).1.0 h.1),
        λ h. (in_filter test ps p).1 (h.0, (test_of (P p) (decided p)).1.1 h.1),
      )) passing.1,
    )
  where
    test : List ℕ → Bool
    test p = (test_of (P p) (decided p)).0

-- what is local is counted, where it is decided what is historical
local_is_counted : (g : Graph) (H : List ℕ → Type 0) → IsClosedUnderParts H → ((p : List ℕ) → Decided (H p)) → (k : ℕ)
    × CountIs (IsLocal g H) k
local_is_counted g H closed decided =
    let all : List (List ℕ) = walks g.vertices (weight_at g) in
    let c : (k : ℕ) × CountIs (λ p. Contains all p × IsLocal g H p) k =
    picked all (IsLocal g H) (local_or_not g H closed decided) in (
      c.0,
      count_same (λ p. Contains all p × IsLocal g H p) (IsLocal g H) c.0
          (λ p. (λ h. h.1, λ l. (in_walks (known_of g) p l.walk l.simple, l))) c.1,
    )

-- ---- the moments after steps

-- a book of the graph, where it is decided what is historical, what is kept is counted, and each kept list has a birth
record IsKnownMoment (g : Graph) (m : Moment) : Type 0 where
  book : StateBefore g m
  historical : (p : List ℕ) → Decided (m.historical p)
  kept : (k : ℕ) × CountIs m.kept k
  births : (p : List ℕ) → m.kept p → (b : ℕ) × m.birth p b

kept_or_not : (m : Moment) → ((k : ℕ) × CountIs m.kept k) → (p : List ℕ) → Decided (m.kept p)
kept_or_not m kept p = count_decides m.kept kept.0 kept.1 p

counted : (m : Moment) → ((k : ℕ) × CountIs m.kept k) → (P : List ℕ → Type 0) → ((p : List ℕ) → Decided (P p)) → (k : ℕ)
    × CountIs (λ p. m.kept p × P p) k
counted m kept P decided =
    let all : CountIs m.kept kept.0 = kept.1 in
    let c : (k : ℕ) × CountIs (λ p. Contains all.lists p × P p) k = picked all.lists P decided in (
      c.0,
      count_same (λ p. Contains all.lists p × P p) (λ p. m.kept p × P p) c.0
          (λ p. (λ h. ((all.exact p).0 h.0, h.1), λ h. ((all.exact p).1 h.0, h.1))) c.1,
    )

paths : (g : Graph) (m : Moment) → IsKnownMoment g m → (k : ℕ) × PathsAre m k
paths g m known = counted m known.kept IsWithEdge long_or_not

single_length : (g : Graph) (p : List ℕ) → IsWalk g p → (1 < length p → ⊥) → length p ≡ 1
single_length g p walk short =
    elim (cases_lt 1 (length p)) [
      | inl long ↦ absurd (short long)
      | inr few ↦
          ap length (vertex_of_one g p walk (omega (arith, few))).2
    ]

opening_known : (n : ℕ) → IsKnownMoment (no_edges n) (opening n)
opening_known n = record {
  book = opening_book n;
  historical = vertex_or_not n;
  kept =
      let c : (k : ℕ) × CountIs (IsLocal (no_edges n) (IsVertex n)) k =
      local_is_counted (no_edges n) (IsVertex n) (opening_book n).closed (vertex_or_not n) in (
        c.0,
        count_same (IsLocal (no_edges n) (IsVertex n)) (IsVertex n) c.0
            (λ p. (((opening_book n).kept p).1, ((opening_book n).kept p).0)) c.1,
      );
  births = λ p kept. (0, (kept, refl));
}

star_known : (gb g : Graph) (m : Moment) (v : ℕ) (same_count : gb.vertices ≡ g.vertices)
    (same_away : (a b : ℕ) → touches v (a, b) ≡ false → weight_at gb a b ≡ weight_at g a b) → IsKnownMoment gb m
    → IsKnownMoment g (after_star m v g)
star_known gb g m v same_count same_away known = record {
  book = book;
  historical = decided;
  kept = local_is_counted g (HistStep m.historical v g) book.closed decided;
  births = birth;
}
  where
    book : StateBefore g (after_star m v g)
    book = book_after m v gb g same_count same_away known.book

    decided : (p : List ℕ) → Decided (HistStep m.historical v g p)
    decided p =
        either (IsVertex g.vertices p) ((m.historical p × Avoids p v) ⊎ IsLeastWalk g p) (vertex_or_not g.vertices p)
        (either (m.historical p × Avoids p v) (IsLeastWalk g p)
        (both (m.historical p) (Avoids p v) (known.historical p) (avoids_or_not p v)) (least_or_not g p))

    birth : (p : List ℕ) → IsLocal g (HistStep m.historical v g) p → (b : ℕ) × (after_star m v g).birth p b
    birth p local = elim (long_or_not p) [
      | inl long ↦ elim (both (m.kept p) (Avoids p v) (kept_or_not m known.kept p) (avoids_or_not p v)) [
        | inl stays ↦ let b : (b : ℕ) × m.birth p b =
            known.births p stays.0 in (b.0, (local, inr (long, inl (stays, b.1))))
        | inr new ↦ (m.steps + 1, (local, inr (long, inr (new, refl))))
      ]
      | inr short ↦ (0, (local, inl (single_length g p local.walk short, refl)))
    ]

grow_known : (g : Graph) (m : Moment) (n : ℕ) → IsGrowable g n → IsKnownMoment g m
    → IsKnownMoment (widened g n) (after_grow m (widened g n))
grow_known g m n grows known = record {
  book = book;
  historical = decided;
  kept = local_is_counted (widened g n) (HistGrow m.historical n) book.closed decided;
  births = λ p local. elim (long_or_not p) [
    | inl long ↦ let b : (b : ℕ) × m.birth p b =
        known.births p ((long_kept g n grows m known.book p long).0 local) in (b.0, (local, inr (long, b.1)))
    | inr short ↦ (0, (local, inl (single_length (widened g n) p local.walk short, refl)))
  ];
}
  where
    book : StateBefore (widened g n) (after_grow m (widened g n))
    book = book_grown g n grows m known.book

    decided : (p : List ℕ) → Decided (HistGrow m.historical n p)
    decided p = either (m.historical p) (IsVertex n p) (known.historical p) (vertex_or_not n p)

mend_known : (before : ℕ) (g : Graph) → IsKnownMoment g (after_mend before g)
mend_known before g = record {
  book = book_mended before g;
  historical = decided;
  kept = local_is_counted g (IsShortest g) (book_mended before g).closed decided;
  births = λ p local. elim (long_or_not p) [
    | inl long ↦ (before + 1, (local, inr (long, refl)))
    | inr short ↦ (0, (local, inl (single_length g p local.walk short, refl)))
  ];
}
  where
    decided : (p : List ℕ) → Decided (IsShortest g p)
    decided p = either (IsVertex g.vertices p) (IsLeastWalk g p) (vertex_or_not g.vertices p) (least_or_not g p)

cleaned_known : (m : Moment) (vs : List ℕ) (g : Graph) (made : List Step) → IsKnownMoment g (after_steps m made)
    → IsKnownMoment g (after_steps m (with_cleaning vs g made))
cleaned_known m [] g made known = known
cleaned_known m (v ∷ vs) g made known =
    cleaned_known m vs g (Star_step v g ∷ made) (star_known g g (after_steps m made) v refl (λ _ _ _. refl) known)

moment_known : (n : ℕ) (smooth : Bool) (commands : List Command) → GrowsFit n commands
    → IsKnownMoment (graph_of n commands) (moment_of n smooth commands)
moment_known n smooth [] fit = opening_known n
moment_known n smooth (Star_update s ∷ earlier) fit =
    let g : Graph = graph_of n (Star_update s ∷ earlier) in
    cleaned_known (opening n) (if smooth then cleaned (vertices_of (Star_update s ∷ earlier)) else []) g
    (Star_step s.vertex g ∷ steps_of n smooth earlier)
    (star_known (graph_of n earlier) g (moment_of n smooth earlier) s.vertex refl (same_star (graph_of n earlier) s)
    (moment_known n smooth earlier fit))
moment_known n smooth (Grow_update m ∷ earlier) fit =
    grow_known (graph_of n earlier) (moment_of n smooth earlier) m fit.0 (moment_known n smooth earlier fit.1)
moment_known n smooth (Mend ∷ earlier) fit = mend_known (moment_of n smooth earlier).steps (graph_of n earlier)

-- ---- what steps behind one another form and remove

record Turned (m : Moment) (made : List Step) : Type 0 where
  formed : ℕ
  removed : ℕ
  removed_is : RemovedIs m made removed
  formed_is : (a b : ℕ) → PathsAre m b → PathsAre (after_steps m made) a → formed + b ≡ a + removed

unturned : (m : Moment) → Turned m []
unturned m =
    record {
      formed = 0;
      removed = 0;
      removed_is = refl;
      formed_is = λ a b first last. let e : b ≡ a = count_unique
          (λ p. m.kept p × IsWithEdge p) b a first last in omega arith;
    }

module _ (m : Moment) where
  turned_more : (made : List Step) (v : ℕ) (gb g : Graph) (same_count : gb.vertices ≡ g.vertices)
      (same_away : (a b : ℕ) → touches v (a, b) ≡ false → weight_at gb a b ≡ weight_at g a b)
      → IsKnownMoment gb (after_steps m made) → Turned m made → Turned m (Star_step v g ∷ made)
  turned_more made v gb g same_count same_away known t = record {
    formed = t.formed + formed.0;
    removed = t.removed + removed.0;
    removed_is = (t.removed, removed.0, t.removed_is, removed.1, refl);
    formed_is = λ a b first last.
        let now : (k : ℕ) × PathsAre here k = paths gb here known in
        let one : t.formed + b ≡ now.0 + t.removed = t.formed_is now.0 b first now.1 in
        let two : formed.0 + now.0 ≡ a + removed.0 =
        formed_is here v gb g same_count same_away known.book now.0 a removed.0 formed.0 now.1 removed.1 last
        formed.1 in
        omega arith;
  }
    where
      here : Moment
      here = after_steps m made

      removed : (k : ℕ) × CountIs (λ p. here.kept p × IsWithEdge p × Contains p v) k
      removed =
          let c : (k : ℕ) × CountIs (λ p. here.kept p × (IsWithEdge p × Contains p v)) k =
          counted here known.kept (λ p. IsWithEdge p × Contains p v)
          (λ p. both (IsWithEdge p) (Contains p v) (long_or_not p) (contained_or_not p v)) in (
            c.0,
            count_same (λ p. here.kept p × (IsWithEdge p × Contains p v))
                (λ p. here.kept p × IsWithEdge p × Contains p v) c.0
                (λ p. (λ h. (h.0, h.1.0, h.1.1), λ h. (h.0, (h.1, h.2)))) c.1,
          )

      new_or_not : (p : List ℕ) → Decided (Left here v gb g same_count same_away known.book p → ⊥)
      new_or_not p =
          neither (here.kept p × Avoids p v) (IsVertex g.vertices p)
          (both (here.kept p) (Avoids p v) (kept_or_not here known.kept p) (avoids_or_not p v))
          (vertex_or_not g.vertices p)

      formed : (k : ℕ) × CountIs (λ p. (after_star here v g).kept p
          × (Left here v gb g same_count same_away known.book p → ⊥)) k
      formed = counted (after_star here v g) (star_known gb g here v same_count same_away known).kept
          (λ p. Left here v gb g same_count same_away known.book p → ⊥) new_or_not

  turned_cleaning : (vs : List ℕ) (g : Graph) (made : List Step) → IsKnownMoment g (after_steps m made) → Turned m made
      → Turned m (with_cleaning vs g made)
  turned_cleaning [] g made known t = t
  turned_cleaning (v ∷ vs) g made known t =
      turned_cleaning vs g (Star_step v g ∷ made) (star_known g g (after_steps m made) v refl (λ _ _ _. refl) known)
      (turned_more made v g g refl (λ _ _ _. refl) known t)

-- ---- the answers

latest_turnover : (n : ℕ) (smooth : Bool) (commands : List Command) → GrowsFit n commands → (f : ℕ) × (r : ℕ)
    × LatestTurnoverIs n smooth commands f r
latest_turnover n smooth [] fit = (0, 0, (refl, refl))
latest_turnover n smooth (Mend ∷ earlier) fit = latest_turnover n smooth earlier fit
latest_turnover n smooth (Grow_update k ∷ earlier) fit =
    let known : IsKnownMoment (graph_of n earlier) (moment_of n smooth earlier) = moment_known n smooth earlier fit.1 in
    let all : (j : ℕ) × PathsAre (moment_of n smooth earlier) j =
    paths (graph_of n earlier) (moment_of n smooth earlier) known in
    (0, 0, grown_turnover (graph_of n earlier) k fit.0 (moment_of n smooth earlier) known.book all.0 all.1)
latest_turnover n smooth (Star_update s ∷ earlier) fit = (
  t.formed,
  t.removed,
  record {
    before = first.0;
    after = last.0;
    paths_before = first.1;
    paths_after = last.1;
    removed_is = t.removed_is;
    formed_is = t.formed_is last.0 first.0 first.1 last.1;
  },
)
  where
    m : Moment
    m = moment_of n smooth earlier

    g : Graph
    g = graph_of n (Star_update s ∷ earlier)

    vs : List ℕ
    vs = if smooth then cleaned (vertices_of (Star_update s ∷ earlier)) else []

    known : IsKnownMoment (graph_of n earlier) m
    known = moment_known n smooth earlier fit

    made : List Step
    made = with_star_steps smooth (vertices_of (Star_update s ∷ earlier)) (graph_of n (Star_update s ∷ earlier))
        s.vertex []

    known_first : IsKnownMoment g (after_star m s.vertex g)
    known_first = star_known (graph_of n earlier) g m s.vertex refl (same_star (graph_of n earlier) s) known

    t : Turned m made
    t = turned_cleaning m vs g (Star_step s.vertex g ∷ []) known_first
        (turned_more m [] s.vertex (graph_of n earlier) g refl (same_star (graph_of n earlier) s) known (unturned m))

    first : (k : ℕ) × PathsAre m k
    first = paths (graph_of n earlier) m known

    last : (k : ℕ) × PathsAre (after_steps m made) k
    last = paths g (after_steps m made) (cleaned_known m vs g (Star_step s.vertex g ∷ []) known_first)

pub counts_exist : (n : ℕ) (smooth : Bool) (commands : List Command) → GrowsFit n commands → (c : Counts)
    × CountsAre n smooth commands c
counts_exist n smooth commands fit = (
  record {
    updates = length (vertices_of commands);
    steps = length (steps_of n smooth commands);
    paths = all.0;
    historical = marked.0;
    formed = turnover.0;
    removed = turnover.1;
  },
  record { updates = refl; steps = refl; paths = all.1; historical = marked_is; turnover = turnover.2 },
)
  where
    now : Moment
    now = moment_of n smooth commands

    known : IsKnownMoment (graph_of n commands) now
    known = moment_known n smooth commands fit

    all : (k : ℕ) × PathsAre now k
    all = paths (graph_of n commands) now known

    marked : (k : ℕ) × CountIs (λ p. now.kept p × (IsWithEdge p × now.historical p)) k
    marked = counted now known.kept (λ p. IsWithEdge p × now.historical p)
        (λ p. both (IsWithEdge p) (now.historical p) (long_or_not p) (known.historical p))

    marked_is : HistoricalAre now marked.0
    marked_is =
        count_same (λ p. now.kept p × (IsWithEdge p × now.historical p))
        (λ p. now.kept p × IsWithEdge p × now.historical p) marked.0
        (λ p. (λ h. (h.0, h.1.0, h.1.1), λ h. (h.0, (h.1, h.2)))) marked.1

    turnover : (f : ℕ) × (r : ℕ) × LatestTurnoverIs n smooth commands f r
    turnover = latest_turnover n smooth commands fit

pub birth_exists : (n : ℕ) (smooth : Bool) (commands : List Command) → GrowsFit n commands → (p : List ℕ)
    → ((b : ℕ) × HasBirth n smooth commands p b) ⊎ (IsKept n smooth commands p → ⊥)
birth_exists n smooth commands fit p =
    let known : IsKnownMoment (graph_of n commands) (moment_of n smooth commands) =
    moment_known n smooth commands fit in
    elim (kept_or_not (moment_of n smooth commands) known.kept p)
    [ inl kept ↦ inl (known.births p kept) | inr gone ↦ inr gone ]
