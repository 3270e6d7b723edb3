-- What a version states is one value, which is lawful and can be written: for `law_version`.
use Rattle.std.specs.Prelude.{◌≡◌, ◌≢◌, ℕ, ◌<◌, ◌≤◌, ◌^◌, if◌then◌else◌, List, [], ◌∷◌, length, Option, Some, None, IsSome, IsSomeAnd, MatchOption, refl}
use Rattle.std.specs.FinMap as map
use Rattle.std.proofs.Common.{sym, ◌∙◌, ap, subst, inl, inr, arith}
use Rattle.std.proofs.lemmas.Bool.{ne_eqb, cases_eq}
use Rattle.std.proofs.lemmas.Nat.{mul-le}
use Rattle.apsp_model.specs.declared.TheConstants.{MOST_VERTICES, MOST_WEIGHT}
use Rattle.apsp_model.specs.Graph.{Graph, IsGraph, weight_at}
use Rattle.apsp_model.specs.Walk.{weight_of, hops_of}
use Rattle.apsp_model.specs.Least.{IsLeast, HasNoWalk}
use Rattle.apsp_model.specs.Stated.{Stated, Entry, entry_at, IsEntryOf, FollowsNext, IsLawfulEntry, IsLawful}
use Rattle.apsp_model.proofs.Exists.{least_is_some_option}
use Rattle.apsp_model.proofs.Leasts.{least_unique, least_is_simple, least_of_vertex, least_without_first}
use Rattle.apsp_model.proofs.Simples.{simple_walk_is_short, weight_most}
use Rattle.apsp_model.proofs.Stars.{pairs_total, exact_pair}
use Rattle.apsp_model.proofs.Walks.{walk_head}
use Rattle.version_face.specs.Seen.{VersionSeen}
use Rattle.version_face.specs.Entries.{second_of}
use Rattle.certificate.specs.Grammar.{IsWritable}
use Rattle.certificate.specs.Giving.{StatedEntryIs, IsStatedOf}
use Rattle.certificate.proofs.Tables.{cases_inside}
use Rattle.certificate.proofs.Versions.{entry_of, entry_is}

none_or_some : {V : Type 0} (o : Option V) (P : Type 0) → (o ≡ None → P) → ((w : V) → o ≡ Some w → P) → P
none_or_some None P a b = a refl
none_or_some (Some w) P a b = b w refl

some_same : {V : Type 0} (x y : V) → Some x ≡ Some y → x ≡ y
some_same x y e = cc

-- ---- one value

module _ (v : VersionSeen) (s : Stated) (is : IsStatedOf v s) where
  entry_there : (x y : ℕ) → x < v.graph.vertices → y < v.graph.vertices → x ≢ y
      → map.get s.entries (x, y) ≡ entry_of v.graph (least_is_some_option v.graph x y).0
  entry_there x y p q apart =
      entry_is v.graph x y (map.get s.entries (x, y)) (least_is_some_option v.graph x y).0 (is.entries x y p q apart)
      (least_is_some_option v.graph x y).1

  entry_outside : (x y : ℕ) → ((x < v.graph.vertices) → (y < v.graph.vertices) → x ≢ y → ⊥)
      → map.get s.entries (x, y) ≡ None
  entry_outside x y out =
      none_or_some (map.get s.entries (x, y)) (map.get s.entries (x, y) ≡ None) (λ e. e)
      (λ w e. absurd (let i = is.inside x y w e in out i.0 i.1 i.2))

-- a version states one value
pub one_stated_of : (v : VersionSeen) (s t : Stated) → IsStatedOf v s → IsStatedOf v t → s ≡ t
one_stated_of v s t h k =
    let number : s.number ≡ t.number = h.number ∙ sym k.number in
    let graph : s.graph ≡ t.graph = h.graph ∙ sym k.graph in
    let entries : s.entries ≡ t.entries = map.same_map pairs_total exact_pair s.entries t.entries (λ q. at q.0 q.1) in
    λ i. record { number = number i; graph = graph i; entries = entries i }
  where
    out_of : (x y : ℕ) → ((x < v.graph.vertices) → (y < v.graph.vertices) → x ≢ y → ⊥)
        → map.get s.entries (x, y) ≡ map.get t.entries (x, y)
    out_of x y out = entry_outside v s h x y out ∙ sym (entry_outside v t k x y out)

    at : (x y : ℕ) → map.get s.entries (x, y) ≡ map.get t.entries (x, y)
    at x y = elim (cases_inside v.graph.vertices x y) [
      | inl i ↦ elim (cases_eq x y) [
        | inl same ↦ out_of x y (λ p q apart. apart same)
        | inr apart ↦ entry_there v s h x y i.0 i.1 apart ∙ sym (entry_there v t k x y i.0 i.1 apart)
      ]
      | inr o ↦ out_of x y (λ p q apart. o p q)
    ]

-- ---- lawful

rest_is_least : (g : Graph) (x y a z : ℕ) (q : List ℕ) → IsLeast g x y (a ∷ z ∷ q) → IsLeast g z y (z ∷ q)
rest_is_least g x y a z q h =
    let l = least_without_first g a (z ∷ q) (omega arith) (x, y, h) in
    let from : l.0 ≡ z = some_same l.0 z (sym l.2.walk.from) in
    let to : l.1 ≡ y = some_same l.1 y (sym l.2.walk.to ∙ h.walk.to) in
    subst (λ i. IsLeast g i y (z ∷ q)) from (subst (λ j. IsLeast g l.0 j (z ∷ q)) to l.2)

-- a least walk of two or more vertices has different ends
ends_differ : (g : Graph) (x y a z : ℕ) (q : List ℕ) → IsLeast g x y (a ∷ z ∷ q) → x ≢ y
ends_differ g x y a z q h same =
    let here : a ≡ x = some_same a x h.walk.from in
    let inside : x < g.vertices = subst (λ i. i < g.vertices) here h.walk.walk.0 in
    let alone : a ∷ z ∷ q ≡ x ∷ [] =
    least_unique g x x (a ∷ z ∷ q) (x ∷ []) (subst (λ j. IsLeast g x j (a ∷ z ∷ q)) (sym same) h)
    (least_of_vertex g x inside) in
    cc

module _ (v : VersionSeen) (s : Stated) (is : IsStatedOf v s) where
  entry_of_walk : (x y : ℕ) (p : List ℕ) → x < v.graph.vertices → y < v.graph.vertices → x ≢ y → IsLeast v.graph x y p
      → entry_at s x y ≡ entry_of v.graph (Some p)
  entry_of_walk x y p a b apart least =
      ap (λ c. if c then Some (record { dist = 0; hops = 0; next = x }) else map.get s.entries (x, y))
      (ne_eqb x y apart) ∙ entry_is v.graph x y (map.get s.entries (x, y)) (Some p) (is.entries x y a b apart) least

  follows_next : (x y : ℕ) (p : List ℕ) → y < v.graph.vertices → IsLeast v.graph x y p → FollowsNext s y p
  follows_next x y [] b least = least.walk.walk
  follows_next x y (a ∷ []) b least = some_same a y least.walk.to
  follows_next x y (a ∷ z ∷ q) b least =
      let here : a ≡ x = some_same a x least.walk.from in
      let from_a : IsLeast v.graph a y (a ∷ z ∷ q) = subst (λ i. IsLeast v.graph i y (a ∷ z ∷ q)) (sym here) least in
      let apart : a ≢ y = ends_differ v.graph a y a z q from_a in
      let entry : entry_at s a y ≡ entry_of v.graph (Some (a ∷ z ∷ q)) =
      entry_of_walk a y (a ∷ z ∷ q) least.walk.walk.0 b apart from_a in
      let F : Option Entry → Type 0 = λ o. IsSomeAnd o (λ e. e.next ≡ z) in
      (apart, subst F (sym entry) refl, follows_next z y (z ∷ q) b (rest_is_least v.graph x y a z q least))

  -- what a version states is lawful
  pub lawful_of : IsLawful s
  lawful_of x y p q apart =
      let a : x < v.graph.vertices = subst (λ (g : Graph). x < g.vertices) is.graph p in
      let b : y < v.graph.vertices = subst (λ (g : Graph). y < g.vertices) is.graph q in
      at x y a b apart (map.get s.entries (x, y)) (is.entries x y a b apart)
      (ap (λ c. if c then Some (record { dist = 0; hops = 0; next = x }) else map.get s.entries (x, y))
      (ne_eqb x y apart))
    where
      at : (x y : ℕ) → x < v.graph.vertices → y < v.graph.vertices → x ≢ y → (o : Option Entry)
          → StatedEntryIs v.graph x y o → entry_at s x y ≡ o
          → MatchOption (entry_at s x y) (HasNoWalk s.graph x y) (IsLawfulEntry s x y)
      at x y a b apart None h e =
          let F : Option Entry → Type 0 = λ o. MatchOption o (HasNoWalk s.graph x y) (IsLawfulEntry s x y) in
          subst F (sym e) (subst (λ g. HasNoWalk g x y) (sym is.graph) h)
      at x y a b apart (Some d) h e =
          let F : Option Entry → Type 0 = λ o. MatchOption o (HasNoWalk s.graph x y) (IsLawfulEntry s x y) in
          let made : IsLawfulEntry s x y d = record {
            list = h.0;
            follows = follows_next x y h.0 b h.1;
            least = subst (λ g. IsLeast g x y h.0) (sym is.graph) h.1;
            dist = ap (λ (i : Entry). i.dist) h.2 ∙ ap (λ g. weight_of g h.0) (sym is.graph);
            hops = ap (λ (i : Entry). i.hops) h.2;
          } in
          subst F (sym e) made

-- ---- within the ranges

walk_entry : (g : Graph) (x y : ℕ) (p : List ℕ) → IsGraph g → x < g.vertices → y < g.vertices → x ≢ y → IsLeast g x y p
    → IsEntryOf g.vertices x y (record { dist = weight_of g p; hops = hops_of p; next = second_of p })
    × (weight_of g p < 10 ^ 18)
walk_entry g x y [] graph a b apart least = absurd least.walk.walk
walk_entry g x y (c ∷ []) graph a b apart least = absurd (apart (some_same x y (sym least.walk.from ∙ least.walk.to)))
walk_entry g x y (c ∷ z ∷ q) graph a b apart least =
    let short : length (c ∷ z ∷ q) ≤ g.vertices =
    simple_walk_is_short g (c ∷ z ∷ q) least.walk.walk (least_is_simple g (c ∷ z ∷ q) (x, y, least)) in
    let here : c ≡ x = some_same c x least.walk.from in
    let head : z < g.vertices = walk_head g z q least.walk.walk.2 in
    let moves : z ≢ x = λ e. no_loop (weight_at g c z) refl least.walk.walk.1 (here ∙ sym e) in (
      record {
        from = a;
        to = b;
        apart = apart;
        some_hops = omega arith;
        most_hops = omega (arith, short);
        next = head;
        moves = moves;
      },
      omega (
        arith,
        weight_most g graph (c ∷ z ∷ q),
        mul-le (hops_of (c ∷ z ∷ q)) MOST_WEIGHT MOST_VERTICES MOST_WEIGHT
            (omega (arith, short, graph.most)) (omega arith),
      ),
    )
  where
    no_loop : (o : Option ℕ) → weight_at g c z ≡ o → IsSome o → c ≡ z → ⊥
    no_loop None e h same = cc
    no_loop (Some w) e h same = (graph.edges c z w e).apart same

-- .. and can be written
pub writable_of : (v : VersionSeen) (s : Stated) → IsGraph v.graph → v.number < 10 ^ 18 → IsStatedOf v s → IsWritable s
writable_of v s graph small is = record {
  range = record {
    graph = subst IsGraph (sym is.graph) graph;
    entries = λ x y e h. subst (λ (g : Graph). IsEntryOf g.vertices x y e) (sym is.graph) (entry x y e h).0;
  };
  number = subst (λ k. k < 10 ^ 18) (sym is.number) small;
  dists = λ x y e h. (entry x y e h).1;
}
  where
    entry : (x y : ℕ) (e : Entry) → map.get s.entries (x, y) ≡ Some e → IsEntryOf v.graph.vertices x y e
        × (e.dist < 10 ^ 18)
    entry x y e h =
        let i = is.inside x y e h in
        let d : StatedEntryIs v.graph x y (Some e) = subst (StatedEntryIs v.graph x y) h (is.entries x y i.0 i.1 i.2) in
        let P : Entry → Type 0 = λ j. IsEntryOf v.graph.vertices x y j × (j.dist < 10 ^ 18) in
        subst P (sym d.2) (walk_entry v.graph x y d.0 graph i.0 i.1 i.2 d.1)
