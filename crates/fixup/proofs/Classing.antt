-- A class is taken: what `pop_class` gives is what the mathematics needs of a class. Serves `take_classes`.
use Rattle.std.specs.Prelude.{◌≡◌, ℕ, ◌+◌, ◌*◌, ◌<◌, ◌≤◌, ◌⊎◌, ◌↔◌, false, List, [], ◌∷◌, length, Some, unwrap_or, slice_index_or, refl, Contains}
use Rattle.std.specs.declared.cmp.Ordering.TheVariants.{Less}
use Rattle.std.proofs.Common.{sym, ◌∙◌, ap, subst, arith, inl, inr, get_or}
use Rattle.apsp_model.specs.Graph.{Graph}
use Rattle.apsp_model.specs.Walk.{IsWalk, IsWalkFrom, weight_of, hops_of, first, last}
use Rattle.apsp_model.specs.Order.{path_cmp, IsBelow}
use Rattle.apsp_model.proofs.Walks.{first_is, last_is}
use Rattle.path_arena.specs.Arena.{path_of, list_of, IsLive, id_cmp}
use Rattle.path_book.specs.Book.{Book}
use Rattle.weight_classes.specs.Classes.{Classes, Rank, IsLower, ClassesFit, IsHeldWithRank, IsPopped, first_of, last_of}
use Rattle.weight_classes.proofs.Held.{popped_cases, class_held, still_held}
use Rattle.std.proofs.lemmas.List.Elements.{Contains-get_or}
use Rattle.fixup_math.specs.Ranks.{ByWeightThenHops}
use Rattle.fixup_math.proofs.Ranks.{weight_then_hops_is_rank}
use Rattle.fixup_math.specs.Settling.{IsClass}
use Rattle.fixup_math.proofs.Classes.{IsPoppedByWeightThenHops, AreLeastTaken as IsWinnersOf, class_by_weight_then_hops}
use Rattle.fixup_math.proofs.Winners.{class_starts}
use Rattle.fixup.proofs.Growth.{id_weight}
use Rattle.fixup.proofs.Heads.{ends_inside}
use Rattle.fixup.specs.Views.{HeldIn, Kept, Marked, WonIn}
use Rattle.fixup.specs.Growth.{InvariantHolds, ClassIsTaken, ListedIn}

higher : (r s : Rank) → IsLower r s → s.weight ≡ r.weight → s.hops ≡ r.hops → ⊥
higher r s lower w h = elim lower [ inl less ↦ omega (arith, less, w) | inr tie ↦ omega (arith, tie.1, h) ]

not_upto : (r s : Rank) (v h w k : ℕ) → IsLower r s → s.weight ≡ v → s.hops ≡ h → w ≡ r.weight → k ≡ r.hops → (v < w)
    ⊎ ((v ≡ w) × (h ≤ k)) → ⊥
not_upto r s v h w k lower a b c d upto = elim lower [
  | inl less ↦ elim upto [ inl l ↦ omega (arith, less, l, a, c) | inr l ↦ omega (arith, less, l.0, a, c) ]
  | inr tie ↦ elim upto [ inl l ↦ omega (arith, tie.0, l, a, c) | inr l ↦ omega (arith, tie.1, l.1, b, d) ]
]

some_nonempty : (g : Graph) (p : List ℕ) → IsWalk g p → 0 < length p
some_nonempty g [] h = absurd h
some_nonempty g (x ∷ p) h = omega arith

module _ (g : Graph) (birth : ℕ) (b0 b : Book) (c : Classes) (s : InvariantHolds g birth b0 b c) (later : Classes)
    (rank : Rank) (winners : List ℕ) (popped : IsPopped c later b.arena rank winners) (fits : ClassesFit later b.arena)
  where
    walk_of : (id : ℕ) → IsLive b.arena id → IsWalk g (list_of b.arena id)
    walk_of id live = ((s.settling.kept (list_of b.arena id)).0 (id, live, refl)).walk

    live_of : (r : Rank) (id : ℕ) → IsHeldWithRank c r id → IsLive b.arena id
    live_of r id h = s.fits.live r id h

    -- a held id has its weight in the graph, and the number of edges of its path
    weighs : (r : Rank) (id : ℕ) → IsHeldWithRank c r id → r.weight ≡ weight_of g (list_of b.arena id)
    weighs r id h =
        sym (ap (λ (k : Rank). k.weight) (s.fits.ranks r id h)) ∙ id_weight g birth b0 b s.grown id (s.fits.live r id h)

    hops : (r : Rank) (id : ℕ) → IsHeldWithRank c r id → r.hops ≡ hops_of (list_of b.arena id)
    hops r id h = sym (ap (λ (k : Rank). k.hops) (s.fits.ranks r id h))

    first_there : (id x : ℕ) → IsLive b.arena id → first_of b.arena id ≡ x → first (list_of b.arena id) ≡ Some x
    first_there id x live e =
        let f = first_is (list_of b.arena id) (some_nonempty g (list_of b.arena id) (walk_of id live)) in
        f.1 ∙ ap Some (sym (ap (λ o. unwrap_or o 0) f.1) ∙ e)

    last_there : (id y : ℕ) → IsLive b.arena id → last_of b.arena id ≡ y → last (list_of b.arena id) ≡ Some y
    last_there id y live e =
        let f = last_is (list_of b.arena id) (some_nonempty g (list_of b.arena id) (walk_of id live)) in
        f.1 ∙ ap Some (sym (ap (λ o. unwrap_or o 0) f.1) ∙ e)

    from_of : (id : ℕ) (p : List ℕ) (x : ℕ) → list_of b.arena id ≡ p → first p ≡ Some x → first_of b.arena id ≡ x
    from_of id p x e f = ap (λ o. unwrap_or o 0) (ap first e ∙ f)

    to_of : (id : ℕ) (p : List ℕ) (y : ℕ) → list_of b.arena id ≡ p → last p ≡ Some y → last_of b.arena id ≡ y
    to_of id p y e f = ap (λ o. unwrap_or o 0) (ap last e ∙ f)

    -- the held id of a taken path
    at_rank : (q : List ℕ) → HeldIn b c q → weight_of g q ≡ rank.weight → hops_of q ≡ rank.hops → (id : ℕ)
        × Contains popped.class id × (list_of b.arena id ≡ q)
    at_rank q h e f = elim (popped_cases c later b.arena rank winners popped h.0 h.1 h.2) [
      | inl here ↦ (h.1, here.1, h.3)
      | inr more ↦ absurd (higher rank h.0 (popped.above h.0 h.1 more) (weighs h.0 h.1 h.2 ∙ ap (weight_of g) h.3 ∙ e)
          (hops h.0 h.1 h.2 ∙ ap hops_of h.3 ∙ f))
    ]

    winner_held : (w : ℕ) → Contains winners w → IsHeldWithRank c rank w
    winner_held w h = class_held c later b.arena rank winners popped w (popped.are_winners.taken w h)

    winners_are : IsWinnersOf g (λ q. HeldIn b c q × (weight_of g q ≡ rank.weight) × (hops_of q ≡ rank.hops))
        (ListedIn b winners) (WonIn c)
    winners_are = record {
      taken = λ w h.
          let held : IsHeldWithRank c rank h.0 = winner_held h.0 h.1 in (
            (rank, h.0, held, h.2),
            ap (weight_of g) (sym h.2) ∙ sym (weighs rank h.0 held),
            ap hops_of (sym h.2)
                ∙ sym (hops rank h.0 held),
          );
      fresh = λ x y w h walk won. popped.are_winners.fresh h.0 h.1
          ((λ i. slice_index_or c.won (from_of h.0 w x h.2 walk.from i * c.vertices + to_of h.0 w y h.2 walk.to i)
          false)
          ∙ won.2);
      least = λ x y w q h walk t walk_q below.
          let d = at_rank q t.0 t.1 t.2 in
          popped.are_winners.least h.0 d.0 h.1 d.1 (
            from_of d.0 q x d.2 walk_q.from ∙ sym (from_of h.0 w x h.2 walk.from),
            to_of d.0 q y d.2 walk_q.to
                ∙ sym (to_of h.0 w y h.2 walk.to),
          )
          (id_below d.0 h.0 q w (live_of rank d.0 (class_held c later b.arena rank winners popped d.0 d.1))
          (live_of rank h.0 (winner_held h.0 h.1)) d.2 h.2 below);
      each = λ x y q t walk.
          let d = at_rank q t.0 t.1 t.2 in
          let n : (x < g.vertices) × (y < g.vertices) = ends_inside g x y q walk in
          let count : g.vertices ≡ c.vertices = sym s.grown.vertices ∙ s.fits.vertices in
          elim (popped.are_winners.each d.0 d.1) [
            | inl won ↦ inl (
              subst (λ k. x < k) count n.0,
              subst (λ k. y < k) count n.1,
              (λ i. slice_index_or c.won (sym (from_of d.0 q x d.2 walk.from) i * c.vertices +
                  sym (to_of d.0 q y d.2 walk.to) i) false) ∙ won,
            )
            | inr w ↦
                let live : IsLive b.arena w.0 = live_of rank w.0 (winner_held w.0 w.1) in
                inr (
                  list_of b.arena w.0,
                  (w.0, w.1, refl),
                  record {
                    walk = walk_of w.0 live;
                    from = first_there w.0 x live (w.2.0 ∙ from_of d.0 q x d.2 walk.from);
                    to
                        = last_there w.0 y live (w.2.1 ∙ to_of d.0 q y d.2 walk.to);
                  },
                )
          ];
    }
      where
        id_below : (i j : ℕ) (p q : List ℕ) → IsLive b.arena i → IsLive b.arena j → list_of b.arena i ≡ p
            → list_of b.arena j ≡ q → IsBelow g p q → id_cmp b.arena i j ≡ Less
        id_below i j p q live_i live_j e f below =
            let v : (path_of b.arena i).weight ≡ weight_of g p =
            id_weight g birth b0 b s.grown i live_i ∙ ap (weight_of g) e in
            let w : (path_of b.arena j).weight ≡ weight_of g q =
            id_weight g birth b0 b s.grown j live_j ∙ ap (weight_of g) f in
            (λ k. path_cmp (v k) (e k) (w k) (f k)) ∙ below

    -- an id of the class
    pub class_one : ℕ
    class_one = get_or popped.class 0 0

    pub class_one_in : IsHeldWithRank c rank class_one
    unfolding class_one
    class_one_in =
        class_held c later b.arena rank winners popped (get_or popped.class 0 0)
        (Contains-get_or popped.class 0 0 popped.some)

    -- what was held does not rank below the class
    rank_least : (r : Rank) (id : ℕ) → IsHeldWithRank c r id → (rank ≡ r) ⊎ IsLower rank r
    rank_least r id h =
        elim (popped_cases c later b.arena rank winners popped r id h)
        [ inl here ↦ inl here.0 | inr more ↦ inr (popped.above r id more) ]

    pop : IsPoppedByWeightThenHops g (HeldIn b c) (HeldIn b later) (ListedIn b winners) (WonIn c) rank.weight rank.hops
    pop = record {
      some = (
        list_of b.arena class_one,
        (rank, class_one, class_one_in, refl),
        sym (weighs rank class_one class_one_in),
        sym (hops rank class_one class_one_in),
      );
      least = λ q h. elim (rank_least h.0 h.1 h.2) [
        | inl same ↦ omega (arith, ap (λ (k : Rank). k.weight) same, weighs h.0 h.1 h.2 ∙ ap (weight_of g) h.3)
        | inr lower ↦ elim lower [
          | inl less ↦ omega (arith, less, weighs h.0 h.1 h.2 ∙ ap (weight_of g) h.3)
          | inr tie ↦
              omega (arith, tie.0, weighs h.0 h.1 h.2 ∙ ap (weight_of g) h.3)
        ]
      ];
      fewest = λ q h e. elim (rank_least h.0 h.1 h.2) [
        | inl same ↦ omega (arith, ap (λ (k : Rank). k.hops) same, hops h.0 h.1 h.2 ∙ ap hops_of h.3)
        | inr lower ↦ elim lower [
          | inl less ↦
              absurd (omega (arith, less, e, weighs h.0 h.1 h.2 ∙ ap (weight_of g) h.3))
          | inr tie ↦
              omega (arith, tie.1, hops h.0 h.1 h.2 ∙ ap hops_of h.3)
        ]
      ];
      rest = λ q. (
        λ h.
            let was : IsHeldWithRank c h.0 h.1 = still_held c later b.arena rank winners popped h.0 h.1 h.2 in (
              (h.0, h.1, was, h.3),
              λ e f. higher rank h.0 (popped.above h.0 h.1 h.2)
                  (weighs h.0 h.1 was ∙ ap (weight_of g) h.3 ∙ e) (hops h.0 h.1 was ∙ ap hops_of h.3 ∙ f),
            ),
        λ h.
            let d : HeldIn b c q = h.0 in
            elim (popped_cases c later b.arena rank winners popped d.0 d.1 d.2) [
              | inl here ↦ absurd (h.1 (sym (weighs d.0 d.1 d.2 ∙ ap (weight_of g) d.3)
                  ∙ ap (λ (k : Rank). k.weight) (sym here.0))
                  (sym (hops d.0 d.1 d.2 ∙ ap hops_of d.3) ∙ ap (λ (k : Rank). k.hops) (sym here.0)))
              | inr more ↦ (d.0, d.1, more, d.3)
            ],
      );
      winners = winners_are;
    }

    class : IsClass g (ByWeightThenHops g) (HeldIn b c) (HeldIn b later) (ListedIn b winners) (WonIn c) pop.some.0
    class = class_by_weight_then_hops g (HeldIn b c) (HeldIn b later) (ListedIn b winners) (WonIn c) rank.weight
        rank.hops
        s.held_long pop

    -- the class that is taken
    pub class_path : List ℕ
    class_path = pop.some.0

    won_then : (x y : ℕ) → WonIn later x y ↔ (WonIn c x y ⊎ ((w : List ℕ) × ListedIn b winners w × IsWalkFrom g x y w))
    won_then x y = (
      λ h.
          let x_in : x < c.vertices = subst (λ k. x < k) popped.vertices h.0 in
          let y_in : y < c.vertices = subst (λ k. y < k) popped.vertices h.1 in
          elim ((popped.won x y x_in y_in).0 h.2) [
            | inl old ↦ inl (x_in, y_in, old)
            | inr w ↦
                let live : IsLive b.arena w.0 = live_of rank w.0 (winner_held w.0 w.1) in
                inr (
                  list_of b.arena w.0,
                  (w.0, w.1, refl),
                  record
                      { walk = walk_of w.0 live; from = first_there w.0 x live w.2; to = last_there w.0 y live w.3 },
                )
          ],
      λ h. elim h [
        | inl old ↦ (
          subst (λ k. x < k) (sym popped.vertices) old.0,
          subst (λ k. y < k) (sym popped.vertices) old.1,
          (popped.won x y old.0 old.1).1 (inl old.2),
        )
        | inr w ↦
            let n : (x < g.vertices) × (y < g.vertices) = ends_inside g x y w.0 w.2 in
            let count : g.vertices ≡ c.vertices = sym s.grown.vertices ∙ s.fits.vertices in
            let x_in : x < c.vertices = subst (λ k. x < k) count n.0 in
            let y_in : y < c.vertices = subst (λ k. y < k) count n.1 in (
              subst (λ k. x < k) (sym popped.vertices) x_in,
              subst (λ k. y < k) (sym popped.vertices) y_in,
              (popped.won x y x_in y_in).1
                  (inr (w.1.0, w.1.1, from_of w.1.0 w.0 x w.1.2 w.2.from, to_of w.1.0 w.0 y w.1.2 w.2.to)),
            )
      ],
    )

    pub class_weight : weight_of g class_path ≡ rank.weight
    unfolding class_path
    class_weight = pop.some.2

    pub class_hops : hops_of class_path ≡ rank.hops
    unfolding class_path
    class_hops = pop.some.3

    -- its winners are promoted next
    pub class_taken : ClassIsTaken g birth b0 class_path winners b later
    unfolding class_path
    class_taken = record {
      grown = s.grown;
      fits = fits;
      live = λ w h. live_of rank w (winner_held w h);
      in_order = popped.are_winners.in_order;
      held_long = λ p h. s.held_long p ((pop.rest p).0 h).0;
      above = λ p h upto.
          let was : IsHeldWithRank c h.0 h.1 = still_held c later b.arena rank winners popped h.0 h.1 h.2 in
          not_upto rank h.0 (weight_of g p) (hops_of p) (weight_of g pop.some.0) (hops_of pop.some.0)
          (popped.above h.0 h.1 h.2) (weighs h.0 h.1 was ∙ ap (weight_of g) h.3) (hops h.0 h.1 was ∙ ap hops_of h.3)
          pop.some.2 pop.some.3 upto;
      inside = class_starts g (ByWeightThenHops g) (weight_then_hops_is_rank g) (Marked b0) (Marked b) (Kept b)
          (HeldIn b c) (WonIn c) s.settling (HeldIn b later) (ListedIn b winners) class_path class (WonIn later)
          won_then;
    }
