-- The joins of a class, pair by pair, as the calls make them. Serves `settle_class` and `keep_joins`.
use Rattle.std.specs.Prelude.{◌≡◌, ◌≢◌, ℕ, ◌+◌, ◌-◌, ◌<◌, ◌≤◌, ◌⊎◌, List, [], ◌∷◌, ◌++◌, length, Some, None, is_some, unwrap_or, option_to_list, refl, Contains}
use Rattle.std.proofs.Common.{sym, ◌∙◌, ap, subst, arith, inl, inr}
use Rattle.std.proofs.lemmas.List.Elements.{Contains-append_left, Contains-push, Contains-push_cases}
use Rattle.apsp_model.specs.Graph.{Graph}
use Rattle.apsp_model.specs.Walk.{IsWalk, weight_of, first, last}
use Rattle.apsp_model.specs.Part.{left_part, right_part}
use Rattle.apsp_model.specs.Local.{IsLocal}
use Rattle.apsp_model.proofs.Lists.{ends_differ, length_right}
use Rattle.apsp_model.proofs.Walks.{last_is}
use Rattle.apsp_model.proofs.Joins.{joined, left-joined, right-joined, weight-joined, IsOverlap}
use Rattle.path_arena.specs.Arena.{Arena, path_of, list_of, left_of, right_of, overlap_of, IsLive, HasAnEdge, IsArena, CanJoin, no_path, joined_path}
use Rattle.path_arena.proofs.Paths.{live_path, path_of_at, parted, Parted, live_from_edge}
use Rattle.path_book.specs.Book.{Book, IsMarked, IsBook, IsNewList}
use Rattle.path_book.proofs.Readers.{single_or_edge}
use Rattle.pair_heaps.specs.Heaps.{HasEnds}
use Rattle.weight_classes.specs.Classes.{Classes, ClassesFit, InOrder}
use Rattle.apsp_model.proofs.Members.{in_nil}
use Rattle.fixup_math.specs.Joins.{IsJoin, Then}
use Rattle.fixup_math.proofs.Forming.{contains_push}
use Rattle.fixup_math.specs.Ranks.{ByWeightThenHops}
use Rattle.fixup_math.proofs.Ranks.{weight_then_hops_is_rank}
use Rattle.fixup_math.proofs.Batches.{IsPair, pair_joins, join_has_pair, joins_are_new}
use Rattle.fixup.specs.declared.listing.Join.{Join}
use Rattle.fixup.specs.Joining.{IsJoinFormed, IsJoined, IsQueuedIfLeast}
use Rattle.fixup.specs.Owing.{CanBeWinners, IsPromoted, IsOwed}
use Rattle.fixup.proofs.Parts.{Parts, parts_of, meets_in, same_id, edge_from_left, edge_from_right, edge_from_long}
use Rattle.fixup.proofs.Growth.{id_weight}
use Rattle.fixup.proofs.Promoting.{stage_of, promoting_starts, live_as, live_before, marked_then, joined_form, promoting_ends}
use Rattle.fixup.specs.Views.{HeldIn, Kept, Marked, WonIn}
use Rattle.fixup.specs.Growth.{ClassIsSettled, JoinsAreFormed, IsGrown, PairsAreJoined, ClassIsTaken, JoinOf, ListedIn}

-- a join weighs what its edges weigh
pub joined_weight : (g : Graph) (birth : ℕ) (b0 b : Book) → IsGrown g birth b0 b → (l r u : ℕ) → HasAnEdge b.arena l
    → HasAnEdge b.arena r → right_of b.arena l ≡ left_of b.arena r → last (list_of b.arena r) ≡ Some u
    → IsWalk g (list_of b.arena r) → (joined_path b.arena l r birth).weight ≡ weight_of g (joined (list_of b.arena l) u)
joined_weight g birth b0 b s l r u edge_l edge_r meets ends walk =
    let a : Arena = b.arena in
    let lawful : IsArena a = s.lawful.arena in
    let p : Parts a l = parts_of a l lawful edge_l in
    let o : IsOverlap (list_of a l) (list_of a r) u =
    record { some = p.long; overlap = meets_in a l r lawful edge_l edge_r meets; ends = ends } in
    let over : overlap_of a l ≡ p.right = ap (λ k. unwrap_or k 0) p.right_is in
    let wl : (path_of a l).weight ≡ weight_of g (list_of a l) =
    id_weight g birth b0 b s l (live_from_edge a l lawful edge_l) in
    let wr : (path_of a r).weight ≡ weight_of g (list_of a r) =
    id_weight g birth b0 b s r (live_from_edge a r lawful edge_r) in
    let wo : (path_of a (overlap_of a l)).weight ≡ weight_of g (right_part (list_of a l)) =
    ap (λ k. (path_of a k).weight) over ∙ id_weight g birth b0 b s p.right p.right_live
    ∙ ap (weight_of g) p.right_list in
    let sum : weight_of g (joined (list_of a l) u) + weight_of g (right_part (list_of a l)) ≡ weight_of g (list_of a l)
    + weight_of g (list_of a r) = weight-joined g (list_of a l) (list_of a r) u o walk in
    let here : (joined_path a l r birth).weight ≡ (path_of a l).weight + (path_of a r).weight -
    (path_of a (overlap_of a l)).weight = refl in
    omega (arith, wl, wr, wo, sum, here)

-- ---- the winners

module _ (g : Graph) (birth : ℕ) (b0 : Book) (cl : List ℕ) (winners : List ℕ) (before : Book) (held : Classes)
    (t : ClassIsTaken g birth b0 cl winners before held) where
  pub winner_pending : (w : ℕ) → Contains winners w → IsMarked before w → ⊥
  winner_pending w c m = t.inside.todo_new (list_of before.arena w) (w, c, refl) (w, m, refl)

  pub winner_edge : (w : ℕ) → Contains winners w → HasAnEdge before.arena w
  winner_edge w c = elim (single_or_edge before.arena w t.grown.lawful.arena (t.live w c)) [
    | inl one ↦ absurd (winner_pending w c (subst (IsMarked before) (sym one.2) (t.grown.lawful.singles one.0 one.1)))
    | inr found ↦ found
  ]

  -- what promoting needs
  pub can_be_winners : CanBeWinners before winners
  can_be_winners = record { lawful = t.grown.lawful; in_order = t.in_order; edge = winner_edge }

  -- no pair is joined yet
  pub joining_starts : (promoted : Book) → IsPromoted before winners promoted
      → PairsAreJoined (stage_of g b0 cl winners before held promoted) birth [] promoted held
  joining_starts promoted p = record {
    done = [];
    forming = promoting_starts g birth b0 cl winners before held promoted t p;
    owed = λ j c. absurd (in_nil j c);
    are = λ q. (λ c. absurd (in_nil q c), λ h. absurd (in_nil h.0 h.1));
  }

-- ---- which joins are formed

module _ (g : Graph) (birth : ℕ) (b0 : Book) (cl : List ℕ) (winners : List ℕ) (before : Book) (held : Classes)
    (promoted : Book) (pairs : List Join) (b : Book) (c : Classes)
    (s : PairsAreJoined (stage_of g b0 cl winners before held promoted) birth pairs b c) where
  start : ClassIsTaken g birth b0 cl winners before held
  start = s.forming.start

  lawful0 : IsBook before
  lawful0 = start.grown.lawful

  abbrev pub Winner : List ℕ → Type 0
  Winner = ListedIn before winners

  same_arena : promoted.arena ≡ before.arena
  same_arena = s.forming.promotion.arena

  -- what the book has by now of a path that it had before
  path_as : (id : ℕ) → IsLive before.arena id → path_of b.arena id ≡ path_of before.arena id
  path_as id live = ap (λ o. unwrap_or o no_path) (s.forming.still id live)

  historical : (id : ℕ) → IsMarked promoted id → IsMarked before id ⊎ Contains winners id
  historical id m = (s.forming.promotion.marks id).0 m

  live_of : (id : ℕ) → IsMarked promoted id → IsLive before.arena id
  live_of id m = live_before g birth b0 cl winners before held promoted s.done b c s.forming id (historical id m)

  then_of : (id : ℕ) → IsMarked promoted id → Then (Marked before) Winner (list_of before.arena id)
  then_of id m = elim (historical id m) [ inl old ↦ inl (id, old, refl) | inr new ↦ inr (id, new, refl) ]

  local_of : (p : List ℕ) → Then (Marked before) Winner p → IsLocal g (Marked before) p
  local_of p h =
      (start.inside.kept p).0 (elim h [
        | inl old ↦ start.inside.marked_kept p old
        | inr new ↦
            start.inside.todo_kept p new
      ])

  -- no join is kept that is not formed yet
  not_kept : (p : List ℕ) → IsJoin g (Marked before) Winner p → (Contains s.done p → ⊥) → Kept b p → ⊥
  not_kept p join new k = elim ((s.forming.forming.kept p).0 k) [
    | inl old ↦ joins_are_new g (ByWeightThenHops g) (weight_then_hops_is_rank g) (Marked b0) (Marked before)
        (Kept before) (HeldIn before held) Winner (WonIn held) cl start.inside p join old
    | inr formed ↦ new formed
  ]

  -- ---- an owed pair

  -- both halves have edges
  pub record Halves (l r : ℕ) : Type 0 where
    pub left : HasAnEdge before.arena l
    pub right : HasAnEdge before.arena r
    pub meets : right_of before.arena l ≡ left_of before.arena r

  halves_of : (j : Join) → IsOwed promoted winners j → Halves j.left j.right
  halves_of j o = elim o.promoted [
    | inl w ↦
        let edge : HasAnEdge before.arena j.left = winner_edge g birth b0 cl winners before held start j.left w in
        let p : Parts before.arena j.left = parts_of before.arena j.left lawful0.arena edge in
        record {
          left = edge;
          right = edge_from_left before.arena j.right p.right (sym meets ∙ p.right_is);
          meets
              = meets;
        }
    | inr w ↦
        let edge : HasAnEdge before.arena j.right = winner_edge g birth b0 cl winners before held start j.right w in
        let p : Parts before.arena j.right = parts_of before.arena j.right lawful0.arena edge in
        record {
          left = edge_from_right before.arena j.left p.left lawful0.arena (live_of j.left o.left)
              (meets ∙ p.left_is);
          right = edge;
          meets = meets;
        }
  ]
    where
      meets : right_of before.arena j.left ≡ left_of before.arena j.right
      meets = (λ i. right_of (sym same_arena i) j.left) ∙ o.meets ∙ (λ i. left_of (same_arena i) j.right)

  -- the last vertex of the right half
  ends_of : (j : Join) → IsOwed promoted winners j → (u : ℕ) × (last (list_of before.arena j.right) ≡ Some u)
  ends_of j o =
      last_is (list_of before.arena j.right)
      (let l : 1 < length (list_of before.arena j.right)
      = (parts_of before.arena j.right lawful0.arena (halves_of j o).right).long in omega (arith, l))

  overlaps : (j : Join) (o : IsOwed promoted winners j)
      → IsOverlap (list_of before.arena j.left) (list_of before.arena j.right) (ends_of j o).0
  overlaps j o =
      let h : Halves j.left j.right = halves_of j o in
      record {
        some = (parts_of before.arena j.left lawful0.arena h.left).long;
        overlap = meets_in before.arena j.left
            j.right lawful0.arena h.left h.right h.meets;
        ends = (ends_of j o).1;
      }

  -- the list of its join
  abbrev pub join_list : Join → List ℕ
  join_list j = list_of before.arena j.left ++ option_to_list (last (list_of before.arena j.right))

  list_is : (j : Join) (o : IsOwed promoted winners j)
      → join_list j ≡ joined (list_of before.arena j.left) (ends_of j o).0
  list_is j o = ap (λ u. list_of before.arena j.left ++ option_to_list u) (ends_of j o).1

  -- two owed pairs with one join are one pair
  same_pair : (i j : Join) → IsOwed promoted winners i → IsOwed promoted winners j → join_list i ≡ join_list j → i ≡ j
  same_pair i j o q e =
      let f : joined (list_of before.arena i.left) (ends_of i o).0 ≡ joined (list_of before.arena j.left)
      (ends_of j q).0 = sym (list_is i o) ∙ e ∙ list_is j q in
      let l : i.left ≡ j.left = lawful0.once i.left j.left (live_of i.left o.left) (live_of j.left q.left)
      (sym (left-joined (list_of before.arena i.left) (ends_of i o).0) ∙ ap left_part f
      ∙ left-joined (list_of before.arena j.left) (ends_of j q).0) in
      let r : i.right ≡ j.right = lawful0.once i.right j.right (live_of i.right o.right) (live_of j.right q.right)
      (sym (right-joined (list_of before.arena i.left) (list_of before.arena i.right) (ends_of i o).0 (overlaps i o))
      ∙ ap right_part f ∙ right-joined (list_of before.arena j.left) (list_of before.arena j.right) (ends_of j q).0
      (overlaps j q)) in
      λ k. record { left = l k; right = r k }

  module _ (j : Join) (o : IsOwed promoted winners j) where
    halves : Halves j.left j.right
    halves = halves_of j o

    left_live : IsLive before.arena j.left
    left_live = live_of j.left o.left

    right_live : IsLive before.arena j.right
    right_live = live_of j.right o.right

    abbrev pub ll : List ℕ
    ll = list_of before.arena j.left

    abbrev pub lr : List ℕ
    lr = list_of before.arena j.right

    is_pair : (first ll ≢ last lr) → IsPair (Marked before) Winner ll lr (ends_of j o).0
    is_pair apart = record {
      left = then_of j.left o.left;
      right = then_of j.right o.right;
      promoted = elim o.promoted [ inl w ↦ inl (j.left, w, refl) | inr w ↦ inr (j.right, w, refl) ];
      overlap = overlaps j o;
      apart = λ e. apart (e ∙ sym (ends_of j o).1);
    }

    is_join : (first ll ≢ last lr) → IsJoin g (Marked before) Winner (join_list j)
    is_join apart = subst (IsJoin g (Marked before) Winner) (sym (list_is j o))
        (pair_joins g (ByWeightThenHops g) (weight_then_hops_is_rank g) (Marked b0) (Marked before) (Kept before)
        (HeldIn before held) Winner (WonIn held) cl start.inside ll lr (ends_of j o).0 (is_pair apart))

    not_formed : (Contains pairs j → ⊥) → Contains s.done (join_list j) → ⊥
    not_formed once formed =
        let k : JoinOf before pairs (join_list j) = (s.are (join_list j)).0 formed in
        once (subst (Contains pairs) (same_pair k.0 j (s.owed k.0 k.1) o (sym k.3)) k.1)

    list_l : list_of b.arena j.left ≡ ll
    list_l = ap (λ p. p.list) (path_as j.left left_live)

    list_r : list_of b.arena j.right ≡ lr
    list_r = ap (λ p. p.list) (path_as j.right right_live)

    list_now : (list_of b.arena j.left ++ option_to_list (last (list_of b.arena j.right))) ≡ join_list j
    list_now = λ i. list_l i ++ option_to_list (last (list_r i))

    apart_before : (first (list_of b.arena j.left) ≢ last (list_of b.arena j.right)) → first ll ≢ last lr
    apart_before apart same = apart (ap first list_l ∙ same ∙ sym (ap last list_r))

    -- what the call needs
    pub pair_can : (first (list_of b.arena j.left) ≢ last (list_of b.arena j.right)) → CanJoin b.arena j.left j.right
    pair_can apart = record {
      left_live = ap (λ p. is_some p.left) (path_as j.left left_live) ∙ halves.left;
      right_live = ap (λ p. is_some p.left) (path_as j.right right_live) ∙ halves.right;
      meets = ap (λ p. p.right) (path_as j.left left_live) ∙ halves.meets
          ∙ sym (ap (λ p. p.left) (path_as j.right right_live));
      apart = apart;
    }

    pub pair_fresh : (n : ℕ) → (Contains pairs j → ⊥)
        → (first (list_of b.arena j.left) ≢ last (list_of b.arena j.right))
        → IsNewList b (joined_path b.arena j.left j.right n).list
    pair_fresh n once apart id live same =
        not_kept (join_list j) (is_join (apart_before apart)) (not_formed once) (id, live, same ∙ list_now)

    pub left_marked : IsMarked b j.left
    left_marked =
        marked_then g birth b0 cl winners before held promoted s.done b c s.forming j.left (historical j.left o.left)

    pub right_marked : IsMarked b j.right
    right_marked =
        marked_then g birth b0 cl winners before held promoted s.done b c s.forming j.right (historical j.right o.right)

    pub left_now : IsLive b.arena j.left
    left_now = live_as g birth b0 cl winners before held promoted s.done b c s.forming j.left left_live

    pub right_now : IsLive b.arena j.right
    right_now = live_as g birth b0 cl winners before held promoted s.done b c s.forming j.right right_live

    owed_more : (k : Join) → Contains (pairs ++ j ∷ []) k → IsOwed promoted winners k
    owed_more k m =
        elim (Contains-push_cases pairs j k m)
        [ inl old ↦ s.owed k old | inr new ↦ subst (IsOwed promoted winners) new o ]

    -- one pair more
    pub pair_step : (Contains pairs j → ⊥) → (after : Book) (later : Classes)
        → IsJoined b c j.left j.right birth after later → IsBook after → ClassesFit later after.arena
        → PairsAreJoined (stage_of g b0 cl winners before held promoted) birth (pairs ++ j ∷ []) after later
    pair_step once after later outcome lawful fits = elim outcome [
      | inl same ↦ subst (λ (d : Classes). PairsAreJoined (stage_of g b0 cl winners before held promoted) birth
          (pairs ++ j ∷ []) after d) (sym same.2)
          (subst (λ (a : Book). PairsAreJoined (stage_of g b0 cl winners before held promoted) birth (pairs ++ j ∷ []) a
          c) (sym same.1) (record {
            done = s.done;
            forming = s.forming;
            owed = owed_more;
            are = λ p. (
              λ m. let k = (s.are p).0 m in (k.0, Contains-append_left pairs (j ∷ []) k.0 k.1, k.2, k.3),
              λ k. (s.are p).1 (elim (Contains-push_cases pairs j k.0 k.1) [
                | inl old ↦ (k.0, old, k.2, k.3)
                | inr new ↦ absurd (k.2 ((λ i. first (list_of before.arena (sym new i).left)) ∙ sym (ap first list_l)
                    ∙ same.0 ∙ ap last list_r ∙ (λ i. last (list_of before.arena (new i).right))))
              ]),
            );
          }))
      | inr formed ↦ with_form formed.0 formed.1
    ]
      where
        with_form : (first (list_of b.arena j.left) ≢ last (list_of b.arena j.right))
            → IsJoinFormed b c j.left j.right birth after later
            → PairsAreJoined (stage_of g b0 cl winners before held promoted) birth (pairs ++ j ∷ []) after later
        with_form apart f = record {
          done = s.done ++ (joined_path b.arena j.left j.right birth).list ∷ [];
          forming =
              subst (λ (a : Book). JoinsAreFormed (stage_of g b0 cl winners before held promoted) birth
              (s.done ++ (joined_path b.arena j.left j.right birth).list ∷ []) a later) (sym f.kept)
              (joined_form g birth b0 cl winners before held promoted s.done b c s.forming f.id
              (joined_path b.arena j.left j.right birth) f.fresh weight refl join f.from f.to later
              (subst (λ (a : Book). HasEnds a.arena f.id f.from f.to) f.kept f.ends)
              (subst (λ (a : Book). IsQueuedIfLeast a f.from f.to f.id c later) f.kept f.queued)
              (subst IsBook f.kept lawful)
              (subst (λ (a : Book). ClassesFit later a.arena) f.kept fits));
          owed = owed_more;
          are = λ p. (
            λ m. elim ((contains_push s.done (joined_path b.arena j.left j.right birth).list p).0 m) [
              | inl old ↦ let k = (s.are p).0 old in (k.0, Contains-append_left pairs (j ∷ []) k.0 k.1, k.2, k.3)
              | inr new ↦ (j, Contains-push pairs j, apart_before apart, new ∙ list_now)
            ],
            λ k. (contains_push s.done (joined_path b.arena j.left j.right birth).list p).1
                (elim (Contains-push_cases pairs j k.0 k.1) [
                  | inl old ↦ inl ((s.are p).1 (k.0, old, k.2, k.3))
                  | inr new ↦ inr (k.3 ∙ (λ i. join_list (sym new i)) ∙ sym list_now)
                ]),
          );
        }
          where
            join : IsJoin g (Marked before) Winner (joined_path b.arena j.left j.right birth).list
            join = subst (IsJoin g (Marked before) Winner) (sym list_now) (is_join (apart_before apart))

            weight : (joined_path b.arena j.left j.right birth).weight ≡ weight_of g
                (joined_path b.arena j.left j.right birth).list
            weight =
                let can : CanJoin b.arena j.left j.right = pair_can apart in
                joined_weight g birth b0 b s.forming.grown j.left j.right (ends_of j o).0 can.left_live can.right_live
                can.meets (ap last list_r ∙ (ends_of j o).1)
                (subst (IsWalk g) (sym list_r) (local_of lr (then_of j.right o.right)).walk)
                ∙ ap (weight_of g) ((λ i. joined (list_l i) (ends_of j o).0) ∙ sym (list_is j o) ∙ sym list_now)

  -- ---- all pairs

  -- two paths by their lists are an owed pair by their ids
  by_lists : (l r : ℕ) → IsMarked promoted l → IsMarked promoted r → Contains winners l ⊎ Contains winners r
      → 1 < length (list_of before.arena l) → 1 < length (list_of before.arena r)
      → right_part (list_of before.arena l) ≡ left_part (list_of before.arena r)
      → IsOwed promoted winners (record { left = l; right = r })
  by_lists l r m n w long_l long_r meets =
      let p : Parts before.arena l =
      parts_of before.arena l lawful0.arena (edge_from_long before.arena l lawful0.arena (live_of l m) long_l) in
      let q : Parts before.arena r =
      parts_of before.arena r lawful0.arena (edge_from_long before.arena r lawful0.arena (live_of r n) long_r) in
      let one : p.right ≡ q.left =
      lawful0.once p.right q.left p.right_live q.left_live (p.right_list ∙ meets ∙ sym q.left_list) in
      record {
        left = m;
        right = n;
        meets = (λ i. right_of (same_arena i) l) ∙ p.right_is ∙ ap Some one ∙ sym q.left_is
            ∙ (λ i. left_of (sym same_arena i) r);
        promoted = w;
      }

  id_of : (p : List ℕ) → Then (Marked before) Winner p → (id : ℕ) × IsMarked promoted id × (list_of before.arena id ≡ p)
      × (Winner p → Contains winners id)
  id_of p h = elim h [
    | inl old ↦ (
      old.0,
      (s.forming.promotion.marks old.0).1 (inl old.1),
      old.2,
      λ w. subst (Contains winners)
          (lawful0.once w.0 old.0 (start.live w.0 w.1) (lawful0.marked_live old.0 old.1) (w.2 ∙ sym old.2)) w.1,
    )
    | inr new ↦ (new.0, (s.forming.promotion.marks new.0).1 (inr new.1), new.2, λ w. new.1)
  ]

  -- where all owed pairs were joined the class is done
  pub joining_ends : ((j : Join) → IsOwed promoted winners j → Contains pairs j) → ClassIsSettled g birth b0 cl b c
  joining_ends all = promoting_ends g birth b0 cl winners before held promoted s.done b c s.forming (λ p join.
      let h : (u : ℕ) × IsPair (Marked before) Winner (left_part p) (right_part p) u × (p ≡ joined (left_part p) u) =
      join_has_pair g (ByWeightThenHops g) (weight_then_hops_is_rank g) (Marked b0) (Marked before) (Kept before)
      (HeldIn before held) Winner (WonIn held) cl start.inside p join in
      let u : ℕ = h.0 in
      let pair : IsPair (Marked before) Winner (left_part p) (right_part p) u = h.1 in
      let l = id_of (left_part p) pair.left in
      let r = id_of (right_part p) pair.right in
      let long : 3 ≤ length p = join.long in
      let o : IsOwed promoted winners (record { left = l.0; right = r.0 }) =
      by_lists l.0 r.0 l.1 r.1 (elim pair.promoted [ inl w ↦ inl (l.3 w) | inr w ↦ inr (r.3 w) ])
      (let n : 1 < length (left_part p) = pair.overlap.some in omega (arith, n, ap length l.2))
      (omega (arith, long, length_right p (omega (arith, long)), ap length r.2))
      (ap right_part l.2 ∙ pair.overlap.overlap ∙ ap left_part (sym r.2)) in
      let end : last (list_of before.arena r.0) ≡ Some u = ap last r.2 ∙ pair.overlap.ends in
      (s.are p).1 (
        record { left = l.0; right = r.0 },
        all (record { left = l.0; right = r.0 }) o,
        (λ same. pair.apart (sym (ap first l.2) ∙ same ∙ end)),
        h.2 ∙ (λ i. sym l.2 i ++ u ∷ [])
            ∙ ap (λ o. list_of before.arena l.0 ++ option_to_list o) (sym end),
      ))
