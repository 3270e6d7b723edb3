-- The demotions of a list of ids, from its end: its start, one turn, and its end. For `star`, `demote_last`,
-- `demote` and `found`.
use Rattle.std.specs.Prelude.{◌≡◌, ℕ, ◌<◌, ◌≤◌, ◌↔◌, List, [], ◌∷◌, ◌++◌, length, Some, is_some, refl, Contains}
use Rattle.std.proofs.Common.{sym, ◌∙◌, ap, subst, arith, inl, inr}
use Rattle.std.proofs.lemmas.List.Elements.{Contains-append_left, Contains-append_right}
use Rattle.apsp_model.specs.Graph.{Graph}
use Rattle.apsp_model.specs.Walk.{IsOnceEach}
use Rattle.apsp_model.specs.Part.{IsProperPart, left_part, right_part}
use Rattle.apsp_model.specs.Local.{IsLocal, IsShortest}
use Rattle.apsp_model.specs.Paths.{KeptPath, IsKeptIn, IsHistoricalIn}
use Rattle.apsp_model.proofs.Locals.{left_is_part, right_is_part}
use Rattle.apsp_model.proofs.Members.{head_in, tail_in}
use Rattle.path_arena.specs.Arena.{path_at, list_of, left_of, right_of, IsLive, HasAnEdge}
use Rattle.path_arena.proofs.Paths.{live_from_edge}
use Rattle.path_book.specs.Book.{Book, IsBook, IsMarked, kept_paths, HasNonePending}
use Rattle.path_book.specs.Through.{AreForgotten}
use Rattle.path_book.proofs.Changes.{kept_before, kept_still}
use Rattle.path_book.proofs.Ends.{Ends, ends, edge_of_right}
use Rattle.path_book.proofs.Kept.{KeptAt, kept_at, kept_live, historical_marked, live_is_kept}
use Rattle.path_book.proofs.Readers.{edge_of_long}
use Rattle.path_book.proofs.Tables.{in_map, to_map}
use Rattle.fixup_math.proofs.Forming.{contains_push}
use Rattle.shortest_math.specs.Rising.{IsRisingBy}
use Rattle.shortest_math.specs.Shortest.{IsLocallyShortest, IsDemoted, IsShortening, IsShortestBook}
use Rattle.shortest_math.proofs.Demotions.{demoting_starts, todo_long, none_above, above_is_extension, locally_shortest_by_ends, was_historical}
use Rattle.shortest_math.proofs.DemotionLists.{demoting_as_listed, last_is_longest, last_is_apart}
use Rattle.shortest_math.proofs.DemotionSteps.{shortening_turn, shortening_ends}
use Rattle.shortest_math.proofs.ShortestStars.{shortest_is_least, ToDemote}
use Rattle.local_engine.specs.Kept.{KeepsLocal, CoversShortest}
use Rattle.local_engine.specs.Demoting.{size_at, lists_at, AreOutdone, AreToDemote, IsLongerBy, IsForgottenFrom}
use Rattle.local_engine.specs.Forming.{CanBeFormed, IsFormedOf}
use Rattle.local_engine.proofs.Reading.{shortening_covers, none_pending}
use Rattle.local_engine.proofs.Forgetting.{path_still, path_was, same_path_of}

same_some : (x y : ℕ) → Some x ≡ Some y → x ≡ y
same_some x y e = cc

-- ---- the lists of ids

pub lists_push : (b : Book) (ids : List ℕ) (id : ℕ)
    → lists_at b (ids ++ id ∷ []) ≡ lists_at b ids ++ list_of b.arena id ∷ []
lists_push b [] id = refl
lists_push b (x ∷ ids) id = ap (λ xs. list_of b.arena x ∷ xs) (lists_push b ids id)

lists_alike : (b c : Book) (ids : List ℕ) → ((k : ℕ) → Contains ids k → list_of b.arena k ≡ list_of c.arena k)
    → lists_at b ids ≡ lists_at c ids
lists_alike b c [] same = refl
lists_alike b c (x ∷ ids) same = let head = same x (head_in x x ids refl) in
    let rest = lists_alike b c ids (λ k m. same k (tail_in k x ids m)) in (λ i. head i ∷ rest i)

in_lists : (b : Book) (ids : List ℕ) (p : List ℕ) → Contains (lists_at b ids) p
    → (id : ℕ) × Contains ids id × (list_of b.arena id ≡ p)
in_lists b ids p c = in_map (λ id. list_of b.arena id) ids p c

to_lists : (b : Book) (ids : List ℕ) (id : ℕ) → Contains ids id → Contains (lists_at b ids) (list_of b.arena id)
to_lists b ids id c = to_map (λ id. list_of b.arena id) ids id c

lists_once : (b : Book) (ids : List ℕ) → IsBook b → ((id : ℕ) → Contains ids id → IsLive b.arena id) → IsOnceEach ids
    → IsOnceEach (lists_at b ids)
lists_once b [] was live once = tt
lists_once b (x ∷ ids) was live once = (
  λ c. (let h = in_lists b ids (list_of b.arena x) c in
      once.0 (subst (Contains ids) (was.once h.0 x (live h.0 (tail_in h.0 x ids h.1)) (live x (head_in x x ids refl))
      h.2) h.1)),
  lists_once b ids was (λ k c. live k (tail_in k x ids c)) once.1,
)

lists_rising : (b : Book) (ids : List ℕ) → IsRisingBy (size_at b) ids → IsRisingBy length (lists_at b ids)
lists_rising b [] rising = tt
lists_rising b (x ∷ ids) rising = (
  λ p c. (let h = in_lists b ids p c in
      subst (λ (q : List ℕ). length (list_of b.arena x) ≤ length q) h.2 (rising.0 h.0 h.1)),
  lists_rising b ids rising.1,
)

-- ---- the start, behind a settling

pub to_demote : (g : Graph) (b : Book) (ids : List ℕ) → IsBook b → b.arena.vertices ≡ g.vertices
    → KeepsLocal g (kept_paths b) → AreOutdone g b ids → AreToDemote g b ids
to_demote g b ids was same keeps out = record {
  settled = kept_paths b;
  same = same;
  live = live;
  shortening = record {
    demoting = demoting_as_listed g H H (IsKeptIn (kept_paths b)) (ToDemote g (kept_paths b))
        (Contains (lists_at b ids)) listed
        (demoting_starts g H (IsKeptIn (kept_paths b)) (ToDemote g (kept_paths b)) keeps.local.closed
        (λ p h. keeps.least p ((shortest_is_least g p).0 h)) (λ p h. (h.0, h.1, h.2)) keeps.local.kept
        (λ p. (λ h. h, λ h. h)));
    once = lists_once b ids was live out.once;
    rising = lists_rising b ids out.rising;
    weights = keeps.local.weights;
  };
}
  where
    H : List ℕ → Type 0
    H = IsHistoricalIn (kept_paths b)

    live : (id : ℕ) → Contains ids id → IsLive b.arena id
    live id c = was.marked_live id ((out.exact id).0 c).0

    listed : (p : List ℕ) → ToDemote g (kept_paths b) p ↔ Contains (lists_at b ids) p
    listed p = (
      λ h. (let at = (historical_marked b p).0 h.0 in
          subst (Contains (lists_at b ids)) at.2
          (to_lists b ids at.0 ((out.exact at.0).1 (at.3, λ yes_it. h.1 (subst (IsShortest g) at.2 yes_it))))),
      λ c. (let at = in_lists b ids p c in
          let is = (out.exact at.0).0 at.1 in (
            (historical_marked b p).1 (at.0, was.marked_live at.0 is.0, at.2, is.0),
            λ yes_it. is.1 (subst (IsShortest g) (sym at.2) yes_it),
          )),
    )

-- ---- the end

pub all_demoted : (g : Graph) (b : Book) (ids : List ℕ) → length ids ≡ 0 → AreToDemote g b ids
    → IsShortestBook g (kept_paths b)
all_demoted g b [] none s = shortening_ends g (IsHistoricalIn s.settled) (kept_paths b) s.shortening
all_demoted g b (x ∷ ids) none s = absurd (omega (arith, none))

-- ---- at any moment

pub none_pending_yet : (g : Graph) (b : Book) (ids : List ℕ) → AreToDemote g b ids → HasNonePending b
none_pending_yet g b ids s = none_pending b g
    (shortening_covers g (IsHistoricalIn s.settled) (lists_at b ids) (kept_paths b) s.shortening)
    (λ p h. (s.shortening.demoting.historical p).1 (inl h))

-- ---- one turn

module _ (g : Graph) (b : Book) (rest : List ℕ) (id : ℕ) (s : AreToDemote g b (rest ++ id ∷ [])) (was : IsBook b) where
  abbrev pub H0 : List ℕ → Type 0
  H0 = IsHistoricalIn s.settled

  abbrev pub H : List ℕ → Type 0
  H = IsHistoricalIn (kept_paths b)

  abbrev pub K : List ℕ → Type 0
  K = IsKeptIn (kept_paths b)

  abbrev pub h : List ℕ
  h = list_of b.arena id

  abbrev pub ps : List (List ℕ)
  ps = lists_at b rest

  abbrev pub Todo : List ℕ → Type 0
  Todo = Contains (ps ++ h ∷ [])

  turn : IsShortening g H0 (ps ++ h ∷ []) (kept_paths b)
  turn = subst (λ xs. IsShortening g H0 xs (kept_paths b)) (lists_push b rest id) s.shortening

  todo : Todo h
  todo = (contains_push ps h h).1 (inr refl)

  longest : (p : List ℕ) → Todo p → length p ≤ length h
  longest = last_is_longest ps h turn.rising

  pub last_live : IsLive b.arena id
  last_live = s.live id (Contains-append_right rest (id ∷ []) id (head_in id id [] refl))

  h_long : 1 < length h
  h_long = todo_long g H0 H K Todo turn.demoting h todo

  pub last_edge : HasAnEdge b.arena id
  last_edge = edge_of_long b.arena id was.arena last_live h_long

  h_local : IsLocal g H h
  h_local = turn.demoting.local h (was_historical g H0 H K Todo turn.demoting h todo longest)

  kept_at_id : (k : ℕ) → IsLive b.arena k → K (list_of b.arena k)
  kept_at_id k live = (kept_live b (list_of b.arena k)).1 (k, live, refl)

  historical_at : (k : ℕ) → IsMarked b k → H (list_of b.arena k)
  historical_at k mark = (historical_marked b (list_of b.arena k)).1 (k, was.marked_live k mark, refl, mark)

  marked_at : (k : ℕ) → IsLive b.arena k → H (list_of b.arena k) → IsMarked b k
  marked_at k live old =
      let at = (historical_marked b (list_of b.arena k)).0 old in
      subst (IsMarked b) (was.once at.0 k at.1 live at.2) at.3

  -- one vertex more is to have it as a proper part
  longer_live : (k : ℕ) → IsLongerBy b.arena id k → IsLive b.arena k
  longer_live k longer = live_from_edge b.arena k was.arena
      (elim longer [ inl left ↦ ap is_some left | inr right ↦ edge_of_right b.arena was.arena k id right ])

  longer_is_above : (k : ℕ) → IsLongerBy b.arena id k → IsProperPart h (list_of b.arena k)
  longer_is_above k longer =
      let edge : HasAnEdge b.arena k =
      elim longer [ inl left ↦ ap is_some left | inr right ↦ edge_of_right b.arena was.arena k id right ] in
      let e : Ends b.arena k = ends b.arena k was.arena edge in
      let two : 2 ≤ length (list_of b.arena k) = (let l : 1 < length (list_of b.arena k) = e.long in omega arith) in
      elim longer [
        | inl left ↦ subst (λ (q : List ℕ). IsProperPart q (list_of b.arena k))
            (sym e.left_list ∙ ap (list_of b.arena) (same_some e.left id (sym e.left_is ∙ left)))
            (left_is_part (list_of b.arena k) two)
        | inr right ↦ subst (λ (q : List ℕ). IsProperPart q (list_of b.arena k))
            (sym e.right_list ∙ ap (list_of b.arena) (same_some e.right id (sym e.right_is ∙ right)))
            (right_is_part (list_of b.arena k) two)
      ]

  above_is_longer : (k : ℕ) → IsLive b.arena k → IsProperPart h (list_of b.arena k) → IsLongerBy b.arena id k
  above_is_longer k live part =
      let long : 1 < length (list_of b.arena k) = (let l : length h < length (list_of b.arena k) = part.shorter in
      let m : 1 < length h = h_long in omega arith) in
      let e : Ends b.arena k = ends b.arena k was.arena (edge_of_long b.arena k was.arena live long) in
      elim ((above_is_extension g H0 H K Todo turn.demoting h todo longest (list_of b.arena k) (kept_at_id k live)).0
      part) [
        | inl left ↦ inl (e.left_is ∙ ap Some (was.once e.left id e.left_live last_live (e.left_list ∙ left)))
        | inr right ↦ inr (e.right_is ∙ ap Some (was.once e.right id e.right_live last_live (e.right_list ∙ right)))
      ]

  -- no historical path has one vertex more
  pub none_longer : (k : ℕ) → IsMarked b k → IsLongerBy b.arena id k → ⊥
  none_longer k mark longer = none_above g H0 H K Todo turn.demoting h todo longest (list_of b.arena k)
      (historical_at k mark) (longer_is_above k longer)

  pub last_covers : CoversShortest g (kept_paths b)
  last_covers = shortening_covers g H0 (ps ++ h ∷ []) (kept_paths b) turn

  -- its two parts are historical, and it is locally shortest where they are shortest
  module _ (l r : ℕ) (left : left_of b.arena id ≡ Some l) (right : right_of b.arena id ≡ Some r) where
    e : Ends b.arena id
    e = ends b.arena id was.arena last_edge

    left_list : list_of b.arena l ≡ left_part h
    left_list = ap (list_of b.arena) (same_some l e.left (sym left ∙ e.left_is)) ∙ e.left_list

    right_list : list_of b.arena r ≡ right_part h
    right_list = ap (list_of b.arena) (same_some r e.right (sym right ∙ e.right_is)) ∙ e.right_list

    pub part_l_live : IsLive b.arena l
    part_l_live = was.marked_live l (was.left_marked id l left)

    pub part_r_live : IsLive b.arena r
    part_r_live = was.marked_live r (was.right_marked id r right)

    by_parts : IsLocallyShortest g h ↔ (IsShortest g (list_of b.arena l) × IsShortest g (list_of b.arena r))
    by_parts =
        let w = locally_shortest_by_ends g H0 H K Todo turn.demoting h todo longest in (
          λ yes_it. (let q = w.0 yes_it in
              (subst (IsShortest g) (sym left_list) q.0, subst (IsShortest g) (sym right_list) q.1)),
          λ q. w.1 (subst (IsShortest g) left_list q.0, subst (IsShortest g) right_list q.1),
        )

    -- ---- once it and those with one vertex more are forgotten

    module _ (mid : Book) (gone : IsForgottenFrom b mid id) (now : IsBook mid) where
      f : AreForgotten b mid gone.ids
      f = gone.forgotten

      mid_has : (k : KeptPath) → Contains (kept_paths mid) k
          ↔ (Contains (kept_paths b) k × (IsProperPart h k.list → ⊥) × (k.list ≡ h → ⊥))
      mid_has k = (
        λ c. (
            let before = kept_before b mid gone.ids f k c in
            let at : KeptAt b k = before.0 in (
              subst (Contains (kept_paths b)) at.is (live_is_kept b at.id at.live),
              λ part. before.1 ((gone.exact at.id).1
                  (inl (above_is_longer at.id at.live (subst (IsProperPart h) (sym at.list) part)))),
              λ same. before.1 ((gone.exact at.id).1 (inr (was.once at.id id at.live last_live (at.list ∙ same)))),
            )
            ),
        λ c. (
            let at : KeptAt b k = kept_at b k c.0 in
            subst (Contains (kept_paths mid)) at.is
            (kept_still b mid gone.ids f at.id at.live (λ m. elim ((gone.exact at.id).0 m) [
              | inl longer ↦ c.1 (subst (IsProperPart h) at.list (longer_is_above at.id longer))
              | inr same ↦ c.2 (sym at.list ∙ ap (list_of b.arena) same)
            ]))
            ),
      )

      -- a historical path other than it stays
      stays : (k : ℕ) → IsMarked b k → (k ≡ id → ⊥) → Contains gone.ids k → ⊥
      stays k mark apart c = elim ((gone.exact k).0 c) [ inl longer ↦ none_longer k mark longer | inr same ↦ apart same ]

      mid_path : (k : ℕ) → IsMarked b k → (k ≡ id → ⊥) → path_at mid.arena k ≡ path_at b.arena k
      mid_path k mark apart = path_still b mid gone.ids f k (was.marked_live k mark) (stays k mark apart)

      rest_marked : (k : ℕ) → Contains rest k → IsMarked b k × (k ≡ id → ⊥)
      rest_marked k c =
          let live : IsLive b.arena k = s.live k (Contains-append_left rest (id ∷ []) k c) in (
            marked_at k live ((turn.demoting.historical (list_of b.arena k)).1
                (inr ((contains_push ps h (list_of b.arena k)).1 (inl (to_lists b rest k c))))),
            λ same. last_is_apart ps h turn.once (subst (Contains ps) (ap (list_of b.arena) same) (to_lists b rest k c)),
          )

      -- what is left to demote, in a book that kept those paths
      rest_then : (birth : ℕ) (new : Book) → IsDemoted g birth h (kept_paths b) (kept_paths new)
          → new.arena.vertices ≡ mid.arena.vertices
          → ((k : ℕ) → IsLive mid.arena k → path_at new.arena k ≡ path_at mid.arena k) → AreToDemote g new rest
      rest_then birth new d count still =
          let at : (k : ℕ) → Contains rest k → path_at new.arena k ≡ path_at b.arena k = λ k c. (
          let m = rest_marked k c in
          let p = mid_path k m.0 m.1 in
          still k (ap is_some p ∙ was.marked_live k m.0) ∙ p
          ) in
          record {
            settled = s.settled;
            same = count ∙ f.vertices ∙ s.same;
            live = λ k c. ap is_some (at k c) ∙ was.marked_live k (rest_marked k c).0;
            shortening = subst (λ xs. IsShortening g H0 xs (kept_paths new))
                (lists_alike b new rest (λ k c. ap (λ p. p.list) (sym (same_path_of new.arena b.arena k (at k c)))))
                (shortening_turn g H0 ps h birth (kept_paths b) (kept_paths new) turn d);
          }

      -- it is not formed again
      pub turn_without : (birth : ℕ) → (IsLocallyShortest g h → ⊥) → AreToDemote g mid rest
      turn_without birth no_it = rest_then birth mid
          (λ k. (
            λ c. inl ((mid_has k).0 c),
            λ c. elim c [ inl old ↦ (mid_has k).1 old | inr new ↦ absurd (no_it new.1) ],
          ))
          refl (λ k live. refl)

      -- it can be formed again, and is
      pub can_form : CanBeFormed g mid l r h
      can_form =
          let ml : IsMarked b l = was.left_marked id l left in
          let mr : IsMarked b r = was.right_marked id r right in
          record {
            same = f.vertices ∙ s.same;
            weights = λ k c. turn.weights k ((mid_has k).0 c).0;
            long = h_long;
            simple = h_local.simple;
            walk = h_local.walk;
            new = λ k live e. (
                let w = path_was b mid gone.ids f k live in
                let same : list_of b.arena k ≡ h = ap (λ p. p.list) (sym (same_path_of mid.arena b.arena k w.0)) ∙ e in
                w.1 ((gone.exact k).1 (inr (was.once k id (ap is_some (sym w.0) ∙ live) last_live same)))
                );
            left_marked = (f.marked l).1 (ml, stays l ml (not_part_l));
            right_marked = (f.marked r).1 (mr, stays r mr (not_part_r));
            left_list = ap (λ p. p.list) (same_path_of mid.arena b.arena l (mid_path l ml not_part_l)) ∙ left_list;
            right_list = ap (λ p. p.list) (same_path_of mid.arena b.arena r (mid_path r mr not_part_r)) ∙ right_list;
          }
        where
          not_part_l : l ≡ id → ⊥
          not_part_l same = let part : IsProperPart (left_part h) h =
              left_is_part h (let m : 1 < length h = h_long in omega arith) in
              omega (arith, part.shorter, ap length (sym left_list ∙ ap (list_of b.arena) same))

          not_part_r : r ≡ id → ⊥
          not_part_r same = let part : IsProperPart (right_part h) h =
              right_is_part h (let m : 1 < length h = h_long in omega arith) in
              omega (arith, part.shorter, ap length (sym right_list ∙ ap (list_of b.arena) same))

      pub turn_with : (birth : ℕ) (new : Book) → IsShortest g (list_of b.arena l) → IsShortest g (list_of b.arena r)
          → IsFormedOf g birth h mid new → AreToDemote g new rest
      turn_with birth new yes_l yes_r formed = rest_then birth new
          (λ k. (
            λ c. elim ((formed.kept k).0 c) [
              | inl old ↦ inl ((mid_has k).0 old)
              | inr made ↦
                  inr (made, by_parts.1 (yes_l, yes_r))
            ],
            λ c. (formed.kept k).1 (elim c [ inl old ↦ inl ((mid_has k).1 old) | inr made ↦ inr made.0 ]),
          ))
          formed.vertices formed.still

      pub not_by_parts : ((IsShortest g (list_of b.arena l) × IsShortest g (list_of b.arena r)) → ⊥)
          → IsLocallyShortest g h → ⊥
      not_by_parts none yes_it = none (by_parts.0 yes_it)
