-- The changes, place by place.
use Rattle.std.specs.Prelude.{◌≡◌, ◌≢◌, ℕ, ◌+◌, ◌*◌, ◌<◌, ◌⊎◌, Bool, true, false, ◌&&◌, List, [], ◌∷◌, ◌++◌, length, map, slice_index, slice_index_or, Contains, refl}
use Rattle.std.proofs.Common.{sym, ◌∙◌, ap, subst, inl, inr, arith, get_or-set_other, get_or-set_same, length-set}
use lib.Dec.{eqb}
use Rattle.std.proofs.lemmas.Bool.{cases_eq, cases_lt, eqb-true, eq-eqb}
use Rattle.std.proofs.lemmas.Nat.{mul-add-lt, same_from_place}
use Rattle.std.proofs.lemmas.List.{length-append, length-map}
use Rattle.std.proofs.lemmas.List.Elements.{Contains-append_left, Contains-push, Contains-push_cases, Contains-get_or}
use Rattle.std.proofs.lemmas.List.Quantifiers.{all_pairs_push}
use Rattle.apsp_model.specs.Graph.{Graph}
use Rattle.version_face.specs.Entries.{CellIs}
use Rattle.version_face.specs.Seen.{VersionSeen}
use Rattle.change_feed.specs.Sizes.{HasSizes}
use Rattle.change_feed.specs.declared.items.Cell.{Cell}
use Rattle.change_feed.specs.declared.items.Item.{Item}
use Rattle.change_feed.specs.declared.items.Item.TheVariants.{Cell as Cell_item, Mark}
use Rattle.change_feed.specs.Applied.{Shown, AreTablesOf, with_cell, apply, applied}
use Rattle.change_feed.specs.Changes.{IsCellOf, IsChangedCell, cell_place, AreChanges, marked, HasCell, AreMixed, AreChangesBelow}
use Rattle.change_feed.specs.Lent.{AreRows}
use Rattle.change_feed.proofs.Writing.{applied-append, applied-push, apply-inside}
use Rattle.change_feed.proofs.Celled.{cell_of, cell_has, values_unique}

-- ---- cells

pub cell_in_row : (g : Graph) (x y : ℕ) (dist hops next : List ℕ) (c : Cell) → x < g.vertices → y < g.vertices
    → AreRows g x dist hops next → c.x ≡ x → c.y ≡ y → c.dist ≡ slice_index dist y → c.hops ≡ slice_index hops y
    → c.next ≡ slice_index next y → IsCellOf g c
cell_in_row g x y dist hops next c p q row a b d h z =
    let at : CellIs g x y (slice_index dist y) (slice_index hops y) (slice_index next y) =
    cell_of g x y _ _ _ (row.dists.cells y q) (row.hopses.cells y q) (row.nexts.cells y q) in
    let there : CellIs g c.x c.y (slice_index dist y) (slice_index hops y) (slice_index next y) =
    subst (λ i. CellIs g i c.y (slice_index dist y) (slice_index hops y) (slice_index next y)) (sym a)
    (subst (λ j. CellIs g x j (slice_index dist y) (slice_index hops y) (slice_index next y)) (sym b) at) in
    record {
      from = omega (arith, a, p);
      to = omega (arith, b, q);
      values = record {
        walk = there.walk;
        least = there.least;
        dist = d ∙ there.dist;
        hops = h ∙ there.hops;
        next = z
            ∙ there.next;
      };
    }

same_fields : (c d : Cell) → c.x ≡ d.x → c.y ≡ d.y → c.dist ≡ d.dist → c.hops ≡ d.hops → c.next ≡ d.next → c ≡ d
same_fields c d x y e h z = λ i. record { x = x i; y = y i; dist = e i; hops = h i; next = z i }

pub cell_unique : (g : Graph) (c d : Cell) → IsCellOf g c → IsCellOf g d → c.x ≡ d.x → c.y ≡ d.y → c ≡ d
cell_unique g c d h k x y =
    let moved : CellIs g d.x d.y c.dist c.hops c.next =
    subst (λ i. CellIs g i d.y c.dist c.hops c.next) x (subst (λ j. CellIs g c.x j c.dist c.hops c.next) y h.values)
    in
    let same = values_unique g d.x d.y c.dist c.hops c.next d.dist d.hops d.next moved k.values in
    same_fields c d x y same.0 same.1 same.2

-- ---- one place more

module _ (a b : Graph) (e : a.vertices ≡ b.vertices) where
  -- what tables have elsewhere stays
  record Agrees (k : ℕ) (s t : Shown) : Type 0 where
    dist : (i : ℕ) → i ≢ k → slice_index t.dist i ≡ slice_index s.dist i
    hops : (i : ℕ) → i ≢ k → slice_index t.hops i ≡ slice_index s.hops i
    next : (i : ℕ) → i ≢ k → slice_index t.next i ≡ slice_index s.next i

  moved : (g : Graph) (k : ℕ) (s t : Shown) (u w : ℕ) → Agrees k s t → u * g.vertices + w ≢ k → HasCell g s u w
      → HasCell g t u w
  moved g k s t u w agrees other h =
      λ o l. let r = h o l in (agrees.dist _ other ∙ r.0, agrees.hops _ other ∙ r.1, agrees.next _ other ∙ r.2)

  mixed_step : (k x y : ℕ) (s t : Shown) → k ≡ x * b.vertices + y → y < b.vertices
      → HasSizes b.vertices t.dist t.hops t.next → Agrees k s t → HasCell b t x y → AreMixed a b k s
      → AreMixed a b (k + 1) t
  mixed_step k x y s t at inside sizes agrees here h = record {
    sizes = sizes;
    below = λ u w p q below. elim (cases_eq (u * b.vertices + w) k) [
      | inl same ↦
          let r = same_from_place u w x y b.vertices q inside (same ∙ at) in
          subst (λ i. HasCell b t i w) (sym r.0) (subst (λ j. HasCell b t x j) (sym r.1) here)
      | inr other ↦ moved b k s t u w agrees other (h.below u w p q (omega (arith, below, other)))
    ];
    others = λ u w p q above. moved a k s t u w agrees (λ f. omega (arith, f, above))
        (h.others u w p q (omega (arith, above)));
  }

  agrees_itself : (k : ℕ) (s : Shown) → Agrees k s s
  agrees_itself k s = record { dist = λ i other. refl; hops = λ i other. refl; next = λ i other. refl }

  agrees_written : (n : ℕ) (s : Shown) (c : Cell) (k : ℕ) → k ≡ c.x * n + c.y → Agrees k s (with_cell n s c)
  agrees_written n s c k at = record {
    dist = λ i other. get_or-set_other s.dist (c.x * n + c.y) i c.dist 0 (λ f. other (f ∙ sym at));
    hops = λ i other. get_or-set_other s.hops (c.x * n + c.y) i c.hops 0 (λ f. other (f ∙ sym at));
    next = λ i other. get_or-set_other s.next (c.x * n + c.y) i c.next 0 (λ f. other (f ∙ sym at));
  }

  -- a cell of both, which is there already
  has_both : (s : Shown) (c : Cell) → IsCellOf a c → IsCellOf b c → HasCell a s c.x c.y → HasCell b s c.x c.y
  has_both s c of_a of_b h = λ o l.
      let r = h of_a.values.walk of_a.values.least in
      let w = cell_has b c.x c.y c.dist c.hops c.next of_b.values o l in
      let place : c.x * b.vertices + c.y ≡ c.x * a.vertices + c.y = ap (λ n. c.x * n + c.y) (sym e) in (
        ap (slice_index s.dist) place ∙ (r.0 ∙ (sym of_a.values.dist ∙ w.0)),
        ap (slice_index s.hops) place ∙ (r.1 ∙ (sym of_a.values.hops ∙ w.1)),
        ap (slice_index s.next) place ∙ (r.2 ∙ (sym of_a.values.next ∙ w.2)),
      )

  has_written : (s : Shown) (c : Cell) → IsCellOf b c → HasSizes b.vertices s.dist s.hops s.next
      → HasCell b (with_cell b.vertices s c) c.x c.y
  has_written s c of_b sizes = λ o l.
      let w = cell_has b c.x c.y c.dist c.hops c.next of_b.values o l in
      let below : c.x * b.vertices + c.y < b.vertices * b.vertices =
      mul-add-lt c.x b.vertices c.y b.vertices of_b.from of_b.to in (
        get_or-set_same s.dist (c.x * b.vertices + c.y) c.dist 0 (omega (arith, below, sizes.dist_size)) ∙ w.0,
        get_or-set_same s.hops (c.x * b.vertices + c.y) c.hops 0 (omega (arith, below, sizes.hops_size)) ∙ w.1,
        get_or-set_same s.next (c.x * b.vertices + c.y) c.next 0 (omega (arith, below, sizes.next_size)) ∙ w.2,
      )

  sizes_written : (n : ℕ) (s : Shown) (c : Cell) → HasSizes n s.dist s.hops s.next
      → HasSizes n (with_cell n s c).dist (with_cell n s c).hops (with_cell n s c).next
  sizes_written n s c h = record {
    dist_size = length-set s.dist (c.x * n + c.y) c.dist ∙ h.dist_size;
    hops_size = length-set s.hops (c.x * n + c.y) c.hops ∙ h.hops_size;
    next_size = length-set s.next (c.x * n + c.y) c.next ∙ h.next_size;
  }

  below_or_here : (p k : ℕ) → p < k + 1 → (p < k) ⊎ (p ≡ k)
  below_or_here p k h = elim (cases_lt p k) [ inl less ↦ inl less | inr more ↦ inr (omega (arith, h, more)) ]

  pub no_changes_yet : AreChangesBelow a b 0 []
  no_changes_yet = record {
    few = omega arith;
    rising = λ i j d less inside. absurd (omega (arith, inside));
    exact = λ c. (λ h. absurd (omega (arith, h.1)), λ h. absurd (omega (arith, h.0)));
    mixed = λ s h. h;
  }

  -- a cell at the place that is of both
  pub nothing_changed : (k : ℕ) (c : Cell) (cells : List Cell) → k ≡ cell_place b.vertices c → IsCellOf a c
      → IsCellOf b c → AreChangesBelow a b k cells → AreChangesBelow a b (k + 1) cells
  nothing_changed k c cells at of_a of_b h = record {
    few = omega (arith, h.few);
    rising = h.rising;
    exact = λ d. (
      λ in_list. let r = (h.exact d).0 in_list in (omega (arith, r.0), r.1),
      λ r. elim (below_or_here (cell_place b.vertices d) k r.0) [
        | inl less ↦ (h.exact d).1 (less, r.1)
        | inr here ↦
            let same = same_from_place d.x d.y c.x c.y b.vertices r.1.0.to of_b.to (here ∙ at) in
            let is : d ≡ c = cell_unique b d c r.1.0 of_b same.0 same.1 in
            absurd (r.1.1 (subst (IsCellOf a) (sym is) of_a))
      ],
    );
    mixed = λ s start.
        let m = h.mixed s start in
        let t = applied b.vertices s (map Cell_item cells) in
        let place : k ≡ c.x * a.vertices + c.y = at ∙ ap (λ n. c.x * n + c.y) (sym e) in
        mixed_step k c.x c.y t t at of_b.to m.sizes (agrees_itself k t)
        (has_both t c of_a of_b (m.others c.x c.y of_a.from of_a.to (omega (arith, place)))) m;
  }

  map-push : (cells : List Cell) (c : Cell) → map Cell_item (cells ++ c ∷ []) ≡ map Cell_item cells ++ Cell_item c ∷ []
  map-push [] c = refl
  map-push (d ∷ ds) c = ap (λ l. Cell_item d ∷ l) (map-push ds c)

  -- a cell at the place that is of the second alone
  pub one_changed : (k : ℕ) (c : Cell) (cells : List Cell) → k ≡ cell_place b.vertices c → (IsCellOf a c → ⊥)
      → IsCellOf b c → AreChangesBelow a b k cells → AreChangesBelow a b (k + 1) (cells ++ c ∷ [])
  one_changed k c cells at not_a of_b h = record {
    few = omega (arith, h.few, length-append cells (c ∷ []));
    rising = all_pairs_push (λ p q. cell_place b.vertices p < cell_place b.vertices q) cells c h.rising
        (λ i d inside. let r = (h.exact (slice_index_or cells i d)).0 (Contains-get_or cells i d inside) in
        omega (arith, r.0, at));
    exact = λ d. (
      λ in_list. elim (Contains-push_cases cells c d in_list) [
        | inl more ↦ let r = (h.exact d).0 more in (omega (arith, r.0), r.1)
        | inr here ↦ subst (λ z. (cell_place b.vertices z < k + 1) × IsChangedCell a b z) here
            (omega (arith, at), (of_b, not_a))
      ],
      λ r. elim (below_or_here (cell_place b.vertices d) k r.0) [
        | inl less ↦ Contains-append_left cells (c ∷ []) d ((h.exact d).1 (less, r.1))
        | inr here ↦
            let same = same_from_place d.x d.y c.x c.y b.vertices r.1.0.to of_b.to (here ∙ at) in
            let is : d ≡ c = cell_unique b d c r.1.0 of_b same.0 same.1 in
            subst (Contains (cells ++ c ∷ [])) (sym is) (Contains-push cells c)
      ],
    );
    mixed = λ s start.
        let m = h.mixed s start in
        let t = applied b.vertices s (map Cell_item cells) in
        let made : applied b.vertices s (map Cell_item (cells ++ c ∷ [])) ≡ with_cell b.vertices t c =
        ap (applied b.vertices s) (map-push cells c)
        ∙ (applied-push b.vertices s (map Cell_item cells) (Cell_item c)
        ∙ apply-inside b.vertices t c of_b.from of_b.to) in
        subst (AreMixed a b (k + 1)) (sym made)
        (mixed_step k c.x c.y t (with_cell b.vertices t c) at of_b.to (sizes_written b.vertices t c m.sizes)
        (agrees_written b.vertices t c k at) (has_written t c of_b m.sizes) m);
  }

  -- ---- all places

  pub changes_done : (cells : List Cell) → AreChangesBelow a b (b.vertices * b.vertices) cells → AreChanges a b cells
  changes_done cells h = record {
    rising = h.rising;
    exact = λ c. (
      λ in_list. ((h.exact c).0 in_list).1,
      λ r. (h.exact c).1 (mul-add-lt c.x b.vertices c.y b.vertices r.0.from r.0.to, r),
    );
  }

-- the tables of a version become those of the next by the changes and the mark
pub next_tables : (v w : VersionSeen) (s : Shown) (cells : List Cell) → v.graph.vertices ≡ w.graph.vertices
    → AreTablesOf v s → AreChangesBelow v.graph w.graph (w.graph.vertices * w.graph.vertices) cells
    → AreTablesOf w (applied w.graph.vertices s (marked cells w.number))
next_tables v w s cells e h changes =
    let start : AreMixed v.graph w.graph 0 s = record {
      sizes = subst (λ n. HasSizes n s.dist s.hops s.next) e h.sizes;
      below = λ x y p q below. absurd (omega (arith, below));
      others = λ x y p q above. h.cells x y p q;
    } in
    let m = changes.mixed s start in
    let t = applied w.graph.vertices s (map Cell_item cells) in
    let made : applied w.graph.vertices s (marked cells w.number) ≡ apply w.graph.vertices t (Mark w.number) =
    applied-append w.graph.vertices s (map Cell_item cells) (Mark w.number ∷ []) in
    subst (AreTablesOf w) (sym made) (record {
      number = refl;
      sizes = m.sizes;
      cells = λ x y p q. m.below x y p q (mul-add-lt x w.graph.vertices y w.graph.vertices p q);
    })

-- ---- the test for equal cells

abbrev pub equal_test : Cell → Cell → Bool
equal_test c d = eqb c.x d.x && (eqb c.y d.y && (eqb c.dist d.dist && (eqb c.hops d.hops && eqb c.next d.next)))

and_split : (p q : Bool) → true ≡ p && q → (true ≡ p) × (true ≡ q)
and_split true q e = (refl, e)
and_split false q e = absurd (let f : true ≡ false = e in cc)

pub equal_cells : (c d : Cell) → true ≡ equal_test c d → c ≡ d
equal_cells c d e =
    let x = and_split (eqb c.x d.x) _ e in
    let y = and_split (eqb c.y d.y) _ x.1 in
    let z = and_split (eqb c.dist d.dist) _ y.1 in
    let h = and_split (eqb c.hops d.hops) _ z.1 in
    same_fields c d (eqb-true c.x d.x (sym x.0)) (eqb-true c.y d.y (sym y.0)) (eqb-true c.dist d.dist (sym z.0))
    (eqb-true c.hops d.hops (sym h.0)) (eqb-true c.next d.next (sym h.1))

equal_itself : (c : Cell) → equal_test c c ≡ true
equal_itself c =
    rw (
      eq-eqb c.x c.x refl,
      eq-eqb c.y c.y refl,
      eq-eqb c.dist c.dist refl,
      eq-eqb c.hops c.hops refl,
      eq-eqb c.next
          c.next refl,
    ) refl

pub unequal_cells : (c d : Cell) → false ≡ equal_test c d → c ≡ d → ⊥
unequal_cells c d e same =
    let f : false ≡ true = subst (λ z. false ≡ equal_test c z) (sym same) e ∙ equal_itself c in
    cc

-- ---- a row

module _ (a b : Graph) (e : a.vertices ≡ b.vertices) (x y : ℕ)
    (old_dist old_hops old_next new_dist new_hops new_next : List ℕ) (old new : Cell) (cells : List Cell) where
  -- what the two rows have at y
  pub record AreAt : Type 0 where
    pub from : x < b.vertices
    pub to : y < b.vertices
    pub old_rows : AreRows a x old_dist old_hops old_next
    pub new_rows : AreRows b x new_dist new_hops new_next
    pub old_x : old.x ≡ x
    pub old_y : old.y ≡ y
    pub old_d : old.dist ≡ slice_index old_dist y
    pub old_h : old.hops ≡ slice_index old_hops y
    pub old_z : old.next ≡ slice_index old_next y
    pub new_x : new.x ≡ x
    pub new_y : new.y ≡ y
    pub new_d : new.dist ≡ slice_index new_dist y
    pub new_h : new.hops ≡ slice_index new_hops y
    pub new_z : new.next ≡ slice_index new_next y

  old_is : AreAt → IsCellOf a old
  old_is h =
      cell_in_row a x y old_dist old_hops old_next old (omega (arith, h.from, e)) (omega (arith, h.to, e)) h.old_rows
      h.old_x h.old_y h.old_d h.old_h h.old_z

  new_is : AreAt → IsCellOf b new
  new_is h =
      cell_in_row b x y new_dist new_hops new_next new h.from h.to h.new_rows h.new_x h.new_y h.new_d h.new_h h.new_z

  at_place : AreAt → x * b.vertices + y ≡ cell_place b.vertices new
  at_place h = ap (λ i. i * b.vertices + y) (sym h.new_x) ∙ ap (λ j. new.x * b.vertices + j) (sym h.new_y)

  next_place : x * b.vertices + y + 1 ≡ x * b.vertices + (y + 1)
  next_place = omega arith

  pub row_same : AreAt → new ≡ old → AreChangesBelow a b (x * b.vertices + y) cells
      → AreChangesBelow a b (x * b.vertices + (y + 1)) cells
  row_same h same changes =
      subst (λ k. AreChangesBelow a b k cells) next_place
      (nothing_changed a b e (x * b.vertices + y) new cells (at_place h) (subst (IsCellOf a) (sym same) (old_is h))
      (new_is h) changes)

  pub row_other : AreAt → (new ≡ old → ⊥) → AreChangesBelow a b (x * b.vertices + y) cells
      → AreChangesBelow a b (x * b.vertices + (y + 1)) (cells ++ new ∷ [])
  row_other h other changes =
      subst (λ k. AreChangesBelow a b k (cells ++ new ∷ [])) next_place
      (one_changed a b e (x * b.vertices + y) new cells (at_place h)
      (λ of_a. other (cell_unique a new old of_a (old_is h) (h.new_x ∙ sym h.old_x) (h.new_y ∙ sym h.old_y))) (new_is h)
      changes)

-- ---- what is sent

pub length_marked : (cells : List Cell) (number : ℕ) → length (marked cells number) ≡ length cells + 1
length_marked cells number =
    omega (arith, length-append (map Cell_item cells) (Mark number ∷ []), length-map cells Cell_item)

pub leads_on : (v w o : VersionSeen) (opening : Shown) (before after : List Item) (cells : List Cell)
    → v.graph.vertices ≡ w.graph.vertices → AreTablesOf v (applied v.graph.vertices opening before)
    → AreChangesBelow v.graph w.graph (w.graph.vertices * w.graph.vertices) cells → after ≡ before
    ++ marked cells w.number → o ≡ w → AreTablesOf o (applied o.graph.vertices opening after)
leads_on v w o opening before after cells e h changes more same =
    let n = w.graph.vertices in
    let made : applied n opening after ≡ applied n (applied v.graph.vertices opening before) (marked cells w.number) =
    ap (applied n opening) more ∙ (applied-append n opening before (marked cells w.number)
    ∙ ap (λ m. applied n (applied m opening before) (marked cells w.number)) (sym e)) in
    subst (λ (z : VersionSeen). AreTablesOf z (applied z.graph.vertices opening after)) (sym same)
    (subst (AreTablesOf w) (sym made) (next_tables v w (applied v.graph.vertices opening before) cells e h changes))
