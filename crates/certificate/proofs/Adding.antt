-- Loops over the words of a line and over the lines of a table, in text 2: for the calls of `groups` and for
-- `edges_by_vertex` and `pairs_by_vertex`.
use Rattle.std.specs.Prelude.{◌≡◌, ℕ, suc, ◌+◌, ◌-◌, ◌<◌, ◌≤◌, Bool, true, false, ◌==◌, ◌&&◌, if◌then◌else◌, List, [], ◌∷◌, ◌++◌, length, Option, Some, None, Result, Ok, Err, refl}
use Rattle.std.specs.List.{list_all}
use Rattle.std.specs.FinMap as map
use Rattle.std.proofs.Common.{sym, ◌∙◌, ap, subst, arith, append_assoc, append-nil, length-append}
use Rattle.std.proofs.lemmas.Bool.{eq-eqb, ne_eqb}
use Rattle.apsp_model.specs.Graph.{pair_cmp, no_edges}
use Rattle.apsp_model.specs.Stated.{Stated, Entry}
use Rattle.certificate.specs.declared.CertError.{CertError}
use Rattle.certificate.specs.declared.groups.Items.{Items}
use Rattle.certificate.specs.declared.groups.Group.{Group}
use Rattle.certificate.specs.declared.lines.Layout.TheVariants.{ByVertex}
use Rattle.certificate.specs.Cuts.{first_word, ◌and_then◌}
use Rattle.certificate.specs.Groups.{insert_all}
use Rattle.certificate.specs.Reading.{◌>>=◌, Rest, edge_in_word, pair_in_word, edge_fits, pair_fits, words_in, is_above, seconds_rise, group_line, groups_onto, edges_in, pairs_in}
use Rattle.certificate.specs.Inside.{with_stated_edge, with_pair}
use Rattle.certificate.specs.Answer.{rest_behind, AreItems, ReadsGroup}
use Rattle.certificate.proofs.Parting.{insert_both}

-- ---- the words of a line

same_fronts : {V : Type 0} (o : Option (List V)) (es : List V) (e : V)
    → ((o and_then (λ fs. Some (e ∷ fs))) and_then (λ fs. Some (es ++ fs))) ≡
    (o and_then (λ fs. Some ((es ++ e ∷ []) ++ fs)))
same_fronts None es e = refl
same_fronts (Some fs) es e = ap Some (sym (append_assoc es (e ∷ []) fs))

same_option : {V : Type 0} (o : Option (List V)) → o ≡ (o and_then (λ fs. Some ([] ++ fs)))
same_option None = refl
same_option (Some fs) = refl

both_more : (a b c : Bool) → (a && (b && c)) ≡ ((a && b) && c)
both_more true b c = refl
both_more false b c = refl

true_and : (a b : Bool) → (a && b) ≡ true → (a ≡ true) × (b ≡ true)
true_and true b h = (refl, h)
true_and false b h = cc

and_true : (b : Bool) → (b && true) ≡ b
and_true true = refl
and_true false = refl

abbrev none_yet : Items
none_yet = record { count = 0; fit = true; rise = true; last = None }

-- one item more: its second number, and whether it is in range
abbrev pub one_more : Items → ℕ → Bool → Items
one_more items to f = record {
  count = items.count + 1;
  fit = items.fit && f;
  rise = items.rise && is_above items.last to;
  last = Some to;
}

module _ {V : Type 0} (item_in : List ℕ → Option ((ℕ × ℕ) × V)) (fits : (ℕ × ℕ) × V → Bool) where
  -- what is known of the items so far
  pub record AreSoFar (old now : map.FinMap pair_cmp V) (es : List ((ℕ × ℕ) × V)) (items : Items) : Type 0 where
    pub count : length es ≡ items.count
    pub fit : list_all fits es ≡ items.fit
    pub rise : (fs : List ((ℕ × ℕ) × V)) → seconds_rise None (es ++ fs) ≡ (items.rise && seconds_rise items.last fs)
    pub made : items.fit ≡ true → now ≡ insert_all old es

  -- after so many of the words: the items so far, and the others have to be read
  pub record WordsSoFar (most done : ℕ) (text rest : List ℕ) (old now : map.FinMap pair_cmp V) (items : Items) : Type 0
    where
      pub es : List ((ℕ × ℕ) × V)
      pub are : AreSoFar old now es items
      pub done_is : items.count ≡ done
      pub left : words_in item_in most text ≡ (words_in item_in (most - done) rest and_then (λ fs. Some (es ++ fs)))

  pub words_begin : (most : ℕ) (text : List ℕ) (old : map.FinMap pair_cmp V) (items : Items) → items ≡ none_yet
      → WordsSoFar most 0 text text old old items
  words_begin most text old items is = subst (WordsSoFar most 0 text text old old) (sym is) (record {
    es = [];
    are = record { count = refl; fit = refl; rise = λ fs. refl; made = λ _. refl };
    done_is = refl;
    left = ap (λ k. words_in item_in k text) less ∙ same_option (words_in item_in (most - 0) text);
  })
    where
      less : most ≡ most - 0
      less = omega arith

  fits_more : (es : List ((ℕ × ℕ) × V)) (e : (ℕ × ℕ) × V) → list_all fits (es ++ e ∷ []) ≡ (list_all fits es && fits e)
  fits_more [] e = and_true (fits e)
  fits_more (d ∷ es) e =
      ap (λ b. fits d && b) (fits_more es e) ∙ both_more (fits d) (list_all fits es) (fits e)

  more : (old now next : map.FinMap pair_cmp V) (es : List ((ℕ × ℕ) × V)) (items : Items) (e : (ℕ × ℕ) × V) (f : Bool)
      → AreSoFar old now es items → f ≡ fits e → (f ≡ true → next ≡ map.insert now e.0 e.1)
      → AreSoFar old next (es ++ e ∷ []) (one_more items e.0.1 f)
  more old now next es items e f h same put = record {
    count = length-append es (e ∷ []) ∙ ap (λ k. k + 1) h.count;
    fit = fits_more es e ∙ ap (λ b. b && fits e) h.fit ∙ ap (λ b. items.fit && b) (sym same);
    rise = λ fs. ap (seconds_rise None) (append_assoc es (e ∷ []) fs) ∙ h.rise (e ∷ fs)
        ∙ both_more items.rise (is_above items.last e.0.1) (seconds_rise (Some e.0.1) fs);
    made = λ t. let s = true_and items.fit f t in
        put s.1 ∙ ap (λ m. map.insert m e.0 e.1) (h.made s.0) ∙ sym (insert_both old es (e ∷ []));
  }

  unfolded : (most done : ℕ) (rest : List ℕ) → done < most
      → words_in item_in (most - done) rest ≡ words_in item_in (suc (most - (done + 1))) rest
  unfolded most done rest below =
      let one : most - done ≡ suc (most - (done + 1)) = omega arith in ap (λ k. words_in item_in k rest) one

  -- a word that has another behind it
  pub words_step : (most done : ℕ) (text rest word t : List ℕ) (old now next : map.FinMap pair_cmp V) (items new : Items)
      (e : (ℕ × ℕ) × V) (f : Bool) → WordsSoFar most done text rest old now items → done < most
      → ◌≡◌ {A = List ℕ × Option (List ℕ)} (word, Some t) (first_word rest) → item_in word ≡ Some e → f ≡ fits e
      → new ≡ one_more items e.0.1 f → (f ≡ true → next ≡ map.insert now e.0 e.1)
      → WordsSoFar most (done + 1) text t old next new
  words_step most done text rest word t old now next items new e f h below cut item same is put =
      subst (WordsSoFar most (done + 1) text t old next) (sym is) (record {
        es = h.es ++ e ∷ [];
        are = more old now next h.es items e f h.are same put;
        done_is = ap (λ k. k + 1) h.done_is;
        left = h.left ∙ ap (λ o. o and_then (λ fs. Some (h.es ++ fs)))
            (unfolded most done rest below
            ∙ ap (λ (p : List ℕ × Option (List ℕ)). item_in p.0 and_then (λ d.
            (elim p.1 [ None ↦ Some [] | Some s ↦ words_in item_in (most - (done + 1)) s ]) and_then
            (λ ds. Some (d ∷ ds)))) (sym cut)
            ∙ ap (λ o. o and_then (λ d. words_in item_in (most - (done + 1)) t and_then (λ ds. Some (d ∷ ds)))) item)
            ∙ same_fronts (words_in item_in (most - (done + 1)) t) h.es e;
      })

  -- the last word
  pub words_last : (most done : ℕ) (text rest word : List ℕ) (old now next : map.FinMap pair_cmp V) (items new : Items)
      (e : (ℕ × ℕ) × V) (f : Bool) → WordsSoFar most done text rest old now items → done < most
      → ◌≡◌ {A = List ℕ × Option (List ℕ)} (word, None) (first_word rest) → item_in word ≡ Some e → f ≡ fits e
      → new ≡ one_more items e.0.1 f → (f ≡ true → next ≡ map.insert now e.0 e.1)
      → (es : List ((ℕ × ℕ) × V)) × (words_in item_in most text ≡ Some es) × AreItems fits old next es new
  words_last most done text rest word old now next items new e f h below cut item same is put =
      let m : AreSoFar old next (h.es ++ e ∷ []) (one_more items e.0.1 f) =
      more old now next h.es items e f h.are same put in
      let rise : seconds_rise None (h.es ++ e ∷ []) ≡ (items.rise && is_above items.last e.0.1) =
      ap (seconds_rise None) (sym (append-nil (h.es ++ e ∷ []))) ∙ m.rise []
      ∙ and_true (items.rise && is_above items.last e.0.1) in (
        h.es ++ e ∷ [],
        h.left ∙ ap (λ o. o and_then (λ fs. Some (h.es ++ fs)))
            (unfolded most done rest below
            ∙ ap (λ (p : List ℕ × Option (List ℕ)). item_in p.0 and_then (λ d.
            (elim p.1 [ None ↦ Some [] | Some s ↦ words_in item_in (most - (done + 1)) s ]) and_then
            (λ ds. Some (d ∷ ds)))) (sym cut)
            ∙ ap (λ o. o and_then (λ d. Some (d ∷ []))) item),
        subst (AreItems fits old next (h.es ++ e ∷ [])) (sym is)
            (record { count = m.count; fit = m.fit; rise = rise; made = m.made }),
      )

  -- a word that is none
  pub words_fail : (most done : ℕ) (text rest word : List ℕ) (behind : Option (List ℕ)) (old now : map.FinMap pair_cmp V)
      (items : Items) → WordsSoFar most done text rest old now items → done < most
      → ◌≡◌ {A = List ℕ × Option (List ℕ)} (word, behind) (first_word rest) → item_in word ≡ None
      → words_in item_in most text ≡ None
  words_fail most done text rest word behind old now items h below cut item =
      h.left ∙ ap (λ o. o and_then (λ fs. Some (h.es ++ fs)))
      (unfolded most done rest below
      ∙ ap (λ (p : List ℕ × Option (List ℕ)). item_in p.0 and_then (λ d.
      (elim p.1 [ None ↦ Some [] | Some s ↦ words_in item_in (most - (done + 1)) s ]) and_then
      (λ ds. Some (d ∷ ds)))) (sym cut)
      ∙ ap (λ o. o and_then (λ d.
      (elim behind [ None ↦ Some [] | Some s ↦ words_in item_in (most - (done + 1)) s ]) and_then
      (λ ds. Some (d ∷ ds)))) item)

  -- more words than there may be
  pub words_end : (most done : ℕ) (text rest : List ℕ) (old now : map.FinMap pair_cmp V) (items : Items)
      → WordsSoFar most done text rest old now items → most ≤ done → words_in item_in most text ≡ None
  words_end most done text rest old now items h past =
      let none : most - done ≡ 0 = omega arith in
      h.left ∙ ap (λ k. words_in item_in k rest and_then (λ fs. Some (h.es ++ fs))) none

-- ---- the lines of a table

module _ {V : Type 0} (item_in : ℕ → List ℕ → Option ((ℕ × ℕ) × V)) (fits : (ℕ × ℕ) × V → Bool) where
  -- after so many lines the others have to be read onto the map so far
  pub record GroupsSoFar (m : map.FinMap pair_cmp V) (count done left : ℕ) (before : Option ℕ) (start rest : Rest)
      : Type 0 where
    pub number : rest.number ≡ start.number + done
    pub still : groups_onto item_in fits (count - done) m left before rest ≡
        groups_onto item_in fits count map.empty count None start

  pub groups_begin : (m : map.FinMap pair_cmp V) (count : ℕ) (start : Rest) → m ≡ map.empty
      → GroupsSoFar m count 0 count None start start
  groups_begin m count start e =
      record {
        number = omega arith;
        still = ap (λ k. groups_onto item_in fits k m count None start) less
            ∙ ap (λ n. groups_onto item_in fits count n count None start) e;
      }
    where
      less : count - 0 ≡ count
      less = omega arith

  one_line : (m : map.FinMap pair_cmp V) (count done left : ℕ) (before : Option ℕ) (rest : Rest) (b : Bool) → done < count
      → (left == 0) ≡ b → groups_onto item_in fits (count - done) m left before rest ≡
      (if b then Ok (m, rest) else (group_line item_in fits left before rest >>= (λ g.
      groups_onto item_in fits (count - (done + 1)) (insert_all m g.0.1) (left - length g.0.1) (Some g.0.0) g.1)))
  one_line m count done left before rest b below t =
      let one : count - done ≡ suc (count - (done + 1)) = omega arith in
      ap (λ k. groups_onto item_in fits k m left before rest) one
      ∙ ap (λ (c : Bool). if c then Ok (m, rest) else (group_line item_in fits left before rest >>= (λ g.
      groups_onto item_in fits (count - (done + 1)) (insert_all m g.0.1) (left - length g.0.1) (Some g.0.0) g.1))) t

  -- where no item is left
  pub groups_done : (m : map.FinMap pair_cmp V) (count done left : ℕ) (before : Option ℕ) (start rest : Rest)
      → GroupsSoFar m count done left before start rest → done < count → left ≡ 0
      → groups_onto item_in fits count map.empty count None start ≡ Ok (m, rest)
  groups_done m count done left before start rest h below none =
      sym h.still ∙ one_line m count done left before rest true below (eq-eqb left 0 none)

  pub groups_step : (m n : map.FinMap pair_cmp V) (count done left size : ℕ) (before : Option ℕ) (start rest : Rest)
      (u : ℕ) (es : List ((ℕ × ℕ) × V)) (next : Rest) → GroupsSoFar m count done left before start rest → done < count
      → (left ≡ 0 → ⊥) → group_line item_in fits left before rest ≡ Ok ((u, es), next) → length es ≡ size
      → n ≡ insert_all m es → next.number ≡ rest.number + 1
      → GroupsSoFar n count (done + 1) (left - size) (Some u) start next
  groups_step m n count done left size before start rest u es next h below some line is made number = record {
    number = omega (arith, number, h.number);
    still = ap (λ k. groups_onto item_in fits (count - (done + 1)) k (left - size) (Some u) next) made
        ∙ ap (λ k. groups_onto item_in fits (count - (done + 1)) (insert_all m es) (left - k) (Some u) next) (sym is)
        ∙ sym (one_line m count done left before rest false below (ne_eqb left 0 some)
        ∙ ap (λ (o : Result ((ℕ × List ((ℕ × ℕ) × V)) × Rest) CertError). o >>= (λ g.
        groups_onto item_in fits (count - (done + 1)) (insert_all m g.0.1) (left - length g.0.1) (Some g.0.0) g.1))
        line)
        ∙ h.still;
  }

  pub groups_fail : (m : map.FinMap pair_cmp V) (count done left : ℕ) (before : Option ℕ) (start rest : Rest)
      (x : CertError) → GroupsSoFar m count done left before start rest → done < count → (left ≡ 0 → ⊥)
      → group_line item_in fits left before rest ≡ Err x
      → groups_onto item_in fits count map.empty count None start ≡ Err x
  groups_fail m count done left before start rest x h below some line =
      sym h.still ∙ one_line m count done left before rest false below (ne_eqb left 0 some)
      ∙ ap (λ (o : Result ((ℕ × List ((ℕ × ℕ) × V)) × Rest) CertError). o >>= (λ g.
      groups_onto item_in fits (count - (done + 1)) (insert_all m g.0.1) (left - length g.0.1) (Some g.0.0) g.1)) line

  -- after the most lines that there may be
  pub groups_end : (m : map.FinMap pair_cmp V) (count done left : ℕ) (before : Option ℕ) (start rest : Rest)
      → GroupsSoFar m count done left before start rest → count ≤ done
      → groups_onto item_in fits count map.empty count None start ≡ Ok (m, rest)
  groups_end m count done left before start rest h past =
      let none : count - done ≡ 0 = omega arith in
      sym h.still ∙ ap (λ k. groups_onto item_in fits k m left before rest) none

-- ---- for edges, and for pairs

-- what the loop over the words of a line of edges keeps
pub record EdgeWordsSoFar (old now : Stated) (from most done : ℕ) (text rest : List ℕ) (items : Items) : Type 0 where
  pub words : WordsSoFar (edge_in_word from) (edge_fits old.graph.vertices) most done text rest old.graph.edges
      now.graph.edges items
  pub same : now ≡ record old { graph = record old.graph { edges = now.graph.edges } }

pub record PairWordsSoFar (old now : Stated) (from most done : ℕ) (text rest : List ℕ) (items : Items) : Type 0 where
  pub words : WordsSoFar (pair_in_word from) (pair_fits old.graph.vertices) most done text rest old.entries
      now.entries items
  pub same : now ≡ record old { entries = now.entries }

-- what was in range was put, and what was not left all as it was
pub edge_put : (old now next : Stated) (e : (ℕ × ℕ) × ℕ) (f : Bool)
    → now ≡ record old { graph = record old.graph { edges = now.graph.edges } } → f ≡ edge_fits now.graph.vertices e
    → (f ≡ true → next ≡ with_stated_edge now e) → (f ≡ false → next ≡ now)
    → (f ≡ edge_fits old.graph.vertices e) × (f ≡ true → next.graph.edges ≡ map.insert now.graph.edges e.0 e.1)
    × (next ≡ record old { graph = record old.graph { edges = next.graph.edges } })
edge_put old now next e f same test put left = (
  test ∙ ap (λ (s : Stated). edge_fits s.graph.vertices e) same,
  λ t. ap (λ (s : Stated). s.graph.edges) (put t),
  at f put left,
)
  where
    kept : (s : Stated) → next ≡ s → s ≡ record old { graph = record old.graph { edges = s.graph.edges } }
        → next ≡ record old { graph = record old.graph { edges = next.graph.edges } }
    kept s is h = is ∙ h ∙ ap (λ (t : Stated). record old { graph = record old.graph { edges = t.graph.edges } }) (sym is)

    at : (f : Bool) → (f ≡ true → next ≡ with_stated_edge now e) → (f ≡ false → next ≡ now)
        → next ≡ record old { graph = record old.graph { edges = next.graph.edges } }
    at true put left = kept (with_stated_edge now e) (put refl) (ap (λ (s : Stated). with_stated_edge s e) same)
    at false put left = kept now (left refl) same

pub pair_put : (old now next : Stated) (e : (ℕ × ℕ) × Entry) (f : Bool)
    → now ≡ record old { entries = now.entries } → f ≡ pair_fits now.graph.vertices e
    → (f ≡ true → next ≡ with_pair now e) → (f ≡ false → next ≡ now)
    → (f ≡ pair_fits old.graph.vertices e) × (f ≡ true → next.entries ≡ map.insert now.entries e.0 e.1)
    × (next ≡ record old { entries = next.entries })
pair_put old now next e f same test put left = (
  test ∙ ap (λ (s : Stated). pair_fits s.graph.vertices e) same,
  λ t. ap (λ (s : Stated). s.entries) (put t),
  at f put left,
)
  where
    kept : (s : Stated) → next ≡ s → s ≡ record old { entries = s.entries }
        → next ≡ record old { entries = next.entries }
    kept s is h = is ∙ h ∙ ap (λ (t : Stated). record old { entries = t.entries }) (sym is)

    at : (f : Bool) → (f ≡ true → next ≡ with_pair now e) → (f ≡ false → next ≡ now)
        → next ≡ record old { entries = next.entries }
    at true put left = kept (with_pair now e) (put refl) (ap (λ (s : Stated). with_pair s e) same)
    at false put left = kept now (left refl) same

-- what the loop over the lines of edges keeps
pub record EdgeGroupsSoFar (old now : Stated) (count done left : ℕ) (before : Option ℕ) (start rest : Rest) : Type 0
  where
    pub groups : GroupsSoFar edge_in_word (edge_fits old.graph.vertices) now.graph.edges count done left before start rest
    pub same : now ≡ record old { graph = record old.graph { edges = now.graph.edges } }

pub record PairGroupsSoFar (old now : Stated) (count done left : ℕ) (before : Option ℕ) (start rest : Rest) : Type 0
  where
    pub groups : GroupsSoFar pair_in_word (pair_fits old.graph.vertices) now.entries count done left before start rest
    pub same : now ≡ record old { entries = now.entries }

pub edges_by_vertex_begin : (old : Stated) (count : ℕ) (start : Rest) → old.graph ≡ no_edges old.graph.vertices
    → EdgeGroupsSoFar old old count 0 count None start start
edges_by_vertex_begin old count start none =
    record { groups = groups_begin edge_in_word (edge_fits old.graph.vertices) old.graph.edges count start (ap (λ g. g.edges) none); same = refl }

-- a line more was read
pub edges_by_vertex_step : (old now next : Stated) (count done left : ℕ) (before : Option ℕ) (start rest : Rest) (g : Group)
    → EdgeGroupsSoFar old now count done left before start rest → done < count → (left ≡ 0 → ⊥)
    → ReadsGroup edge_in_word (edge_fits now.graph.vertices) left before rest now.graph.edges next.graph.edges (Ok g)
    → next ≡ record now { graph = record now.graph { edges = next.graph.edges } } → (rest_behind g.rest).number ≡ rest.number + 1
    → EdgeGroupsSoFar old next count (done + 1) (left - g.count) (Some g.from) start (rest_behind g.rest)
edges_by_vertex_step old now next count done left before start rest g h below some read same number =
    let n : now.graph.vertices ≡ old.graph.vertices = ap (λ (s : Stated). s.graph.vertices) h.same in
    record {
      groups = groups_step edge_in_word (edge_fits old.graph.vertices) now.graph.edges next.graph.edges count done left g.count before
          start rest g.from read.0 (rest_behind g.rest) h.groups below some
          (ap (λ k. group_line edge_in_word (edge_fits k) left before rest) (sym n) ∙ read.1) read.2 read.3 number;
      same = same ∙ ap (λ (s : Stated). record s { graph = record s.graph { edges = next.graph.edges } }) h.same;
    }

-- a line at fault is the fault of the table
pub edges_by_vertex_fail : (old now next : Stated) (count done left : ℕ) (before : Option ℕ) (start rest : Rest)
    (x : CertError) → EdgeGroupsSoFar old now count done left before start rest → done < count → (left ≡ 0 → ⊥)
    → ReadsGroup edge_in_word (edge_fits now.graph.vertices) left before rest now.graph.edges next.graph.edges (Err x)
    → edges_in ByVertex old.graph.vertices count start ≡ Err x
edges_by_vertex_fail old now next count done left before start rest x h below some read =
    let n : now.graph.vertices ≡ old.graph.vertices = ap (λ (s : Stated). s.graph.vertices) h.same in
    groups_fail edge_in_word (edge_fits old.graph.vertices) now.graph.edges count done left before start rest x h.groups below some
    (ap (λ k. group_line edge_in_word (edge_fits k) left before rest) (sym n) ∙ read)

-- what was read where no item is left
pub edges_by_vertex_done : (old now : Stated) (count done left : ℕ) (before : Option ℕ) (start rest : Rest)
    → EdgeGroupsSoFar old now count done left before start rest → done < count → left ≡ 0
    → (edges_in ByVertex old.graph.vertices count start ≡ Ok (now.graph.edges, rest))
    × (now ≡ record old { graph = record old.graph { edges = now.graph.edges } })
edges_by_vertex_done old now count done left before start rest h below none = (
  groups_done edge_in_word (edge_fits old.graph.vertices) now.graph.edges count done left before start rest h.groups below none,
  h.same,
)

-- .. and after the most lines
pub edges_by_vertex_end : (old now : Stated) (count done left : ℕ) (before : Option ℕ) (start rest : Rest)
    → EdgeGroupsSoFar old now count done left before start rest → count ≤ done
    → (edges_in ByVertex old.graph.vertices count start ≡ Ok (now.graph.edges, rest))
    × (now ≡ record old { graph = record old.graph { edges = now.graph.edges } })
edges_by_vertex_end old now count done left before start rest h past = (
  groups_end edge_in_word (edge_fits old.graph.vertices) now.graph.edges count done left before start rest h.groups past,
  h.same,
)

pub pairs_by_vertex_begin : (old : Stated) (count : ℕ) (start : Rest) → old.entries ≡ map.empty
    → PairGroupsSoFar old old count 0 count None start start
pairs_by_vertex_begin old count start none =
    record { groups = groups_begin pair_in_word (pair_fits old.graph.vertices) old.entries count start none; same = refl }

-- a line more was read
pub pairs_by_vertex_step : (old now next : Stated) (count done left : ℕ) (before : Option ℕ) (start rest : Rest) (g : Group)
    → PairGroupsSoFar old now count done left before start rest → done < count → (left ≡ 0 → ⊥)
    → ReadsGroup pair_in_word (pair_fits now.graph.vertices) left before rest now.entries next.entries (Ok g)
    → next ≡ record now { entries = next.entries } → (rest_behind g.rest).number ≡ rest.number + 1
    → PairGroupsSoFar old next count (done + 1) (left - g.count) (Some g.from) start (rest_behind g.rest)
pairs_by_vertex_step old now next count done left before start rest g h below some read same number =
    let n : now.graph.vertices ≡ old.graph.vertices = ap (λ (s : Stated). s.graph.vertices) h.same in
    record {
      groups = groups_step pair_in_word (pair_fits old.graph.vertices) now.entries next.entries count done left g.count before
          start rest g.from read.0 (rest_behind g.rest) h.groups below some
          (ap (λ k. group_line pair_in_word (pair_fits k) left before rest) (sym n) ∙ read.1) read.2 read.3 number;
      same = same ∙ ap (λ (s : Stated). record s { entries = next.entries }) h.same;
    }

-- a line at fault is the fault of the table
pub pairs_by_vertex_fail : (old now next : Stated) (count done left : ℕ) (before : Option ℕ) (start rest : Rest)
    (x : CertError) → PairGroupsSoFar old now count done left before start rest → done < count → (left ≡ 0 → ⊥)
    → ReadsGroup pair_in_word (pair_fits now.graph.vertices) left before rest now.entries next.entries (Err x)
    → pairs_in ByVertex old.graph.vertices count start ≡ Err x
pairs_by_vertex_fail old now next count done left before start rest x h below some read =
    let n : now.graph.vertices ≡ old.graph.vertices = ap (λ (s : Stated). s.graph.vertices) h.same in
    groups_fail pair_in_word (pair_fits old.graph.vertices) now.entries count done left before start rest x h.groups below some
    (ap (λ k. group_line pair_in_word (pair_fits k) left before rest) (sym n) ∙ read)

-- what was read where no item is left
pub pairs_by_vertex_done : (old now : Stated) (count done left : ℕ) (before : Option ℕ) (start rest : Rest)
    → PairGroupsSoFar old now count done left before start rest → done < count → left ≡ 0
    → (pairs_in ByVertex old.graph.vertices count start ≡ Ok (now.entries, rest))
    × (now ≡ record old { entries = now.entries })
pairs_by_vertex_done old now count done left before start rest h below none = (
  groups_done pair_in_word (pair_fits old.graph.vertices) now.entries count done left before start rest h.groups below none,
  h.same,
)

-- .. and after the most lines
pub pairs_by_vertex_end : (old now : Stated) (count done left : ℕ) (before : Option ℕ) (start rest : Rest)
    → PairGroupsSoFar old now count done left before start rest → count ≤ done
    → (pairs_in ByVertex old.graph.vertices count start ≡ Ok (now.entries, rest))
    × (now ≡ record old { entries = now.entries })
pairs_by_vertex_end old now count done left before start rest h past = (
  groups_end pair_in_word (pair_fits old.graph.vertices) now.entries count done left before start rest h.groups past,
  h.same,
)
