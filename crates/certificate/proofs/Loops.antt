-- Tables, and loops over their lines in text 1: for `read_edges`, `read_pairs`, `edges_by_item` and `pairs_by_item`.
use Rattle.std.specs.Prelude.{◌≡◌, ℕ, suc, ◌+◌, ◌-◌, ◌*◌, ◌<◌, ◌≤◌, Bool, true, codes, List, Option, Some, None, Result, Ok, Err, refl}
use Rattle.std.specs.FinMap as map
use Rattle.std.proofs.Common.{sym, ◌∙◌, ap, subst, arith}
use Rattle.std.proofs.lemmas.Nat.{mul-le}
use Rattle.apsp_model.specs.declared.TheConstants.{MOST_VERTICES}
use Rattle.apsp_model.specs.Graph.{pair_cmp, no_edges}
use Rattle.apsp_model.specs.Stated.{Stated, Entry}
use Rattle.certificate.specs.declared.CertError.{CertError}
use Rattle.certificate.specs.declared.lines.Layout.{Layout}
use Rattle.certificate.specs.declared.lines.Layout.TheVariants.{ByItem}
use Rattle.certificate.specs.declared.lines.Lines.{Lines}
use Rattle.certificate.specs.Reading.{◌>>=◌, Rest, edge_in, pair_in, edge_fits, pair_fits, count_line, item_line, items_onto, edges_in, pairs_in, table_of}
use Rattle.certificate.specs.Answer.{rest_behind, ReadsEdges, ReadsPairs, ReadsEdgeLines, ReadsPairLines}
use Rattle.certificate.specs.Inside.{with_stated_edge, with_pair}

-- after so many of the lines the others have to be read onto the map so far
pub record SoFar {V : Type 0} (item_in : List ℕ → Option ((ℕ × ℕ) × V)) (fits : (ℕ × ℕ) × V → Bool)
    (m : map.FinMap pair_cmp V) (count done : ℕ) (before : Option (ℕ × ℕ)) (start rest : Rest) : Type 0 where
  pub number : rest.number ≡ start.number + done
  pub left : items_onto item_in fits m (count - done) before rest ≡ items_onto item_in fits map.empty count None start

module _ {V : Type 0} (item_in : List ℕ → Option ((ℕ × ℕ) × V)) (fits : (ℕ × ℕ) × V → Bool) where
  pub begin : (m : map.FinMap pair_cmp V) (count : ℕ) (start : Rest) → m ≡ map.empty
      → SoFar item_in fits m count 0 None start start
  begin m count start e =
      record {
        number = omega arith;
        left = ap (λ k. items_onto item_in fits m k None start) less
            ∙ ap (λ n. items_onto item_in fits n count None start) e;
      }
    where
      less : count - 0 ≡ count
      less = omega arith

  one_less : (count done : ℕ) → done < count → count - done ≡ suc (count - (done + 1))
  one_less count done below = omega arith

  pub step : (m : map.FinMap pair_cmp V) (count done : ℕ) (before : Option (ℕ × ℕ)) (start rest : Rest)
      (e : (ℕ × ℕ) × V) (next : Rest) → SoFar item_in fits m count done before start rest → done < count
      → item_line item_in fits before rest ≡ Ok (e, next) → next.number ≡ rest.number + 1
      → SoFar item_in fits (map.insert m e.0 e.1) count (done + 1) (Some e.0) start next
  step m count done before start rest e next h below line number = record {
    number = omega (arith, number, h.number);
    left = sym (ap (λ k. items_onto item_in fits m k before rest) (one_less count done below)
        ∙ ap (λ (o : Result (((ℕ × ℕ) × V) × Rest) CertError). o >>=
        (λ d. items_onto item_in fits (map.insert m d.0.0 d.0.1) (count - (done + 1)) (Some d.0.0) d.1)) line)
        ∙ h.left;
  }

  pub fails : (m : map.FinMap pair_cmp V) (count done : ℕ) (before : Option (ℕ × ℕ)) (start rest : Rest) (x : CertError)
      → SoFar item_in fits m count done before start rest → done < count → item_line item_in fits before rest ≡ Err x
      → items_onto item_in fits map.empty count None start ≡ Err x
  fails m count done before start rest x h below line =
      sym h.left
      ∙ ap (λ k. items_onto item_in fits m k before rest) (one_less count done below)
      ∙ ap (λ (o : Result (((ℕ × ℕ) × V) × Rest) CertError). o >>=
      (λ d. items_onto item_in fits (map.insert m d.0.0 d.0.1) (count - (done + 1)) (Some d.0.0) d.1)) line

  pub ends : (m : map.FinMap pair_cmp V) (count done : ℕ) (before : Option (ℕ × ℕ)) (start rest : Rest)
      → SoFar item_in fits m count done before start rest → count ≤ done
      → items_onto item_in fits map.empty count None start ≡ Ok (m, rest)
  ends m count done before start rest h past =
      let none : count - done ≡ 0 = omega arith in
      sym h.left ∙ ap (λ k. items_onto item_in fits m k before rest) none

-- the table whose count was read
table_is : {V : Type 0} (read : ℕ → Rest → Result (map.FinMap pair_cmp V × Rest) CertError) (word : List ℕ)
    (n k count : ℕ) (lines start : Rest) (r : Result (map.FinMap pair_cmp V × Rest) CertError) → n ≡ k
    → count_line word (n * (n - 1)) lines ≡ Ok (count, start) → read count start ≡ r → table_of word read k lines ≡ r
table_is read word n k count lines start r same counted items =
    ap (λ j. table_of word read j lines) (sym same)
    ∙ ap (λ (o : Result (ℕ × Rest) CertError). o >>= (λ c. read c.0 c.1)) counted
    ∙ items

-- what is read behind the line of the count is the table
pub edges_table : (layout : Layout) (old new : Stated) (n count : ℕ) (lines start : Rest) (r : Result Lines CertError)
    → n ≡ old.graph.vertices → count_line (codes "edges") (n * (n - 1)) lines ≡ Ok (count, start)
    → ReadsEdgeLines layout count old new r start → ReadsEdges layout old new r lines
edges_table layout old new n count lines start (Ok r) same counted h = (
  table_is (edges_in layout old.graph.vertices) (codes "edges") n old.graph.vertices count lines start
      (Ok (new.graph.edges, rest_behind r)) same counted h.0,
  h.1,
)
edges_table layout old new n count lines start (Err e) same counted h =
    table_is (edges_in layout old.graph.vertices) (codes "edges") n old.graph.vertices count lines start (Err e) same
    counted h

pub pairs_table : (layout : Layout) (old new : Stated) (n count : ℕ) (lines start : Rest) (r : Result Lines CertError)
    → n ≡ old.graph.vertices → count_line (codes "pairs") (n * (n - 1)) lines ≡ Ok (count, start)
    → ReadsPairLines layout count old new r start → ReadsPairs layout old new r lines
pairs_table layout old new n count lines start (Ok r) same counted h = (
  table_is (pairs_in layout old.graph.vertices) (codes "pairs") n old.graph.vertices count lines start
      (Ok (new.entries, rest_behind r)) same counted h.0,
  h.1,
)
pairs_table layout old new n count lines start (Err e) same counted h =
    table_is (pairs_in layout old.graph.vertices) (codes "pairs") n old.graph.vertices count lines start (Err e) same
    counted h

-- a table has at most one item for each two of the most vertices
pub most_items : (n : ℕ) → n ≤ MOST_VERTICES → n * (n - 1) ≤ MOST_VERTICES * (MOST_VERTICES - 1)
most_items n most = mul-le n (n - 1) MOST_VERTICES (MOST_VERTICES - 1) most (omega (arith, most))

-- what the loop over the edges keeps
pub record EdgesSoFar (old now : Stated) (n count done : ℕ) (before : Option (ℕ × ℕ)) (start rest : Rest) : Type 0 where
  pub items : SoFar edge_in (edge_fits n) now.graph.edges count done before start rest
  pub same : now ≡ record old { graph = record old.graph { edges = now.graph.edges } }

-- what the loop over the pairs keeps
pub record PairsSoFar (old now : Stated) (n count done : ℕ) (before : Option (ℕ × ℕ)) (start rest : Rest) : Type 0 where
  pub items : SoFar pair_in (pair_fits n) now.entries count done before start rest
  pub same : now ≡ record old { entries = now.entries }

-- the loop over the edges begins
pub edges_begin : (old : Stated) (n count : ℕ) (start : Rest) → old.graph ≡ no_edges old.graph.vertices
    → EdgesSoFar old old n count 0 None start start
edges_begin old n count start none =
    record { items = begin edge_in (edge_fits n) old.graph.edges count start (ap (λ g. g.edges) none); same = refl }

-- .. takes an edge more
pub edges_step : (old now next : Stated) (n count done : ℕ) (before : Option (ℕ × ℕ)) (start rest behind : Rest)
    (e : (ℕ × ℕ) × ℕ) → EdgesSoFar old now n count done before start rest → done < count
    → item_line edge_in (edge_fits n) before rest ≡ Ok (e, behind) → behind.number ≡ rest.number + 1
    → next ≡ with_stated_edge now e → EdgesSoFar old next n count (done + 1) (Some e.0) start behind
edges_step old now next n count done before start rest behind e h below line number put =
    let made : EdgesSoFar old (with_stated_edge now e) n count (done + 1) (Some e.0) start behind = record {
      items = step edge_in (edge_fits n) now.graph.edges count done before start rest e behind h.items below line
          number;
      same = ap (λ (s : Stated). with_stated_edge s e) h.same;
    } in
    subst (λ s. EdgesSoFar old s n count (done + 1) (Some e.0) start behind) (sym put) made

-- the loop over the pairs begins
pub pairs_begin : (old : Stated) (n count : ℕ) (start : Rest) → old.entries ≡ map.empty
    → PairsSoFar old old n count 0 None start start
pairs_begin old n count start none =
    record { items = begin pair_in (pair_fits n) old.entries count start none; same = refl }

-- .. takes an entry more
pub pairs_step : (old now next : Stated) (n count done : ℕ) (before : Option (ℕ × ℕ)) (start rest behind : Rest)
    (e : (ℕ × ℕ) × Entry) → PairsSoFar old now n count done before start rest → done < count
    → item_line pair_in (pair_fits n) before rest ≡ Ok (e, behind) → behind.number ≡ rest.number + 1
    → next ≡ with_pair now e → PairsSoFar old next n count (done + 1) (Some e.0) start behind
pairs_step old now next n count done before start rest behind e h below line number put =
    let made : PairsSoFar old (with_pair now e) n count (done + 1) (Some e.0) start behind = record {
      items = step pair_in (pair_fits n) now.entries count done before start rest e behind h.items below line number;
      same = ap (λ (s : Stated). with_pair s e) h.same;
    } in
    subst (λ s. PairsSoFar old s n count (done + 1) (Some e.0) start behind) (sym put) made

-- a line of an edge that is at fault is the fault of the table
pub edges_fail : (old now : Stated) (n count done : ℕ) (before : Option (ℕ × ℕ)) (start rest : Rest) (x : CertError)
    → n ≡ old.graph.vertices → EdgesSoFar old now n count done before start rest → done < count
    → item_line edge_in (edge_fits n) before rest ≡ Err x → edges_in ByItem old.graph.vertices count start ≡ Err x
edges_fail old now n count done before start rest x same h below line =
    let P : ℕ → Type 0 = λ k. items_onto edge_in (edge_fits k) map.empty count None start ≡ Err x in
    subst P same (fails edge_in (edge_fits n) now.graph.edges count done before start rest x h.items below line)

-- where all edges were taken, the table is what they made
pub edges_end : (old now : Stated) (n count done : ℕ) (before : Option (ℕ × ℕ)) (start rest : Rest)
    → n ≡ old.graph.vertices → EdgesSoFar old now n count done before start rest → count ≤ done
    → (edges_in ByItem old.graph.vertices count start ≡ Ok (now.graph.edges, rest))
    × (now ≡ record old { graph = record old.graph { edges = now.graph.edges } })
edges_end old now n count done before start rest same h past =
    let P : ℕ → Type 0 = λ k. items_onto edge_in (edge_fits k) map.empty count None start ≡ Ok (now.graph.edges, rest) in
    (subst P same (ends edge_in (edge_fits n) now.graph.edges count done before start rest h.items past), h.same)

-- an edge that fits the number of vertices fits what was made so far
pub edge_still_fits : (old now : Stated) (n count done : ℕ) (before : Option (ℕ × ℕ)) (start rest : Rest)
    (e : (ℕ × ℕ) × ℕ) → n ≡ old.graph.vertices → EdgesSoFar old now n count done before start rest
    → edge_fits n e ≡ true → edge_fits now.graph.vertices e ≡ true
edge_still_fits old now n count done before start rest e same h f =
    ap (λ (s : Stated). edge_fits s.graph.vertices e) h.same ∙ ap (λ k. edge_fits k e) (sym same) ∙ f

-- a line of a pair that is at fault is the fault of the table
pub pairs_fail : (old now : Stated) (n count done : ℕ) (before : Option (ℕ × ℕ)) (start rest : Rest) (x : CertError)
    → n ≡ old.graph.vertices → PairsSoFar old now n count done before start rest → done < count
    → item_line pair_in (pair_fits n) before rest ≡ Err x → pairs_in ByItem old.graph.vertices count start ≡ Err x
pairs_fail old now n count done before start rest x same h below line =
    let P : ℕ → Type 0 = λ k. items_onto pair_in (pair_fits k) map.empty count None start ≡ Err x in
    subst P same (fails pair_in (pair_fits n) now.entries count done before start rest x h.items below line)

-- where all pairs were taken, the table is what they made
pub pairs_end : (old now : Stated) (n count done : ℕ) (before : Option (ℕ × ℕ)) (start rest : Rest)
    → n ≡ old.graph.vertices → PairsSoFar old now n count done before start rest → count ≤ done
    → (pairs_in ByItem old.graph.vertices count start ≡ Ok (now.entries, rest))
    × (now ≡ record old { entries = now.entries })
pairs_end old now n count done before start rest same h past =
    let P : ℕ → Type 0 = λ k. items_onto pair_in (pair_fits k) map.empty count None start ≡ Ok (now.entries, rest) in
    (subst P same (ends pair_in (pair_fits n) now.entries count done before start rest h.items past), h.same)

-- an entry that fits the number of vertices fits what was made so far
pub pair_still_fits : (old now : Stated) (n count done : ℕ) (before : Option (ℕ × ℕ)) (start rest : Rest)
    (e : (ℕ × ℕ) × Entry) → n ≡ old.graph.vertices → PairsSoFar old now n count done before start rest
    → pair_fits n e ≡ true → pair_fits now.graph.vertices e ≡ true
pair_still_fits old now n count done before start rest e same h f =
    ap (λ (s : Stated). pair_fits s.graph.vertices e) h.same ∙ ap (λ k. pair_fits k e) (sym same) ∙ f
