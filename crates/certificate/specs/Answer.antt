-- How an answer gives what is read.
use Rattle.std.specs.Prelude.{◌≡◌, ℕ, ◌≤◌, ⊤, Bool, true, if◌then◌else◌, codes, List, length, Option, Some, None, Result, Ok, Err}
use Rattle.std.specs.List.{list_all}
use Rattle.std.specs.FinMap as map
use Rattle.apsp_model.specs.Graph.{pair_cmp}
use Rattle.std.specs.Option.{option_map}
use Rattle.apsp_model.specs.Stated.{Stated, Entry}
use Rattle.version_face.specs.Entries.{stated}
use Rattle.certificate.specs.declared.CertError.{CertError}
use Rattle.certificate.specs.declared.CertError.TheVariants.{Shape, Order, Range, Memory}
use Rattle.certificate.specs.declared.lines.Lines.{Lines}
use Rattle.certificate.specs.declared.items.Edge.{Edge}
use Rattle.certificate.specs.declared.items.Pair.{Pair}
use Rattle.certificate.specs.declared.lines.Layout.{Layout}
use Rattle.certificate.specs.declared.groups.Items.{Items}
use Rattle.certificate.specs.declared.groups.Group.{Group}
use Rattle.certificate.specs.Groups.{insert_all}
use Rattle.certificate.specs.Reading.{Rest, edge_of_numbers, pair_of_numbers, pair_fits, edge_fits, edges_in, pairs_in, words_in, seconds_rise, group_line, table_of}

abbrev pub rest_behind : Lines → Rest
rest_behind l = record { number = l.number; bytes = l.bytes.now }

-- the answer, seen by view, is what was read
abbrev pub Gives : {X Y : Type 0} → (X → Y) → Result X CertError → Result Y CertError → Type 0
Gives view (Ok x) read = read ≡ Ok (view x)
Gives view (Err e) read = read ≡ Err e

-- the same, unless memory ran out
abbrev pub GivesOrMemory : {X Y : Type 0} → (X → Y) → Result X CertError → Result Y CertError → Type 0
GivesOrMemory view (Ok x) read = read ≡ Ok (view x)
GivesOrMemory view (Err (Shape k)) read = read ≡ Err (Shape k)
GivesOrMemory view (Err (Order k)) read = read ≡ Err (Order k)
GivesOrMemory view (Err (Range k)) read = read ≡ Err (Range k)
GivesOrMemory view (Err Memory) read = ⊤

-- the first fault is in one of the first three lines
abbrev pub IsEarly : Result Stated CertError → Type 0
IsEarly (Ok s) = ⊥
IsEarly (Err (Shape k)) = k ≤ 3
IsEarly (Err (Order k)) = k ≤ 3
IsEarly (Err (Range k)) = k ≤ 3
IsEarly (Err Memory) = ⊥

-- the items of lines, as what is stated
abbrev pub edge_item : Edge → (ℕ × ℕ) × ℕ
edge_item e = ((e.from, e.to), e.weight)

abbrev pub pair_item : Pair → (ℕ × ℕ) × Entry
pair_item p = ((p.from, p.to), stated p.entry)

-- an item, if it is in range
abbrev pub if_fits :
    {V : Type 0} → ((ℕ × ℕ) × V → Bool) → Option ((ℕ × ℕ) × V) → Option ((ℕ × ℕ) × V)
if_fits fits None = None
if_fits fits (Some p) = if fits p then Some p else None

-- the edge that three numbers say, and the entry that five say, if they are in range
abbrev pub IsEdgeWithin : ℕ → List ℕ → Option Edge → Type 0
IsEdgeWithin n numbers result = option_map edge_item result ≡ if_fits (edge_fits n) (edge_of_numbers numbers)

abbrev pub IsPairWithin : ℕ → List ℕ → Option Pair → Type 0
IsPairWithin n numbers result = option_map pair_item result ≡ if_fits (pair_fits n) (pair_of_numbers numbers)

-- what reading a table leaves: the map of its items in place of the empty one, or the first fault
abbrev pub ReadsEdges : Layout → Stated → Stated → Result Lines CertError → Rest → Type 0
ReadsEdges layout old new (Ok r) rest =
    table_of (codes "edges") (edges_in layout old.graph.vertices) old.graph.vertices rest
    ≡ Ok (new.graph.edges, rest_behind r)
    × (new ≡ record old { graph = record old.graph { edges = new.graph.edges } })
ReadsEdges layout old new (Err e) rest =
    table_of (codes "edges") (edges_in layout old.graph.vertices) old.graph.vertices rest ≡ Err e

abbrev pub ReadsPairs : Layout → Stated → Stated → Result Lines CertError → Rest → Type 0
ReadsPairs layout old new (Ok r) rest =
    table_of (codes "pairs") (pairs_in layout old.graph.vertices) old.graph.vertices rest
    ≡ Ok (new.entries, rest_behind r)
    × (new ≡ record old { entries = new.entries })
ReadsPairs layout old new (Err e) rest =
    table_of (codes "pairs") (pairs_in layout old.graph.vertices) old.graph.vertices rest ≡ Err e

-- the same, behind the line of the count
abbrev pub ReadsEdgeLines : Layout → ℕ → Stated → Stated → Result Lines CertError → Rest → Type 0
ReadsEdgeLines layout count old new (Ok r) rest =
    edges_in layout old.graph.vertices count rest ≡ Ok (new.graph.edges, rest_behind r)
    × (new ≡ record old { graph = record old.graph { edges = new.graph.edges } })
ReadsEdgeLines layout count old new (Err e) rest = edges_in layout old.graph.vertices count rest ≡ Err e

abbrev pub ReadsPairLines : Layout → ℕ → Stated → Stated → Result Lines CertError → Rest → Type 0
ReadsPairLines layout count old new (Ok r) rest =
    pairs_in layout old.graph.vertices count rest ≡ Ok (new.entries, rest_behind r)
    × (new ≡ record old { entries = new.entries })
ReadsPairLines layout count old new (Err e) rest = pairs_in layout old.graph.vertices count rest ≡ Err e

-- what there is to say of the items of a line: how many there are, whether all are in range and whether they rise;
-- where all are in range they were put into the map
pub record AreItems {V : Type 0} (fits : (ℕ × ℕ) × V → Bool) (old new : map.FinMap pair_cmp V)
    (es : List ((ℕ × ℕ) × V)) (items : Items) : Type 0 where
  pub count : length es ≡ items.count
  pub fit : list_all fits es ≡ items.fit
  pub rise : seconds_rise None es ≡ items.rise
  pub made : items.fit ≡ true → new ≡ insert_all old es

-- the items of words, or none where the words are not of their form or too many
abbrev pub ReadsWords : {V : Type 0} → (List ℕ → Option ((ℕ × ℕ) × V)) → ((ℕ × ℕ) × V → Bool) → ℕ → List ℕ
    → map.FinMap pair_cmp V → map.FinMap pair_cmp V → Option Items → Type 0
ReadsWords {V} item_in fits most text old new (Some items) =
    (es : List ((ℕ × ℕ) × V)) × (words_in item_in most text ≡ Some es) × AreItems fits old new es items
ReadsWords item_in fits most text old new None = words_in item_in most text ≡ None

-- the items of a line, or its fault
abbrev pub ReadsGroup : {V : Type 0} → (ℕ → List ℕ → Option ((ℕ × ℕ) × V)) → ((ℕ × ℕ) × V → Bool) → ℕ → Option ℕ → Rest
    → map.FinMap pair_cmp V → map.FinMap pair_cmp V → Result Group CertError → Type 0
ReadsGroup {V} item_in fits most before rest old new (Ok g) =
    (es : List ((ℕ × ℕ) × V))
    × (group_line item_in fits most before rest ≡ Ok ((g.from, es), rest_behind g.rest))
    × (length es ≡ g.count) × (new ≡ insert_all old es)
ReadsGroup item_in fits most before rest old new (Err e) = group_line item_in fits most before rest ≡ Err e
