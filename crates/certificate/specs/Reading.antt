-- What a text states, or the first line that is at fault and the test that it fails.
use Rattle.std.specs.Prelude.{ℕ, zero, suc, ◌+◌, ◌-◌, ◌*◌, Bool, true, not, ◌==◌, ◌&&◌, ◌||◌, nat_lt, nat_le, if◌then◌else◌, List, [], ◌∷◌, length, codes, Option, Some, None, Result, Ok, Err}
use Rattle.std.specs.List.{list_all}
use Rattle.std.specs.FinMap as map
use Rattle.std.specs.Str.{bytes_eq}
use Rattle.apsp_model.specs.declared.TheConstants.{MOST_VERTICES, MOST_WEIGHT}
use Rattle.apsp_model.specs.Graph.{pair_cmp}
use Rattle.apsp_model.specs.Stated.{Stated, Entry}
use Rattle.certificate.specs.declared.CertError.{CertError}
use Rattle.certificate.specs.declared.CertError.TheVariants.{Shape, Order, Range}
use Rattle.certificate.specs.declared.lines.Layout.{Layout}
use Rattle.certificate.specs.declared.lines.Layout.TheVariants.{ByItem, ByVertex}
use Rattle.certificate.specs.Cuts.{cut, number_before, number_behind, numbers_by, first_word, ◌and_then◌}
use Rattle.certificate.specs.Groups.{insert_all}
use Rattle.certificate.specs.Grammar.{title}

infixl 10 ◌>>=◌
abbrev pub ◌>>=◌ : {A B : Type 0} → Result A CertError → (A → Result B CertError) → Result B CertError
Ok x >>= f = f x
Err e >>= f = Err e

abbrev pub or_shape : {A : Type 0} → Option A → ℕ → Result A CertError
or_shape (Some x) line = Ok x
or_shape None line = Err (Shape line)

-- the bytes that are left, and the number of the line that they begin with
pub record Rest : Type 0 where
  pub number : ℕ
  pub bytes : List ℕ

-- the next line, which a newline ends
abbrev pub line_at : Rest → Result (List ℕ × Rest) CertError
line_at r = or_shape (cut 10 r.bytes) r.number >>= (λ l. Ok (l.0, record { number = r.number + 1; bytes = l.1 }))

-- a line that is this text
abbrev pub fixed_line : List ℕ → Rest → Result Rest CertError
fixed_line text r = line_at r >>= (λ l. if bytes_eq l.0 text then Ok l.1 else Err (Shape r.number))

-- the number of a line that has it behind this word
abbrev pub named_line : List ℕ → Rest → Result (ℕ × Rest) CertError
named_line word r = line_at r >>= (λ l. or_shape (number_behind word l.0) r.number >>= (λ k. Ok (k, l.1)))

abbrev pub vertices_head_line : Rest → Result (ℕ × Rest) CertError
vertices_head_line r =
    named_line (codes "vertices") r >>= (λ n. if nat_le 1 n.0 && nat_le n.0 MOST_VERTICES then Ok n
    else Err (Range r.number))

-- a number of items to come, which is at most so many
abbrev pub count_line : List ℕ → ℕ → Rest → Result (ℕ × Rest) CertError
count_line word most r = named_line word r >>= (λ k. if nat_le k.0 most then Ok k else Err (Range r.number))

-- what the numbers of an edge's line and of a pair's line say
abbrev pub edge_of_numbers : List ℕ → Option ((ℕ × ℕ) × ℕ)
edge_of_numbers (u ∷ v ∷ w ∷ []) = Some ((u, v), w)
edge_of_numbers _ = None

abbrev pub pair_of_numbers : List ℕ → Option ((ℕ × ℕ) × Entry)
pair_of_numbers (x ∷ y ∷ d ∷ h ∷ z ∷ []) = Some ((x, y), record { dist = d; hops = h; next = z })
pair_of_numbers _ = None

abbrev pub edge_in : List ℕ → Option ((ℕ × ℕ) × ℕ)
edge_in line = numbers_by 32 3 line and_then edge_of_numbers

abbrev pub pair_in : List ℕ → Option ((ℕ × ℕ) × Entry)
pair_in line = numbers_by 32 5 line and_then pair_of_numbers

-- the edge, or the entry, of a word behind a line's first number
abbrev pub edge_in_word : ℕ → List ℕ → Option ((ℕ × ℕ) × ℕ)
edge_in_word u word = numbers_by 58 2 word and_then (λ ks. edge_of_numbers (u ∷ ks))

abbrev pub pair_in_word : ℕ → List ℕ → Option ((ℕ × ℕ) × Entry)
pair_in_word x word = numbers_by 58 4 word and_then (λ ks. pair_of_numbers (x ∷ ks))

-- two different vertices
abbrev pub ends_fit : ℕ → ℕ × ℕ → Bool
ends_fit n q = nat_lt q.0 n && (nat_lt q.1 n && not (q.0 == q.1))

abbrev pub edge_fits : ℕ → (ℕ × ℕ) × ℕ → Bool
edge_fits n e = ends_fit n e.0 && nat_le e.1 MOST_WEIGHT

-- the number of edges and the next vertex of an entry of a pair from x
abbrev pub entry_fits : ℕ → ℕ → ℕ → ℕ → Bool
entry_fits n x hops next = (nat_le 1 hops && nat_le hops (n - 1)) && (nat_lt next n && not (next == x))

abbrev pub pair_fits : ℕ → (ℕ × ℕ) × Entry → Bool
pair_fits n e = ends_fit n e.0 && entry_fits n e.0.0 e.1.hops e.1.next

-- a pair stands above the one before it
abbrev pub rises : Option (ℕ × ℕ) → ℕ × ℕ → Bool
rises None q = true
rises (Some p) q = nat_lt p.0 q.0 || (p.0 == q.0 && nat_lt p.1 q.1)

-- the item of a line: its shape first, then its range, then its order
abbrev pub item_line :
    {V : Type 0} → (List ℕ → Option ((ℕ × ℕ) × V)) → ((ℕ × ℕ) × V → Bool) → Option (ℕ × ℕ) → Rest
    → Result (((ℕ × ℕ) × V) × Rest) CertError
item_line item_in fits before r =
    line_at r >>= (λ l. or_shape (item_in l.0) r.number >>= (λ e.
    if not (fits e) then Err (Range r.number) else (if rises before e.0 then Ok (e, l.1) else Err (Order r.number))))

-- so many lines, whose items are put into the map
abbrev pub items_onto :
    {V : Type 0} → (List ℕ → Option ((ℕ × ℕ) × V)) → ((ℕ × ℕ) × V → Bool) → map.FinMap pair_cmp V → ℕ → Option (ℕ × ℕ)
    → Rest
    → Result (map.FinMap pair_cmp V × Rest) CertError
items_onto item_in fits m zero before r = Ok (m, r)
items_onto item_in fits m (suc k) before r =
    item_line item_in fits before r >>= (λ e. items_onto item_in fits (map.insert m e.0.0 e.0.1) k (Some e.0.0) e.1)

-- the items of words with one space between each two, of which there are at most so many
abbrev pub words_in : {V : Type 0} → (List ℕ → Option ((ℕ × ℕ) × V)) → ℕ → List ℕ → Option (List ((ℕ × ℕ) × V))
words_in item_in zero s = None
words_in item_in (suc k) s =
    item_in (first_word s).0 and_then (λ e.
    (elim (first_word s).1 [ None ↦ Some [] | Some t ↦ words_in item_in k t ]) and_then (λ es. Some (e ∷ es)))

-- a line's first number, and the items behind it, which are at most so many
abbrev pub group_in : {V : Type 0} → (ℕ → List ℕ → Option ((ℕ × ℕ) × V)) → ℕ → List ℕ
    → Option (ℕ × List ((ℕ × ℕ) × V))
group_in item_in most line =
    number_before 32 line and_then (λ a. words_in (item_in a.0) most a.1 and_then (λ es. Some (a.0, es)))

-- a number stands above the one before it
abbrev pub is_above : Option ℕ → ℕ → Bool
is_above None k = true
is_above (Some j) k = nat_lt j k

-- the second numbers of the items rise
abbrev pub seconds_rise : {V : Type 0} → Option ℕ → List ((ℕ × ℕ) × V) → Bool
seconds_rise before [] = true
seconds_rise before (e ∷ es) = is_above before e.0.1 && seconds_rise (Some e.0.1) es

-- the items of a line: its shape first, then the ranges, then the order
abbrev pub group_line :
    {V : Type 0} → (ℕ → List ℕ → Option ((ℕ × ℕ) × V)) → ((ℕ × ℕ) × V → Bool) → ℕ → Option ℕ → Rest
    → Result ((ℕ × List ((ℕ × ℕ) × V)) × Rest) CertError
group_line item_in fits most before r =
    line_at r >>= (λ l. or_shape (group_in item_in most l.0) r.number >>= (λ g.
    if not (list_all fits g.1) then Err (Range r.number) else
    (if is_above before g.0 && seconds_rise None g.1 then Ok (g, l.1) else Err (Order r.number))))

-- lines until no item is left to be read; each has an item, so that there are at most as many lines as items
abbrev pub groups_onto :
    {V : Type 0} → (ℕ → List ℕ → Option ((ℕ × ℕ) × V)) → ((ℕ × ℕ) × V → Bool) → ℕ → map.FinMap pair_cmp V → ℕ
    → Option ℕ → Rest
    → Result (map.FinMap pair_cmp V × Rest) CertError
groups_onto item_in fits zero m left before r = Ok (m, r)
groups_onto item_in fits (suc k) m left before r =
    if left == 0 then Ok (m, r) else (group_line item_in fits left before r >>= (λ g.
    groups_onto item_in fits k (insert_all m g.0.1) (left - length g.0.1) (Some g.0.0) g.1))

-- so many edges, and so many entries
abbrev pub edges_in : Layout → ℕ → ℕ → Rest → Result (map.FinMap pair_cmp ℕ × Rest) CertError
edges_in ByItem n k r = items_onto edge_in (edge_fits n) map.empty k None r
edges_in ByVertex n k r = groups_onto edge_in_word (edge_fits n) k map.empty k None r

abbrev pub pairs_in : Layout → ℕ → ℕ → Rest → Result (map.FinMap pair_cmp Entry × Rest) CertError
pairs_in ByItem n k r = items_onto pair_in (pair_fits n) map.empty k None r
pairs_in ByVertex n k r = groups_onto pair_in_word (pair_fits n) k map.empty k None r

-- the line that ends the text
abbrev pub closing_line : Rest → Result (Unit {0}) CertError
closing_line r = fixed_line (codes "end") r >>= (λ e. if length e.bytes == 0 then Ok tt else Err (Shape e.number))

-- the first line, which names the layout
abbrev pub title_line : Rest → Result (Layout × Rest) CertError
title_line r =
    line_at r >>= (λ l. if bytes_eq l.0 (title ByItem) then Ok (ByItem, l.1) else
    (if bytes_eq l.0 (title ByVertex) then Ok (ByVertex, l.1) else Err (Shape r.number)))

-- the first three lines: the layout, the number and the number of vertices
pub record Head : Type 0 where
  pub layout : Layout
  pub number : ℕ
  pub vertices : ℕ
  pub rest : Rest

abbrev pub head_of : Rest → Result Head CertError
head_of r =
    title_line r >>= (λ a.
    named_line (codes "number") a.1 >>= (λ k.
    vertices_head_line k.1 >>= (λ n. Ok (record { layout = a.0; number = k.0; vertices = n.0; rest = n.1 }))))

-- a line with a count, and that many items
abbrev pub table_of :
    {V : Type 0} → List ℕ → (ℕ → Rest → Result (map.FinMap pair_cmp V × Rest) CertError) → ℕ → Rest
    → Result (map.FinMap pair_cmp V × Rest) CertError
table_of word items n r = count_line word (n * (n - 1)) r >>= (λ k. items k.0 k.1)

abbrev pub body_of : Head → Result Stated CertError
body_of h =
    table_of (codes "edges") (edges_in h.layout h.vertices) h.vertices h.rest >>= (λ es.
    table_of (codes "pairs") (pairs_in h.layout h.vertices) h.vertices es.1 >>= (λ ps.
    closing_line ps.1 >>= (λ _.
    Ok (record { number = h.number; graph = record { vertices = h.vertices; edges = es.0 }; entries = ps.0 }))))

-- what the bytes state, or the first fault
abbrev pub stated_by : List ℕ → Result Stated CertError
stated_by bytes = head_of (record { number = 1; bytes = bytes }) >>= body_of
