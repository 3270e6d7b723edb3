-- Behind the head all faults are in the fourth line or a later one: for `read_text` and `law_one_certificate`.
use Rattle.std.specs.Prelude.{◌≡◌, ℕ, zero, suc, ◌+◌, ◌-◌, ◌*◌, ◌≤◌, ⊤, Bool, true, false, not, ◌==◌, ◌&&◌, nat_le, if◌then◌else◌, codes, List, length, Option, Some, None, Result, Ok, Err}
use Rattle.std.specs.List.{list_all}
use Rattle.std.specs.FinMap as map
use Rattle.std.specs.Str.{bytes_eq}
use Rattle.std.proofs.Common.{subst, arith}
use Rattle.apsp_model.specs.declared.TheConstants.{MOST_VERTICES}
use Rattle.apsp_model.specs.Graph.{pair_cmp}
use Rattle.apsp_model.specs.Stated.{Stated, Entry}
use Rattle.certificate.specs.declared.CertError.{CertError}
use Rattle.certificate.specs.declared.CertError.TheVariants.{Shape, Order, Range, Memory}
use Rattle.certificate.specs.declared.lines.Layout.{Layout}
use Rattle.certificate.specs.declared.lines.Layout.TheVariants.{ByItem, ByVertex}
use Rattle.certificate.specs.Cuts.{cut, number_behind}
use Rattle.certificate.specs.Groups.{insert_all}
use Rattle.certificate.specs.Grammar.{title}
use Rattle.certificate.specs.Reading.{◌>>=◌, or_shape, Rest, Head, line_at, fixed_line, named_line, title_line, vertices_head_line, count_line, edge_in, pair_in, edge_in_word, pair_in_word, edge_fits, pair_fits, rises, item_line, items_onto, is_above, seconds_rise, group_in, group_line, groups_onto, edges_in, pairs_in, closing_line, table_of, head_of, body_of, stated_by}
use Rattle.certificate.specs.Answer.{IsEarly}

-- a fault is in a line from the k-th on
abbrev AtLeast : ℕ → CertError → Type 0
AtLeast k (Shape l) = k ≤ l
AtLeast k (Order l) = k ≤ l
AtLeast k (Range l) = k ≤ l
AtLeast k Memory = ⊥

-- what is read ends with a fault from the k-th line on, or goes on from there
abbrev Goes : {X : Type 0} → (X → Rest) → ℕ → Result X CertError → Type 0
Goes next k (Ok x) = k ≤ (next x).number
Goes next k (Err e) = AtLeast k e

-- the same, where nothing follows
abbrev Late : {X : Type 0} → ℕ → Result X CertError → Type 0
Late k (Ok x) = ⊤
Late k (Err e) = AtLeast k e

goes_on : {X Y : Type 0} (next : X → Rest) (after : Y → Rest) (k : ℕ) (m : Result X CertError)
    (f : X → Result Y CertError) → Goes next k m → ((x : X) → k ≤ (next x).number → Goes after k (f x))
    → Goes after k (m >>= f)
goes_on next after k (Ok x) f h g = g x h
goes_on next after k (Err e) f h g = h

late_on : {X Y : Type 0} (next : X → Rest) (k : ℕ) (m : Result X CertError) (f : X → Result Y CertError) → Goes next k m
    → ((x : X) → k ≤ (next x).number → Late k (f x)) → Late k (m >>= f)
late_on next k (Ok x) f h g = g x h
late_on next k (Err e) f h g = h

late_end : {X Y : Type 0} (k : ℕ) (m : Result X CertError) (f : X → Y) → Late k m
    → Late {X = Y} k (m >>= (λ x. Ok (f x)))
late_end k (Ok x) f h = tt
late_end k (Err e) f h = h

shape_goes : {X Y : Type 0} (after : Y → Rest) (k line : ℕ) (o : Option X) (f : X → Result Y CertError) → k ≤ line
    → ((x : X) → Goes after k (f x)) → Goes after k (or_shape o line >>= f)
shape_goes after k line (Some x) f h g = g x
shape_goes after k line None f h g = h

line_goes : (k : ℕ) (r : Rest) → k ≤ r.number → Goes (λ (l : List ℕ × Rest). l.1) k (line_at r)
line_goes k r h =
    shape_goes (λ (l : List ℕ × Rest). l.1) k r.number (cut 10 r.bytes)
    (λ l. Ok (l.0, record { number = r.number + 1; bytes = l.1 })) h (λ x. omega (arith, h))

named_goes : (k : ℕ) (word : List ℕ) (r : Rest) → k ≤ r.number → Goes (λ (x : ℕ × Rest). x.1) k (named_line word r)
named_goes k word r h =
    goes_on (λ (l : List ℕ × Rest). l.1) (λ (x : ℕ × Rest). x.1) k (line_at r)
    (λ l. or_shape (number_behind word l.0) r.number >>= (λ j. Ok (j, l.1))) (line_goes k r h)
    (λ l p. shape_goes (λ (x : ℕ × Rest). x.1) k r.number (number_behind word l.0) (λ j. Ok (j, l.1)) h (λ j. p))

count_goes : (k : ℕ) (word : List ℕ) (most : ℕ) (r : Rest) → k ≤ r.number
    → Goes (λ (x : ℕ × Rest). x.1) k (count_line word most r)
count_goes k word most r h =
    goes_on (λ (x : ℕ × Rest). x.1) (λ (x : ℕ × Rest). x.1) k (named_line word r)
    (λ j. if nat_le j.0 most then Ok j else Err (Range r.number)) (named_goes k word r h)
    (λ j p. at (nat_le j.0 most) j p)
  where
    at : (b : Bool) (j : ℕ × Rest) → k ≤ j.1.number
        → Goes (λ (x : ℕ × Rest). x.1) k (if b then Ok j else Err (Range r.number))
    at true j p = p
    at false j p = h

module _ {V : Type 0} (item_in : List ℕ → Option ((ℕ × ℕ) × V)) (fits : (ℕ × ℕ) × V → Bool) where
  item_goes : (k : ℕ) (before : Option (ℕ × ℕ)) (r : Rest) → k ≤ r.number
      → Goes (λ (x : ((ℕ × ℕ) × V) × Rest). x.1) k (item_line item_in fits before r)
  item_goes k before r h =
      goes_on (λ (l : List ℕ × Rest). l.1) (λ (x : ((ℕ × ℕ) × V) × Rest). x.1) k (line_at r)
      (λ l. or_shape (item_in l.0) r.number >>=
      (λ e. if not (fits e) then Err (Range r.number) else
      (if rises before e.0 then Ok (e, l.1) else Err (Order r.number)))) (line_goes k r h)
      (λ l p. shape_goes (λ (x : ((ℕ × ℕ) × V) × Rest). x.1) k r.number (item_in l.0)
      (λ e. if not (fits e) then Err (Range r.number) else
      (if rises before e.0 then Ok (e, l.1) else Err (Order r.number))) h
      (λ e. at (fits e) (rises before e.0) e l.1 p))
    where
      at : (b c : Bool) (e : (ℕ × ℕ) × V) (next : Rest) → k ≤ next.number
          → Goes (λ (x : ((ℕ × ℕ) × V) × Rest). x.1) k
          (if not b then Err (Range r.number) else (if c then Ok (e, next) else Err (Order r.number)))
      at true true e next p = p
      at true false e next p = h
      at false c e next p = h

  items_go : (k : ℕ) (m : map.FinMap pair_cmp V) (count : ℕ) (before : Option (ℕ × ℕ)) (r : Rest) → k ≤ r.number
      → Goes (λ (x : map.FinMap pair_cmp V × Rest). x.1) k (items_onto item_in fits m count before r)
  items_go k m zero before r h = h
  items_go k m (suc count) before r h =
      goes_on (λ (x : ((ℕ × ℕ) × V) × Rest). x.1) (λ (x : map.FinMap pair_cmp V × Rest). x.1) k
      (item_line item_in fits before r)
      (λ e. items_onto item_in fits (map.insert m e.0.0 e.0.1) count (Some e.0.0) e.1) (item_goes k before r h)
      (λ e p. items_go k (map.insert m e.0.0 e.0.1) count (Some e.0.0) e.1 p)

module _ {V : Type 0} (item_in : ℕ → List ℕ → Option ((ℕ × ℕ) × V)) (fits : (ℕ × ℕ) × V → Bool) where
  group_goes : (k most : ℕ) (before : Option ℕ) (r : Rest) → k ≤ r.number
      → Goes (λ (x : (ℕ × List ((ℕ × ℕ) × V)) × Rest). x.1) k (group_line item_in fits most before r)
  group_goes k most before r h =
      goes_on (λ (l : List ℕ × Rest). l.1) (λ (x : (ℕ × List ((ℕ × ℕ) × V)) × Rest). x.1) k (line_at r)
      (λ l. or_shape (group_in item_in most l.0) r.number >>= (λ g.
      if not (list_all fits g.1) then Err (Range r.number) else
      (if is_above before g.0 && seconds_rise None g.1 then Ok (g, l.1) else Err (Order r.number)))) (line_goes k r h)
      (λ l p. shape_goes (λ (x : (ℕ × List ((ℕ × ℕ) × V)) × Rest). x.1) k r.number (group_in item_in most l.0) (λ g.
      if not (list_all fits g.1) then Err (Range r.number) else
      (if is_above before g.0 && seconds_rise None g.1 then Ok (g, l.1) else Err (Order r.number))) h
      (λ g. at (list_all fits g.1) (is_above before g.0 && seconds_rise None g.1) g l.1 p))
    where
      at : (b c : Bool) (g : ℕ × List ((ℕ × ℕ) × V)) (next : Rest) → k ≤ next.number
          → Goes (λ (x : (ℕ × List ((ℕ × ℕ) × V)) × Rest). x.1) k
          (if not b then Err (Range r.number) else (if c then Ok (g, next) else Err (Order r.number)))
      at true true g next p = p
      at true false g next p = h
      at false c g next p = h

  groups_go : (k fuel : ℕ) (m : map.FinMap pair_cmp V) (left : ℕ) (before : Option ℕ) (r : Rest) → k ≤ r.number
      → Goes (λ (x : map.FinMap pair_cmp V × Rest). x.1) k (groups_onto item_in fits fuel m left before r)
  groups_go k zero m left before r h = h
  groups_go k (suc fuel) m left before r h =
      at (left == 0) (goes_on (λ (x : (ℕ × List ((ℕ × ℕ) × V)) × Rest). x.1)
      (λ (x : map.FinMap pair_cmp V × Rest). x.1) k (group_line item_in fits left before r)
      (λ g. groups_onto item_in fits fuel (insert_all m g.0.1) (left - length g.0.1) (Some g.0.0) g.1)
      (group_goes k left before r h)
      (λ g p. groups_go k fuel (insert_all m g.0.1) (left - length g.0.1) (Some g.0.0) g.1 p))
    where
      at : (b : Bool) → Goes (λ (x : map.FinMap pair_cmp V × Rest). x.1) k
          (group_line item_in fits left before r >>=
          (λ g. groups_onto item_in fits fuel (insert_all m g.0.1) (left - length g.0.1) (Some g.0.0) g.1))
          → Goes (λ (x : map.FinMap pair_cmp V × Rest). x.1) k
          (if b then Ok (m, r) else (group_line item_in fits left before r >>=
          (λ g. groups_onto item_in fits fuel (insert_all m g.0.1) (left - length g.0.1) (Some g.0.0) g.1)))
      at true g = h
      at false g = g

edges_go : (k : ℕ) (l : Layout) (n count : ℕ) (r : Rest) → k ≤ r.number
    → Goes (λ (x : map.FinMap pair_cmp ℕ × Rest). x.1) k (edges_in l n count r)
edges_go k ByItem n count r h = items_go edge_in (edge_fits n) k map.empty count None r h
edges_go k ByVertex n count r h = groups_go edge_in_word (edge_fits n) k count map.empty count None r h

pairs_go : (k : ℕ) (l : Layout) (n count : ℕ) (r : Rest) → k ≤ r.number
    → Goes (λ (x : map.FinMap pair_cmp Entry × Rest). x.1) k (pairs_in l n count r)
pairs_go k ByItem n count r h = items_go pair_in (pair_fits n) k map.empty count None r h
pairs_go k ByVertex n count r h = groups_go pair_in_word (pair_fits n) k count map.empty count None r h

table_goes : {V : Type 0} (read : ℕ → Rest → Result (map.FinMap pair_cmp V × Rest) CertError) (k : ℕ) (word : List ℕ)
    (n : ℕ) (r : Rest) → ((count : ℕ) (r : Rest) → k ≤ r.number
    → Goes (λ (x : map.FinMap pair_cmp V × Rest). x.1) k (read count r)) → k ≤ r.number
    → Goes (λ (x : map.FinMap pair_cmp V × Rest). x.1) k (table_of word read n r)
table_goes {V} read k word n r goes h =
    goes_on (λ (x : ℕ × Rest). x.1) (λ (x : map.FinMap pair_cmp V × Rest). x.1) k (count_line word (n * (n - 1)) r)
    (λ c. read c.0 c.1) (count_goes k word (n * (n - 1)) r h) (λ c p. goes c.0 c.1 p)

fixed_goes : (k : ℕ) (text : List ℕ) (r : Rest) → k ≤ r.number → Goes (λ (x : Rest). x) k (fixed_line text r)
fixed_goes k text r h =
    goes_on (λ (l : List ℕ × Rest). l.1) (λ (x : Rest). x) k (line_at r)
    (λ l. if bytes_eq l.0 text then Ok l.1 else Err (Shape r.number)) (line_goes k r h)
    (λ l p. at (bytes_eq l.0 text) l.1 p)
  where
    at : (b : Bool) (next : Rest) → k ≤ next.number
        → Goes (λ (x : Rest). x) k (if b then Ok next else Err (Shape r.number))
    at true next p = p
    at false next p = h

end_late : (k : ℕ) (r : Rest) → k ≤ r.number → Late k (closing_line r)
end_late k r h =
    late_on (λ (x : Rest). x) k (fixed_line (codes "end") r)
    (λ e. if length e.bytes == 0 then Ok tt else Err (Shape e.number)) (fixed_goes k (codes "end") r h)
    (λ e p. at (length e.bytes == 0) e p)
  where
    at : (b : Bool) (e : Rest) → k ≤ e.number → Late {X = Unit {0}} k (if b then Ok tt else Err (Shape e.number))
    at true e p = tt
    at false e p = p

body_late : (k : ℕ) (h : Head) → k ≤ h.rest.number → Late k (body_of h)
body_late k h l =
    late_on (λ (x : map.FinMap pair_cmp ℕ × Rest). x.1) k
    (table_of (codes "edges") (edges_in h.layout h.vertices) h.vertices h.rest) _
    (table_goes (edges_in h.layout h.vertices) k (codes "edges") h.vertices h.rest (edges_go k h.layout h.vertices) l)
    (λ es p. late_on (λ (x : map.FinMap pair_cmp _ × Rest). x.1) k
    (table_of (codes "pairs") (pairs_in h.layout h.vertices) h.vertices es.1) _
    (table_goes (pairs_in h.layout h.vertices) k (codes "pairs") h.vertices es.1 (pairs_go k h.layout h.vertices) p)
    (λ ps q. late_end k (closing_line ps.1)
    (λ _. record { number = h.number; graph = record { vertices = h.vertices; edges = es.0 }; entries = ps.0 })
    (end_late k ps.1 q)))

-- a body that starts in the fourth line has no fault before it
pub not_early : (h : Head) (r : Result Stated CertError) → r ≡ body_of h → 4 ≤ h.rest.number → IsEarly r → ⊥
not_early h r e l early = at (body_of h) (body_late 4 h l) (subst IsEarly e early)
  where
    at : (r : Result Stated CertError) → Late 4 r → IsEarly r → ⊥
    at (Ok s) a b = b
    at (Err (Shape k)) a b = omega (arith, a, b)
    at (Err (Order k)) a b = omega (arith, a, b)
    at (Err (Range k)) a b = omega (arith, a, b)
    at (Err Memory) a b = b

-- ---- every fault is one of a line

vertices_goes : (k : ℕ) (r : Rest) → k ≤ r.number → Goes (λ (x : ℕ × Rest). x.1) k (vertices_head_line r)
vertices_goes k r h =
    goes_on (λ (x : ℕ × Rest). x.1) (λ (x : ℕ × Rest). x.1) k (named_line (codes "vertices") r)
    (λ n. if nat_le 1 n.0 && nat_le n.0 MOST_VERTICES then Ok n else Err (Range r.number))
    (named_goes k (codes "vertices") r h)
    (λ n p. at (nat_le 1 n.0 && nat_le n.0 MOST_VERTICES) n p)
  where
    at : (b : Bool) (n : ℕ × Rest) → k ≤ n.1.number
        → Goes (λ (x : ℕ × Rest). x.1) k (if b then Ok n else Err (Range r.number))
    at true n p = p
    at false n p = h

title_goes : (k : ℕ) (r : Rest) → k ≤ r.number → Goes (λ (x : Layout × Rest). x.1) k (title_line r)
title_goes k r h =
    goes_on (λ (l : List ℕ × Rest). l.1) (λ (x : Layout × Rest). x.1) k (line_at r)
    (λ l. if bytes_eq l.0 (title ByItem) then Ok (ByItem, l.1) else
    (if bytes_eq l.0 (title ByVertex) then Ok (ByVertex, l.1) else Err (Shape r.number))) (line_goes k r h)
    (λ l p. at (bytes_eq l.0 (title ByItem)) (bytes_eq l.0 (title ByVertex)) l.1 p)
  where
    at : (b c : Bool) (next : Rest) → k ≤ next.number → Goes (λ (x : Layout × Rest). x.1) k
        (if b then Ok (ByItem, next) else (if c then Ok (ByVertex, next) else Err (Shape r.number)))
    at true c next p = p
    at false true next p = p
    at false false next p = h

head_goes : (k : ℕ) (r : Rest) → k ≤ r.number → Goes (λ (h : Head). h.rest) k (head_of r)
head_goes k r h =
    goes_on (λ (x : Layout × Rest). x.1) (λ (d : Head). d.rest) k (title_line r) _ (title_goes k r h)
    (λ a p. goes_on (λ (x : ℕ × Rest). x.1) (λ (d : Head). d.rest) k (named_line (codes "number") a.1) _
    (named_goes k (codes "number") a.1 p)
    (λ c q. goes_on (λ (x : ℕ × Rest). x.1) (λ (d : Head). d.rest) k (vertices_head_line c.1)
    (λ n. Ok (record { layout = a.0; number = c.0; vertices = n.0; rest = n.1 })) (vertices_goes k c.1 q) (λ n u. u)))

-- want of memory is no fault of a text
pub never_memory : (bytes : List ℕ) → stated_by bytes ≡ Err Memory → ⊥
never_memory bytes e =
    let r : Rest = record { number = 1; bytes = bytes } in
    let all : Late 1 (stated_by bytes) =
    late_on (λ (d : Head). d.rest) 1 (head_of r) body_of (head_goes 1 r (omega arith)) (λ d p. body_late 1 d p) in
    subst (Late 1) e all
