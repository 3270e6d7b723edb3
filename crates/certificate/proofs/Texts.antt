-- Whole texts, from the text to what it states and back: for `read_certificate` and `law_one_certificate`.
use Rattle.std.specs.Prelude.{◌≡◌, ℕ, zero, suc, ◌+◌, ◌-◌, ◌*◌, ◌<◌, ◌≤◌, ◌^◌, Bool, true, false, not, ◌==◌, ◌&&◌, nat_le, if◌then◌else◌, codes, List, [], ◌∷◌, ◌++◌, map as each, length, Option, Some, None, Result, Ok, Err, IfOk, refl}
use Rattle.std.specs.Option.{option_map}
use Rattle.std.specs.Str.{bytes_eq}
use Rattle.std.specs.FinMap as map
use Rattle.std.proofs.Common.{sym, ◌∙◌, ap, subst, arith, append_assoc}
use Rattle.std.proofs.lemmas.Bool.Decides.{nat_tests}
use Rattle.std.proofs.lemmas.List.{append-nil}
use Rattle.std.proofs.lemmas.Nat.{mul-le}
use Rattle.apsp_model.specs.declared.TheConstants.{MOST_VERTICES}
use Rattle.apsp_model.specs.Graph.{IsEdgeOf, pair_cmp}
use Rattle.apsp_model.specs.Stated.{Stated, Entry, IsEntryOf}
use Rattle.certificate.specs.declared.CertError.{CertError}
use Rattle.certificate.specs.declared.CertError.TheVariants.{Shape, Order, Range}
use Rattle.certificate.specs.declared.lines.Layout.{Layout}
use Rattle.certificate.specs.declared.lines.Layout.TheVariants.{ByItem, ByVertex}
use Rattle.certificate.specs.Groups.{insert_all, groups_of}
use Rattle.certificate.specs.Grammar.{named, edge_line_text, pair_line_text, edge_word_text, pair_word_text, group_text, lines_in, title, head_lines, edge_lines, pair_lines, joined, text_in, IsWritable, IsCertText, first_line}
use Rattle.certificate.specs.Reading.{◌>>=◌, or_shape, Rest, Head, line_at, fixed_line, named_line, title_line, vertices_head_line, count_line, edge_in, pair_in, edge_in_word, pair_in_word, edge_fits, pair_fits, rises, item_line, items_onto, groups_onto, edges_in, pairs_in, closing_line, head_of, table_of, body_of, stated_by}
use Rattle.certificate.specs.Answer.{GivesOrMemory}
use Rattle.certificate.proofs.Cutting.{avoids, cut_again}
use Rattle.certificate.proofs.Spellings.{bound, shaped, passed, ok_same, some_same, same_bytes, line_again, IsLine, line_parts, fixed_again, fixed_parts, named_line_again, IsNamedLine, named_line_parts}
use Rattle.certificate.proofs.Maps.{Rising, rising_from_sorted, EachOf, each_weaker, entries_made, made_again, each_of_map, map_of_each}
use Rattle.certificate.proofs.Counting.{ArePairEnds, few_pairs}
use Rattle.certificate.proofs.Forms.{IsForm, IsItem, edges_form, pairs_form, IsWordForm, edge_words_form, pair_words_form, edge_from_test, edge_test, entry_from_test, entry_test}
use Rattle.certificate.proofs.Parting.{all_of, parted_again, rising_all, IsParted, parted}
use Rattle.certificate.proofs.Words.{AreGroupLines, groups_parts, groups_again}

-- ---- lines that are joined

joined_step : (l : List ℕ) (ls : List (List ℕ)) (t : List ℕ) → joined (l ∷ ls) ++ t ≡ l ++ 10 ∷ (joined ls ++ t)
joined_step l ls t = append_assoc (l ++ 10 ∷ []) (joined ls) t ∙ append_assoc l (10 ∷ []) (joined ls ++ t)

joined_parts : (a b : List (List ℕ)) (t : List ℕ) → joined (a ++ b) ++ t ≡ joined a ++ (joined b ++ t)
joined_parts [] b t = refl
joined_parts (l ∷ a) b t =
    joined_step l (a ++ b) t ∙ ap (λ r. l ++ 10 ∷ r) (joined_parts a b t) ∙ sym (joined_step l a (joined b ++ t))

-- lines behind lines are joined to text behind text
pub joined_append : (a b : List (List ℕ)) → joined (a ++ b) ≡ joined a ++ joined b
joined_append a b =
    sym (append-nil (joined (a ++ b))) ∙ joined_parts a b [] ∙ ap (λ r. joined a ++ r) (append-nil (joined b))

-- ---- the items of a table, a line each

module _ {V : Type 0} (item_in : List ℕ → Option ((ℕ × ℕ) × V)) (fits : (ℕ × ℕ) × V → Bool)
    (line : (ℕ × ℕ) × V → List ℕ) (Few : (ℕ × ℕ) × V → Type 0) (form : IsForm item_in fits line Few) where
  record IsItemLine (before : Option (ℕ × ℕ)) (r : Rest) (e : (ℕ × ℕ) × V) (next : Rest) : Type 0 where
    item : IsItem fits Few e
    up : rises before e.0 ≡ true
    place : IsLine r (line e) next

  item_line_parts : (before : Option (ℕ × ℕ)) (r : Rest) (x : ((ℕ × ℕ) × V) × Rest)
      → item_line item_in fits before r ≡ Ok x → IsItemLine before r x.0 x.1
  item_line_parts before r x h =
      let a = bound (line_at r) (λ l. or_shape (item_in l.0) r.number >>=
      (λ e. if not (fits e) then Err (Range r.number) else
      (if rises before e.0 then Ok (e, l.1) else Err (Order r.number)))) x h in
      let b = bound (or_shape (item_in a.value.0) r.number)
      (λ e. if not (fits e) then Err (Range r.number) else
      (if rises before e.0 then Ok (e, a.value.1) else Err (Order r.number))) x a.second in
      let l : IsLine r a.value.0 a.value.1 = line_parts r a.value a.first in
      let parts = form.parts a.value.0 b.value (shaped (item_in a.value.0) r.number b.value b.first) in
      let P : List ℕ → Type 0 = λ w. IsLine r w a.value.1 in
      tested b.value (fits b.value) refl (rises before b.value.0) refl a.value.1 parts.1 (subst P parts.0 l) b.second
    where
      tested : (e : (ℕ × ℕ) × V) (t : Bool) → fits e ≡ t → (u : Bool) → rises before e.0 ≡ u → (next : Rest) → Few e
          → IsLine r (line e) next → (if not t then Err (Range r.number) else
          (if u then Ok (e, next) else Err (Order r.number))) ≡ Ok x → IsItemLine before r x.0 x.1
      tested e true f true u next few l h =
          let made : IsItemLine before r e next = record { item = record { fit = f; few = few }; up = u; place = l } in
          let P : ((ℕ × ℕ) × V) × Rest → Type 0 = λ y. IsItemLine before r y.0 y.1 in
          let same : ◌≡◌ {A = ((ℕ × ℕ) × V) × Rest} (e, next) x = ok_same (e, next) x h in
          subst P same made
      tested e true f false u next few l h = cc
      tested e false f u v next few l h = cc

  item_line_again : (before : Option (ℕ × ℕ)) (number : ℕ) (e : (ℕ × ℕ) × V) (rest : List ℕ) → IsItem fits Few e
      → rises before e.0 ≡ true → item_line item_in fits before
      (record { number = number; bytes = line e ++ 10 ∷ rest }) ≡ Ok (e, record { number = number + 1; bytes = rest })
  item_line_again before number e rest item up =
      let again = form.again e item.fit item.few in
      ap (λ m. m >>= (λ l. or_shape (item_in l.0) number >>=
      (λ d. if not (fits d) then Err (Range number) else
      (if rises before d.0 then Ok (d, l.1) else Err (Order number))))) (line_again number (line e) rest again.1)
      ∙ ap (λ o. or_shape o number >>= (λ d. if not (fits d) then Err (Range number) else
      (if rises before d.0 then Ok (d, record { number = number + 1; bytes = rest }) else Err (Order number))))
      again.0
      ∙ ap (λ b. if not b then Err (Range number) else
      (if rises before e.0 then Ok (e, record { number = number + 1; bytes = rest }) else Err (Order number)))
      item.fit
      ∙ ap (λ b. if b then Ok (e, record { number = number + 1; bytes = rest }) else Err (Order number)) up

  record AreItems (m : map.FinMap pair_cmp V) (k : ℕ) (before : Option (ℕ × ℕ)) (r : Rest) (n : map.FinMap pair_cmp V)
      (next : Rest) : Type 0 where
    items : List ((ℕ × ℕ) × V)
    count : length items ≡ k
    bytes : r.bytes ≡ joined (each line items) ++ next.bytes
    all : EachOf (IsItem fits Few) items
    rising : Rising before items
    made : n ≡ insert_all m items

  items_parts : (m : map.FinMap pair_cmp V) (k : ℕ) (before : Option (ℕ × ℕ)) (r : Rest)
      (x : map.FinMap pair_cmp V × Rest) → items_onto item_in fits m k before r ≡ Ok x → AreItems m k before r x.0 x.1
  items_parts m zero before r x h =
      let made : AreItems m zero before r m r =
      record { items = []; count = refl; bytes = refl; all = tt; rising = tt; made = refl } in
      let P : map.FinMap pair_cmp V × Rest → Type 0 = λ y. AreItems m zero before r y.0 y.1 in
      let same : ◌≡◌ {A = map.FinMap pair_cmp V × Rest} (m, r) x = ok_same (m, r) x h in
      subst P same made
  items_parts m (suc k) before r x h =
      let a = bound (item_line item_in fits before r)
      (λ e. items_onto item_in fits (map.insert m e.0.0 e.0.1) k (Some e.0.0) e.1) x h in
      let here : IsItemLine before r a.value.0 a.value.1 = item_line_parts before r a.value a.first in
      let later : AreItems (map.insert m a.value.0.0 a.value.0.1) k (Some a.value.0.0) a.value.1 x.0 x.1 =
      items_parts (map.insert m a.value.0.0 a.value.0.1) k (Some a.value.0.0) a.value.1 x a.second in
      record {
        items = a.value.0 ∷ later.items;
        count = ap (λ n. suc n) later.count;
        bytes = here.place.bytes ∙ ap (λ t. line a.value.0 ++ 10 ∷ t) later.bytes
            ∙ sym (joined_step (line a.value.0) (each line later.items) x.1.bytes);
        all = (here.item, later.all);
        rising = (here.up, later.rising);
        made = later.made;
      }

  items_again : (m : map.FinMap pair_cmp V) (es : List ((ℕ × ℕ) × V)) (before : Option (ℕ × ℕ)) (number : ℕ)
      (t : List ℕ) → EachOf (IsItem fits Few) es → Rising before es → (j : ℕ)
      × (items_onto item_in fits m (length es) before (record { number = number; bytes = joined (each line es) ++ t }) ≡
      Ok (insert_all m es, record { number = j; bytes = t }))
  items_again m [] before number t all rising = (number, refl)
  items_again m (e ∷ es) before number t all rising =
      let later = items_again (map.insert m e.0 e.1) es (Some e.0) (number + 1) t all.1 rising.1 in (
        later.0,
        ap (λ b. items_onto item_in fits m (length (e ∷ es)) before (record { number = number; bytes = b }))
            (joined_step (line e) (each line es) t)
            ∙ ap (λ o. o >>= (λ d. items_onto item_in fits (map.insert m d.0.0 d.0.1) (length es) (Some d.0.0) d.1))
            (item_line_again before number e (joined (each line es) ++ t) all.0 rising.0)
            ∙ later.1,
      )

-- ---- a table: a line with the count, and the items

-- so many items were read of their lines
record AreRead {V : Type 0} (lines : List ((ℕ × ℕ) × V) → List (List ℕ)) (P : (ℕ × ℕ) × V → Type 0) (k : ℕ) (r : Rest)
    (m : map.FinMap pair_cmp V) (next : Rest) : Type 0 where
  items : List ((ℕ × ℕ) × V)
  count : length items ≡ k
  bytes : r.bytes ≡ joined (lines items) ++ next.bytes
  all : EachOf P items
  rising : Rising None items
  made : m ≡ insert_all map.empty items

module _ {V : Type 0} (read : ℕ → Rest → Result (map.FinMap pair_cmp V × Rest) CertError)
    (lines : List ((ℕ × ℕ) × V) → List (List ℕ)) (P : (ℕ × ℕ) × V → Type 0) where
  -- the items of a table, whose number stands in the line before theirs
  pub record IsTable (word : List ℕ) (r : Rest) (m : map.FinMap pair_cmp V) (next : Rest) : Type 0 where
    pub items : List ((ℕ × ℕ) × V)
    pub bytes : r.bytes ≡ joined (named word (length items) ∷ lines items) ++ next.bytes
    pub all : EachOf P items
    pub rising : Rising None items
    pub made : m ≡ insert_all map.empty items

  table_parts : ((k : ℕ) (r : Rest) (x : map.FinMap pair_cmp V × Rest) → read k r ≡ Ok x
      → AreRead lines P k r x.0 x.1) → (word : List ℕ) (n : ℕ) (r : Rest) (x : map.FinMap pair_cmp V × Rest)
      → table_of word read n r ≡ Ok x → IsTable word r x.0 x.1
  table_parts parts word n r x h =
      let a = bound (count_line word (n * (n - 1)) r) (λ k. read k.0 k.1) x h in
      let b = bound (named_line word r) (λ k. if nat_le k.0 (n * (n - 1)) then Ok k else Err (Range r.number)) a.value
      a.first in
      let t = passed (nat_le b.value.0 (n * (n - 1))) b.value a.value (Range r.number) b.second in
      let named_here : IsNamedLine word r b.value.0 b.value.1 = named_line_parts word r b.value b.first in
      let Q : ℕ × Rest → Type 0 = λ v. IsNamedLine word r v.0 v.1 in
      let line_is : IsNamedLine word r a.value.0 a.value.1 = subst Q t.1 named_here in
      let items : AreRead lines P a.value.0 a.value.1 x.0 x.1 = parts a.value.0 a.value.1 x a.second in
      record {
        items = items.items;
        bytes = line_is.line.bytes ∙ ap (λ k. named word k ++ 10 ∷ a.value.1.bytes) (sym items.count)
            ∙ ap (λ b. named word (length items.items) ++ 10 ∷ b) items.bytes
            ∙ sym (joined_step (named word (length items.items)) (lines items.items) x.1.bytes);
        all = items.all;
        rising = items.rising;
        made = items.made;
      }

  -- the items are read of their lines, wherever these stand
  abbrev IsReadAgain : List ((ℕ × ℕ) × V) → Type 0
  IsReadAgain es =
      (number : ℕ) (t : List ℕ) → (j : ℕ)
      × (read (length es) (record { number = number; bytes = joined (lines es) ++ t }) ≡ Ok
      (insert_all map.empty es, record { number = j; bytes = t }))

  table_again : (word : List ℕ) (n : ℕ) (es : List ((ℕ × ℕ) × V)) (number : ℕ) (t : List ℕ) → avoids 10 word ≡ true
      → avoids 32 word ≡ true → length es ≤ n * (n - 1) → length es < 10 ^ 18 → IsReadAgain es
      → (j : ℕ) × (table_of word read n
      (record { number = number; bytes = joined (named word (length es) ∷ lines es) ++ t }) ≡ Ok
      (insert_all map.empty es, record { number = j; bytes = t }))
  table_again word n es number t clean one few small again =
      let later = again (number + 1) t in
      let rest : Rest = record { number = number + 1; bytes = joined (lines es) ++ t } in
      let counted : count_line word (n * (n - 1))
      (record { number = number; bytes = named word (length es) ++ 10 ∷ (joined (lines es) ++ t) }) ≡ Ok
      (length es, rest) =
      ap (λ (o : Result (ℕ × Rest) CertError). o >>=
      (λ k. if nat_le k.0 (n * (n - 1)) then Ok k else Err (Range number)))
      (named_line_again number word (length es) (joined (lines es) ++ t) clean one small)
      ∙ tested (nat_le (length es) (n * (n - 1))) (length es, rest) number (within (length es) (n * (n - 1)) few) in (
        later.0,
        ap (λ b. table_of word read n (record { number = number; bytes = b }))
            (joined_step (named word (length es)) (lines es) t)
            ∙ ap (λ (o : Result (ℕ × Rest) CertError). o >>= (λ k. read k.0 k.1)) counted
            ∙ later.1,
      )
    where
      tested : (b : Bool) (x : ℕ × Rest) (number : ℕ) → b ≡ true
          → ◌≡◌ {A = Result (ℕ × Rest) CertError} (if b then Ok x else Err (Range number)) (Ok x)
      tested true x number h = refl
      tested false x number h = cc

      within : (a b : ℕ) → a ≤ b → nat_le a b ≡ true
      within a b h = grind (arith, nat_tests)

-- ---- the items in both layouts

module _ {V : Type 0} (item_in : List ℕ → Option ((ℕ × ℕ) × V)) (in_word : ℕ → List ℕ → Option ((ℕ × ℕ) × V))
    (fits : (ℕ × ℕ) × V → Bool) (line word : (ℕ × ℕ) × V → List ℕ) (Few : (ℕ × ℕ) × V → Type 0)
    (form : IsForm item_in fits line Few) (words : IsWordForm in_word fits word Few) where
  by_item_parts : (k : ℕ) (r : Rest) (x : map.FinMap pair_cmp V × Rest)
      → items_onto item_in fits map.empty k None r ≡ Ok x
      → AreRead (lines_in ByItem line word) (IsItem fits Few) k r x.0 x.1
  by_item_parts k r x h =
      let t : AreItems item_in fits line Few form map.empty k None r x.0 x.1 =
      items_parts item_in fits line Few form map.empty k None r x h in
      record {
        items = t.items;
        count = t.count;
        bytes = t.bytes;
        all = t.all;
        rising = t.rising;
        made = t.made;
      }

  by_vertex_parts : (k : ℕ) (r : Rest) (x : map.FinMap pair_cmp V × Rest)
      → groups_onto in_word fits k map.empty k None r ≡ Ok x
      → AreRead (lines_in ByVertex line word) (IsItem fits Few) k r x.0 x.1
  by_vertex_parts k r x h =
      let t : AreGroupLines in_word fits word Few words map.empty k None r x.0 x.1 =
      groups_parts in_word fits word Few words k map.empty k None r x (omega arith) h in
      record {
        items = all_of t.gs;
        count = t.count;
        bytes = t.bytes ∙ ap (λ gs. joined (each (group_text word) gs) ++ x.1.bytes)
            (sym (parted_again None t.gs t.groups));
        all = t.all;
        rising = rising_all t.gs t.groups;
        made = t.made;
      }

  by_item_again : (es : List ((ℕ × ℕ) × V)) → EachOf (IsItem fits Few) es → Rising None es
      → IsReadAgain (λ k r. items_onto item_in fits map.empty k None r) (lines_in ByItem line word) (IsItem fits Few) es
  by_item_again es all rising number t = items_again item_in fits line Few form map.empty es None number t all rising

  by_vertex_again : (es : List ((ℕ × ℕ) × V)) → EachOf (IsItem fits Few) es → Rising None es
      → IsReadAgain (λ k r. groups_onto in_word fits k map.empty k None r) (lines_in ByVertex line word)
      (IsItem fits Few) es
  by_vertex_again es all rising number t =
      let p : IsParted es = parted es rising in
      let again = groups_again in_word fits word Few words (length es) map.empty (length es) None number t (groups_of es)
      p.groups (subst (EachOf (IsItem fits Few)) (sym p.all) all) (ap length p.all) (omega arith) in (
        again.0,
        again.1 ∙ ap (λ l. Ok (insert_all map.empty l, record { number = again.0; bytes = t })) p.all,
      )

-- ---- the head

record IsHead (r : Rest) (h : Head) : Type 0 where
  bytes : r.bytes ≡ joined (title h.layout ∷ named (codes "number") h.number ∷ named (codes "vertices") h.vertices
      ∷ []) ++ h.rest.bytes
  small : h.number < 10 ^ 18
  some : 1 ≤ h.vertices
  most : h.vertices ≤ MOST_VERTICES

vertices_parts : (r : Rest) (x : ℕ × Rest) → vertices_head_line r ≡ Ok x → IsNamedLine (codes "vertices") r x.0 x.1
    × (1 ≤ x.0) × (x.0 ≤ MOST_VERTICES)
vertices_parts r x h =
    let b = bound (named_line (codes "vertices") r)
    (λ n. if nat_le 1 n.0 && nat_le n.0 MOST_VERTICES then Ok n else Err (Range r.number)) x h in
    let t = passed (nat_le 1 b.value.0 && nat_le b.value.0 MOST_VERTICES) b.value x (Range r.number) b.second in
    let line : IsNamedLine (codes "vertices") r b.value.0 b.value.1 =
    named_line_parts (codes "vertices") r b.value b.first in
    let P : ℕ × Rest → Type 0 = λ v. IsNamedLine (codes "vertices") r v.0 v.1 × (1 ≤ v.0) × (v.0 ≤ MOST_VERTICES) in
    let w = within b.value.0 t.0 in
    subst P t.1 (line, w.0, w.1)
  where
    within : (n : ℕ) → (nat_le 1 n && nat_le n MOST_VERTICES) ≡ true → (1 ≤ n) × (n ≤ MOST_VERTICES)
    within n t = (grind (arith, nat_tests), grind (arith, nat_tests))

title_parts : (r : Rest) (x : Layout × Rest) → title_line r ≡ Ok x → IsLine r (title x.0) x.1
title_parts r x h =
    let a = bound (line_at r) (λ l. if bytes_eq l.0 (title ByItem) then Ok (ByItem, l.1) else
    (if bytes_eq l.0 (title ByVertex) then Ok (ByVertex, l.1) else Err (Shape r.number))) x h in
    at a.value.0 a.value.1 (bytes_eq a.value.0 (title ByItem)) refl (bytes_eq a.value.0 (title ByVertex)) refl
    (line_parts r a.value a.first) a.second
  where
    made : (l : Layout) (line : List ℕ) (next : Rest) → line ≡ title l → IsLine r line next
        → ◌≡◌ {A = Result (Layout × Rest) CertError} (Ok (l, next)) (Ok x) → IsLine r (title x.0) x.1
    made l line next same place h =
        let P : Layout × Rest → Type 0 = λ y. IsLine r (title y.0) y.1 in
        let Q : List ℕ → Type 0 = λ w. IsLine r w next in
        subst P (ok_same (l, next) x h) (subst Q same place)

    at : (w : List ℕ) (next : Rest) (b : Bool) → bytes_eq w (title ByItem) ≡ b → (c : Bool)
        → bytes_eq w (title ByVertex) ≡ c → IsLine r w next
        → (if b then Ok (ByItem, next) else (if c then Ok (ByVertex, next) else Err (Shape r.number))) ≡ Ok x
        → IsLine r (title x.0) x.1
    at w next true t c u place h = made ByItem w next (same_bytes w (title ByItem) t) place h
    at w next false t true u place h = made ByVertex w next (same_bytes w (title ByVertex) u) place h
    at w next false t false u place h = cc

head_parts : (r : Rest) (h : Head) → head_of r ≡ Ok h → IsHead r h
head_parts r h e =
    let a = bound (title_line r) (λ a. named_line (codes "number") a.1 >>=
    (λ k. vertices_head_line k.1 >>= (λ n. Ok
    (record { layout = a.0; number = k.0; vertices = n.0; rest = n.1 })))) h e in
    let l : Layout = a.value.0 in
    let k = bound (named_line (codes "number") a.value.1)
    (λ k. vertices_head_line k.1 >>= (λ n. Ok (record { layout = l; number = k.0; vertices = n.0; rest = n.1 }))) h
    a.second in
    let n = bound (vertices_head_line k.value.1)
    (λ n. Ok (record { layout = l; number = k.value.0; vertices = n.0; rest = n.1 })) h k.second in
    let first : IsLine r (title l) a.value.1 = title_parts r a.value a.first in
    let second : IsNamedLine (codes "number") a.value.1 k.value.0 k.value.1 =
    named_line_parts (codes "number") a.value.1 k.value k.first in
    let third = vertices_parts k.value.1 n.value n.first in
    let made : IsHead r (record { layout = l; number = k.value.0; vertices = n.value.0; rest = n.value.1 }) = record {
      bytes = first.bytes ∙ ap (λ t. title l ++ 10 ∷ t)
          (second.line.bytes ∙ ap (λ t. named (codes "number") k.value.0 ++ 10 ∷ t) third.0.line.bytes)
          ∙ sym (three (title l) (named (codes "number") k.value.0) (named (codes "vertices") n.value.0)
          n.value.1.bytes);
      small = second.small;
      some = third.1;
      most = third.2;
    } in
    subst (IsHead r) (ok_same _ h n.second) made
  where
    three : (a b c t : List ℕ) → joined (a ∷ b ∷ c ∷ []) ++ t ≡ a ++ 10 ∷ (b ++ 10 ∷ (c ++ 10 ∷ t))
    three a b c t =
        joined_step a (b ∷ c ∷ []) t ∙ ap (λ r. a ++ 10 ∷ r)
        (joined_step b (c ∷ []) t ∙ ap (λ r. b ++ 10 ∷ r) (joined_step c [] t))

end_parts : (r : Rest) (u : Unit {0}) → closing_line r ≡ Ok u → r.bytes ≡ codes "end" ++ 10 ∷ []
end_parts r u e =
    let a = bound (fixed_line (codes "end") r) (λ n. if length n.bytes == 0 then Ok tt else Err (Shape n.number)) u e in
    let line : IsLine r (codes "end") a.value = fixed_parts (codes "end") r a.value a.first in
    let t = passed (length a.value.bytes == 0) tt u (Shape a.value.number) a.second in
    line.bytes ∙ ap (λ b. codes "end" ++ 10 ∷ b) (empty a.value.bytes t.0)
  where
    empty : (b : List ℕ) → (length b == 0) ≡ true → b ≡ []
    empty [] h = refl
    empty (x ∷ b) h = absurd (grind (arith, nat_tests))

-- ---- the text in four blocks

blocks : (a b c d : List (List ℕ)) → joined (a ++ (b ++ (c ++ d))) ≡ joined a ++ (joined b ++ (joined c ++ joined d))
blocks a b c d =
    sym (append-nil (joined (a ++ (b ++ (c ++ d)))))
    ∙ joined_parts a (b ++ (c ++ d)) []
    ∙ ap (λ r. joined a ++ r) (joined_parts b (c ++ d) []
    ∙ ap (λ r. joined b ++ r) (joined_parts c d [] ∙ ap (λ r. joined c ++ r) (append-nil (joined d))))

-- the text of a stated value is its head, its edges, its pairs and the last line
pub text_blocks : (l : Layout) (s : Stated) → text_in l s ≡ joined (head_lines l s)
    ++ (joined (edge_lines l s) ++ (joined (pair_lines l s) ++ (codes "end" ++ 10 ∷ [])))
text_blocks l s = blocks (head_lines l s) (edge_lines l s) (pair_lines l s) (codes "end" ∷ [])

-- ---- from the text to what it states

abbrev edge_lines_of : Layout → List ((ℕ × ℕ) × ℕ) → List (List ℕ)
edge_lines_of l items = lines_in l edge_line_text edge_word_text items

abbrev pair_lines_of : Layout → List ((ℕ × ℕ) × Entry) → List (List ℕ)
pair_lines_of l items = lines_in l pair_line_text pair_word_text items

module _ (n : ℕ) (most : n ≤ MOST_VERTICES) (some : 1 ≤ n) where
  abbrev EdgeItem : (ℕ × ℕ) × ℕ → Type 0
  EdgeItem e = IsItem (edge_fits n) (λ _. Unit {0}) e

  abbrev PairItem : (ℕ × ℕ) × Entry → Type 0
  PairItem e = IsItem (pair_fits n) (λ e. e.1.dist < 10 ^ 18) e

  edges_parts : (l : Layout) (k : ℕ) (r : Rest) (x : map.FinMap pair_cmp ℕ × Rest) → edges_in l n k r ≡ Ok x
      → AreRead (edge_lines_of l) EdgeItem k r x.0 x.1
  edges_parts ByItem k r x h =
      by_item_parts edge_in edge_in_word (edge_fits n) edge_line_text edge_word_text (λ _. Unit {0})
      (edges_form n most) (edge_words_form n most) k r x h
  edges_parts ByVertex k r x h =
      by_vertex_parts edge_in edge_in_word (edge_fits n) edge_line_text edge_word_text (λ _. Unit {0})
      (edges_form n most) (edge_words_form n most) k r x h

  pairs_parts : (l : Layout) (k : ℕ) (r : Rest) (x : map.FinMap pair_cmp Entry × Rest) → pairs_in l n k r ≡ Ok x
      → AreRead (pair_lines_of l) PairItem k r x.0 x.1
  pairs_parts ByItem k r x h =
      by_item_parts pair_in pair_in_word (pair_fits n) pair_line_text pair_word_text (λ e. e.1.dist < 10 ^ 18)
      (pairs_form n most) (pair_words_form n most) k r x h
  pairs_parts ByVertex k r x h =
      by_vertex_parts pair_in pair_in_word (pair_fits n) pair_line_text pair_word_text (λ e. e.1.dist < 10 ^ 18)
      (pairs_form n most) (pair_words_form n most) k r x h

  edges_read_again : (l : Layout) (es : List ((ℕ × ℕ) × ℕ)) → EachOf EdgeItem es → Rising None es
      → IsReadAgain (edges_in l n) (edge_lines_of l) EdgeItem es
  edges_read_again ByItem es all rising =
      by_item_again edge_in edge_in_word (edge_fits n) edge_line_text edge_word_text (λ _. Unit {0})
      (edges_form n most) (edge_words_form n most) es all rising
  edges_read_again ByVertex es all rising =
      by_vertex_again edge_in edge_in_word (edge_fits n) edge_line_text edge_word_text (λ _. Unit {0})
      (edges_form n most) (edge_words_form n most) es all rising

  pairs_read_again : (l : Layout) (es : List ((ℕ × ℕ) × Entry)) → EachOf PairItem es → Rising None es
      → IsReadAgain (pairs_in l n) (pair_lines_of l) PairItem es
  pairs_read_again ByItem es all rising =
      by_item_again pair_in pair_in_word (pair_fits n) pair_line_text pair_word_text (λ e. e.1.dist < 10 ^ 18)
      (pairs_form n most) (pair_words_form n most) es all rising
  pairs_read_again ByVertex es all rising =
      by_vertex_again pair_in pair_in_word (pair_fits n) pair_line_text pair_word_text (λ e. e.1.dist < 10 ^ 18)
      (pairs_form n most) (pair_words_form n most) es all rising

  record IsBlock {V : Type 0} (word : List ℕ) (lines : List ((ℕ × ℕ) × V) → List (List ℕ)) (P : (ℕ × ℕ) × V → Type 0)
      (r : Rest) (m : map.FinMap pair_cmp V) (next : Rest) : Type 0 where
    bytes : r.bytes ≡ joined (named word (map.len m) ∷ lines (map.entries m)) ++ next.bytes
    all : (q : ℕ × ℕ) (v : V) → map.get m q ≡ Some v → P (q, v)

  block : {V : Type 0} (word : List ℕ) (lines : List ((ℕ × ℕ) × V) → List (List ℕ)) (P : (ℕ × ℕ) × V → Type 0) (r : Rest)
      (m : map.FinMap pair_cmp V) (next : Rest) (items : List ((ℕ × ℕ) × V))
      → r.bytes ≡ joined (named word (length items) ∷ lines items) ++ next.bytes → EachOf P items
      → Rising None items → m ≡ insert_all map.empty items → IsBlock word lines P r m next
  block word lines P r m next items bytes all rising made =
      let same : map.entries m ≡ items = ap map.entries made ∙ entries_made items rising in
      let count : map.len m ≡ length items = map.len-entries m ∙ ap length same in
      record {
        bytes = bytes ∙ ap (λ k. joined (named word k ∷ lines items) ++ next.bytes) (sym count)
            ∙ ap (λ es. joined (named word (map.len m) ∷ lines es) ++ next.bytes) (sym same);
        all = map_of_each P m (subst (EachOf P) (sym same) all);
      }

  edges_block : (l : Layout) (r : Rest) (x : map.FinMap pair_cmp ℕ × Rest)
      → table_of (codes "edges") (edges_in l n) n r ≡ Ok x
      → IsBlock (codes "edges") (edge_lines_of l) (λ e. IsEdgeOf n e.0.0 e.0.1 e.1) r x.0 x.1
  edges_block l r x h =
      let t : IsTable (edges_in l n) (edge_lines_of l) EdgeItem (codes "edges") r x.0 x.1 =
      table_parts (edges_in l n) (edge_lines_of l) EdgeItem (edges_parts l) (codes "edges") n r x h in
      block (codes "edges") (edge_lines_of l) (λ e. IsEdgeOf n e.0.0 e.0.1 e.1) r x.0 x.1 t.items t.bytes
      (each_weaker EdgeItem (λ e. IsEdgeOf n e.0.0 e.0.1 e.1) t.items (λ e i. edge_from_test n e i.fit) t.all) t.rising
      t.made

  record IsFewEntry (e : (ℕ × ℕ) × Entry) : Type 0 where
    entry : IsEntryOf n e.0.0 e.0.1 e.1
    few : e.1.dist < 10 ^ 18

  pairs_block : (l : Layout) (r : Rest) (x : map.FinMap pair_cmp Entry × Rest)
      → table_of (codes "pairs") (pairs_in l n) n r ≡ Ok x
      → IsBlock (codes "pairs") (pair_lines_of l) IsFewEntry r x.0 x.1
  pairs_block l r x h =
      let t : IsTable (pairs_in l n) (pair_lines_of l) PairItem (codes "pairs") r x.0 x.1 =
      table_parts (pairs_in l n) (pair_lines_of l) PairItem (pairs_parts l) (codes "pairs") n r x h in
      block (codes "pairs") (pair_lines_of l) IsFewEntry r x.0 x.1 t.items t.bytes
      (each_weaker PairItem IsFewEntry t.items (λ e i. record { entry = entry_from_test n e i.fit; few = i.few }) t.all)
      t.rising t.made

body_text : (h : Head) (s : Stated) (bytes : List ℕ) → h.number < 10 ^ 18 → 1 ≤ h.vertices → h.vertices ≤ MOST_VERTICES
    → bytes ≡ joined (title h.layout ∷ named (codes "number") h.number ∷ named (codes "vertices") h.vertices ∷ [])
    ++ h.rest.bytes → body_of h ≡ Ok s → IsCertText s bytes
body_text h s bytes small some most front e =
    let n = h.vertices in
    let l : Layout = h.layout in
    let E = bound (table_of (codes "edges") (edges_in l n) n h.rest)
    (λ es. table_of (codes "pairs") (pairs_in l n) n es.1 >>=
    (λ ps. closing_line ps.1 >>= (λ _. Ok
    (record { number = h.number; graph = record { vertices = n; edges = es.0 }; entries = ps.0 })))) s e in
    let P = bound (table_of (codes "pairs") (pairs_in l n) n E.value.1)
    (λ ps. closing_line ps.1 >>= (λ _. Ok
    (record { number = h.number; graph = record { vertices = n; edges = E.value.0 }; entries = ps.0 }))) s E.second
    in
    let D = bound (closing_line P.value.1)
    (λ _. Ok (record {
      number = h.number;
      graph = record { vertices = n; edges = E.value.0 };
      entries = P.value.0;
    })) s P.second in
    let edges = edges_block n most some l h.rest E.value E.first in
    let pairs = pairs_block n most some l E.value.1 P.value P.first in
    let end = end_parts P.value.1 D.value D.first in
    subst (λ v. IsCertText v bytes) (ok_same _ s D.second) (record {
      layout = l;
      writable = record {
        range = record {
          graph = record { some = some; most = most; edges = λ u v w f. edges.all (u, v) w f };
          entries = λ x y d f. (pairs.all (x, y) d f).entry;
        };
        number = small;
        dists = λ x y d f. (pairs.all (x, y) d f).few;
      };
      text = front ∙ ap (λ r. joined (title l ∷ named (codes "number") h.number ∷ named (codes "vertices") n ∷ []) ++ r)
          (edges.bytes ∙ ap (λ r. joined (named (codes "edges") (map.len E.value.0)
          ∷ edge_lines_of l (map.entries E.value.0)) ++ r) (pairs.bytes
          ∙ ap (λ r. joined (named (codes "pairs") (map.len P.value.0) ∷ pair_lines_of l (map.entries P.value.0))
          ++ r) end))
          ∙ sym (text_blocks l (record {
            number = h.number;
            graph = record { vertices = n; edges = E.value.0 };
            entries = P.value.0;
          }));
    })

-- what is read from a text has that text
pub text_parts : (bytes : List ℕ) (s : Stated) → stated_by bytes ≡ Ok s → IsCertText s bytes
text_parts bytes s e =
    let H = bound (head_of (record { number = 1; bytes = bytes })) body_of s e in
    let head = head_parts (record { number = 1; bytes = bytes }) H.value H.first in
    body_text H.value s bytes head.small head.some head.most head.bytes H.second

-- ---- from what is stated to its text

title_again : (l : Layout) (number : ℕ) (rest : List ℕ)
    → title_line (record { number = number; bytes = title l ++ 10 ∷ rest }) ≡ Ok
    (l, record { number = number + 1; bytes = rest })
title_again ByItem number rest =
    ap (λ m. m >>= (λ l. if bytes_eq l.0 (title ByItem) then Ok (ByItem, l.1) else
    (if bytes_eq l.0 (title ByVertex) then Ok (ByVertex, l.1) else Err (Shape number))))
    (line_again number (title ByItem) rest refl)
title_again ByVertex number rest =
    ap (λ m. m >>= (λ l. if bytes_eq l.0 (title ByItem) then Ok (ByItem, l.1) else
    (if bytes_eq l.0 (title ByVertex) then Ok (ByVertex, l.1) else Err (Shape number))))
    (line_again number (title ByVertex) rest refl)

head_again : (l : Layout) (k n : ℕ) (t : List ℕ) → k < 10 ^ 18 → 1 ≤ n → n ≤ MOST_VERTICES
    → head_of (record {
      number = 1;
      bytes = joined (title l ∷ named (codes "number") k ∷ named (codes "vertices") n ∷ []) ++ t;
    }) ≡ Ok
    (record { layout = l; number = k; vertices = n; rest = record { number = 4; bytes = t } })
head_again l k n t small some most =
    let third : vertices_head_line (record { number = 3; bytes = named (codes "vertices") n ++ 10 ∷ t }) ≡ Ok
    (n, record { number = 4; bytes = t }) =
    ap (λ (o : Result (ℕ × Rest) CertError). o >>=
    (λ n. if nat_le 1 n.0 && nat_le n.0 MOST_VERTICES then Ok n else Err (Range 3)))
    (named_line_again 3 (codes "vertices") n t refl refl (omega (arith, most)))
    ∙ tested (nat_le 1 n && nat_le n MOST_VERTICES) (n, record { number = 4; bytes = t }) (within n some most) in
    ap (λ b. head_of (record { number = 1; bytes = b }))
    (three (title l) (named (codes "number") k) (named (codes "vertices") n) t)
    ∙ ap (λ (o : Result (Layout × Rest) CertError). o >>=
    (λ a. named_line (codes "number") a.1 >>=
    (λ k. vertices_head_line k.1 >>= (λ n. Ok
    (record { layout = a.0; number = k.0; vertices = n.0; rest = n.1 })))))
    (title_again l 1 (named (codes "number") k ++ 10 ∷ (named (codes "vertices") n ++ 10 ∷ t)))
    ∙ ap (λ (o : Result (ℕ × Rest) CertError). o >>=
    (λ k. vertices_head_line k.1 >>= (λ n. Ok (record { layout = l; number = k.0; vertices = n.0; rest = n.1 }))))
    (named_line_again 2 (codes "number") k (named (codes "vertices") n ++ 10 ∷ t) refl refl small)
    ∙ ap (λ (o : Result (ℕ × Rest) CertError). o >>= (λ n. Ok
    (record { layout = l; number = k; vertices = n.0; rest = n.1 })))
    third
  where
    three : (a b c t : List ℕ) → joined (a ∷ b ∷ c ∷ []) ++ t ≡ a ++ 10 ∷ (b ++ 10 ∷ (c ++ 10 ∷ t))
    three a b c t =
        joined_step a (b ∷ c ∷ []) t ∙ ap (λ r. a ++ 10 ∷ r)
        (joined_step b (c ∷ []) t ∙ ap (λ r. b ++ 10 ∷ r) (joined_step c [] t))

    tested : (b : Bool) (x : ℕ × Rest) → b ≡ true
        → ◌≡◌ {A = Result (ℕ × Rest) CertError} (if b then Ok x else Err (Range 3)) (Ok x)
    tested true x h = refl
    tested false x h = cc

    within : (n : ℕ) → 1 ≤ n → n ≤ MOST_VERTICES → (nat_le 1 n && nat_le n MOST_VERTICES) ≡ true
    within n p q = grind (arith, nat_tests)

end_again : (number : ℕ) → closing_line (record { number = number; bytes = codes "end" ++ 10 ∷ [] }) ≡ Ok tt
end_again number =
    ap (λ (o : Result Rest CertError). o >>= (λ e. if length e.bytes == 0 then Ok tt else Err (Shape e.number)))
    (fixed_again number (codes "end") [] refl)

few_digits : (n k : ℕ) → n ≤ MOST_VERTICES → k ≤ n * (n - 1) → k < 10 ^ 18
few_digits n k most few =
    omega (arith, most, few, mul-le n (n - 1) MOST_VERTICES MOST_VERTICES most (omega (arith, most)))

edges_again : (l : Layout) (s : Stated) (number : ℕ) (t : List ℕ) → IsWritable s → (j : ℕ)
    × (table_of (codes "edges") (edges_in l s.graph.vertices) s.graph.vertices
    (record { number = number; bytes = joined (edge_lines l s) ++ t }) ≡ Ok
    (s.graph.edges, record { number = j; bytes = t }))
edges_again l s number t w =
    let n = s.graph.vertices in
    let most = w.range.graph.most in
    let some = w.range.graph.some in
    let es = map.entries s.graph.edges in
    let rising : Rising None es = rising_from_sorted es (map.entries_sorted s.graph.edges) in
    let edges : EachOf (λ e. IsEdgeOf n e.0.0 e.0.1 e.1) es =
    each_of_map (λ e. IsEdgeOf n e.0.0 e.0.1 e.1) s.graph.edges (λ q v f. w.range.graph.edges q.0 q.1 v f) in
    let few : length es ≤ n * (n - 1) =
    few_pairs n es (each_weaker (λ e. IsEdgeOf n e.0.0 e.0.1 e.1) (λ e. ArePairEnds n e.0) es
    (λ e i. record { from = i.from; to = i.to; apart = i.apart }) edges) rising in
    let again =
    table_again (edges_in l n) (edge_lines_of l) (EdgeItem n most some) (codes "edges") n es number t refl refl few
    (few_digits n (length es) most few) (edges_read_again n most some l es
    (each_weaker (λ e. IsEdgeOf n e.0.0 e.0.1 e.1) (EdgeItem n most some) es
    (λ e i. record { fit = edge_test n e i; few = tt }) edges) rising) in (
      again.0,
      ap (λ k. table_of (codes "edges") (edges_in l n) n
          (record { number = number; bytes = joined (named (codes "edges") k ∷ edge_lines_of l es) ++ t }))
          (map.len-entries s.graph.edges)
          ∙ again.1
          ∙ ap (λ (m : map.FinMap pair_cmp ℕ). Ok (m, record { number = again.0; bytes = t }))
          (made_again s.graph.edges),
    )

pairs_again : (l : Layout) (s : Stated) (number : ℕ) (t : List ℕ) → IsWritable s → (j : ℕ)
    × (table_of (codes "pairs") (pairs_in l s.graph.vertices) s.graph.vertices
    (record { number = number; bytes = joined (pair_lines l s) ++ t }) ≡ Ok
    (s.entries, record { number = j; bytes = t }))
pairs_again l s number t w =
    let n = s.graph.vertices in
    let most = w.range.graph.most in
    let some = w.range.graph.some in
    let es = map.entries s.entries in
    let rising : Rising None es = rising_from_sorted es (map.entries_sorted s.entries) in
    let pairs : EachOf (IsFewEntry n most some) es =
    each_of_map (IsFewEntry n most some) s.entries
    (λ q v f. record { entry = w.range.entries q.0 q.1 v f; few = w.dists q.0 q.1 v f }) in
    let few : length es ≤ n * (n - 1) =
    few_pairs n es (each_weaker (IsFewEntry n most some) (λ e. ArePairEnds n e.0) es
    (λ e i. record { from = i.entry.from; to = i.entry.to; apart = i.entry.apart }) pairs) rising in
    let again =
    table_again (pairs_in l n) (pair_lines_of l) (PairItem n most some) (codes "pairs") n es number t refl refl few
    (few_digits n (length es) most few) (pairs_read_again n most some l es
    (each_weaker (IsFewEntry n most some) (PairItem n most some) es
    (λ e i. record { fit = entry_test n e i.entry; few = i.few }) pairs) rising) in (
      again.0,
      ap (λ k. table_of (codes "pairs") (pairs_in l n) n
          (record { number = number; bytes = joined (named (codes "pairs") k ∷ pair_lines_of l es) ++ t }))
          (map.len-entries s.entries)
          ∙ again.1
          ∙ ap (λ (m : map.FinMap pair_cmp Entry). Ok (m, record { number = again.0; bytes = t }))
          (made_again s.entries),
    )

body_again : (l : Layout) (s : Stated) → IsWritable s → body_of
    (record {
      layout = l;
      number = s.number;
      vertices = s.graph.vertices;
      rest = record
          { number = 4; bytes = joined (edge_lines l s) ++ (joined (pair_lines l s) ++ (codes "end" ++ 10 ∷ [])) };
    }) ≡ Ok s
body_again l s w =
    let n = s.graph.vertices in
    let edges = edges_again l s 4 (joined (pair_lines l s) ++ (codes "end" ++ 10 ∷ [])) w in
    let pairs = pairs_again l s edges.0 (codes "end" ++ 10 ∷ []) w in
    ap (λ (o : Result (map.FinMap pair_cmp ℕ × Rest) CertError). o >>=
    (λ es. table_of (codes "pairs") (pairs_in l n) n es.1 >>=
    (λ ps. closing_line ps.1 >>= (λ _. Ok
    (record { number = s.number; graph = record { vertices = n; edges = es.0 }; entries = ps.0 }))))) edges.1
    ∙ ap (λ (o : Result (map.FinMap pair_cmp Entry × Rest) CertError). o >>=
    (λ ps. closing_line ps.1 >>= (λ _. Ok
    (record { number = s.number; graph = record { vertices = n; edges = s.graph.edges }; entries = ps.0 }))))
    pairs.1
    ∙ ap (λ (o : Result (Unit {0}) CertError). o >>=
    (λ _. Ok (record {
      number = s.number;
      graph = record { vertices = n; edges = s.graph.edges };
      entries = s.entries;
    }))) (end_again pairs.0)

pub text_again : (l : Layout) (s : Stated) → IsWritable s → stated_by (text_in l s) ≡ Ok s
text_again l s w =
    ap stated_by (text_blocks l s)
    ∙ ap (λ (o : Result Head CertError). o >>= body_of)
    (head_again l s.number s.graph.vertices
    (joined (edge_lines l s) ++ (joined (pair_lines l s) ++ (codes "end" ++ 10 ∷ []))) w.number w.range.graph.some
    w.range.graph.most)
    ∙ body_again l s w

-- .. and from its text a stated value is read
pub cert_again : (s : Stated) (bytes : List ℕ) → IsCertText s bytes → stated_by bytes ≡ Ok s
cert_again s bytes h = ap stated_by h.text ∙ text_again h.layout s h.writable

-- a text states one value
pub one_stated : (s t : Stated) (bytes : List ℕ) → IsCertText s bytes → IsCertText t bytes → s ≡ t
one_stated s t bytes h k = ok_same s t (sym (cert_again s bytes h) ∙ cert_again t bytes k)

-- ---- texts of one value

-- the first line of a text is its layout's
first_is : (l : Layout) (s : Stated) → first_line (text_in l s) ≡ Some (title l)
first_is l s =
    let rest : List ℕ =
    joined (named (codes "number") s.number ∷ named (codes "vertices") s.graph.vertices
    ∷ (edge_lines l s ++ (pair_lines l s ++ codes "end" ∷ []))) in
    ap first_line (append_assoc (title l) (10 ∷ []) rest)
    ∙ ap (option_map (λ (p : List ℕ × List ℕ). p.0)) (cut_again 10 (title l) rest (no_newline l))
  where
    no_newline : (l : Layout) → avoids 10 (title l) ≡ true
    no_newline ByItem = refl
    no_newline ByVertex = refl

apart : true ≡ false → ⊥
apart e = cc

titles_differ : title ByItem ≡ title ByVertex → ⊥
titles_differ e = apart (ap (λ w. bytes_eq w (title ByItem)) e)

one_layout : (l k : Layout) → ◌≡◌ {A = Option (List ℕ)} (Some (title l)) (Some (title k)) → l ≡ k
one_layout ByItem ByItem h = refl
one_layout ByItem ByVertex h = absurd (titles_differ (some_same (title ByItem) (title ByVertex) h))
one_layout ByVertex ByItem h = absurd (titles_differ (sym (some_same (title ByVertex) (title ByItem) h)))
one_layout ByVertex ByVertex h = refl

-- two texts of a value with one first line are the same
pub one_text : (s : Stated) (a b : List ℕ) → IsCertText s a → IsCertText s b → first_line a ≡ first_line b → a ≡ b
one_text s a b h k same =
    let layouts : h.layout ≡ k.layout = one_layout h.layout k.layout
    (sym (ap first_line h.text ∙ first_is h.layout s) ∙ same ∙ ap first_line k.text ∙ first_is k.layout s) in
    h.text ∙ ap (λ l. text_in l s) layouts ∙ sym k.text

-- ---- from the exact answer to the grammar

-- what is found is what the text states
pub found_is : (bytes : List ℕ) (r : Result Stated CertError) → GivesOrMemory (λ s. s) r (stated_by bytes)
    → IfOk r (λ s. IsCertText s bytes)
found_is bytes (Ok s) h = text_parts bytes s h
found_is bytes (Err e) h = tt

-- a text of s is found to state s, or memory ran out
pub only_is : (bytes : List ℕ) (r : Result Stated CertError) → GivesOrMemory (λ s. s) r (stated_by bytes) → (s : Stated)
    → IsCertText s bytes → GivesOrMemory (λ s. s) r (Ok s)
only_is bytes r h s text = subst (GivesOrMemory (λ s. s) r) (cert_again s bytes text) h
