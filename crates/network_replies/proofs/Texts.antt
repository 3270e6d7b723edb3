-- Replies that are written part by part.
use Rattle.std.proofs.Common.{◌≡◌, ℕ, ◌+◌, List, [], ◌∷◌, ◌++◌, refl, sym, ap, subst, ◌∙◌, arith, append_assoc, append-nil}
use Rattle.std.specs.Prelude.{Option, Some, None, Result, Ok, Err, OnOk, MatchOption, is_ok, if◌then◌else◌, codes}
use Rattle.std.specs.List.{flat_map}
use Rattle.std.specs.Fmt.{decimal}
use Rattle.std.proofs.Math.Utf8.{encode}
use Rattle.std.proofs.lemmas.Str.{encode_ascii}
use Rattle.std.proofs.lemmas.List.{flat_map_more}
use Rattle.std.proofs.lemmas.List.Concat.{flat_map-cons}
use Rattle.apsp_model.specs.Graph.{Graph}
use Rattle.apsp_model.specs.Command.{Command}
use Rattle.apsp_model.specs.Counts.{Counts, CountsAre}
use Rattle.apsp_model.specs.Kept.{IsKept, HasBirth}
use Rattle.apsp_model.specs.Least.{LeastIs}
use Rattle.path_arena.specs.Arena.{list_of, weight_of_id}
use Rattle.path_reports.specs.declared.reports.Summary.{Summary}
use Rattle.history_engine.specs.Seen.{EngineSeen}
use Rattle.history_engine.specs.Advance.{Stands}
use Rattle.history_engine.specs.Least.{LeastPath, IsLeastPath}
use Rattle.network_replies.specs.Age.{IsBirth, IsAgeReply}
use Rattle.network_replies.specs.Distance.{IsDistance, AreDistances, IsRowReply}
use Rattle.network_replies.specs.Growing.{GrowsBy}
use Rattle.network_replies.specs.Path.{IsPathReply}
use Rattle.network_replies.specs.Stats.{IsStatsReply}
use Rattle.network_replies.specs.Replies.{number_text, entry_text, row_text, walk_text, path_text, stats_text, age_text, radius_text, report_text}
use Rattle.network_replies.proofs.Rows.{IsFirstRow, row_more, row_none}

-- one number more of those that are left
pub numbers_more : (text more : List ℕ) (v : ℕ) (rest left whole : List ℕ) → left ≡ v ∷ rest → more ≡ text
    ++ number_text v → text ++ flat_map number_text left ≡ whole → more ++ flat_map number_text rest ≡ whole
numbers_more text more v rest left whole is put h =
    ap (λ z. z ++ flat_map number_text rest) put
    ∙ append_assoc text (number_text v) (flat_map number_text rest)
    ∙ ap (λ z. text ++ z) (sym (flat_map-cons number_text v rest))
    ∙ ap (λ z. text ++ flat_map number_text z) (sym is)
    ∙ h

pub numbers_all : (text left whole : List ℕ) → left ≡ [] → text ++ flat_map number_text left ≡ whole → text ≡ whole
numbers_all text left whole none h = sym (append-nil text) ∙ ap (λ z. text ++ flat_map number_text z) (sym none) ∙ h

-- a walk behind its weight
pub walk_put : (text front mid old left list : List ℕ) (w d : ℕ) → text ≡ front ++ flat_map number_text left → mid ≡ old
    ++ number_text w → front ≡ mid ++ codes " walk" → left ≡ list → w ≡ d → text ≡ old ++ number_text d ++ codes " walk"
    ++ flat_map number_text list
walk_put text front mid old left list w d whole number put vertices weight =
    whole ∙ (λ i. put i ++ flat_map number_text (vertices i))
    ∙ (λ i. (number i ++ codes " walk") ++ flat_map number_text list)
    ∙ ap (λ k. ((old ++ number_text k) ++ codes " walk") ++ flat_map number_text list) weight ∙ simp append_assoc

-- the least walk, as it is written
pub least_put : {E : Type 0} (r : Result (Unit {0}) E) (seen e : EngineSeen) (x y : ℕ) (l : LeastPath)
    (old new : List ℕ) → e ≡ seen → IsLeastPath e x y l
    → OnOk r (new ≡ old ++ number_text (weight_of_id l.book.arena l.id) ++ codes " walk"
    ++ flat_map number_text (list_of l.book.arena l.id))
    → OnOk r ((walk : Option (List ℕ)) × LeastIs seen.graph x y walk × (new ≡ old ++ walk_text seen.graph walk))
least_put (Err error) seen e x y l old new same least text = tt
least_put (Ok u) seen e x y l old new same least text =
    let F : EngineSeen → Type 0 =
    λ z. (walk : Option (List ℕ)) × LeastIs z.graph x y walk × (new ≡ old ++ walk_text z.graph walk) in
    subst F same (
      Some (list_of l.book.arena l.id),
      least.walk,
      text ∙ ap (λ k. old ++ number_text k ++ codes " walk" ++ flat_map number_text (list_of l.book.arena l.id))
          least.weight ∙ simp append_assoc,
    )

-- the distances to the first n vertices are behind the text
pub record RowSoFar (g : Graph) (x n : ℕ) (old new : List ℕ) : Type 0 where
  pub row : List (Option ℕ)
  pub first : IsFirstRow g x n row
  pub text : new ≡ old ++ flat_map entry_text row

pub row_begins : (g : Graph) (x : ℕ) (old : List ℕ) → RowSoFar g x 0 old old
row_begins g x old = record { row = []; first = row_none g x; text = sym (append-nil old) }

pub row_goes_on : (g : Graph) (x n : ℕ) (d : Option ℕ) (old mid new : List ℕ) → RowSoFar g x n old mid
    → IsDistance g x n d → new ≡ mid ++ entry_text d → RowSoFar g x (n + 1) old new
row_goes_on g x n d old mid new r distance put = record {
  row = r.row ++ d ∷ [];
  first = row_more g x n d r.row r.first distance;
  text = put ∙ ap (λ z. z ++ entry_text d) r.text ∙ flat_map_more entry_text old r.row d;
}

pub row_whole : (g : Graph) (x n : ℕ) (old new : List ℕ) → n ≡ g.vertices → RowSoFar g x n old new
    → (row : List (Option ℕ)) × AreDistances g x row × (new ≡ old ++ flat_map entry_text row)
row_whole g x n old new all r =
    (r.row, record { size = r.first.size ∙ all; each = λ y l. r.first.each y (omega (arith, l, all)) }, r.text)

-- the parts of a reply, one behind the other
pub row_replied : {E : Type 0} (r : Result (Unit {0}) E) (g : Graph) (x : ℕ) (old a b new : List ℕ) → a ≡ old
    ++ (codes "row " ++ decimal x) → (row : List (Option ℕ)) × AreDistances g x row × (b ≡ a ++ flat_map entry_text row)
    → new ≡ (if is_ok r then b ++ encode 10 else b) → OnOk r (GrowsBy (IsRowReply g x) old new)
row_replied (Err e) g x old a b new front mid end = tt
row_replied (Ok u) g x old a b new front mid end = (row_text x mid.0, (mid.0, mid.1, refl), whole)
  where
    whole : new ≡ old ++ row_text x mid.0
    whole = end ∙ ap (λ z. b ++ z) (encode_ascii 10 (omega arith))
        ∙ ap (λ z. z ++ codes "\n") (mid.2 ∙ ap (λ z. z ++ flat_map entry_text mid.0) front) ∙ simp append_assoc

pub path_replied : {E : Type 0} (r : Result (Unit {0}) E) (g : Graph) (x y : ℕ) (old a b new : List ℕ) → a ≡ old
    ++ (codes "path " ++ (decimal x ++ (codes " " ++ decimal y))) → (walk : Option (List ℕ)) × LeastIs g x y walk
    × (b ≡ a ++ walk_text g walk) → new ≡ (if is_ok r then b ++ encode 10 else b)
    → OnOk r (GrowsBy (IsPathReply g x y) old new)
path_replied (Err e) g x y old a b new front mid end = tt
path_replied (Ok u) g x y old a b new front mid end = (path_text g x y mid.0, (mid.0, mid.1, refl), whole)
  where
    whole : new ≡ old ++ path_text g x y mid.0
    whole = end ∙ ap (λ z. b ++ z) (encode_ascii 10 (omega arith))
        ∙ ap (λ z. z ++ codes "\n") (mid.2 ∙ ap (λ z. z ++ walk_text g mid.0) front) ∙ simp append_assoc

pub stats_replied : {E : Type 0} (r : Result (Unit {0}) E) (seen e : EngineSeen) (commands : List Command) (k : Counts)
    (old new : List ℕ) → e ≡ seen → (Stands e commands → CountsAre e.opening e.smooth commands k) → Stands seen commands
    → OnOk r (new ≡ old ++ stats_text k) → OnOk r (GrowsBy (IsStatsReply seen.opening seen.smooth commands) old new)
stats_replied (Err error) seen e commands k old new same are stands text = tt
stats_replied (Ok u) seen e commands k old new same are stands text =
    let F : EngineSeen → Type 0 = λ z. Stands z commands → CountsAre z.opening z.smooth commands k in
    (stats_text k, (k, subst F same are stands, refl), text)

pub age_replied : {E : Type 0} (r : Result (Unit {0}) E) (seen e : EngineSeen) (commands : List Command) (list : List ℕ)
    (b : Option ℕ) (old new : List ℕ) → e ≡ seen
    → (Stands e commands → MatchOption b (IsKept e.opening e.smooth commands list → ⊥)
    (HasBirth e.opening e.smooth commands list)) → Stands seen commands → OnOk r (new ≡ old ++ age_text list b)
    → OnOk r (GrowsBy (IsAgeReply seen.opening seen.smooth commands list) old new)
age_replied (Err error) seen e commands list b old new same is stands text = tt
age_replied (Ok u) seen e commands list b old new same is stands text =
    let F : EngineSeen → Type 0 =
    λ z. Stands z commands → MatchOption b (IsKept z.opening z.smooth commands list → ⊥)
    (HasBirth z.opening z.smooth commands list) in
    (age_text list b, (b, birth b (subst F same is stands), refl), text)
  where
    birth : (b : Option ℕ) → MatchOption b (IsKept seen.opening seen.smooth commands list → ⊥)
        (HasBirth seen.opening seen.smooth commands list) → IsBirth seen.opening seen.smooth commands list b
    birth None h = h
    birth (Some k) h = h

-- a report, part by part
pub report_put : {E : Type 0} (r : Result (Unit {0}) E) (s : Summary) (centre old a b new : List ℕ) → a ≡ old
    ++ (codes "report diameter " ++ decimal s.diameter) → centre ≡ s.centre → b ≡ a ++ radius_text s.radius centre
    → new ≡ (if is_ok r then b ++ encode 10 else b) → OnOk r (new ≡ old ++ report_text s)
report_put (Err e) s centre old a b new front is mid end = tt
report_put (Ok u) s centre old a b new front is mid end =
    end ∙ ap (λ z. b ++ z) (encode_ascii 10 (omega arith))
    ∙ ap (λ z. z ++ codes "\n")
    (mid ∙ ap (λ k. a ++ radius_text s.radius k) is ∙ ap (λ z. z ++ radius_text s.radius s.centre) front)
    ∙ simp append_assoc
