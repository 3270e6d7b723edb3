-- Where the answers of the readers stand, question by question: for `read`, `run` and `live_block`.
use Rattle.std.specs.Prelude.{◌≡◌, ℕ, zero, suc, ◌+◌, ◌*◌, ◌/◌, ◌%◌, ◌<◌, ◌≤◌, List, [], ◌∷◌, ◌++◌, length, map, slice_index_or, vec_len, All, Result, Ok, Err, IfOk, refl}
use Rattle.std.proofs.Common.{sym, ◌∙◌, ap, subst, arith, get_or, append_assoc, Vec, Global}
use Rattle.std.proofs.lemmas.List.{map-append, length-map}
use Rattle.std.proofs.Math.Nat.{mod-lt, lt_of_mul-lt-mul_right}
use Rattle.std.proofs.lemmas.Nat.{div-add-mod'}
use Rattle.apsp_model.specs.declared.Memory.{Memory}
use Rattle.graph_store.specs.Plan.{Plan}
use Rattle.version_pool.specs.Pooled.{Pool, Reader, IsReaderOf}
use Rattle.block_run.specs.declared.read.BlockReader.{BlockReader}
use Rattle.block_run.specs.declared.asks.Ask.{Ask}
use Rattle.block_run.specs.declared.answers.Answer.{Answer}
use Rattle.block_run.specs.Answers.{IsAnswer, BlockReply}
use Rattle.block_run.specs.Reading.{AnswersAll, AreLists, AreNumbered}

-- an entry of a list that has one
pub one_of : {A : Type 0} → (xs : List A) → 0 < length xs → A
one_of [] some = absurd (let none : ⊥ = omega (arith, some) in none)
one_of (x ∷ xs) some = x

-- lists r is what the reader r answers
module _ (plan : Plan) (asks : List Ask) (readers : ℕ) (some : 0 < readers) (lists : ℕ → List Answer)
    (all : (r : ℕ) → r < readers → AnswersAll plan asks r readers (lists r)) where
  place_is : (i : ℕ) → i % readers + i / readers * readers ≡ i
  place_is i = omega (arith, div-add-mod' i readers)

  pub place_inside : (i : ℕ) → i < length asks → i / readers < length (lists (i % readers))
  place_inside i below =
      let whole : length asks ≤ i % readers + length (lists (i % readers)) * readers =
      (all (i % readers) (mod-lt i some)).whole in
      lt_of_mul-lt-mul_right readers (omega (arith, whole, place_is i, below))

  pub reply : (answers : List Answer) → length answers ≡ length asks
      → ((i : ℕ) (e : Answer) → i < length asks
      → slice_index_or answers i e ≡ slice_index_or (lists (i % readers)) (i / readers) e)
      → BlockReply plan asks readers answers
  reply answers len from = record {
    len = len;
    each = λ i d e below.
        let h = (all (i % readers) (mod-lt i some)).some.each (i / readers) d e (place_inside i below) in
        subst (λ (z : ℕ × Answer). IsAnswer plan (slice_index_or asks z.0 d) z.1)
        (λ t. (place_is i t, sym (from i e below) t)) h.1;
    rising = λ i j e before below same.
        let less : i / readers < j / readers =
        lt_of_mul-lt-mul_right readers (omega (arith, before, same, place_is i, place_is j)) in
        let inside : j / readers < length (lists (i % readers)) =
        subst (λ r. j / readers < length (lists r)) (sym same) (place_inside j below) in
        let h : (slice_index_or (lists (i % readers)) (i / readers) e).number ≤
        (slice_index_or (lists (i % readers)) (j / readers) e).number
        = (all (i % readers) (mod-lt i some)).some.rising (i / readers) (j / readers) e less inside in
        let a : (slice_index_or answers i e).number ≡ (slice_index_or (lists (i % readers)) (i / readers) e).number =
        ap (λ (x : Answer). x.number) (from i e (omega (arith, before, below))) in
        let b : (slice_index_or answers j e).number ≡ (slice_index_or (lists (i % readers)) (j / readers) e).number =
        ap (λ (x : Answer). x.number)
        (from j e below ∙ ap (λ r. slice_index_or (lists r) (j / readers) e) (sym same)) in
        omega (arith, a, b, h);
  }

-- ---- lists that are moved over, entry by entry

module _ {A B : Type 0} (f : A → B) where
  -- one more entry is moved
  pub moves : (start more : List A) (rest less all : List B) (x : A) (y : B) → map f start ++ rest ≡ all
      → rest ≡ y ∷ less → y ≡ f x → more ≡ start ++ x ∷ [] → map f more ++ less ≡ all
  moves start more rest less all x y h is is_of longer =
      ap (λ (l : List A). map f l ++ less) longer
      ∙ (ap (λ (l : List B). l ++ less) (map-append f start (x ∷ []))
      ∙ (append_assoc (map f start) (f x ∷ []) less
      ∙ (ap (λ (p : B). map f start ++ p ∷ less) (sym is_of)
      ∙ (ap (λ (l : List B). map f start ++ l) (sym is) ∙ h))))

  pub map_get : (xs : List A) (k : ℕ) (d : A) (e : B) → k < length xs → get_or (map f xs) k e ≡ f (get_or xs k d)
  map_get [] k d e low = absurd (let none : ⊥ = omega (arith, low) in none)
  map_get (x ∷ xs) zero d e low = refl
  map_get (x ∷ xs) (suc k) d e low = map_get xs k d e (omega (arith, low))

-- ---- the readers and their lists

pub all_readers : (pool : Pool) (readers : List Reader) (numbered : List BlockReader)
    → map (λ (b : BlockReader). b.reader) numbered ≡ readers → All (IsReaderOf pool) readers
    → All (λ (b : BlockReader). IsReaderOf pool b.reader) numbered
all_readers pool readers numbered moved all k d low =
    let size : length readers ≡ length numbered =
    ap length (sym moved) ∙ length-map numbered (λ (b : BlockReader). b.reader) in
    let h : IsReaderOf pool (get_or readers k d.reader) = all k d.reader (omega (arith, size, low)) in
    subst (λ (r : Reader). IsReaderOf pool r)
    (ap (λ (l : List Reader). get_or l k d.reader) (sym moved)
    ∙ map_get (λ (b : BlockReader). b.reader) numbered k d d.reader low) h

pub lists_of : (plan : Plan) (asks : List Ask) (step : ℕ) (readers : List BlockReader)
    (lists : List (Result (Vec Answer Global) Memory)) (all : List (Vec Answer Global)) → map Ok all ≡ lists
    → length lists ≡ length readers → AreNumbered readers
    → ((k : ℕ) (d : Result (Vec Answer Global) Memory) (e : BlockReader) → k < length readers
    → IfOk (get_or lists k d) (λ a. AnswersAll plan asks (get_or readers k e).who step a.items))
    → (k : ℕ) (d : Vec Answer Global) → k < length readers → AnswersAll plan asks k step (get_or all k d).items
lists_of plan asks step readers lists all moved len numbered each k d low =
    let e : BlockReader = one_of readers (omega (arith, low)) in
    let size : length all ≡ length readers =
    sym (length-map all (λ (v : Vec Answer Global). Ok v)) ∙ (ap length moved ∙ len) in
    let here : get_or lists k (Ok d) ≡ Ok (get_or all k d) =
    ap (λ (l : List (Result (Vec Answer Global) Memory)). get_or l k (Ok d)) (sym moved)
    ∙ map_get Ok all k d (Ok d) (omega (arith, size, low)) in
    let h : IfOk (get_or lists k (Ok d)) (λ a. AnswersAll plan asks (get_or readers k e).who step a.items) =
    each k (Ok d) e low in
    subst (λ who. AnswersAll plan asks who step (get_or all k d).items) (numbered k e low)
    (subst (λ (r : Result (Vec Answer Global) Memory). IfOk r
    (λ a. AnswersAll plan asks (get_or readers k e).who step a.items)) here h)

pub if_lists : (plan : Plan) (asks : List Ask) (readers : Vec BlockReader Global) (step : ℕ) → step ≡ vec_len readers
    → (r : Result (Vec (Result (Vec Answer Global) Memory) Global) Memory) → IfOk r (λ v. vec_len v ≡ vec_len readers)
    → IfOk r (λ v. (k : ℕ) (d : Result (Vec Answer Global) Memory) (e : BlockReader) → k < vec_len readers
    → IfOk (get_or v.items k d) (λ a. AnswersAll plan asks (get_or readers.items k e).who step a.items))
    → IfOk r (λ v. AreLists plan asks readers.items v.items)
if_lists plan asks readers step is (Err x) len each = tt
if_lists plan asks readers step is (Ok v) len each = record {
  len = omega (arith, len, readers.ok.0, v.ok.0);
  each = λ k d e low.
      let size : step ≡ length readers.items = is ∙ readers.ok.0 in
      subst (λ n. IfOk (get_or v.items k d) (λ a. AnswersAll plan asks (get_or readers.items k e).who n a.items)) size
      (each k d e (omega (arith, low, readers.ok.0)));
}

pub if_lists_of : {E : Type 0} (plan plan' : Plan) (asks : List Ask) (readers : Vec BlockReader Global)
    (lists : List (Result (Vec Answer Global) Memory)) → plan' ≡ plan → AreNumbered readers.items
    → AreLists plan' asks readers.items lists
    → (r : Result (Vec (Vec Answer Global) Global) E) → IfOk r (λ all. map Ok all.items ≡ lists)
    → IfOk r (λ v. (k : ℕ) (d : Vec Answer Global) → k < vec_len readers
    → AnswersAll plan asks k (vec_len readers) (get_or v.items k d).items)
if_lists_of plan plan' asks readers lists same numbered are (Err x) moved = tt
if_lists_of plan plan' asks readers lists same numbered are (Ok all) moved = λ k d low.
    subst (λ (n : ℕ). AnswersAll plan asks k n (get_or all.items k d).items) (sym readers.ok.0)
    (subst (λ (p : Plan). AnswersAll p asks k (length readers.items) (get_or all.items k d).items) same
    (lists_of plan' asks (length readers.items) readers.items lists all.items moved are.len numbered are.each k d
    (omega (arith, low, readers.ok.0))))

pub vec_lens : {A B : Type 0} (f : A → B) (xs : Vec A Global) (ys : Vec B Global) → map f xs.items ≡ ys.items
    → vec_len xs ≡ vec_len ys
vec_lens f xs ys moved = omega (arith, xs.ok.0, ys.ok.0, ap length moved, length-map xs.items f)

-- the lists of so many readers, where n is how many lists there are, and count how many questions
module _ (plan : Plan) (asks : List Ask) (n readers count : ℕ) (lists : List (Vec Answer Global)) (len : n ≡ readers)
    (some : 1 ≤ readers) (size : count ≡ length asks)
    (each : (k : ℕ) (d : Vec Answer Global) → k < readers → AnswersAll plan asks k readers (get_or lists k d).items)
  where
    pub places_inside : (i : ℕ) (d : Vec Answer Global) → i < count → i / n < vec_len (get_or lists (i % n) d)
    places_inside i d low =
        let F : ℕ → Type 0 = λ m. i / m < vec_len (get_or lists (i % m) d) in
        let inside =
        place_inside plan asks readers (omega (arith, some)) (λ r. (get_or lists r d).items) (λ r. each r d) i
        (omega (arith, low, size)) in
        subst F (sym len) (omega (arith, inside, (get_or lists (i % readers) d).ok.0))

    pub reply_of : Vec Answer Global → (all : Vec Answer Global) → vec_len all ≡ count
        → ((i : ℕ) (d : Vec Answer Global) (e : Answer) → i < count
        → get_or all.items i e ≡ get_or (get_or lists (i % n) d).items (i / n) e)
        → BlockReply plan asks readers all.items
    reply_of d all long from =
        reply plan asks readers (omega (arith, some)) (λ r. (get_or lists r d).items) (λ r. each r d) all.items
        (omega (arith, long, size, all.ok.0))
        (λ i e low.
        let F : ℕ → Type 0 = λ m. get_or all.items i e ≡ get_or (get_or lists (i % m) d).items (i / m) e in
        subst F len (from i d e (omega (arith, low, size))))

pub if_long : {E : Type 0} (plan : Plan) (asks : List Ask) (readers : Vec BlockReader Global)
    (lists : List (Result (Vec Answer Global) Memory)) → AreLists plan asks readers.items lists
    → (r : Result (Vec (Vec Answer Global) Global) E) → IfOk r (λ all. map Ok all.items ≡ lists)
    → IfOk r (λ v. vec_len v ≡ vec_len readers)
if_long plan asks readers lists are (Err x) moved = tt
if_long plan asks readers lists are (Ok all) moved =
    omega (
      arith,
      all.ok.0,
      readers.ok.0,
      are.len,
      ap length moved,
      length-map {B = Result (Vec Answer Global) Memory}
          all.items (λ (v : Vec Answer Global). Ok v),
    )
