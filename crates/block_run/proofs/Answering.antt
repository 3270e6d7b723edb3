-- The answers of one reader, one after another: for `answer_all`.
use Rattle.std.proofs.Common.{◌≡◌, ℕ, ◌+◌, ◌*◌, ◌<◌, ◌≤◌, List, [], ◌∷◌, ◌++◌, length, get_or, refl, ap, sym, ◌∙◌, subst, suc, suc-mul, arith, length-append}
use mathlib.Core.Logic.{dite}
use native.Mathlib.Decide.{dec_lt}
use Rattle.std.proofs.lemmas.List.{get_or_append_left, get_or_push}
use Rattle.graph_store.specs.Plan.{Plan}
use Rattle.block_run.specs.declared.asks.Ask.{Ask}
use Rattle.block_run.specs.declared.answers.Answer.{Answer}
use Rattle.version_pool.specs.Pooled.{Pool, IsReaderOf}
use Rattle.block_run.specs.declared.read.BlockReader.{BlockReader}
use Rattle.block_run.specs.Answers.{IsAnswer}
use Rattle.block_run.specs.Reading.{AnswersSome, AnswersAll, AreAsksOf, IsAnswerSeen, ReadsOn}

one_more : (plan : Plan) (asks : List Ask) (who step at : ℕ) (xs : List Answer) (a : Answer)
    → AnswersSome plan asks who step xs → at ≡ who + length xs * step → at < length asks
    → ((d : Ask) → IsAnswer plan (get_or asks at d) a)
    → ((k : ℕ) (d : Answer) → k < length xs → (get_or xs k d).number ≤ a.number)
    → AnswersSome plan asks who step (xs ++ a ∷ [])
one_more plan asks who step at xs a old place low new last = record {
  each = λ k d e below. dite (dec_lt k (length xs))
      (λ was. let h = old.each k d e was in (
        h.0,
        subst (λ (x : Answer). IsAnswer plan (get_or asks (who + k * step) d) x)
            (sym (get_or_append_left xs (a ∷ []) e k was)) h.1,
      ))
      (λ not.
      let len = length-append xs (a ∷ []) in
      let is : length xs ≡ k = omega arith in
      let here : at ≡ who + k * step = place ∙ ap (λ (n : ℕ). who + n * step) is in (
        subst (λ (n : ℕ). n < length asks) here low,
        subst (λ (z : ℕ × Answer). IsAnswer plan (get_or asks z.0 d) z.1)
            (λ i. (here i, sym (get_or_push xs a e k is) i)) (new d),
      ));
  rising = λ j k d before below. dite (dec_lt k (length xs))
      (λ was. let h = old.rising j k d before was in
      subst (λ (z : Answer × Answer). z.0.number ≤ z.1.number)
      (λ i. (
        sym (get_or_append_left xs (a ∷ []) d j (omega arith)) i,
        sym (get_or_append_left xs (a ∷ []) d k was)
            i,
      )) h)
      (λ not.
      let len = length-append xs (a ∷ []) in
      let is : length xs ≡ k = omega arith in
      subst (λ (z : Answer × Answer). z.0.number ≤ z.1.number)
      (λ i. (sym (get_or_append_left xs (a ∷ []) d j (omega arith)) i, sym (get_or_push xs a d k is) i))
      (last j d (omega arith)));
}

one_step : (n step : ℕ) → (n + 1) * step ≡ n * step + step
one_step n step = let s : n + 1 ≡ suc n = omega arith in rw s (suc-mul n step)

-- no answer is newer than what was seen last
last_more : (xs ys : List Answer) (a : Answer) (old new : ℕ) → ys ≡ xs ++ a ∷ []
    → ((k : ℕ) (d : Answer) → k < length xs → (get_or xs k d).number ≤ old) → old ≤ new → a.number ≡ new
    → (k : ℕ) (d : Answer) → k < length ys → (get_or ys k d).number ≤ new
last_more xs ys a old new is last up here k d below =
    let len : length ys ≡ length (xs ++ a ∷ []) = ap length is in
    let more = length-append xs (a ∷ []) in
    dite (dec_lt k (length xs))
    (λ was.
    let h = last k d was in
    let e : get_or ys k d ≡ get_or xs k d =
    ap (λ (l : List Answer). get_or l k d) is ∙ get_or_append_left xs (a ∷ []) d k was in
    let n = ap (λ (x : Answer). x.number) e in
    omega arith)
    (λ not.
    let at : length xs ≡ k = omega arith in
    let e : get_or ys k d ≡ a = ap (λ (l : List Answer). get_or l k d) is ∙ get_or_push xs a d k at in
    let n = ap (λ (x : Answer). x.number) e in
    omega arith)

-- ---- the loop of a reader

-- it has answered its questions up to this place
pub record IsReading (pool : Pool) (asks : List Ask) (step : ℕ) (first reader : BlockReader) (at : ℕ)
    (answers : List Answer) : Type 0 where
  pub reads : ReadsOn pool first reader
  pub place : at ≡ first.who + length answers * step
  pub some : AnswersSome pool.plan asks first.who step answers
  pub last : (k : ℕ) (d : Answer) → k < length answers → (get_or answers k d).number ≤ reader.reader.mark.number

pub reading_starts : (pool : Pool) (asks : List Ask) (step : ℕ) (reader : BlockReader) → IsReaderOf pool reader.reader
    → IsReading pool asks step reader reader reader.who []
reading_starts pool asks step reader is = record {
  reads = record { reader_of = is; who = refl; later = omega arith };
  place = omega arith;
  some = record {
    each = λ k d e below. absurd (let none : ⊥ = omega (arith, below) in none);
    rising = λ j k d before
        below. absurd (let none : ⊥ = omega (arith, below) in none);
  };
  last = λ k d below. absurd (let none : ⊥ = omega (arith, below) in none);
}

pub reading_goes_on : (pool : Pool) (asks : List Ask) (lo step : ℕ) (first old new : BlockReader) (at : ℕ)
    (xs ys : List Answer) (ask : Ask) (a : Answer) → AreAsksOf pool.plan lo asks
    → IsReading pool asks step first old at xs
    → at < length asks → ((d : Ask) → get_or asks at d ≡ ask) → ReadsOn pool old new
    → IsAnswerSeen pool.plan ask (lo + ask.since) new a → ys ≡ xs ++ a ∷ []
    → IsReading pool asks step first new (at + step) ys
reading_goes_on pool asks lo step first old new at xs ys ask a are h low is reads seen longer = record {
  reads = record {
    reader_of = reads.reader_of;
    who = reads.who
        ∙ h.reads.who;
    later = omega (arith, h.reads.later, reads.later);
  };
  place =
      let len : length ys ≡ length xs + 1 = omega (arith, ap length longer, length-append xs (a ∷ [])) in
      let more : length ys * step ≡ length xs * step + step =
      ap (λ (n : ℕ). n * step) len ∙ one_step (length xs) step in
      omega (arith, h.place, more);
  some =
      let since : pool.plan.lo + ask.since ≤ a.number = omega (arith, seen.not_older, are.lo_is) in
      subst (λ (l : List Answer). AnswersSome pool.plan asks first.who step l) (sym longer)
      (one_more pool.plan asks first.who step at xs a h.some h.place low
      (λ d. subst (λ (q : Ask). IsAnswer pool.plan q a) (sym (is d)) (seen.answer since))
      (λ k d below. omega (arith, h.last k d below, reads.later, seen.number)));
  last = last_more xs ys a old.reader.mark.number new.reader.mark.number longer h.last reads.later seen.number;
}

pub reading_ends : (pool : Pool) (asks : List Ask) (step : ℕ) (first reader : BlockReader) (at : ℕ)
    (answers : List Answer) → IsReading pool asks step first reader at answers → length asks ≤ at
    → AnswersAll pool.plan asks first.who step answers
reading_ends pool asks step first reader at answers h done =
    record { some = h.some; whole = omega (arith, h.place, done) }
