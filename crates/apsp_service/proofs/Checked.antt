-- Of each input something is said in the mode that checks, and one thing alone.
use Rattle.std.proofs.Common.{◌≡◌, ℕ, List, [], ◌++◌, refl, sym, ap, subst, ◌∙◌, inl, inr}
use Rattle.std.specs.Prelude.{Bool, Result, Ok, Err, IfOk}
use Rattle.apsp_model.specs.Stated.{Stated}
use Rattle.certificate.specs.declared.CertError.{CertError}
use Rattle.certificate.specs.declared.CertError.TheVariants.{Shape, Order, Range, Memory}
use Rattle.certificate.specs.Grammar.{IsCertText}
use Rattle.certificate.specs.Reading.{stated_by}
use Rattle.certificate.proofs.Late.{never_memory}
use Rattle.certificate.proofs.Texts.{text_parts, cert_again, one_stated}
use Rattle.cert_check.specs.declared.Verdict.{Verdict}
use Rattle.cert_check.specs.Tests.{IsVerdict}
use Rattle.cert_check.proofs.Verdicts.{verdict_exists, one_verdict}
use Rattle.apsp_service.specs.Outcome.{status_after}
use Rattle.apsp_service.specs.declared.check.TheConstants.{SHAPE, ORDER, RANGE}
use Rattle.apsp_service.specs.Check.{verdict_text, verdict_status, fault_text, IsFaultReply, IsJudged, IsFaulty, IsChecked}

pub checked_exists : (bytes : List ℕ) → (text : List ℕ) × (status : ℕ) × IsChecked bytes text status
checked_exists bytes = at (stated_by bytes) refl
  where
    at : (r : Result Stated CertError) → stated_by bytes ≡ r → (text : List ℕ) × (status : ℕ)
        × IsChecked bytes text status
    at (Ok s) e =
        let grammar : IsCertText s bytes = text_parts bytes s e in
        let v = verdict_exists s grammar.writable.range in (
          verdict_text v.0,
          verdict_status v.0,
          inl
              (record { stated = s; grammar = grammar; verdict = v.0; judged = v.1; reply = refl; ended = refl }),
        )
    at (Err (Shape line)) e =
        (fault_text SHAPE line, 1, inr (record { fault = Shape line; first = e; reply = refl; ended = refl }))
    at (Err (Order line)) e =
        (fault_text ORDER line, 1, inr (record { fault = Order line; first = e; reply = refl; ended = refl }))
    at (Err (Range line)) e =
        (fault_text RANGE line, 1, inr (record { fault = Range line; first = e; reply = refl; ended = refl }))
    at (Err Memory) e = absurd (never_memory bytes e)

one_fault : (f : CertError) (t u : List ℕ) → IsFaultReply f t → IsFaultReply f u → t ≡ u
one_fault (Shape line) t u h k = h ∙ sym k
one_fault (Order line) t u h k = h ∙ sym k
one_fault (Range line) t u h k = h ∙ sym k
one_fault Memory t u h k = absurd h

same_fault : (f g : CertError) → ◌≡◌ {A = Result Stated CertError} (Err f) (Err g) → f ≡ g
same_fault f g e = cc

not_both : (s : Stated) (f : CertError) → ◌≡◌ {A = Result Stated CertError} (Ok s) (Err f) → ⊥
not_both s f e = cc

pub one_checked : (bytes t u : List ℕ) (a b : ℕ) → IsChecked bytes t a → IsChecked bytes u b → (t ≡ u) × (a ≡ b)
one_checked bytes t u a b (inl h) (inl k) =
    let same : h.stated ≡ k.stated = one_stated h.stated k.stated bytes h.grammar k.grammar in
    let F : Stated → Type 0 = λ s. IsVerdict s h.verdict in
    let verdict : h.verdict ≡ k.verdict = one_verdict k.stated h.verdict k.verdict (subst F same h.judged) k.judged in
    (h.reply ∙ ap verdict_text verdict ∙ sym k.reply, h.ended ∙ ap verdict_status verdict ∙ sym k.ended)
one_checked bytes t u a b (inl h) (inr k) =
    absurd (not_both h.stated k.fault (sym (cert_again h.stated bytes h.grammar) ∙ k.first))
one_checked bytes t u a b (inr h) (inl k) =
    absurd (not_both k.stated h.fault (sym (cert_again k.stated bytes k.grammar) ∙ h.first))
one_checked bytes t u a b (inr h) (inr k) =
    let same : h.fault ≡ k.fault = same_fault h.fault k.fault (sym h.first ∙ k.first) in
    let F : CertError → Type 0 = λ f. IsFaultReply f t in
    (one_fault k.fault t u (subst F same h.reply) k.reply, h.ended ∙ sym k.ended)

-- what is said of a certificate
pub judged_is : {E : Type 0} (r : Result Bool E) (bytes old new : List ℕ) (s : Stated) → old ≡ [] → IsCertText s bytes
    → IfOk r (λ refused. (verdict : Verdict) × IsVerdict s verdict × (new ≡ old ++ verdict_text verdict)
    × (status_after (Ok refused) ≡ verdict_status verdict))
    → IfOk r (λ refused. IsChecked bytes new (status_after (Ok refused)))
judged_is (Err e) bytes old new s none grammar h = tt
judged_is (Ok refused) bytes old new s none grammar h = inl (record {
  stated = s;
  grammar = grammar;
  verdict = h.0;
  judged = h.1;
  reply = h.2 ∙ ap (λ o. o ++ verdict_text h.0) none;
  ended = h.3;
})
