use Rattle.std.proofs.Common.{[], ◌≡◌, Result, Ok, Err, IfOk, sym, ◌∙◌, ap, subst}
use Rattle.std.specs.Result.{is_ok, MatchResult}
use Rattle.std.proofs.lemmas.Bool.{true≢false}
use Rattle.history_engine.specs.Advance.{Stands}
use Rattle.network_replies.proofs.network.Network.new.Goals as goal

-- another error leaves the value as it is
value_kept : {T E F : Type 0} (P : T → Type 0) (Q : E → Type 0) (r : Result T E) (s : Result T F) (x : T)
    → MatchResult r (λ y. s ≡ Ok y) Q → is_ok s ≡ is_ok r → s ≡ Ok x → IfOk r P → P x
value_kept P Q (Ok y) s x same variant is h = subst P (let both : Ok y ≡ Ok x = sym same ∙ is in cc) h
value_kept P Q (Err e) s x same variant is h = absurd (true≢false (sym (ap is_ok is) ∙ variant))

pub returns-clause-stands : goal.returns-clause-stands
returns-clause-stands c =
    value_kept (λ e. Stands e []) _ c.new.result c.map_err.result c.in_ok-map_err.field-0 c.map_err.ensures.cases
    c.map_err.ensures.variant c.in_ok-map_err.was c.new.ensures.stands
