-- A certificate that is written to a sink.
use Rattle.std.proofs.Common.{◌≡◌, ℕ, List, [], ◌≤◌, length, refl, sym, subst, append-nil, arith}
use Rattle.std.specs.Prelude.{Option, Some, None, Result, Ok, Err, IsErrAnd}
use Rattle.std.specs.Io.KnownBytes.{Appends}
use Rattle.apsp_model.specs.Stated.{Stated}
use Rattle.apsp_io.specs.declared.sink.GiveError.{GiveError}
use Rattle.apsp_io.specs.declared.sink.GiveError.TheVariants as give
use Rattle.version_face.specs.Seen.{VersionSeen}
use Rattle.history_engine.specs.Seen.{EngineSeen as Engine}
use Rattle.certificate.specs.Grammar.{text_of}
use Rattle.certificate.specs.Giving.{IsStatedOf, GivesText}
use Rattle.certificate.proofs.Versions.{value_of, value_is}
use Rattle.network_replies.specs.Certificate.{IsTextOf, version_of}
use Rattle.network_replies.specs.declared.stop.Stop.{Stop}
use Rattle.network_replies.specs.declared.stop.Stop.TheVariants as stop
use Rattle.network_replies.specs.Growing.{LinesGiven, as_stop}
use Rattle.network_replies.proofs.Seen.{sink_at}

-- the certificate of a version was written
pub certificate_written : (r : Result (Unit {0}) Stop) (g : Result (Unit {0}) GiveError) (v : VersionSeen) (e : Engine)
    (old new : Option (List ℕ)) (before now : ℕ) → r ≡ as_stop g → v ≡ version_of e
    → (s : Stated) × IsStatedOf v s × GivesText g old new before now (text_of s) → (text : List ℕ)
    × IsTextOf (version_of e) text × LinesGiven r (sink_at old before) (sink_at new now) text
certificate_written r g v e old new before now stopped same written =
    let F : VersionSeen → Type 0 = λ w. IsStatedOf w written.0 in
    let G : Result (Unit {0}) Stop → Type 0 =
    λ z. LinesGiven z (sink_at old before) (sink_at new now) (text_of written.0) in
    (text_of written.0, (written.0, subst F same written.1, refl), subst G (sym stopped) (at g written.2))
  where
    at : (h : Result (Unit {0}) GiveError) → GivesText h old new before now (text_of written.0)
        → LinesGiven (as_stop h) (sink_at old before) (sink_at new now) (text_of written.0)
    at (Ok u) w = w
    at (Err give.Failed) w = w
    at (Err give.Memory) w = w

-- .. or nothing of it, for want of memory
pub certificate_begun : {A : Type 0} (r : Result A Stop) (e : Engine) (old : Option (List ℕ)) (before now : ℕ)
    → IsErrAnd r (λ x. x ≡ stop.Memory) → (text : List ℕ) × IsTextOf (version_of e) text
    × LinesGiven r (sink_at old before) (sink_at old now) text
certificate_begun (Ok a) e old before now h = absurd h
certificate_begun {A = A} (Err x) e old before now h =
    let stated : Stated = value_of (version_of e) in
    let F : Stop → Type 0 = λ z. LinesGiven {A = A} (Err z) (sink_at old before) (sink_at old now) (text_of stated) in
    let some : 0 ≤ length (text_of stated) = omega arith in
    (text_of stated, (stated, value_is (version_of e), refl), subst F (sym h) (0, some, appends_nothing old))
  where
    appends_nothing : (held : Option (List ℕ)) → Appends held held []
    appends_nothing None = tt
    appends_nothing (Some xs) = sym (append-nil xs)
