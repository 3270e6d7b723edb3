use Rattle.std.proofs.Common.{◌≡◌, ◌⊎◌, ◌∙◌, ℕ, subst, inl, inr}
use Rattle.std.specs.Prelude.{Result, Ok, Err}
use Rattle.apsp_model.specs.Stated.{Stated}
use Rattle.certificate.specs.declared.CertError.{CertError}
use Rattle.certificate.specs.declared.CertError.TheVariants.{Shape, Order, Range, Memory}
use Rattle.certificate.specs.declared.lines.Layout.TheVariants.{ByVertex}
use Rattle.certificate.specs.Giving.{IsStatedOf}
use Rattle.certificate.specs.Answer.{GivesOrMemory}
use Rattle.load_run.proofs.certified.read_back.Goals as goal

-- what is read of a text in the grammar is what the text states
read : (P : Stated → Type 0) (r : Result Stated CertError) (x s : Stated) → r ≡ Ok x → GivesOrMemory (λ s. s) r (Ok s)
    → P s → P x
read P (Ok y) x s is given h = let same : s ≡ x = cc in subst P same h
read P (Err (Shape k)) x s is given h = cc
read P (Err (Order k)) x s is given h = cc
read P (Err (Range k)) x s is given h = cc
read P (Err Memory) x s is given h = cc

pub returns-in-Ok : goal.returns-in-Ok
returns-in-Ok c =
    let t = c.requires.text in
    let writable =
    c.law_version.ensures.writable c.args.version.now t.0 c.vertices-vertices.ensures.graph c.requires.digits t.1 in
    read (λ s. IsStatedOf c.args.version.now s) _ _ t.0 c.in-Ok.is
    (c.read_certificate.ensures.only t.0 (record { layout = ByVertex; writable = writable; text = c.bytes.ensures ∙ t.2 })) t.1

-- no line of a text in the grammar is at fault
no_fault : (r : Result Stated CertError) (e : CertError) (s : Stated) → r ≡ Err e
    → (((k : ℕ) × (e ≡ Shape k)) ⊎ (((k : ℕ) × (e ≡ Order k)) ⊎ ((k : ℕ) × (e ≡ Range k))))
    → GivesOrMemory (λ s. s) r (Ok s) → ⊥
no_fault (Ok y) e s is fault given = cc
no_fault (Err (Shape k)) e s is fault given = cc
no_fault (Err (Order k)) e s is fault given = cc
no_fault (Err (Range k)) e s is fault given = cc
no_fault (Err Memory) e s is fault given = elim fault [
  | inl shape ↦ let h : e ≡ Shape shape.0 = shape.1 in cc
  | inr rest ↦ elim rest [
    | inl order ↦ let h : e ≡ Order order.0 = order.1 in cc
    | inr range ↦ let h : e ≡ Range range.0 = range.1 in cc
  ]
]

pub unreachable-requires : goal.unreachable-requires
unreachable-requires c =
    let t = c.requires.text in
    let writable =
    c.law_version.ensures.writable c.args.version.now t.0 c.vertices-vertices.ensures.graph c.requires.digits t.1 in
    no_fault _ _ t.0 c.in-Err.is c.in-Shape.is
    (c.read_certificate.ensures.only t.0 (record { layout = ByVertex; writable = writable; text = c.bytes.ensures ∙ t.2 }))
