-- Refusals: a code with its place, the number of a word counted from 1, or 0 for the whole line.
use Rattle.std.specs.Prelude.{ℕ, Option, Some, None, Result, Ok, Err}

pub record Refusal : Type 0 where
  pub code : ℕ
  pub place : ℕ

abbrev pub refused : {A : Type 0} → ℕ → ℕ → Result A Refusal
refused code place = Err (record { code = code; place = place })

-- what is tested later counts where nothing was refused before
infixl 10 ◌>>=◌
abbrev pub ◌>>=◌ : {A B : Type 0} → Result A Refusal → (A → Result B Refusal) → Result B Refusal
Ok x >>= f = f x
Err e >>= f = Err e

abbrev pub or_refused : {A : Type 0} → Option A → ℕ → ℕ → Result A Refusal
or_refused (Some x) code place = Ok x
or_refused None code place = refused code place
