use Rattle.std.proofs.Common.{sym, ◌∙◌}
use Rattle.numerals.proofs.Digits.{few_digits, number_is, no_number}
use Rattle.numerals.proofs.number_of.Goals as goal

pub value_of-requires : goal.value_of-requires
value_of-requires c = few_digits _ _ c.requires (sym c.is_number.ensures ∙ c.if-is_number.true)

pub returns-then-is_number : goal.returns-then-is_number
returns-then-is_number c = number_is _ _ _ (sym c.is_number.ensures ∙ c.if-is_number.true) c.value_of.ensures

pub returns-else-is_number : goal.returns-else-is_number
returns-else-is_number c = no_number _ _ (sym c.is_number.ensures ∙ c.if-is_number.false)
