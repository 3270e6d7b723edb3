use Rattle.std.proofs.Common.{rules, ◌≡◌, ◌<◌, sym, ◌∙◌, subst, length, List, ◌∷◌, ◌++◌, [], slice_set, take, drop}
use Rattle.std.specs.List.Sorted.{IsPermutation}
use Rattle.std.proofs.lemmas.List.{get_or_append_left}
use Rattle.std.proofs.lemmas.List.Sorted.{IsPermutation-append_comm}
use Rattle.weight_classes.specs.declared.turns.Turn.{Turn}
use Rattle.weight_classes.specs.Turns.{AreInOrder, IsFirst}
use Rattle.weight_classes.proofs.Sifts.{written, shorter_order, first_out, first_is, alone_first}
use Rattle.weight_classes.proofs.turns.take_first.Goals as goal

pub returns-then-is_empty-clause-some : goal.returns-then-is_empty-clause-some
returns-then-is_empty-clause-some c =
    let rest : List Turn = c.pop.new.self.items in
    subst (λ (ts : List Turn). IsPermutation ts (c.in_ok-last.last ∷ rest)) (sym c.in_ok-last.ensures.items)
    (IsPermutation-append_comm rest (c.in_ok-last.last ∷ []))

pub returns-then-is_empty-clause-first : goal.returns-then-is_empty-clause-first
returns-then-is_empty-clause-first c =
    let none : length c.pop.new.self.items ≡ 0 = search rules in
    alone_first c.args.turns.now.items c.pop.new.self.items c.in_ok-last.last c.in_ok-last.ensures.items none

pub returns-clause-some : goal.returns-clause-some
returns-clause-some c =
    let rest : List Turn = c.pop.new.self.items in
    let last : Turn = c.in_ok-last.last in
    let first : Turn = c.index-first.result.now in
    let some : 0 < length rest = search rules in
    let moved : IsPermutation (slice_set rest 0 last) c.sink.new.turns =
    subst (λ (ts : List Turn). IsPermutation (slice_set ts 0 last) c.sink.new.turns) c.as_mut_slice.ensures.value
    c.sink.ensures.moved in
    subst (λ (ts : List Turn). IsPermutation ts
    (first ∷ take c.pop.new.self.len (c.sink.new.turns ++ drop (length c.sink.new.turns) rest)))
    (sym c.in_ok-last.ensures.items)
    (subst (λ (ts : List Turn). IsPermutation (rest ++ last ∷ []) (first ∷ ts))
    (sym (written rest c.sink.new.turns c.pop.new.self.len (search rules) (search rules)))
    (first_out rest first last c.sink.new.turns some c.index-first.ensures moved))

pub returns-clause-first : goal.returns-clause-first
returns-clause-first c =
    let rest : List Turn = c.pop.new.self.items in
    let last : Turn = c.in_ok-last.last in
    let first : Turn = c.index-first.result.now in
    let some : 0 < length rest = search rules in
    let order : AreInOrder (rest ++ last ∷ []) = subst AreInOrder c.in_ok-last.ensures.items c.requires in
    subst (IsFirst first) (sym c.in_ok-last.ensures.items)
    (first_is (rest ++ last ∷ []) first order (search rules)
    (c.index-first.ensures ∙ sym (get_or_append_left rest (last ∷ []) first 0 some)))

pub returns-clause-order : goal.returns-clause-order
returns-clause-order c =
    subst AreInOrder (sym (written c.pop.new.self.items c.sink.new.turns c.pop.new.self.len (search rules)
    (search rules))) c.sink.ensures.order

pub sink-requires-clause-order : goal.sink-requires-clause-order
sink-requires-clause-order c =
    subst AreInOrder (sym c.as_mut_slice.ensures.value)
    (shorter_order c.pop.new.self.items c.in_ok-last.last (subst AreInOrder c.in_ok-last.ensures.items c.requires))
