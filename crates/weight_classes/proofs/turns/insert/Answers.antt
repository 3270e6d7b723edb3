use Rattle.std.proofs.Common.{rules, ◌≡◌, sym, ◌∙◌, subst, length, List, ◌∷◌, ◌++◌, [], take, drop}
use Rattle.std.specs.List.Sorted.{IsPermutation}
use Rattle.std.proofs.lemmas.List.Sorted.{IsPermutation-trans, IsPermutation-append_comm}
use Rattle.weight_classes.specs.declared.turns.Turn.{Turn}
use Rattle.weight_classes.specs.Turns.{AreInOrder, MayRise, key_at}
use Rattle.weight_classes.proofs.Sifts.{written, pushed_rises}
use Rattle.weight_classes.proofs.turns.insert.Goals as goal

pub returns-clause-ok : goal.returns-clause-ok
returns-clause-ok c =
    let ts : List Turn = c.args.turns.now.items in
    let t : Turn = c.args.turn in
    let grown : c.push.new.self.items ≡ ts ++ t ∷ [] = search rules in
    let now : take c.push.new.self.len (c.rise.new.turns ++ drop (length c.rise.new.turns) c.push.new.self.items) ≡
    c.rise.new.turns = written c.push.new.self.items c.rise.new.turns c.push.new.self.len (search rules)
    (search rules) in
    subst (IsPermutation (t ∷ ts)) (sym now)
    (IsPermutation-trans (t ∷ ts) (ts ++ t ∷ []) c.rise.new.turns (IsPermutation-append_comm (t ∷ []) ts)
    (subst (λ (us : List Turn). IsPermutation us c.rise.new.turns) (c.as_mut_slice.ensures.value ∙ grown)
    c.rise.ensures.moved))

pub returns-clause-order : goal.returns-clause-order
returns-clause-order c =
    subst AreInOrder (sym (written c.push.new.self.items c.rise.new.turns c.push.new.self.len (search rules)
    (search rules))) c.rise.ensures.order

pub rise-requires-clause-rising : goal.rise-requires-clause-rising
rise-requires-clause-rising c =
    let ts : List Turn = c.args.turns.now.items in
    let t : Turn = c.args.turn in
    let grown : c.push.new.self.items ≡ ts ++ t ∷ [] = search rules in
    let last : c.len-last.result ≡ length ts = search rules in
    subst (λ (us : List Turn). MayRise (key_at us) (length us) c.len-last.result)
    (sym (c.as_mut_slice.ensures.value ∙ grown))
    (subst (λ n. MayRise (key_at (ts ++ t ∷ [])) (length (ts ++ t ∷ [])) n) (sym last) (pushed_rises ts t c.requires))
