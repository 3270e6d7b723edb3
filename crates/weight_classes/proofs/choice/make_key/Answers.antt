use Rattle.std.proofs.Common.{◌∙◌, sym, ap, ◌+◌, ◌*◌, ℕ}
use Rattle.weight_classes.specs.declared.choice.Key.{Key}
use Rattle.weight_classes.specs.Classes.{first_of}
use Rattle.weight_classes.proofs.Rows.{key_is, ends_of_live}
use Rattle.weight_classes.proofs.choice.make_key.Goals as goal

pub returns-clause-is : goal.returns-clause-is
returns-clause-is c =
    let a = c.args.arena.now in
    let id = c.args.id in
    let k = key_is a id c.first.result c.last.result c.first.ensures.value c.last.ensures.value in
    ap (λ (p : ℕ). let key : Key = record { place = p; id = id } in key)
    (ap (λ z. z * c.args.n + c.last.result) (sym k.0)
    ∙ ap (λ z. first_of a id * z + c.last.result) (sym c.requires.vertices)
    ∙ ap (λ z. first_of a id * a.vertices + z) (sym k.1))

pub returns-clause-ends : goal.returns-clause-ends
returns-clause-ends c =
    ends_of_live c.args.arena.now c.args.id c.first.result c.first.ensures.lawful c.requires.live c.first.ensures.value
