use Rattle.std.proofs.Common.{rules, ◌≡◌, ◌++◌, ◌∷◌, [], List, ℕ}
use Rattle.std.proofs.lemmas.List.{get_or_read}
use Rattle.weight_classes.specs.declared.buckets.Bucket.{Bucket}
use Rattle.weight_classes.specs.declared.ids.Ids.TheVariants.{Empty}
use Rattle.weight_classes.proofs.Chains.{bucket_indexed}
use Rattle.weight_classes.proofs.buckets.bucket_of.Goals as goal

pub returns-clause-indexed : goal.returns-clause-indexed
returns-clause-indexed c =
    let heads : List ℕ = c.args.heads.now.items in
    let bs : List Bucket = c.args.buckets.now.items in
    let b : Bucket = record { weight = c.args.weight; hops = c.args.hops; next = c.index.result.now; ids = Empty } in
    let grown : c.push.new.self.items ≡ bs ++ b ∷ [] = search rules in
    bucket_indexed heads bs c.push.new.self.items b c.cell-cell.result c.len-len.result c.requires.indexed
    (search rules) c.if-len.false (search rules) (search rules) (search rules)
    (get_or_read heads c.cell-cell.result c.index.result.now (search rules) c.index.ensures 0) grown
