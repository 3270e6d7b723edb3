use Rattle.std.proofs.Common.{inr}
use Rattle.std.proofs.lemmas.Result.{on_ok_weaker}
use Rattle.fixup.proofs.Adding.{all_owed}
use Rattle.fixup.proofs.class.promote_class.Goals as goal

pub returns-clause-owed : goal.returns-clause-owed
returns-clause-owed g c = on_ok_weaker c.list_joins.result (λ listed.
    all_owed c.promote_all.new.book c.args.winners.now c.in_ok-promote_all.ensures.class
    (λ w m. (c.in_ok-promote_all.ensures.promoted.marks w).1 (inr m)) c.clear.new.self.items
    c.list_joins.new.joins.items c.clear.ensures.items listed) c.list_joins.ensures.listed
