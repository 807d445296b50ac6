use Rattle.std.proofs.Common.{subst}
use Rattle.lalrpop_lr1_least_trees.proofs.TableLemmas.{production_read}
use Rattle.lalrpop_lr1_least_trees.proofs.table.production_at.Goals as goal
use Rattle.std.proofs.Common.{◌≡◌, get_or}

pub returns : goal.returns
returns c =
    let p = c.index-productions-number.result in
    production_read c.args.table.now.productions.items c.args.number p c.requires
    (subst (λ ps. p ≡ get_or ps c.args.number p) c.productions-productions.ensures c.index-productions-number.is)
