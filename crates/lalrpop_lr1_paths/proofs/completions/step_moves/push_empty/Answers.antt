use Rattle.std.proofs.lemmas.Result.{IfOk-weaker}
use Rattle.lalrpop_lr1_least_trees.specs.RestForests.{NoLeaves}
use Rattle.lalrpop_lr1_paths.proofs.FoundLemmas.{step_found}
use Rattle.lalrpop_lr1_paths.proofs.completions.step_moves.push_empty.Goals as goal

pub returns : goal.returns
returns c =
    IfOk-weaker c.push_found.result _ _
    (λ yes h. step_found c.args.trees.now.table NoLeaves c.args.step c.in_ok-found.found (λ g of. c.in_ok-found.ensures g of) yes
    c.args.moves.now.items c.push_found.new.moves.items h) c.push_found.ensures
