use Rattle.std.proofs.lemmas.Result.{IfOk-weaker}
use Rattle.lalrpop_grammar_symbols.specs.Views.{terminal_view}
use Rattle.lalrpop_lr1_least_trees.specs.RestForests.{BeginsWith}
use Rattle.lalrpop_lr1_paths.proofs.FoundLemmas.{step_found}
use Rattle.lalrpop_lr1_paths.proofs.completions.wanted_steps.WantedSteps.push_begin.Goals as goal

pub returns : goal.returns
returns c =
    let it = c.args.self.now in
    IfOk-weaker c.push_found.result _ _
    (λ yes h. step_found it.begins.trees.now.table (BeginsWith (terminal_view it.terminal)) c.args.step c.in_ok-found.found
    (λ g of. c.in_ok-found.ensures g of) yes c.args.moves.now.items c.push_found.new.moves.items h) c.push_found.ensures
