use Rattle.std.proofs.Common.{Contains}
use Rattle.lalrpop_lr1_theory.specs.States.{HasEdge, HasItem}
use Rattle.lalrpop_lr1_theory.proofs.PassLemmas.{some_carried}
use Rattle.lalrpop_lr1_theory.specs.PathTrees.{IsStateOf, LedBy}
use Rattle.lalrpop_lr1_theory.proofs.PathLemmas.{walk_by_edges}
use Rattle.lalrpop_lr1_theory.proofs.CompletionLemmas.{carried_out}
use Rattle.lalrpop_lr1_theory.proofs.completion_laws.items_have_completions.Goals as goal

pub returns : goal.returns
returns c = λ grammar s states table nb can paths n p i held.
    let walk = paths.all n (held.state, held.at) in
    let k = some_carried (Contains grammar) s (HasItem states) (HasEdge states) can.automaton.cover nb walk.0 n
    (walk_by_edges (HasEdge states) (LedBy table) (IsStateOf states) paths walk.0 n walk.1) p i held in
    let r = carried_out (Contains grammar) s (HasItem states) (HasEdge states) (LedBy table)
    (IsStateOf states) can.automaton.cover paths nb walk.0 n
    walk.1 p i k.0 k.1 in
    (r.state, r.back, k.0, r.out)
