use Rattle.std.proofs.Common.{Contains}
use Rattle.lalrpop_lr1_theory.specs.States.{HasEdge, HasItem, HasLookahead}
use Rattle.lalrpop_lr1_theory.proofs.CanonicalLemmas.{look_carried}
use Rattle.lalrpop_lr1_theory.specs.PathTrees.{IsStateOf, LedBy}
use Rattle.lalrpop_lr1_theory.proofs.PathLemmas.{walk_by_edges}
use Rattle.lalrpop_lr1_theory.proofs.CompletionLemmas.{carried_out}
use Rattle.lalrpop_lr1_theory.proofs.completion_laws.lookaheads_have_completions.Goals as goal

pub returns : goal.returns
returns c = λ grammar s states table nb can paths n p i x look.
    let walk = paths.all n (look.state, look.at) in
    let r = carried_out (Contains grammar) s (HasItem states) (HasEdge states) (LedBy table)
    (IsStateOf states) can.automaton.cover paths nb walk.0 n
    walk.1 p i x
    (look_carried (Contains grammar) s (HasItem states) (HasEdge states) (HasLookahead states) can.automaton nb walk.0 n
    (walk_by_edges (HasEdge states) (LedBy table) (IsStateOf states) paths walk.0 n walk.1) p i x look) in
    (r.state, r.back, r.out)
