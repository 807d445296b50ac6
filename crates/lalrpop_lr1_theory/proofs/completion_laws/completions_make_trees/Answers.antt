use Rattle.std.proofs.Common.{Contains}
use Rattle.lalrpop_lr1_theory.specs.States.{HasEdge, HasItem}
use Rattle.lalrpop_lr1_theory.specs.PathTrees.{IsStateOf, LedBy}
use Rattle.lalrpop_lr1_theory.proofs.CompletionMoveLemmas.{continued}
use Rattle.lalrpop_lr1_theory.proofs.completion_laws.completions_make_trees.Goals as goal

pub returns : goal.returns
returns c = λ grammar s states table cover paths g n w f over e p i m us held back us_over us_roots ms left leads.
    continued (Contains grammar) s (HasItem states) (HasEdge states) (LedBy table)
    (IsStateOf states) cover paths g n w f over e p i m us held back
    us_over us_roots ms left leads
