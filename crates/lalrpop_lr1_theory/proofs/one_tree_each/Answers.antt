use Rattle.std.proofs.Common.{Contains}
use Rattle.lalrpop_lr1_theory.specs.States.{HasEdge, HasItem, Reduces}
use Rattle.lalrpop_lr1_theory.proofs.CheckedLemmas.{checked_automaton}
use Rattle.lalrpop_lr1_theory.proofs.WalkLemmas.{one_tree}
use Rattle.lalrpop_lr1_theory.proofs.one_tree_each.Goals as goal

pub returns : goal.returns
returns c = λ grammar s states alone ok ts us a b e.
    one_tree (Contains grammar) s (HasItem states) (HasEdge states) (Reduces states)
    (checked_automaton grammar s states ok).automaton alone ts us a b e
