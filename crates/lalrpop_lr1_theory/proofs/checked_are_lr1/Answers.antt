use Rattle.std.proofs.Common.{Contains}
use Rattle.lalrpop_lr1_theory.specs.States.{HasEdge, HasItem, Reduces}
use Rattle.lalrpop_lr1_theory.proofs.CheckedLemmas.{checked_automaton}
use Rattle.lalrpop_lr1_theory.proofs.ValidMoveLemmas.{lr1_from_automaton}
use Rattle.lalrpop_lr1_theory.proofs.checked_are_lr1.Goals as goal

pub returns : goal.returns
returns c = λ grammar s states ok.
    lr1_from_automaton (Contains grammar) s (HasItem states) (HasEdge states) (Reduces states)
    (checked_automaton grammar s states ok).automaton
