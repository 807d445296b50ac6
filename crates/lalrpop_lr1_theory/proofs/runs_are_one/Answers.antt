use Rattle.std.proofs.Common.{Contains}
use Rattle.lalrpop_lr1_theory.specs.Trees.{none}
use Rattle.lalrpop_lr1_theory.specs.States.{HasEdge, HasItem, Reduces}
use Rattle.lalrpop_lr1_theory.proofs.CheckedLemmas.{checked_automaton}
use Rattle.lalrpop_lr1_theory.proofs.RunLemmas.{runs_one}
use Rattle.lalrpop_lr1_theory.proofs.runs_are_one.Goals as goal

pub returns : goal.returns
returns c = λ grammar s states ok ms ns tokens f g v w a b e.
    runs_one (Contains grammar) s (HasItem states) (HasEdge states) (Reduces states)
    (checked_automaton grammar s states ok).automaton ms ns none tokens f g v w a b e
