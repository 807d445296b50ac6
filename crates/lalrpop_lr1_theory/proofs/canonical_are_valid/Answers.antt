use Rattle.std.proofs.Common.{Contains}
use Rattle.lalrpop_lr1_theory.specs.States.{HasEdge, HasItem, HasLookahead}
use Rattle.lalrpop_lr1_theory.proofs.CanonicalLemmas.{canonical_valid}
use Rattle.lalrpop_lr1_theory.proofs.canonical_are_valid.Goals as goal

pub returns : goal.returns
returns c = λ grammar s states nb can g n w p i x.
    canonical_valid (Contains grammar) s (HasItem states) (HasEdge states) (HasLookahead states) can.automaton nb g n w p i x
