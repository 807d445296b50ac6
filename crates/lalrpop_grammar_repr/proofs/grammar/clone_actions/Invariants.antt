use Rattle.std.proofs.Common.{◌≡◌, take}
use Rattle.lalrpop_grammar_repr.proofs.grammar.clone_actions.Given as goal

abbrev pub invariant-loop-action : goal.invariant-loop-action
invariant-loop-action l = l.copy ≡ take l.action-index l.actions
