use Rattle.std.proofs.Common.{◌≡◌, ◌++◌, drop}
use Rattle.std.specs.Prelude.{flat_map}
use Rattle.lalrpop_grammar_repr.specs.Maps.{at_terminal}
use Rattle.lalrpop_sets.specs.declared.token.Token.TheVariants as tokens
use Rattle.lalrpop_lr1_core.specs.Conflicts.{shift_conflict}
use Rattle.lalrpop_lr1_core.proofs.token_lookahead.Shift.add_conflicts.Given as goal

abbrev pub invariant-loop-reduction : goal.invariant-loop-reduction
invariant-loop-reduction l =
    let one = shift_conflict l.self.state (l.self.terminal.now, l.self.target)
    (at_terminal l.self.terminal.now l.self.terminals.now.bits) in
    (l.token ≡ tokens.Terminal l.self.terminal.now)
    × (l.conflicts.items ++ flat_map one (drop l.reduction-index l.reductions) ≡ l.initial.conflicts.items ++ flat_map one l.reductions)
