use Rattle.std.proofs.Common.{◌≡◌, map}
use Rattle.lalrpop_lr1_interpret.proofs.interpreting.as_tokens.Given as goal

abbrev pub invariant-loop-terminal : goal.invariant-loop-terminal
invariant-loop-terminal l = map (λ t. t.terminal) l.tokens.items ≡ l.yielded
