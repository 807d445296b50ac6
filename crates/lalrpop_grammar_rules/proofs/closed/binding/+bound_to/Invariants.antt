use Rattle.std.proofs.Common.{length}
use Rattle.lalrpop_grammar_rules.proofs.closed.binding.+bound_to.Given as goal

abbrev pub decreases-bound_to : goal.decreases-bound_to
decreases-bound_to l = length l.binding.args.now
