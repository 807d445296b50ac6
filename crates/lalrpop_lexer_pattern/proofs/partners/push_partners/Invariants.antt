use Rattle.std.proofs.Common.{length}
use Rattle.lalrpop_lexer_pattern.proofs.PartnerLemmas.{IsUnderWay}
use Rattle.lalrpop_lexer_pattern.proofs.partners.push_partners.Given as goal

abbrev pub invariant-loop-from : goal.invariant-loop-from
invariant-loop-from l = IsUnderWay l.range l.fn.pairs l.rest l.fn.ranges.items l.ranges.items

abbrev pub decreases-loop-from : goal.decreases-loop-from
decreases-loop-from l = length l.rest
