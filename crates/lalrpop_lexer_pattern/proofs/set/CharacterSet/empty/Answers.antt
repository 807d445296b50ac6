use Rattle.std.proofs.Common.{ap, ◌∙◌}
use Rattle.lalrpop_lexer_pattern.specs.Sets.{rises_from}
use Rattle.lalrpop_lexer_pattern.proofs.SetLemmas.{rises_from-nil}
use Rattle.lalrpop_lexer_pattern.proofs.set.CharacterSet.empty.Goals as goal

pub invariant_of-result : goal.invariant_of-result
invariant_of-result c = record { rising = ap (rises_from 0) c.new.ensures.items ∙ rises_from-nil 0 }
