use Rattle.lalrpop_lexer_pattern.proofs.SetLemmas.{IsCanonical-from_rising}
use Rattle.lalrpop_lexer_pattern.proofs.set.CharacterSet.into_class.Goals as goal

pub invariant_of-result : goal.invariant_of-result
invariant_of-result c = record { canonical = ∣ IsCanonical-from_rising c.args.self.ranges.items c.args.self.rising ∣₁ }
