use Rattle.std.proofs.Common.{None, ap, ◌∙◌}
use Rattle.lalrpop_sets.specs.Ranges.{token_numbers}
use Rattle.lalrpop_sets.proofs.TokenSetLemmas.{no_ranges, tokens_nil}
use Rattle.lalrpop_sets.proofs.token_set.TokenSet.without_room.Goals as goal

pub invariant_of-result : goal.invariant_of-result
invariant_of-result c = no_ranges c.new.result.items _ c.new.ensures.items

pub returns : goal.returns
returns c = ap (λ rs. token_numbers rs None) c.new.ensures.items ∙ tokens_nil
