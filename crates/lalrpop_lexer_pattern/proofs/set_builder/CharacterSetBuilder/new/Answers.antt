use Rattle.lalrpop_lexer_pattern.proofs.SetLemmas.{ranges_of-nil}
use Rattle.lalrpop_lexer_pattern.proofs.set_builder.CharacterSetBuilder.new.Goals as goal

pub returns : goal.returns
returns c = ranges_of-nil _ c.new.ensures.items
