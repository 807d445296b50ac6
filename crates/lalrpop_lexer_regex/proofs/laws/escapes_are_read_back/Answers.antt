use Rattle.lalrpop_lexer_regex.proofs.EscapingLemmas.{escaped_read_back}
use Rattle.lalrpop_lexer_regex.proofs.laws.escapes_are_read_back.Goals as goal

pub returns : goal.returns
returns c = escaped_read_back
