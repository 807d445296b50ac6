use Rattle.lalrpop_lexer_regex.proofs.PrintLemmas.{printed_read_back}
use Rattle.lalrpop_lexer_regex.proofs.print_law.printed_patterns_are_read_back.Goals as goal

pub returns : goal.returns
returns c = printed_read_back
