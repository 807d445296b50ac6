use Rattle.lalrpop_lexer_scan.proofs.FillLemmas.{tokens_fill, tokens_stand}
use Rattle.lalrpop_lexer_scan.proofs.laws.tokens_fill_their_text.Goals as goal

pub returns : goal.returns
returns c = record { filled = tokens_fill; placed = tokens_stand }
