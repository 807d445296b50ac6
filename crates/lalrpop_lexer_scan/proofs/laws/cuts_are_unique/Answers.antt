use Rattle.lalrpop_lexer_scan.proofs.CutLemmas.{same_pieces, same_tokens, same_place, never_both}
use Rattle.lalrpop_lexer_scan.proofs.laws.cuts_are_unique.Goals as goal

pub returns : goal.returns
returns c = record { pieces = same_pieces; tokens = same_tokens; places = same_place; never_both = never_both }
