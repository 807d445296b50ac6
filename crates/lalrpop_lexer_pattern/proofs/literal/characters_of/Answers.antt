use Rattle.std.proofs.Common.{rules}
use Rattle.std.proofs.lemmas.Str.{chars_from_encodes}
use Rattle.lalrpop_lexer_pattern.proofs.literal.characters_of.Goals as goal

pub returns : goal.returns
returns c = search (rules, chars_from_encodes)
