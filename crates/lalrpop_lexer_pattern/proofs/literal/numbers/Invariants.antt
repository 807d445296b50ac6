use Rattle.std.proofs.Common.{◌≡◌, take}
use Rattle.lalrpop_lexer_pattern.proofs.literal.numbers.Given as goal

abbrev pub invariant-loop-character : goal.invariant-loop-character
invariant-loop-character l = l.numbers.items ≡ take l.character-index l.characters
