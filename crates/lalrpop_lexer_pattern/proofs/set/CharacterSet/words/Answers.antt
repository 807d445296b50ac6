use Rattle.unicode.specs.Perl.{is_word_char}
use Rattle.lalrpop_lexer_pattern.proofs.set.CharacterSet.words.Goals as goal

pub returns : goal.returns
returns c = c.from_pairs.ensures is_word_char (rw c.deref.ensures.value c.in_ok-word_ranges.ensures.members)
