use Rattle.unicode.specs.Perl.{is_digit_char}
use Rattle.lalrpop_lexer_pattern.proofs.set.CharacterSet.digits.Goals as goal

pub returns : goal.returns
returns c = c.from_pairs.ensures is_digit_char (rw c.deref.ensures.value c.in_ok-digit_ranges.ensures.members)
