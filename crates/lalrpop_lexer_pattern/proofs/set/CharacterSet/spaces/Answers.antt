use Rattle.unicode.specs.Perl.{is_space_char}
use Rattle.lalrpop_lexer_pattern.proofs.set.CharacterSet.spaces.Goals as goal

pub returns : goal.returns
returns c = c.from_pairs.ensures is_space_char (rw c.deref.ensures.value c.in_ok-space_ranges.ensures.members)
