use Rattle.unicode.specs.Sets.{in_set}
use Rattle.lalrpop_lexer_pattern.proofs.set.CharacterSet.with_property.Goals as goal

pub returns : goal.returns
returns c = c.from_pairs.ensures (in_set c.args.property) (rw c.deref.ensures.value c.in_ok-ranges.ensures.members)
