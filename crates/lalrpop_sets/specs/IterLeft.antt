-- The tokens that an iterator has still to give.
use Rattle.std.specs.Prelude.{List}
use Rattle.lalrpop_sets.specs.RangeWalks.{numbers_to_come}
use Rattle.lalrpop_sets.specs.TokensLeft.{known_tokens}
use Rattle.lalrpop_sets.specs.declared.token.Token.{Token}
use Rattle.lalrpop_sets.specs.declared.token_set_iter.TokenSetIter.{TokenSetIter}

abbrev pub tokens_to_come : TokenSetIter → List Token
tokens_to_come it = known_tokens it.terminals.now (numbers_to_come it.walk)
