use Rattle.lalrpop_lexer_regex.proofs.ComplementLemmas.{caret_rest, digit_set, digit_rest, space_set, space_rest, word_set}
use Rattle.lalrpop_lexer_regex.proofs.ComplementLemmas.{word_rest, name_read}
use Rattle.lalrpop_lexer_regex.proofs.print_law.complements_match_what_is_left.Goals as goal

pub returns : goal.returns
returns c = record {
  carets = caret_rest;
  digits = digit_set;
  no_digits = digit_rest;
  spaces = space_set;
  no_spaces = space_rest;
  words = word_set;
  no_words = word_rest;
  properties = name_read;
}
