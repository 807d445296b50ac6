use Rattle.std.proofs.Common.{◌≡◌, ◌≤◌, length}
use Rattle.lalrpop_lexer_regex.specs.Numbers.{hex_to_brace}
use Rattle.lalrpop_lexer_regex.proofs.classes.numbers.hex_to_brace.Given as goal

abbrev pub invariant-loop-character : goal.invariant-loop-character
invariant-loop-character l = record {
  within : l.value ≤ 0x11_0000;
  shorter : length l.rest ≤ length l.fn.text;
  same : hex_to_brace 7 l.fn.start l.fn.text ≡ hex_to_brace l.left l.value l.rest;
}

abbrev pub decreases-loop-character : goal.decreases-loop-character
decreases-loop-character l = length l.rest
