use Rattle.std.proofs.Common.{◌≡◌, ◌≤◌, length}
use Rattle.lalrpop_lexer_regex.specs.Numbers.{hex_from}
use Rattle.lalrpop_lexer_regex.proofs.classes.numbers.hex_digits.Given as goal

abbrev pub invariant-loop-left : goal.invariant-loop-left
invariant-loop-left l = record {
  within : l.value ≤ 0x11_0000;
  shorter : length l.rest ≤ length l.fn.text;
  same : hex_from l.fn.count 0 l.fn.text ≡ hex_from l.left l.value l.rest;
}

abbrev pub decreases-loop-left : goal.decreases-loop-left
decreases-loop-left l = l.left
