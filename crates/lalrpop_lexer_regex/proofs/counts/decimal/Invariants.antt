use Rattle.std.proofs.Common.{◌≡◌, ◌≤◌, length}
use Rattle.lalrpop_lexer_regex.specs.Counts.{decimal_from}
use Rattle.lalrpop_lexer_regex.proofs.counts.decimal.Given as goal

abbrev pub invariant-loop-character : goal.invariant-loop-character
invariant-loop-character l = record {
  within : l.value ≤ 1001;
  shorter : length l.rest ≤ length l.fn.text;
  same : decimal_from l.fn.start l.fn.text ≡ decimal_from l.value l.rest;
}

abbrev pub decreases-loop-character : goal.decreases-loop-character
decreases-loop-character l = length l.rest
