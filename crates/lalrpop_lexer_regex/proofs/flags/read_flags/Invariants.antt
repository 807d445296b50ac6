use Rattle.std.proofs.Common.{◌≡◌, ◌≤◌, length, true, false}
use Rattle.lalrpop_lexer_regex.specs.FlagSyntax.{flags_from}
use Rattle.lalrpop_lexer_regex.proofs.flags.read_flags.Given as goal

abbrev pub invariant-loop-character : goal.invariant-loop-character
invariant-loop-character l = record {
  shorter : length l.rest ≤ length l.fn.text;
  same : flags_from true false l.fn.before l.fn.text ≡ flags_from l.on l.any l.flags l.rest;
}

abbrev pub decreases-loop-character : goal.decreases-loop-character
decreases-loop-character l = length l.rest
