use Rattle.std.proofs.Common.{◌≡◌, ◌<◌, ◌^◌, drop}
use Rattle.lalrpop_grammar_rules.proofs.DigitLemmas.{level_from}
use Rattle.lalrpop_grammar_rules.proofs.levels.level_of.Given as goal

abbrev pub invariant-loop-byte : goal.invariant-loop-byte
invariant-loop-byte l = record {
  fits : l.number < 2 ^ 32;
  so_far : level_from 0 l.bytes ≡ level_from l.number (drop l.byte-index l.bytes);
}
