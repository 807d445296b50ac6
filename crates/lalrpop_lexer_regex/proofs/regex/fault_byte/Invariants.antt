use Rattle.std.proofs.Common.{◌≡◌, length, take}
use Rattle.std.specs.Prelude.{encode_utf8_all}
use Rattle.lalrpop_lexer_regex.proofs.regex.fault_byte.Given as goal

abbrev pub invariant-loop-i : goal.invariant-loop-i
invariant-loop-i l = l.at ≡ length (encode_utf8_all (take l.i l.characters))
