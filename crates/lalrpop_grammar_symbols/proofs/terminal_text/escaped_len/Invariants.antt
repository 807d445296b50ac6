use Rattle.std.proofs.Common.{◌≡◌, ◌-◌, ◌^◌, take, length}
use Rattle.std.specs.Prelude.{min}
use Rattle.lalrpop_grammar_symbols.specs.Texts.{escape}
use Rattle.lalrpop_grammar_symbols.proofs.terminal_text.escaped_len.Given as goal

abbrev pub invariant-loop-byte : goal.invariant-loop-byte
invariant-loop-byte l = l.len ≡ min (length (escape (take l.byte-index l.byte-items))) (2 ^ 64 - 1)
