use Rattle.std.proofs.Common.{◌-◌, get_or}
use Rattle.lalrpop_lexer_nfa.proofs.AlphabetClassLemmas.{Splits}
use Rattle.lalrpop_lexer_nfa.proofs.overlap.remove_overlap.Given as goal

abbrev pub invariant-loop-i : goal.invariant-loop-i
invariant-loop-i l = Splits l.ranges.keys l.pieces.items (get_or l.cuts.items (l.i - 1) 0)
