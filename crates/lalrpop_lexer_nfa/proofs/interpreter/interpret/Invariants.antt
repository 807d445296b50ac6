use Rattle.std.proofs.Common.{ℕ, List, length}
use Rattle.std.specs.Str.Iter.{chars_rest}
use Rattle.lalrpop_lexer_nfa.proofs.InterpretLemmas.{IsRunning}
use Rattle.lalrpop_lexer_nfa.proofs.interpreter.interpret.Given as goal

abbrev pub invariant-loop-next : goal.invariant-loop-next
invariant-loop-next l = (word : List ℕ) × IsRunning l.nfa l.text (chars_rest l.left) word l.current l.next l.found

abbrev pub decreases-loop-next : goal.decreases-loop-next
decreases-loop-next l = length (chars_rest l.left)
