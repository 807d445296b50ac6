use Rattle.lalrpop_lexer_nfa.proofs.CoverLemmas.{ReachesSome}
use Rattle.lalrpop_lexer_nfa.proofs.overlap.furthest_ends.Given as goal

abbrev pub invariant-loop-i : goal.invariant-loop-i
invariant-loop-i l = ReachesSome l.ordered l.ends.items l.i l.furthest
