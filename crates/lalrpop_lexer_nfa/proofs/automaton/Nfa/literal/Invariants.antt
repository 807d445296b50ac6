use Rattle.std.proofs.Common.{drop}
use Rattle.lalrpop_lexer_pattern.specs.Matches.{Matches, Pattern}
use Rattle.lalrpop_lexer_nfa.specs.Paths.{nfa_view}
use Rattle.lalrpop_lexer_nfa.specs.Fragments.{IsFragment}
use Rattle.lalrpop_lexer_nfa.proofs.automaton.Nfa.literal.Given as goal

abbrev pub invariant-loop-i : goal.invariant-loop-i
invariant-loop-i l = IsFragment (nfa_view l.fn.self) (nfa_view l.self) (Matches (Pattern.literal (drop l.i l.characters))) l.next l.accept
