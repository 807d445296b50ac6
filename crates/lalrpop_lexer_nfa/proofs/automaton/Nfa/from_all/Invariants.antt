use Rattle.std.proofs.Common.{◌+◌, map, get_or}
use Rattle.lalrpop_lexer_pattern.specs.Meaning.{meaning}
use Rattle.lalrpop_lexer_pattern.specs.Matches.{Matches, Pattern}
use Rattle.lalrpop_lexer_nfa.specs.Paths.{nfa_view}
use Rattle.lalrpop_lexer_nfa.specs.Fragments.{AreFragments}
use Rattle.lalrpop_lexer_nfa.proofs.automaton.Nfa.from_all.Given as goal

abbrev pub invariant-loop-i : goal.invariant-loop-i
invariant-loop-i l =
    AreFragments (nfa_view l.initial.nfa) (nfa_view l.nfa) (λ k. Matches (get_or (map meaning l.patterns) k Pattern.empty)) l.i
    l.firsts.items (λ k. 3 + k)
