use Rattle.std.proofs.Common.{map, drop, get_or}
use Rattle.lalrpop_lexer_pattern.specs.Meaning.{meaning}
use Rattle.lalrpop_lexer_pattern.specs.Matches.{Matches, Power, concat_all, Pattern}
use Rattle.lalrpop_lexer_nfa.specs.Paths.{nfa_view}
use Rattle.lalrpop_lexer_nfa.specs.Fragments.{IsFragment, AreFragments, UpTo}
use Rattle.lalrpop_lexer_nfa.proofs.automaton.Nfa.+build.Given as goal

abbrev pub invariant-alternation-loop-i : goal.invariant-alternation-loop-i
invariant-alternation-loop-i l =
    AreFragments (nfa_view l.fn.self) (nfa_view l.self) (λ k. Matches (get_or (map meaning l.subs) k Pattern.empty)) l.i l.targets.items
    (λ k. l.accept)

abbrev pub invariant-concat-loop-i : goal.invariant-concat-loop-i
invariant-concat-loop-i l =
    IsFragment (nfa_view l.fn.self) (nfa_view l.self) (Matches (concat_all (map meaning (drop l.i l.subs)))) l.next l.accept

abbrev pub invariant-copies-loop-done : goal.invariant-copies-loop-done
invariant-copies-loop-done l = IsFragment (nfa_view l.fn.self) (nfa_view l.self) (Power (Matches (meaning l.sub)) l.done) l.next l.accept

abbrev pub invariant-up_to-loop-done : goal.invariant-up_to-loop-done
invariant-up_to-loop-done l = IsFragment (nfa_view l.fn.self) (nfa_view l.self) (UpTo (Matches (meaning l.sub)) l.done) l.next l.accept
