use Rattle.std.proofs.Common.{◌≡◌, ℕ, [], take, length, get_or}
use Rattle.lalrpop_lexer_nfa.specs.Labels.{front_from}
use Rattle.lalrpop_lexer_nfa.specs.Paths.{nfa_view}
use Rattle.lalrpop_lexer.specs.Targets.{items_at, AreTargets}
use Rattle.lalrpop_lexer.proofs.TargetLemmas.{AreGathered}
use Rattle.lalrpop_lexer.proofs.moves.moves.Given as goal

abbrev pub invariant-loop-made : goal.invariant-loop-made
invariant-loop-made l = record { size : length l.targets.items ≡ l.made; empty : (i : ℕ) → items_at l.targets.items i ≡ [] }

abbrev pub invariant-loop-i : goal.invariant-loop-i
invariant-loop-i l = AreTargets (nfa_view l.nfa) (take l.i l.set) l.pieces l.targets.items

abbrev pub invariant-loop-edge : goal.invariant-loop-edge
invariant-loop-edge l =
    AreGathered (nfa_view l.nfa) l.nfa.edges.test_edges.items (front_from l.edge-iterator.from.0 l.edge-iterator.edges.now) (take l.i l.set)
    (get_or l.set l.i 0) l.pieces l.targets.items
