use Rattle.std.proofs.Common.{◌≡◌, ◌-◌, ◌^◌, length, vec_len}
use Rattle.lalrpop_lexer_nfa.specs.declared.automaton.TheConstants.{START}
use Rattle.lalrpop_lexer_nfa.specs.Paths.{nfa_view}
use Rattle.lalrpop_lexer.specs.StateViews.{edges_in}
use Rattle.lalrpop_lexer.specs.Tables.{AreTables}
use Rattle.lalrpop_lexer.specs.States.{AreNumbered, AreInside}
use Rattle.lalrpop_lexer.proofs.WholeLemmas.{IsExplored}
use Rattle.lalrpop_lexer.proofs.whole.explored_states.Given as goal

abbrev pub invariant-states : goal.invariant-states
invariant-states l = record {
  explored : IsExplored (nfa_view l.nfa) START.0 (length l.edges) l.known.sets (edges_in l.edges);
  tables : AreTables (length l.edges) l.edges l.rows;
  sets : AreInside (vec_len l.nfa.states) l.known.sets;
  numbered : AreNumbered (nfa_view l.nfa) l.known.sets l.known.numbers;
  bound : vec_len l.scratch.places ≡ vec_len l.nfa.states;
}

abbrev pub decreases-states : goal.decreases-states
decreases-states l = 2 ^ vec_len l.nfa.states - length l.edges
