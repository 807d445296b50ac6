-- What the laws say of conflicts of canonical states: for those who make certificates.
use Rattle.std.specs.Prelude.{ℕ, List, map, ◌≡◌, Contains, Some, slice_get}
use Rattle.lalrpop_grammar_symbols.specs.Symbols.{Text}
use Rattle.lalrpop_grammar_symbols.specs.declared.names.NonterminalString.{NonterminalString}
use Rattle.lalrpop_grammar_repr.specs.declared.grammar.Grammar.{Grammar}
use Rattle.lalrpop_lr1_theory.specs.Productions as theory
use Rattle.lalrpop_lr1_theory.specs.CanonicalStates.{AreCanonicalStates}
use Rattle.lalrpop_lr1_theory.specs.States.{State}
use Rattle.lalrpop_lr1_theory.specs.ValidItems.{NoneBarren}
use Rattle.lalrpop_lr1_core.specs.Views.{lr_state_view, token_lookahead}
use Rattle.lalrpop_lr1_core.specs.declared.conflict.Conflict.{Conflict}
use Rattle.lalrpop_lr1_core.specs.declared.table_fault.TableConstructionError.{TableConstructionError}
use Rattle.lalrpop_lr1_core.specs.declared.table_fault.TableFault.TheVariants as faults
use Rattle.lalrpop_lr1_first.specs.NumberedGrammars.{HasItsTerminals}
use Rattle.lalrpop_lr1_build.specs.BuiltStates.{IsCanonicalFault}
use Rattle.lalrpop_lr1_core.specs.TheoryGrammars.{theory_grammar}
use Rattle.lalrpop_lr1_paths.specs.declared.completion_steps.completion_graphs.CompletionGraphs.{CompletionGraphs}
use Rattle.lalrpop_lr1_counterexamples.specs.ShownMoves.{AreSteppedStates}
use Rattle.lalrpop_lr1_counterexamples.specs.ConflictMoves.{LacksConflictMoves}
use Rattle.lalrpop_lr1_counterexamples.specs.StandingConflicts.{IsStandingConflict, IsToldConflict}

-- each conflict that is told of canonical states stands there, before the least token of its lookahead
abbrev pub ToldConflictsStand : Type 0
ToldConflictsStand =
    (g : Grammar) (start : NonterminalString) (error : TableConstructionError (List ℕ)) →
    HasItsTerminals g → IsCanonicalFault g start (faults.Conflicts error) → (i : ℕ) (conflict : Conflict (List ℕ)) →
    slice_get error.conflicts.items i ≡ Some conflict →
    IsToldConflict g.terminals (map (lr_state_view (token_lookahead g.terminals)) error.states.items) conflict

-- where nothing is barren, no moves are missing that show a conflict which stands in canonical states
abbrev pub StandingConflictsHaveMoves : Type 0
StandingConflictsHaveMoves =
    (g : Grammar) (s : Text) (states : List State) (ways : CompletionGraphs) (x : theory.Next) (conflict : Conflict (List ℕ)) →
    NoneBarren (Contains (theory_grammar g)) s → AreCanonicalStates (theory_grammar g) s states → AreSteppedStates g s states ways →
    IsStandingConflict states x conflict → LacksConflictMoves g s states ways conflict.state.0 x conflict → ⊥
