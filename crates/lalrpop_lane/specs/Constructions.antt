-- What the construction by lane tables shows and answers: states by lanes, or states with their conflicts.
use Rattle.std.specs.Prelude.{ℕ, ◌≡◌, List, [], flat_map}
use Rattle.lalrpop_grammar_symbols.specs.Symbols.{Text}
use Rattle.lalrpop_grammar_repr.specs.declared.grammar.Grammar.{Grammar}
use Rattle.lalrpop_lr1_core.specs.Conflicts.{token_conflicts}
use Rattle.lalrpop_lr1_core.specs.declared.conflict.Conflict.{Conflict}
use Rattle.lalrpop_lr1_core.specs.declared.state.State.{State}
use Rattle.lalrpop_lr1_core.specs.declared.table_fault.TableFault.{TableFault}
use Rattle.lalrpop_lr1_core.specs.declared.table_fault.TableFault.TheVariants as faults
use Rattle.lalrpop_lane.specs.LaneStates.{AreReducedStates}

-- the grammar whose states are constructed, and the name of its start
pub record ConstructionView : Type 0 where
  pub grammar : Grammar
  pub start : Text

-- states spread over those without lookaheads, each reducing before just what is carried, have conflicts: just these, state by state
pub record HaveLaneConflicts (g : Grammar) (s : Text) (copies : ℕ) (all : List (State (List ℕ))) (conflicts : List (Conflict (List ℕ))) :
    Type 0 where
  pub reduced : AreReducedStates g s copies all
  pub conflicts_are : conflicts ≡ flat_map (token_conflicts g.terminals) all
  pub some : conflicts ≡ [] → ⊥

-- why no states are answered: these have conflicts, or memory ran out
abbrev pub IsLaneFault : Grammar → Text → ℕ → TableFault (List ℕ) → Type 0
IsLaneFault g s copies (faults.Conflicts e) = HaveLaneConflicts g s copies e.states.items e.conflicts.items
IsLaneFault g s copies faults.Memory = Unit {0}
