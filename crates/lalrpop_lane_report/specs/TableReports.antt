-- The report of what a construction of tables answers.
use Rattle.std.specs.Prelude.{ℕ, List, [], map, Result, Ok, Err, Vec}
use Rattle.std.specs.Global.{Global}
use Rattle.lalrpop_grammar_symbols.specs.Symbols.{Text}
use Rattle.lalrpop_grammar_repr.specs.declared.terminal_set.TerminalSet.{TerminalSet}
use Rattle.lalrpop_lr1_core.specs.declared.state.State.{State}
use Rattle.lalrpop_lr1_core.specs.declared.table_fault.TableFault.{TableFault}
use Rattle.lalrpop_lr1_core.specs.declared.table_fault.TableFault.TheVariants as faults
use Rattle.lalrpop_sets.specs.TokensLeft.{tokens_of}
use Rattle.lalrpop_sets.specs.TokenTexts.{next_text}
use Rattle.lalrpop_lane_report.specs.Reports.{report_of_conflicts, report_of_states}
use Rattle.lalrpop_lane_report.specs.ShownStates.{shown_conflict_of, shown_state}

module _ {L : Type 0} where
  -- memory was not what the construction lacked
  abbrev pub IsNoMemory : Result (Vec (State L) Global) (TableFault L) → Type 0
  IsNoMemory (Ok states) = Unit {0}
  IsNoMemory (Err (faults.Conflicts e)) = Unit {0}
  IsNoMemory (Err faults.Memory) = ⊥

  -- the report of states, or of states with conflicts; there is none where memory ran out
  abbrev pub table_report : (L → List Text) → Result (Vec (State L) Global) (TableFault L) → Text
  table_report tokens (Ok states) = report_of_states (map (shown_state tokens) states.items)
  table_report tokens (Err (faults.Conflicts e)) =
      report_of_conflicts (map (shown_state tokens) e.states.items) (map (shown_conflict_of tokens) e.conflicts.items)
  table_report tokens (Err faults.Memory) = []

-- the texts of the tokens of a set, in order
abbrev pub token_set_texts : TerminalSet → List ℕ → List Text
token_set_texts terminals set = map next_text (tokens_of terminals set)
