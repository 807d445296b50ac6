-- What a tracer shows: what its traces go over, the table that they go into, and whether memory was refused.
use Rattle.std.specs.Prelude.{Bool, List}
use Rattle.lalrpop_grammar_symbols.specs.Symbols.{Text}
use Rattle.lalrpop_grammar_repr.specs.declared.grammar.Grammar.{Grammar}
use Rattle.lalrpop_lr1_core.specs.declared.state.State.{State}
use Rattle.lalrpop_lane_tables.specs.TableViews.{TableView}

-- a grammar with the name of its start, the states over which traces go, and the table
pub record TracerView (L : Type 0) : Type 0 where
  pub grammar : Grammar
  pub start : Text
  pub states : List (State L)
  pub table : TableView
  pub refused : Bool
