-- What a report shows of states and of their conflicts: texts alone, so that the report says nothing of lookaheads' types or of terminals' numbers.
use Rattle.std.specs.Prelude.{ℕ, List, map}
use Rattle.std.specs.Borrow.{Bor}
use Rattle.lalrpop_grammar_symbols.specs.Symbols.{Text}
use Rattle.lalrpop_grammar_symbols.specs.Texts.{terminal_text}
use Rattle.lalrpop_grammar_symbols.specs.Views.{terminal_view}
use Rattle.lalrpop_grammar_symbols.specs.declared.names.NonterminalString.{NonterminalString}
use Rattle.lalrpop_grammar_symbols.specs.declared.terminal.TerminalString.{TerminalString}
use Rattle.lalrpop_grammar_repr.specs.declared.production.Production.{Production}
use Rattle.lalrpop_lr1_core.specs.Dots.{before_dot, behind_dot}
use Rattle.lalrpop_lr1_core.specs.ItemTexts.{production_symbol_text}
use Rattle.lalrpop_lr1_core.specs.declared.conflict.Action.{Action}
use Rattle.lalrpop_lr1_core.specs.declared.conflict.Action.TheVariants as actions
use Rattle.lalrpop_lr1_core.specs.declared.conflict.Conflict.{Conflict}
use Rattle.lalrpop_lr1_core.specs.declared.item.Item.{Item}
use Rattle.lalrpop_lr1_core.specs.declared.state.State.{State}
use Rattle.lalrpop_lr1_core.specs.declared.state_index.StateIndex.{StateIndex}

-- a production: its nonterminal, and its symbols
pub record ShownProduction : Type 0 where
  pub left : Text
  pub right : List Text

-- an item: its nonterminal, the symbols before the dot and those behind it, and the tokens that may follow
pub record ShownItem : Type 0 where
  pub left : Text
  pub before : List Text
  pub behind : List Text
  pub lookahead : List Text

-- a reduction, with the tokens before which it is made
pub record ShownReduction : Type 0 where
  pub production : ShownProduction
  pub lookahead : List Text

-- a symbol, and where it leads
pub record ShownEdge : Type 0 where
  pub symbol : Text
  pub to : ℕ

-- the other action of a conflict
pub data ShownAction : Type 0 where
  shifts : ShownEdge → ShownAction
  reduces : ShownProduction → ShownAction

pub record ShownConflictOf : Type 0 where
  pub state : ℕ
  pub production : ShownProduction
  pub action : ShownAction
  pub lookahead : List Text

pub record ShownState : Type 0 where
  pub index : ℕ
  pub items : List ShownItem
  pub reductions : List ShownReduction
  pub shifts : List ShownEdge
  pub gotos : List ShownEdge

abbrev pub shown_production : Production → ShownProduction
shown_production p = record { left = p.nonterminal.0; right = map production_symbol_text p.symbols }

abbrev pub shown_shift : TerminalString × StateIndex → ShownEdge
shown_shift e = record { symbol = terminal_text (terminal_view e.0); to = e.1.0 }

abbrev pub shown_goto : NonterminalString × StateIndex → ShownEdge
shown_goto e = record { symbol = e.0.0; to = e.1.0 }

abbrev pub shown_action : Action → ShownAction
shown_action (actions.Shift t s) = ShownAction.shifts (shown_shift (t, s))
shown_action (actions.Reduce p) = ShownAction.reduces (shown_production p.now)

-- where a lookahead is shown by the texts of its tokens
module _ {L : Type 0} (tokens : L → List Text) where
  abbrev pub shown_item : Item L → ShownItem
  shown_item i = record {
    left = i.production.now.nonterminal.0;
    before = map production_symbol_text (before_dot i);
    behind = map production_symbol_text (behind_dot i);
    lookahead = tokens i.lookahead;
  }

  abbrev pub shown_reduction : L × Bor Production → ShownReduction
  shown_reduction r = record { production = shown_production r.1.now; lookahead = tokens r.0 }

  abbrev pub shown_conflict_of : Conflict L → ShownConflictOf
  shown_conflict_of c = record {
    state = c.state.0;
    production = shown_production c.production.now;
    action = shown_action c.action;
    lookahead = tokens c.lookahead;
  }

  abbrev pub shown_state : State L → ShownState
  shown_state s = record {
    index = s.index.0;
    items = map shown_item s.items.vec;
    reductions = map shown_reduction s.reductions;
    shifts = map shown_shift s.shifts;
    gotos = map shown_goto s.gotos;
  }
