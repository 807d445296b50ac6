-- What the theory of tables sees of productions, items and states: for all that builds, tests or runs states.
use Rattle.std.specs.Prelude.{ℕ, ◌+◌, false, List, [], map, filter, slice_get, option_map}
use Rattle.std.specs.List.{range_with_len}
use Rattle.std.specs.Borrow.{Bor}
use Rattle.lalrpop_grammar_symbols.specs.Symbols.{Text, Terminal}
use Rattle.lalrpop_grammar_symbols.specs.Views.{terminal_view}
use Rattle.lalrpop_grammar_symbols.specs.declared.names.NonterminalString.{NonterminalString}
use Rattle.lalrpop_grammar_symbols.specs.declared.terminal.TerminalString.{TerminalString}
use Rattle.lalrpop_grammar_repr.specs.declared.production.Production.{Production}
use Rattle.lalrpop_grammar_repr.specs.declared.production.Symbol.{Symbol}
use Rattle.lalrpop_grammar_repr.specs.declared.production.Symbol.TheVariants as symbols
use Rattle.lalrpop_grammar_repr.specs.declared.terminal_set.TerminalSet.{TerminalSet}
use Rattle.lalrpop_lr1_theory.specs.Productions as theory
use Rattle.lalrpop_lr1_theory.specs.States as states
use Rattle.lalrpop_sets.specs.AscendingLists.{has}
use Rattle.lalrpop_sets.specs.Tokens.{eof_number}
use Rattle.lalrpop_sets.specs.declared.nil.Nil.{Nil}
use Rattle.lalrpop_lr1_core.specs.declared.state_index.StateIndex.{StateIndex}
use Rattle.lalrpop_lr1_core.specs.declared.item.Item.{Item}
use Rattle.lalrpop_lr1_core.specs.declared.state.State.{State}

-- a symbol of a right side
abbrev pub production_symbol_view : Symbol → theory.Symbol
production_symbol_view (symbols.Nonterminal n) = theory.nonterminal n.0
production_symbol_view (symbols.Terminal t) = theory.terminal (terminal_view t)

-- a production, labelled by the number of its action and by its span
abbrev pub production_view : Production → theory.Production
production_view p = record {
  left = p.nonterminal.0;
  right = map production_symbol_view p.symbols;
  action = p.action.0;
  from = p.span.0;
  to = p.span.1;
}

-- what comes next, by its number: a terminal by its place in the grammar's terminals, then the end
abbrev pub next_of_number : TerminalSet → ℕ → theory.Next
next_of_number ts k = option_map terminal_view (slice_get ts.all k)

-- a set of tokens over the grammar's terminals, in order
abbrev pub token_lookahead : TerminalSet → List ℕ → states.LookaheadSet
token_lookahead ts s = record {
  nexts = map (next_of_number ts) (filter (has s) (range_with_len 0 (eof_number ts + 1)));
  error = has s (eof_number ts + 1);
}

-- no lookahead
abbrev pub nil_lookahead : Nil → states.LookaheadSet
nil_lookahead n = record { nexts = []; error = false }

abbrev pub shift_view : TerminalString × StateIndex → Terminal × ℕ
shift_view e = (terminal_view e.0, e.1.0)

abbrev pub goto_view : NonterminalString × StateIndex → Text × ℕ
goto_view e = (e.0.0, e.1.0)

module _ {L : Type 0} (look : L → states.LookaheadSet) where
  -- an item, where lookaheads are seen like that
  abbrev pub lr_item_view : Item L → states.Item
  lr_item_view item =
      record { production = production_view item.production.now; dot = item.index; lookahead = look item.lookahead }

  abbrev pub reduction_view : L × Bor Production → states.Reduction
  reduction_view r = record { production = production_view r.1.now; lookahead = look r.0 }

  -- a state, where lookaheads are seen like that
  abbrev pub lr_state_view : State L → states.State
  lr_state_view s = record {
    index = s.index.0;
    items = map lr_item_view s.items.vec;
    shifts = map shift_view s.shifts;
    gotos = map goto_view s.gotos;
    reductions = map reduction_view s.reductions;
  }
