-- States by numbers as the theory's relations: their items, edges and lookaheads, and with which kernel they begin.
use Rattle.std.specs.Prelude.{◌≡◌, ◌↔◌, ℕ, List, Some, slice_get}
use Rattle.lalrpop_grammar_symbols.specs.Symbols.{Text}
use Rattle.lalrpop_lr1_theory.specs.Productions as theory
use Rattle.lalrpop_lr1_theory.specs.Automata.{IsBegun, IsBegunBefore}
use Rattle.lalrpop_lr1_core.specs.Views.{next_of_number}
use Rattle.lalrpop_lr1_first.specs.FirstNumbers.{table_end}
use Rattle.lalrpop_lr1_first.specs.ItemTables.{ListsItem, ListsNext}
use Rattle.lalrpop_lr1_first.specs.NumberedGrammars.{HasItemAt, IsSeenIn, table_names, table_productions}
use Rattle.lalrpop_lr1_first.specs.Tables.{symbol_of_number}
use Rattle.lalrpop_lr1_first.specs.declared.numbered.Numbered.{Numbered}
use Rattle.lalrpop_lr1_build.specs.Turns.{HasEdgeByNumber}
use Rattle.lalrpop_lr1_build.specs.declared.states.numbered_states.NumberedState.{NumberedState}

-- the state with this number has the item
pub record HasNumberedItem {L : Type 0} (table : Numbered) (states : List (NumberedState L)) (n : ℕ) (p : theory.Production)
    (d : ℕ) : Type 0 where
  pub state : NumberedState L
  pub at : slice_get states n ≡ Some state
  pub item : ListsItem state.items (HasItemAt table) p d

-- it has the item, and x is in its lookahead
pub record HasNumberedNext {L : Type 0} (marks : L → List ℕ) (table : Numbered) (states : List (NumberedState L)) (n : ℕ)
    (p : theory.Production) (d : ℕ) (x : theory.Next) : Type 0 where
  pub state : NumberedState L
  pub at : slice_get states n ≡ Some state
  pub next : ListsNext marks state.items (next_of_number table.terminals.now) (table_end table) (HasItemAt table) p d x

-- it has an edge by the symbol
pub record HasNumberedEdge {L : Type 0} (table : Numbered) (states : List (NumberedState L)) (n : ℕ) (x : theory.Symbol)
    (m : ℕ) : Type 0 where
  pub number : ℕ
  pub led : HasEdgeByNumber states n number m
  pub symbol : symbol_of_number (table_names table) table.terminals.now number ≡ Some x

-- the items are the start's with the dot in front, before what may follow the start
pub record AreStartItems {L : Type 0} (marks : L → List ℕ) (Start : theory.Next → Type 0) (table : Numbered) (s : Text)
    (items : List (ℕ × L)) : Type 0 where
  pub begun : (p : theory.Production) (d : ℕ) → ListsItem items (HasItemAt table) p d
      ↔ IsBegun (IsSeenIn (table_productions table)) s p d
  pub before : (p : theory.Production) (d : ℕ) (x : theory.Next) →
      ListsNext marks items (next_of_number table.terminals.now) (table_end table) (HasItemAt table) p d x
      ↔ IsBegunBefore Start (IsSeenIn (table_productions table)) s p d x
