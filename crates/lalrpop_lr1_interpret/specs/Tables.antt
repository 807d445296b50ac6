-- What a table of actions says, by its numbers, and when it says what states say: for the machine, and for whoever keeps a table.
use Rattle.std.specs.Prelude.{ℕ, ◌-◌, ◌<◌, ◌≤◌, List, get_or, length, Option, Some, None, ◌≡◌, slice_get, take}
use Rattle.lalrpop_grammar_symbols.specs.Symbols.{Text, Terminal}
use Rattle.lalrpop_grammar_symbols.specs.Views.{terminal_view}
use Rattle.lalrpop_grammar_symbols.specs.declared.names.NonterminalString.{NonterminalString}
use Rattle.lalrpop_grammar_symbols.specs.declared.terminal.TerminalString.{TerminalString}
use Rattle.lalrpop_lr1_theory.specs.Productions.{Next, Production, nonterminal, terminal}
use Rattle.lalrpop_lr1_theory.specs.States.{HasEdge, Reduces, State}
use Rattle.lalrpop_lr1_core.specs.Views.{production_view}
use Rattle.lalrpop_lr1_interpret.specs.Numbers.{HaveOneNumber}
use Rattle.lalrpop_lr1_interpret.specs.declared.parse.action_table.ActionTable.{ActionTable}
use Rattle.lalrpop_lr1_interpret.specs.declared.parse.table_row.NextNumber.{NextNumber}
use Rattle.lalrpop_lr1_interpret.specs.declared.parse.table_row.NextNumber.TheVariants as nexts
use Rattle.lalrpop_lr1_interpret.specs.declared.parse.table_row.NumberedProduction.{NumberedProduction}
use Rattle.lalrpop_lr1_interpret.specs.declared.parse.table_row.PlaceRange.{PlaceRange}
use Rattle.lalrpop_lr1_interpret.specs.declared.parse.table_row.TableAction.{TableAction}
use Rattle.lalrpop_lr1_interpret.specs.declared.parse.table_row.TableAction.TheVariants as actions
use Rattle.lalrpop_lr1_interpret.specs.declared.parse.table_row.TableRow.{TableRow}

-- the place is in the part of a list
abbrev pub IsPlaceIn : PlaceRange → ℕ → Type 0
IsPlaceIn part place = (part.first ≤ place) × (place < part.past)

-- before the terminal with this number the row of the state has the action
pub record HasAction (table : ActionTable) (n k : ℕ) (a : TableAction) : Type 0 where
  pub row : TableRow
  pub place : ℕ
  pub at : slice_get table.rows.items n ≡ Some row
  pub inside : IsPlaceIn row.actions place
  pub key : slice_get table.keys.items place ≡ Some k
  pub action : slice_get table.actions.items place ≡ Some a

-- before the end it reduces by the production
pub record HasEnd (table : ActionTable) (n : ℕ) (r : NumberedProduction) : Type 0 where
  pub row : TableRow
  pub place : ℕ
  pub at : slice_get table.rows.items n ≡ Some row
  pub inside : IsPlaceIn row.ends place
  pub end : slice_get table.ends.items place ≡ Some r

-- by the nonterminal with this number it leads to a state
pub record HasGoto (table : ActionTable) (n k m : ℕ) : Type 0 where
  pub row : TableRow
  pub place : ℕ
  pub at : slice_get table.rows.items n ≡ Some row
  pub inside : IsPlaceIn row.gotos place
  pub key : slice_get table.goto_keys.items place ≡ Some k
  pub target : slice_get table.targets.items place ≡ Some m

-- the number stands under the last ones, so many of them
abbrev pub StandsUnder : List ℕ → ℕ → ℕ → Type 0
StandsUnder numbers count n = let left = take (length numbers - count) numbers in n ≡ get_or left (length left - 1) n

-- parts of rows lie inside the lists
pub record IsRowWithin (table : ActionTable) (row : TableRow) : Type 0 where
  pub actions : row.actions.past ≤ length table.keys.items
  pub ends : row.ends.past ≤ length table.ends.items
  pub gotos : row.gotos.past ≤ length table.goto_keys.items

pub record AreRowsWithin (table : ActionTable) : Type 0 where
  pub rows : (n : ℕ) (row : TableRow) → slice_get table.rows.items n ≡ Some row → IsRowWithin table row
  pub actions : length table.actions.items ≡ length table.keys.items
  pub targets : length table.targets.items ≡ length table.goto_keys.items

-- the production has the number of its nonterminal, and how many symbols it has
pub record IsNumberedProduction (names : List NonterminalString) (r : NumberedProduction) : Type 0 where
  pub name : slice_get names r.nonterminal ≡ Some r.production.now.nonterminal
  pub count : r.length ≡ length r.production.now.symbols

-- the table shifts the terminal, and reduces by the production before what comes next
pub record ShiftsByNumber (table : ActionTable) (n : ℕ) (t : Terminal) (m : ℕ) : Type 0 where
  pub number : ℕ
  pub name : TerminalString
  pub action : HasAction table n number (actions.Shift m)
  pub at : slice_get table.terminals.keys number ≡ Some name
  pub name_is : terminal_view name ≡ t

pub record ReducesByNumber (table : ActionTable) (n : ℕ) (p : Production) (t : Terminal) : Type 0 where
  pub number : ℕ
  pub name : TerminalString
  pub by : NumberedProduction
  pub action : HasAction table n number (actions.Reduce by)
  pub at : slice_get table.terminals.keys number ≡ Some name
  pub name_is : terminal_view name ≡ t
  pub production_is : production_view by.production.now ≡ p

pub record ReducesAtEnd (table : ActionTable) (n : ℕ) (p : Production) : Type 0 where
  pub by : NumberedProduction
  pub end : HasEnd table n by
  pub production_is : production_view by.production.now ≡ p

pub record LeadsByNumber (table : ActionTable) (n : ℕ) (name : Text) (m : ℕ) : Type 0 where
  pub number : ℕ
  pub nonterminal : NonterminalString
  pub leads : HasGoto table n number m
  pub at : slice_get table.nonterminals.keys number ≡ Some nonterminal
  pub name_is : nonterminal.0 ≡ name

-- The table says what the states say: it shifts, reduces and leads on where they do, and nowhere else, each terminal and each
-- nonterminal has one number, and productions have theirs.
pub record IsTableOf (table : ActionTable) (states : List State) : Type 0 where
  pub within : AreRowsWithin table
  pub count : length table.rows.items ≡ length states
  pub one_terminal : HaveOneNumber table.terminals.keys
  pub one_nonterminal : HaveOneNumber table.nonterminals.keys
  pub shifts : (n m : ℕ) (t : Terminal) → ShiftsByNumber table n t m → HasEdge states n (terminal t) m
  pub all_shifts : (n m : ℕ) (t : Terminal) → HasEdge states n (terminal t) m → ShiftsByNumber table n t m
  pub reductions : (n : ℕ) (p : Production) (t : Terminal) → ReducesByNumber table n p t → Reduces states n p (Some t)
  pub all_reductions : (n : ℕ) (p : Production) (t : Terminal) → Reduces states n p (Some t) → ReducesByNumber table n p t
  pub ends : (n : ℕ) (p : Production) → ReducesAtEnd table n p → Reduces states n p None
  pub all_ends : (n : ℕ) (p : Production) → Reduces states n p None → ReducesAtEnd table n p
  pub gotos : (n m : ℕ) (name : Text) → LeadsByNumber table n name m → HasEdge states n (nonterminal name) m
  pub all_gotos : (n m : ℕ) (name : Text) → HasEdge states n (nonterminal name) m → LeadsByNumber table n name m
  pub numbered : (n k : ℕ) (r : NumberedProduction) → HasAction table n k (actions.Reduce r) →
      IsNumberedProduction table.nonterminals.keys r
  pub ends_numbered : (n : ℕ) (r : NumberedProduction) → HasEnd table n r → IsNumberedProduction table.nonterminals.keys r

-- what comes next has the number
abbrev pub IsNextBy : ActionTable → Next → NextNumber → Type 0
IsNextBy table x (nexts.Terminal k) =
    (t : TerminalString) × (x ≡ Some (terminal_view t)) × (slice_get table.terminals.keys k ≡ Some t)
IsNextBy table x nexts.Unknown =
    (t : TerminalString) × (x ≡ Some (terminal_view t)) × ((k : ℕ) → slice_get table.terminals.keys k ≡ Some t → ⊥)
IsNextBy table x nexts.End = x ≡ None

-- what the table does in the state before what comes next
abbrev pub IsActionBefore : ActionTable → ℕ → NextNumber → Option TableAction → Type 0
IsActionBefore table n (nexts.Terminal k) (Some a) = HasAction table n k a
IsActionBefore table n (nexts.Terminal k) None = (a : TableAction) → HasAction table n k a → ⊥
IsActionBefore table n nexts.Unknown (Some a) = ⊥
IsActionBefore table n nexts.Unknown None = Unit {0}
IsActionBefore table n nexts.End (Some (actions.Shift m)) = ⊥
IsActionBefore table n nexts.End (Some (actions.Reduce r)) = HasEnd table n r
IsActionBefore table n nexts.End None = (r : NumberedProduction) → HasEnd table n r → ⊥
