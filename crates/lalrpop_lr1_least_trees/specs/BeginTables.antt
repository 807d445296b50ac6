-- What a table of trees that begin with a terminal is, and what its numbers stand for.
use Rattle.std.specs.Prelude.{ℕ, List, length, true, ◌≡◌, Option, Some, None, slice_get}
use Rattle.std.specs.Option.{option_and_then, option_map}
use Rattle.lalrpop_grammar_symbols.specs.Symbols.{Terminal}
use Rattle.lalrpop_grammar_symbols.specs.declared.names.NonterminalString.{NonterminalString}
use Rattle.lalrpop_grammar_symbols.specs.declared.terminal.TerminalString.{TerminalString}
use Rattle.lalrpop_grammar_repr.specs.Maps.{at_name, at_terminal}
use Rattle.lalrpop_lr1_theory.specs.Productions as theory
use Rattle.lalrpop_lr1_theory.specs.Trees.{Move}
use Rattle.lalrpop_lr1_first.specs.FirstNumbers.{name_count}
use Rattle.lalrpop_lr1_first.specs.declared.numbered.Numbered.{Numbered}
use Rattle.lalrpop_lr1_least_trees.specs.LeastTrees.{AreLeast}
use Rattle.lalrpop_lr1_least_trees.specs.NumberedTrees.{rule_views}
use Rattle.lalrpop_lr1_least_trees.specs.Openings.{entry_at}
use Rattle.lalrpop_lr1_least_trees.specs.declared.least_counts.counts.LeastTree.{LeastTree}
use Rattle.lalrpop_lr1_least_trees.specs.declared.least_counts.rule.NumberMove.{NumberMove}
use Rattle.lalrpop_lr1_least_trees.specs.GrammarTrees.{AreLeastTrees, number_rules, production_by, symbols_by}
use Rattle.lalrpop_lr1_least_trees.specs.MoveViews.{IsNumberedMove}
use Rattle.lalrpop_lr1_least_trees.specs.declared.begin_trees.begin_trees.BeginTrees.{BeginTrees}
use Rattle.lalrpop_lr1_least_trees.specs.declared.begin_trees.derived.Derived.{Derived}
use Rattle.lalrpop_lr1_least_trees.specs.declared.begin_trees.derived.DerivedOrigin.{DerivedOrigin}
use Rattle.lalrpop_lr1_least_trees.specs.BeginForests.{IsWanted}
use Rattle.lalrpop_lr1_least_trees.specs.DerivedRules.{AreDerived, all_names, begin_symbol, down}

-- the terminal's place among the grammar's, or the one behind all where it isn't there
abbrev pub place_or_end : Option ℕ → ℕ → ℕ
place_or_end None end = end
place_or_end (Some place) end = place

abbrev pub terminal_place : Numbered → TerminalString → ℕ
terminal_place table t = place_or_end (at_terminal t table.terminals.now.bits) (length table.terminals.now.all)

-- for which symbol and production the numbers of derived rules stand
abbrev pub derived_symbol_by : Numbered → ℕ → Option theory.Symbol
derived_symbol_by table s = symbols_by table (down (name_count table) s)

abbrev pub derived_production_by : Numbered → Derived → ℕ → Option theory.Production
derived_production_by table derived k =
    option_and_then (λ (o : DerivedOrigin). production_by table o.rule) (slice_get derived.origins.items k)

-- the number is some terminal's, the rules are derived from those of the least trees' grammar, and the entries are least trees by them
pub record AreBeginTrees (it : BeginTrees) : Type 0 where
  pub trees : AreLeastTrees it.trees.now
  pub terminal : Terminal
  pub wanted : IsWanted (symbols_by it.trees.now.table) terminal it.wanted
  pub derived : AreDerived (name_count it.trees.now.table) it.wanted (number_rules it.trees.now.table)
      (length (number_rules it.trees.now.table)) it.derived
  pub least : AreLeast (rule_views it.derived.rules.items) (all_names (name_count it.trees.now.table)) true it.begins.items

-- the number that stands for the name's trees that begin with the terminal
abbrev pub begin_number_of : BeginTrees → NonterminalString → Option ℕ
begin_number_of it name = option_map (begin_symbol (name_count it.trees.now.table)) (at_name name it.trees.now.numbers)

abbrev pub begin_entry_of : BeginTrees → NonterminalString → Option LeastTree
begin_entry_of it name = option_and_then (entry_at it.begins.items) (begin_number_of it name)

-- the number is some move's, and each of them is
pub record HasDerivedName (it : BeginTrees) (number : NumberMove) : Type 0 where
  pub move : Move
  pub is : IsNumberedMove (derived_symbol_by it.trees.now.table) (derived_production_by it.trees.now.table it.derived) number move

abbrev pub HaveDerivedNames : BeginTrees → List NumberMove → Type 0
HaveDerivedNames it numbers = (k : ℕ) (n : NumberMove) → slice_get numbers k ≡ Some n → HasDerivedName it n
