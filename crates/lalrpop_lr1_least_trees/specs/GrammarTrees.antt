-- The rules of a grammar's table, and when a table holds the grammar's least trees.
use Rattle.std.specs.Prelude.{ℕ, Bool, true, false, List, map, ◌≡◌, Option, Some, slice_get}
use Rattle.std.specs.Option.{option_and_then}
use Rattle.lalrpop_grammar_symbols.specs.declared.names.NonterminalString.{NonterminalString}
use Rattle.lalrpop_grammar_repr.specs.Maps.{at_name}
use Rattle.lalrpop_lr1_theory.specs.Productions as theory
use Rattle.lalrpop_lr1_theory.specs.Trees.{Move}
use Rattle.lalrpop_lr1_core.specs.Views.{production_view}
use Rattle.lalrpop_lr1_first.specs.FirstNumbers.{name_count}
use Rattle.lalrpop_lr1_first.specs.NumberedGrammars.{IsNumberTable, table_names, table_productions}
use Rattle.lalrpop_lr1_first.specs.Tables.{pairs_from, rest_of, symbol_of_number}
use Rattle.lalrpop_lr1_first.specs.declared.numbered.Numbered.{Numbered}
use Rattle.lalrpop_lr1_first.specs.declared.place.NumberedRule.{NumberedRule}
use Rattle.lalrpop_lr1_first.specs.declared.place.Place.{Place}
use Rattle.lalrpop_lr1_least_trees.specs.LeastTrees.{AreLeast}
use Rattle.lalrpop_lr1_least_trees.specs.NumberedTrees.{NumberRule, rule_views}
use Rattle.lalrpop_lr1_least_trees.specs.declared.least_counts.counts.LeastTree.{LeastTree}
use Rattle.lalrpop_lr1_least_trees.specs.declared.least_counts.rule.NumberMove.{NumberMove}
use Rattle.lalrpop_lr1_least_trees.specs.Openings.{entry_at}
use Rattle.lalrpop_lr1_least_trees.specs.declared.least_trees.LeastTrees.{LeastTrees}
use Rattle.lalrpop_lr1_least_trees.specs.MoveViews.{IsNumberedMove}

-- a rule with its right side
abbrev pub number_rule : List Place → NumberedRule → NumberRule
number_rule places rule = record { left = rule.left; right = rest_of places rule.start }

abbrev pub number_rules : Numbered → List NumberRule
number_rules table = map (number_rule table.places.items) table.rules.items

-- the symbol with a number, and the productions, by the table
abbrev pub symbols_by : Numbered → ℕ → Option theory.Symbol
symbols_by table = symbol_of_number (table_names table) table.terminals.now

abbrev pub productions_by : Numbered → List theory.Production
productions_by table = map production_view (table_productions table)

abbrev pub production_by : Numbered → ℕ → Option theory.Production
production_by table = slice_get (productions_by table)

-- the trees with leaves, or those without
abbrev pub entries_of : LeastTrees → Bool → List (Option LeastTree)
entries_of it true = it.whole.items
entries_of it false = it.empty.items

-- The names have their numbers, the rules are the table's, and the entries are least trees by them.
pub record AreLeastTrees (it : LeastTrees) : Type 0 where
  pub table : IsNumberTable it.table
  pub numbers : it.numbers ≡ pairs_from 0 (table_names it.table)
  pub rules : rule_views it.rules.items ≡ number_rules it.table
  pub least : (leaves : Bool) → AreLeast (number_rules it.table) (name_count it.table) leaves (entries_of it leaves)

-- the number is some move's, and each of them is
pub record HasName (table : Numbered) (number : NumberMove) : Type 0 where
  pub move : Move
  pub is : IsNumberedMove (symbols_by table) (production_by table) number move

abbrev pub HaveNames : Numbered → List NumberMove → Type 0
HaveNames table numbers = (k : ℕ) (n : NumberMove) → slice_get numbers k ≡ Some n → HasName table n

-- the entry of a name, by its number; none where it has no number
abbrev pub entry_of : LeastTrees → Bool → NonterminalString → Option LeastTree
entry_of it leaves name = option_and_then (entry_at (entries_of it leaves)) (at_name name it.numbers)
