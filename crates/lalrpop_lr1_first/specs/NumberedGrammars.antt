-- When a table of numbers is that of a grammar, and which items and productions of the theory it stands for.
use Rattle.std.specs.Prelude.{◌≡◌, ℕ, ◌+◌, ◌≤◌, List, length, map, Some, slice_get, Contains}
use Rattle.std.specs.List.Sorted.{IsStrictlySortedBy}
use Rattle.lalrpop_grammar_symbols.specs.contracts.names.NonterminalStringOrd.TheImpl as names_order
use Rattle.lalrpop_grammar_symbols.specs.declared.names.NonterminalString.{NonterminalString}
use Rattle.lalrpop_grammar_repr.specs.contracts.production.ProductionOrd.TheImpl as production_order
use Rattle.lalrpop_grammar_repr.specs.declared.grammar.Grammar.{Grammar}
use Rattle.lalrpop_grammar_repr.specs.declared.production.Production.{Production}
use Rattle.lalrpop_lr1_theory.specs.Productions as theory
use Rattle.lalrpop_lr1_core.specs.Views.{production_view}
use Rattle.lalrpop_lr1_first.specs.Listings.{HoldSame, lent}
use Rattle.lalrpop_lr1_core.specs.TheoryGrammars.{productions_of_grammar}
use Rattle.lalrpop_lr1_first.specs.Tables.{AreLaid, HaveNumberedTerminals, IsTerminalSet, pairs_from}
use Rattle.lalrpop_lr1_first.specs.declared.names.NumberedNames.{NumberedNames}
use Rattle.lalrpop_lr1_first.specs.declared.numbered.Numbered.{Numbered}
use Rattle.lalrpop_lr1_first.specs.declared.place.NumberedRule.{NumberedRule}

-- the names are numbered by their places
abbrev pub NamesAreNumbered : NumberedNames → Type 0
NamesAreNumbered names = names.numbers ≡ pairs_from 0 (lent names.listed.items)

-- the grammar's terminals are numbered by their places, and each terminal on a right side is one of them
pub record HasItsTerminals (g : Grammar) : Type 0 where
  pub numbered : IsTerminalSet g.terminals
  pub known : HaveNumberedTerminals g.terminals (productions_of_grammar g)

-- the names of a table, and its productions
abbrev pub table_names : Numbered → List NonterminalString
table_names table = lent table.names.items

abbrev pub table_productions : Numbered → List Production
table_productions table = lent table.productions.items

-- names and productions ascend, so each stands once, and the productions are laid
pub record IsNumberTable (table : Numbered) : Type 0 where
  pub terminals : IsTerminalSet table.terminals.now
  pub names : IsStrictlySortedBy (names_order.ghosts).cmp (table_names table)
  pub productions : IsStrictlySortedBy (production_order.ghosts).cmp (table_productions table)
  pub laid : AreLaid (table_names table) table.terminals.now (table_productions table) table.rules.items table.places.items

-- a table of just the grammar's productions
pub record IsNumberTableOf (g : Grammar) (table : Numbered) : Type 0 where
  pub numbers : IsNumberTable table
  pub terminals : table.terminals.now ≡ g.terminals
  pub productions : HoldSame (table_productions table) (productions_of_grammar g)

-- what the theory sees of some productions
abbrev pub IsSeenIn : List Production → theory.Production → Type 0
IsSeenIn productions p = Contains (map production_view productions) p

-- at the place stands the item: the production with its dot
pub record HasItemAt (table : Numbered) (place : ℕ) (p : theory.Production) (dot : ℕ) : Type 0 where
  pub number : ℕ
  pub rule : NumberedRule
  pub production : Production
  pub at_rule : slice_get table.rules.items number ≡ Some rule
  pub at_production : slice_get (table_productions table) number ≡ Some production
  pub seen : p ≡ production_view production
  pub place_is : place ≡ rule.start + dot
  pub within : dot ≤ length production.symbols
