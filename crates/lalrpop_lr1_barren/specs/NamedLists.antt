-- The productions of each name, by the name's number: for the parts of the test of states that ask for a name's productions.
use Rattle.std.specs.Prelude.{ℕ, ◌≡◌, ◌<◌, List, [], map, length, Contains, Some, slice_get, slice_index_or, Vec}
use Rattle.std.specs.Global.{Global}
use Rattle.std.specs.Borrow.{Bor}
use Rattle.lalrpop_grammar_symbols.specs.declared.names.NonterminalString.{NonterminalString}
use Rattle.lalrpop_grammar_repr.specs.declared.production.Production.{Production}
use Rattle.lalrpop_lr1_first.specs.FirstNumbers.{name_count}
use Rattle.lalrpop_lr1_first.specs.Listings.{lent}
use Rattle.lalrpop_lr1_first.specs.NumberedGrammars.{IsNumberTable, table_names, table_productions}
use Rattle.lalrpop_lr1_first.specs.declared.numbered.Numbered.{Numbered}
use Rattle.lalrpop_lr1_barren.specs.declared.reachable.named.NamedProductions.{NamedProductions}

-- the lists of productions
abbrev pub production_lists : List (Vec (Bor Production) Global) → List (List Production)
production_lists lists = map (λ list. lent list.items) lists

-- the lists, one for each name, hold the first productions, each under its name, and none that isn't there
pub record AreNamedLists (table : Numbered) (lists : List (List Production)) (count : ℕ) : Type 0 where
  pub long : length lists ≡ name_count table
  pub all : (r s : ℕ) (p : Production) → r < count → slice_get (table_productions table) r ≡ Some p →
      slice_get (table_names table) s ≡ Some p.nonterminal → Contains (slice_index_or lists s []) p
  pub within : (s : ℕ) (p : Production) → Contains (slice_index_or lists s []) p → Contains (table_productions table) p

-- a table with the lists of all of its productions
pub record AreListedByName (named : NamedProductions) : Type 0 where
  pub table : IsNumberTable named.table.now
  pub lists : AreNamedLists named.table.now (production_lists named.lists.items) (length (table_productions named.table.now))

-- some of the productions, among them all of this name
pub record HoldsNamed (productions : List Production) (name : NonterminalString) (listed : List Production) : Type 0 where
  pub within : (p : Production) → Contains listed p → Contains productions p
  pub all : (p : Production) → Contains productions p → p.nonterminal ≡ name → Contains listed p
