-- Which items of a list the theory sees, and which names stand behind the dots of those that have moved: for the names that items bring.
use Rattle.std.specs.Prelude.{ℕ, ◌≡◌, List, Contains, Option, None, Some, if◌then◌else◌, slice_get}
use Rattle.lalrpop_grammar_symbols.specs.declared.names.NonterminalString.{NonterminalString}
use Rattle.lalrpop_grammar_repr.specs.declared.production.Symbol.{Symbol}
use Rattle.lalrpop_grammar_repr.specs.declared.production.Symbol.TheVariants as symbols
use Rattle.lalrpop_lr1_theory.specs.Productions as theory
use Rattle.lalrpop_lr1_core.specs.Dots.{at_dot, has_moved}
use Rattle.lalrpop_lr1_core.specs.Views.{production_view}
use Rattle.lalrpop_lr1_core.specs.declared.item.Item.{Item}
use Rattle.lalrpop_lr1_first.specs.NumberedGrammars.{table_names}
use Rattle.lalrpop_lr1_first.specs.declared.numbered.Numbered.{Numbered}

-- one of the items is seen as this one
pub record HasSeenItem {L : Type 0} (items : List (Item L)) (p : theory.Production) (i : ℕ) : Type 0 where
  pub item : Item L
  pub listed : Contains items item
  pub production : production_view item.production.now ≡ p
  pub dot : item.index ≡ i

-- the name of a symbol that is a nonterminal
abbrev pub name_of_symbol : Option Symbol → Option NonterminalString
name_of_symbol None = None
name_of_symbol (Some (symbols.Nonterminal n)) = Some n
name_of_symbol (Some (symbols.Terminal t)) = None

-- the name behind the dot of an item that has moved
abbrev pub moved_name : {L : Type 0} → Item L → Option NonterminalString
moved_name item = if has_moved item then name_of_symbol (at_dot item) else None

-- the number is that of the name behind the dot of an item that has moved
abbrev pub IsNumberBehind : {L : Type 0} → Numbered → Item L → ℕ → Type 0
IsNumberBehind table item s = (n : NonterminalString) × (moved_name item ≡ Some n) × (slice_get (table_names table) s ≡ Some n)
