-- The table of numbers of a grammar: its names and productions in order, and its right sides laid one behind the other.
use Rattle.std.specs.Prelude.{ℕ, suc, ◌<◌, ◌-◌, List, [], ◌∷◌, ◌++◌, length, map, drop}
use Rattle.std.specs.Prelude.{◌≡◌, Option, Some, None, slice_get, Contains}
use Rattle.lalrpop_grammar_symbols.specs.Views.{terminal_view}
use Rattle.lalrpop_grammar_symbols.specs.declared.names.NonterminalString.{NonterminalString}
use Rattle.lalrpop_grammar_symbols.specs.declared.terminal.TerminalString.{TerminalString}
use Rattle.lalrpop_grammar_repr.specs.Maps.{at_terminal}
use Rattle.lalrpop_grammar_repr.specs.declared.production.Production.{Production}
use Rattle.lalrpop_grammar_repr.specs.declared.production.Symbol.{Symbol}
use Rattle.lalrpop_grammar_repr.specs.declared.production.Symbol.TheVariants as symbols
use Rattle.lalrpop_grammar_repr.specs.declared.terminal_set.TerminalSet.{TerminalSet}
use Rattle.lalrpop_lr1_theory.specs.Productions as theory
use Rattle.lalrpop_lr1_core.specs.Numbering.{IsNumberedByPlaces, NumbersArePlaces}
use Rattle.lalrpop_lr1_core.specs.Views.{production_symbol_view}
use Rattle.lalrpop_lr1_first.specs.Numbers.{SpellsSymbols}
use Rattle.lalrpop_lr1_first.specs.declared.place.NumberedRule.{NumberedRule}
use Rattle.lalrpop_lr1_first.specs.declared.place.Place.{Place}
use Rattle.lalrpop_lr1_first.specs.declared.place.Place.TheVariants as places

-- each of the list with its place, from a place on
abbrev pub pairs_from : {X : Type 0} → ℕ → List X → List (X × ℕ)
pairs_from k [] = []
pairs_from k (x ∷ xs) = (x, k) ∷ pairs_from (suc k) xs

-- the symbol with a number: a name by its place among the names, then a terminal by its place among the terminals
abbrev pub symbol_or : Option NonterminalString → Option TerminalString → Option theory.Symbol
symbol_or (Some n) t = Some (theory.nonterminal n.0)
symbol_or None (Some t) = Some (theory.terminal (terminal_view t))
symbol_or None None = None

abbrev pub symbol_of_number : List NonterminalString → TerminalSet → ℕ → Option theory.Symbol
symbol_of_number names ts s = symbol_or (slice_get names s) (slice_get ts.all (s - length names))

-- the terminals are numbered by their places
pub record IsTerminalSet (ts : TerminalSet) : Type 0 where
  pub numbered : IsNumberedByPlaces ts
  pub places : NumbersArePlaces ts

-- the symbol is one of the names or of the terminals
abbrev pub IsKnownSymbol : List NonterminalString → TerminalSet → Symbol → Type 0
IsKnownSymbol names ts (symbols.Nonterminal n) = Contains names n
IsKnownSymbol names ts (symbols.Terminal t) = (k : ℕ) × (at_terminal t ts.bits ≡ Some k)

-- its terminals, if it is one, are numbered
abbrev pub HasNumberedTerminal : TerminalSet → Symbol → Type 0
HasNumberedTerminal ts (symbols.Nonterminal n) = Unit {0}
HasNumberedTerminal ts (symbols.Terminal t) = (k : ℕ) × (at_terminal t ts.bits ≡ Some k)

abbrev pub HaveNumberedTerminals : TerminalSet → List Production → Type 0
HaveNumberedTerminals ts productions = (p : Production) → Contains productions p → (x : Symbol) → Contains p.symbols x →
    HasNumberedTerminal ts x

-- the numbers of the symbols from the front up to the end of the right side
abbrev pub symbols_until : List Place → List ℕ
symbols_until [] = []
symbols_until (places.End r ∷ ps) = []
symbols_until (places.Symbol s ∷ ps) = s ∷ symbols_until ps

-- the number of the production whose right side ends there
abbrev pub end_until : List Place → Option ℕ
end_until [] = None
end_until (places.End r ∷ ps) = Some r
end_until (places.Symbol s ∷ ps) = end_until ps

-- the symbols from a place on
abbrev pub rest_of : List Place → ℕ → List ℕ
rest_of all i = symbols_until (drop i all)

abbrev pub laid_side : List ℕ → ℕ → List Place
laid_side xs r = map places.Symbol xs ++ places.End r ∷ []

-- the symbols are laid behind what was laid
pub record LaysSymbols (names : List NonterminalString) (ts : TerminalSet) (old new : List Place) (side : List Symbol) : Type 0 where
  pub numbers : List ℕ
  pub laid : new ≡ old ++ map places.Symbol numbers
  pub spelled : SpellsSymbols (symbol_of_number names ts) numbers (map production_symbol_view side)

-- the production, with this number, is laid behind what was laid
pub record LaysRule (names : List NonterminalString) (ts : TerminalSet) (r : ℕ) (p : Production)
    (old_rules new_rules : List NumberedRule) (old new : List Place) : Type 0 where
  pub rule : NumberedRule
  pub numbers : List ℕ
  pub rules : new_rules ≡ old_rules ++ rule ∷ []
  pub laid : new ≡ old ++ laid_side numbers r
  pub start : rule.start ≡ length old
  pub left : symbol_of_number names ts rule.left ≡ Some (theory.nonterminal p.nonterminal.0)
  pub spelled : SpellsSymbols (symbol_of_number names ts) numbers (map production_symbol_view p.symbols)

-- the production with this number is laid
pub record IsLaidAt (names : List NonterminalString) (ts : TerminalSet) (rules : List NumberedRule) (all : List Place) (r : ℕ)
    (p : Production) : Type 0 where
  pub rule : NumberedRule
  pub numbers : List ℕ
  pub more : List Place
  pub at : slice_get rules r ≡ Some rule
  pub laid : drop rule.start all ≡ laid_side numbers r ++ more
  pub left : symbol_of_number names ts rule.left ≡ Some (theory.nonterminal p.nonterminal.0)
  pub spelled : SpellsSymbols (symbol_of_number names ts) numbers (map production_symbol_view p.symbols)

-- each of the productions is laid behind those before it, nothing else has a rule, and each number that is laid is a symbol's
pub record AreLaid (names : List NonterminalString) (ts : TerminalSet) (productions : List Production) (rules : List NumberedRule)
    (all : List Place) : Type 0 where
  pub count : length rules ≡ length productions
  pub starts : (q r : ℕ) (one other : NumberedRule) → q < r → slice_get rules q ≡ Some one →
      slice_get rules r ≡ Some other →
      one.start < other.start
  pub symbols : (i s : ℕ) → slice_get all i ≡ Some (places.Symbol s) →
      (x : theory.Symbol) × (symbol_of_number names ts s ≡ Some x)
  pub at : (r : ℕ) (p : Production) → slice_get productions r ≡ Some p → IsLaidAt names ts rules all r p

-- the production's names and terminals are known
pub record IsKnownProduction (names : List NonterminalString) (ts : TerminalSet) (p : Production) : Type 0 where
  pub name : Contains names p.nonterminal
  pub side : (x : Symbol) → Contains p.symbols x → IsKnownSymbol names ts x
