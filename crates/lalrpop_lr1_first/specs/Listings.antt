-- Which productions a grammar has and which names they have, and what a set of references holds: for the table of numbers.
use Rattle.std.specs.Prelude.{◌↔◌, ◌⊎◌, List, [], ◌∷◌, map, flat_map, Contains}
use Rattle.std.specs.Borrow.{Bor}
use Rattle.std.specs.BTreeSet.{BTreeSet}
use Rattle.lalrpop_grammar_symbols.specs.declared.names.NonterminalString.{NonterminalString}
use Rattle.lalrpop_grammar_repr.specs.declared.production.Production.{Production}
use Rattle.lalrpop_grammar_repr.specs.declared.production.Symbol.{Symbol}
use Rattle.lalrpop_grammar_repr.specs.declared.production.Symbol.TheVariants as symbols

-- the name of a symbol that is a nonterminal
abbrev pub symbol_names : Symbol → List NonterminalString
symbol_names (symbols.Nonterminal n) = n ∷ []
symbol_names (symbols.Terminal t) = []

-- the names in a production
abbrev pub names_in_production : Production → List NonterminalString
names_in_production p = p.nonterminal ∷ flat_map symbol_names p.symbols

-- what references lend
abbrev pub lent : {X : Type 0} → List (Bor X) → List X
lent xs = map (λ b. b.now) xs

-- what the references of a set lend
abbrev pub lent_in : {X : Type 0} → BTreeSet (Bor X) → List X
lent_in s = lent s.keys

-- to what there was these were added
abbrev pub AddsTo : {X : Type 0} → List X → List X → List X → Type 0
AddsTo {X} old new xs = (x : X) → Contains new x ↔ (Contains old x ⊎ Contains xs x)

-- the same elements
abbrev pub HoldSame : {X : Type 0} → List X → List X → Type 0
HoldSame {X} xs ys = (x : X) → Contains xs x ↔ Contains ys x
