-- The productions of a nonterminal, and where it stands on right sides.
use Rattle.std.specs.Prelude.{◌≡◌, List, [], Option, Some, None}
use Rattle.std.specs.List.{All}
use Rattle.lalrpop_grammar_symbols.specs.declared.names.NonterminalString.{NonterminalString}
use Rattle.lalrpop_grammar_repr.specs.declared.production.Symbol.{Symbol}
use Rattle.lalrpop_grammar_repr.specs.declared.production.Symbol.TheVariants as symbols
use Rattle.lalrpop_grammar_repr.specs.declared.production.Production.{Production}
use Rattle.lalrpop_grammar_repr.specs.declared.production.NonterminalData.{NonterminalData}
use Rattle.lalrpop_grammar_repr.specs.Maps.{at_name}

-- those of the nonterminal, or none where there is no such nonterminal
abbrev pub productions_in : Option NonterminalData → List Production
productions_in None = []
productions_in (Some found) = found.productions

abbrev pub productions_of : List (NonterminalString × NonterminalData) → NonterminalString → List Production
productions_of nonterminals n = productions_in (at_name n nonterminals)

-- the nonterminal isn't among the symbols
abbrev pub IsFreeOf : NonterminalString → List Symbol → Type 0
IsFreeOf n side = All (λ s. s ≡ symbols.Nonterminal n → ⊥) side

-- it stands on no right side of the productions
abbrev pub AreFreeOf : NonterminalString → List Production → Type 0
AreFreeOf n productions = All (λ p. IsFreeOf n p.symbols) productions

-- it stands on no right side of the grammar
abbrev pub IsAlone : NonterminalString → List (NonterminalString × NonterminalData) → Type 0
IsAlone n nonterminals = All (λ e. AreFreeOf n e.1.productions) nonterminals
