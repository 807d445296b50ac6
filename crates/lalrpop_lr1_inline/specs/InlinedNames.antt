-- Which nonterminals of a lowered grammar are inlined, and which of them the productions of each one name.
use Rattle.std.specs.Prelude.{Bool, false, List, [], ◌∷◌, Option, Some, None, codes, filter, flat_map, map}
use Rattle.std.specs.List.{list_any}
use Rattle.std.specs.Str.{bytes_eq}
use Rattle.lalrpop_grammar_symbols.specs.Symbols.{Text}
use Rattle.lalrpop_grammar_symbols.specs.declared.names.NonterminalString.{NonterminalString}
use Rattle.lalrpop_grammar.specs.declared.types.attribute.Attribute.{Attribute}
use Rattle.lalrpop_grammar_repr.specs.Maps.{at_name}
use Rattle.lalrpop_grammar_repr.specs.Productions.{productions_in}
use Rattle.lalrpop_grammar_repr.specs.declared.production.NonterminalData.{NonterminalData}
use Rattle.lalrpop_grammar_repr.specs.declared.production.Production.{Production}
use Rattle.lalrpop_grammar_repr.specs.declared.production.Symbol.{Symbol}
use Rattle.lalrpop_grammar_repr.specs.declared.production.Symbol.TheVariants as symbols

-- the nonterminals of a lowered grammar, by their names
abbrev pub NonterminalEntries : Type 0
NonterminalEntries = List (NonterminalString × NonterminalData)

abbrev pub name_of_text : Text → NonterminalString
name_of_text n = record { 0 = n }

-- what the grammar has under the name
abbrev pub data_named : NonterminalEntries → Text → Option NonterminalData
data_named g n = at_name (name_of_text n) g

-- the attribute is `inline`
abbrev pub is_inline_mark : Attribute → Bool
is_inline_mark a = bytes_eq a.id (codes "inline")

abbrev pub is_marked_inline : NonterminalData → Bool
is_marked_inline d = list_any is_inline_mark d.attributes

abbrev pub is_marked_data : Option NonterminalData → Bool
is_marked_data None = false
is_marked_data (Some d) = is_marked_inline d

-- the grammar has a nonterminal of this name that is inlined
abbrev pub is_inlined_name : NonterminalEntries → Text → Bool
is_inlined_name g n = is_marked_data (data_named g n)

-- the inlined nonterminals in order of their names
abbrev pub inlined_names : NonterminalEntries → List Text
inlined_names g = map (λ e. e.0.0) (filter (λ e. is_marked_inline e.1) g)

-- the nonterminals among symbols, in order
abbrev pub names_in_symbol : Symbol → List Text
names_in_symbol (symbols.Nonterminal n) = n.0 ∷ []
names_in_symbol (symbols.Terminal t) = []

-- those of them that are inlined
abbrev pub inlined_in_symbols : NonterminalEntries → List Symbol → List Text
inlined_in_symbols g side = filter (is_inlined_name g) (flat_map names_in_symbol side)

-- the same of all right sides of the productions
abbrev pub inlined_in_productions : NonterminalEntries → List Production → List Text
inlined_in_productions g ps = flat_map (λ p. inlined_in_symbols g p.symbols) ps

-- the inlined nonterminals that the productions of this one name, in order
abbrev pub inlined_named_by : NonterminalEntries → Text → List Text
inlined_named_by g n = inlined_in_productions g (productions_in (data_named g n))
