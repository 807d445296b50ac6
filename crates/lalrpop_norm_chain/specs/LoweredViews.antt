-- What definitions see of what lowering made, as the chain of passes speaks of it.
use Rattle.std.specs.Prelude.{◌≡◌, List, [], ◌∷◌, filter, filter_map, flat_map, map, option_map}
use Rattle.lalrpop_grammar_symbols.specs.Symbols.{Text, TextSpan}
use Rattle.lalrpop_grammar_symbols.specs.Views.{span_view, terminal_view}
use Rattle.lalrpop_grammar_symbols.specs.declared.names.NonterminalString.{NonterminalString}
use Rattle.lalrpop_grammar.specs.Views.{attribute_view, intern_entry_view, origin_view}
use Rattle.lalrpop_grammar.specs.WrittenGrammar.{Attr, Grammar, InternEntry, WrittenItem}
use Rattle.lalrpop_grammar_language.specs.Among.{Among}
use Rattle.lalrpop_grammar_repr.specs.Maps.{at_name}
use Rattle.lalrpop_grammar_repr.specs.declared.production.NonterminalData.{NonterminalData}
use Rattle.lalrpop_norm_lower.specs.Lowered.{says_inline}
use Rattle.lalrpop_norm_lower.specs.LoweredSymbols.{named_production, named_productions}
use Rattle.lalrpop_norm_lower.specs.declared.lowering.Normalized.{Normalized}
use Rattle.lalrpop_norm_theory.specs.Productions.{NamedProduction}
use Rattle.lalrpop_norm_chain.specs.Lowered.{LoweredGrammar}
use Rattle.lalrpop_norm_chain.specs.PremiseLaws.{entries_of_items}

-- the names of a map, each with what stands at it
abbrev pub found_entries : {X : Type 0} → List (NonterminalString × X) → List (NonterminalString × X)
found_entries es = filter_map (λ e. option_map (λ x. (e.0, x)) (at_name e.0 es)) es

abbrev pub found_names : {X : Type 0} → List (NonterminalString × X) → List Text
found_names es = map (λ e. e.0.0) (found_entries es)

-- each of the names with where its nonterminal stands
abbrev pub found_places : List (NonterminalString × NonterminalData) → List (Text × TextSpan)
found_places es = map (λ e. (e.0.0, span_view e.1.span)) (found_entries es)

-- each of the names with the attributes of its nonterminal
abbrev pub found_attributes : List (NonterminalString × NonterminalData) → List (Text × List Attr)
found_attributes es = map (λ e. (e.0.0, map attribute_view e.1.attributes)) (found_entries es)

-- each of the names with the one that stands at it
abbrev pub found_pairs : List (NonterminalString × NonterminalString) → List (Text × Text)
found_pairs es = map (λ e. (e.0.0, e.1.0)) (found_entries es)

-- the names of the nonterminals that say that they are inlined
abbrev pub names_marked_inline : List (NonterminalString × NonterminalData) → List Text
names_marked_inline es = map (λ e. e.0.0) (filter (λ e. says_inline e.1) (found_entries es))

-- the productions of each nonterminal, each with where it stands
abbrev pub spans_at : NonterminalString × NonterminalData → List (NamedProduction × TextSpan)
spans_at e = map (λ p. (named_production p, span_view p.span)) e.1.productions

abbrev pub production_spans : List (NonterminalString × NonterminalData) → List (NamedProduction × TextSpan)
production_spans = flat_map spans_at

-- the lowered grammar with its tokenizer, as definitions see it: maps by what stands at their names
abbrev pub lowered_view : Normalized → LoweredGrammar
lowered_view made = record {
  prefix = made.grammar.prefix;
  productions = named_productions made.grammar.nonterminals;
  spans = production_spans made.grammar.nonterminals;
  origins = map origin_view made.origins;
  definitions = made.grammar.action_fn_defns;
  nonterminals = found_names made.grammar.nonterminals;
  places = found_places made.grammar.nonterminals;
  attributes = found_attributes made.grammar.nonterminals;
  starts = found_pairs made.grammar.start_nonterminals;
  inlined = names_marked_inline made.grammar.nonterminals;
  terminals = map terminal_view made.grammar.terminals.all;
  types = made.grammar.types.nonterminal_types;
  terminal_types = made.grammar.types.terminal_types;
  lalr = made.grammar.algorithm.lalr;
  entries = map intern_entry_view made.entries;
}

-- tokenizers

-- the entries of the first tokenizer
abbrev pub first_entries : List WrittenItem → List InternEntry
first_entries [] = []
first_entries (WrittenItem.intern_token entries ∷ items) = entries
first_entries (WrittenItem.nonterminal r ∷ items) = first_entries items
first_entries (WrittenItem.match_token groups place ∷ items) = first_entries items
first_entries (WrittenItem.extern_token block ∷ items) = first_entries items
first_entries (WrittenItem.import text ∷ items) = first_entries items

-- no entries stand but those of the first tokenizer
abbrev pub HasOneTokenizer : Grammar → Type 0
HasOneTokenizer g = first_entries g.items ≡ entries_of_items g.items

abbrev pub HasNoTokenizer : Grammar → Type 0
HasNoTokenizer g = (entries : List InternEntry) → Among g.items (WrittenItem.intern_token entries) → ⊥
