-- What names stand for in a grammar from which what is disabled is gone, and the grammar with each of them resolved.
use Rattle.std.specs.Prelude.{Bool, true, false, not, List, [], ◌∷◌, map, filter, option_map, if◌then◌else◌}
use Rattle.lalrpop_grammar_symbols.specs.Symbols.{Text, TextSpan, Terminal, WrittenSymbol, Sym}
use Rattle.lalrpop_grammar_symbols.specs.SymbolMaps.{SymbolMapping, map_symbol}
use Rattle.lalrpop_grammar.specs.WrittenGrammar.{Ty, Tys, Alternative, Rule, WrittenItem, Grammar, rules_of}
use Rattle.lalrpop_grammar_language.specs.Enabled.{has_text, bares_of}

-- the names that a grammar defines: of rules that are no macros, of macros, and the mapped bare names
pub record DefinedNames : Type 0 where
  pub plain : List Text
  pub macros : List Text
  pub bares : List Text

-- whether there is one
abbrev pub has_any_name : List Text → Bool
has_any_name [] = false
has_any_name (n ∷ ns) = true

abbrev pub has_parameters : Rule → Bool
has_parameters r = has_any_name r.parameters

abbrev pub defined_names : Grammar → DefinedNames
defined_names g = record {
  plain = map (λ r. r.name) (filter (λ r. not (has_any_name r.parameters)) (rules_of g.items));
  macros = map (λ r. r.name) (filter (λ r. has_any_name r.parameters) (rules_of g.items));
  bares = bares_of g.items;
}

-- what a name stands for
pub data NameUse : Type 0 where
  parameter : NameUse
  plain_rule : NameUse
  macro_rule : NameUse
  mapped : NameUse
  nothing : NameUse

-- a parameter hides all else, and a rule a mapped bare name
abbrev pub use_of_name : DefinedNames → List Text → Text → NameUse
use_of_name d parameters n =
    if has_text n parameters then NameUse.parameter
    else (if has_text n d.plain then NameUse.plain_rule
    else (if has_text n d.macros then NameUse.macro_rule
    else (if has_text n d.bares then NameUse.mapped else NameUse.nothing)))

-- A name that is a parameter stays as it is, and so does one that is no definition, or a macro without its arguments.
abbrev pub resolved_name : NameUse → TextSpan → Text → WrittenSymbol
resolved_name NameUse.parameter p n = Sym.ambiguous_id p n
resolved_name NameUse.plain_rule p n = Sym.nonterminal p n
resolved_name NameUse.macro_rule p n = Sym.ambiguous_id p n
resolved_name NameUse.mapped p n = Sym.terminal p (Terminal.bare n)
resolved_name NameUse.nothing p n = Sym.ambiguous_id p n

-- names are resolved, where a rule has these parameters; nonterminals and calls stay
abbrev pub name_resolution : DefinedNames → List Text → SymbolMapping
name_resolution d parameters = record {
  of_name = λ p n. resolved_name (use_of_name d parameters n) p n;
  of_nonterminal = λ p n. Sym.nonterminal p n;
  of_call = λ p n args. Sym.macro p n args;
}

abbrev pub resolved_symbol : DefinedNames → List Text → WrittenSymbol → WrittenSymbol
resolved_symbol d parameters = map_symbol (name_resolution d parameters)

-- the symbols in a type
abbrev mutual
  pub resolved_type : DefinedNames → List Text → Ty → Ty
  resolved_type d parameters (Ty.tuple ts) = Ty.tuple (resolved_types d parameters ts)
  resolved_type d parameters (Ty.nominal path ts) = Ty.nominal path (resolved_types d parameters ts)
  resolved_type d parameters (Ty.id n) = Ty.id n
  resolved_type d parameters (Ty.of_symbol x) = Ty.of_symbol (resolved_symbol d parameters x)
  resolved_type d parameters (Ty.ref lifetime mutable t) = Ty.ref lifetime mutable (resolved_type d parameters t)
  resolved_type d parameters (Ty.opaque text) = Ty.opaque text

  pub resolved_types : DefinedNames → List Text → Tys → Tys
  resolved_types d parameters Tys.none = Tys.none
  resolved_types d parameters (Tys.more t ts) = Tys.more (resolved_type d parameters t) (resolved_types d parameters ts)

abbrev pub resolved_alternative : DefinedNames → List Text → Alternative → Alternative
resolved_alternative d parameters a = record a { expr = map (resolved_symbol d parameters) a.expr }

abbrev pub resolved_rule : DefinedNames → Rule → Rule
resolved_rule d r = record r {
  declared = option_map (resolved_type d r.parameters) r.declared;
  alternatives = map (resolved_alternative d r.parameters) r.alternatives;
}

abbrev pub resolved_item : DefinedNames → WrittenItem → WrittenItem
resolved_item d (WrittenItem.nonterminal r) = WrittenItem.nonterminal (resolved_rule d r)
resolved_item d (WrittenItem.match_token groups place) = WrittenItem.match_token groups place
resolved_item d (WrittenItem.extern_token block) = WrittenItem.extern_token block
resolved_item d (WrittenItem.intern_token entries) = WrittenItem.intern_token entries
resolved_item d (WrittenItem.import text) = WrittenItem.import text

-- The grammar with each name resolved, in alternatives and in declared types. All else stays.
abbrev pub resolved_grammar : Grammar → Grammar
resolved_grammar g = record g { items = map (resolved_item (defined_names g)) g.items }
