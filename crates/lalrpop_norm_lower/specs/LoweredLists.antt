-- What lowering makes, in the order in which actions are numbered: first for starts, then for rules as they stand.
use Rattle.std.specs.Prelude.{ℕ, ◌+◌, ◌&&◌, Bool, List, [], ◌∷◌, ◌++◌, filter, flat_map, length, map}
use Rattle.std.specs.BTreeMap.{insert_entry}
use Rattle.std.specs.declared.cmp.Ordering.{Ordering}
use Rattle.lalrpop_grammar_symbols.specs.Symbols.{Text, TextSpan}
use Rattle.lalrpop_grammar_symbols.specs.Views.{span_view}
use Rattle.lalrpop_grammar_symbols.specs.declared.names.NonterminalString.{NonterminalString}
use Rattle.lalrpop_grammar.specs.Views.{attribute_view}
use Rattle.lalrpop_grammar.specs.WrittenGrammar.{Action, Alternative, Attr, Origin, Rule}
use Rattle.lalrpop_grammar_language.specs.Expansion.{GrammarSymbol}
use Rattle.lalrpop_grammar_language.specs.Starts.{has_none}
use Rattle.lalrpop_grammar_repr.specs.declared.action.ActionFnDefn.{ActionFnDefn}
use Rattle.lalrpop_grammar_repr.specs.declared.production.NonterminalData.{NonterminalData}
use Rattle.lalrpop_grammar_repr.specs.declared.production.Production.{Production}
use Rattle.lalrpop_grammar.specs.declared.types.type_repr.TypeRepr.{TypeRepr}
use Rattle.lalrpop_norm_theory.specs.Productions.{NamedProduction}
use Rattle.lalrpop_norm_tyinfer.specs.TypeFaults.{nonterminal_of}
use Rattle.lalrpop_norm_lower.specs.Definitions.{definition_of, type_in_table}
use Rattle.lalrpop_norm_lower.specs.LoweredSymbols.{lowered_side, named_production}

-- a public rule that is no macro has a start
abbrev pub gets_start : Rule → Bool
gets_start r = r.public && has_none r.parameters

abbrev pub rules_with_starts : List Rule → List Rule
rules_with_starts = filter gets_start

-- a production with its place
pub record LoweredProduction : Type 0 where
  pub production : NamedProduction
  pub span : TextSpan

pub record LoweredNonterminal : Type 0 where
  pub key : Text
  pub name : Text
  pub attributes : List Attr
  pub span : TextSpan
  pub productions : List LoweredProduction

abbrev pub lowered_production_view : Production → LoweredProduction
lowered_production_view p = record { production = named_production p; span = span_view p.span }

abbrev pub lowered_entry_view : NonterminalString × NonterminalData → LoweredNonterminal
lowered_entry_view e = record {
  key = e.0.0;
  name = e.1.name.0;
  attributes = map attribute_view e.1.attributes;
  span = span_view e.1.span;
  productions = map lowered_production_view e.1.productions;
}

abbrev pub start_production : Text → ℕ → Rule → LoweredProduction
start_production prefix k r = record {
  production = record { nonterminal = prefix ++ r.name; symbols = GrammarSymbol.nonterminal r.name ∷ []; action = k };
  span = r.span;
}

abbrev pub entry_of_start : Text → ℕ → Rule → LoweredNonterminal
entry_of_start prefix k r = record {
  key = prefix ++ r.name;
  name = prefix ++ r.name;
  attributes = [];
  span = r.span;
  productions = start_production prefix k r ∷ [];
}

abbrev pub start_entries : Text → ℕ → List Rule → List LoweredNonterminal
start_entries prefix k [] = []
start_entries prefix k (r ∷ rs) = entry_of_start prefix k r ∷ start_entries prefix (k + 1) rs

abbrev pub alternative_production : Text → ℕ → Alternative → LoweredProduction
alternative_production n k a =
    record { production = record { nonterminal = n; symbols = lowered_side a.expr; action = k }; span = a.span }

abbrev pub alternative_productions : Text → ℕ → List Alternative → List LoweredProduction
alternative_productions n k [] = []
alternative_productions n k (a ∷ rest) = alternative_production n k a ∷ alternative_productions n (k + 1) rest

abbrev pub entry_of_rule : ℕ → Rule → LoweredNonterminal
entry_of_rule k r = record {
  key = r.name;
  name = r.name;
  attributes = r.attributes;
  span = r.span;
  productions = alternative_productions r.name k r.alternatives;
}

abbrev pub rule_entries : ℕ → List Rule → List LoweredNonterminal
rule_entries k [] = []
rule_entries k (r ∷ rs) = entry_of_rule k r ∷ rule_entries (k + length r.alternatives) rs

abbrev pub lowered_entries : Text → List Rule → List LoweredNonterminal
lowered_entries prefix rs =
    start_entries prefix 0 (rules_with_starts rs) ++ rule_entries (length (rules_with_starts rs)) rs

-- how many alternatives rules have
abbrev pub count_alternatives : List Rule → ℕ
count_alternatives [] = 0
count_alternatives (r ∷ rs) = length r.alternatives + count_alternatives rs

-- how many actions there are: one for each start and for each alternative
abbrev pub count_actions : List Rule → ℕ
count_actions rs = length (rules_with_starts rs) + count_alternatives rs

-- the definitions of actions, and the choices that they stand for
abbrev pub start_definitions : List (NonterminalString × TypeRepr) → List Rule → List ActionFnDefn
start_definitions table = map (λ r. definition_of (type_in_table table r.name) Action.default)

abbrev pub alternative_definitions : TypeRepr → List Alternative → List ActionFnDefn
alternative_definitions t = map (λ a. definition_of t a.action)

abbrev pub rule_definitions : List (NonterminalString × TypeRepr) → List Rule → List ActionFnDefn
rule_definitions table = flat_map (λ r. alternative_definitions (type_in_table table r.name) r.alternatives)

abbrev pub lowered_definitions : List (NonterminalString × TypeRepr) → List Rule → List ActionFnDefn
lowered_definitions table rs = start_definitions table (rules_with_starts rs) ++ rule_definitions table rs

abbrev pub start_origins : List Rule → List Origin
start_origins = map (λ r. Origin.start)

abbrev pub alternative_origins : List Alternative → List Origin
alternative_origins = map (λ a. a.origin)

abbrev pub rule_origins : List Rule → List Origin
rule_origins = flat_map (λ r. alternative_origins r.alternatives)

abbrev pub lowered_origins : List Rule → List Origin
lowered_origins rs = start_origins (rules_with_starts rs) ++ rule_origins rs

-- the entries that starts add to maps by name
abbrev pub start_name_entries : Text → List Rule → List (NonterminalString × NonterminalString)
start_name_entries prefix = map (λ r. (nonterminal_of r.name, nonterminal_of (prefix ++ r.name)))

abbrev pub start_type_entries : List (NonterminalString × TypeRepr) → Text → List Rule → List (NonterminalString × TypeRepr)
start_type_entries table prefix = map (λ r. (nonterminal_of (prefix ++ r.name), type_in_table table r.name))

-- a map with entries put in one after the other
abbrev pub put_entries : {K X : Type 0} → (K → K → Ordering) → List (K × X) → List (K × X) → List (K × X)
put_entries cmp es [] = es
put_entries cmp es (e ∷ more) = put_entries cmp (insert_entry cmp es e.0 e.1) more

-- each element of a list with its place, counted on from k
abbrev pub with_places : {K : Type 0} → ℕ → List K → List (K × ℕ)
with_places k [] = []
with_places k (x ∷ xs) = (x, k) ∷ with_places (k + 1) xs
