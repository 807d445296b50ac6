-- Computed examples of names that are resolved, and of what is wrong with names.
use Prim.Native.String.{String}
use Rattle.std.proofs.Common.{◌≡◌, ℕ, List, [], ◌∷◌, refl, sym, true, inl, inr}
use Rattle.std.specs.Prelude.{Option, Some, None, codes}
use Rattle.std.proofs.lemmas.Bool.{true≢false}
use Rattle.lalrpop_grammar_symbols.specs.Symbols.{Terminal, WrittenSymbol, Sym, syms, Op}
use Rattle.lalrpop_grammar.specs.WrittenGrammar.{Ty, Tys, Condition, ConditionTest, Alternative, WrittenItem}
use Rattle.lalrpop_grammar.specs.WrittenGrammar.{Grammar, rules_of}
use Rattle.lalrpop_grammar_language.proofs.WrittenTreeLemmas.{lit, alt, grammar, maps, texts, cfg, feature}
use Rattle.lalrpop_norm_theory.specs.Between.{without_disabled}
use Rattle.lalrpop_norm_theory.specs.Resolving.{resolved_grammar, resolved_symbol, defined_names}
use Rattle.lalrpop_norm_theory.specs.NameFaults.{IsTwice, IsDuplicate, NameFault, name_faults, own_name_fault}

-- a name, a nonterminal, a terminal of a bare name and a call, each at a span of its own
abbrev id_at : ℕ → String → WrittenSymbol
id_at k n = Sym.ambiguous_id (k, 9) (codes n)

abbrev rule_at : ℕ → String → WrittenSymbol
rule_at k n = Sym.nonterminal (k, 9) (codes n)

abbrev bare_at : ℕ → String → WrittenSymbol
bare_at k n = Sym.terminal (k, 9) (Terminal.bare (codes n))

abbrev call_at : ℕ → String → List WrittenSymbol → WrittenSymbol
call_at k n args = Sym.macro (k, 9) (codes n) (syms args)

abbrev group_at : ℕ → List WrittenSymbol → WrittenSymbol
group_at k xs = Sym.expr (k, 9) (syms xs)

-- a rule at a span of its own
abbrev item_at : ℕ → String → List String → Option Ty → List Alternative → WrittenItem
item_at k n parameters declared alternatives = WrittenItem.nonterminal (record {
  public = true;
  name = codes n;
  attributes = [];
  span = (k, 8);
  parameters = texts parameters;
  declared = declared;
  alternatives = alternatives;
})

-- match { "n" => NUM } S: #M<X>#  = X NUM M<(X NUM*)> "a"; X: (X, #NUM#) = "x"; M<X> = X M<X> S
abbrev named_items : List WrittenItem
named_items = maps "n" "NUM"
    ∷ item_at 1 "S" [] (Some (Ty.of_symbol (call_at 2 "M" (id_at 3 "X" ∷ []))))
    (alt (id_at 4 "X" ∷ id_at 5 "NUM" ∷ call_at 6 "M" (group_at 7 (id_at 8 "X" ∷ Sym.repeat (9, 9) Op.star
    (id_at 10 "NUM") ∷ []) ∷ [])
    ∷ lit "a" ∷ []) ∷ [])
    ∷ item_at 11 "X" [] (Some (Ty.tuple (Tys.more (Ty.id (codes "X")) (Tys.more (Ty.of_symbol (id_at 12 "NUM")) Tys.none))))
    (alt (lit "x" ∷ []) ∷ [])
    ∷ item_at 13 "M" ("X" ∷ []) None (alt (id_at 14 "X" ∷ call_at 15 "M" (id_at 16 "X" ∷ []) ∷ id_at 17 "S" ∷ []) ∷ []) ∷ []

-- each name is a rule, or a mapped bare name, also inside groups, arguments, repeats and types; the macro's parameter hides X
abbrev resolved_items : List WrittenItem
resolved_items = maps "n" "NUM"
    ∷ item_at 1 "S" [] (Some (Ty.of_symbol (call_at 2 "M" (rule_at 3 "X" ∷ []))))
    (alt (rule_at 4 "X" ∷ bare_at 5 "NUM"
    ∷ call_at 6 "M" (group_at 7 (rule_at 8 "X" ∷ Sym.repeat (9, 9) Op.star
    (bare_at 10 "NUM") ∷ []) ∷ []) ∷ lit "a" ∷ []) ∷ [])
    ∷ item_at 11 "X" [] (Some (Ty.tuple (Tys.more (Ty.id (codes "X")) (Tys.more (Ty.of_symbol (bare_at 12 "NUM")) Tys.none))))
    (alt (lit "x" ∷ []) ∷ [])
    ∷ item_at 13 "M" ("X" ∷ []) None (alt (id_at 14 "X" ∷ call_at 15 "M"
    (id_at 16 "X" ∷ []) ∷ rule_at 17 "S" ∷ []) ∷ []) ∷ []

names_resolved : resolved_grammar (grammar named_items) ≡ grammar resolved_items
names_resolved = refl

-- once more changes nothing; an empty grammar stays
resolved_again : resolved_grammar (grammar resolved_items) ≡ grammar resolved_items
resolved_again = refl

empty_stays : resolved_grammar (grammar []) ≡ grammar []
empty_stays = refl

nothing_wrong : name_faults (grammar named_items) ≡ []
nothing_wrong = refl

still_nothing_wrong : name_faults (grammar resolved_items) ≡ []
still_nothing_wrong = refl

-- a parameter that is resolved to the rule which it hides is refused
parameter_not_rule : resolved_symbol (defined_names (grammar named_items)) (texts ("X" ∷ [])) (id_at 14 "X") ≡ rule_at 14 "X" → ⊥
parameter_not_rule e = cc

-- what is wrong, each at its place

-- the faults of one rule S with these symbols, beside X = "x", M<T> = T and the mapped NUM
abbrev faults_of : Option Ty → Option Condition → List WrittenSymbol → List NameFault
faults_of declared condition symbols = name_faults (grammar (maps "n" "NUM"
    ∷ item_at 1 "S" ("P" ∷ []) declared (record (alt symbols) { condition = condition } ∷ [])
    ∷ item_at 2 "X" [] None (alt (lit "x" ∷ []) ∷ []) ∷ item_at 3 "M" ("T" ∷ []) None (alt (id_at 4 "T" ∷ []) ∷ []) ∷ []))

unknown_name : faults_of None None (id_at 5 "X" ∷ id_at 6 "Y" ∷ id_at 7 "NUM" ∷ id_at 8 "P" ∷ [])
    ≡ NameFault.unknown (codes "Y") (6, 9) ∷ []
unknown_name = refl

-- a parameter is one of its own rule alone
other_parameter : faults_of None None (id_at 5 "T" ∷ []) ≡ NameFault.unknown (codes "T") (5, 9) ∷ []
other_parameter = refl

unknown_call : faults_of None None (call_at 5 "Y" (id_at 6 "X" ∷ []) ∷ []) ≡ NameFault.unknown (codes "Y") (5, 9) ∷ []
unknown_call = refl

unknown_in_argument : faults_of None None (call_at 5 "M" (group_at 6 (id_at 7 "Y" ∷ []) ∷ []) ∷ [])
    ≡ NameFault.unknown (codes "Y") (7, 9) ∷ []
unknown_in_argument = refl

unknown_in_type : faults_of (Some (Ty.of_symbol (id_at 5 "Y"))) None [] ≡ NameFault.unknown (codes "Y") (5, 9) ∷ []
unknown_in_type = refl

-- a type of a name is none of the grammar's names
type_name_free : faults_of (Some (Ty.id (codes "Y"))) None [] ≡ []
type_name_free = refl

macro_alone : faults_of None None (id_at 5 "M" ∷ []) ≡ NameFault.misused (5, 9) ∷ []
macro_alone = refl

macro_without_arguments : faults_of None None (call_at 5 "M" [] ∷ []) ≡ NameFault.misused (5, 9) ∷ []
macro_without_arguments = refl

-- a number of arguments that is wrong is no fault of names
macro_with_two : faults_of None None (call_at 5 "M" (id_at 6 "X" ∷ id_at 7 "X" ∷ []) ∷ []) ≡ []
macro_with_two = refl

rule_with_arguments : faults_of None None (call_at 5 "X" (lit "a" ∷ []) ∷ []) ≡ NameFault.misused (5, 9) ∷ []
rule_with_arguments = refl

rule_with_no_argument : faults_of None None (call_at 5 "X" [] ∷ []) ≡ NameFault.misused (5, 9) ∷ []
rule_with_no_argument = refl

parameter_called : faults_of None None (call_at 5 "P" (lit "a" ∷ []) ∷ []) ≡ NameFault.misused (5, 9) ∷ []
parameter_called = refl

mapped_called : faults_of None None (call_at 5 "NUM" (lit "a" ∷ []) ∷ []) ≡ NameFault.misused (5, 9) ∷ []
mapped_called = refl

abbrev condition_on : String → Option Condition
condition_on n = Some (record { place = (5, 9); parameter = codes n; test = ConditionTest.equals; against = [] })

condition_on_rule : faults_of None (condition_on "X") [] ≡ NameFault.unknown (codes "X") (5, 9) ∷ []
condition_on_rule = refl

condition_on_parameter : faults_of None (condition_on "P") [] ≡ []
condition_on_parameter = refl

-- a call of a parameter that is taken as right is refused, where a macro has the name, too
call_of_hidden : own_name_fault (defined_names (grammar named_items)) (texts ("M" ∷ [])) (call_at 5 "M" (lit "a" ∷ [])) ≡ [] → ⊥
call_of_hidden e = cc

-- names that two things share

abbrev plain_at : ℕ → String → WrittenItem
plain_at k n = item_at k n [] None []

two_rules : IsDuplicate (grammar (plain_at 1 "X" ∷ plain_at 2 "Y" ∷ plain_at 3 "X" ∷ [])) (codes "X") (3, 8)
two_rules = IsDuplicate.of_rules (rules_of (plain_at 1 "X" ∷ plain_at 2 "Y" ∷ [])) _ [] refl refl

mapped_rule : IsDuplicate (grammar (maps "n" "NUM" ∷ plain_at 1 "NUM" ∷ [])) (codes "NUM") (1, 8)
mapped_rule = IsDuplicate.of_mapped _ (inl refl) refl

two_parameters : IsDuplicate (grammar (item_at 1 "M" ("T" ∷ "U" ∷ "T" ∷ []) None [] ∷ [])) (codes "T") (1, 8)
two_parameters = IsDuplicate.of_parameters _ (codes "T") (inl refl) (inl (refl, refl))

-- a parameter may have a rule's name, and one parameter stands once
parameter_as_rule : IsTwice (codes "T") (texts ("T" ∷ "U" ∷ [])) → ⊥
parameter_as_rule (inl (e, h)) = true≢false (sym h)
parameter_as_rule (inr (inl (e, h))) = true≢false (sym h)
parameter_as_rule (inr (inr h)) = h

-- where what is disabled is gone, its names are no fault
abbrev featured : Grammar
featured = grammar (WrittenItem.nonterminal (record {
  public = true;
  name = codes "S";
  attributes = [];
  span = (1, 8);
  parameters = [];
  declared = None;
  alternatives = record (alt (id_at 2 "Y" ∷ [])) { attributes = cfg (feature "f") ∷ [] } ∷ alt (lit "a" ∷ []) ∷ [];
}) ∷ [])

disabled_name : name_faults (without_disabled [] featured) ≡ []
disabled_name = refl

enabled_name : name_faults (without_disabled (texts ("f" ∷ [])) featured) ≡ NameFault.unknown (codes "Y") (2, 9) ∷ []
enabled_name = refl
