-- What may be wrong with the names of a grammar from which what is disabled is gone.
use Rattle.std.specs.Prelude.{◌≡◌, ◌⊎◌, true, List, [], ◌∷◌}
use Rattle.std.specs.Prelude.{◌++◌, Option, Some, None, map, flat_map, if◌then◌else◌}
use Rattle.lalrpop_grammar_symbols.specs.Symbols.{Text, TextSpan, Terminal, Sym, Syms, syms, WrittenSymbol}
use Rattle.lalrpop_grammar_symbols.specs.Subsymbols.{subsymbols_of}
use Rattle.lalrpop_grammar.specs.WrittenGrammar.{Ty, Condition, Alternative, Rule, Grammar, rules_of}
use Rattle.lalrpop_grammar_language.specs.Among.{Among}
use Rattle.lalrpop_grammar_language.specs.Enabled.{has_text, bares_of}
use Rattle.lalrpop_norm_theory.specs.Premises.{symbols_of_type}
use Rattle.lalrpop_norm_theory.specs.Resolving.{DefinedNames, NameUse, use_of_name, defined_names}

-- a name that two things share

-- the name stands twice in the list
abbrev pub IsTwice : Text → List Text → Type 0
IsTwice n [] = ⊥
IsTwice n (m ∷ ms) = ((n ≡ m) × (has_text n ms ≡ true)) ⊎ IsTwice n ms

-- Two rules share the name, and the later one is told; a rule shares it with a mapped bare name; two parameters of a rule share it.
pub data IsDuplicate (g : Grammar) : Text → TextSpan → Type 0 where
  of_rules : (before : List Rule) (r : Rule) (after : List Rule) → rules_of g.items ≡ before ++ r ∷ after
      → has_text r.name (map (λ q. q.name) before) ≡ true → IsDuplicate g r.name r.span
  of_mapped : (r : Rule) → Among (rules_of g.items) r → has_text r.name (bares_of g.items) ≡ true → IsDuplicate g r.name r.span
  of_parameters : (r : Rule) (n : Text) → Among (rules_of g.items) r → IsTwice n r.parameters → IsDuplicate g n r.span

-- a name that stands for nothing, and one that stands for what has no place there

pub data NameFault : Type 0 where
  unknown : Text → TextSpan → NameFault
  misused : TextSpan → NameFault

-- a name alone: not that of a macro
abbrev pub fault_of_name : NameUse → TextSpan → Text → List NameFault
fault_of_name NameUse.parameter p n = []
fault_of_name NameUse.plain_rule p n = []
fault_of_name NameUse.macro_rule p n = NameFault.misused p ∷ []
fault_of_name NameUse.mapped p n = []
fault_of_name NameUse.nothing p n = NameFault.unknown n p ∷ []

-- a name that was resolved to a rule
abbrev pub fault_of_nonterminal : NameUse → TextSpan → Text → List NameFault
fault_of_nonterminal NameUse.parameter p n = []
fault_of_nonterminal NameUse.plain_rule p n = []
fault_of_nonterminal NameUse.macro_rule p n = NameFault.misused p ∷ []
fault_of_nonterminal NameUse.mapped p n = NameFault.unknown n p ∷ []
fault_of_nonterminal NameUse.nothing p n = NameFault.unknown n p ∷ []

-- a call: of a macro, with arguments
abbrev pub fault_of_call : NameUse → TextSpan → Text → Syms TextSpan → List NameFault
fault_of_call NameUse.parameter p n args = NameFault.misused p ∷ []
fault_of_call NameUse.plain_rule p n args = NameFault.misused p ∷ []
fault_of_call NameUse.macro_rule p n Syms.none = NameFault.misused p ∷ []
fault_of_call NameUse.macro_rule p n (Syms.more x xs) = []
fault_of_call NameUse.mapped p n args = NameFault.misused p ∷ []
fault_of_call NameUse.nothing p n args = NameFault.unknown n p ∷ []

-- a terminal: a bare name is a mapped one
abbrev pub fault_of_terminal : DefinedNames → TextSpan → Terminal → List NameFault
fault_of_terminal d p (Terminal.bare n) = if has_text n d.bares then [] else NameFault.unknown n p ∷ []
fault_of_terminal d p (Terminal.quoted t) = []
fault_of_terminal d p (Terminal.regex t) = []
fault_of_terminal d p Terminal.error = []

-- the fault of the symbol itself, where a rule has these parameters
abbrev pub own_name_fault : DefinedNames → List Text → WrittenSymbol → List NameFault
own_name_fault d parameters (Sym.ambiguous_id p n) = fault_of_name (use_of_name d parameters n) p n
own_name_fault d parameters (Sym.nonterminal p n) = fault_of_nonterminal (use_of_name d [] n) p n
own_name_fault d parameters (Sym.macro p n args) = fault_of_call (use_of_name d parameters n) p n args
own_name_fault d parameters (Sym.terminal p t) = fault_of_terminal d p t
own_name_fault d parameters (Sym.name p mutable n x) = []
own_name_fault d parameters (Sym.expr p xs) = []
own_name_fault d parameters (Sym.repeat p op x) = []
own_name_fault d parameters (Sym.choose p x) = []
own_name_fault d parameters (Sym.lookahead p) = []
own_name_fault d parameters (Sym.lookbehind p) = []
own_name_fault d parameters (Sym.error p) = []

abbrev pub name_faults_in : DefinedNames → List Text → List WrittenSymbol → List NameFault
name_faults_in d parameters xs = flat_map (own_name_fault d parameters) xs

-- a condition is on a parameter
abbrev pub name_fault_of_condition : List Text → Option Condition → List NameFault
name_fault_of_condition parameters None = []
name_fault_of_condition parameters (Some c) =
    if has_text c.parameter parameters then [] else NameFault.unknown c.parameter c.place ∷ []

abbrev pub name_faults_in_alternative : DefinedNames → List Text → Alternative → List NameFault
name_faults_in_alternative d parameters a =
    name_faults_in d parameters (subsymbols_of (syms a.expr)) ++ name_fault_of_condition parameters a.condition

abbrev pub name_faults_in_declared : DefinedNames → List Text → Option Ty → List NameFault
name_faults_in_declared d parameters None = []
name_faults_in_declared d parameters (Some t) = name_faults_in d parameters (symbols_of_type t)

-- the faults of names in a rule, in reading order
abbrev pub name_faults_in_rule : DefinedNames → Rule → List NameFault
name_faults_in_rule d r =
    name_faults_in_declared d r.parameters r.declared ++ flat_map (name_faults_in_alternative d r.parameters) r.alternatives

abbrev pub name_faults : Grammar → List NameFault
name_faults g = flat_map (name_faults_in_rule (defined_names g)) (rules_of g.items)

-- nothing is wrong with the grammar's names
pub record HasRightNames (g : Grammar) : Type 0 where
  pub no_duplicates : (n : Text) (p : TextSpan) → IsDuplicate g n p → ⊥
  pub no_faults : name_faults g ≡ []
