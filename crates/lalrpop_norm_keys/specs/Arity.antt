-- Calls of macros with another number of arguments than the macro has parameters, and where they stand.
use Rattle.std.specs.Prelude.{ℕ, ◌≡◌, ◌==◌, List, [], ◌∷◌, length, flat_map, if◌then◌else◌, Result, MatchResult}
use Rattle.lalrpop_grammar_symbols.specs.Symbols.{TextSpan, Sym, WrittenSymbol, list_of, syms}
use Rattle.lalrpop_grammar_symbols.specs.Subsymbols.{subsymbols_of}
use Rattle.lalrpop_grammar_symbols.specs.Views.{span_view}
use Rattle.lalrpop_grammar.specs.WrittenGrammar.{Alternative, Rule}
use Rattle.lalrpop_grammar_language.specs.Among.{Among}
use Rattle.lalrpop_grammar_language.specs.Enabled.{EnabledGrammar, EnabledRule, rules_named}
use Rattle.lalrpop_grammar_repr.specs.declared.norm_error.NormErrorKind.TheVariants as kinds
use Rattle.lalrpop_grammar_repr.specs.declared.session.NormFault.{NormFault}
use Rattle.lalrpop_grammar_repr.specs.declared.session.NormFault.TheVariants as faults

-- the one rule of the name has another number of parameters
abbrev pub arity_fault_of : List EnabledRule → ℕ → TextSpan → List TextSpan
arity_fault_of [] k p = []
arity_fault_of (r ∷ []) k p = if length r.parameters == k then [] else p ∷ []
arity_fault_of (r ∷ q ∷ rs) k p = []

-- the symbol itself is such a call
abbrev pub arity_fault : EnabledGrammar → WrittenSymbol → List TextSpan
arity_fault g (Sym.macro p n args) = arity_fault_of (rules_named g n) (length (list_of args)) p
arity_fault g (Sym.ambiguous_id p n) = []
arity_fault g (Sym.nonterminal p n) = []
arity_fault g (Sym.terminal p t) = []
arity_fault g (Sym.name p m n x) = []
arity_fault g (Sym.expr p xs) = []
arity_fault g (Sym.repeat p op x) = []
arity_fault g (Sym.choose p x) = []
arity_fault g (Sym.lookahead p) = []
arity_fault g (Sym.lookbehind p) = []
arity_fault g (Sym.error p) = []

-- all such calls in symbols, at any depth, in an alternative, and in rules, in reading order
abbrev pub arity_faults_of : EnabledGrammar → List WrittenSymbol → List TextSpan
arity_faults_of g xs = flat_map (arity_fault g) xs

abbrev pub arity_faults_at : EnabledGrammar → Alternative → List TextSpan
arity_faults_at g a = arity_faults_of g (subsymbols_of (syms a.expr))

abbrev pub arity_faults_in : EnabledGrammar → Rule → List TextSpan
arity_faults_in g r = flat_map (arity_faults_at g) r.alternatives

abbrev pub arity_faults : EnabledGrammar → List Rule → List TextSpan
arity_faults g rs = flat_map (λ r. flat_map (λ a. flat_map (arity_fault g) (subsymbols_of (syms a.expr))) r.alternatives) rs

-- one of these is told, or memory ran out
abbrev pub TellsArity : List TextSpan → NormFault → Type 0
TellsArity fs (faults.Norm error) = (error.kind ≡ kinds.WrongNumberOfArguments) × Among fs (span_view error.span)
TellsArity fs faults.Memory = Unit {0}
TellsArity fs faults.ConditionLimit = ⊥

-- Ok where there is none, and else one of them
abbrev pub ChecksArity : {T : Type 0} → List TextSpan → Result T NormFault → Type 0
ChecksArity fs result = MatchResult result (λ x. fs ≡ []) (TellsArity fs)
