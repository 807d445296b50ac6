-- What the laws say of types once macros are expanded, and of passes that follow one another.
use Rattle.std.specs.Prelude.{List}
use Rattle.lalrpop_grammar_symbols.specs.Symbols.{Text, Closed}
use Rattle.lalrpop_grammar_language.specs.Enabled.{EnabledGrammar}
use Rattle.lalrpop_grammar_language.specs.Expansion.{Nonterminal, InExpansion}
use Rattle.lalrpop_norm_theory.specs.Types.{SameTypes}
use Rattle.lalrpop_norm_theory.specs.KeyRules.{by_name, IsMacroExpansion}
use Rattle.lalrpop_norm_theory.specs.KeyTypes.{DeclareKeyTypes}

-- where the rules of keys declare what their macros do, the types are the same under the names of the keys
abbrev pub MacroExpansionsKeepTypes : Type 0
MacroExpansionsKeepTypes =
    (g h : EnabledGrammar) (f : Closed → Text) (keys : List Closed) → IsMacroExpansion g h f keys → DeclareKeyTypes g h f keys
    → SameTypes g h (by_name f)

-- types that each of two passes keeps, both keep, where the first keeps what is in the expansion
abbrev pub SameTypesCompose : Type 0
SameTypesCompose =
    (g h k : EnabledGrammar) (f e : Closed → Closed)
    → ((x : Closed) → InExpansion g (Nonterminal.closed x) → InExpansion h (Nonterminal.closed (f x)))
    → SameTypes g h f → SameTypes h k e → SameTypes g k (λ x. e (f x))
