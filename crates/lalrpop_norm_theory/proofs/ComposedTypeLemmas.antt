-- Types that each of two passes keeps, both keep; for normalizing.
use Rattle.lalrpop_grammar_symbols.specs.Symbols.{Closed}
use Rattle.lalrpop_grammar_language.specs.Enabled.{EnabledGrammar}
use Rattle.lalrpop_grammar_language.specs.Expansion.{Nonterminal, InExpansion}
use Rattle.lalrpop_norm_theory.specs.Types.{SameTypes}

-- types that each of two passes keeps, both keep, where the first keeps what is in the expansion
pub types_composed : (g h k : EnabledGrammar) (f e : Closed → Closed) →
    ((x : Closed) → InExpansion g (Nonterminal.closed x) → InExpansion h (Nonterminal.closed (f x))) →
    SameTypes g h f → SameTypes h k e → SameTypes g k (λ x. e (f x))
types_composed g h k f e there a b x t i =
    (λ p. (b (f x) t (there x i)).0 ((a x t i).0 p), λ p. (a x t i).1 ((b (f x) t (there x i)).1 p))
