-- What the laws on right answers say: what is right over productions is right of the written grammar.
use Rattle.std.specs.Prelude.{ℕ, ◌≡◌, ◌++◌, Bool, Contains, List, Option, Some, slice_get}
use Rattle.lalrpop_grammar_symbols.specs.Symbols.{Text}
use Rattle.lalrpop_grammar.specs.WrittenGrammar.{Grammar, Origin}
use Rattle.lalrpop_grammar.specs.Trees.{Token, Tree}
use Rattle.lalrpop_grammar_language.specs.Enabled.{enabled_grammar}
use Rattle.lalrpop_grammar_language.specs.Admitting.{AdmitsFrom}
use Rattle.lalrpop_grammar_language.specs.Expansion.{Nonterminal, InExpansion}
use Rattle.lalrpop_grammar_language.specs.Labels.{Label}
use Rattle.lalrpop_lr1_theory.specs.Productions.{Production}
use Rattle.lalrpop_lr1_theory.specs.Answers as theory
use Rattle.lalrpop_lr1_theory.specs.Spans.{SpannedForest, without_spans}
use Rattle.lalrpop_run_theory.specs.ExpansionTrees.{IsForestOfTree}
use Rattle.lalrpop_run_theory.specs.TextAnswers.{TextAnswer, AreExpansionOf, IsRightForTokens, terminals_of_tokens}

-- The written tree is admitted over the tokens, and the tree over productions is that of it without spans.
pub record IsWrittenOf (finds : Text → Text → Option Bool) (features : List Text) (w : Grammar) (start : Text)
    (label_of : ℕ → Label Nonterminal Origin) (grammar : List Production) (tokens : List Token) (ts : SpannedForest) (t : Tree) :
    Type 0 where
  pub admitted : AdmitsFrom finds features w start t tokens
  pub is_forest : IsForestOfTree label_of (Contains grammar) (w.prefix ++ start) t tokens ts

-- the written answer that an answer over productions stands for
abbrev pub StandsForAnswer : (Text → Text → Option Bool) → List Text → Grammar → Text → (ℕ → Label Nonterminal Origin)
    → List Production → List Token → theory.ParseAnswer → TextAnswer → Type 0
StandsForAnswer finds features w start label_of grammar tokens (theory.tree ts) (TextAnswer.written t) =
    (us : SpannedForest) × (without_spans us ≡ ts) × IsWrittenOf finds features w start label_of grammar tokens us t
StandsForAnswer finds features w start label_of grammar tokens (theory.wrong_token i) (TextAnswer.wrong_token at text) =
    (k : Token) × (slice_get tokens i ≡ Some k) × (at ≡ k.span.0) × (text ≡ k.text)
StandsForAnswer finds features w start label_of grammar tokens theory.wrong_end TextAnswer.early_end = Unit {0}
StandsForAnswer finds features w start label_of grammar tokens theory.over_limit TextAnswer.over_limit = Unit {0}
StandsForAnswer finds features w start label_of grammar tokens _ _ = ⊥

-- what is right over the productions of the expansion is right of the written grammar
abbrev pub RightParsesAreRight : Type 0
RightParsesAreRight =
    (finds : Text → Text → Option Bool) (features : List Text) (w : Grammar) (start : Text) (grammar : List Production)
    (e : AreExpansionOf finds features w grammar) →
    InExpansion (enabled_grammar finds features w) (Nonterminal.start start) → (tokens : List Token) (limit : ℕ)
    (a : theory.ParseAnswer) (answer : TextAnswer) →
    theory.IsRightParseAnswer (Contains grammar) (w.prefix ++ start) (terminals_of_tokens tokens) limit a →
    StandsForAnswer finds features w start e.label_of grammar tokens a answer →
    IsRightForTokens finds features w start tokens limit answer

-- and stands for some written answer
abbrev pub RightParsesHaveAnswers : Type 0
RightParsesHaveAnswers =
    (finds : Text → Text → Option Bool) (features : List Text) (w : Grammar) (start : Text) (grammar : List Production)
    (e : AreExpansionOf finds features w grammar) →
    InExpansion (enabled_grammar finds features w) (Nonterminal.start start) → (tokens : List Token) (limit : ℕ)
    (a : theory.ParseAnswer) →
    theory.IsRightParseAnswer (Contains grammar) (w.prefix ++ start) (terminals_of_tokens tokens) limit a →
    (answer : TextAnswer) × StandsForAnswer finds features w start e.label_of grammar tokens a answer
