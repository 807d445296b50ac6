-- The right answer to a text, over the written grammar.
use Rattle.std.specs.Prelude.{ℕ, suc, ◌≡◌, ◌<◌, ◌≤◌, ◌++◌, Bool, Contains, List, Option, Some, map, slice_get, take}
use Rattle.lalrpop_grammar_symbols.specs.Symbols.{Text, Terminal}
use Rattle.lalrpop_grammar.specs.WrittenGrammar.{Grammar, Origin}
use Rattle.lalrpop_grammar.specs.Trees.{Token, Tree}
use Rattle.lalrpop_grammar_language.specs.Enabled.{enabled_grammar}
use Rattle.lalrpop_grammar_language.specs.Admitting.{AdmitsFrom}
use Rattle.lalrpop_grammar_language.specs.Expansion.{GrammarSymbol, Nonterminal}
use Rattle.lalrpop_grammar_language.specs.Sentences.{IsSentence, Begins}
use Rattle.lalrpop_lexer_scan.specs.Entries.{ScanEntry}
use Rattle.lalrpop_lexer_scan.specs.Tokens.{AreTokensOf, NoTokenAt}
use Rattle.lalrpop_norm_theory.specs.Inlined.{IsInlined}
use Rattle.lalrpop_grammar_language.specs.ExpandedTrees.{ExpandedTree}
use Rattle.lalrpop_grammar_language.specs.WrittenTrees.{IsExpandedTreeOfTree}
use Rattle.lalrpop_lr1_theory.specs.Productions.{Production}
use Rattle.lalrpop_lr1_theory.specs.Answers.{HasRun}
use Rattle.lalrpop_run_theory.specs.Expansions.{AreInlinedExpansion}
use Rattle.lalrpop_run_theory.specs.ExpansionTrees.{expanded_size}

-- What a parser answers to a text: the first byte at which there is no token; the tree; the first wrong token, where it begins and
-- its text; that the text ends too early; that more moves would be made than the limit allows.
pub data TextAnswer : Type 0 where
  no_token : ℕ → TextAnswer
  written : Tree → TextAnswer
  wrong_token : ℕ → Text → TextAnswer
  early_end : TextAnswer
  over_limit : TextAnswer

abbrev pub terminals_of_tokens : List Token → List Terminal
terminals_of_tokens tokens = map (λ k. k.terminal) tokens

-- the productions are those of the grammar's expansion
abbrev pub AreExpansionOf : (Text → Text → Option Bool) → List Text → Grammar → List Production → Type 0
AreExpansionOf finds features w grammar =
    AreInlinedExpansion (enabled_grammar finds features w) (IsInlined (enabled_grammar finds features w)) w.prefix (Contains grammar)

-- The expanded tree of a written tree from the start.
abbrev pub IsExpandedFrom : (Text → Text → Option Bool) → List Text → Grammar → Text → Tree → List Token
    → ExpandedTree Nonterminal Origin → Type 0
IsExpandedFrom finds features w start t tokens e =
    IsExpandedTreeOfTree (enabled_grammar finds features w) (IsInlined (enabled_grammar finds features w))
    (GrammarSymbol.nonterminal (Nonterminal.start start)) t tokens e

-- The tree is admitted over the tokens, and its expanded tree has at most so many nodes.
pub record IsTreeWithin (finds : Text → Text → Option Bool) (features : List Text) (w : Grammar) (start : Text)
    (tokens : List Token) (limit : ℕ) (t : Tree) : Type 0 where
  pub admitted : AdmitsFrom finds features w start t tokens
  pub expanded : ExpandedTree Nonterminal Origin
  pub is_expanded : IsExpandedFrom finds features w start t tokens expanded
  pub small : expanded_size expanded ≤ limit

-- It is the first token with which the tokens so far begin no sentence.
pub record IsFirstWrong (finds : Text → Text → Option Bool) (features : List Text) (w : Grammar) (start : Text)
    (tokens : List Token) (at : ℕ) (text : Text) : Type 0 where
  pub number : ℕ
  pub token : Token
  pub there : slice_get tokens number ≡ Some token
  pub at_is : at ≡ token.span.0
  pub text_is : text ≡ token.text
  pub begins : Begins finds features w start (take number (terminals_of_tokens tokens))
  pub begins_no_more : Begins finds features w start (take (suc number) (terminals_of_tokens tokens)) → ⊥

-- Each expanded tree of the tokens has more nodes, and a run over the tokens has one move more than the limit allows.
pub record IsOverLimit (finds : Text → Text → Option Bool) (features : List Text) (w : Grammar) (start : Text)
    (tokens : List Token) (limit : ℕ) : Type 0 where
  pub large : (t : Tree) (e : ExpandedTree Nonterminal Origin) → IsExpandedFrom finds features w start t tokens e
      → limit < expanded_size e
  pub grammar : List Production
  pub are_expansion : AreExpansionOf finds features w grammar
  pub has_run : HasRun (Contains grammar) (w.prefix ++ start) (terminals_of_tokens tokens) (suc limit)

-- The right answer to a text's tokens: the admitted tree of a sentence, where its expanded tree is no larger than the limit; else the
-- first wrong token; else that they end too early; or that the limit is passed.
abbrev pub IsRightForTokens : (Text → Text → Option Bool) → List Text → Grammar → Text → List Token → ℕ → TextAnswer
    → Type 0
IsRightForTokens finds features w start tokens limit (TextAnswer.no_token at) = ⊥
IsRightForTokens finds features w start tokens limit (TextAnswer.written t) = IsTreeWithin finds features w start tokens limit t
IsRightForTokens finds features w start tokens limit (TextAnswer.wrong_token at text) =
    IsFirstWrong finds features w start tokens at text
IsRightForTokens finds features w start tokens limit TextAnswer.early_end =
    Begins finds features w start (terminals_of_tokens tokens) × (IsSentence finds features w start tokens → ⊥)
IsRightForTokens finds features w start tokens limit TextAnswer.over_limit = IsOverLimit finds features w start tokens limit

-- The right answer to a text, by the entries that cut it: no token comes before all else.
pub data IsRightForText (finds : Text → Text → Option Bool) (features : List Text) (w : Grammar) (start : Text)
    (entries : List ScanEntry) (text : List ℕ) (limit : ℕ) : TextAnswer → Type 0 where
  stops : (at : ℕ) → NoTokenAt entries text at → IsRightForText finds features w start entries text limit (TextAnswer.no_token at)
  reads : (tokens : List Token) (answer : TextAnswer) → AreTokensOf entries text tokens
      → IsRightForTokens finds features w start tokens limit answer
      → IsRightForText finds features w start entries text limit answer
