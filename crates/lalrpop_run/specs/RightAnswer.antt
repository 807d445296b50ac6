-- The right answer to a text, over the written grammar.
use Rattle.std.specs.Prelude.{ℕ, ◌≡◌, List, Contains, None, map}
use Rattle.lalrpop_grammar.specs.WrittenGrammar.{Grammar, InternEntry}
use Rattle.lalrpop_grammar.specs.Trees.{Token, Tree}
use Rattle.lalrpop_grammar_language.specs.Admitting.{AdmitsFrom}
use Rattle.lalrpop_grammar_language.specs.Sentences.{Begins, IsSentence}
use Rattle.lalrpop_lexer_pattern.specs.Wins.{HasNoTie}
use Rattle.lalrpop_lexer_scan.specs.Entries.{ScanEntry, patterns, precedences}
use Rattle.lalrpop_lexer_scan.specs.Tokens.{AreTokensOf, NoTokenAt}
use Rattle.lalrpop_lr1_theory.specs.Answers.{IsLr1}
use Rattle.lalrpop_lr1_theory.specs.Productions.{Production}
use Rattle.lalrpop_lr1_theory.specs.ValidItems.{CountsItemSets}
use Rattle.lalrpop_norm_chain.specs.UsedLiterals.{AreFullExpansionEntries}
use Rattle.lalrpop_norm_token_check.specs.Blocks.{block_groups}
use Rattle.lalrpop_norm_token_check.specs.Patterns.{first_refused, scan_entry}
use Rattle.lalrpop_run_theory.specs.TextAnswers.{AreExpansionOf, IsFirstWrong, IsOverLimit, IsTreeWithin, TextAnswer}
use Rattle.lalrpop_run_theory.specs.TextAnswers.{terminals_of_tokens}
use Rattle.lalrpop_run.specs.Asked.{Asked, Refusal, ToldConflict, WrittenAnswer, enabled, name_of_start}
use Rattle.lalrpop_run.specs.ListedFaults.{IsFaultless, IsListedFault}
use Rattle.lalrpop_run.specs.ToldConflicts.{IsConflicting}

-- The entries by which its texts are cut: those of the match block and of the literals that the expansion uses, none of which is refused, and
-- no two tie.
pub record AreItsEntries (q : Asked) (w : Grammar) (entries : List ScanEntry) : Type 0 where
  pub made : List InternEntry
  pub are_full : AreFullExpansionEntries (enabled q w) (block_groups w.items) made
  pub none_refused : first_refused made ≡ None
  pub entries_are : entries ≡ map scan_entry made
  pub unambiguous : HasNoTie (patterns entries) (precedences entries)

-- no tokens have two written trees
abbrev pub IsUnambiguous : Asked → Grammar → Type 0
IsUnambiguous q w =
    (t u : Tree) (tokens : List Token) → AdmitsFrom q.finds q.features w q.start t tokens
    → AdmitsFrom q.finds q.features w q.start u tokens → t ≡ u

-- No fault stands, the expansion is LR(1) from the start, and no tokens have two written trees.
pub record MayBeParsed (q : Asked) (w : Grammar) : Type 0 where
  pub faultless : IsFaultless q w
  pub grammar : List Production
  pub expansion : AreExpansionOf q.finds q.features w grammar
  pub lr1 : IsLr1 (Contains grammar) (name_of_start q w)
  pub unambiguous : IsUnambiguous q w

-- The grammar may be parsed, and these are the tokens of the text.
pub record HasTokens (q : Asked) (w : Grammar) (text : List ℕ) (tokens : List Token) : Type 0 where
  pub parsed : MayBeParsed q w
  pub entries : List ScanEntry
  pub are_entries : AreItsEntries q w entries
  pub cut : AreTokensOf entries text tokens

-- The first token with which the tokens so far begin no sentence; or the end, where they are none and yet begin one; or the limit, where each
-- tree of the tokens is larger and a run over them has one move more.
abbrev pub StopsAtTokens : Asked → Grammar → List Token → TextAnswer → Type 0
StopsAtTokens q w tokens (TextAnswer.wrong_token at word) = IsFirstWrong q.finds q.features w q.start tokens at word
StopsAtTokens q w tokens TextAnswer.early_end =
    Begins q.finds q.features w q.start (terminals_of_tokens tokens) × (IsSentence q.finds q.features w q.start tokens → ⊥)
StopsAtTokens q w tokens TextAnswer.over_limit = IsOverLimit q.finds q.features w q.start tokens q.limit
StopsAtTokens q w tokens (TextAnswer.no_token at) = ⊥
StopsAtTokens q w tokens (TextAnswer.written t) = ⊥

-- The right answer: a fault that stands, the first in order; else, where the expansion isn't LR(1), its conflicts; else, where the text has a
-- place without a token, the first such place; else the only tree of the tokens, where it is within the limit; else the first place where
-- they
-- stop beginning a sentence, or the limit.
pub data IsRightAnswerTo (q : Asked) (w : Grammar) (text : List ℕ) : WrittenAnswer → Type 0 where
  fault : (f : Refusal) → IsListedFault q w f → IsRightAnswerTo q w text (WrittenAnswer.refused f)
  conflicts : (told : List ToldConflict) → IsConflicting q w told → IsRightAnswerTo q w text (WrittenAnswer.conflicting told)
  no_token : (entries : List ScanEntry) (at : ℕ) → MayBeParsed q w → AreItsEntries q w entries → NoTokenAt entries text at
      → IsRightAnswerTo q w text (WrittenAnswer.to_text (TextAnswer.no_token at))
  sentence : (tokens : List Token) (t : Tree) → HasTokens q w text tokens
      → IsTreeWithin q.finds q.features w q.start tokens q.limit t
      → IsRightAnswerTo q w text (WrittenAnswer.to_text (TextAnswer.written t))
  stops : (tokens : List Token) (answer : TextAnswer) → HasTokens q w text tokens → StopsAtTokens q w tokens answer
      → IsRightAnswerTo q w text (WrittenAnswer.to_text answer)

-- There is a parser, and there are so many canonical states.
pub record IsRightStateCount (q : Asked) (w : Grammar) (count : ℕ) : Type 0 where
  pub parsed : MayBeParsed q w
  pub counted : CountsItemSets (Contains parsed.grammar) (name_of_start q w) count
