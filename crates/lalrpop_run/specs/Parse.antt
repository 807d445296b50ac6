-- What `parse` replies to a grammar that was read and a text.
use Rattle.std.specs.Prelude.{◌≡◌, ℕ, List}
use Rattle.std.specs.Str.{chars}
use Rattle.lalrpop_grammar_symbols.specs.Symbols.{Text}
use Rattle.lalrpop_grammar.specs.declared.grammar.Grammar.{Grammar}
use Rattle.lalrpop_grammar.specs.declared.tree.WrittenTree.{WrittenTree}
use Rattle.lalrpop_grammar.specs.Views.{grammar_view, tree_view}
use Rattle.lalrpop_grammar_rules.specs.Search.{finds}
use Rattle.lalrpop_lexer_scan.specs.Entries.{ScanEntry}
use Rattle.lalrpop_run_prepare.specs.PreparedGrammars.{PreparedGrammar}
use Rattle.lalrpop_run_theory.specs.TextAnswers.{IsRightForText, TextAnswer}
use Rattle.lalrpop_run.specs.Asked.{WrittenAnswer}
use Rattle.lalrpop_run.specs.Parsers.{TellsConflicts, TellsRefusal}
use Rattle.lalrpop_run.specs.Questions.{Question, asked_of}
use Rattle.lalrpop_run.specs.RightAnswer.{IsRightAnswerTo}
use Rattle.lalrpop_run.specs.declared.replies.reply.Reply.{Reply}
use Rattle.lalrpop_run.specs.declared.replies.reply.Reply.TheVariants as replies

-- the reply tells the answer to a text, under this limit
abbrev pub TellsTextAnswer : ℕ → TextAnswer → Reply → Type 0
TellsTextAnswer limit (TextAnswer.no_token at) reply = reply ≡ replies.NoToken at
TellsTextAnswer limit (TextAnswer.written t) reply = (tree : WrittenTree) × (tree_view tree ≡ t) × (reply ≡ replies.Tree tree)
TellsTextAnswer limit (TextAnswer.wrong_token at text) reply = reply ≡ replies.WrongToken at text
TellsTextAnswer limit TextAnswer.early_end reply = reply ≡ replies.EarlyEnd
TellsTextAnswer limit TextAnswer.over_limit reply = reply ≡ replies.OverLimit limit

-- it tells the right answer of what was prepared
pub record IsAnswerTold (v : PreparedGrammar) (entries : List ScanEntry) (text : List ℕ) (limit : ℕ) (reply : Reply) : Type 0 where
  pub answer : TextAnswer
  pub right : IsRightForText finds v.session.features.items (grammar_view v.written) v.start entries text limit answer
  pub told : TellsTextAnswer limit answer reply

-- the reply tells the answer
abbrev pub TellsWrittenAnswer : Question → Grammar → WrittenAnswer → Reply → Type 0
TellsWrittenAnswer q g (WrittenAnswer.refused f) reply = TellsRefusal f reply
TellsWrittenAnswer q g (WrittenAnswer.conflicting told) reply = TellsConflicts told reply
TellsWrittenAnswer q g (WrittenAnswer.to_text answer) reply = TellsTextAnswer q.limit answer reply

-- The right answer to the text is told.
pub record IsParseReply (q : Question) (g : Grammar) (text : Text) (reply : Reply) : Type 0 where
  pub answer : WrittenAnswer
  pub right : IsRightAnswerTo (asked_of q) (grammar_view g) (chars text) answer
  pub told : TellsWrittenAnswer q g answer reply
