-- What there is to reply to a question: to a grammar and a text, and to what the readers give.
use Rattle.std.specs.Prelude.{◌≡◌, ℕ, Bool, true, false, List, [], Option, Result, Ok, Err, IsUtf8}
use Rattle.serde_json.specs.Data.{Data}
use Rattle.lalrpop_grammar.specs.declared.grammar.Grammar.{Grammar}
use Rattle.lalrpop_grammar_streams.specs.Streams.{ReadsAll}
use Rattle.lalrpop_grammar_symbols.specs.Symbols.{Text}
use Rattle.lalrpop_grammar.specs.Views.{grammar_view}
use Rattle.lalrpop_json_grammar.specs.Grammars.{grammar_at}
use Rattle.lalrpop_json_values.specs.declared.fault.Fault.{Fault}
use Rattle.lalrpop_norm_theory.specs.Premises.{IsReadGrammar}
use Rattle.lalrpop_run_options.specs.declared.task.Task.{Task}
use Rattle.lalrpop_run_options.specs.declared.task.Task.TheVariants as tasks
use Rattle.lalrpop_run.specs.Check.{IsCheckReply}
use Rattle.lalrpop_run.specs.Inputs.{IsJsonOf, IsNoJson}
use Rattle.lalrpop_run.specs.Judge.{IsJudgeReply}
use Rattle.lalrpop_run.specs.Parse.{IsParseReply}
use Rattle.lalrpop_run.specs.Questions.{Question, reads_text}
use Rattle.lalrpop_run.specs.Report.{IsReportReply}
use Rattle.lalrpop_run.specs.Tokens.{IsTokensReply}
use Rattle.lalrpop_run.specs.declared.replies.reply.Reply.{Reply}
use Rattle.lalrpop_run.specs.declared.replies.reply.Reply.TheVariants as replies

abbrev pub IsTaskReply : Task → Question → Grammar → Text → Reply → Type 0
IsTaskReply tasks.Judge q g text reply = IsJudgeReply q g reply
IsTaskReply tasks.Tokens q g text reply = IsTokensReply q g text reply
IsTaskReply tasks.Check q g text reply = IsCheckReply q g reply
IsTaskReply tasks.Parse q g text reply = IsParseReply q g text reply
IsTaskReply tasks.Report q g text reply = IsReportReply q g reply

-- to a grammar and a text, by the task
abbrev pub IsReplyTo : Question → Grammar → Text → Reply → Type 0
IsReplyTo q g text reply = IsTaskReply q.task q g text reply

-- the grammars for which a task's reply is promised: for all but `judge` those that look as one that was read, any prefix of two or more
-- underscores
abbrev pub IsGrammarFor : Task → Grammar → Type 0
IsGrammarFor tasks.Judge g = Unit {0}
IsGrammarFor tasks.Tokens g = IsReadGrammar (grammar_view g)
IsGrammarFor tasks.Check g = IsReadGrammar (grammar_view g)
IsGrammarFor tasks.Parse g = IsReadGrammar (grammar_view g)
IsGrammarFor tasks.Report g = IsReadGrammar (grammar_view g)

-- what the grammar's bytes give
abbrev pub GivesGrammar : List ℕ → Result Grammar Fault → Type 0
GivesGrammar bytes given = (d : Data) × (IsJsonOf bytes d × (grammar_at d ≡ given))

-- a reader of a run: what it had left before, where it tells that, whether it had ended, and whether it has failed or ended since
pub record RunReader : Type 0 where
  pub known : Option (List ℕ)
  pub had_ended : Bool
  pub has_failed : Bool
  pub has_ended : Bool

-- all that it had left was read, and it hasn't failed
abbrev pub HasRead : RunReader → List ℕ → Type 0
HasRead r bytes = (r.has_failed ≡ false) × ReadsAll r.known bytes

-- the text, where it is read: all that its reader had left
abbrev pub IsTextIn : Bool → RunReader → List ℕ → Type 0
IsTextIn true r text = HasRead r text × IsUtf8 text
IsTextIn false r text = text ≡ []

-- To the grammar's bytes and what the text's reader had left. The text is read once there is a grammar, where it is needed.
pub data IsRunReply (q : Question) (bytes : List ℕ) (r : RunReader) (reply : Reply) : Type 0 where
  no_json : IsNoJson bytes → reply ≡ replies.NotJson → IsRunReply q bytes r reply
  no_grammar : (fault : Fault) → GivesGrammar bytes (Err fault) → reply ≡ replies.GrammarFault fault → IsRunReply q bytes r reply
  no_text : (g : Grammar) (text : List ℕ) → GivesGrammar bytes (Ok g) → reads_text q ≡ true → HasRead r text
      → (IsUtf8 text → ⊥) → reply ≡ replies.NotUtf8 → IsRunReply q bytes r reply
  replied : (g : Grammar) (text : List ℕ) → GivesGrammar bytes (Ok g) → IsTextIn (reads_text q) r text
      → IsTaskReply q.task q g text reply → IsRunReply q bytes r reply
