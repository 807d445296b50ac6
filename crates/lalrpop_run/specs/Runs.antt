-- The main theorem: what a run writes, and its status.
use Rattle.std.specs.Prelude.{◌≡◌, ◌⊎◌, ℕ, Bool, true, false, List, Option, Ok, codes}
use Rattle.lalrpop_grammar.specs.declared.grammar.Grammar.{Grammar}
use Rattle.lalrpop_grammar_streams.specs.Streams.{ReadsAll, Writes}
use Rattle.lalrpop_run.specs.Questions.{Question, reads_text, task_reads_grammar}
use Rattle.lalrpop_run.specs.Replies.{GivesGrammar, HasRead, IsRunReply, RunReader}
use Rattle.lalrpop_run.specs.Outputs.{Output, reply_output}
use Rattle.lalrpop_run.specs.ReplyTexts.{line}
use Rattle.lalrpop_run.specs.declared.replies.reply.Reply.{Reply}
use Rattle.lalrpop_run.specs.declared.replies.reply.Reply.TheVariants as replies

abbrev pub read_fault : Output
read_fault = record { text = line (codes "read fault"); status = 6 }

-- the writer of a run: what it held before and holds now, where it tells that, and whether it has failed
pub record RunWriter : Type 0 where
  pub before : Option (List ℕ)
  pub after : Option (List ℕ)
  pub has_failed : Bool

-- the grammar's reader had bytes that give a grammar: only then the text is read
abbrev pub HasGrammar : Option (List ℕ) → Type 0
HasGrammar known = (bytes : List ℕ) × (ReadsAll known bytes × ((g : Grammar) × GivesGrammar bytes (Ok g)))

-- The right answer to what the readers give: a reply; or that memory was wanting; or that a reader that was read has failed, or passed a
-- bound, before it ended; the text is read once its reader's grammar is there.
pub data IsRightAnswer (q : Question) (grammar text : RunReader) (output : Output) : Type 0 where
  unread : task_reads_grammar q.task q.tree ≡ false → output ≡ reply_output replies.WantsTree → IsRightAnswer q grammar text output
  replied : (bytes : List ℕ) (reply : Reply) → task_reads_grammar q.task q.tree ≡ true → HasRead grammar bytes
      → IsRunReply q bytes text reply → output ≡ reply_output reply → IsRightAnswer q grammar text output
  wants_memory : output ≡ (record { text = line (codes "out of memory"); status = 5 }) → IsRightAnswer q grammar text output
  no_grammar : task_reads_grammar q.task q.tree ≡ true
      → (grammar.has_failed ≡ true) × (grammar.had_ended ≡ false → grammar.has_ended ≡ false)
      → output ≡ (record { text = line (codes "read fault"); status = 6 }) → IsRightAnswer q grammar text output
  no_text : reads_text q ≡ true
      → (bytes : List ℕ) × (ReadsAll grammar.known bytes × ((g : Grammar) × GivesGrammar bytes (Ok g)))
      → (text.has_failed ≡ true) × (text.had_ended ≡ false → text.has_ended ≡ false)
      → output ≡ (record { text = line (codes "read fault"); status = 6 }) → IsRightAnswer q grammar text output

-- All of it is written and the status is its own; or a front of it, the writer has failed, and the status is 6.
abbrev pub IsWritten : Output → RunWriter → ℕ → Type 0
IsWritten output w status =
    (Writes w.before w.after output.text false × (status ≡ output.status))
    ⊎ (Writes w.before w.after output.text true × (w.has_failed ≡ true) × (status ≡ 6))

-- The main theorem: what is written is the text of the right answer to what the readers give, and the status is its own; or a front of it,
-- where the writer has failed, and the status is 6.
pub record IsRightRun (q : Question) (grammar text : RunReader) (out : RunWriter) (status : ℕ) : Type 0 where
  pub output : Output
  pub right : IsRightAnswer q grammar text output
  pub written : (Writes out.before out.after output.text false × (status ≡ output.status))
      ⊎ (Writes out.before out.after output.text true × (out.has_failed ≡ true) × (status ≡ 6))
