-- What is written for a reply, and the status.
use Rattle.std.specs.Prelude.{ℕ, List, string_bytes}
use Rattle.lalrpop_run.specs.ReplyTexts.{reply_text, reply_status}
use Rattle.lalrpop_run.specs.declared.replies.reply.Answer.{Answer}
use Rattle.lalrpop_run.specs.declared.replies.reply.Reply.{Reply}

-- what is to be written, and the status
pub record Output : Type 0 where
  pub text : List ℕ
  pub status : ℕ

abbrev pub answer_view : Answer → Output
answer_view answer = record { text = string_bytes answer.text; status = answer.status }

abbrev pub reply_output : Reply → Output
reply_output reply = record { text = reply_text reply; status = reply_status reply }
