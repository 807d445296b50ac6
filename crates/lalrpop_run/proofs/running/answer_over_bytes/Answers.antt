use Rattle.std.proofs.Common.{Bool, List, ℕ, refl, subst, sym}
use Rattle.lalrpop_run.specs.Questions.{question_of}
use Rattle.lalrpop_run.specs.Replies.{IsReplyTo, IsRunReply, IsTextIn}
use Rattle.lalrpop_run.specs.declared.replies.reply.Reply.TheVariants as replies
use Rattle.lalrpop_run.proofs.ReadLemmas.{grammar_read}
use Rattle.lalrpop_run.proofs.running.answer_over_bytes.Goals as goal

pub returns-in_ok-answer-in-Ok : goal.returns-in_ok-answer-in-Ok
returns-in_ok-answer-in-Ok c =
    let a = c.in_ok-answer-in-Ok.ensures in
    let q = question_of c.args.options.now in (
      a.0,
      (
        (λ r json reads all gives. IsRunReply.replied c.args.grammar c.args.bytes.now gives
            (subst (λ (b : Bool). IsTextIn b r c.args.bytes.now) (sym reads) (all, c.in-Ok.ensures.cases.1))
            (subst (λ (t : List ℕ). IsReplyTo q c.args.grammar t a.0) c.in-Ok.ensures.cases.0
            (a.1.0 (grammar_read c.args.options.now.task json c.args.grammar gives)))),
        a.1.1,
      ),
    )

pub returns-in_ok-answer-in-Err : goal.returns-in_ok-answer-in-Err
returns-in_ok-answer-in-Err c = (
  replies.NotUtf8,
  (
    (λ r json reads all gives. IsRunReply.no_text c.args.grammar c.args.bytes.now gives reads all c.in-Err.ensures.cases.0 refl),
    c.in_ok-answer-in-Err.ensures,
  ),
)
