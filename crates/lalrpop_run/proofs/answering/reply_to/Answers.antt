use Rattle.std.proofs.Common.{subst, sym}
use Rattle.lalrpop_run_options.specs.declared.task.Task.{Task}
use Rattle.lalrpop_run.specs.Questions.{question_view}
use Rattle.lalrpop_run.specs.Replies.{IsGrammarFor, IsTaskReply}
use Rattle.lalrpop_run.proofs.answering.reply_to.Goals as goal

pub returns-in_ok-reply-in-Tokens : goal.returns-in_ok-reply-in-Tokens
returns-in_ok-reply-in-Tokens c =
    let g = c.args.grammar in
    λ fit.
    subst (λ (t : Task). IsTaskReply t (question_view c.args.question) g c.args.text.now c.in_ok-reply-in-Tokens.reply)
    (sym c.in-Tokens.is) (c.in_ok-reply-in-Tokens.ensures (subst (λ (t : Task). IsGrammarFor t g) c.in-Tokens.is fit))

pub returns-in_ok-reply-in-Check : goal.returns-in_ok-reply-in-Check
returns-in_ok-reply-in-Check c =
    let g = c.args.grammar in
    λ fit.
    subst (λ (t : Task). IsTaskReply t (question_view c.args.question) g c.args.text.now c.in_ok-reply-in-Check.reply)
    (sym c.in-Check.is) (c.in_ok-reply-in-Check.ensures (subst (λ (t : Task). IsGrammarFor t g) c.in-Check.is fit))

pub returns-in_ok-reply-in-Parse : goal.returns-in_ok-reply-in-Parse
returns-in_ok-reply-in-Parse c =
    let g = c.args.grammar in
    λ fit.
    subst (λ (t : Task). IsTaskReply t (question_view c.args.question) g c.args.text.now c.in_ok-reply-in-Parse.reply)
    (sym c.in-Parse.is) (c.in_ok-reply-in-Parse.ensures (subst (λ (t : Task). IsGrammarFor t g) c.in-Parse.is fit))

pub returns-in_ok-reply-in-Report : goal.returns-in_ok-reply-in-Report
returns-in_ok-reply-in-Report c =
    let g = c.args.grammar in
    λ fit.
    subst (λ (t : Task). IsTaskReply t (question_view c.args.question) g c.args.text.now c.in_ok-reply-in-Report.reply)
    (sym c.in-Report.is) (c.in_ok-reply-in-Report.ensures (subst (λ (t : Task). IsGrammarFor t g) c.in-Report.is fit))
