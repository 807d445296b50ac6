use Rattle.std.proofs.Common.{◌≡◌, true, arith, refl, subst, sym}
use Rattle.lalrpop_grammar.specs.declared.grammar.Grammar.{Grammar}
use Rattle.lalrpop_json_grammar.specs.Grammars.{grammar_at}
use Rattle.lalrpop_run.specs.Inputs.{IsInput}
use Rattle.lalrpop_run.specs.Questions.{question_of, reads_grammar}
use Rattle.lalrpop_run.specs.Replies.{IsRunReply}
use Rattle.lalrpop_run.specs.Runs.{IsRightAnswer}
use Rattle.lalrpop_run.specs.declared.questions.input.Input.{Input}
use Rattle.lalrpop_run.specs.declared.replies.reply.Reply.TheVariants as replies
use Rattle.lalrpop_run.proofs.running.right_answer.Goals as goal

pub returns-in_ok-answer-in-Value-clause-answer : goal.returns-in_ok-answer-in-Value-clause-answer
returns-in_ok-answer-in-Value-clause-answer g c =
    let reads : true ≡ reads_grammar (question_of c.args.options.now) = grind (arith, c.reads_grammar.ensures) in
    let read = c.in_ok-grammar.ensures.read in
    let a = c.in_ok-answer-in-Value.ensures.answer in
    IsRightAnswer.replied read.0 a.0 (sym reads) (c.in_ok-grammar.ensures.keeps, read.1.0)
    (a.1.0 read.0 (subst (λ (i : Input Grammar). IsInput grammar_at read.0 i) c.in-Value.is read.1.1))
    a.1.1

pub returns-in_ok-answer-in-NotJson-clause-answer : goal.returns-in_ok-answer-in-NotJson-clause-answer
returns-in_ok-answer-in-NotJson-clause-answer g c =
    let reads : true ≡ reads_grammar (question_of c.args.options.now) = grind (arith, c.reads_grammar.ensures) in
    let read = c.in_ok-grammar.ensures.read in
    IsRightAnswer.replied read.0 replies.NotJson (sym reads) (c.in_ok-grammar.ensures.keeps, read.1.0)
    (IsRunReply.no_json
    (subst (λ (i : Input Grammar). IsInput grammar_at read.0 i) c.in-NotJson.is read.1.1) refl)
    c.in_ok-answer-in-NotJson.ensures.answer

pub returns-in_ok-answer-in-Fault-clause-answer : goal.returns-in_ok-answer-in-Fault-clause-answer
returns-in_ok-answer-in-Fault-clause-answer g c =
    let reads : true ≡ reads_grammar (question_of c.args.options.now) = grind (arith, c.reads_grammar.ensures) in
    let read = c.in_ok-grammar.ensures.read in
    IsRightAnswer.replied read.0 (replies.GrammarFault c.in-Fault.fault) (sym reads) (c.in_ok-grammar.ensures.keeps, read.1.0)
    (IsRunReply.no_grammar c.in-Fault.fault
    (subst (λ (i : Input Grammar). IsInput grammar_at read.0 i) c.in-Fault.is read.1.1) refl)
    c.in_ok-answer-in-Fault.ensures.answer
