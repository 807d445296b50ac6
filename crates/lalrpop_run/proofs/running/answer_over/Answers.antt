use Rattle.std.proofs.Common.{◌≡◌, ◌∙◌, [], List, ℕ, false, subst, sym, true}
use Rattle.lalrpop_grammar_streams.specs.Streams.{ReadsAll}
use Rattle.lalrpop_run.proofs.ReadLemmas.{grammar_read, unread_text}
use Rattle.lalrpop_run.specs.Questions.{question_of, reads_text}
use Rattle.lalrpop_run.specs.Replies.{IsRunReply}
use Rattle.lalrpop_run.proofs.running.answer_over.Goals as goal

pub returns-then-reads_text-clause-answer : goal.returns-then-reads_text-clause-answer
returns-then-reads_text-clause-answer g c =
    let a = c.in_ok-answer.ensures in
    let reads : reads_text (question_of c.args.options.now) ≡ true = sym c.reads_text.ensures ∙ c.if-reads_text.true in (
      a.0,
      (
        (λ json gives. a.1.0 _ json reads (
          c.in_ok-bytes.ensures.keeps,
          subst (λ (b : List ℕ). ReadsAll (g.R.Source.remaining c.args.text.now) b) (sym c.as_slice.ensures.value)
              c.in_ok-bytes.ensures.all,
        ) gives),
        a.1.1,
      ),
    )

pub returns-clause-answer : goal.returns-clause-answer
returns-clause-answer g c =
    let a = c.in_ok-answer-2.ensures in
    let unread : reads_text (question_of c.args.options.now) ≡ false = sym c.reads_text.ensures ∙ c.if-reads_text.false in (
      a.0,
      (
        (λ json gives. IsRunReply.replied c.args.grammar [] gives
            (unread_text (reads_text (question_of c.args.options.now)) _ unread)
            (a.1.0 (grammar_read c.args.options.now.task json c.args.grammar gives))),
        a.1.1,
      ),
    )
