use Rattle.std.proofs.Common.{◌≡◌, ◌∙◌, Bool, List, ℕ, Option, Some, arith, false, length, nat_lt, string_bytes, subst, sym}
use Rattle.lalrpop_run.specs.GivenTexts.{ended_of, misused_of}
use Rattle.lalrpop_run.specs.Questions.{question_of}
use Rattle.lalrpop_run.specs.Runs.{IsRightRun}
use Rattle.lalrpop_run.proofs.words.run_words.Goals as goal

pub returns-clause-right : goal.returns-clause-right
returns-clause-right g c = λ whole.
    let text = string_bytes c.args.options.now.text in
    let over = c.run-2.new.text in
    let fine : misused_of over ≡ false = c.run-2.ensures.text_uses c.new-given.ensures.ended ∙ c.new-given.ensures.misused in
    let short : nat_lt 16777216 (length text) ≡ false =
    grind (arith, c.if-text-gt-MAX_BYTES.false, c.as_bytes-text.ensures.value, c.as_bytes-text.ensures.len) in
    let Right : Option (List ℕ) → Bool → Bool → Type 0 = λ known ended failed. IsRightRun (question_of c.args.options.now)
    (record {
      known = g.R.Source.remaining c.args.grammar.now;
      had_ended = g.R.Source.ended c.args.grammar.now;
      has_failed = g.R.Source.has_failed c.run-2.new.grammar;
      has_ended = g.R.Source.ended c.run-2.new.grammar;
    })
    (record { known = known; had_ended = ended; has_failed = failed; has_ended = ended_of over })
    (record {
      before = g.W.Sink.contents c.args.out.now;
      after = g.W.Sink.contents c.run-2.new.out;
      has_failed = g.W.Sink.has_failed c.run-2.new.out;
    })
    c.run-2.result in (
      ended_of over,
      subst (Right (Some text) false) (fine ∙ sym short)
          (subst (λ (ended : Bool). Right (Some text) ended (misused_of over)) c.new-given.ensures.ended
          (subst (λ (bytes : List ℕ). Right (Some bytes) (ended_of c.new-given.result) (misused_of over))
          (c.new-given.ensures.rest ∙ c.as_bytes-text.ensures.value) (c.run-2.ensures.right whole))),
    )
