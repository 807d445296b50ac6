use Rattle.std.proofs.Common.{List, ℕ, ap, option_map}
use Rattle.std.specs.Borrow.{Bor}
use Rattle.std.proofs.lemmas.Result.{IfOk-weaker}
use Rattle.lalrpop_run.proofs.judging.judge_reply.Goals as goal

pub returns-in-Some : goal.returns-in-Some
returns-in-Some c =
    IfOk-weaker c.reply_to_text.result _ _ (λ reply told. told (ap (option_map (λ (t : Bor (List ℕ)). t.now)) c.in-Some.is))
    c.reply_to_text.ensures
