use Rattle.std.proofs.Common.{ℕ, List, subst}
use Rattle.std.specs.Fmt.{HasWritten}
use Rattle.lalrpop_run.proofs.PlainReplyLemmas.{plain_else}
use Rattle.lalrpop_run.proofs.replies.texts.ReplyDisplay.fmt.Goals as goal

pub returns-in_default-clause-writes : goal.returns-in_default-clause-writes
returns-in_default-clause-writes g c = λ plain ok.
    let d = c.in_default in
    let text_is = c.plain_text.ensures
    (plain_else c.args.self.now d.not-GrammarFault d.not-TreeFault d.not-Refused d.not-Conflicts d.not-Parser d.not-Tokens d.not-Report
    d.not-NoToken d.not-Tree d.not-WrongToken d.not-OverLimit) in
    subst (λ (t : List ℕ). HasWritten {W = g.row.W.Denot} g.W.Write.write_str_gives c.args.f.now t c.write_str.new.self)
    text_is (c.write_str.ensures.writes plain ok)
