use Rattle.std.proofs.Common.{refl}
use Rattle.lalrpop_run.specs.Tokens.{IsScanReply}
use Rattle.lalrpop_run.proofs.tokens.scan_reply.Goals as goal

pub returns-in-Ok : goal.returns-in-Ok
returns-in-Ok c = λ entries is.
    let given = c.in-Ok.ensures.received c.new-lines.ensures in
    IsScanReply.tokens given.tokens c.into_text.result (record { cut = given.cut entries is; filled = given.filled })
    (rw c.into_text.ensures given.received) refl

pub returns-in-Err-NoToken : goal.returns-in-Err-NoToken
returns-in-Err-NoToken c = λ entries is.
    IsScanReply.no_token c.in-Err-NoToken.at
    (rw c.in-Err-NoToken.field-0-is at (c.in-Err-NoToken.ensures.no_token entries is)) refl
