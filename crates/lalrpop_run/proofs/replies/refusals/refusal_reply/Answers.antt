use Rattle.std.proofs.Common.{◌≡◌, true, false, refl}
use Rattle.lalrpop_run.proofs.replies.refusals.refusal_reply.Goals as goal

pub returns : goal.returns
returns c = (
  (λ e.
      let yes : c.is_memory.result ≡ true = c.is_memory.ensures.1 e in
      let no : c.is_memory.result ≡ false = c.if-is_memory.false in
      cc),
  refl,
)
