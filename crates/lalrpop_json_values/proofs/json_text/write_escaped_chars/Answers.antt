use Rattle.std.proofs.Common.{sym, rules}
use Rattle.std.proofs.Output.{has_written_append, has_written_of_eq}
use Rattle.lalrpop_json_values.proofs.EscapeLemmas.{escaped-push}
use Rattle.lalrpop_json_values.proofs.json_text.write_escaped_chars.Goals as goal

pub loop-c-preserved : goal.loop-c-preserved
loop-c-preserved g c plain =
    has_written_of_eq _ _ _ _ _ (sym (escaped-push c.loop-c.yielded c.in-Some.c))
    (has_written_append _ _ _ _ _ _ (c.loop-c.invariant plain) (search rules))
