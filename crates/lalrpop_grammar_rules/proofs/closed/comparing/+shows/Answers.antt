use Rattle.std.proofs.Common.{rules}
use Rattle.lalrpop_grammar_rules.proofs.ArgumentLemmas.{call_with_some}
use Rattle.lalrpop_grammar_rules.proofs.closed.comparing.+shows.Goals as goal

pub call_shows-returns-else-is_empty : goal.call_shows-returns-else-is_empty
call_shows-returns-else-is_empty t c =
    rw (call_with_some c.args.name.now c.args.args.now c.args.level (search rules)) c.macro_shows.ensures
