use Rattle.std.proofs.Common.{sym, ◌∙◌, rules}
use Rattle.lalrpop_json_values.proofs.EscapeLemmas.{standing-escape}
use Rattle.lalrpop_json_values.proofs.json_text.write_escaped.Goals as goal

pub returns-then-needs_no_escape : goal.returns-then-needs_no_escape
returns-then-needs_no_escape g c =
    rw (standing-escape c.args.text.now (sym c.needs_no_escape.ensures ∙ c.if-needs_no_escape.true)) (search rules)
