use Rattle.std.proofs.Common.{sym, rules}
use Rattle.std.proofs.Output.{has_written_append, has_written_of_eq}
use Rattle.lalrpop_json_grammar.proofs.PrintingLemmas.{opening-Rule}
use Rattle.lalrpop_json_grammar.proofs.printing.write_opening.Goals as goal

pub returns-in_ok-write_head-in-Rule : goal.returns-in_ok-write_head-in-Rule
returns-in_ok-write_head-in-Rule g c plain ok =
    let rule = c.in-Rule in
    let head = c.write_head.ensures plain (search rules) in
    has_written_of_eq _ _ _ _ _
    (sym (opening-Rule c.args.tree.now rule.rule rule.args c.as_slice.result.now rule.place rule.children rule.is c.as_slice.ensures))
    (has_written_append _ _ _ _ _ _ head (c.write_str.ensures.writes head.plain ok))
