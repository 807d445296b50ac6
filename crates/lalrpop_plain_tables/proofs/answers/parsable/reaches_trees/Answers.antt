use Rattle.lalrpop_plain_tables.proofs.ParsableLemmas.{table_barren}
use Rattle.lalrpop_plain_tables.proofs.answers.parsable.reaches_trees.Goals as goal

pub returns : goal.returns
returns c =
    let same = table_barren c.args.grammar.now c.in_ok-table.table c.in_ok-table.ensures c.args.start.now.0 in
    (λ h. same.0 (c.in_ok-none.ensures.0 h), λ none. c.in_ok-none.ensures.1 (same.1 none))
