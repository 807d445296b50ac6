use Rattle.std.proofs.Common.{rules}
use Rattle.lalrpop_plain_tables.proofs.ParsableLemmas.{are_parsable}
use Rattle.lalrpop_lr1_tests.proofs.interprets.collapsed_states.Goals as goal

pub returns-in-Ok : goal.returns-in-Ok
returns-in-Ok c =
    are_parsable c.args.grammar.now c.args.start.now c.in_ok-try_clone.field-0 c.in-Ok.states.items c.in_ok-try_clone.ensures
    (c.is_alone.ensures (search rules)) (c.in_ok-reaches_trees.ensures (search rules)) c.in-Ok.ensures.checked
