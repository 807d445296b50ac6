use Rattle.lalrpop_lr1_barren.proofs.AloneLemmas.{alone_seen}
use Rattle.lalrpop_plain_tables.proofs.answers.parsable.is_alone.Goals as goal

pub returns : goal.returns
returns c = λ h. alone_seen c.args.grammar.now c.args.start.now (c.start_is_alone.ensures.0 h)
