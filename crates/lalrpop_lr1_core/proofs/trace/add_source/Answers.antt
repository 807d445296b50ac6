use Rattle.lalrpop_lr1_core.proofs.EdgeLemmas.{source_comes}
use Rattle.lalrpop_lr1_core.proofs.trace.add_source.Goals as goal

pub returns-then-is_by : goal.returns-then-is_by
returns-then-is_by c =
    source_comes c.add_number.result c.args.targets.now.keys c.args.symbol.now c.args.edge.now c.args.sources.now.keys
    c.add_number.new.numbers.keys (c.is_by.ensures.0 c.if-is_by.true) (c.has_number.ensures.0 c.if-has_number.true)
    c.add_number.ensures
