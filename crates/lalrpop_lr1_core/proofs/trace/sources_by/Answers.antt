use Rattle.std.proofs.lemmas.List.{nil_from_length}
use Rattle.lalrpop_lr1_core.proofs.EdgeLemmas.{sources_end, sources_go_on}
use Rattle.lalrpop_lr1_core.proofs.trace.sources_by.Goals as goal

pub loop-edge-preserved : goal.loop-edge-preserved
loop-edge-preserved c =
    sources_go_on c.args.targets.now.keys c.args.symbol.now c.loop-edge.sources.keys c.add_source.new.sources.keys
    c.loop-edge.rest.now c.in-Some.others.now c.args.edges.now c.in-Some.edge.now c.in-Some.ensures.cases.0
    c.in_ok-add_source.ensures c.loop-edge.invariant

pub returns : goal.returns
returns c =
    sources_end c.args.targets.now.keys c.args.symbol.now c.loop-edge.sources.keys c.loop-edge.rest.now c.args.edges.now
    (nil_from_length c.loop-edge.rest.now c.in_default.ensures.cases) c.loop-edge.invariant
