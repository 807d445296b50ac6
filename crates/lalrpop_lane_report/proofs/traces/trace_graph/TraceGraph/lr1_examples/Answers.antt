use Rattle.std.proofs.Common.{◌∙◌, Contains, Some, ap, subst, sym}
use Rattle.lalrpop_lane_report.proofs.FilterLemmas.{same_node}
use Rattle.lalrpop_lane_report.proofs.traces.trace_graph.TraceGraph.lr1_examples.Goals as goal

pub lr0_examples-requires : goal.lr0_examples-requires
lr0_examples-requires c =
    subst (Contains c.args.self.now.nodes)
    (sym (same_node c.to_lr0.result c.args.item.now c.to_lr0.ensures.production c.to_lr0.ensures.index)) c.requires

pub returns-clause-paths : goal.returns-clause-paths
returns-clause-paths c = λ n at.
    c.in_ok-paths.ensures.paths n
    (at ∙ ap Some (sym (same_node c.to_lr0.result c.args.item.now c.to_lr0.ensures.production c.to_lr0.ensures.index)))
