use Rattle.std.proofs.Common.{◌∙◌, ap, arith}
use Rattle.lalrpop_lr1_core.specs.Edges.{edges_of}
use Rattle.lalrpop_lane.proofs.MergingLemmas.{keeps_none, keeps_two}
use Rattle.lalrpop_lane.proofs.merging.resolve_all.Goals as goal

pub loop-state-init : goal.loop-state-init
loop-state-init c =
    record { kept = keeps_none c.args.states.now.items c.args.copies; graph = c.in_ok-graph.ensures ∙ ap edges_of c.as_slice.ensures.value }

pub resolve_next-requires-clause-state : goal.resolve_next-requires-clause-state
resolve_next-requires-clause-state c =
    let grown = c.loop-state.invariant.kept.grown in omega (arith, grown, c.loop-state-test.true)

pub loop-state-preserved : goal.loop-state-preserved
loop-state-preserved c =
    record {
      kept = keeps_two c.args.states.now.items c.loop-state.states.items c.resolve_next.new.states.items c.args.copies c.loop-state.left
          c.resolve_next.new.left c.loop-state.invariant.kept (c.in_ok-done.ensures.kept c.if-not-done.false);
      graph = c.in_ok-done.ensures.graph c.if-not-done.false;
    }

pub returns : goal.returns
returns c = c.loop-state.invariant.kept
