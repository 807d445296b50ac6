use Rattle.std.proofs.Common.{rules, ◌≡◌, Err}
use Rattle.lalrpop_lr1_core.specs.declared.state_index.StateIndex.{StateIndex}
use Rattle.lalrpop_lane_tables.specs.CopiedStates.{CopyingKeeps}
use Rattle.lalrpop_lane_tables.proofs.CopiedLemmas.{copying_both}
use Rattle.lalrpop_lane_tables.proofs.MergeWalkLemmas.{unless_more}
use Rattle.lalrpop_lane_tables.proofs.merge_walk.walk.Goals as goal

pub returns-in_err-target-clause-kept : goal.returns-in_err-target-clause-kept
returns-in_err-target-clause-kept c =
    let is : c.from_residual-in_err-target.result ≡ Err c.in_err-target.field-0.0 = search rules in
    rw is (unless_more StateIndex (Unit {0}) c.in_err-target.field-0.0
    (CopyingKeeps c.loop-step.copying c.loop-step.states.items c.resolve.new.copying c.resolve.new.states.items)
    (CopyingKeeps c.args.copying.now c.args.states.now.items c.resolve.new.copying c.resolve.new.states.items)
    (λ h. copying_both c.args.copying.now c.loop-step.copying c.resolve.new.copying c.args.states.now.items c.loop-step.states.items
    c.resolve.new.states.items c.loop-step.invariant.kept h) c.in_err-target.ensures.kept)

pub loop-step-preserved : goal.loop-step-preserved
loop-step-preserved c = record {
  classes = c.in_ok-target.ensures.classes;
  kept = copying_both c.args.copying.now c.loop-step.copying c.resolve.new.copying c.args.states.now.items c.loop-step.states.items
      c.resolve.new.states.items c.loop-step.invariant.kept c.in_ok-target.ensures.kept;
}
