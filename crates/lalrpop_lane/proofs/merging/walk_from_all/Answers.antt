use Rattle.lalrpop_lane.proofs.MergingLemmas.{walk_none, walk_two}
use Rattle.lalrpop_lane.proofs.merging.walk_from_all.Goals as goal

pub loop-beachhead-init : goal.loop-beachhead-init
loop-beachhead-init c = record { classes = c.requires; kept = walk_none c.args.merge.now c.args.states.now.items }

pub walk_from-requires : goal.walk_from-requires
walk_from-requires c = c.loop-beachhead.invariant.classes

pub returns-then-not-done : goal.returns-then-not-done
returns-then-not-done c =
    walk_two c.args.merge.now c.loop-beachhead.merge c.walk_from.new.merge c.args.states.now.items c.loop-beachhead.states.items
    c.walk_from.new.states.items c.loop-beachhead.invariant.kept c.in_ok-done.ensures.kept

pub loop-beachhead-preserved : goal.loop-beachhead-preserved
loop-beachhead-preserved c =
    record {
      classes = c.walk_from.ensures.classes;
      kept = walk_two c.args.merge.now c.loop-beachhead.merge c.walk_from.new.merge c.args.states.now.items c.loop-beachhead.states.items
          c.walk_from.new.states.items c.loop-beachhead.invariant.kept c.in_ok-done.ensures.kept;
    }

pub returns : goal.returns
returns c = c.loop-beachhead.invariant.kept
