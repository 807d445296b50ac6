use Rattle.std.proofs.Common.{◌-◌, arith, get_or, length, refl, take}
use Rattle.lalrpop_lane_report.proofs.ExampleLemmas.{prefixes_begin, prefixes_end, prefixes_go_on, take_last, take_none}
use Rattle.lalrpop_lane_report.proofs.traces.path_examples.push_prefixes.Goals as goal

pub loop-left-init : goal.loop-left-init
loop-left-init c = record {
  within = omega arith;
  pushed = prefixes_begin c.args.out.now.items c.args.steps.now (length c.args.steps.now) refl;
}

pub loop-left-preserved : goal.loop-left-preserved
loop-left-preserved c = record {
  within = omega (arith, c.loop-left.invariant.within);
  pushed = prefixes_go_on c.loop-left.out.items c.push_symbols.new.out.items _ (take c.loop-left.left c.args.steps.now)
      (take (c.loop-left.left - 1) c.args.steps.now) (get_or c.args.steps.now (c.loop-left.left - 1) c.index-steps-left.result)
      (take_last c.args.steps.now c.loop-left.left c.index-steps-left.result c.loop-left-test.true c.loop-left.invariant.within)
      c.in_ok-push_symbols.ensures c.loop-left.invariant.pushed;
}

pub returns : goal.returns
returns c =
    prefixes_end c.loop-left.out.items _ (take c.loop-left.left c.args.steps.now) (take_none c.loop-left.left c.args.steps.now (omega arith))
    c.loop-left.invariant.pushed
