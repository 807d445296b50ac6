use Rattle.std.proofs.Common.{◌≡◌, ◌∙◌, ◌-◌, ap, arith, length, length-drop, refl}
use Rattle.lalrpop_lane_report.proofs.DrawLemmas.{not_so}
use Rattle.lalrpop_lane_report.proofs.FilterLemmas.{skips_none, skips_one}
use Rattle.lalrpop_lane_report.proofs.TurnLemmas.{first_of_list}
use Rattle.lalrpop_lane_report.proofs.traces.filtered.skip_unfit.Goals as goal

pub loop-alloc-init : goal.loop-alloc-init
loop-alloc-init c = record {
  skipped = λ g firsts terminals. skips_none g c.args.lookahead.now c.args.paths.now.left;
  shorter = omega arith;
  graph = refl;
}

pub returns-in-Ok-true-clause-skipped : goal.returns-in-Ok-true-clause-skipped
returns-in-Ok-true-clause-skipped c = λ g firsts terminals. (
  c.loop-alloc.invariant.skipped g firsts terminals,
  λ p others left. (c.in-Ok-true.ensures p others left g firsts terminals).0 c.in-Ok-true.field-0-test,
)

pub loop-alloc-preserved : goal.loop-alloc-preserved
loop-alloc-preserved c =
    let left = c.loop-alloc.paths.left in
    let first = first_of_list left (c.found_trace.ensures.0 c.loop-alloc-test.true) in
    let next = c.in_ok-advance-in-Ok-false.ensures.next in
    let long : length c.advance.new.self.left ≡ length left - 1 = ap length next ∙ length-drop 1 left in
    record {
      skipped = λ g firsts terminals.
          skips_one g c.args.lookahead.now c.args.paths.now.left left c.advance.new.self.left first.0 first.1
          (c.loop-alloc.invariant.skipped g firsts terminals) first.2 next
          (not_so c.in-Ok-false.field-0 (c.in-Ok-false.ensures first.0 first.1 first.2 g firsts terminals) c.in-Ok-false.field-0-test);
      shorter = omega (arith, long, c.loop-alloc.invariant.shorter);
      graph = c.advance.ensures.graph ∙ c.loop-alloc.invariant.graph;
    }
