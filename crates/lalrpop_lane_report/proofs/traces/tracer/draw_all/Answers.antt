use Rattle.std.proofs.Common.{arith, map}
use Rattle.std.proofs.lemmas.List.{length-map}
use Rattle.lalrpop_lane_report.specs.Tracings.{pair_asked}
use Rattle.lalrpop_lane_report.proofs.TracingLemmas.{tracing_ends, tracing_goes_on}
use Rattle.lalrpop_lane_report.proofs.VisitLemmas.{asked_at}
use Rattle.lalrpop_lane_report.proofs.traces.tracer.draw_all.Goals as goal

pub loop-number-preserved : goal.loop-number-preserved
loop-number-preserved c =
    let keys = c.loop-number.visited.keys in
    let number = c.loop-number.number in
    let asked = c.index-as_slice-number.result in
    record {
      whole = c.in_ok-draw_items.ensures.whole;
      tracing = λ by suits n item begun.
          tracing_goes_on c.args.ground.now.states.now by n item (map pair_asked keys) (map pair_asked c.draw_items.new.visited.keys) number
          (pair_asked asked) c.loop-number.graph c.draw_items.new.graph (c.loop-number.invariant.tracing by suits n item begun)
          (asked_at keys c.as_slice.result.now number asked c.as_slice.ensures.keys
          (omega (arith, c.len.ensures.len, c.loop-number-test.true)) c.index-as_slice-number.is)
          (c.in_ok-draw_items.ensures.asks by suits);
    }

pub returns : goal.returns
returns c =
    let counted = length-map c.loop-number.visited.keys pair_asked in
    λ by suits n item begun.
    tracing_ends c.args.ground.now.states.now by n item (map pair_asked c.loop-number.visited.keys) c.loop-number.number c.loop-number.graph
    (omega (arith, counted, c.len.ensures.len, c.loop-number-test.false)) (c.loop-number.invariant.tracing by suits n item begun)
