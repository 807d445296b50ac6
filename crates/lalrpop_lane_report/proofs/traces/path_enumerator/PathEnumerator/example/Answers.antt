use Rattle.std.proofs.Common.{List, length, subst, sym}
use Rattle.lalrpop_lane_report.specs.declared.traces.path_enumerator.TakenEdge.{TakenEdge}
use Rattle.lalrpop_lane_report.specs.PathSteps.{AreStepsWithin}
use Rattle.lalrpop_lane_report.proofs.EnumeratorLemmas.{example_at}
use Rattle.lalrpop_lane_report.proofs.TurnLemmas.{within_steps}
use Rattle.lalrpop_lane_report.proofs.traces.path_enumerator.PathEnumerator.example.Goals as goal

pub fill_example-requires-clause-within : goal.fill_example-requires-clause-within
fill_example-requires-clause-within c =
    subst (λ (l : List TakenEdge). AreStepsWithin (length c.self.inside.nodes.now) l) (sym c.as_slice.ensures.value)
    (within_steps c.self.inside.nodes.now c.self.inside.edges.now c.self.inside.steps.items c.self.invariant.walked)

pub returns : goal.returns
returns c = λ p others left.
    example_at c.self.inside.nodes.now c.self.inside.edges.now c.self.inside.steps.items c.as_slice.result.now c.args.self.now p others _
    c.self.view_is c.as_slice.ensures.value left c.in_ok-cursor.ensures.symbols c.in_ok-cursor.ensures.cursor c.in_ok-cursor.ensures.reductions
