use Rattle.std.proofs.Common.{◌≡◌, length, take}
use Rattle.lalrpop_lr1_paths.specs.CompletionSteps.{AreStepEdges}
use Rattle.lalrpop_lr1_paths.proofs.completion_steps.completion_graphs.edges_of_steps.Given as goal

abbrev pub invariant-loop-step : goal.invariant-loop-step
invariant-loop-step l = (length l.edges.items ≡ l.step-index) × AreStepEdges (take l.step-index l.steps) l.edges.items
