use Rattle.lalrpop_lane.specs.Rounds.{AreInRounds, TellsNoConflict}
use Rattle.lalrpop_lane.proofs.rounds.rounds_over.Given as goal

abbrev pub invariant-rounds : goal.invariant-rounds
invariant-rounds l = record {
  reduced : AreInRounds l.grammar l.start.0 l.copies l.left l.states.items;
  tells : TellsNoConflict l.grammar l.states.items l.none;
}

abbrev pub decreases-rounds : goal.decreases-rounds
decreases-rounds l = l.left
