use Rattle.std.proofs.Common.{subst, sym}
use Rattle.lalrpop_lr1_counterexamples.specs.ShiftPositions.{IsPositionAtIf}
use Rattle.lalrpop_lr1_counterexamples.proofs.shift_positions.positions.first_position.Goals as goal

pub returns-in-Some : goal.returns-in-Some
returns-in-Some g c =
    record {
      item = c.item-item.result;
      has = (c.loop-item.item-index, c.loop-item-test.true, sym c.item-item.is);
      is = subst (IsPositionAtIf c.item-item.result c.args.terminal.now) c.in-Some.is c.position_at.ensures;
    }
