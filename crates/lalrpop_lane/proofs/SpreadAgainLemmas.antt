-- States that are spread over spread states are spread over their originals: for merges, one after the other.
use Rattle.std.proofs.Common.{◌∙◌, ℕ, ap}
use Rattle.lalrpop_lr1_theory.specs.States.{State}
use Rattle.std.proofs.Common.{List}
use Rattle.lalrpop_lane_theory.specs.SpreadStates.{AreSpreadStates}

pub spread_again : (originals old new : List State) (origin o : ℕ → ℕ) → AreSpreadStates originals old origin →
    AreSpreadStates old new o → AreSpreadStates originals new (λ n. origin (o n))
spread_again originals old new origin o one other =
    record {
      first_state = ap origin other.first_state ∙ one.first_state;
      items = λ n p i. (
        λ h. (one.items (o n) p i).0 ((other.items n p i).0 h),
        λ h. (other.items n p i).1 ((one.items (o n) p i).1 h),
      );
      edges = λ n. record {
        down = λ x m e. (one.edges (o n)).down x (o m) ((other.edges n).down x m e);
        on = λ x k e. let h = (one.edges (o n)).on x k e in (other.edges n).on x h.0 h.1;
        one = λ x m k e f. (other.edges n).one x m k e f;
      };
    }
