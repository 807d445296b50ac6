use Rattle.std.proofs.Common.{Contains, refl}
use Rattle.lalrpop_lr1_theory.specs.States.{HasEdge, HasItem}
use Rattle.lalrpop_lane_theory.specs.SpreadStates.{LeavesBy}
use Rattle.lalrpop_lane_theory.proofs.SpreadLemmas.{copied_earlier, copied_spread, of_copy, of_other, redirected_spread, spread_cover, with_copy}
use Rattle.lalrpop_lane_theory.proofs.merges_keep_cover.Goals as goal

pub returns : goal.returns
returns c = (
  λ grammar s originals states origin cover spread.
      spread_cover (HasItem originals) (HasEdge originals) (HasItem states) (HasEdge states) origin spread (Contains grammar) s
      cover,
  λ originals states copied origin earlier from copy spread lead is_copied. record {
    new_origin = with_copy (HasItem originals) (HasEdge originals) (HasItem states) (HasEdge states) origin spread from copy;
    of_copy = of_copy (HasItem originals) (HasEdge originals) (HasItem states) (HasEdge states) origin spread from copy copy refl;
    of_other = of_other (HasItem originals) (HasEdge originals) (HasItem states) (HasEdge states) origin spread from copy;
    spread = copied_spread (HasItem originals) (HasEdge originals) (HasItem states) (HasEdge states) origin spread
        (HasItem copied) (HasEdge copied) (LeavesBy earlier) from copy lead is_copied;
    earlier = λ n state e none lead. copied_earlier (HasItem originals) (HasEdge originals) (HasItem states) (HasEdge states) origin
        spread from copy n (LeavesBy state) e none lead;
  },
  λ originals states redirected origin from copy spread redirects items same.
      redirected_spread (HasItem originals) (HasEdge originals) (HasItem states) (HasEdge states) origin spread
      (HasItem redirected) (HasEdge redirected) from copy redirects items same,
)
