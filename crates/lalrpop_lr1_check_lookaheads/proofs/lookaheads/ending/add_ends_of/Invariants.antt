use Rattle.std.proofs.Common.{ℕ, List, take}
use Rattle.lalrpop_lr1_theory.specs.States.{LookaheadSet}
use Rattle.lalrpop_lr1_check_lookaheads.specs.Ends.{BringsToEnd, GainsEndMarks}
use Rattle.lalrpop_lr1_check_lookaheads.specs.KeyedSets.{OfSome}
use Rattle.lalrpop_lr1_check_lookaheads.specs.LookaheadSlots.{slot_key}
use Rattle.lalrpop_lr1_check_lookaheads.proofs.lookaheads.ending.add_ends_of.Given as goal

abbrev pub invariant-loop-production : goal.invariant-loop-production
invariant-loop-production l = (look : List ℕ → LookaheadSet) → GainsEndMarks l.fn.ends l.ends
    (OfSome (λ p. BringsToEnd look l.states (slot_key l.slot) l.tokens p.now) (take l.production-index l.productions))
