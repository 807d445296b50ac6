use Rattle.std.proofs.Common.{List, subst, sym, ℕ}
use Rattle.std.specs.Borrow.{Bor}
use Rattle.lalrpop_grammar_repr.specs.declared.production.Production.{Production}
use Rattle.lalrpop_lane.specs.LaneStates.{AreBeforeSets}
use Rattle.lalrpop_lane.proofs.carried.put_state_before.Goals as goal

pub returns-clause-sets : goal.returns-clause-sets
returns-clause-sets c =
    subst (λ (l : List (List ℕ × Bor Production)). AreBeforeSets c.args.sets.now c.args.state.reductions l) (sym c.replace-before.ensures.after)
    (subst (λ (l : List (List ℕ × Bor Production)). AreBeforeSets c.args.sets.now l c.in_ok-reductions.reductions) c.as_slice.ensures
    c.in_ok-reductions.ensures)
