use Rattle.std.proofs.Common.{[]}
use Rattle.std.specs.Prelude.{slice_index_or}
use Rattle.lalrpop_lr1_least_trees.specs.Searches.{number_lists}
use Rattle.lalrpop_lr1_barren.specs.Clauses.{IsMarked}
use Rattle.lalrpop_lr1_check_lookaheads.specs.ListTests.{HoldsAtEach, HoldsAtFirst}
use Rattle.lalrpop_lr1_check.proofs.closure.unmoved.have_listed_marks.Given as goal

abbrev pub invariant-loop-name : goal.invariant-loop-name
invariant-loop-name l =
    HoldsAtFirst (λ _ name. HoldsAtEach (λ _ n. IsMarked l.marks n) (slice_index_or (number_lists l.lists) name [])) l.names
    l.name-index
