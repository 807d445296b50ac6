use Rattle.std.proofs.Common.{ℕ, subst, sym}
use Rattle.lalrpop_lane.specs.Merges.{MergesKeep}
use Rattle.lalrpop_lane.proofs.MergingLemmas.{merge_keeps}
use Rattle.lalrpop_lane.proofs.merging.merge_rows.Goals as goal

pub walk_from_all-requires : goal.walk_from_all-requires
walk_from_all-requires c = c.in_ok-unify.ensures c.args.table.now.conflicts c.requires

pub returns-then-done : goal.returns-then-done
returns-then-done c =
    subst (λ (l : ℕ). MergesKeep c.args.states.now.items c.args.left c.walk_from_all.new.states.items l) (sym c.copies_left.ensures)
    (merge_keeps c.new-merge.result c.walk_from_all.new.merge c.args.states.now.items c.walk_from_all.new.states.items c.args.left
    c.new-merge.ensures.copies c.new-merge.ensures.firsts c.new-merge.ensures.left c.in_ok-done.ensures)
