use Rattle.std.proofs.Common.{sym, subst}
use Rattle.lalrpop_sets.specs.RangeWalks.{ranges_to_come}
use Rattle.lalrpop_sets.proofs.CommonLemmas.{ListedTo, listed_end, listed_more, listed_one, listed_other, listed_start}
use Rattle.lalrpop_sets.proofs.common.common.Goals as goal

pub loop-range-init : goal.loop-range-init
loop-range-init c =
    let ps = ranges_to_come c.args.one in
    let qs = ranges_to_come c.args.other in
    subst (λ l. ListedTo ps qs l ps qs) (sym c.new-list.ensures.items) (listed_start ps qs c.requires.one c.requires.other)

pub next_common-requires-clause-one : goal.next_common-requires-clause-one
next_common-requires-clause-one c = listed_one _ _ _ _ _ c.loop-range.invariant

pub next_common-requires-clause-other : goal.next_common-requires-clause-other
next_common-requires-clause-other c = listed_other _ _ _ _ _ c.loop-range.invariant

pub loop-range-preserved : goal.loop-range-preserved
loop-range-preserved c =
    subst (λ l. ListedTo (ranges_to_come c.args.one) (ranges_to_come c.args.other) l (ranges_to_come c.next_common.new.one)
    (ranges_to_come c.next_common.new.other)) (sym c.in_ok-push.ensures.items)
    (listed_more _ _ c.loop-range.list.items _ _ c.loop-range.invariant c.in-Some.range _ _ c.in-Some.ensures)

pub returns-clause-covered : goal.returns-clause-covered
returns-clause-covered c = listed_end _ _ c.loop-range.list.items _ _ c.loop-range.invariant c.in_default.ensures

pub returns-clause-ordered : goal.returns-clause-ordered
returns-clause-ordered c = c.loop-range.invariant.ordered
