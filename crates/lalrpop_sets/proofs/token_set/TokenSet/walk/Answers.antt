use Rattle.std.proofs.Common.{◌∙◌, ap, subst}
use Rattle.lalrpop_sets.specs.AscendingLists.{Ascends, has}
use Rattle.lalrpop_sets.specs.Ranges.{with_end}
use Rattle.lalrpop_sets.specs.RangeWalks.{ranges_to_come}
use Rattle.lalrpop_sets.proofs.TokenSetLemmas.{asc_set, walk_covered, walk_numbers, walk_ordered}
use Rattle.lalrpop_sets.proofs.token_set.TokenSet.walk.Goals as goal

pub returns-clause-numbers : goal.returns-clause-numbers
returns-clause-numbers c =
    let rs = c.self.inside.ranges.items in
    let end = c.self.inside.end in
    walk_numbers rs (ranges_to_come c.new.result) end (c.new.ensures ∙ ap (with_end end) c.as_slice.ensures.value) ∙ c.self.view_is

pub returns-clause-covered : goal.returns-clause-covered
returns-clause-covered c k =
    let rs = c.self.inside.ranges.items in
    let end = c.self.inside.end in
    walk_covered rs end _ c.self.invariant (ranges_to_come c.new.result) (c.new.ensures ∙ ap (with_end end) c.as_slice.ensures.value) k
    ∙ ap (λ s. has s k) c.self.view_is

pub returns-clause-ordered : goal.returns-clause-ordered
returns-clause-ordered c =
    let rs = c.self.inside.ranges.items in
    let end = c.self.inside.end in
    walk_ordered rs end _ c.self.invariant (ranges_to_come c.new.result) (c.new.ensures ∙ ap (with_end end) c.as_slice.ensures.value)

pub returns-clause-ascends : goal.returns-clause-ascends
returns-clause-ascends c = subst Ascends c.self.view_is (asc_set c.self.inside.ranges.items c.self.inside.end _ c.self.invariant)
