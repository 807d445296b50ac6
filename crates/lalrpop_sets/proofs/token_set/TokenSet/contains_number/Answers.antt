use Rattle.std.proofs.Common.{◌||◌, ◌∙◌, ap, sym, subst}
use Rattle.lalrpop_sets.specs.AscendingLists.{Ascends, has}
use Rattle.lalrpop_sets.specs.Ranges.{RangesFrom, is_covered}
use Rattle.lalrpop_sets.proofs.TokenSetLemmas.{asc_set, has_set}
use Rattle.lalrpop_sets.proofs.token_set.TokenSet.contains_number.Goals as goal

pub has_range-requires : goal.has_range-requires
has_range-requires c = subst (RangesFrom 2 0) (sym c.as_slice.ensures.value) c.self.invariant.apart

pub returns-then-is_end-clause-answer : goal.returns-then-is_end-clause-answer
returns-then-is_end-clause-answer c =
    let rs = c.self.inside.ranges.items in
    let end = c.self.inside.end in
    c.if-is_end.true
    ∙ sym (ap (λ s. has s c.args.number) (sym c.self.view_is) ∙ has_set rs end _ c.self.invariant c.args.number
    ∙ ap (λ b. b || is_covered rs c.args.number) (sym c.is_end.ensures ∙ c.if-is_end.true))

pub returns-else-is_end-clause-answer : goal.returns-else-is_end-clause-answer
returns-else-is_end-clause-answer c =
    let rs = c.self.inside.ranges.items in
    let end = c.self.inside.end in
    c.has_range.ensures ∙ ap (λ l. is_covered l c.args.number) c.as_slice.ensures.value
    ∙ sym (ap (λ s. has s c.args.number) (sym c.self.view_is) ∙ has_set rs end _ c.self.invariant c.args.number
    ∙ ap (λ b. b || is_covered rs c.args.number) (sym c.is_end.ensures ∙ c.if-is_end.false))

pub returns-then-is_end-clause-ordered : goal.returns-then-is_end-clause-ordered
returns-then-is_end-clause-ordered c = subst Ascends c.self.view_is (asc_set c.self.inside.ranges.items c.self.inside.end _ c.self.invariant)

pub returns-else-is_end-clause-ordered : goal.returns-else-is_end-clause-ordered
returns-else-is_end-clause-ordered c = subst Ascends c.self.view_is (asc_set c.self.inside.ranges.items c.self.inside.end _ c.self.invariant)
