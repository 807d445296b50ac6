use Rattle.std.proofs.Common.{◌∙◌, ap}
use Rattle.lalrpop_sets.specs.Ranges.{token_numbers}
use Rattle.lalrpop_sets.proofs.TokenSetLemmas.{same_ranges}
use Rattle.lalrpop_sets.proofs.token_set.TokenSet.reserve.Goals as goal

pub invariant_of-self : goal.invariant_of-self
invariant_of-self c =
    same_ranges c.self.inside.ranges.items c.reserve.new.self.items c.self.inside.end _ _ c.self.invariant c.reserve.ensures.items
    c.reserve.ensures.capacity

pub returns-in_err-reserve : goal.returns-in_err-reserve
returns-in_err-reserve c = ap (λ l. token_numbers l c.self.inside.end) c.reserve.ensures.items ∙ c.self.view_is

pub invariant_of-self-2 : goal.invariant_of-self-2
invariant_of-self-2 c =
    same_ranges c.self.inside.ranges.items c.reserve.new.self.items c.self.inside.end _ _ c.self.invariant c.reserve.ensures.items
    c.reserve.ensures.capacity

pub returns : goal.returns
returns c = ap (λ l. token_numbers l c.self.inside.end) c.reserve.ensures.items ∙ c.self.view_is
