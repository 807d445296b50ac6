use Rattle.std.proofs.Common.{◌≡◌, ◌∙◌, ◌||◌, ◌&&◌, ℕ, List, ap, sym, subst}
use Rattle.lalrpop_sets.specs.AscendingLists.{has}
use Rattle.lalrpop_sets.specs.Ranges.{RangesFrom, is_covered}
use Rattle.lalrpop_sets.specs.RangeWalks.{ranges_to_come}
use Rattle.lalrpop_sets.proofs.EntryLemmas.{ok_map}
use Rattle.lalrpop_sets.proofs.TokenSetLemmas.{or_same}
use Rattle.lalrpop_sets.proofs.token_set.TokenSet.intersection.Goals as goal

pub set_of_both-requires-clause-one : goal.set_of_both-requires-clause-one
set_of_both-requires-clause-one c = subst (RangesFrom 1 0) (sym (c.new-walk.ensures ∙ c.as_slice.ensures.value)) c.in_ok-ranges.ensures.ordered

pub set_of_both-requires-clause-other : goal.set_of_both-requires-clause-other
set_of_both-requires-clause-other c = subst (RangesFrom 1 0) (sym (c.new-walk.ensures ∙ c.as_slice.ensures.value)) c.in_ok-ranges.ensures.ordered

pub returns-clause-both : goal.returns-clause-both
returns-clause-both c =
    let ps = ranges_to_come c.new-walk.result in
    let f : (s : List ℕ) → ((k : ℕ) → has s k ≡ (is_covered ps k || is_covered ps k)) → (k : ℕ)
    → has s k ≡ (has c.args.self.now k && has c.args.other.now k) =
    λ s h k. h k ∙ or_same (is_covered ps k) ∙ ap (λ l. is_covered l k) (c.new-walk.ensures ∙ c.as_slice.ensures.value)
    ∙ c.in_ok-ranges.ensures.covered k ∙ ap (λ b. b && is_covered (ranges_to_come c.walk-2.result) k) (c.walk.ensures.covered k)
    ∙ ap (λ b. has c.args.self.now k && b) (c.walk-2.ensures.covered k) in
    ok_map _ _ _ f c.set_of_both.ensures.both
