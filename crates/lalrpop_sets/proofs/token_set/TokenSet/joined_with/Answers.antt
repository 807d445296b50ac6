use Rattle.std.proofs.Common.{◌≡◌, ◌∙◌, ◌||◌, ℕ, List, ap, false, not, subst, sym}
use Rattle.lalrpop_sets.specs.AscendingLists.{Ascends, has}
use Rattle.lalrpop_sets.specs.Ranges.{is_covered}
use Rattle.lalrpop_sets.specs.RangeWalks.{ranges_behind, ranges_to_come}
use Rattle.lalrpop_sets.proofs.EntryLemmas.{ok_map}
use Rattle.lalrpop_sets.proofs.TokenSetLemmas.{head_gone}
use Rattle.lalrpop_sets.proofs.token_set.TokenSet.joined_with.Goals as goal

pub returns-clause-joined : goal.returns-clause-joined
returns-clause-joined c =
    let ps = ranges_to_come c.walk-one.result in
    let qs = ranges_to_come c.walk-another.result in
    let f : (s : List ℕ) → ((k : ℕ) → has s k ≡ (is_covered ps k || is_covered qs k)) → (k : ℕ)
    → has s k ≡ (has c.args.self.now k || has c.args.other.now k) =
    λ s h k. h k ∙ ap (λ b. b || is_covered qs k) (c.walk-one.ensures.covered k)
    ∙ ap (λ b. has c.args.self.now k || b) (c.walk-another.ensures.covered k) in
    ok_map _ _ _ f c.set_of_both.ensures.both

pub returns-then-is_none-clause-joined : goal.returns-then-is_none-clause-joined
returns-then-is_none-clause-joined c =
    let lacks : (k : ℕ) → has c.args.self.now k ≡ false =
    λ k. sym (c.walk-one.ensures.covered k)
    ∙ head_gone c.walk-one.result.head (ranges_behind c.walk-one.result) (c.is_none.ensures ∙ ap not c.if-is_none.true) k in
    let f : (s : List ℕ) → s ≡ c.args.other.now → (k : ℕ) → has s k ≡ (has c.args.self.now k || has c.args.other.now k) =
    λ s e k. ap (λ l. has l k) e ∙ sym (ap (λ b. b || has c.args.other.now k) (lacks k)) in
    ok_map _ _ _ f c.try_clone.ensures

pub returns-then-is_none-clause-ordered : goal.returns-then-is_none-clause-ordered
returns-then-is_none-clause-ordered c =
    let f : (s : List ℕ) → s ≡ c.args.other.now → Ascends s = λ s e. subst Ascends (sym e) c.walk-another.ensures.ascends in
    ok_map _ _ _ f c.try_clone.ensures
