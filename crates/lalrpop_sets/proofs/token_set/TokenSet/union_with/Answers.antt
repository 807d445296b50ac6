use Rattle.std.proofs.Common.{◌≡◌, ◌||◌, ◌∙◌, true, false, ap, not, sym}
use Rattle.lalrpop_sets.specs.AscendingLists.{has}
use Rattle.lalrpop_sets.proofs.TokenSetLemmas.{none_found, some_found, union_all}
use Rattle.lalrpop_sets.proofs.token_set.TokenSet.union_with.Goals as goal

pub returns-then-is_none-clause-joined : goal.returns-then-is_none-clause-joined
returns-then-is_none-clause-joined c k =
    let all = none_found c.missing.result _ _ c.missing.ensures (c.is_none.ensures ∙ ap not c.if-is_none.true) k in
    union_all (has c.args.self.now k) (has c.args.other.now k)
    (λ e. sym (c.walk.ensures.covered k) ∙ all (c.walk-2.ensures.covered k ∙ e))

pub returns-clause-joined : goal.returns-clause-joined
returns-clause-joined c = c.in_ok-joined.ensures.joined

pub returns-clause-grown : goal.returns-clause-grown
returns-clause-grown c h =
    let f = some_found c.missing.result _ _ c.missing.ensures (c.is_none.ensures ∙ ap not c.if-is_none.false) in
    let k = f.0 in
    let in-other : has c.args.other.now k ≡ true = sym (c.walk-2.ensures.covered k) ∙ f.1.0 in
    let not-in-self : has c.args.self.now k ≡ false = sym (c.walk.ensures.covered k) ∙ f.1.1 in
    (k, c.in_ok-joined.ensures.joined k ∙ ap (λ b. b || has c.args.other.now k) not-in-self ∙ in-other, not-in-self)
