use Rattle.std.proofs.Common.{◌∙◌, ◌&&◌, ap, not, sym}
use Rattle.lalrpop_sets.specs.AscendingLists.{has}
use Rattle.lalrpop_sets.specs.Ranges.{is_covered}
use Rattle.lalrpop_sets.specs.RangeWalks.{ranges_to_come}
use Rattle.lalrpop_sets.proofs.CommonLemmas.{meets_no, meets_yes}
use Rattle.lalrpop_sets.proofs.token_set.TokenSet.is_disjoint.Goals as goal

pub returns-clause-yes : goal.returns-clause-yes
returns-clause-yes c h k =
    ap (λ b. b && has c.args.other.now k) (sym (c.walk-one.ensures.covered k))
    ∙ ap (λ b. is_covered (ranges_to_come c.walk-one.result) k && b) (sym (c.walk-another.ensures.covered k))
    ∙ meets_no (ranges_to_come c.walk-one.result) (ranges_to_come c.walk-another.result) (ranges_to_come c.next_common.new.one)
    (ranges_to_come c.next_common.new.other) c.next_common.result c.next_common.ensures (c.is_none.ensures ∙ ap not h) k

pub returns-clause-no : goal.returns-clause-no
returns-clause-no c h =
    let g = meets_yes (ranges_to_come c.walk-one.result) (ranges_to_come c.walk-another.result) (ranges_to_come c.next_common.new.one)
    (ranges_to_come c.next_common.new.other) c.next_common.result c.next_common.ensures (c.is_none.ensures ∙ ap not h) in
    (g.0, sym (c.walk-one.ensures.covered g.0) ∙ g.1, sym (c.walk-another.ensures.covered g.0) ∙ g.2)
