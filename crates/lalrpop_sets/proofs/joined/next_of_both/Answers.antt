use Rattle.std.proofs.Common.{sym, ◌∙◌}
use Rattle.lalrpop_sets.specs.RangeWalks.{ranges_behind}
use Rattle.lalrpop_sets.proofs.JoinedLemmas.{first_one, first_other}
use Rattle.lalrpop_sets.proofs.joined.next_of_both.Goals as goal

pub returns-then-is_first : goal.returns-then-is_first
returns-then-is_first c =
    first_one c.args.one.now.head c.args.other.now.head (ranges_behind c.args.one.now) (ranges_behind c.args.other.now) _ c.next_range.result
    (sym c.is_first.ensures ∙ c.if-is_first.true) c.next_range.ensures

pub returns-else-is_first : goal.returns-else-is_first
returns-else-is_first c =
    first_other c.args.one.now.head c.args.other.now.head (ranges_behind c.args.one.now) (ranges_behind c.args.other.now) _ c.next_range-else-is_first.result
    (sym c.is_first.ensures ∙ c.if-is_first.false) c.next_range-else-is_first.ensures
