use Rattle.std.proofs.Common.{◌∙◌, sym}
use Rattle.lalrpop_sets.proofs.RangeEditLemmas.{found_by}
use Rattle.lalrpop_sets.proofs.ranges.has_range.Goals as goal

pub returns : goal.returns
returns c =
    let f = c.first_from.ensures in
    c.is_at.ensures ∙ sym (found_by c.args.number c.first_from.result c.args.ranges.now c.requires f.within f.parts.0 f.parts.1)
