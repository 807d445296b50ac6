use Rattle.std.proofs.Common.{◌∙◌, ap}
use Rattle.std.specs.Cmp.Lexicographic.{slice_cmp}
use Rattle.std.specs.Ordering.{nat_cmp}
use Rattle.lalrpop_sets.specs.RangeWalks.{numbers_to_come}
use Rattle.lalrpop_sets.proofs.token_set.TokenSetOrd.cmp.Goals as goal

pub returns : goal.returns
returns c =
    c.compare.ensures ∙ ap (λ l. slice_cmp nat_cmp l (numbers_to_come c.walk-2.result)) c.walk.ensures.numbers
    ∙ ap (slice_cmp nat_cmp c.args.self.now) c.walk-2.ensures.numbers
