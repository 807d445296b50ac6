use Rattle.std.proofs.Common.{inl, inr, refl}
use Rattle.lalrpop_sets.proofs.common.pass_common.Goals as goal

pub returns-then-range-next : goal.returns-then-range-next
returns-then-range-next c = inl (c.if-range-next.true, c.pass.ensures, refl)

pub returns-then-next-range : goal.returns-then-next-range
returns-then-next-range c = inr (c.if-next-range.true, refl, c.pass-then-next-range.ensures)

pub returns : goal.returns
returns c =
    record {
      first = c.overlap-both.ensures.first;
      last = c.overlap-both.ensures.last;
      meets = c.if-range-next.false;
      met = c.if-next-range.false;
      one = c.pass_up_to.ensures;
      other = c.pass_up_to-2.ensures;
    }
