use Rattle.std.proofs.Common.{arith}
use Rattle.lalrpop_lr1_build.proofs.ClosedLemmas.{closed_by}
use Rattle.lalrpop_lr1_build.proofs.states.merging.close_kernel.Goals as goal

pub close-requires-clause-marks : goal.close-requires-clause-marks
close-requires-clause-marks g c = λ i k h. let l = c.requires.kernel.tokens i k h in omega (arith, l)

pub returns : goal.returns
returns g c =
    closed_by g.L.ClosureLookahead.marks g.L.ClosureLookahead.firsts g.L.KernelLookahead.in_order c.args.closures.now.numbered
    c.args.kernel.now c.in_ok-brought.brought.items c.in_ok-items.items c.requires.kernel c.in_ok-brought.ensures.items
    (c.in_ok-brought.ensures.tokens c.requires.kernel.tokens) c.in_ok-brought.ensures.closes c.in_ok-items.ensures
