use Rattle.std.proofs.Common.{arith}
use Rattle.lalrpop_lr1_barren.specs.Clauses.{IsMarked}
use Rattle.lalrpop_lr1_barren.proofs.ClauseLemmas.{each_below, marked_within}
use Rattle.lalrpop_lr1_barren.proofs.least.first_lacking.Goals as goal

pub returns-then-is_lacking : goal.returns-then-is_lacking
returns-then-is_lacking c =
    let l = c.is_lacking.ensures.lacks c.if-is_lacking.true in
    record { marked = l.0; lacks = l.1; before = c.loop-number.invariant }

pub loop-number-preserved : goal.loop-number-preserved
loop-number-preserved c =
    each_below (λ n. IsMarked c.args.first.now n → IsMarked c.args.second.now n) c.loop-number.number c.loop-number.invariant
    (c.is_lacking.ensures.kept c.if-is_lacking.false)

pub returns : goal.returns
returns c = λ n m. c.loop-number.invariant n (omega (arith, marked_within c.args.first.now n m)) m
