use Rattle.std.proofs.Common.{◌≡◌, ◌∙◌, ◌+◌, ◌∷◌, ap, arith, drop, drop-cons, false, suc}
use Rattle.lalrpop_lane.specs.GotoNumbers.{count_marked}
use Rattle.lalrpop_lane.proofs.NumberLemmas.{marked_within}
use Rattle.lalrpop_lane.proofs.numbering.count_marks.Goals as goal

pub overflow_add-count : goal.overflow_add-count
overflow_add-count c =
    let marks = c.args.marks.now in
    let i = c.loop-mark.mark-index in
    let here = ap count_marked (drop-cons marks i false c.loop-mark-test.true)
    ∙ ap (λ b. count_marked (b ∷ drop (suc i) marks)) c.if-mark.true in
    let all : c.loop-mark.count + count_marked (drop i marks) ≡ count_marked marks = c.loop-mark.invariant in
    omega (arith, here, all, marked_within marks)

pub returns-clause-bound : goal.returns-clause-bound
returns-clause-bound c =
    let all : c.loop-mark.count + count_marked (drop c.loop-mark.mark-index c.args.marks.now) ≡ count_marked c.args.marks.now =
    c.loop-mark.invariant in
    omega (arith, all, marked_within c.args.marks.now)
