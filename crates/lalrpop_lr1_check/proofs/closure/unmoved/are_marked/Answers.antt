use Rattle.std.proofs.Common.{◌∙◌, get_or, refl, sym}
use Rattle.lalrpop_lr1_first.proofs.ListLemmas.{read_default}
use Rattle.lalrpop_lr1_check_lookaheads.proofs.GainLemmas.{each_fails, each_more, each_passes, first_none}
use Rattle.lalrpop_lr1_barren.specs.Clauses.{IsMarked}
use Rattle.lalrpop_lr1_check.proofs.closure.unmoved.are_marked.Goals as goal

pub loop-number-init : goal.loop-number-init
loop-number-init c = first_none (λ _ n. IsMarked c.args.marks.now n) c.args.numbers.now

pub returns-then-not-is_marked : goal.returns-then-not-is_marked
returns-then-not-is_marked c =
    let xs = c.args.numbers.now in
    let i = c.loop-number.number-index in
    let x = get_or xs i 0 in
    each_fails (λ _ n. IsMarked c.args.marks.now n) xs i x c.is_marked.result
    c.loop-number-test.true (read_default xs i 0 x c.loop-number-test.true refl)
    (λ e. sym c.is_marked.ensures ∙ e, λ m. c.is_marked.ensures ∙ m) c.if-not-is_marked.true

pub loop-number-preserved : goal.loop-number-preserved
loop-number-preserved c =
    let xs = c.args.numbers.now in
    let i = c.loop-number.number-index in
    let x = get_or xs i 0 in
    each_more (λ _ n. IsMarked c.args.marks.now n) xs i x c.is_marked.result
    c.loop-number-test.true (read_default xs i 0 x c.loop-number-test.true refl)
    (λ e. sym c.is_marked.ensures ∙ e, λ m. c.is_marked.ensures ∙ m) c.if-not-is_marked.false
    c.loop-number.invariant

pub returns : goal.returns
returns c =
    each_passes (λ _ n. IsMarked c.args.marks.now n) c.args.numbers.now
    c.loop-number.number-index c.loop-number-test.false c.loop-number.invariant
