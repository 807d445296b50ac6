use Rattle.std.proofs.Common.{get_or, refl}
use Rattle.lalrpop_lr1_first.proofs.ListLemmas.{read_default}
use Rattle.lalrpop_lr1_check_lookaheads.proofs.GainLemmas.{each_fails, each_more, each_passes, first_none}
use Rattle.lalrpop_lr1_check.specs.RuleLists.{HasMarkedName}
use Rattle.lalrpop_lr1_check.proofs.closure.unmoved.have_marked_names.Goals as goal

pub loop-number-init : goal.loop-number-init
loop-number-init c = first_none (λ _ n. HasMarkedName c.args.rules.now c.args.names.now n) c.args.numbers.now

pub returns-then-not-has_marked_name : goal.returns-then-not-has_marked_name
returns-then-not-has_marked_name c =
    let xs = c.args.numbers.now in
    let i = c.loop-number.number-index in
    let x = get_or xs i 0 in
    each_fails (λ _ n. HasMarkedName c.args.rules.now c.args.names.now n) xs i x c.has_marked_name.result
    c.loop-number-test.true (read_default xs i 0 x c.loop-number-test.true refl)
    c.has_marked_name.ensures c.if-not-has_marked_name.true

pub loop-number-preserved : goal.loop-number-preserved
loop-number-preserved c =
    let xs = c.args.numbers.now in
    let i = c.loop-number.number-index in
    let x = get_or xs i 0 in
    each_more (λ _ n. HasMarkedName c.args.rules.now c.args.names.now n) xs i x c.has_marked_name.result
    c.loop-number-test.true (read_default xs i 0 x c.loop-number-test.true refl)
    c.has_marked_name.ensures c.if-not-has_marked_name.false
    c.loop-number.invariant

pub returns : goal.returns
returns c =
    each_passes (λ _ n. HasMarkedName c.args.rules.now c.args.names.now n) c.args.numbers.now
    c.loop-number.number-index c.loop-number-test.false c.loop-number.invariant
