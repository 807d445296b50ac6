use Rattle.std.proofs.Common.{◌≡◌, ◌<◌, ◌≤◌, ap, arith, get_or, length, subst}
use Rattle.lalrpop_lr1_check_lookaheads.proofs.GainLemmas.{each_fails, each_more, each_passes, first_none, get_at}
use Rattle.lalrpop_lr1_check_lookaheads.proofs.ReduceLemmas.{IsEndWithin, each_within, end_is_tested}
use Rattle.lalrpop_lr1_check_lookaheads.proofs.lookaheads.reducing.are_within.Goals as goal

pub loop-number-init : goal.loop-number-init
loop-number-init c = first_none (IsEndWithin c.args.some.now c.args.all.now) c.args.some.now.keys.keys

pub returns-then-not-has_all : goal.returns-then-not-has_all
returns-then-not-has_all c =
    let some = c.args.some.now in
    let all = c.args.all.now in
    let n = c.loop-number.number in
    let end = c.index-keys-number.result in
    let here : n < length some.keys.keys = omega (arith, ap length c.as_slice-keys.ensures.keys, c.loop-number-test.true) in
    let is : end ≡ get_or some.keys.keys n end = subst (λ l. end ≡ get_or l n end) c.as_slice-keys.ensures.keys c.index-keys-number.is in
    let says = end_is_tested some all n end c.index.result.now c.in_ok-has_all.has_all c.requires.some
    (get_at some.keys.keys n end here is) c.index.ensures c.in_ok-has_all.ensures in
    let fails = each_fails (IsEndWithin some all) some.keys.keys n end c.in_ok-has_all.has_all here is says c.if-not-has_all.true in
    (λ e. (each_within some all).0 (fails.0 e), λ h. fails.1 ((each_within some all).1 h))

pub loop-number-preserved : goal.loop-number-preserved
loop-number-preserved c =
    let some = c.args.some.now in
    let all = c.args.all.now in
    let n = c.loop-number.number in
    let end = c.index-keys-number.result in
    let here : n < length some.keys.keys = omega (arith, ap length c.as_slice-keys.ensures.keys, c.loop-number-test.true) in
    let is : end ≡ get_or some.keys.keys n end = subst (λ l. end ≡ get_or l n end) c.as_slice-keys.ensures.keys c.index-keys-number.is in
    let says = end_is_tested some all n end c.index.result.now c.in_ok-has_all.has_all c.requires.some
    (get_at some.keys.keys n end here is) c.index.ensures c.in_ok-has_all.ensures in
    each_more (IsEndWithin some all) some.keys.keys n end c.in_ok-has_all.has_all here is says c.if-not-has_all.false
    c.loop-number.invariant

pub returns : goal.returns
returns c =
    let some = c.args.some.now in
    let all = c.args.all.now in
    let past : length some.keys.keys ≤ c.loop-number.number =
    omega (arith, ap length c.as_slice-keys.ensures.keys, c.loop-number-test.false) in
    let passes = each_passes (IsEndWithin some all) some.keys.keys c.loop-number.number past c.loop-number.invariant in
    (λ e. (each_within some all).0 (passes.0 e), λ h. passes.1 ((each_within some all).1 h))
