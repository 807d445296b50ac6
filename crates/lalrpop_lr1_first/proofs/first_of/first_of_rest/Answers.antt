use Rattle.std.proofs.Common.{◌∙◌, ◌+◌, ◌<◌, ◌||◌, ap, drop, length}
use Rattle.std.proofs.Common.{sym}
use Rattle.lalrpop_sets.specs.AscendingLists.{has}
use Rattle.lalrpop_sets.specs.Tokens.{eof_number}
use Rattle.lalrpop_lr1_first.specs.Numbers.{set_of_number}
use Rattle.lalrpop_lr1_first.specs.Tables.{symbols_until}
use Rattle.lalrpop_lr1_first.proofs.ListLemmas.{at_read_set, read_default}
use Rattle.lalrpop_lr1_first.proofs.PlaceLemmas.{below_at, until_symbol}
use Rattle.lalrpop_lr1_first.proofs.WalkLemmas.{gathered_more, gathered_stop}
use Rattle.lalrpop_lr1_first.proofs.first_of.first_of_rest.Goals as goal

pub returns-then-not-take_eof : goal.returns-then-not-take_eof
returns-then-not-take_eof c =
    let rest = c.args.rest.now in
    let i = c.loop-place.place-index in
    let a = c.in-Symbol.symbol in
    let read = read_default rest i _ _ c.loop-place-test.true c.in-Symbol.is in
    let below : a < length c.args.sets.now = below_at rest i c.loop-place-test.true (length c.args.sets.now) a c.requires read in
    gathered_stop (set_of_number c.args.sets.now) (eof_number c.args.terminals.now) (symbols_until rest) (symbols_until (drop i rest))
    (symbols_until (drop (i + 1) rest)) a c.loop-place.first c.union_with.new.self c.take_eof.new.self c.loop-place.invariant
    (until_symbol rest i c.loop-place-test.true a read)
    (λ k. c.in_ok-union_with-in-Symbol.ensures.joined k
    ∙ ap (λ s. has c.loop-place.first k || has s k)
    (at_read_set c.args.sets.now a c.index-sets-symbol.result below c.index-sets-symbol.is))
    c.take_eof.ensures.gone (sym c.take_eof.ensures.was ∙ c.if-not-take_eof.true)

pub loop-place-preserved : goal.loop-place-preserved
loop-place-preserved c =
    let rest = c.args.rest.now in
    let i = c.loop-place.place-index in
    let a = c.in-Symbol.symbol in
    let read = read_default rest i _ _ c.loop-place-test.true c.in-Symbol.is in
    let below : a < length c.args.sets.now = below_at rest i c.loop-place-test.true (length c.args.sets.now) a c.requires read in
    gathered_more (set_of_number c.args.sets.now) (eof_number c.args.terminals.now) (symbols_until rest) (symbols_until (drop i rest))
    (symbols_until (drop (i + 1) rest)) a c.loop-place.first c.union_with.new.self c.take_eof.new.self c.loop-place.invariant
    (until_symbol rest i c.loop-place-test.true a read)
    (λ k. c.in_ok-union_with-in-Symbol.ensures.joined k
    ∙ ap (λ s. has c.loop-place.first k || has s k)
    (at_read_set c.args.sets.now a c.index-sets-symbol.result below c.index-sets-symbol.is))
    c.take_eof.ensures.gone (sym c.take_eof.ensures.was ∙ c.if-not-take_eof.false)
