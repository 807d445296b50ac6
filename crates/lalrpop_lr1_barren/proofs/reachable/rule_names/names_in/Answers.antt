use Rattle.std.proofs.Common.{◌∙◌, ◌+◌, ◌++◌, ap, append-nil, drop, sym}
use Rattle.std.specs.Prelude.{filter, nat_lt}
use Rattle.lalrpop_lr1_first.specs.Tables.{symbols_until}
use Rattle.lalrpop_lr1_first.proofs.ListLemmas.{read_default}
use Rattle.lalrpop_lr1_first.proofs.PlaceLemmas.{drop_past, until_end, until_symbol}
use Rattle.lalrpop_lr1_barren.proofs.RuleLemmas.{names_step}
use Rattle.lalrpop_lr1_barren.proofs.reachable.rule_names.names_in.Goals as goal

pub returns-in-End : goal.returns-in-End
returns-in-End c =
    let places = c.args.places.now in
    let i = c.loop-place.place-index in
    let names = c.loop-place.names.items in
    let read = read_default places i _ _ c.loop-place-test.true c.in-End.is in
    sym (append-nil names)
    ∙ ap (λ l. names ++ filter (λ s. nat_lt s c.args.count) l) (sym (until_end places i c.loop-place-test.true _ read))
    ∙ c.loop-place.invariant

pub loop-place-preserved : goal.loop-place-preserved
loop-place-preserved c =
    let places = c.args.places.now in
    let i = c.loop-place.place-index in
    let names = c.loop-place.names.items in
    let s = c.in-Symbol.symbol in
    let read = read_default places i _ _ c.loop-place-test.true c.in-Symbol.is in
    names_step c.args.count names c.add_below.new.names.items s (symbols_until (drop (i + 1) places)) _ c.in_ok-add_below-in-Symbol.ensures
    (ap (λ l. names ++ filter (λ k. nat_lt k c.args.count) l) (sym (until_symbol places i c.loop-place-test.true s read))
    ∙ c.loop-place.invariant)

pub returns : goal.returns
returns c =
    let places = c.args.places.now in
    let names = c.loop-place.names.items in
    sym (append-nil names)
    ∙ ap (λ l. names ++ filter (λ s. nat_lt s c.args.count) (symbols_until l))
    (sym (drop_past places c.loop-place.place-index c.loop-place-test.false))
    ∙ c.loop-place.invariant
