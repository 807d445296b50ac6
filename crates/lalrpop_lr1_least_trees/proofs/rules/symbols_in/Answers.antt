use Rattle.std.proofs.Common.{◌∙◌, ◌+◌, ◌++◌, ap, append-nil, drop, sym}
use Rattle.std.proofs.Math.Seq.{append_snoc}
use Rattle.lalrpop_lr1_first.specs.Tables.{symbols_until}
use Rattle.lalrpop_lr1_first.proofs.ListLemmas.{read_default}
use Rattle.lalrpop_lr1_first.proofs.PlaceLemmas.{drop_past, until_end, until_symbol}
use Rattle.lalrpop_lr1_least_trees.proofs.rules.symbols_in.Goals as goal

pub returns-in-End : goal.returns-in-End
returns-in-End c =
    let places = c.args.places.now in
    let i = c.loop-place.place-index in
    let symbols = c.loop-place.symbols.items in
    let read = read_default places i _ _ c.loop-place-test.true c.in-End.is in
    sym (append-nil symbols) ∙ ap (λ l. symbols ++ l) (sym (until_end places i c.loop-place-test.true _ read)) ∙ c.loop-place.invariant

pub loop-place-preserved : goal.loop-place-preserved
loop-place-preserved c =
    let places = c.args.places.now in
    let i = c.loop-place.place-index in
    let symbols = c.loop-place.symbols.items in
    let s = c.in-Symbol.symbol in
    let read = read_default places i _ _ c.loop-place-test.true c.in-Symbol.is in
    ap (λ l. l ++ symbols_until (drop (i + 1) places)) c.in_ok-push-in-Symbol.ensures.items
    ∙ append_snoc symbols s (symbols_until (drop (i + 1) places))
    ∙ ap (λ l. symbols ++ l) (sym (until_symbol places i c.loop-place-test.true s read)) ∙ c.loop-place.invariant

pub returns : goal.returns
returns c =
    let places = c.args.places.now in
    let symbols = c.loop-place.symbols.items in
    sym (append-nil symbols)
    ∙ ap (λ l. symbols ++ symbols_until l) (sym (drop_past places c.loop-place.place-index c.loop-place-test.false)) ∙
    c.loop-place.invariant
