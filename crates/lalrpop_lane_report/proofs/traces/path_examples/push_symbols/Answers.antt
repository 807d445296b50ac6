use Rattle.std.proofs.Common.{◌≡◌, ◌∙◌, ◌+◌, ◌∷◌, ◌++◌, [], ap, sym, take}
use Rattle.std.proofs.lemmas.List.{take_more}
use Rattle.lalrpop_lane_report.proofs.ExampleLemmas.{symbols_go_on}
use Rattle.lalrpop_lane_report.proofs.traces.path_examples.push_symbols.Goals as goal

pub loop-symbol-preserved : goal.loop-symbol-preserved
loop-symbol-preserved c =
    let i = c.loop-symbol.symbol-index in
    let xs = c.args.symbols.now in
    let more : take (i + 1) xs ≡ take i xs ++ c.symbol-item.result ∷ [] =
    take_more xs i c.symbol-item.result c.loop-symbol-test.true ∙ ap (λ x. take i xs ++ x ∷ []) (sym c.symbol-item.is) in
    symbols_go_on c.loop-symbol.out.items c.push.new.self.items c.args.out.now.items xs i c.symbol-item.result _ c.in_ok-push.ensures.items
    c.in_ok-try_clone.ensures more c.loop-symbol.invariant
