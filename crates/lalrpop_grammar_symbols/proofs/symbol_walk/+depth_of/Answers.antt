use Rattle.std.proofs.Common.{◌≡◌, refl, ap, arith}
use Rattle.lalrpop_grammar_symbols.specs.Subsymbols.{symbols_depth}
use Rattle.lalrpop_grammar_symbols.specs.SymbolWalks.{symbols_inside, symbols_view}
use Rattle.lalrpop_grammar_symbols.specs.Views.{symbol_view}
use Rattle.lalrpop_grammar_symbols.proofs.SubsymbolLemmas.{depth-none, depth-more, depth-decreases}
use Rattle.lalrpop_grammar_symbols.proofs.symbol_walk.+depth_of.Goals as goal
use Rattle.lalrpop_grammar_symbols.proofs.symbol_walk.+depth_of.Goals.{then-depth-deepest, else-depth-deepest}

pub loop-symbol-init : goal.loop-symbol-init
loop-symbol-init t c = rw depth-none refl

pub depth_of-requires : goal.depth_of-requires
depth_of-requires t c =
    let same : symbols_depth (symbols_view c.inside.result.now) ≡ symbols_depth (symbols_inside (symbol_view c.symbol-item.result)) =
    ap symbols_depth c.inside.ensures in
    let less = depth-decreases c.args.symbols.now c.loop-symbol.symbol-index c.symbol-item.result c.loop-symbol-test.true
    c.symbol-item.is in
    (omega (arith, c.decreases, same, less), tt)

pub loop-symbol-preserved : goal.loop-symbol-preserved
loop-symbol-preserved t c =
    let more = depth-more c.args.symbols.now c.loop-symbol.symbol-index c.symbol-item.result c.loop-symbol-test.true c.symbol-item.is in
    let same : symbols_depth (symbols_view c.inside.result.now) ≡ symbols_depth (symbols_inside (symbol_view c.symbol-item.result)) =
    ap symbols_depth c.inside.ensures in
    elim c.if-depth-deepest.branch [
      | then-depth-deepest w ↦ omega (arith, more, same, c.depth_of.ensures, c.saturating_add-depth.ensures)
      | else-depth-deepest w ↦ omega (arith, more, same, c.depth_of.ensures, c.saturating_add-depth.ensures)
    ]
