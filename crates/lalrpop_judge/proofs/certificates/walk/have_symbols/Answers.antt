use Rattle.std.proofs.Common.{◌∙◌, ◌<◌, Some, ap, arith, length, map, refl}
use Rattle.lalrpop_lr1_core.specs.Views.{production_symbol_view}
use Rattle.lalrpop_judge.specs.EntryMoves.{Root}
use Rattle.lalrpop_judge.specs.TreeRoots.{tree_root_view, tree_root_views}
use Rattle.lalrpop_judge.proofs.EntryLemmas.{never}
use Rattle.lalrpop_judge.proofs.RootLemmas.{root_at, seen_at, symbols_all, symbols_long, symbols_more, symbols_not}
use Rattle.lalrpop_judge.proofs.certificates.walk.have_symbols.Goals as goal

pub returns-then-roots-symbols : goal.returns-then-roots-symbols
returns-then-roots-symbols c = (
  λ t. absurd (cc),
  λ e. absurd (c.if-roots-symbols.true (symbols_long c.args.roots.now c.args.symbols.now e)),
)

pub returns-then-not-has_symbol : goal.returns-then-not-has_symbol
returns-then-not-has_symbol c =
    let rs = c.args.roots.now in
    let symbols = c.args.symbols.now in
    let i = c.loop-place.place in
    let root = c.index-roots-place.result in
    let symbol = c.index-symbols-place.result in
    let within : i < length rs = omega (arith, c.loop-place-test.true, c.if-roots-symbols.false) in (
      λ t. absurd (cc),
      λ e. absurd (symbols_not (map (λ (r : Root). r.symbol) (tree_root_views rs)) (map production_symbol_view symbols) i
          (tree_root_view root).symbol (production_symbol_view symbol)
          (root_at rs i root within c.index-roots-place.is)
          (seen_at symbols i symbol c.loop-place-test.true c.index-symbols-place.is)
          (λ s. never c.has_symbol.result c.if-not-has_symbol.true (c.has_symbol.ensures.1 s)) e),
    )

pub loop-place-preserved : goal.loop-place-preserved
loop-place-preserved c =
    let rs = c.args.roots.now in
    let symbols = c.args.symbols.now in
    let i = c.loop-place.place in
    let root = c.index-roots-place.result in
    let symbol = c.index-symbols-place.result in
    let within : i < length rs = omega (arith, c.loop-place-test.true, c.if-roots-symbols.false) in
    symbols_more (map (λ (r : Root). r.symbol) (tree_root_views rs)) (map production_symbol_view symbols) i
    (production_symbol_view symbol)
    (root_at rs i root within c.index-roots-place.is ∙ ap Some (c.has_symbol.ensures.0 c.if-not-has_symbol.false))
    (seen_at symbols i symbol c.loop-place-test.true c.index-symbols-place.is) c.loop-place.invariant

pub returns : goal.returns
returns c = (
  λ t. symbols_all c.args.roots.now c.args.symbols.now c.loop-place.place c.if-roots-symbols.false c.loop-place-test.false
      c.loop-place.invariant,
  λ e. refl,
)
