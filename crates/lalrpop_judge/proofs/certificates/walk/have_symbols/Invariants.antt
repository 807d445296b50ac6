use Rattle.std.proofs.Common.{◌≡◌, map, take}
use Rattle.lalrpop_lr1_core.specs.Views.{production_symbol_view}
use Rattle.lalrpop_judge.specs.EntryMoves.{Root}
use Rattle.lalrpop_judge.specs.TreeRoots.{tree_root_views}
use Rattle.lalrpop_judge.proofs.certificates.walk.have_symbols.Given as goal

abbrev pub invariant-loop-place : goal.invariant-loop-place
invariant-loop-place l =
    take l.place (map (λ (r : Root). r.symbol) (tree_root_views l.roots)) ≡ take l.place (map production_symbol_view l.symbols)
