use Rattle.std.proofs.Common.{subst, sym}
use Rattle.lalrpop_lr1_first.specs.Numbers.{SpellsSymbols}
use Rattle.lalrpop_lr1_least_trees.specs.GrammarTrees.{symbols_by}
use Rattle.lalrpop_lr1_paths.specs.PathTables.{HaveSymbols}
use Rattle.lalrpop_lr1_paths.proofs.state_paths.state_paths.StatePaths.moves.Goals as goal

pub forest_moves-requires-clause-symbols : goal.forest_moves-requires-clause-symbols
forest_moves-requires-clause-symbols c =
    subst (HaveSymbols c.args.self.now.trees.now.table) (sym c.as_slice.ensures.value) c.in_ok-symbols.ensures.symbols

pub returns : goal.returns
returns c = λ g syms of w.
    c.in_ok-moves.ensures g syms of
    (subst (λ ss. SpellsSymbols (symbols_by c.args.self.now.trees.now.table) ss syms) (sym c.as_slice.ensures.value)
    (c.in_ok-symbols.ensures.path syms w))
