use Rattle.std.proofs.Common.{length, sym}
use Rattle.lalrpop_lr1_least_trees.specs.NumberedTrees.{rule_views}
use Rattle.lalrpop_lr1_least_trees.proofs.OpenedTreeLemmas.{never_built}
use Rattle.lalrpop_lr1_least_trees.proofs.least_counts.moves.least_moves.Goals as goal

pub returns-in-None : goal.returns-in-None
returns-in-None c =
    never_built (rule_views c.args.rules.now) (length c.args.table.now) c.args.leaves c.args.table.now c.requires.names c.requires.least
    c.args.symbols.now (sym c.in-None.ensures)
