use Rattle.lalrpop_lr1_least_trees.specs.declared.least_counts.rule.NumberMove.TheVariants.{Shift}
use Rattle.std.proofs.lemmas.Option.{slice_get-get_or}
use Rattle.lalrpop_lr1_least_trees.specs.GrammarTrees.{production_by, symbols_by}
use Rattle.lalrpop_lr1_least_trees.proofs.MoveLemmas.{named_more}
use Rattle.lalrpop_lr1_least_trees.proofs.tree_move.name_moves.Goals as goal

pub name_move-requires : goal.name_move-requires
name_move-requires c =
    let i = c.loop-number.number-index in
    c.requires i _ (slice_get-get_or c.args.numbers.now i (Shift 0) c.loop-number-test.true)

pub loop-number-preserved : goal.loop-number-preserved
loop-number-preserved c =
    named_more (symbols_by c.args.table.now) (production_by c.args.table.now) c.args.numbers.now c.loop-number.number-index (Shift 0)
    c.loop-number.moves.items c.push.new.self.items c.name_move.result c.loop-number-test.true c.loop-number.invariant c.name_move.ensures
    c.in_ok-push.ensures.items
