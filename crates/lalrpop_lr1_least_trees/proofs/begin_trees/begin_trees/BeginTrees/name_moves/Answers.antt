use Rattle.lalrpop_lr1_least_trees.specs.declared.least_counts.rule.NumberMove.TheVariants.{Shift}
use Rattle.std.proofs.lemmas.Option.{slice_get-get_or}
use Rattle.lalrpop_lr1_least_trees.proofs.MoveLemmas.{named_more}
use Rattle.lalrpop_lr1_least_trees.specs.BeginTables.{derived_production_by, derived_symbol_by}
use Rattle.lalrpop_lr1_least_trees.proofs.begin_trees.begin_trees.BeginTrees.name_moves.Goals as goal

pub name_move-requires-clause-name : goal.name_move-requires-clause-name
name_move-requires-clause-name c =
    let i = c.loop-number.number-index in
    c.requires.names i _ (slice_get-get_or c.args.numbers.now i (Shift 0) c.loop-number-test.true)

pub loop-number-preserved : goal.loop-number-preserved
loop-number-preserved c =
    let it = c.args.self.now in
    named_more (derived_symbol_by it.trees.now.table) (derived_production_by it.trees.now.table it.derived) c.args.numbers.now
    c.loop-number.number-index (Shift 0) c.loop-number.moves.items c.push.new.self.items c.name_move.result c.loop-number-test.true
    c.loop-number.invariant c.name_move.ensures c.in_ok-push.ensures.items
