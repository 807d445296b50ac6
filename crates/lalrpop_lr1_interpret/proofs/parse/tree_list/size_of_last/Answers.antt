use Rattle.std.proofs.Common.{◌+◌, ◌-◌, ◌<◌, ◌^◌, arith, get_or, length, rules}
use Rattle.lalrpop_lr1_theory.specs.Spans.{without_spans}
use Rattle.lalrpop_lr1_theory.specs.Trees.{roots}
use Rattle.lalrpop_lr1_interpret.specs.MoveOrders.{trees_of}
use Rattle.lalrpop_lr1_interpret.specs.TreeEntries.{tree_entry_views}
use Rattle.lalrpop_lr1_interpret.proofs.TreeListLemmas.{last_fit, last_leave, last_more, none_yet}
use Rattle.lalrpop_lr1_interpret.proofs.parse.tree_list.size_of_last.Goals as goal

pub loop-taken-init : goal.loop-taken-init
loop-taken-init c = none_yet (trees_of (tree_entry_views c.args.entries.now))

pub overflow_sub-size : goal.overflow_sub-size
overflow_sub-size c =
    last_fit c.args.entries.now c.loop-taken.taken c.loop-taken.size c.requires.order c.loop-taken.invariant

pub overflow_sub-size-in-loop-taken : goal.overflow_sub-size-in-loop-taken
overflow_sub-size-in-loop-taken c =
    omega (
      arith,
      last_leave c.args.entries.now c.loop-taken.taken c.loop-taken.size c.requires.order c.loop-taken.invariant
          (omega (arith, c.loop-taken-test.true, c.requires.enough)),
    )

pub overflow_add-size : goal.overflow_add-size
overflow_add-size c =
    let es = c.args.entries.now in
    let d = c.index-entries-entries.result in
    let few : c.loop-taken.taken < length (roots (without_spans (trees_of (tree_entry_views es)))) =
    omega (arith, c.loop-taken-test.true, c.requires.enough) in
    let small : length es < 2 ^ 64 = search rules in
    let more = last_more es d c.loop-taken.taken c.loop-taken.size c.requires.order c.loop-taken.invariant few in
    omega (
      arith,
      small,
      last_fit es (c.loop-taken.taken + 1) (c.loop-taken.size + (get_or es (length es - c.loop-taken.size - 1) d).size) c.requires.order
          more.1,
    )

pub loop-taken-preserved : goal.loop-taken-preserved
loop-taken-preserved c =
    (last_more c.args.entries.now c.index-entries-entries.result c.loop-taken.taken c.loop-taken.size c.requires.order
    c.loop-taken.invariant (omega (arith, c.loop-taken-test.true, c.requires.enough))).1
