use Rattle.std.proofs.Common.{heap_items, refl}
use Rattle.std.proofs.lemmas.Option.{slice_get-get_or}
use Rattle.lalrpop_lr1_paths.proofs.EntryLemmas.{goals_end, goals_more, goals_start}
use Rattle.lalrpop_lr1_paths.proofs.graph_paths.waiting.goal_entries.Goals as goal

pub loop-number-init : goal.loop-number-init
loop-number-init c = goals_start c.args.goals.now (heap_items c.new-waiting.result) c.new-waiting.ensures.items

pub loop-number-preserved : goal.loop-number-preserved
loop-number-preserved c =
    goals_more c.args.goals.now c.loop-number.number _ _ (heap_items c.loop-number.waiting) (heap_items c.push.new.self)
    (slice_get-get_or c.args.goals.now c.loop-number.number (record { node = 0; weight = 0 }) c.loop-number-test.true) refl refl refl
    c.in_ok-push.ensures.permutation c.loop-number.invariant

pub returns : goal.returns
returns c =
    goals_end c.args.goals.now c.loop-number.number (heap_items c.loop-number.waiting) c.loop-number-test.false c.loop-number.invariant
