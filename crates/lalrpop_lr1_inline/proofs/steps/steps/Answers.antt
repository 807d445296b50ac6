use Rattle.std.proofs.Common.{◌+◌, ◌^◌, ◌∙◌, ap, drop}
use Rattle.std.proofs.Common.{length}
use Rattle.lalrpop_lr1_inline.specs.InliningSteps.{productions_named}
use Rattle.lalrpop_lr1_inline.proofs.RecordLemmas.{item_front}
use Rattle.lalrpop_lr1_inline.proofs.StepsLemmas.{known_on, names_on, room_here, room_on, steps_on}
use Rattle.lalrpop_lr1_inline.proofs.steps.steps.Goals as goal

pub step-requires-clause-room : goal.step-requires-clause-room
step-requires-clause-room c =
    let xs = c.args.order.now in
    let i = c.loop-name.name-index in
    let n = c.name-item.result in
    let one = item_front xs i n c.loop-name-test.true c.name-item.is in
    room_here n (drop (i + 1) xs) (drop i xs) c.loop-name.rules.items c.as_slice-in-loop-name.result.now (length c.loop-name.actions)
    (2 ^ 32) one
    (c.as_slice-in-loop-name.ensures ∙ c.in_ok-found.ensures
    ∙ ap (λ l. productions_named l n.0) c.as_slice.ensures.value)
    c.loop-name.invariant.room

pub loop-name-preserved : goal.loop-name-preserved
loop-name-preserved c =
    let xs = c.args.order.now in
    let i = c.loop-name.name-index in
    let n = c.name-item.result in
    let rest = drop (i + 1) xs in
    let one = item_front xs i n c.loop-name-test.true c.name-item.is in
    let es = c.loop-name.rules.items in
    let actions = c.loop-name.actions in
    let made = c.in_ok-rules.rules.items in
    let with_made = c.step.new.actions in
    let s = c.in_ok-rules.ensures in
    let inv = c.loop-name.invariant in
    record {
      known = known_on n.0 es made actions with_made s inv.known;
      room = room_on n rest (drop i xs) es made actions with_made (2 ^ 32) one s inv.room;
      steps = λ after last more. inv.steps after last (steps_on n rest (drop i xs) es made after actions with_made last one s more);
      names = names_on n.0 es made actions with_made s ∙ inv.names;
    }
