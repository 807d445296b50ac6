use Rattle.std.proofs.Common.{◌≤◌, ◌<◌, arith, map, subst, sym}
use Rattle.lalrpop_lr1_check_lookaheads.specs.ListTests.{GainsElements}
use Rattle.lalrpop_lr1_check_lookaheads.specs.ListedItems.{item_key}
use Rattle.lalrpop_lr1_check_lookaheads.proofs.GainLemmas.{gains_none}
use Rattle.lalrpop_lr1_check_lookaheads.proofs.ListedLemmas.{moved_no, moved_yes}
use Rattle.lalrpop_lr1_check_lookaheads.proofs.parts.listed.list_if_moved.Goals as goal

pub returns-then-item-eq0 : goal.returns-then-item-eq0
returns-then-item-eq0 c =
    let h : c.args.item.now.index ≤ 0 = omega (arith, c.if-item-eq0.true) in
    subst (GainsElements (map item_key c.args.listed.now.keys) (map item_key c.args.listed.now.keys))
    (sym (moved_no c.args.state c.args.item.now h)) (gains_none (map item_key c.args.listed.now.keys))

pub returns : goal.returns
returns c =
    let h : 0 < c.args.item.now.index = omega (arith, c.if-item-eq0.false) in
    subst (GainsElements (map item_key c.args.listed.now.keys) (map item_key c.list_item.new.listed.keys))
    (sym (moved_yes c.args.state c.args.item.now h)) c.in_ok-list_item.ensures
