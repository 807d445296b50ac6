use Rattle.std.proofs.Common.{◌≡◌, [], ap, map, subst}
use Rattle.lalrpop_lr1_check_lookaheads.specs.ListTests.{GainsElements}
use Rattle.lalrpop_lr1_check_lookaheads.specs.ListedItems.{item_key, moved_keys}
use Rattle.lalrpop_lr1_check_lookaheads.proofs.GainLemmas.{gained_all}
use Rattle.lalrpop_lr1_check_lookaheads.proofs.parts.listed.kernel_of.Goals as goal

pub returns : goal.returns
returns c =
    let none : map item_key c.new-kernel.result.keys ≡ [] = ap (map item_key) c.new-kernel.ensures.empty in
    gained_all (map item_key c.list_moved.new.listed.keys) (moved_keys c.args.state c.args.items.now)
    (subst (λ l. GainsElements l (map item_key c.list_moved.new.listed.keys) (moved_keys c.args.state c.args.items.now)) none
    c.in_ok-list_moved.ensures)
