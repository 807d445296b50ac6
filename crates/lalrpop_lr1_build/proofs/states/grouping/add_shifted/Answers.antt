use Rattle.std.proofs.Common.{◌≡◌, ◌∙◌, ◌<◌, ap, arith, length, sym, Some}
use Rattle.lalrpop_lr1_first.proofs.ListLemmas.{get_slice}
use Rattle.lalrpop_lr1_first.proofs.TableLemmas.{symbols_below}
use Rattle.lalrpop_lr1_build.specs.Shifts.{symbol_behind}
use Rattle.lalrpop_lr1_build.proofs.GroupLemmas.{group_more, group_same, symbol_found}
use Rattle.lalrpop_lr1_build.proofs.states.grouping.add_shifted.Goals as goal

pub returns-in-None-clause-added : goal.returns-in-None-clause-added
returns-in-None-clause-added g c =
    let all = c.args.table.now.places.items in
    group_same all c.args.groups.now.items c.args.place c.args.lookahead.now
    (ap (λ ps. symbol_behind ps c.args.place) (sym c.places.ensures) ∙ sym c.symbol_at.ensures ∙ c.in-None.is)

pub returns-in_ok-push_item-in-Some-clause-added : goal.returns-in_ok-push_item-in-Some-clause-added
returns-in_ok-push_item-in-Some-clause-added g c =
    let table = c.args.table.now in
    let all = table.places.items in
    let groups = c.args.groups.now.items in
    let symbol = c.in-Some.symbol in
    let behind : symbol_behind all c.args.place ≡ Some symbol =
    ap (λ ps. symbol_behind ps c.args.place) (sym c.places.ensures) ∙ sym c.symbol_at.ensures ∙ c.in-Some.is in
    let below = symbols_below table c.requires.table c.args.place symbol (symbol_found all c.args.place symbol behind) in
    let within : symbol < length groups = omega (arith, below, c.requires.count) in
    group_more all groups c.args.place c.args.lookahead.now symbol c.index_mut.result.now c.push_item.new.group behind within
    (get_slice groups symbol c.index_mut.result.now within c.index_mut.ensures.value) c.in_ok-push_item-in-Some.ensures
