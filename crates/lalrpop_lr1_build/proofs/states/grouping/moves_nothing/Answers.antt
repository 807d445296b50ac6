use Rattle.std.proofs.Common.{◌≡◌, ◌∙◌, ◌≤◌, List, [], None, ap, arith, length, subst, sym}
use Rattle.std.proofs.lemmas.List.{take_all}
use Rattle.lalrpop_lr1_build.specs.Shifts.{shifted_items, symbol_behind}
use Rattle.lalrpop_lr1_build.specs.declared.states.kernel.StateKernel.{StateKernel}
use Rattle.lalrpop_lr1_build.proofs.GroupLemmas.{group_same, grouped_more}
use Rattle.lalrpop_lr1_build.proofs.states.grouping.moves_nothing.Goals as goal

pub loop-item-preserved : goal.loop-item-preserved
loop-item-preserved g c = λ s.
    let all = c.args.table.now.places.items in
    let x = c.item-item.result in
    let none : List (StateKernel g.row.L.Denot) = [] in
    let behind : symbol_behind all x.0 ≡ None =
    ap (λ ps. symbol_behind ps x.0) (sym c.places.ensures) ∙ sym c.symbol_at.ensures ∙ c.in-None.is in
    sym (grouped_more all c.args.items.now c.loop-item.item-index x none none c.loop-item-test.true c.item-item.is
    (λ r. sym (c.loop-item.invariant r)) (group_same all none x.0 x.1 behind) s)

pub returns : goal.returns
returns g c = λ told s.
    let all = c.args.table.now.places.items in
    let items = c.args.items.now in
    let past : length items ≤ c.loop-item.item-index = omega (arith, c.loop-item-test.false) in
    subst (λ xs. shifted_items all s xs ≡ []) (take_all c.loop-item.item-index items past) (c.loop-item.invariant s)
