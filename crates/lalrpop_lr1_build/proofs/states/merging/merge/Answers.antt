use Rattle.std.proofs.Common.{◌≡◌, ◌∙◌, [], ap, arith, length, rules, subst, sym}
use Rattle.std.specs.Vec.Iter.{into_iter_items}
use Rattle.std.proofs.lemmas.List.{nil_from_length}
use Rattle.lalrpop_lr1_build.proofs.MergeLemmas.{MergesSoFar, merges_all, merges_more, merges_none}
use Rattle.lalrpop_lr1_build.proofs.states.merging.merge.Goals as goal

pub loop-place-init : goal.loop-place-init
loop-place-init g c =
    let marks = g.L.ClosureLookahead.marks in
    let in_order = g.L.KernelLookahead.in_order in
    let kernel = c.args.kernel.now in
    let brought = c.args.brought.items in (
      subst (λ xs. MergesSoFar marks in_order kernel brought xs kernel (into_iter_items c.into_iter-place-iterator.result))
          (sym c.new-items.ensures)
          (subst (λ xs. MergesSoFar marks in_order kernel brought [] kernel xs) (sym c.into_iter-place-iterator.ensures.into_iter_gives.0)
          (merges_none marks in_order kernel brought c.requires.kernel c.requires.brought)),
      search rules,
    )

pub loop-place-preserved : goal.loop-place-preserved
loop-place-preserved g c =
    let marks = g.L.ClosureLookahead.marks in
    let in_order = g.L.KernelLookahead.in_order in
    let kernel = c.args.kernel.now in
    let brought = c.args.brought.items in
    let items = c.loop-place.items in
    let rest = c.loop-place.rest.now in (
      merges_more marks in_order kernel brought c.requires.ordered c.in-Some.place c.in-Some.lookahead rest c.in_ok-rest.rest.now
          c.in_ok-rest-2.rest.now (into_iter_items c.next.new.self) items c.add_before.new.items c.add_joined.new.items
          (subst (λ xs. MergesSoFar marks in_order kernel brought items rest xs) c.in-Some.ensures.steps.0 c.loop-place.invariant.0)
          c.in_ok-rest.ensures c.in_ok-rest-2.ensures,
      (let more = ap length c.in-Some.ensures.steps.0 in omega (arith, more, c.in-Some.ensures.steps.1, c.loop-place.invariant.1)),
    )

pub returns : goal.returns
returns g c =
    let marks = g.L.ClosureLookahead.marks in
    let in_order = g.L.KernelLookahead.in_order in
    let kernel = c.args.kernel.now in
    let brought = c.args.brought.items in
    let items = c.loop-place.items in
    let rest = c.loop-place.rest.now in
    let left = into_iter_items c.loop-place.place-iterator in
    let none : left ≡ [] = nil_from_length left (sym c.loop-place.invariant.1 ∙ c.in-None.ensures.steps.0) in
    merges_all marks in_order kernel brought c.requires.ordered rest items c.add_all.new.items
    (subst (λ xs. MergesSoFar marks in_order kernel brought items rest xs) none c.loop-place.invariant.0) c.in_ok-add_all.ensures
