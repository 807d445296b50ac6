use Rattle.std.proofs.Common.{◌∙◌, ◌<◌, ◌^◌, arith, length, rules}
use Rattle.lalrpop_lr1_interpret.specs.ExpandedViews.{lent_view, lent_views}
use Rattle.lalrpop_lr1_interpret.proofs.LentLemmas.{children_few, one_fewer}
use Rattle.lalrpop_lr1_interpret.proofs.parse.tree_ref.TreeRef.len.Goals as goal

pub overflow_add-count : goal.overflow_add-count
overflow_add-count c =
    let last = c.in-Some.field-0-1 in
    let small : length c.args.self.now.entries.now < 2 ^ 64 = search rules in
    omega (
      arith,
      small,
      children_few c.args.self.now.entries.now c.args.self.now.in_order,
      one_fewer (lent_views c.loop-before.children) (lent_views c.in-Some.before) (lent_view last) c.in-Some.ensures last.in_order.1,
      c.loop-before.invariant,
    )

pub loop-before-preserved : goal.loop-before-preserved
loop-before-preserved c =
    let last = c.in-Some.field-0-1 in
    c.loop-before.invariant
    ∙ omega (
      arith,
      one_fewer (lent_views c.loop-before.children) (lent_views c.in-Some.before) (lent_view last) c.in-Some.ensures last.in_order.1,
    )

pub loop-before-smaller : goal.loop-before-smaller
loop-before-smaller c =
    let last = c.in-Some.field-0-1 in
    omega (
      arith,
      one_fewer (lent_views c.loop-before.children) (lent_views c.in-Some.before) (lent_view last) c.in-Some.ensures last.in_order.1,
    )
