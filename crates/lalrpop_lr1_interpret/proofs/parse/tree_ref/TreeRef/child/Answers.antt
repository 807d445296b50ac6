use Rattle.std.proofs.Common.{◌≡◌, ◌∙◌, ap, arith, length, sym}
use Rattle.lalrpop_lr1_theory.specs.Spans.{without_spans}
use Rattle.lalrpop_lr1_theory.specs.Trees.{roots}
use Rattle.lalrpop_lr1_interpret.specs.ExpandedViews.{lent_view, lent_views, nth_tree}
use Rattle.lalrpop_lr1_interpret.specs.Stacks.{◌beside◌}
use Rattle.lalrpop_lr1_interpret.proofs.ExpandedLemmas.{before_last, last_found}
use Rattle.lalrpop_lr1_interpret.proofs.LentLemmas.{one_fewer}
use Rattle.lalrpop_lr1_interpret.proofs.parse.tree_ref.TreeRef.child.Goals as goal

pub overflow_sub-left : goal.overflow_sub-left
overflow_sub-left c =
    let last = c.in-Some.last in
    omega (
      arith,
      one_fewer (lent_views c.loop-before.children) (lent_views c.in-Some.before) (lent_view last) c.in-Some.ensures last.in_order.1,
      c.loop-before.invariant.0,
    )

pub returns-then-left-place : goal.returns-then-left-place
returns-then-left-place c =
    let before = lent_views c.in-Some.before in
    let last = c.in-Some.last in
    let all = lent_views c.loop-before.children in
    let fewer = one_fewer all before (lent_view last) c.in-Some.ensures last.in_order.1 in
    let place : length (roots (without_spans before)) ≡ c.args.place =
    omega (arith, fewer, c.loop-before.invariant.0, c.if-left-place.true) in
    sym (c.loop-before.invariant.1 ∙ ap (λ f. nth_tree f c.args.place) c.in-Some.ensures
    ∙ ap (λ k. nth_tree (before beside lent_view last) k) (sym place)
    ∙ last_found before (lent_view last) last.in_order.1)

pub loop-before-preserved : goal.loop-before-preserved
loop-before-preserved c =
    let before = lent_views c.in-Some.before in
    let last = c.in-Some.last in
    let all = lent_views c.loop-before.children in
    let fewer = one_fewer all before (lent_view last) c.in-Some.ensures last.in_order.1 in (
      omega (arith, fewer, c.loop-before.invariant.0),
      c.loop-before.invariant.1 ∙ ap (λ f. nth_tree f c.args.place) c.in-Some.ensures
          ∙ before_last before (lent_view last) c.args.place last.in_order.1
          (λ e. c.if-left-place.false (omega (arith, e, fewer, c.loop-before.invariant.0))),
    )

pub loop-before-smaller : goal.loop-before-smaller
loop-before-smaller c =
    let last = c.in-Some.last in
    omega (
      arith,
      one_fewer (lent_views c.loop-before.children) (lent_views c.in-Some.before) (lent_view last) c.in-Some.ensures last.in_order.1,
    )
