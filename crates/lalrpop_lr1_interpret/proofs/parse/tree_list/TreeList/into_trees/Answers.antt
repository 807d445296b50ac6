use Rattle.std.proofs.Common.{◌≡◌, ◌∙◌, ap, arith, reverse, subst, sym}
use Rattle.std.specs.Prelude.{MatchOption}
use Rattle.lalrpop_lr1_theory.specs.Spans.{none_at}
use Rattle.lalrpop_lr1_interpret.specs.ExpandedViews.{expanded_view, expanded_views, listed_views}
use Rattle.lalrpop_lr1_interpret.specs.Stacks.{◌beside◌}
use Rattle.lalrpop_lr1_interpret.proofs.LentLemmas.{one_fewer}
use Rattle.lalrpop_lr1_interpret.proofs.StackLemmas.{beside-none}
use Rattle.lalrpop_lr1_interpret.proofs.TreeListLemmas.{none_taken_off, taken_more}
use Rattle.lalrpop_lr1_interpret.proofs.parse.tree_list.TreeList.into_trees.Goals as goal

pub loop-trees-init : goal.loop-trees-init
loop-trees-init c =
    ap (λ l. listed_views c.args.self beside expanded_views (reverse l)) c.new-trees.ensures.items
    ∙ beside-none (listed_views c.args.self)

pub loop-trees-preserved : goal.loop-trees-preserved
loop-trees-preserved c =
    let old = listed_views c.loop-trees.list in
    let new = listed_views c.pop.new.self in
    taken_more (listed_views c.args.self) old new c.loop-trees.trees.items c.push.new.self.items c.in-Some.tree c.loop-trees.invariant
    (subst (λ r. MatchOption r (old ≡ none_at) (λ tree. old ≡ new beside expanded_view tree)) c.in-Some.is c.in_ok-tree.ensures)
    c.in_ok-push.ensures.items

pub loop-trees-smaller : goal.loop-trees-smaller
loop-trees-smaller c =
    let old = listed_views c.loop-trees.list in
    let new = listed_views c.pop.new.self in
    omega (
      arith,
      one_fewer old new (expanded_view c.in-Some.tree)
          (subst (λ r. MatchOption r (old ≡ none_at) (λ tree. old ≡ new beside expanded_view tree)) c.in-Some.is c.in_ok-tree.ensures)
          c.in-Some.tree.in_order.1,
    )

pub returns : goal.returns
returns c =
    let old = listed_views c.loop-trees.list in
    let new = listed_views c.pop.new.self in
    let none =
    none_taken_off c.in_ok-tree.field-0 (old ≡ none_at) (λ tree. old ≡ new beside expanded_view tree) c.in_ok-tree.ensures
    c.in_default.not-Some in
    ap expanded_views c.reverse.ensures.items
    ∙ ap (λ f. f beside expanded_views (reverse c.loop-trees.trees.items)) (sym none)
    ∙ c.loop-trees.invariant
