use Rattle.std.proofs.Common.{◌≡◌, ◌∙◌, ◌++◌, ◌∷◌, ◌+◌, ◌<◌, ◌^◌, [], ap, arith, length, refl, rules, subst, sym}
use Rattle.std.proofs.lemmas.List.{length-map}
use Rattle.std.specs.Prelude.{is_ok}
use Rattle.lalrpop_lr1_theory.specs.Spans.{node_at, none_at, without_spans}
use Rattle.lalrpop_lr1_theory.specs.Trees.{roots}
use Rattle.lalrpop_lr1_core.specs.Views.{production_symbol_view, production_view}
use Rattle.lalrpop_lr1_interpret.specs.ListParts.{HasLastTrees}
use Rattle.lalrpop_lr1_interpret.specs.MoveOrders.{trees_of}
use Rattle.lalrpop_lr1_interpret.specs.Stacks.{◌beside◌}
use Rattle.lalrpop_lr1_interpret.specs.TreeEntries.{tree_entry_views}
use Rattle.lalrpop_lr1_interpret.specs.declared.parse.tree_entry.TreeLabel.TheVariants as labels
use Rattle.lalrpop_lr1_interpret.proofs.ExpandedLemmas.{same_ends}
use Rattle.lalrpop_lr1_interpret.proofs.TreeListLemmas.{either_order, last_fit, node_added}
use Rattle.lalrpop_lr1_interpret.proofs.parse.tree_list.TreeList.push_node.Goals as goal

pub size_of_last-below-requires-clause-enough : goal.size_of_last-below-requires-clause-enough
size_of_last-below-requires-clause-enough c =
    omega (
      arith,
      ap (λ l. length (roots (without_spans (trees_of (tree_entry_views l))))) c.as_slice.ensures.value,
      c.requires,
      length-map c.args.production.now.symbols production_symbol_view,
      c.len.ensures,
    )

pub overflow_add-below : goal.overflow_add-below
overflow_add-below c =
    let es = c.args.self.now.entries.items in
    let small : length es + 1 < 2 ^ 64 = search rules in
    let l = subst (λ x. HasLastTrees (trees_of (tree_entry_views x)) c.len.result c.size_of_last-below.result) c.as_slice.ensures.value
    c.size_of_last-below.ensures in
    omega (arith, small, last_fit es c.len.result c.size_of_last-below.result c.args.self.now.in_order l)

pub invariant_of-self : goal.invariant_of-self
invariant_of-self c =
    let es = c.args.self.now.entries.items in
    let l = subst (λ x. HasLastTrees (trees_of (tree_entry_views x)) c.len.result c.size_of_last-below.result) c.as_slice.ensures.value
    c.size_of_last-below.ensures in
    let order = c.args.self.now.in_order in
    record {
      in_order = either_order (is_ok c.push.result) es
          (es ++ record { label = labels.Node c.args.production; size = c.size_of_last-below.result + 1 } ∷ []) c.push.new.self.items
          c.push.ensures.items order
          (node_added es (es ++ record { label = labels.Node c.args.production; size = c.size_of_last-below.result + 1 } ∷ [])
          (record { label = labels.Node c.args.production; size = c.size_of_last-below.result + 1 }) c.args.production l.kept l.children order
          l.parts refl (omega (arith, l.size_is)) refl).0;
    }

pub returns-clause-node : goal.returns-clause-node
returns-clause-node c = λ before children e r.
    let es = c.args.self.now.entries.items in
    let q = production_view c.args.production.now in
    let l = subst (λ x. HasLastTrees (trees_of (tree_entry_views x)) c.len.result c.size_of_last-below.result) c.as_slice.ensures.value
    c.size_of_last-below.ensures in
    let many : length (roots (without_spans l.children)) ≡ length (roots (without_spans children)) =
    l.many ∙ c.len.ensures ∙ sym (length-map c.args.production.now.symbols production_symbol_view) ∙ sym r in
    let same = same_ends l.kept l.children before children (sym l.parts ∙ e) many in
    (node_added es c.push.new.self.items
    (record { label = labels.Node c.args.production; size = c.size_of_last-below.result + 1 }) c.args.production l.kept l.children
    c.args.self.now.in_order l.parts refl (omega (arith, l.size_is)) c.in_ok-push.ensures.items).1
    ∙ ap (λ f. f beside node_at q l.children none_at) same.0
    ∙ ap (λ f. before beside node_at q f none_at) same.1
