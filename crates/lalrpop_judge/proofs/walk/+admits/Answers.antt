use Rattle.std.proofs.Common.{rules, arith, ◌≡◌, ◌↔◌, ◌∷◌, ◌+◌, ◌*◌, ◌<◌, IsTrue, List, ap, sym, ◌∙◌}
use Rattle.std.proofs.Common.{map, drop}
use Rattle.std.proofs.lemmas.List.{drop_more}
use Rattle.lalrpop_grammar_symbols.specs.Symbols.{Closed, Closeds}
use Rattle.lalrpop_grammar_symbols.specs.Views.{symbol_view, without_marks}
use Rattle.lalrpop_grammar.specs.Trees.{trees, Tree, Trees}
use Rattle.lalrpop_grammar.specs.Views.{tree_view}
use Rattle.lalrpop_grammar_language.specs.Closing.{inner}
use Rattle.lalrpop_grammar_rules.specs.RuleTable.{rules_with}
use Rattle.lalrpop_grammar_rules.specs.Views.{closed_view, closeds}
use Rattle.lalrpop_grammar_rules.proofs.ArgumentLemmas.{args_to, args_from}
use Rattle.lalrpop_judge.specs.Admitted.{Admitted, AdmittedAll, AdmittedEach, IsRightSideAt}
use Rattle.lalrpop_judge.specs.Faults.{HaveSearch, OnlyWhere}
use Rattle.lalrpop_judge.proofs.SearchLemmas.{one_of}
use Rattle.lalrpop_judge.proofs.ViewLemmas.{seen-Rule, seen-List, seen-Group, seen-Opt}
use Rattle.lalrpop_judge.proofs.SizeLemmas.{weight, weights, weight_in}
use Rattle.lalrpop_judge.proofs.WalkLemmas.{all_on, all_stop, answered, as-many, each_on, each_stop, group_from, group_to, list_from}
use Rattle.lalrpop_judge.proofs.WalkLemmas.{list_to, may-be, never, node_args, node_side, node_to, one_from, same_side, trees-empty}
use Rattle.lalrpop_judge.proofs.walk.+admits.Goals as goal

pub admits-returns-in-Rule : goal.admits-returns-in-Rule
admits-returns-in-Rule g t c =
    let is : tree_view c.args.tree.now
    ≡ Tree.rule c.in-Rule.rule.0 (map (λ s. without_marks (symbol_view s)) c.in-Rule.args) c.in-Rule.place
    (trees (map tree_view c.in-Rule.children)) =
    seen-Rule c.args.tree.now c.in-Rule.rule c.in-Rule.args c.in-Rule.place c.in-Rule.children c.in-Rule.is in
    rw is (rw (c.as_slice.ensures, c.as_slice-in-Rule.ensures) at c.admits_node.ensures)

pub admits-returns-in-List : goal.admits-returns-in-List
admits-returns-in-List g t c =
    let is : tree_view c.args.tree.now ≡ Tree.list (trees (map tree_view c.in-List.trees)) =
    seen-List c.args.tree.now c.in-List.trees c.in-List.is in
    rw is (rw c.as_slice-in-List.ensures at c.admits_list.ensures)

pub admits-returns-in-Some-optional-clause-exact : goal.admits-returns-in-Some-optional-clause-exact
admits-returns-in-Some-optional-clause-exact g t c =
    let r = rules_with (g.F.Finder.finds c.args.finder.now) c.args.rules.now in
    let item = closed_view c.in-Some-optional.item.now in
    let is : tree_view c.args.tree.now ≡ Tree.opt_some (tree_view c.in-Some.tree) =
    seen-Opt c.args.tree.now c.in-Opt.inside c.in-Some.tree c.in-Opt.is c.in-Some.is in
    rw is (answered (Admitted r item (tree_view c.in-Some.tree))
    (Admitted r (closed_view c.args.symbol.now) (Tree.opt_some (tree_view c.in-Some.tree))) c.admits.result
    (λ a. (item, c.in-Some-optional.ensures.some, a))
    (one_from r (closed_view c.args.symbol.now) item (tree_view c.in-Some.tree) c.in-Some-optional.ensures.some)
    (rw c.get.ensures at c.admits.ensures.exact))

pub admits-returns-in-Group : goal.admits-returns-in-Group
admits-returns-in-Group g t c =
    let is : tree_view c.args.tree.now ≡ Tree.group (trees (map tree_view c.in-Group.trees)) =
    seen-Group c.args.tree.now c.in-Group.trees c.in-Group.is in
    rw is (rw c.as_slice-in-Group.ensures at c.admits_group.ensures)

pub admits_all-admits-requires : goal.admits_all-admits-requires
admits_all-admits-requires g t c κs within =
    let below = weight_in c.args.trees.now c.loop-tree.tree-index c.tree-item.result c.loop-tree-test.true c.tree-item.is in
    let less : 3 * weight (tree_view c.tree-item.result) + 2 < 3 * weights (trees (map tree_view c.args.trees.now)) =
    omega (arith, below) in
    search (rules, less)

pub admits_all-returns-in_err-admits-clause-fault : goal.admits_all-returns-in_err-admits-clause-fault
admits_all-returns-in_err-admits-clause-fault g t c =
    let r = rules_with (g.F.Finder.finds c.args.finder.now) c.args.rules.now in
    let ts = c.args.trees.now in
    let i = c.loop-tree.tree-index in
    let here : drop i ts ≡ c.tree-item.result ∷ drop (i + 1) ts =
    drop_more ts i c.tree-item.result c.loop-tree-test.true ∙ ap (λ x. x ∷ drop (i + 1) ts) (sym c.tree-item.is) in
    let there : OnlyWhere (HaveSearch r (trees (map tree_view ts))) c.in_err-admits.field-0.0 =
    λ e. one_of r ts (drop (i + 1) ts) i c.tree-item.result here (c.in_err-admits.ensures.fault e) in
    search (rules, there)

pub admits_all-returns-then-not-branch-clause-exact : goal.admits_all-returns-then-not-branch-clause-exact
admits_all-returns-then-not-branch-clause-exact g t c =
    let r = rules_with (g.F.Finder.finds c.args.finder.now) c.args.rules.now in
    let ts = c.args.trees.now in
    let i = c.loop-tree.tree-index in
    let here : drop i ts ≡ c.tree-item.result ∷ drop (i + 1) ts =
    drop_more ts i c.tree-item.result c.loop-tree-test.true ∙ ap (λ x. x ∷ drop (i + 1) ts) (sym c.tree-item.is) in
    let split : c.loop-tree.left.now ≡ c.in-Some.symbol.now ∷ c.in-Some.others.now = search rules in
    let refused : IsTrue c.in_ok-admits.field-0 → ⊥ = search rules in (
      λ e. never e,
      λ a. absurd (all_stop r (AdmittedAll r (map closed_view c.args.symbols.now) (trees (map tree_view ts))) ts i c.tree-item.result here
          (closed_view c.in-Some.symbol.now) (map closed_view c.in-Some.others.now) (map closed_view c.loop-tree.left.now)
          (ap (map closed_view) split) c.loop-tree.invariant
          (λ b. refused (c.in_ok-admits.ensures.exact.1 b)) a),
    )

pub admits_all-loop-tree-preserved : goal.admits_all-loop-tree-preserved
admits_all-loop-tree-preserved g t c =
    let r = rules_with (g.F.Finder.finds c.args.finder.now) c.args.rules.now in
    let ts = c.args.trees.now in
    let i = c.loop-tree.tree-index in
    let here : drop i ts ≡ c.tree-item.result ∷ drop (i + 1) ts =
    drop_more ts i c.tree-item.result c.loop-tree-test.true ∙ ap (λ x. x ∷ drop (i + 1) ts) (sym c.tree-item.is) in
    let split : c.loop-tree.left.now ≡ c.in-Some.symbol.now ∷ c.in-Some.others.now = search rules in
    let first : IsTrue c.in_ok-admits.field-0 = search rules in
    all_on r (AdmittedAll r (map closed_view c.args.symbols.now) (trees (map tree_view ts))) ts i c.tree-item.result here
    (closed_view c.in-Some.symbol.now) (map closed_view c.in-Some.others.now) (map closed_view c.loop-tree.left.now)
    (ap (map closed_view) split) c.loop-tree.invariant
    (c.in_ok-admits.ensures.exact.0 first)

pub admits_each-admits-requires : goal.admits_each-admits-requires
admits_each-admits-requires g t c κs within =
    let below = weight_in c.args.trees.now c.loop-tree.tree-index c.tree-item.result c.loop-tree-test.true c.tree-item.is in
    let less : 3 * weight (tree_view c.tree-item.result) + 2 < 3 * weights (trees (map tree_view c.args.trees.now)) =
    omega (arith, below) in
    search (rules, less)

pub admits_each-returns-in_err-admits-clause-fault : goal.admits_each-returns-in_err-admits-clause-fault
admits_each-returns-in_err-admits-clause-fault g t c =
    let r = rules_with (g.F.Finder.finds c.args.finder.now) c.args.rules.now in
    let ts = c.args.trees.now in
    let i = c.loop-tree.tree-index in
    let here : drop i ts ≡ c.tree-item.result ∷ drop (i + 1) ts =
    drop_more ts i c.tree-item.result c.loop-tree-test.true ∙ ap (λ x. x ∷ drop (i + 1) ts) (sym c.tree-item.is) in
    let there : OnlyWhere (HaveSearch r (trees (map tree_view ts))) c.in_err-admits.field-0.0 =
    λ e. one_of r ts (drop (i + 1) ts) i c.tree-item.result here (c.in_err-admits.ensures.fault e) in
    search (rules, there)

pub admits_each-returns-then-not-branch-clause-exact : goal.admits_each-returns-then-not-branch-clause-exact
admits_each-returns-then-not-branch-clause-exact g t c =
    let r = rules_with (g.F.Finder.finds c.args.finder.now) c.args.rules.now in
    let ts = c.args.trees.now in
    let i = c.loop-tree.tree-index in
    let here : drop i ts ≡ c.tree-item.result ∷ drop (i + 1) ts =
    drop_more ts i c.tree-item.result c.loop-tree-test.true ∙ ap (λ x. x ∷ drop (i + 1) ts) (sym c.tree-item.is) in
    let refused : IsTrue c.in_ok-admits.field-0 → ⊥ = search rules in (
      λ e. never e,
      λ a. absurd (each_stop r (AdmittedEach r (closed_view c.args.symbol.now) (trees (map tree_view ts))) ts i c.tree-item.result here
          (closed_view c.args.symbol.now) c.loop-tree.invariant (λ b. refused (c.in_ok-admits.ensures.exact.1 b)) a),
    )

pub admits_each-loop-tree-preserved : goal.admits_each-loop-tree-preserved
admits_each-loop-tree-preserved g t c =
    let r = rules_with (g.F.Finder.finds c.args.finder.now) c.args.rules.now in
    let ts = c.args.trees.now in
    let i = c.loop-tree.tree-index in
    let here : drop i ts ≡ c.tree-item.result ∷ drop (i + 1) ts =
    drop_more ts i c.tree-item.result c.loop-tree-test.true ∙ ap (λ x. x ∷ drop (i + 1) ts) (sym c.tree-item.is) in
    let first : IsTrue c.in_ok-admits.field-0 = search rules in
    each_on r (AdmittedEach r (closed_view c.args.symbol.now) (trees (map tree_view ts))) ts i c.tree-item.result here
    (closed_view c.args.symbol.now) c.loop-tree.invariant (c.in_ok-admits.ensures.exact.0 first)

pub admits_group-returns-clause-exact : goal.admits_group-returns-clause-exact
admits_group-returns-clause-exact g t c =
    let r = rules_with (g.F.Finder.finds c.args.finder.now) c.args.rules.now in
    let ts = trees (map tree_view c.args.trees.now) in
    let ys = map closed_view c.in-Some.symbols.now in
    answered (AdmittedAll r ys ts) (Admitted r (closed_view c.args.symbol.now) (Tree.group ts)) c.admits_all.result
    (group_to r (closed_view c.args.symbol.now) ys ts c.in-Some.ensures.some)
    (group_from r (closed_view c.args.symbol.now) ys ts c.in-Some.ensures.some)
    c.admits_all.ensures.exact

pub admits_list-returns-in_default-clause-exact : goal.admits_list-returns-in_default-clause-exact
admits_list-returns-in_default-clause-exact g t c =
    let ts = trees (map tree_view c.args.trees.now) in
    let empty : (ts ≡ Trees.none) ↔ IsTrue c.is_empty.result = search (rules, trees-empty c.args.trees.now) in (
      λ e. never e,
      λ a. absurd (c.in_default.ensures.none a.0 a.1 a.2 (as-many a.0 ts c.is_empty.result empty a.3)),
    )

pub admits_list-returns-clause-exact : goal.admits_list-returns-clause-exact
admits_list-returns-clause-exact g t c =
    let r = rules_with (g.F.Finder.finds c.args.finder.now) c.args.rules.now in
    let ts = trees (map tree_view c.args.trees.now) in
    let item = closed_view c.in-Some.item.now in
    let empty : (ts ≡ Trees.none) ↔ IsTrue c.is_empty.result = search (rules, trees-empty c.args.trees.now) in
    let some = c.in-Some.ensures.some in
    answered (AdmittedEach r item ts) (Admitted r (closed_view c.args.symbol.now) (Tree.list ts)) c.admits_each.result
    (list_to r (closed_view c.args.symbol.now) item some.0 ts some.1 (may-be some.0 ts c.is_empty.result empty some.2))
    (list_from r (closed_view c.args.symbol.now) item some.0 ts some.1) c.admits_each.ensures.exact

pub admits_node-returns-then-not-show_as-clause-exact : goal.admits_node-returns-then-not-show_as-clause-exact
admits_node-returns-then-not-show_as-clause-exact g t c =
    let r = rules_with (g.F.Finder.finds c.args.finder.now) c.args.rules.now in
    let given : Closeds = closeds (map closed_view c.in-Some.call.args.now) in
    let refused : IsTrue c.show_as.result → ⊥ = search rules in (
      λ e. never e,
      λ a. absurd (refused (c.show_as.ensures.1
          (args_from given c.args.args.now (node_args r (closed_view c.args.symbol.now) c.args.rule.now
          (map (λ s. without_marks (symbol_view s)) c.args.args.now) c.args.place (trees (map tree_view c.args.trees.now))
          c.in-Some.call.name.now given c.in-Some.call.level c.in-Some.ensures.some a)))),
    )

pub admits_node-returns-in_default-2-clause-exact : goal.admits_node-returns-in_default-2-clause-exact
admits_node-returns-in_default-2-clause-exact g t c =
    let r = rules_with (g.F.Finder.finds c.args.finder.now) c.args.rules.now in
    let given : Closeds = closeds (map closed_view c.in-Some.call.args.now) in
    let refused : (side : List Closed) → IsRightSideAt r c.args.rule.now given c.in-Some.call.level c.args.place side → ⊥ =
    search rules in (
      λ e. never e,
      λ a.
          let s = node_side r (closed_view c.args.symbol.now) c.args.rule.now (map (λ s. without_marks (symbol_view s)) c.args.args.now)
          c.args.place
          (trees (map tree_view c.args.trees.now)) c.in-Some.call.name.now given c.in-Some.call.level c.in-Some.ensures.some a in
          absurd (refused s.0 s.1),
    )

pub admits_node-returns-clause-exact : goal.admits_node-returns-clause-exact
admits_node-returns-clause-exact g t c =
    let finds = g.F.Finder.finds c.args.finder.now in
    let r = rules_with finds c.args.rules.now in
    let given : Closeds = closeds (map closed_view c.in-Some.call.args.now) in
    let level = c.in-Some.call.level in
    let args = map (λ s. without_marks (symbol_view s)) c.args.args.now in
    let ts = trees (map tree_view c.args.trees.now) in
    let side : List Closed = map closed_view c.in-Some-2.side in
    let fits : IsRightSideAt r c.args.rule.now given level c.args.place side = rw c.in-Some-2.is at c.in_ok-side.ensures.some in
    let name : c.in-Some.call.name.now ≡ c.args.rule.now = search rules in
    let shown : IsTrue c.show_as.result = search rules in
    let called : inner (closed_view c.args.symbol.now) ≡ Closed.call c.args.rule.now given level = rw name at c.in-Some.ensures.some in
    answered (AdmittedAll r side ts) (Admitted r (closed_view c.args.symbol.now) (Tree.rule c.args.rule.now args c.args.place ts))
    c.admits_all.result
    (λ a. node_to r (closed_view c.args.symbol.now) c.args.rule.now args c.args.place ts given level side called
    (args_to given c.args.args.now (c.show_as.ensures.0 shown)) fits a)
    (λ a.
    let s = node_side r (closed_view c.args.symbol.now) c.args.rule.now args c.args.place ts c.args.rule.now given level called a in
    rw (same_side finds c.args.rules.now c.args.rule.now given level c.args.place s.0 side s.1 fits) at s.2)
    (rw c.as_slice.ensures at c.admits_all.ensures.exact)
