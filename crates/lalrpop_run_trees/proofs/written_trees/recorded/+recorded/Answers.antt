use Rattle.std.proofs.Common.{◌≡◌, ◌∙◌, ◌+◌, ◌∷◌, [], ℕ, List, ap, arith, drop, length, length-append}
use Rattle.std.proofs.Common.{refl, subst, sym, take}
use Rattle.std.specs.Prelude.{slice_get}
use Rattle.std.specs.Vec.Iter.{into_iter_items}
use Rattle.std.proofs.lemmas.List.{drop_more}
use Rattle.std.proofs.lemmas.Option.{slice_get_past, slice_get_read}
use Rattle.std.proofs.lemmas.Result.{IfOk-weaker}
use Rattle.lalrpop_grammar_repr.specs.declared.action.InlinedSymbol.{InlinedSymbol}
use Rattle.lalrpop_run_trees.specs.ActionLabels.{TellEntries}
use Rattle.lalrpop_run_trees.proofs.EntryLemmas.{come_end, come_on, given_tree, has_record, inlined_result, made_tree}
use Rattle.lalrpop_run_trees.proofs.EntryLemmas.{record_below}
use Rattle.lalrpop_run_trees.proofs.written_trees.recorded.+recorded.Goals as goal
use Rattle.lalrpop_run_trees.proofs.written_trees.recorded.+recorded.Goals.{
  tree_of_action-in_default-record_of-via-in-Some-record_of+else-index,
  tree_of_action-in_default-record_of-via-in_default-record_of,
}

pub tree_of_action-returns-in-Some : goal.tree_of_action-returns-in-Some
tree_of_action-returns-in-Some t c = λ label told.
    let origins = c.args.origins.now in
    let at = ap (slice_get origins) (sym c.index.ensures)
    ∙ slice_get_read origins (length origins) c.index.result c.in-Some.origin.now refl c.in-Some.ensures.lookup.3.0
    c.in-Some.ensures.lookup.1 in
    IfOk-weaker c.tree_of_choice.result _ _
    (λ tree made. given_tree c.args.actions.now origins c.args.action.0 label c.args.children.items told c.in-Some.origin.now at tree made)
    c.tree_of_choice.ensures

pub tree_of_action-returns-in_ok-trees-in-Some-record_of : goal.tree_of_action-returns-in_ok-trees-in-Some-record_of
tree_of_action-returns-in_ok-trees-in-Some-record_of t c = λ label told.
    let origins = c.args.origins.now in
    let none = ap (slice_get origins) (sym c.index.ensures) ∙ slice_get_past origins c.index.result c.in_default.ensures.lookup.3 in
    made_tree c.args.actions.now origins c.args.action.0 label c.args.children.items told none c.in-Some-record_of.record.now
    c.in-Some-record_of.ensures.found c.in_ok-trees-in-Some-record_of.trees.items
    (λ entries h. c.in_ok-trees-in-Some-record_of.ensures.trees entries
    (subst (λ (below : ℕ).
    TellEntries c.args.actions.now origins below c.as_slice-symbols.result.now (length c.args.children.items) entries)
    (sym c.index-in-Some-record_of.ensures)
    (subst (λ (symbols : List InlinedSymbol).
    TellEntries c.args.actions.now origins c.args.action.0 symbols (length c.args.children.items) entries)
    (sym c.as_slice-symbols.ensures) h)))
    (c.in_ok-trees-in-Some-record_of.ensures.count ∙ ap length c.as_slice-symbols.ensures) c.tree_of_action.result
    (λ inner h. c.tree_of_action.ensures inner h)

pub tree_of_action-returns-in_default-record_of : goal.tree_of_action-returns-in_default-record_of
tree_of_action-returns-in_default-record_of t c = λ label told.
    let origins = c.args.origins.now in
    let none = ap (slice_get origins) (sym c.index.ensures) ∙ slice_get_past origins c.index.result c.in_default.ensures.lookup.3 in
    elim c.in_default-record_of.branch [
      | tree_of_action-in_default-record_of-via-in-Some-record_of+else-index w ↦
          absurd (omega (
            arith,
            record_below c.args.actions.now origins c.args.action.0 label c.args.children.items told none
                w.in-Some-record_of.record.now w.in-Some-record_of.ensures.found,
            w.if-index.false,
          ))
      | tree_of_action-in_default-record_of-via-in_default-record_of w ↦
          absurd (has_record c.args.actions.now origins c.args.action.0 label c.args.children.items told none
          w.in_default-record_of.ensures.none)
    ]

pub tree_of_symbol-returns-then-index-below-clause-tree : goal.tree_of_symbol-returns-then-index-below-clause-tree
tree_of_symbol-returns-then-index-below-clause-tree t c = λ count entries told enough.
    inlined_result c.args.actions.now c.args.origins.now c.args.below c.in-Inlined.action c.in-Inlined.side count entries
    (into_iter_items c.args.rest.now) c.in_ok-children-in-Inlined.children.items c.tree_of_action.result
    (subst (λ (s : InlinedSymbol). TellEntries c.args.actions.now c.args.origins.now c.args.below (s ∷ []) count entries)
    c.in-Inlined.is told) enough
    (c.in_ok-children-in-Inlined.ensures.taken
    ∙ ap (λ (n : ℕ). take n (into_iter_items c.args.rest.now)) c.len.ensures) c.tree_of_action.ensures

pub trees_of_record-loop-symbol-preserved : goal.trees_of_record-loop-symbol-preserved
trees_of_record-loop-symbol-preserved t c =
    let all = c.args.symbols.now in
    let i = c.loop-symbol.symbol-index in
    let here : drop i all ≡ c.symbol-item.result ∷ drop (i + 1) all =
    drop_more all i c.symbol-item.result c.loop-symbol-test.true ∙ ap (λ x. x ∷ drop (i + 1) all) (sym c.symbol-item.is) in
    record {
      count = ap length c.in_ok-push.ensures.items ∙ length-append c.loop-symbol.made.items (c.in_ok-tree.tree ∷ [])
          ∙ ap (λ (n : ℕ). n + 1) c.loop-symbol.invariant.count;
      come = λ entries told.
          come_on c.args.actions.now c.args.origins.now c.args.below all i c.symbol-item.result here c.loop-symbol.made.items
          c.push.new.self.items c.in_ok-tree.tree c.in_ok-push.ensures.items (into_iter_items c.loop-symbol.rest)
          (into_iter_items c.tree_of_symbol.new.rest) c.in_ok-tree.ensures.left _ (c.loop-symbol.invariant.come entries told)
          c.in_ok-tree.ensures.tree;
    }

pub trees_of_record-returns-clause-trees : goal.trees_of_record-returns-clause-trees
trees_of_record-returns-clause-trees t c = λ entries told.
    come_end c.args.actions.now c.args.origins.now c.args.below c.args.symbols.now c.loop-symbol.symbol-index
    (omega (arith, c.loop-symbol-test.false)) _ _ _
    (c.loop-symbol.invariant.come entries told)
