use Rattle.std.proofs.Common.{◌≡◌, ◌∷◌, ◌++◌, ◌+◌, ◌∙◌, ap, sym, map, drop, take, [], rules}
use Rattle.std.proofs.lemmas.List.{drop_more, take_more}
use Rattle.lalrpop_grammar.specs.Views.{item_view}
use Rattle.lalrpop_grammar.specs.WrittenGrammar.{rules_of}
use Rattle.lalrpop_norm_theory.specs.Resolving.{resolved_item}
use Rattle.std.proofs.lemmas.Result.{err_from_is_err_and}
use Rattle.lalrpop_norm_resolve.specs.NameViews.{definition_names}
use Rattle.lalrpop_norm_resolve.proofs.ItemLemmas.{filled_more}
use Rattle.lalrpop_norm_resolve.proofs.RuleListLemmas.{fault_of_item, right_rest, rest_among}
use Rattle.lalrpop_norm_resolve.proofs.names.resolving.resolved_items.Goals as goal

pub returns-in_err-resolved_item-clause-fault : goal.returns-in_err-resolved_item-clause-fault
returns-in_err-resolved_item-clause-fault c =
    let xs = c.args.items.now in
    let i = c.loop-item.item-index in
    let x = c.item-item.result in
    let here : drop i xs ≡ x ∷ drop (i + 1) xs =
    drop_more xs i x c.loop-item-test.true ∙ ap (λ y. y ∷ drop (i + 1) xs) (sym c.item-item.is) in
    let p = err_from_is_err_and c.from_residual.result c.from_residual.ensures.1 in
    rw (p.1, p.2)
    (fault_of_item (definition_names c.args.definitions.now) (rules_of (map item_view xs)) (map item_view (drop i xs))
    (map item_view (drop (i + 1) xs)) (item_view x) (ap (map item_view) here) c.loop-item.invariant.among _
    c.in_err-resolved_item.ensures.fault)

pub loop-item-init : goal.loop-item-init
loop-item-init c = record {
  value = search rules;
  right = λ h. h;
  among = λ r i. i;
}

pub loop-item-preserved : goal.loop-item-preserved
loop-item-preserved c =
    let d = definition_names c.args.definitions.now in
    let xs = c.args.items.now in
    let i = c.loop-item.item-index in
    let x = c.item-item.result in
    let here : drop i xs ≡ x ∷ drop (i + 1) xs =
    drop_more xs i x c.loop-item-test.true ∙ ap (λ y. y ∷ drop (i + 1) xs) (sym c.item-item.is) in
    let front : take (i + 1) xs ≡ take i xs ++ x ∷ [] =
    take_more xs i x c.loop-item-test.true ∙ ap (λ y. take i xs ++ y ∷ []) (sym c.item-item.is) in
    let left = map item_view (drop i xs) in
    let rest = map item_view (drop (i + 1) xs) in
    let all = rules_of (map item_view xs) in
    record {
      value = filled_more item_view (resolved_item d) (take i xs) (take (i + 1) xs) c.loop-item.made c.push.new.self x _ front
          c.in_ok-push.ensures.ok c.in_ok-resolved_item.ensures.value c.loop-item.invariant.value;
      right = right_rest d all left rest (item_view x) (ap (map item_view) here) c.loop-item.invariant.right
          c.in_ok-resolved_item.ensures.right;
      among = rest_among d all left rest (item_view x) (ap (map item_view) here) c.loop-item.invariant.among;
    }
