use Rattle.std.proofs.Common.{◌≡◌, map, drop, take}
use Rattle.lalrpop_grammar.specs.Views.{item_view}
use Rattle.lalrpop_grammar.specs.WrittenGrammar.{rules_of}
use Rattle.lalrpop_norm_theory.specs.Resolving.{resolved_item}
use Rattle.lalrpop_norm_resolve.specs.FoundFaults.{HasRightRules}
use Rattle.lalrpop_norm_resolve.specs.NameViews.{definition_names}
use Rattle.lalrpop_norm_resolve.proofs.RuleListLemmas.{AreAmong}
use Rattle.lalrpop_norm_resolve.proofs.names.resolving.resolved_items.Given as goal

abbrev pub invariant-loop-item : goal.invariant-loop-item
invariant-loop-item l = record {
  value : map item_view l.made
      ≡ map (resolved_item (definition_names l.definitions)) (map item_view (take l.item-index l.items));
  right : HasRightRules (definition_names l.definitions) (rules_of (map item_view (drop l.item-index l.items)))
      → HasRightRules (definition_names l.definitions) (rules_of (map item_view l.items));
  among : AreAmong (rules_of (map item_view (drop l.item-index l.items))) (rules_of (map item_view l.items));
}
