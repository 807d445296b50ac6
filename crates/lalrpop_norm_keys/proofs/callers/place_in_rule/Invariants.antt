use Rattle.std.proofs.Common.{drop}
use Rattle.std.specs.Prelude.{Option}
use Rattle.lalrpop_grammar_symbols.specs.declared.span.Span.{Span}
use Rattle.lalrpop_grammar_language.specs.Levels.{levels}
use Rattle.lalrpop_grammar_repr.specs.declared.session.NormFault.{NormFault}
use Rattle.lalrpop_grammar_rules.specs.Details.{choices_view, enabled_rule_view}
use Rattle.lalrpop_grammar_rules.specs.RuleTable.{rules_with}
use Rattle.lalrpop_grammar_rules.specs.Views.{binding_of, closed_view}
use Rattle.lalrpop_norm_keys.specs.Instances.{AreTight, TellsOfSome, kept_from}
use Rattle.lalrpop_norm_keys.specs.PlaceSearch.{IsFoundInSides}
use Rattle.lalrpop_norm_keys.proofs.callers.place_in_rule.Given as goal

-- the alternatives that are left have the next tighter levels, and what is found in them and their faults are those of all
abbrev pub invariant-loop-choice : goal.invariant-loop-choice
invariant-loop-choice g l =
    let r = enabled_rule_view l.rules.features.now l.rule in
    let name = (l.rule.written.now).name.0 in
    let t = rules_with (g.F.Finder.finds l.finder) l.rules in
    let b = binding_of (l.rule.written.now).args l.args in
    record {
      tight : AreTight (levels r) (choices_view name l.choice-index (drop l.choice-index l.choices));
      left : (found : Option Span)
          → IsFoundInSides t r b (kept_from name l.choice-index (drop l.choice-index l.choices)) (closed_view l.call) found
          → IsFoundInSides t r b (kept_from name 0 l.choices) (closed_view l.call) found;
      faults : (f : NormFault) → TellsOfSome t.finds (g.F.Finder.too_deep l.finder) b
          (kept_from name l.choice-index (drop l.choice-index l.choices)) f
          → TellsOfSome t.finds (g.F.Finder.too_deep l.finder) b (kept_from name 0 l.choices) f;
    }
