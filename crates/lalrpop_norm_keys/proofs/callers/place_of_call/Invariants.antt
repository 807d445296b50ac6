use Rattle.std.proofs.Common.{drop, map}
use Rattle.std.specs.Prelude.{Option}
use Rattle.lalrpop_grammar_symbols.specs.declared.span.Span.{Span}
use Rattle.lalrpop_grammar_rules.specs.RuleTable.{rules_with}
use Rattle.lalrpop_grammar_rules.specs.Views.{closed_view}
use Rattle.lalrpop_norm_keys.specs.PlaceSearch.{IsFoundInCalls}
use Rattle.lalrpop_norm_keys.proofs.callers.place_of_call.Given as goal

-- what is found in the calls that are left is found in all
abbrev pub invariant-loop-caller : goal.invariant-loop-caller
invariant-loop-caller g l =
    let t = rules_with (g.F.Finder.finds l.finder) l.rules in
    (found : Option Span) → IsFoundInCalls t (map closed_view (drop l.caller-index l.callers)) (closed_view l.call) found
    → IsFoundInCalls t (map closed_view l.callers) (closed_view l.call) found
