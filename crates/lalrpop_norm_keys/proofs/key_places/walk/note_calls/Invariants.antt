use Rattle.std.proofs.Common.{map, take}
use Rattle.lalrpop_grammar_rules.specs.RuleTable.{rules_with}
use Rattle.lalrpop_grammar_rules.specs.Views.{closed_view}
use Rattle.lalrpop_norm_keys.specs.GrammarPlaces.{PutsMetInCalls}
use Rattle.lalrpop_norm_keys.specs.Views.{met_view}
use Rattle.lalrpop_norm_keys.proofs.key_places.walk.note_calls.Given as goal

abbrev pub invariant-loop-call : goal.invariant-loop-call
invariant-loop-call g l =
    PutsMetInCalls (rules_with (g.F.Finder.finds l.finder) l.rules) (map closed_view (take l.call-index l.calls))
    (map met_view l.initial.met) (map met_view l.met)
