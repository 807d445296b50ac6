use Rattle.std.proofs.Common.{map, take}
use Rattle.lalrpop_grammar_symbols.specs.Views.{span_view}
use Rattle.lalrpop_grammar.specs.Views.{nonterminal_view}
use Rattle.lalrpop_grammar_rules.specs.Views.{closed_view}
use Rattle.lalrpop_norm_macros.specs.WrittenKeys.{AreRulesOfKeys}
use Rattle.lalrpop_norm_macros.proofs.key_rules.keys.all_key_rules.Given as goal

abbrev pub invariant-loop-place : goal.invariant-loop-place
invariant-loop-place g l =
    AreRulesOfKeys l.tables (g.F.Finder.finds l.finder) l.spans (span_view l.otherwise)
    (map closed_view (take l.place l.keys)) (map nonterminal_view l.made)
