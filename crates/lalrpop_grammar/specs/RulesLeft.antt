-- What is left of a walk over a grammar's rules.
use Rattle.std.specs.Prelude.{List, map}
use Rattle.lalrpop_grammar.specs.declared.rules.GrammarRules.{GrammarRules}
use Rattle.lalrpop_grammar.specs.Views.{item_view}
use Rattle.lalrpop_grammar.specs.WrittenGrammar.{Rule, rules_of}

-- the rules that are still to come, in order
abbrev pub rules_left : GrammarRules → List Rule
rules_left it = rules_of (map item_view it.items.now)
