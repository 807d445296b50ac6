-- The calls that stand in a call of a rule, as the search walks over them: whatever the levels of rules are.
use Rattle.std.specs.Prelude.{◌≡◌, ◌↔◌, List, length, Option, None}
use Rattle.lalrpop_grammar_symbols.specs.Symbols.{Text, Closed, Closeds, closed_list}
use Rattle.lalrpop_grammar_language.specs.Among.{Among}
use Rattle.lalrpop_grammar_language.specs.Enabled.{EnabledGrammar, EnabledRule, Choice, IsRule}
use Rattle.lalrpop_grammar_language.specs.Levels.{Rank, ranked_choices}
use Rattle.lalrpop_grammar_language.specs.Closing.{right_side}
use Rattle.lalrpop_grammar_language.specs.Conditions.{Holds}
use Rattle.lalrpop_grammar_language.specs.Admitting.{bind}
use Rattle.lalrpop_norm_theory.specs.Depth.{calls_in, calls_in_all}
use Rattle.lalrpop_grammar_rules.specs.Views.{closeds}

-- The call x stands in an alternative of the rule of that name whose condition holds for the arguments.
pub record StandsInCall (g : EnabledGrammar) (n : Text) (args : Closeds) (x : Closed) : Type 0 where
  pub rule : EnabledRule
  pub is_rule : IsRule g n rule
  pub arguments : length (closed_list args) ≡ length rule.parameters
  pub choice : Choice × Option Rank
  pub written : Among (ranked_choices rule) choice
  pub holds : Holds g (bind rule args) choice.0.condition
  pub symbol : Closed
  pub in_side : Among (right_side g rule (bind rule args) choice) symbol
  pub has_call : Among (calls_in symbol) x

-- so it stands in a call without a level, and in no other symbol
abbrev pub CallStandsIn : EnabledGrammar → Closed → Closed → Type 0
CallStandsIn g (Closed.call n args None) x = StandsInCall g n args x
CallStandsIn g _ x = ⊥

-- the symbols have just the calls that stand in y
abbrev pub HasCallsOf : EnabledGrammar → Closed → List Closed → Type 0
HasCallsOf g y xs = (x : Closed) → Among (calls_in_all (closeds xs)) x ↔ CallStandsIn g y x
