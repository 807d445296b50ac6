-- Where a grammar's repeats, groups and lookarounds are met: beside the symbols of an alternative that may be chosen.
use Rattle.std.specs.Prelude.{ℕ, ◌≡◌, Bool, List, Option}
use Rattle.lalrpop_grammar_symbols.specs.Symbols.{Text, TextSpan, Closed, Closeds, syms}
use Rattle.lalrpop_grammar.specs.WrittenGrammar.{Grammar}
use Rattle.lalrpop_grammar_language.specs.Among.{Among}
use Rattle.lalrpop_grammar_language.specs.Enabled.{Choice, EnabledGrammar, EnabledRule, enabled_grammar}
use Rattle.lalrpop_grammar_language.specs.Levels.{Rank}
use Rattle.lalrpop_grammar_language.specs.Closing.{Binding, right_side}
use Rattle.lalrpop_grammar_language.specs.Admitting.{Fits, bind, rank_level}
use Rattle.lalrpop_grammar_language.specs.Expansion.{Nonterminal, InExpansion}
use Rattle.lalrpop_grammar_rules.specs.Views.{closeds}
use Rattle.lalrpop_norm_keys.specs.MetKeys.{MetKey, keys_met_in_row}

-- a key that is no call: a repeat, a group or a lookaround
abbrev pub IsShapeKey : Closed → Type 0
IsShapeKey (Closed.repeat op x) = Unit {0}
IsShapeKey (Closed.group xs) = Unit {0}
IsShapeKey Closed.lookahead = Unit {0}
IsShapeKey Closed.lookbehind = Unit {0}
IsShapeKey (Closed.terminal t) = ⊥
IsShapeKey (Closed.call n args level) = ⊥
IsShapeKey (Closed.choose x) = ⊥
IsShapeKey (Closed.name m n x) = ⊥
IsShapeKey Closed.faulty = ⊥

-- the keys that are met in an alternative; in a symbol of which a part is faulty none are
abbrev pub keys_met_in_side : EnabledGrammar → EnabledRule → Binding → Choice × Option Rank → List MetKey
keys_met_in_side g r b c = keys_met_in_row (syms c.0.expr) (closeds (right_side g r b c))

-- The key x is met there in an alternative of the call y that may be chosen.
pub record IsKeyPlaceIn (g : EnabledGrammar) (y x : Closed) (p : TextSpan) : Type 0 where
  pub name : Text
  pub args : Closeds
  pub level : Option ℕ
  pub call_is : y ≡ Closed.call name args level
  pub rule : EnabledRule
  pub choice : Choice × Option Rank
  pub fits : Fits g name args rule choice
  pub level_is : rank_level choice.1 ≡ level
  pub met : Among (keys_met_in_side g rule (bind rule args) choice) (x, p)

-- The key is met there in a rule that is no macro, or in a call that is made: at the innermost symbol that has it, which is its own
-- symbol, or the name of the parameter by which it comes.
abbrev pub IsKeyPlace : EnabledGrammar → Closed → TextSpan → Type 0
IsKeyPlace g x p = (y : Closed) × InExpansion g (Nonterminal.closed y) × IsKeyPlaceIn g y x p

-- the same of a written grammar under features
abbrev pub IsWrittenKeyPlace : (Text → Text → Option Bool) → List Text → Grammar → Closed → TextSpan → Type 0
IsWrittenKeyPlace finds features w x p = IsKeyPlace (enabled_grammar finds features w) x p
