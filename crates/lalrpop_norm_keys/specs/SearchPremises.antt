-- What a search for calls and keys rests on.
use Rattle.std.specs.Prelude.{ℕ, ◌≡◌, true, List, []}
use Rattle.lalrpop_grammar_symbols.specs.Symbols.{Text, Closed}
use Rattle.lalrpop_grammar.specs.WrittenGrammar.{Grammar, Rule, rules_of}
use Rattle.lalrpop_grammar_language.specs.Among.{Among}
use Rattle.lalrpop_grammar_language.specs.Enabled.{EnabledGrammar, EnabledRule, IsRule, is_active}
use Rattle.lalrpop_norm_theory.specs.Premises.{HasNoLevels}
use Rattle.lalrpop_norm_theory.specs.Rounds.{AreCallsToDepth}

-- No rule of the table has levels, no two share a name, and the features disable none of the written rules.
pub record CanSearch (g : EnabledGrammar) (features : List Text) (w : Grammar) : Type 0 where
  pub flat : HasNoLevels g
  pub single : (r : EnabledRule) → Among g.rules r → IsRule g r.name r
  pub enabled : (r : Rule) → Among (rules_of w.items) r → is_active features r.attributes ≡ true

-- these are all calls that the grammar makes, to some depth
abbrev pub AreAllCalls : EnabledGrammar → List Closed → Type 0
AreAllCalls g calls = (depth : ℕ) × AreCallsToDepth g depth calls []
