-- Conditions of the calls that a grammar makes, at each level; for the faults that stand in them.
use Rattle.std.specs.Prelude.{ℕ, ◌≡◌, ◌⊎◌, Bool, Option, Some}
use Rattle.lalrpop_grammar_symbols.specs.Symbols.{Text, Closed, Closeds}
use Rattle.lalrpop_grammar.specs.WrittenGrammar.{Condition}
use Rattle.lalrpop_grammar_language.specs.Among.{Among}
use Rattle.lalrpop_grammar_language.specs.Enabled.{EnabledGrammar, EnabledRule, Choice, IsRule}
use Rattle.lalrpop_grammar_language.specs.Levels.{Rank, ranked_choices}
use Rattle.lalrpop_grammar_language.specs.Closing.{parameter_value}
use Rattle.lalrpop_grammar_language.specs.Admitting.{bind, rank_level}
use Rattle.lalrpop_grammar_language.specs.Expansion.{Nonterminal, IsRoot}
use Rattle.lalrpop_norm_theory.specs.Depth.{HasCallChain}
use Rattle.lalrpop_norm_keys.specs.MacroFaults.{ConditionError, IsConditionError}

-- the call is made: it is a rule that is no macro, at one of its levels, or a chain of calls leads to it
abbrev pub IsMade : EnabledGrammar → Closed → Type 0
IsMade g x = IsRoot g (Nonterminal.closed x) ⊎ ((k : ℕ) × HasCallChain g k x)

-- An alternative of the called rule, of that level, has the condition, and its parameter stands for this.
pub record IsConditionAt (g : EnabledGrammar) (n : Text) (args : Closeds) (level : Option ℕ) (t : Condition) (value : Option Closed) :
    Type 0 where
  pub rule : EnabledRule
  pub is_rule : IsRule g n rule
  pub choice : Choice × Option Rank
  pub among : Among (ranked_choices rule) choice
  pub level_is : rank_level choice.1 ≡ level
  pub condition : choice.0.condition ≡ Some t
  pub value_is : parameter_value (bind rule args) t.parameter ≡ value

-- the fact holds of some condition of a call that is made, with what its parameter stands for
pub record HasConditionWhere (g : EnabledGrammar) (P : Condition → Option Closed → Type 0) : Type 0 where
  pub name : Text
  pub args : Closeds
  pub level : Option ℕ
  pub made : IsRoot g (Nonterminal.closed (Closed.call name args level)) ⊎ ((k : ℕ) × HasCallChain g k (Closed.call name args level))
  pub condition : Condition
  pub value : Option Closed
  pub there : IsConditionAt g name args level condition value
  pub holds : P condition value

-- a condition of a call that is made asks something else than a literal, or has a pattern that isn't read
abbrev pub HasWrongCondition : EnabledGrammar → (Text → Bool) → ConditionError → Type 0
HasWrongCondition g deep e = HasConditionWhere g (λ t v. IsConditionError g.finds deep t v e)
