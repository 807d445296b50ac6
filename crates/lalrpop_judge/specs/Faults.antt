-- Why there is no answer: the nodes at which a search for a pattern is asked for.
use Rattle.std.specs.Prelude.{◌≡◌, ◌⊎◌, ℕ, List, Option, Some, codes}
use Rattle.lalrpop_grammar_symbols.specs.Symbols.{Text}
use Rattle.lalrpop_grammar.specs.Trees.{Tree, Trees}
use Rattle.lalrpop_grammar.specs.WrittenGrammar.{Condition}
use Rattle.lalrpop_grammar_language.specs.Among.{Among}
use Rattle.lalrpop_grammar_language.specs.Admitting.{IsAtPlace}
use Rattle.lalrpop_grammar_language.specs.Enabled.{Choice, EnabledRule, IsRule, EnabledGrammar}
use Rattle.lalrpop_grammar_language.specs.Levels.{Rank, ranked_choices}
use Rattle.lalrpop_grammar_rules.specs.Finding.{IsSearch}
use Rattle.lalrpop_grammar_rules.specs.declared.closed.condition.ConditionFault.{ConditionFault}
use Rattle.lalrpop_grammar_rules.specs.declared.closed.condition.ConditionFault.TheVariants as faults
use Rattle.lalrpop_judge.specs.declared.error.JudgeError.{JudgeError}
use Rattle.lalrpop_judge.specs.declared.error.JudgeError.TheVariants as errors

abbrev pub fault_of : ConditionFault → JudgeError
fault_of faults.NotRead = errors.Condition
fault_of faults.Refused = errors.Condition
fault_of faults.Memory = errors.Memory

abbrev pub words_of : JudgeError → List ℕ
words_of errors.Condition = codes "condition limit"
words_of errors.Memory = codes "out of memory"

-- the enabled alternative of the rule at the place is under a search for a pattern
pub record NamesSearch (g : EnabledGrammar) (n : Text) (place : ℕ) : Type 0 where
  pub rule : EnabledRule
  pub is_rule : IsRule g n rule
  pub choice : Choice × Option Rank
  pub among : Among (ranked_choices rule) choice
  pub at : IsAtPlace n place choice.0
  pub condition : Condition
  pub under : (choice.0).condition ≡ Some condition
  pub search : IsSearch condition.test

-- a node of the tree names such an alternative
abbrev mutual
  pub HasSearch : EnabledGrammar → Tree → Type 0
  HasSearch g (Tree.rule n args place children) = NamesSearch g n place ⊎ HaveSearch g children
  HasSearch g (Tree.list ts) = HaveSearch g ts
  HasSearch g Tree.opt_none = ⊥
  HasSearch g (Tree.opt_some t) = HasSearch g t
  HasSearch g (Tree.group ts) = HaveSearch g ts
  HasSearch g (Tree.terminal token) = ⊥
  HasSearch g Tree.look = ⊥

  pub HaveSearch : EnabledGrammar → Trees → Type 0
  HaveSearch g Trees.none = ⊥
  HaveSearch g (Trees.more t ts) = HasSearch g t ⊎ HaveSearch g ts

-- the condition of a pattern is why there is no answer only where P
abbrev pub OnlyWhere : Type 0 → JudgeError → Type 0
OnlyWhere P e = e ≡ errors.Condition → P
