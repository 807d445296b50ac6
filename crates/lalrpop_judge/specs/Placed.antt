-- The alternative at a place of the rule that a name stands for.
use Rattle.std.specs.Prelude.{ℕ, ◌≡◌, List, [], Option, Some, None, option_map, slice_get}
use Rattle.std.specs.Borrow.{Bor}
use Rattle.lalrpop_grammar_symbols.specs.Symbols.{Text}
use Rattle.lalrpop_grammar.specs.WrittenGrammar.{Origin}
use Rattle.lalrpop_grammar.specs.Views.{alternative_view}
use Rattle.lalrpop_grammar_language.specs.Among.{Among}
use Rattle.lalrpop_grammar_language.specs.Enabled.{Choice, EnabledRule, IsRule, choice_of}
use Rattle.lalrpop_grammar_language.specs.Levels.{Rank, levels, ranked_choices}
use Rattle.lalrpop_grammar_language.specs.Admitting.{IsAtPlace}
use Rattle.lalrpop_grammar_rules.specs.Details.{enabled_rule_view, tighter_in}
use Rattle.lalrpop_grammar_rules.specs.Ranks.{rank_view}
use Rattle.lalrpop_grammar_rules.specs.RuleTable.{IsOnly, rules_view}
use Rattle.lalrpop_grammar_rules.specs.declared.rule.Choice as program
use Rattle.lalrpop_grammar_rules.specs.declared.table.Rules as table
use Rattle.lalrpop_judge.specs.declared.choosing.Placed.{Placed}

-- the alternative with its rank, as definitions see it
abbrev pub placed_view : Text → ℕ → Placed → Choice × Option Rank
placed_view n place p =
    (choice_of (Origin.alternative n [] place, alternative_view p.choice.now.alternative.now), option_map rank_view p.choice.now.rank)

abbrev pub rule_in : table.Rules → Placed → EnabledRule
rule_in t p = enabled_rule_view t.features.now p.rule.now

-- the rule is the only one of the name, and has the alternative at the place and no other
pub record IsPlaced (t : table.Rules) (n : Text) (place : ℕ) (p : Placed) : Type 0 where
  pub only : IsOnly t n p.rule.now
  pub among : Among (ranked_choices (rule_in t p)) (placed_view n place p)
  pub tighter : p.choice.now.tighter ≡ tighter_in (levels (rule_in t p)) (option_map rank_view p.choice.now.rank)
  pub alone : (q : Choice × Option Rank) → Among (ranked_choices (rule_in t p)) q → IsAtPlace n place q.0
      → q ≡ placed_view n place p

abbrev pub IsPlacedAt : table.Rules → Text → ℕ → Option Placed → Type 0
IsPlacedAt t n place None =
    (r : EnabledRule) (q : Choice × Option Rank) → IsRule (rules_view t) n r → Among (ranked_choices r) q → IsAtPlace n place q.0
    → ⊥
IsPlacedAt t n place (Some p) = IsPlaced t n place p

-- the entry at the place
abbrev pub IsChoiceAt : List (Option program.Choice) → ℕ → Option (Bor program.Choice) → Type 0
IsChoiceAt choices place None = (c : program.Choice) → slice_get choices place ≡ Some (Some c) → ⊥
IsChoiceAt choices place (Some c) = slice_get choices place ≡ Some (Some c.now)
