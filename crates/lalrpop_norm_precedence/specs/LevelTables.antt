-- The levels of each rule of a grammar in order, with their names; for the passes that name levels and that expand them.
use Rattle.std.specs.Prelude.{ℕ, ◌≡◌, List, [], ◌∷◌, map, if◌then◌else◌}
use Rattle.lalrpop_grammar_symbols.specs.Symbols.{Text}
use Rattle.lalrpop_grammar.specs.WrittenGrammar.{Rule, Grammar, rules_of}
use Rattle.lalrpop_grammar_language.specs.Among.{Among}
use Rattle.lalrpop_grammar_language.specs.Levels.{has_levels}
use Rattle.lalrpop_norm_theory.specs.Between.{rule_between}
use Rattle.lalrpop_norm_theory.specs.Keys.{before_tilde}
use Rattle.lalrpop_norm_theory.specs.LeveledGrammar.{levels_in_order}
use Rattle.lalrpop_norm_theory.specs.LevelNames.{AreLevelNames}
use Rattle.lalrpop_norm_precedence.specs.declared.level_names.levels.NamedLevel.{NamedLevel}
use Rattle.lalrpop_norm_precedence.specs.declared.level_names.levels.RuleLevels.{RuleLevels}

abbrev pub named_level_view : NamedLevel → ℕ × Text
named_level_view l = (l.level, l.name)

abbrev pub rule_levels_view : RuleLevels → List (ℕ × Text)
rule_levels_view t = map named_level_view t.levels.items

-- the levels of a table without their names
abbrev pub levels_alone : RuleLevels → List ℕ
levels_alone t = map (λ l. l.level) t.levels.items

-- the levels of a rule under their names, the loosest first; none of a rule without levels
abbrev pub named_levels : (Text → ℕ → Text) → Rule → List (ℕ × Text)
named_levels f r =
    if has_levels (rule_between r) then map (λ j. (j, f r.name j)) (levels_in_order (rule_between r)) else []

-- so for each of the rules
abbrev pub AreNamedLevels : (Text → ℕ → Text) → List Rule → List RuleLevels → Type 0
AreNamedLevels f [] [] = Unit {0}
AreNamedLevels f [] (t ∷ ts) = ⊥
AreNamedLevels f (r ∷ rs) [] = ⊥
AreNamedLevels f (r ∷ rs) (t ∷ ts) = (rule_levels_view t ≡ named_levels f r) × AreNamedLevels f rs ts

-- the tables of a grammar hold names that its levels may have
abbrev pub HoldLevelNames : Grammar → List RuleLevels → Type 0
HoldLevelNames g ts = (f : Text → ℕ → Text) × AreLevelNames g f × AreNamedLevels f (rules_of g.items) ts

-- no parameter of a rule has a tilde, as no name that is read has
abbrev pub HasPlainParameters : Grammar → Type 0
HasPlainParameters g = (r : Rule) (n : Text) → Among (rules_of g.items) r → Among r.parameters n → before_tilde n ≡ n
