-- What putting an item of a grammar behind others does to them, and to the tables of the rules that are still to come.
use Rattle.std.specs.Prelude.{ℕ, ◌≡◌, List, [], ◌∷◌, ◌++◌}
use Rattle.lalrpop_grammar_symbols.specs.Symbols.{Text}
use Rattle.lalrpop_grammar.specs.WrittenGrammar.{Rule, WrittenItem, rules_of}
use Rattle.lalrpop_norm_theory.specs.LeveledGrammar.{leveled_item}
use Rattle.lalrpop_norm_precedence.specs.LevelTables.{AreNamedLevels}
use Rattle.lalrpop_norm_precedence.specs.declared.level_names.levels.RuleLevels.{RuleLevels}

-- Where tables are those of the item's rules and of more, the item is put behind the others with its levels expanded, and the
-- tables of the others are left.
abbrev pub PutsLeveled : WrittenItem → List RuleLevels → List RuleLevels → List WrittenItem → List WrittenItem → Type 0
PutsLeveled item tables left old new =
    (f : Text → ℕ → Text) (more : List Rule) → AreNamedLevels f (rules_of (item ∷ []) ++ more) tables
    → (new ≡ old ++ leveled_item f item) × AreNamedLevels f more left
