-- The rules of a rule's levels as the names of the levels make them; for the expansion of a rule.
use Rattle.std.specs.Prelude.{ℕ, ◌==◌, ◌&&◌, List, [], ◌∷◌, ◌++◌, Option, map}
use Rattle.lalrpop_grammar_symbols.specs.Symbols.{Text}
use Rattle.lalrpop_grammar.specs.WrittenGrammar.{Alternative, Rule}
use Rattle.lalrpop_grammar_language.specs.Closing.{Binding}
use Rattle.lalrpop_grammar_language.specs.Levels.{Rank}
use Rattle.lalrpop_norm_precedence.specs.NamedAlternatives.{OccurrenceNaming, alternative_by_naming, pass_down_by_name}

-- a level and its name
abbrev pub LevelAndName : Type 0
LevelAndName = ℕ × Text

-- what occurrences are called in the alternatives of a level, of which these are the tighter ones: at the tightest level
-- each means the whole rule
abbrev pub reached_name : LevelAndName → LevelAndName → List LevelAndName → Text
reached_name loosest own [] = loosest.1
reached_name loosest own (next ∷ more) = own.1

abbrev pub unreached_name : LevelAndName → List LevelAndName → Text
unreached_name loosest [] = loosest.1
unreached_name loosest (next ∷ more) = next.1

abbrev pub naming_at : Rule → Binding → LevelAndName → LevelAndName → List LevelAndName → OccurrenceNaming
naming_at r b loosest own tighter = record {
  binding = b;
  owner = r.name;
  reached = reached_name loosest own tighter;
  others = unreached_name loosest tighter;
}

abbrev pub pass_downs_by_name : Rule → List LevelAndName → List Alternative
pass_downs_by_name r [] = []
pass_downs_by_name r (next ∷ more) = pass_down_by_name r next.1 ∷ []

-- the rule of a level, with these alternatives
abbrev pub rule_by_name : Rule → LevelAndName → LevelAndName → List Alternative → Rule
rule_by_name r loosest own alternatives = record r {
  public = r.public && (own.0 == loosest.0);
  name = own.1;
  alternatives = alternatives;
}

abbrev pub rule_by_names : Rule → Binding → LevelAndName → LevelAndName → List LevelAndName
    → List (Alternative × Option Rank) → Rule
rule_by_names r b loosest own tighter ranked =
    rule_by_name r loosest own
    (map (alternative_by_naming (naming_at r b loosest own tighter)) ranked ++ pass_downs_by_name r tighter)

-- the rules of the levels, of which each has the alternatives that are told for it
abbrev pub rules_by_names : Rule → Binding → LevelAndName → (ℕ → List (Alternative × Option Rank)) → List LevelAndName
    → List Rule
rules_by_names r b loosest ranked [] = []
rules_by_names r b loosest ranked (own ∷ tighter) =
    rule_by_names r b loosest own tighter (ranked own.0) ∷ rules_by_names r b loosest ranked tighter

-- the same of all levels, of which the first is the loosest
abbrev pub all_rules_by_names : Rule → Binding → (ℕ → List (Alternative × Option Rank)) → List LevelAndName → List Rule
all_rules_by_names r b ranked [] = []
all_rules_by_names r b ranked (loosest ∷ tighter) = rules_by_names r b loosest ranked (loosest ∷ tighter)
