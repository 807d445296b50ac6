-- What the laws say of the grammar in which each level has a rule of its own.
use Rattle.std.specs.Prelude.{ℕ, ◌≡◌, ◌↔◌, true, Bool, List, [], Option}
use Rattle.lalrpop_grammar_symbols.specs.Symbols.{Text}
use Rattle.lalrpop_grammar.specs.WrittenGrammar.{Alternative, Rule, Grammar, Origin, rules_of}
use Rattle.lalrpop_grammar_language.specs.Among.{Among}
use Rattle.lalrpop_grammar_language.specs.Enabled.{EnabledRule}
use Rattle.lalrpop_grammar_language.specs.Levels.{assoc_of, or_assoc, Assoc}
use Rattle.lalrpop_grammar_language.specs.Expansion.{Nonterminal}
use Rattle.lalrpop_norm_theory.specs.Between.{grammar_between, without_disabled}
use Rattle.lalrpop_norm_theory.specs.Premises.{IsReadGrammar, IsResolved, HasNoLevels}
use Rattle.lalrpop_norm_theory.specs.Same.{SameExpansion}
use Rattle.lalrpop_norm_theory.specs.Inlined.{SameInlined}
use Rattle.lalrpop_norm_theory.specs.Keys.{leveled_key_text, flat_key_text, IsNaming}
use Rattle.lalrpop_norm_theory.specs.Types.{SameTypes}
use Rattle.lalrpop_norm_theory.specs.LevelRules.{by_level_names}
use Rattle.lalrpop_norm_theory.specs.LeveledGrammar.{leveled_grammar}
use Rattle.lalrpop_norm_theory.specs.LevelNames.{AreLevelNames, HasNoTildes, HasPackedNames}
use Rattle.lalrpop_norm_theory.specs.LevelFaults.{HasRightLevels, side_of}

-- a nonterminal under the names of the levels
abbrev pub nonterminal_by_level : (Text → ℕ → Text) → Nonterminal → Nonterminal
nonterminal_by_level f (Nonterminal.start n) = Nonterminal.start n
nonterminal_by_level f (Nonterminal.closed x) = Nonterminal.closed (by_level_names f x)

-- Each alternative tells a place of the rule in which it stands, as it does from the reading to the levels. By that an
-- argument at a level is told by the written name.
abbrev pub TellsOwnRules : Grammar → Type 0
TellsOwnRules g = (r : Rule) (a : Alternative) → Among (rules_of g.items) r → Among r.alternatives a →
    (place : ℕ) × (a.origin ≡ Origin.alternative r.name [] place)

-- what is left of a grammar that was read does
abbrev pub ReadTellsOwnRules : Type 0
ReadTellsOwnRules = (features : List Text) (g : Grammar) → IsReadGrammar g → TellsOwnRules (without_disabled features g)

-- the premises that the laws share
pub record IsLevelable (finds : Text → Text → Option Bool) (g : Grammar) (f : Text → ℕ → Text) : Type 0 where
  pub resolved : IsResolved (grammar_between finds g)
  pub right : HasRightLevels g
  pub names : AreLevelNames g f

-- names stay resolved
abbrev pub LevelsStayResolved : Type 0
LevelsStayResolved =
    (finds : Text → Text → Option Bool) (g : Grammar) (f : Text → ℕ → Text) → IsLevelable finds g f
    → IsResolved (grammar_between finds (leveled_grammar f g))

-- no levels are left
abbrev pub NoLevelsAreLeft : Type 0
NoLevelsAreLeft =
    (finds : Text → Text → Option Bool) (g : Grammar) (f : Text → ℕ → Text) →
    HasNoLevels (grammar_between finds (leveled_grammar f g))

-- the expansion is the same under the names of the levels
abbrev pub LevelsKeepExpansion : Type 0
LevelsKeepExpansion =
    (finds : Text → Text → Option Bool) (g : Grammar) (f : Text → ℕ → Text) → IsLevelable finds g f → TellsOwnRules g
    → SameExpansion (grammar_between finds g) (grammar_between finds (leveled_grammar f g)) (nonterminal_by_level f)

-- and so are the nonterminals that are inlined
abbrev pub LevelsInlineAlike : Type 0
LevelsInlineAlike =
    (finds : Text → Text → Option Bool) (g : Grammar) (f : Text → ℕ → Text) → IsLevelable finds g f
    → SameInlined (grammar_between finds g) (grammar_between finds (leveled_grammar f g)) (nonterminal_by_level f)

-- and the types
abbrev pub LevelsKeepTypes : Type 0
LevelsKeepTypes =
    (finds : Text → Text → Option Bool) (g : Grammar) (f : Text → ℕ → Text) → IsLevelable finds g f
    → SameTypes (grammar_between finds g) (grammar_between finds (leveled_grammar f g)) (by_level_names f)

-- A rule is public just where it has the name of a public written one: of the levels the loosest alone.
abbrev pub LoosestAloneIsPublic : Type 0
LoosestAloneIsPublic =
    (finds : Text → Text → Option Bool) (g : Grammar) (f : Text → ℕ → Text) → IsLevelable finds g f → (q : EnabledRule)
    → Among (grammar_between finds (leveled_grammar f g)).rules q
    → (q.public ≡ true) ↔ ((r : EnabledRule) × Among (grammar_between finds g).rules r × (r.name ≡ q.name) × (r.public ≡ true))

-- a grammar without levels stays as it is
abbrev pub WithoutLevelsStays : Type 0
WithoutLevelsStays =
    (finds : Text → Text → Option Bool) (g : Grammar) (f : Text → ℕ → Text) → HasNoLevels (grammar_between finds g)
    → leveled_grammar f g ≡ g

-- where a written side is known, it is the side that counts; an unknown one would count as none
abbrev pub SidesCount : Type 0
SidesCount = (t : Text) → assoc_of t ≡ or_assoc (side_of t) Assoc.non_assoc

-- the rules' names leave no number out
abbrev pub LeveledNamesArePacked : Type 0
LeveledNamesArePacked =
    (finds : Text → Text → Option Bool) (g : Grammar) (f : Text → ℕ → Text) → IsLevelable finds g f → HasNoTildes g
    → HasPackedNames (grammar_between finds (leveled_grammar f g))

-- names of the leveled grammar's expansion are names of the written one's, whose keys print with their levels
abbrev pub LeveledNamesGoBack : Type 0
LeveledNamesGoBack =
    (finds : Text → Text → Option Bool) (g : Grammar) (f : Text → ℕ → Text) (prefix : Text) (name_of : Nonterminal → Text)
    → IsLevelable finds g f → TellsOwnRules g → HasNoTildes g
    → IsNaming flat_key_text prefix (grammar_between finds (leveled_grammar f g)) name_of
    → IsNaming (leveled_key_text (grammar_between finds g)) prefix (grammar_between finds g) (λ x. name_of (nonterminal_by_level f x))
