-- What the pass over levels answers: the grammar in which each level has a rule of its own, or the first fault of levels.
use Rattle.std.specs.Prelude.{ℕ, ◌≡◌, ◌↔◌, true, Bool, Option, Some}
use Rattle.lalrpop_grammar_symbols.specs.Symbols.{Text}
use Rattle.lalrpop_grammar.specs.WrittenGrammar.{Grammar}
use Rattle.lalrpop_grammar_language.specs.Among.{Among}
use Rattle.lalrpop_grammar_language.specs.Enabled.{EnabledRule}
use Rattle.lalrpop_grammar_repr.specs.declared.session.NormFault.{NormFault}
use Rattle.lalrpop_grammar_repr.specs.declared.session.NormFault.TheVariants as faults
use Rattle.lalrpop_norm_theory.specs.Between.{grammar_between}
use Rattle.lalrpop_norm_theory.specs.Premises.{IsResolved, HasNoLevels}
use Rattle.lalrpop_norm_theory.specs.Same.{SameExpansion}
use Rattle.lalrpop_norm_theory.specs.Inlined.{SameInlined}
use Rattle.lalrpop_norm_theory.specs.LeveledGrammar.{leveled_grammar}
use Rattle.lalrpop_norm_theory.specs.LevelNames.{AreLevelNames, HasNoTildes, HasPackedNames}
use Rattle.lalrpop_norm_theory.specs.LevelFaults.{level_faults}
use Rattle.lalrpop_norm_theory.specs.LevelLaws.{nonterminal_by_level, TellsOwnRules}
use Rattle.lalrpop_norm_precedence.specs.LevelTables.{HasPlainParameters}
use Rattle.lalrpop_norm_precedence.specs.LevelErrors.{error_view, first_fault}

-- the first of the faults of levels is told, or memory ran out
abbrev pub IsLevelFault : Grammar → NormFault → Type 0
IsLevelFault g (faults.Norm error) = Some (error_view error) ≡ first_fault (level_faults g)
IsLevelFault g faults.Memory = Unit {0}
IsLevelFault g faults.ConditionLimit = ⊥

-- what the names of levels rest on: each name of the grammar is resolved, and none has a tilde
pub record HasPlainNames (finds : Text → Text → Option Bool) (g : Grammar) : Type 0 where
  pub resolved : IsResolved (grammar_between finds g)
  pub rules : HasNoTildes g
  pub parameters : HasPlainParameters g

-- The grammar is the other one in which each level has a rule of its own, under names that levels may have, and what the laws of
-- levels say of it.
pub record IsLevelExpansion (finds : Text → Text → Option Bool) (g made : Grammar) : Type 0 where
  pub names : Text → ℕ → Text
  pub are_names : AreLevelNames g names
  pub value : made ≡ leveled_grammar names g
  -- names stay resolved, and no levels are left
  pub resolved : IsResolved (grammar_between finds made)
  pub flat : HasNoLevels (grammar_between finds made)
  -- the expansion is the same under the names of the levels, and so are the nonterminals that are inlined
  pub expansion : TellsOwnRules g
      → SameExpansion (grammar_between finds g) (grammar_between finds made) (nonterminal_by_level names)
  pub inlined : SameInlined (grammar_between finds g) (grammar_between finds made) (nonterminal_by_level names)
  -- of the levels the loosest alone is public
  pub public : (q : EnabledRule) → Among (grammar_between finds made).rules q
      → (q.public ≡ true)
      ↔ ((r : EnabledRule) × Among (grammar_between finds g).rules r × (r.name ≡ q.name) × (r.public ≡ true))
  -- the rules' names leave no number out
  pub packed : HasPackedNames (grammar_between finds made)

-- a grammar without levels stays as it is
abbrev pub StaysWithoutLevels : Grammar → Grammar → Type 0
StaysWithoutLevels g made = (finds : Text → Text → Option Bool) → HasNoLevels (grammar_between finds g) → made ≡ g
