-- What the laws say of chains of macro calls in the grammar in which each level has a rule of its own.
use Rattle.std.specs.Prelude.{ℕ, ◌≡◌, Bool, Option}
use Rattle.lalrpop_grammar_symbols.specs.Symbols.{Text, Closed}
use Rattle.lalrpop_grammar.specs.WrittenGrammar.{Grammar}
use Rattle.lalrpop_grammar_language.specs.Enabled.{EnabledGrammar}
use Rattle.lalrpop_norm_theory.specs.Between.{grammar_between}
use Rattle.lalrpop_norm_theory.specs.Depth.{HasCallChain, IsTooDeep}
use Rattle.lalrpop_norm_theory.specs.LevelRules.{by_level_names}
use Rattle.lalrpop_norm_theory.specs.LeveledGrammar.{leveled_grammar}
use Rattle.lalrpop_norm_theory.specs.LevelLaws.{IsLevelable}

-- What a pass keeps of macro calls, where it renames closed symbols: as many calls lead to each, and there is no other.
pub record SameChains (before after : EnabledGrammar) (to : Closed → Closed) : Type 0 where
  pub there : (k : ℕ) (x : Closed) → HasCallChain before k x → HasCallChain after k (to x)
  pub no_other : (k : ℕ) (y : Closed) → HasCallChain after k y → (x : Closed) × HasCallChain before k x × (y ≡ to x)

-- and which are too deep
pub record SameDeepCalls (before after : EnabledGrammar) (to : Closed → Closed) : Type 0 where
  pub there : (limit : ℕ) (x : Closed) → IsTooDeep before limit x → IsTooDeep after limit (to x)
  pub no_other : (limit : ℕ) (y : Closed) → IsTooDeep after limit y → (x : Closed) × IsTooDeep before limit x × (y ≡ to x)

-- chains of calls are the same under the names of the levels
abbrev pub LevelsKeepChains : Type 0
LevelsKeepChains =
    (finds : Text → Text → Option Bool) (g : Grammar) (f : Text → ℕ → Text) → IsLevelable finds g f
    → SameChains (grammar_between finds g) (grammar_between finds (leveled_grammar f g)) (by_level_names f)

-- and so are the calls that are too deep
abbrev pub LevelsKeepDeepCalls : Type 0
LevelsKeepDeepCalls =
    (finds : Text → Text → Option Bool) (g : Grammar) (f : Text → ℕ → Text) → IsLevelable finds g f
    → SameDeepCalls (grammar_between finds g) (grammar_between finds (leveled_grammar f g)) (by_level_names f)
