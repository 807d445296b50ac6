-- What is found of a grammar before its keys are named; for the pass over macros.
use Rattle.std.specs.Prelude.{ℕ, Bool, List, [], Option}
use Rattle.lalrpop_grammar_symbols.specs.Symbols.{Text, Closed}
use Rattle.lalrpop_grammar.specs.WrittenGrammar.{Grammar}
use Rattle.lalrpop_norm_macros.specs.KeyRuleLaws.{HasRightKeys}
use Rattle.lalrpop_norm_macros.specs.MacroPass.{HasNoMacroFault}

-- These are the keys of the grammar, and nothing is wrong with its macros.
pub record HasMacroKeys (finds : Text → Text → Option Bool) (deep : Text → Bool) (limit : ℕ) (w : Grammar) (keys : List Closed) :
    Type 0 where
  pub keys_right : HasRightKeys finds [] w keys
  pub none : HasNoMacroFault finds deep limit w
