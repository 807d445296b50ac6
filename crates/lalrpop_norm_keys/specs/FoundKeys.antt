-- Keys that are gathered from calls: the calls themselves, and what stands on their right sides.
use Rattle.std.specs.Prelude.{◌≡◌, ◌⊎◌, List}
use Rattle.lalrpop_grammar_symbols.specs.Symbols.{Closed}
use Rattle.lalrpop_grammar_language.specs.Among.{Among}
use Rattle.lalrpop_grammar_language.specs.Enabled.{EnabledGrammar}
use Rattle.lalrpop_norm_theory.specs.KeyTables.{KeyStandsIn}

-- To the known keys these calls are added, with the keys that stand in them, and no others.
pub record FindsKeys (g : EnabledGrammar) (ys known all : List Closed) : Type 0 where
  pub stay : (z : Closed) → Among known z → Among all z
  pub themselves : (y : Closed) → Among ys y → Among all y
  pub stand : (y z : Closed) → Among ys y → KeyStandsIn g y z → Among all z
  pub no_other : (z : Closed) → Among all z →
      Among known z ⊎ ((y : Closed) × Among ys y × ((y ≡ z) ⊎ KeyStandsIn g y z))

-- To the known keys those are added that stand in this call, and no others.
pub record AddsStanding (g : EnabledGrammar) (y : Closed) (known all : List Closed) : Type 0 where
  pub stay : (z : Closed) → Among known z → Among all z
  pub stand : (z : Closed) → KeyStandsIn g y z → Among all z
  pub no_other : (z : Closed) → Among all z → Among known z ⊎ KeyStandsIn g y z
