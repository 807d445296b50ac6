-- How often texts are taken, as definitions see it.
use Rattle.std.specs.Prelude.{ℕ}
use Rattle.lalrpop_grammar_symbols.specs.Symbols.{Text}
use Rattle.lalrpop_norm_precedence.specs.TakenTimes.{times_in}
use Rattle.lalrpop_norm_precedence.specs.declared.level_names.taken.TakenTexts.{TakenTexts}

abbrev pub taken_times : TakenTexts → Text → ℕ
taken_times taken = times_in taken.times
