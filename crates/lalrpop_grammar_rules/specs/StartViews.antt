-- Whether a name can be a start, as the program says it.
use Rattle.std.specs.Prelude.{Bool, true, false, ◌&&◌, List}
use Rattle.lalrpop_grammar_symbols.specs.Symbols.{Text}
use Rattle.lalrpop_grammar.specs.WrittenGrammar.{Rule}
use Rattle.lalrpop_grammar_language.specs.Enabled.{enabled_rule, is_active}
use Rattle.lalrpop_grammar_language.specs.Starts.{can_start}
use Rattle.lalrpop_grammar_rules.specs.declared.start.Start.{Start}
use Rattle.lalrpop_grammar_rules.specs.declared.start.Start.TheVariants as starts

abbrev pub is_known : Start → Bool
is_known starts.Unknown = false
is_known starts.Private = true
is_known starts.Public = true

abbrev pub is_public_start : Start → Bool
is_public_start starts.Unknown = false
is_public_start starts.Private = false
is_public_start starts.Public = true

-- a written rule is enabled and can be a start
abbrev pub active_start : List Text → Text → Bool → Rule → Bool
active_start features name public r = is_active features r.attributes && can_start name public (enabled_rule features r)
