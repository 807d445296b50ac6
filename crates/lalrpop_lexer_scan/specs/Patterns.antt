-- The patterns of literals.
use Rattle.std.specs.Prelude.{Option, Some, None, is_some, Result, Ok, Err, if◌then◌else◌}
use Rattle.std.specs.Str.{chars}
use Rattle.lalrpop_grammar_symbols.specs.Symbols.{Terminal}
use Rattle.lalrpop_lexer_pattern.specs.Matches.{Pattern}
use Rattle.lalrpop_lexer_pattern.specs.Refused.{refusal}
use Rattle.lalrpop_lexer_regex.specs.Regex.{whole_pattern}

-- a pattern that was read and for which an automaton can be made
abbrev pub if_supported : {E : Type 0} → Result Pattern E → Option Pattern
if_supported (Ok p) = if is_some (refusal p) then None else Some p
if_supported (Err e) = None

-- the pattern of a literal; none where it is refused
abbrev pub pattern_of : Terminal → Option Pattern
pattern_of (Terminal.quoted t) = Some (Pattern.literal (chars t))
pattern_of (Terminal.regex t) = if_supported (whole_pattern (chars t))
pattern_of (Terminal.bare n) = None
pattern_of Terminal.error = None
