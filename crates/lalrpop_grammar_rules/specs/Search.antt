-- Whether a pattern is found in a text, by the grammar of regular expressions and their own definition of a search.
use Rattle.std.specs.Prelude.{ℕ, Bool, true, false, nat_lt, List, Option, None, Some, option_map, is_some, chars}
use Rattle.regex.specs.Patterns.{Re, find_str, default_config}
use Rattle.regex_syntax.specs.Brackets.{Nested}
use Rattle.regex_syntax.specs.Grammar.{Names, read}
use Rattle.lalrpop_grammar_rules.specs.declared.closed.condition.Finding.{Finding}
use Rattle.lalrpop_grammar_rules.specs.declared.closed.condition.Finding.TheVariants as findings

-- what the grammar reads, under the default options
abbrev pub search_pattern : List ℕ → Option (Nested Re × Names)
search_pattern pattern = read default_config (chars pattern)

-- whether the pattern is found anywhere in the text; none where it is no pattern
abbrev pub finds : List ℕ → List ℕ → Option Bool
finds pattern text = option_map (λ p. is_some (find_str p.0.value text 0)) (search_pattern pattern)

abbrev pub deeper : Option (Nested Re × Names) → Bool
deeper None = false
deeper (Some p) = nat_lt default_config.nest_limit p.0.depth

-- the pattern is nested deeper than it is read
abbrev pub is_too_deep : List ℕ → Bool
is_too_deep pattern = deeper (search_pattern pattern)

abbrev pub finding_of : Bool → Finding
finding_of true = findings.Found
finding_of false = findings.Missing
