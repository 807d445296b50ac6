-- What patterns are compiled to.
use Rattle.std.specs.Prelude.{◌≡◌, ◌<◌, ◌&&◌, All, Bool, true, false, Option, Some, is_some, not}
use Rattle.std.specs.Borrow.{Bor}
use Rattle.std.specs.HashMap.{HashMap, get_by}
use Rattle.std.specs.Option.{ForSome}
use Rattle.std.specs.Str.{bytes_eq}
use Rattle.std.specs.declared.hash.FoldHasher.{FoldHasher}
use Rattle.std.specs.declared.hash.BuildHasherDefault.{BuildHasherDefault}
use Rattle.std.specs.Coded.{×_prop, Π_prop, →_prop, Coded-set, coded_bool, coded_option}
use Rattle.regex.specs.Patterns.{find_str}
use Rattle.regex.specs.Strings.{regex_pattern}
use Rattle.lalrpop_grammar_symbols.specs.Symbols.{Text}
use Rattle.lalrpop_grammar_rules.specs.Search.{finds, is_too_deep, search_pattern}
use Rattle.lalrpop_judge.specs.declared.compiled.CompiledPattern.{CompiledPattern}
use Rattle.lalrpop_judge.specs.declared.compiled.CompiledPattern.TheVariants as compiled

-- the pattern is one, and not nested too deep
abbrev pub is_readable : Text → Bool
is_readable pattern = is_some (search_pattern pattern) && not (is_too_deep pattern)

-- it says of each text of bytes whether the pattern is found there, or rightly says of none
abbrev pub IsCompiledFrom : Text → CompiledPattern → Type 0
IsCompiledFrom pattern (compiled.Expression r) = (is_readable pattern ≡ true)
    × ((text : Text) → All (λ x. x < 256) text → finds pattern text ≡ Some (is_some (find_str (regex_pattern r) text 0)))
IsCompiledFrom pattern compiled.NotRead = is_readable pattern ≡ false
IsCompiledFrom pattern compiled.Refused = is_readable pattern ≡ true

abbrev pub CompiledTable : Type 0
CompiledTable = HashMap (Bor Text) CompiledPattern (BuildHasherDefault FoldHasher)

-- what the table has for the pattern
abbrev pub compiled_at : CompiledTable → Text → Option CompiledPattern
compiled_at m pattern = get_by (λ k. bytes_eq pattern k.now) m

-- what the table has for the pattern, if anything, is compiled from it
abbrev pub IsCompiledAt : CompiledTable → Text → Type 0
IsCompiledAt m pattern = ForSome (compiled_at m pattern) (IsCompiledFrom pattern)

IsCompiledFrom-prop : (pattern : Text) (c : CompiledPattern) → IsProp (IsCompiledFrom pattern c)
IsCompiledFrom-prop pattern (compiled.Expression r) =
    ×_prop (Coded-set coded_bool _ _) (Π_prop (λ text. →_prop (Coded-set (coded_option coded_bool) _ _)))
IsCompiledFrom-prop pattern compiled.NotRead = Coded-set coded_bool _ _
IsCompiledFrom-prop pattern compiled.Refused = Coded-set coded_bool _ _

-- what the table has for each pattern is right
abbrev pub IsCompiledTable : CompiledTable → Type 0
IsCompiledTable m = (pattern : Text) → IsCompiledAt m pattern

pub IsCompiledTable-prop : (m : CompiledTable) → IsProp (IsCompiledTable m)
IsCompiledTable-prop m = Π_prop (λ pattern. Π_prop (λ c. →_prop (IsCompiledFrom-prop pattern c)))
