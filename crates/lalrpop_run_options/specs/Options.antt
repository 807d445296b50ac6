-- What the words ask for.
use Rattle.std.specs.Prelude.{◌≡◌, ◌==◌, ℕ, not, List, [], Option, Some, None, codes, filter}
use Rattle.std.specs.Prelude.{length, map, option_map, pos, unwrap_or}
use Rattle.std.specs.List.{slice_split}
use Rattle.std.specs.Option.{option_or}
use Rattle.std.specs.Str.Parse.{IsNumeral, signed_digits_value, without_leading_sign}
use Rattle.std.specs.String.{string_bytes}
use Rattle.clap.specs.Walk.{Row, Text, first_of}
use Rattle.lalrpop_grammar_repr.specs.declared.methods.Method.{Method}
use Rattle.lalrpop_grammar_repr.specs.declared.methods.Method.TheVariants as methods
use Rattle.lalrpop_run_options.specs.Hidden.{hidden_value}
use Rattle.lalrpop_run_options.specs.Method.{canonical_word, lane_word}
use Rattle.lalrpop_run_options.specs.Task.{word_of}
use Rattle.lalrpop_run_options.specs.declared.settings.Options.{Options}

-- the names in a list: its parts between commas, but for empty ones
abbrev pub features_in : Text → List Text
features_in text = filter (λ part. not (length part == 0)) (slice_split (λ b. b == 44) text)

-- where the words say nothing: how deep macros may be called, how many moves may be made, how many states lanes may copy
abbrev pub usual_macro_limit : ℕ
usual_macro_limit = 200

abbrev pub usual_limit : ℕ
usual_limit = 1000000

abbrev pub usual_copies : ℕ
usual_copies = 10000

-- n is the number that the text writes, and the usual one where none was given
abbrev pub IsNumberOr : ℕ → Option Text → ℕ → Type 0
IsNumberOr usual None n = n ≡ usual
IsNumberOr usual (Some text) n =
    IsNumeral 10 (without_leading_sign text) × (signed_digits_value 10 text ≡ pos n)

-- The method that the words say: by lane tables where no word says another, with the copies that a number writes. By the canonical
-- way a number of copies says nothing.
abbrev pub IsMethodOf : Option Text → Option Text → Method → Type 0
IsMethodOf word copies (methods.Lane n) = (unwrap_or word lane_word ≡ lane_word) × IsNumberOr usual_copies copies n
IsMethodOf word copies methods.Canonical = word ≡ Some canonical_word

-- the text to read: the word that was hidden, and else what `clap` found
abbrev pub text_of : List Text → List Row → Option Text
text_of line rows = option_or (hidden_value (codes "--text") line) (first_of (codes "text") rows)

-- the tree to judge, in the same way
abbrev pub tree_of : List Text → List Row → Option Text
tree_of line rows = option_or (hidden_value (codes "--tree") line) (first_of (codes "tree") rows)

-- the options are those that a parse found, with the values that were hidden from it on the line:
-- what was given, and else the usual value
pub record AreOptionsOf (line : List Text) (rows : List Row) (options : Options) : Type 0 where
  pub task : first_of (codes "command") rows ≡ Some (word_of options.task)
  pub start : first_of (codes "start") rows ≡ Some (string_bytes options.start)
  pub text : string_bytes options.text ≡ unwrap_or (text_of line rows) []
  pub tree : option_map string_bytes options.tree ≡ tree_of line rows
  pub features : map string_bytes options.features.items
      ≡ features_in (unwrap_or (first_of (codes "features") rows) [])
  pub macro_limit : IsNumberOr usual_macro_limit (first_of (codes "macro-limit") rows)
      options.macro_limit
  pub method : IsMethodOf (first_of (codes "method") rows) (first_of (codes "copies") rows) options.method
  pub limit : IsNumberOr usual_limit (first_of (codes "limit") rows) options.limit
