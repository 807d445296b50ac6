-- The line that `clap` is shown, in which those values of `--text` and `--tree` are hidden that begin
-- with `-`, and the hidden values.
use Rattle.std.specs.Prelude.{◌==◌, ◌||◌, Bool, List, [], ◌∷◌, Option, None, Some, codes, flat_map}
use Rattle.std.specs.Prelude.{if◌then◌else◌, map, option_and_then, slice_index}
use Rattle.std.specs.Str.{bytes_eq}
use Rattle.clap.specs.Walk.{Text}

-- a part of a line: an option with the word behind it, which is its value, or a word by itself
pub data LinePart : Type 0 where
  valued : Text → Text → LinePart
  single : Text → LinePart

-- the options whose values may begin with `-`
abbrev pub takes_dashes : Text → Bool
takes_dashes word = bytes_eq word (codes "--text") || bytes_eq word (codes "--tree")

-- behind this word none is an option
abbrev pub ends_options : Text → Bool
ends_options word = bytes_eq word (codes "--")

-- the words behind the program's name, cut into parts from the left
abbrev pub parts : List Text → List LinePart
parts [] = []
parts (word ∷ []) = LinePart.single word ∷ []
parts (word ∷ behind ∷ rest) =
    if ends_options word then map LinePart.single (word ∷ behind ∷ rest)
    else if takes_dashes word then LinePart.valued word behind ∷ parts rest
    else LinePart.single word ∷ parts (behind ∷ rest)

-- a line, whose first word is the program's name, cut into parts
abbrev pub parts_of_line : List Text → List LinePart
parts_of_line [] = []
parts_of_line (name ∷ words) = LinePart.single name ∷ parts words

-- the value is hidden, since `clap` would look at it as an option
abbrev pub begins_with_dash : Text → Bool
begins_with_dash value = slice_index value 0 == 45

-- a value as `clap` is shown it: empty where it is hidden
abbrev pub shown_value : Text → Text
shown_value value = if begins_with_dash value then [] else value

-- the words of a part as `clap` is shown them
abbrev pub shown_words : LinePart → List Text
shown_words (LinePart.valued option value) = option ∷ shown_value value ∷ []
shown_words (LinePart.single word) = word ∷ []

-- the line that `clap` is shown
abbrev pub hide_values : List Text → List Text
hide_values line = flat_map shown_words (parts_of_line line)

-- the value of the first such option among the parts
abbrev pub value_among : Text → List LinePart → Option Text
value_among option [] = None
value_among option (LinePart.valued other value ∷ rest) =
    if bytes_eq other option then Some value else value_among option rest
value_among option (LinePart.single word ∷ rest) = value_among option rest

abbrev pub if_hidden : Text → Option Text
if_hidden value = if begins_with_dash value then Some value else None

-- the value of the option on the line, where it is hidden
abbrev pub hidden_value : Text → List Text → Option Text
hidden_value option line = option_and_then if_hidden (value_among option (parts_of_line line))
