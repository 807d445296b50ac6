-- As what a word of a line is looked at, for the functions that go over it from the left.
use Rattle.std.specs.Prelude.{Bool, false, if◌then◌else◌}
use Rattle.std.specs.Borrow.{Bor}
use Rattle.std.specs.Str.{bytes_eq}
use Rattle.clap.specs.Walk.{Text}
use Rattle.lalrpop_run_options.specs.Hidden.{ends_options, shown_value, takes_dashes}
use Rattle.lalrpop_run_options.specs.declared.hidden.Place.{Place}
use Rattle.lalrpop_run_options.specs.declared.hidden.Place.TheVariants.{Any, Name, Tail, Value}

-- the place behind a word
abbrev pub place_after : Place → Bor Text → Place
place_after Name word = Any
place_after Any word = if ends_options word.now then Tail
    else if takes_dashes word.now then Value word else Any
place_after (Value option) word = Any
place_after Tail word = Tail

-- a word that stands there is the value of the option
abbrev pub is_value_of : Place → Text → Bool
is_value_of (Value name) option = bytes_eq name.now option
is_value_of _ option = false

-- a word that stands there, as `clap` is shown it
abbrev pub shown_at : Place → Text → Text
shown_at (Value option) word = shown_value word
shown_at _ word = word
