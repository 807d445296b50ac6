-- What is left of a line behind each of its words, for the loops of `hide_values` and `hidden_value`.
use Rattle.std.proofs.Common.{◌≡◌, ◌∙◌, ◌+◌, ◌<◌, ◌≤◌, ◌++◌, ap, ap₂, refl, sym, ℕ, Bool, true, false}
use Rattle.std.proofs.Common.{List, [], ◌∷◌, Option, Some, None}
use Rattle.std.proofs.Common.{append_assoc, drop, get_or, length}
use Rattle.std.specs.Prelude.{flat_map, map, option_and_then, option_map, if◌then◌else◌}
use Rattle.std.specs.Bool.{then_some}
use Rattle.std.specs.Borrow.{Bor}
use Rattle.std.proofs.lemmas.List.{append-nil, at_drop_all, at_drop_more, map-append}
use Rattle.std.specs.Str.{bytes_eq}
use Rattle.clap.specs.Walk.{Text, texts}
use Rattle.lalrpop_run_options.specs.Hidden.{begins_with_dash, ends_options, hide_values, hidden_value, if_hidden, parts, parts_of_line}
use Rattle.lalrpop_run_options.specs.Hidden.{shown_words, LinePart}
use Rattle.lalrpop_run_options.specs.Hidden.{shown_value, takes_dashes, value_among}
use Rattle.lalrpop_run_options.specs.Place.{is_value_of, place_after, shown_at}
use Rattle.lalrpop_run_options.specs.declared.hidden.Place.{Place}
use Rattle.lalrpop_run_options.specs.declared.hidden.Place.TheVariants.{Any, Name, Tail, Value}

-- the words that `clap` is shown of these, of which the first is at this place
abbrev pub shown_from : Place → List Text → List Text
shown_from Name line = hide_values line
shown_from Any words = flat_map shown_words (parts words)
shown_from (Value option) [] = []
shown_from (Value option) (value ∷ words) = shown_value value ∷ flat_map shown_words (parts words)
shown_from Tail words = words

-- the value of an option among these words, of which the first is at this place
abbrev pub value_from : Text → Place → List Text → Option Text
value_from option Name line = value_among option (parts_of_line line)
value_from option Any words = value_among option (parts words)
value_from option (Value name) [] = None
value_from option (Value name) (value ∷ words) = if bytes_eq name.now option then Some value else value_among option (parts words)
value_from option Tail words = None

shown_singles : (words : List Text) → flat_map shown_words (map LinePart.single words) ≡ words
shown_singles [] = refl
shown_singles (w ∷ ws) = ap (λ rest. w ∷ rest) (shown_singles ws)

value_among_singles : (option : Text) (words : List Text) → value_among option (map LinePart.single words) ≡ None
value_among_singles option [] = refl
value_among_singles option (w ∷ ws) = value_among_singles option ws

-- a word at a place, and then those behind it
pub shown_from-cons : (place : Place) (word : Bor Text) (words : List Text)
    → shown_from place (word.now ∷ words) ≡ shown_at place word.now ∷ shown_from (place_after place word) words
shown_from-cons Name w ws = refl
shown_from-cons Any w [] = go (ends_options w.now) (takes_dashes w.now)
  where
    go : (ends takes : Bool) → w.now ∷ [] ≡ w.now ∷ shown_from (if ends then Tail else if takes then Value w else Any) []
    go true takes = refl
    go false true = refl
    go false false = refl
shown_from-cons Any w (v ∷ ws) = go (ends_options w.now) (takes_dashes w.now)
  where
    go : (ends takes : Bool)
        → flat_map shown_words (if ends then map LinePart.single (w.now ∷ v ∷ ws)
        else if takes then LinePart.valued w.now v ∷ parts ws else LinePart.single w.now ∷ parts (v ∷ ws))
        ≡ w.now ∷ shown_from (if ends then Tail else if takes then Value w else Any) (v ∷ ws)
    go true takes = shown_singles (w.now ∷ v ∷ ws)
    go false true = refl
    go false false = refl
shown_from-cons (Value option) w ws = refl
shown_from-cons Tail w ws = refl

no_value : (option : Text) (place : Place) → value_from option place [] ≡ None
no_value option Name = refl
no_value option Any = refl
no_value option (Value name) = refl
no_value option Tail = refl

-- the value of an option, from a word at a place and those behind it
pub value_from-cons : (option : Text) (place : Place) (word : Bor Text) (words : List Text)
    → value_from option place (word.now ∷ words)
    ≡ (if is_value_of place option then Some word.now else value_from option (place_after place word) words)
value_from-cons option Name w ws = refl
value_from-cons option Any w [] = sym (no_value option (place_after Any w))
value_from-cons option Any w (v ∷ ws) = go (ends_options w.now) (takes_dashes w.now)
  where
    go : (ends takes : Bool)
        → value_among option (if ends then map LinePart.single (w.now ∷ v ∷ ws)
        else if takes then LinePart.valued w.now v ∷ parts ws else LinePart.single w.now ∷ parts (v ∷ ws))
        ≡ value_from option (if ends then Tail else if takes then Value w else Any) (v ∷ ws)
    go true takes = value_among_singles option ws
    go false true = refl
    go false false = refl
value_from-cons option (Value name) w ws = refl
value_from-cons option Tail w ws = refl

-- one more word is shown
pub shown-step : (line done more : List (Bor Text)) (place after : Place) (i : ℕ) (d pushed : Bor Text) → i < length line
    → more ≡ done ++ (pushed ∷ []) → pushed.now ≡ shown_at place (get_or line i d).now
    → after ≡ place_after place (get_or line i d)
    → texts more ++ shown_from after (texts (drop (i + 1) line)) ≡ texts done ++ shown_from place (texts (drop i line))
shown-step line done more place after i d pushed lt more_is pushed_is after_is =
    let rest = texts (drop (i + 1) line) in
    let next : shown_from place (texts (drop i line)) ≡ pushed.now ∷ shown_from after rest =
    ap (shown_from place) (at_drop_more texts line i d lt)
    ∙ (shown_from-cons place (get_or line i d) rest
    ∙ ap₂ (λ w p. w ∷ shown_from p rest) (sym pushed_is) (sym after_is)) in
    ap (λ m. texts m ++ shown_from after rest) more_is
    ∙ (ap (λ t. t ++ shown_from after rest) (map-append (λ s. s.now) done (pushed ∷ []))
    ∙ (append_assoc (texts done) (pushed.now ∷ []) (shown_from after rest) ∙ ap (λ t. texts done ++ t) (sym next)))

-- behind the last word none is left to show
pub shown-end : (line done : List (Bor Text)) (place : Place) (i : ℕ) → length line ≤ i
    → texts done ++ shown_from place (texts (drop i line)) ≡ texts done
shown-end line done place i end =
    ap (λ t. texts done ++ t) (at_drop_all (λ rest. shown_from place (texts rest)) line i end ∙ none place) ∙ append-nil (texts done)
  where
    none : (p : Place) → shown_from p [] ≡ []
    none Name = refl
    none Any = refl
    none (Value option) = refl
    none Tail = refl

value-at : (line : List (Bor Text)) (option : Text) (place : Place) (i : ℕ) (d : Bor Text) → i < length line
    → value_from option place (texts (drop i line))
    ≡ (if is_value_of place option then Some (get_or line i d).now
    else value_from option (place_after place (get_or line i d)) (texts (drop (i + 1) line)))
value-at line option place i d lt =
    ap (value_from option place) (at_drop_more texts line i d lt)
    ∙ value_from-cons option place (get_or line i d) (texts (drop (i + 1) line))

-- behind a word that isn't the option's value, the value is as before it
pub value-step : (line : List (Bor Text)) (option : Text) (place after : Place) (i : ℕ) (d : Bor Text) → i < length line
    → is_value_of place option ≡ false → after ≡ place_after place (get_or line i d)
    → value_from option after (texts (drop (i + 1) line)) ≡ value_from option place (texts (drop i line))
value-step line option place after i d lt other after_is =
    let rest = texts (drop (i + 1) line) in
    ap (λ p. value_from option p rest) after_is
    ∙ sym (value-at line option place i d lt
    ∙ ap (λ (b : Bool). if b then Some (get_or line i d).now else value_from option (place_after place (get_or line i d)) rest) other)

-- behind the last word no value is left
pub value-end : (line : List (Bor Text)) (option : Text) (place : Place) (i : ℕ) → length line ≤ i
    → value_from option place (texts (drop i line)) ≡ None
value-end line option place i end = at_drop_all (λ rest. value_from option place (texts rest)) line i end ∙ no_value option place

then_some-now : (b : Bool) (word : Bor Text)
    → option_map (λ s. s.now) (then_some b word) ≡ (if b then Some word.now else None)
then_some-now true word = refl
then_some-now false word = refl

-- the first word that is the option's value is hidden where it begins with `-`
pub value-found : (line : List (Bor Text)) (option : Text) (place : Place) (i : ℕ) (d : Bor Text) (b : Bool) (found : Option (Bor Text))
    → i < length line → is_value_of place option ≡ true
    → value_from option place (texts (drop i line)) ≡ value_among option (parts_of_line (texts line))
    → b ≡ begins_with_dash (get_or line i d).now → found ≡ then_some b (get_or line i d)
    → option_map (λ s. s.now) found ≡ hidden_value option (texts line)
value-found line option place i d b found lt is left dash found_is =
    let word = get_or line i d in
    let rest = value_from option (place_after place word) (texts (drop (i + 1) line)) in
    let here : value_among option (parts_of_line (texts line)) ≡ Some word.now =
    sym left ∙ (value-at line option place i d lt ∙ ap (λ (t : Bool). if t then Some word.now else rest) is) in
    ap (option_map (λ s. s.now)) found_is
    ∙ (then_some-now b word
    ∙ (ap (λ (t : Bool). if t then Some word.now else None) dash ∙ sym (ap (option_and_then if_hidden) here)))
