-- Which names levels are given, rule by rule, where texts are taken so and so often; for the pass that names levels.
use Rattle.std.specs.Prelude.{ℕ, suc, List, [], ◌∷◌, if◌then◌else◌}
use Rattle.std.specs.Str.{bytes_eq}
use Rattle.lalrpop_grammar_symbols.specs.Symbols.{Text}
use Rattle.lalrpop_grammar.specs.WrittenGrammar.{Rule}
use Rattle.lalrpop_grammar_language.specs.Enabled.{has_text}
use Rattle.lalrpop_grammar_language.specs.Starts.{has_none}
use Rattle.lalrpop_norm_theory.specs.Between.{rule_between}
use Rattle.lalrpop_norm_theory.specs.Keys.{with_number}
use Rattle.lalrpop_norm_theory.specs.LeveledGrammar.{levels_in_order}
use Rattle.lalrpop_norm_theory.specs.LevelNames.{numbered_text, tighter_levels}

-- how often each text is taken
abbrev pub Times : Type 0
Times = Text → ℕ

abbrev pub once_more : Text → Times → Times
once_more text times = λ t. if bytes_eq t text then suc (times t) else times t

-- a text that is a parameter of the rule counts once more
abbrev pub beside_parameters : List Text → Text → Times → Times
beside_parameters parameters text times = if has_text text parameters then once_more text times else times

-- a level's text, with a number where it is taken
abbrev pub given_name : Rule → Times → ℕ → Text
given_name r times j =
    with_number (numbered_text r.name j) (beside_parameters r.parameters (numbered_text r.name j) times (numbered_text r.name j))

-- what is taken then
abbrev pub taken_behind : Rule → Times → ℕ → Times
taken_behind r times j = once_more (numbered_text r.name j) (beside_parameters r.parameters (numbered_text r.name j) times)

-- levels of a rule one after the other
abbrev pub given_names : Rule → Times → List ℕ → List (ℕ × Text)
given_names r times [] = []
given_names r times (j ∷ js) = (j, given_name r times j) ∷ given_names r (taken_behind r times j) js

abbrev pub taken_behind_all : Rule → Times → List ℕ → Times
taken_behind_all r times [] = times
taken_behind_all r times (j ∷ js) = taken_behind_all r (taken_behind r times j) js

-- the loosest level keeps the rule's name
abbrev pub given_table_of : Rule → Times → List ℕ → List (ℕ × Text)
given_table_of r times [] = []
given_table_of r times (j ∷ js) = (j, r.name) ∷ given_names r times js

abbrev pub given_table : Rule → Times → List (ℕ × Text)
given_table r times = given_table_of r times (levels_in_order (rule_between r))

abbrev pub taken_behind_rule : Rule → Times → Times
taken_behind_rule r times = taken_behind_all r times (tighter_levels r)

-- Rules one after the other, where macros have texts taken of their own.
abbrev pub given_tables : List Rule → Times → Times → List (List (ℕ × Text))
given_tables [] plain macros = []
given_tables (r ∷ rs) plain macros =
    if has_none r.parameters then given_table r plain ∷ given_tables rs (taken_behind_rule r plain) macros
    else given_table r macros ∷ given_tables rs plain (taken_behind_rule r macros)

abbrev pub taken_behind_plain : List Rule → Times → Times
taken_behind_plain [] plain = plain
taken_behind_plain (r ∷ rs) plain =
    if has_none r.parameters then taken_behind_plain rs (taken_behind_rule r plain) else taken_behind_plain rs plain

abbrev pub taken_behind_macros : List Rule → Times → Times
taken_behind_macros [] macros = macros
taken_behind_macros (r ∷ rs) macros =
    if has_none r.parameters then taken_behind_macros rs macros else taken_behind_macros rs (taken_behind_rule r macros)
