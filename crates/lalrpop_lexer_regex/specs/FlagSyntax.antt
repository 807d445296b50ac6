-- The flags of a group: `i` and `s`, on, or off after a dash.
use Rattle.std.specs.Prelude.{ℕ, Bool, true, false, ◌&&◌, ◌||◌, ◌==◌, List, [], ◌∷◌, length, Ok, Err}
use Rattle.std.specs.Prelude.{if◌then◌else◌}
use Rattle.std.specs.Char.{is_ascii_alphabetic}
use Rattle.lalrpop_lexer_regex.specs.Outcome.{Reading, syntax_fault}
use Rattle.lalrpop_lexer_regex.specs.declared.flags.Flags.{Flags}
use Rattle.lalrpop_lexer_regex.specs.declared.classes.fault.PatternFaultKind.TheVariants.{Unsupported}

-- letters switch a flag on or off; there is at least one; a colon or a closing bracket ends them
abbrev pub flags_from : Bool → Bool → Flags → List ℕ → Reading (Flags × Bool)
flags_from on any f [] = syntax_fault []
flags_from on any f (c ∷ t) =
    if c == 105 then flags_from on true (record f { insensitive = on }) t
    else (if c == 115 then flags_from on true (record f { dot_all = on }) t
    else (if (c == 45) && on then flags_from false any f t
    else (if any && ((c == 58) || (c == 41)) then Ok ((f, c == 58), t)
    else (if is_ascii_alphabetic c then Err (Unsupported, length (c ∷ t)) else syntax_fault (c ∷ t)))))
