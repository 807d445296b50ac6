-- Ranks as the program holds them, and what attributes say of them.
use Rattle.std.specs.Prelude.{ℕ, ◌+◌, ◌-◌, ◌*◌, ◌^◌, ◌≡◌, ◌&&◌, nat_le, nat_lt, List, Option, Some}
use Rattle.std.specs.Prelude.{None, option_map}
use Rattle.std.specs.Prelude.{option_and_then, Result, Ok, Err}
use Rattle.std.specs.Str.{bytes_eq}
use Rattle.std.specs.Prelude.{if◌then◌else◌, codes}
use Rattle.lalrpop_grammar_symbols.specs.Symbols.{Text}
use Rattle.lalrpop_grammar.specs.WrittenGrammar.{Attr, Attrs}
use Rattle.lalrpop_grammar_language.specs.Levels as pure
use Rattle.lalrpop_grammar_rules.specs.declared.levels.Assoc as program
use Rattle.lalrpop_grammar_rules.specs.declared.levels.Assoc.TheVariants as sides
use Rattle.lalrpop_grammar_rules.specs.declared.levels.Rank.{Rank}

abbrev pub assoc_view : program.Assoc → pure.Assoc
assoc_view sides.Left = pure.Assoc.left
assoc_view sides.Right = pure.Assoc.right
assoc_view sides.NonAssoc = pure.Assoc.non_assoc
assoc_view sides.FullyAssoc = pure.Assoc.fully_assoc

abbrev pub rank_view : Rank → pure.Rank
rank_view r = record { level = r.level; side = assoc_view r.side }

-- the side that a text names, if it is one of the four
abbrev pub side_named : Text → Option pure.Assoc
side_named t =
    if bytes_eq t (codes "left") then Some pure.Assoc.left
    else (if bytes_eq t (codes "right") then Some pure.Assoc.right
    else (if bytes_eq t (codes "none") then Some pure.Assoc.non_assoc
    else (if bytes_eq t (codes "all") then Some pure.Assoc.fully_assoc else None)))

-- what reading a side answers
abbrev pub IsSide : {E : Type 0} → Text → Result program.Assoc E → Type 0
IsSide t (Ok side) = side_named t ≡ Some (assoc_view side)
IsSide t (Err fault) = side_named t ≡ None

-- the side that an attribute of the form id(side = "text") says, if it says one of the four
abbrev pub side_in : Attr → Option pure.Assoc
side_in a = option_and_then side_named (pure.value_of (codes "side") a)

-- what attributes say of an alternative's level and of its side
abbrev pub said_level : List Attr → Option (Option ℕ)
said_level attributes = option_map pure.level_in (pure.first_attr (codes "precedence") attributes)

abbrev pub said_assoc : List Attr → Option pure.Assoc
said_assoc attributes = option_map pure.assoc_in (pure.first_attr (codes "assoc") attributes)

-- the text in an attribute of the form key = "text"
abbrev pub text_in : Text → Attr → Option Text
text_in key (Attr.equal place other text) = if bytes_eq key other then Some text else None
text_in key (Attr.empty place id) = None
text_in key (Attr.paren place id parts) = None

-- the same in the one attribute that there is
abbrev pub only_text : Text → Attrs → Option Text
only_text key Attrs.none = None
only_text key (Attrs.more a Attrs.none) = text_in key a
only_text key (Attrs.more a (Attrs.more b rest)) = None

-- the number with one digit more, where it is a digit and the number stays below 2^32
abbrev pub next_level : ℕ → ℕ → Option ℕ
next_level n d =
    if nat_le 48 d && nat_le d 57 then (if nat_lt (n * 10 + (d - 48)) (2 ^ 32) then Some (n * 10 + (d - 48)) else None) else None
