use Rattle.std.proofs.Common.{◌≡◌, ◌≤◌, List, [], ◌∷◌, length, map, refl, arith}
use Rattle.std.proofs.lemmas.List.{length-map}
use Rattle.lalrpop_grammar_symbols.specs.Symbols.{Text, TextSpan}
use Rattle.lalrpop_grammar_symbols.specs.Views.{span_view}
use Rattle.lalrpop_grammar.specs.WrittenGrammar.{Attr}
use Rattle.lalrpop_grammar.specs.Views.{attribute_view, attrs}
use Rattle.lalrpop_norm_precedence.specs.LevelSearch.{place_of_only}
use Rattle.lalrpop_norm_precedence.proofs.level_faults.faults.only_place.Goals as goal

-- of two parts or more none tells the place
place_of_two : (key : Text) (parts : List Attr) (other : TextSpan) → 2 ≤ length parts
    → other ≡ place_of_only key (attrs parts) other
place_of_two key [] other h = absurd (omega arith)
place_of_two key (a ∷ []) other h = absurd (omega arith)
place_of_two key (a ∷ b ∷ more) other h = refl

pub returns-in-len2-up : goal.returns-in-len2-up
returns-in-len2-up c =
    place_of_two c.args.key.now (map attribute_view c.args.parts.now) (span_view c.args.other) (simp length-map c.in-len2-up.len_at_least)
