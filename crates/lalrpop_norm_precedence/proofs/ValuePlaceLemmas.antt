-- Where an attribute says a text, part by part; for the places of levels and sides.
use Rattle.std.proofs.Common.{◌≡◌, refl}
use Rattle.lalrpop_grammar_symbols.specs.Symbols.{Text, TextSpan}
use Rattle.lalrpop_grammar.specs.WrittenGrammar.{Attr, Attrs}
use Rattle.lalrpop_norm_theory.specs.LevelFaults.{value_place}
use Rattle.lalrpop_norm_precedence.specs.LevelSearch.{place_of_only}

-- of parts in parentheses the one that says the text tells the place
pub place_in_parts : (key : Text) (place : TextSpan) (id : Text) (parts : Attrs)
    → value_place key (Attr.paren place id parts) ≡ place_of_only key parts place
place_in_parts key place id Attrs.none = refl
place_in_parts key place id (Attrs.more (Attr.equal part other text) Attrs.none) = refl
place_in_parts key place id (Attrs.more (Attr.empty part other) Attrs.none) = refl
place_in_parts key place id (Attrs.more (Attr.paren part other inner) Attrs.none) = refl
place_in_parts key place id (Attrs.more (Attr.equal part other text) (Attrs.more b rest)) = refl
place_in_parts key place id (Attrs.more (Attr.empty part other) (Attrs.more b rest)) = refl
place_in_parts key place id (Attrs.more (Attr.paren part other inner) (Attrs.more b rest)) = refl
