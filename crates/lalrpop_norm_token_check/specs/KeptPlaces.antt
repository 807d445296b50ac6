-- The first places of literals that are kept of a written grammar.
use Rattle.std.specs.Prelude.{map}
use Rattle.lalrpop_lexer_scan.specs.Literals.{first_span}
use Rattle.lalrpop_lexer_scan.specs.Noting.{use_view}
use Rattle.lalrpop_norm_token_check.specs.declared.places.LiteralPlaces.{LiteralPlaces}
use Rattle.lalrpop_norm_token_check.specs.Places.{FirstPlaces}

abbrev pub first_places : LiteralPlaces → FirstPlaces
first_places places l = first_span (map use_view places.uses.items) l
