use Rattle.std.proofs.Common.{◌≡◌, map, length}
use Rattle.lalrpop_grammar_symbols.specs.Views.{literal_view}
use Rattle.lalrpop_lexer_scan.specs.Literals.{first_span}
use Rattle.lalrpop_lexer_scan.specs.Noting.{use_view}
use Rattle.lalrpop_norm_token_check.proofs.places.place_among.Given as goal

abbrev pub invariant-loop-one : goal.invariant-loop-one
invariant-loop-one l =
    first_span (map use_view l.rest) (literal_view l.literal) ≡ first_span (map use_view l.uses) (literal_view l.literal)

abbrev pub decreases-loop-one : goal.decreases-loop-one
decreases-loop-one l = length l.rest
