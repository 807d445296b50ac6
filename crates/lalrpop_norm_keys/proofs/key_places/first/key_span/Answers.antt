use Rattle.std.proofs.Common.{refl, subst}
use Rattle.lalrpop_grammar_symbols.specs.Views.{span_view}
use Rattle.std.specs.Prelude.{option_map}
use Rattle.lalrpop_grammar_rules.specs.Views.{closed_view}
use Rattle.lalrpop_norm_keys.specs.FirstPlaces.{IsFirstPlace, met, nowhere}
use Rattle.lalrpop_norm_keys.proofs.key_places.first.key_span.Goals as goal

pub returns-in-Some : goal.returns-in-Some
returns-in-Some c = λ ms told.
    met (subst (λ found. IsFirstPlace ms (closed_view c.args.key.now) (option_map span_view found)) c.in-Some.is
    (c.in_ok-span.ensures ms told))

pub returns-in-None : goal.returns-in-None
returns-in-None c = λ ms told.
    nowhere (subst (λ found. IsFirstPlace ms (closed_view c.args.key.now) (option_map span_view found)) c.in-None.is
    (c.in_ok-span.ensures ms told)) refl
