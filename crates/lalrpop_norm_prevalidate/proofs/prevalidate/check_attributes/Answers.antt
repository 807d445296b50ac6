use Rattle.std.proofs.Common.{sym, ap, ◌∙◌}
use Rattle.std.specs.Prelude.{option_map}
use Rattle.lalrpop_grammar_symbols.specs.Views.{span_view}
use Rattle.lalrpop_grammar.specs.Views.{attribute_view, grammar_view}
use Rattle.lalrpop_norm_prevalidate.proofs.StandingLemmas.{unknown-stands, no-unknown-stands}
use Rattle.lalrpop_norm_prevalidate.proofs.prevalidate.check_attributes.Goals as goal

pub returns-in-None-clause-ok : goal.returns-in-None-clause-ok
returns-in-None-clause-ok c =
    no-unknown-stands (grammar_view c.args.grammar.now)
    (sym c.unknown_attribute.ensures ∙ ap (option_map (λ a. attribute_view a.now)) c.in-None.is)

pub returns-in_ok-name-in-Some-clause-err : goal.returns-in_ok-name-in-Some-clause-err
returns-in_ok-name-in-Some-clause-err c =
    unknown-stands (grammar_view c.args.grammar.now) (attribute_view c.in-Some.attribute.now) c.in_ok-name-in-Some.name
    (span_view c.place_of-span.result)
    (sym c.unknown_attribute.ensures ∙ ap (option_map (λ a. attribute_view a.now)) c.in-Some.is)
    c.in_ok-name-in-Some.ensures c.place_of-span.ensures
