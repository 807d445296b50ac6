use Rattle.std.proofs.Common.{sym, ap, ◌∙◌}
use Rattle.std.specs.Prelude.{option_map}
use Rattle.lalrpop_grammar_symbols.specs.Views.{span_view}
use Rattle.lalrpop_grammar.specs.Views.{grammar_view}
use Rattle.lalrpop_norm_prevalidate.specs.Blocks.{public_inlines}
use Rattle.lalrpop_norm_prevalidate.proofs.FaultLemmas.{first-Among, none-Among}
use Rattle.lalrpop_norm_prevalidate.proofs.prevalidate.check_inlines.Goals as goal

pub returns-in-None-clause-ok : goal.returns-in-None-clause-ok
returns-in-None-clause-ok c = λ p.
    none-Among (public_inlines (grammar_view c.args.grammar.now).items) p
    (sym c.public_inline.ensures ∙ ap (option_map span_view) c.in-None.is)

pub returns-in-Some-clause-err : goal.returns-in-Some-clause-err
returns-in-Some-clause-err c =
    first-Among (public_inlines (grammar_view c.args.grammar.now).items) (span_view c.in-Some.span)
    (sym c.public_inline.ensures ∙ ap (option_map span_view) c.in-Some.is)
