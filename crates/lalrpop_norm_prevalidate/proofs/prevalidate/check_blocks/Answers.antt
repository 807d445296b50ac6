use Rattle.std.proofs.Common.{sym, ap, ◌∙◌}
use Rattle.std.specs.Prelude.{option_map}
use Rattle.lalrpop_grammar_symbols.specs.Views.{span_view}
use Rattle.lalrpop_grammar.specs.Views.{grammar_view}
use Rattle.lalrpop_norm_prevalidate.specs.Blocks.{later_blocks}
use Rattle.lalrpop_norm_prevalidate.proofs.FaultLemmas.{first-Among, none-Among}
use Rattle.lalrpop_norm_prevalidate.proofs.prevalidate.check_blocks.Goals as goal

pub returns-in-None-clause-ok : goal.returns-in-None-clause-ok
returns-in-None-clause-ok c = λ p.
    none-Among (later_blocks (grammar_view c.args.grammar.now).items) p
    (sym c.second_block.ensures ∙ ap (option_map span_view) c.in-None.is)

pub returns-in-Some-clause-err : goal.returns-in-Some-clause-err
returns-in-Some-clause-err c =
    first-Among (later_blocks (grammar_view c.args.grammar.now).items) (span_view c.in-Some.span)
    (sym c.second_block.ensures ∙ ap (option_map span_view) c.in-Some.is)
