use Rattle.lalrpop_grammar.specs.Views.{grammar_view}
use Rattle.lalrpop_norm_prevalidate.proofs.StandingLemmas.{none-stands-on-ok}
use Rattle.lalrpop_norm_prevalidate.proofs.prevalidate.validate.Goals as goal

pub returns-clause-ok : goal.returns-clause-ok
returns-clause-ok c =
    none-stands-on-ok (grammar_view c.args.grammar.now) c.check_entries.result c.in_ok-check_blocks.ensures.ok
    c.in_ok-check_attributes.ensures.ok c.in_ok-check_inlines.ensures.ok c.in_ok-check_names.ensures.ok
    c.in_ok-check_labels.ensures.ok c.check_entries.ensures.ok
