use Rattle.std.proofs.Common.{ap, subst}
use Rattle.std.specs.Prelude.{option_map}
use Rattle.lalrpop_grammar_symbols.specs.Views.{span_view}
use Rattle.lalrpop_grammar.specs.Views.{grammar_view}
use Rattle.lalrpop_norm_prevalidate.specs.Entries.{entries_in_items, IsFirstAgain}
use Rattle.lalrpop_norm_prevalidate.proofs.prevalidate.check_entries.Goals as goal

pub returns-in-None-clause-ok : goal.returns-in-None-clause-ok
returns-in-None-clause-ok c =
    subst (IsFirstAgain (entries_in_items (grammar_view c.args.grammar.now).items)) (ap (option_map span_view) c.in-None.is)
    c.in_ok-found.ensures

pub returns-in-Some-clause-err : goal.returns-in-Some-clause-err
returns-in-Some-clause-err c =
    (subst (IsFirstAgain (entries_in_items (grammar_view c.args.grammar.now).items)) (ap (option_map span_view) c.in-Some.is)
    c.in_ok-found.ensures).0
