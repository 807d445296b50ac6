use Rattle.std.proofs.Common.{map}
use Rattle.lalrpop_grammar.specs.Views.{grammar_view, intern_entry_view}
use Rattle.lalrpop_norm_token_check.proofs.FaultLemmas.{decides_entries}
use Rattle.lalrpop_norm_token_check.proofs.token_check.validate_with_dfa.Goals as goal

pub returns-clause-decides : goal.returns-clause-decides
returns-clause-decides c =
    decides_entries (grammar_view c.args.grammar) (map intern_entry_view c.in_ok-entries.entries) c.in_ok-dfa.dfa
    c.in_ok-entries.ensures.ok c.in_ok-dfa.ensures.decides
