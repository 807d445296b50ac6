use Rattle.std.proofs.Common.{map}
use Rattle.lalrpop_grammar.specs.Views.{grammar_view, intern_entry_view}
use Rattle.lalrpop_norm_token_check.specs.KeptPlaces.{first_places}
use Rattle.lalrpop_norm_token_check.proofs.FaultLemmas.{checked_entries}
use Rattle.lalrpop_norm_token_check.proofs.token_check.checked_dfa.Goals as goal

pub returns-in-Ok-clause-ok : goal.returns-in-Ok-clause-ok
returns-in-Ok-clause-ok c =
    checked_entries (first_places c.args.places.now) (grammar_view c.args.grammar.now) (map intern_entry_view c.args.entries.now)
    (rw c.as_slice.ensures at c.in-Ok.ensures.accepted) (rw c.as_slice.ensures at c.in-Ok.ensures.unambiguous)

pub returns-in-Err-clause-err : goal.returns-in-Err-clause-err
returns-in-Err-clause-err c = λ full.
    c.fault_told.ensures (map intern_entry_view c.args.entries.now) full (rw c.as_slice.ensures at c.in-Err.ensures.fault)
