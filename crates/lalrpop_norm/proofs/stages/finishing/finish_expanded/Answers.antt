use Rattle.lalrpop_grammar.specs.Views.{grammar_view}
use Rattle.std.proofs.lemmas.Result.{err_from_is_err_and}
use Rattle.lalrpop_norm_token_check.specs.KeptPlaces.{first_places}
use Rattle.lalrpop_norm.specs.Stages.{IsLaterFault}
use Rattle.lalrpop_norm.proofs.FinishLemmas.{decides_where_none, normalized_where_read}
use Rattle.lalrpop_norm.proofs.stages.finishing.finish_expanded.Goals as goal

pub returns-in_err-types-clause-refused : goal.returns-in_err-types-clause-refused
returns-in_err-types-clause-refused c =
    let p = err_from_is_err_and c.from_residual-in_err-types.result c.from_residual-in_err-types.ensures.1 in
    rw (p.1, p.2)
    (IsLaterFault.of_types (grammar_view c.in_ok-checked.checked) c.in_ok-checked.ensures.ok c.in_err-types.ensures.fault)

pub returns-in_err-made-clause-refused : goal.returns-in_err-made-clause-refused
returns-in_err-made-clause-refused c =
    let p = err_from_is_err_and c.from_residual-in_err-made.result c.from_residual-in_err-made.ensures.1 in
    rw (p.1, p.2)
    (IsLaterFault.of_actions (grammar_view c.in_ok-checked.checked) c.in_ok-checked.ensures.ok c.in_ok-types.ensures.none
    c.in_err-made.ensures.fault)

pub returns-clause-given : goal.returns-clause-given
returns-clause-given c =
    normalized_where_read (first_places c.args.places.now) (grammar_view c.args.grammar) c.in_ok-checked.checked
    c.in_ok-checked.ensures.ok c.in_ok-types.types c.in_ok-made.made c.in_ok-made.ensures.kept
    c.in_ok-types.ensures.types c.in_ok-types.ensures.terminals c.in_ok-made.ensures.lowered

pub returns-clause-decides : goal.returns-clause-decides
returns-clause-decides c =
    decides_where_none (first_places c.args.places.now) (grammar_view c.args.grammar) c.in_ok-checked.checked
    c.in_ok-checked.ensures.ok c.in_ok-types.types c.in_ok-made.made c.in_ok-made.ensures.kept
    c.in_ok-checked.dfa c.in_ok-checked.ensures.decides
