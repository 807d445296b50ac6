use Rattle.std.proofs.lemmas.Result.{err_from_is_err_and}
use Rattle.lalrpop_grammar.specs.Views.{grammar_view}
use Rattle.lalrpop_norm_macros.proofs.FaultLemmas.{told_condition}
use Rattle.lalrpop_norm_macros.proofs.FindingLemmas.{call_order_ready, calls_ready, deep_call_told}
use Rattle.lalrpop_norm_macros.proofs.TableLemmas.{can_search, told_between}
use Rattle.lalrpop_norm_macros.proofs.finding.calls_within.Goals as goal

pub returns-in_err-calls-clause-fault : goal.returns-in_err-calls-clause-fault
returns-in_err-calls-clause-fault g c =
    let finds = g.F.Finder.finds c.args.finder.now in
    let deep = g.F.Finder.too_deep c.args.finder.now in
    let t = c.args.rules.now in
    let w = grammar_view c.args.grammar.now in
    let of = c.requires.of_grammar in
    let p = err_from_is_err_and c.from_residual.result c.from_residual.ensures.1 in
    rw (p.1, p.2)
    (told_condition finds deep c.args.limit w _ (λ ready.
    told_between finds t w of ready deep _ (c.in_err-calls.ensures.fault (can_search finds t w of ready))))

pub returns-in-All-clause-found : goal.returns-in-All-clause-found
returns-in-All-clause-found g c = λ ready.
    calls_ready (g.F.Finder.finds c.args.finder.now) (g.F.Finder.too_deep c.args.finder.now) c.args.limit c.args.rules.now
    (grammar_view c.args.grammar.now) c.requires.of_grammar c.in_ok-calls.field-0 c.in-All.calls c.in-All.is
    c.in_ok-calls.ensures.found ready

pub returns-in-All-clause-order : goal.returns-in-All-clause-order
returns-in-All-clause-order g c = λ ready.
    call_order_ready (g.F.Finder.finds c.args.finder.now) (g.F.Finder.too_deep c.args.finder.now) c.args.limit c.args.rules.now
    (grammar_view c.args.grammar.now) c.requires.of_grammar c.in_ok-calls.field-0 c.in-All.calls c.in-All.is
    c.in_ok-calls.ensures.order ready

pub returns-clause-fault : goal.returns-clause-fault
returns-clause-fault g c =
    deep_call_told (g.F.Finder.finds c.args.finder.now) (g.F.Finder.too_deep c.args.finder.now) c.args.limit c.args.rules.now
    (grammar_view c.args.grammar.now) c.requires.of_grammar c.in_ok-calls.field-0 c.in-TooDeep.field-0 c.in-TooDeep.span
    c.in-TooDeep.is c.in_ok-calls.ensures.found c.depth_error.result c.depth_error.ensures.kind c.depth_error.ensures.span
