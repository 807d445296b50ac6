use Rattle.std.proofs.lemmas.Result.{err_from_is_err_and}
use Rattle.lalrpop_grammar.specs.Views.{grammar_view}
use Rattle.lalrpop_grammar.specs.WrittenGrammar.{rules_of}
use Rattle.lalrpop_grammar_rules.specs.RuleTable.{rules_view}
use Rattle.lalrpop_norm_keys.specs.Tables.{table_keys}
use Rattle.lalrpop_norm_keys.specs.Arity.{arity_faults}
use Rattle.lalrpop_norm_macros.proofs.FaultLemmas.{told_arity}
use Rattle.lalrpop_norm_macros.proofs.FindingLemmas.{keys_ready, keys_told}
use Rattle.lalrpop_norm_macros.proofs.TableLemmas.{arity_between}
use Rattle.lalrpop_norm_macros.proofs.finding.macro_keys.Goals as goal

pub returns-in_err-check_arity-clause-fault : goal.returns-in_err-check_arity-clause-fault
returns-in_err-check_arity-clause-fault g c =
    let finds = g.F.Finder.finds c.args.finder.now in
    let t = c.args.rules.now in
    let w = grammar_view c.args.grammar.now in
    let p = err_from_is_err_and c.from_residual.result c.from_residual.ensures.1 in
    rw (p.1, p.2)
    (told_arity finds (g.F.Finder.too_deep c.args.finder.now) c.args.limit w (arity_faults (rules_view t) (rules_of w.items))
    (λ ready. arity_between finds t w c.requires.of_grammar ready) _ c.in_err-check_arity.ensures)

pub returns-clause-found : goal.returns-clause-found
returns-clause-found g c =
    keys_ready (g.F.Finder.finds c.args.finder.now) (g.F.Finder.too_deep c.args.finder.now) c.args.limit c.args.rules.now
    (grammar_view c.args.grammar.now) c.requires.of_grammar (table_keys c.in_ok-calls.calls) c.find_keys.result table_keys
    c.in_ok-check_arity.ensures c.in_ok-calls.ensures.found c.in_ok-calls.ensures.order c.find_keys.ensures.keys
    c.find_keys.ensures.order c.find_keys.ensures.asked

pub returns-clause-fault : goal.returns-clause-fault
returns-clause-fault g c =
    keys_told (g.F.Finder.finds c.args.finder.now) (g.F.Finder.too_deep c.args.finder.now) c.args.limit c.args.rules.now
    (grammar_view c.args.grammar.now) c.requires.of_grammar (table_keys c.in_ok-calls.calls) c.find_keys.result
    c.in_ok-calls.ensures.found c.find_keys.ensures.fault
