use Rattle.std.proofs.Common.{map, None}
use Rattle.lalrpop_grammar_symbols.specs.Symbols.{Closed}
use Rattle.lalrpop_grammar_rules.specs.RuleTable.{rules_with}
use Rattle.lalrpop_grammar_rules.specs.Views.{closed_view, closeds}
use Rattle.lalrpop_norm_keys.specs.Tables.{table_keys}
use Rattle.lalrpop_norm_keys.proofs.FoundLemmas.{found_of_leveled, told_of_call}
use Rattle.lalrpop_norm_keys.proofs.UseSideLemmas.{calls_of_symbol, leveled_uses, no_calls_added}
use Rattle.lalrpop_norm_keys.proofs.rounds.add_calls_of_call.Goals as goal

pub returns-in_default-clause-found : goal.returns-in_default-clause-found
returns-in_default-clause-found g c =
    found_of_leveled (rules_with (g.F.Finder.finds c.args.finder.now) c.args.rules.now) (closed_view c.args.call.now)
    c.in_default.ensures.none (table_keys c.args.calls.now)

pub returns-clause-fault : goal.returns-clause-fault
returns-clause-fault g c =
    told_of_call (rules_with (g.F.Finder.finds c.args.finder.now) c.args.rules.now) (g.F.Finder.too_deep c.args.finder.now)
    (closed_view c.args.call.now) c.in-Some.called.name.now (closeds (map closed_view c.in-Some.called.args.now)) c.add_calls_of.result
    c.in-Some.ensures.some c.add_calls_of.ensures.fault

pub returns-in_default-clause-order : goal.returns-in_default-clause-order
returns-in_default-clause-order g c = λ flat.
    let t = rules_with (g.F.Finder.finds c.args.finder.now) c.args.rules.now in
    no_calls_added t (closed_view c.args.call.now) (table_keys c.args.calls.now)
    (leveled_uses t flat (closed_view c.args.call.now) c.in_default.ensures.none)

pub returns-clause-order : goal.returns-clause-order
returns-clause-order g c =
    calls_of_symbol (rules_with (g.F.Finder.finds c.args.finder.now) c.args.rules.now) (closed_view c.args.call.now)
    (Closed.call c.in-Some.called.name.now (closeds (map closed_view c.in-Some.called.args.now)) None) (table_keys c.args.calls.now)
    (table_keys c.add_calls_of.new.calls) c.add_calls_of.result c.in-Some.ensures.some c.add_calls_of.ensures.order
