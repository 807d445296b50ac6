use Rattle.std.proofs.Common.{map, None}
use Rattle.lalrpop_grammar_symbols.specs.Symbols.{Closed}
use Rattle.lalrpop_grammar_rules.specs.RuleTable.{rules_with}
use Rattle.lalrpop_grammar_rules.specs.Views.{closed_view, closeds}
use Rattle.lalrpop_norm_keys.specs.Tables.{table_keys}
use Rattle.lalrpop_norm_keys.proofs.FoundLemmas.{told_of_call}
use Rattle.lalrpop_norm_keys.proofs.KeyLemmas.{found_ok, keys_of_leveled}
use Rattle.lalrpop_norm_keys.proofs.AskedLemmas.{ask_no_call, ask_one_ok}
use Rattle.lalrpop_norm_keys.proofs.UseSideLemmas.{itself_added, leveled_uses, with_itself_added}
use Rattle.lalrpop_norm_keys.proofs.keys.add_keys_of.Goals as goal

pub returns-in_default-clause-found : goal.returns-in_default-clause-found
returns-in_default-clause-found g c = λ flat are.
    keys_of_leveled (rules_with (g.F.Finder.finds c.args.finder.now) c.args.rules.now) flat (closed_view c.args.call.now)
    are c.in_default.ensures.none (table_keys c.args.keys.now) (table_keys c.add.new.self) c.in_ok-add.ensures.added

pub returns-clause-found : goal.returns-clause-found
returns-clause-found g c =
    found_ok (rules_with (g.F.Finder.finds c.args.finder.now) c.args.rules.now) (closed_view c.args.call.now)
    (Closed.call c.in-Some.called.name.now (closeds (map closed_view c.in-Some.called.args.now)) None) (table_keys c.args.keys.now)
    (table_keys c.add.new.self) (table_keys c.add_standing.new.keys) c.add_standing.result c.in_ok-add.ensures.added
    c.in-Some.ensures.some c.add_standing.ensures.found

pub returns-clause-fault : goal.returns-clause-fault
returns-clause-fault g c =
    told_of_call (rules_with (g.F.Finder.finds c.args.finder.now) c.args.rules.now) (g.F.Finder.too_deep c.args.finder.now)
    (closed_view c.args.call.now) c.in-Some.called.name.now (closeds (map closed_view c.in-Some.called.args.now)) c.add_standing.result
    c.in-Some.ensures.some c.add_standing.ensures.fault

pub returns-in_default-clause-asked : goal.returns-in_default-clause-asked
returns-in_default-clause-asked g c =
    ask_no_call (rules_with (g.F.Finder.finds c.args.finder.now) c.args.rules.now) (g.F.Finder.too_deep c.args.finder.now)
    (closed_view c.args.call.now) c.in_default.ensures.none

pub returns-clause-asked : goal.returns-clause-asked
returns-clause-asked g c =
    ask_one_ok (rules_with (g.F.Finder.finds c.args.finder.now) c.args.rules.now) (g.F.Finder.too_deep c.args.finder.now)
    (closed_view c.args.call.now) c.in-Some.called.name.now (closeds (map closed_view c.in-Some.called.args.now))
    c.in-Some.ensures.some c.add_standing.result c.add_standing.ensures.asked

pub returns-in_default-clause-order : goal.returns-in_default-clause-order
returns-in_default-clause-order g c = λ flat.
    let t = rules_with (g.F.Finder.finds c.args.finder.now) c.args.rules.now in
    itself_added t (closed_view c.args.call.now) (table_keys c.args.keys.now) (table_keys c.add.new.self) c.in_ok-add.ensures.added
    (leveled_uses t flat (closed_view c.args.call.now) c.in_default.ensures.none)

pub returns-clause-order : goal.returns-clause-order
returns-clause-order g c =
    with_itself_added (rules_with (g.F.Finder.finds c.args.finder.now) c.args.rules.now) (closed_view c.args.call.now)
    (Closed.call c.in-Some.called.name.now (closeds (map closed_view c.in-Some.called.args.now)) None) (table_keys c.args.keys.now)
    (table_keys c.add.new.self) (table_keys c.add_standing.new.keys) c.add_standing.result c.in_ok-add.ensures.added
    c.in-Some.ensures.some c.add_standing.ensures.order
