use Rattle.std.proofs.Common.{[], ap, map, subst, sym}
use Rattle.std.specs.Prelude.{filter}
use Rattle.std.proofs.lemmas.Result.{err_from_is_err_and}
use Rattle.lalrpop_grammar.specs.Views.{grammar_view}
use Rattle.lalrpop_grammar.specs.WrittenGrammar.{rules_of}
use Rattle.lalrpop_grammar_language.specs.Enabled.{enabled_rule, is_active}
use Rattle.lalrpop_grammar_rules.specs.RuleTable.{rules_with}
use Rattle.lalrpop_grammar_rules.specs.Views.{closed_view}
use Rattle.lalrpop_norm_keys.specs.Tables.{table_keys}
use Rattle.lalrpop_norm_keys.specs.AskedConditions.{AskRightly}
use Rattle.lalrpop_norm_keys.specs.FoundCalls.{AreCalls, plain_calls}
use Rattle.lalrpop_norm_keys.specs.FoundKeys.{FindsKeys}
use Rattle.lalrpop_norm_keys.proofs.AskedLemmas.{all_asked}
use Rattle.lalrpop_norm_keys.proofs.FoundLemmas.{plain_are_calls, plain_are_made, told_of_any, told_of_made, told_of_walked}
use Rattle.lalrpop_norm_keys.proofs.FoundLemmas.{walked_are_calls}
use Rattle.lalrpop_norm_keys.specs.Tables.{AddsKeys}
use Rattle.lalrpop_norm_keys.specs.UseSearch.{AddsUsesOf, UsesWithItself}
use Rattle.lalrpop_norm_keys.proofs.KeyLemmas.{keys_begun, keys_found, keys_together}
use Rattle.lalrpop_norm_keys.proofs.OrderedKeyLemmas.{keys_in_order}
use Rattle.lalrpop_norm_keys.proofs.keys.find_keys.Goals as goal

pub returns-in_err-add_keys_of_calls-clause-fault : goal.returns-in_err-add_keys_of_calls-clause-fault
returns-in_err-add_keys_of_calls-clause-fault g c =
    let t = rules_with (g.F.Finder.finds c.args.finder.now) c.args.rules.now in
    let features = c.args.rules.now.features.now in
    let rs = rules_of (grammar_view c.args.grammar.now).items in
    let plain = map closed_view c.in_ok-plain.plain in
    let p = err_from_is_err_and c.from_residual-in_err-add_keys_of_calls.result c.from_residual-in_err-add_keys_of_calls.ensures.1 in
    rw (p.1, p.2)
    (λ can all. told_of_made t 0 plain
    (plain_are_made t features rs
    (ap (λ w. map (enabled_rule features) (filter (λ r. is_active features r.attributes) (rules_of w.items))) c.requires.of_grammar)
    can.enabled can.single can.flat plain c.in_ok-plain.ensures) (g.F.Finder.too_deep c.args.finder.now) _
    (rw c.as_slice-2.ensures at c.in_err-add_keys_of_calls.ensures.fault))

pub returns-in_err-add_keys_of_calls-2-clause-fault : goal.returns-in_err-add_keys_of_calls-2-clause-fault
returns-in_err-add_keys_of_calls-2-clause-fault g c =
    let t = rules_with (g.F.Finder.finds c.args.finder.now) c.args.rules.now in
    let deep = g.F.Finder.too_deep c.args.finder.now in
    let r = c.from_residual-in_err-add_keys_of_calls-2 in
    let p = err_from_is_err_and r.result r.ensures.1 in
    rw (p.1, p.2)
    (λ can all. told_of_walked t all.0 (table_keys c.args.calls.now) [] all.1 deep _
    (rw c.keys.ensures at c.in_err-add_keys_of_calls-2.ensures.fault))

pub returns-in_err-add_keys_of_calls-2-clause-condition : goal.returns-in_err-add_keys_of_calls-2-clause-condition
returns-in_err-add_keys_of_calls-2-clause-condition g c =
    let r = c.from_residual-in_err-add_keys_of_calls-2 in
    let p = err_from_is_err_and r.result r.ensures.1 in
    rw (p.1, p.2)
    (told_of_any (rules_with (g.F.Finder.finds c.args.finder.now) c.args.rules.now) (g.F.Finder.too_deep c.args.finder.now)
    (map closed_view c.keys.result.now) _ c.in_err-add_keys_of_calls-2.ensures.fault)

pub returns-clause-keys : goal.returns-clause-keys
returns-clause-keys g c = λ can all_calls.
    let t = rules_with (g.F.Finder.finds c.args.finder.now) c.args.rules.now in
    let features = c.args.rules.now.features.now in
    let rs = rules_of (grammar_view c.args.grammar.now).items in
    let calls = table_keys c.args.calls.now in
    let plain = map closed_view c.in_ok-plain.plain in
    let mid = table_keys c.add_keys_of_calls.new.keys in
    let all = table_keys c.add_keys_of_calls-2.new.keys in
    let are : AreCalls plain = subst AreCalls (sym c.in_ok-plain.ensures) (plain_are_calls rs) in
    let begun = table_keys c.add_all.new.self in
    let added : AddsKeys [] (plain_calls rs) begun =
    subst (λ l. AddsKeys l (plain_calls rs) begun) c.new-keys.ensures.empty
    (subst (λ ys. AddsKeys (table_keys c.new-keys.result) ys begun) c.in_ok-plain.ensures
    (rw c.as_slice.ensures at c.in_ok-add_all.ensures.added)) in
    let first : FindsKeys t (plain_calls rs) [] mid =
    keys_begun t (plain_calls rs) begun mid added
    (subst (λ ys. FindsKeys t ys begun mid) c.in_ok-plain.ensures
    ((rw c.as_slice-2.ensures at c.in_ok-add_keys_of_calls.ensures.found) can.flat are)) in
    let second : FindsKeys t calls mid all =
    (rw c.keys.ensures at c.in_ok-add_keys_of_calls-2.ensures.found) can.flat (walked_are_calls t all_calls.0 calls [] all_calls.1) in
    keys_found t features rs
    (ap (λ w. map (enabled_rule features) (filter (λ r. is_active features r.attributes) (rules_of w.items)))
    c.requires.of_grammar) can.enabled can.single can.flat all_calls.0 calls all_calls.1 all
    (keys_together t (plain_calls rs) calls [] mid all first second)

pub returns-clause-asked : goal.returns-clause-asked
returns-clause-asked g c = λ can all_calls.
    let t = rules_with (g.F.Finder.finds c.args.finder.now) c.args.rules.now in
    let deep = g.F.Finder.too_deep c.args.finder.now in
    let features = c.args.rules.now.features.now in
    let rs = rules_of (grammar_view c.args.grammar.now).items in
    let calls = table_keys c.args.calls.now in
    let plain : AskRightly t deep (plain_calls rs) = subst (AskRightly t deep) c.in_ok-plain.ensures
    (rw c.as_slice-2.ensures at c.in_ok-add_keys_of_calls.ensures.asked) in
    let asked : AskRightly t deep calls = rw c.keys.ensures at c.in_ok-add_keys_of_calls-2.ensures.asked in
    all_asked t features rs
    (ap (λ w. map (enabled_rule features) (filter (λ r. is_active features r.attributes) (rules_of w.items)))
    c.requires.of_grammar) can.enabled can.single can.flat all_calls.0 calls all_calls.1 deep plain asked

pub returns-clause-order : goal.returns-clause-order
returns-clause-order g c = λ can all_calls by_use.
    let t = rules_with (g.F.Finder.finds c.args.finder.now) c.args.rules.now in
    let features = c.args.rules.now.features.now in
    let rs = rules_of (grammar_view c.args.grammar.now).items in
    let calls = table_keys c.args.calls.now in
    let begun = table_keys c.add_all.new.self in
    let mid = table_keys c.add_keys_of_calls.new.keys in
    let all = table_keys c.add_keys_of_calls-2.new.keys in
    let added : AddsKeys [] (plain_calls rs) begun =
    subst (λ l. AddsKeys l (plain_calls rs) begun) c.new-keys.ensures.empty
    (subst (λ ys. AddsKeys (table_keys c.new-keys.result) ys begun) c.in_ok-plain.ensures
    (rw c.as_slice.ensures at c.in_ok-add_all.ensures.added)) in
    let first : AddsUsesOf (UsesWithItself t) (plain_calls rs) begun mid =
    subst (λ ys. AddsUsesOf (UsesWithItself t) ys begun mid) c.in_ok-plain.ensures
    ((rw c.as_slice-2.ensures at c.in_ok-add_keys_of_calls.ensures.order) can.flat) in
    let second : AddsUsesOf (UsesWithItself t) calls mid all =
    (rw c.keys.ensures at c.in_ok-add_keys_of_calls-2.ensures.order) can.flat in
    keys_in_order t features rs
    (ap (λ w. map (enabled_rule features) (filter (λ r. is_active features r.attributes) (rules_of w.items)))
    c.requires.of_grammar) can.enabled can.single can.flat all_calls.0 calls all_calls.1 by_use begun mid all added first second
