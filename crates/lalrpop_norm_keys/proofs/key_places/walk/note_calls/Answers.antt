use Rattle.std.proofs.Common.{[], ◌∷◌, map, subst, sym, take}
use Rattle.std.proofs.lemmas.Result.{err_from_is_err_and}
use Rattle.lalrpop_grammar_rules.specs.RuleTable.{rules_with}
use Rattle.lalrpop_grammar_rules.specs.Views.{closed_view}
use Rattle.lalrpop_norm_keys.proofs.TableLemmas.{take_next}
use Rattle.lalrpop_norm_keys.proofs.FoundLemmas.{item_among, told_wider}
use Rattle.lalrpop_norm_keys.specs.GrammarPlaces.{PutsMetInCalls}
use Rattle.lalrpop_norm_keys.specs.Views.{met_view}
use Rattle.lalrpop_norm_keys.proofs.CallLemmas.{met_more}
use Rattle.lalrpop_norm_keys.proofs.key_places.walk.note_calls.Goals as goal

pub returns-in_err-note_call-clause-fault : goal.returns-in_err-note_call-clause-fault
returns-in_err-note_call-clause-fault g c =
    let t = rules_with (g.F.Finder.finds c.args.finder.now) c.args.rules.now in
    let calls = c.args.calls.now in
    let x = c.call-item.result in
    let p = err_from_is_err_and c.from_residual.result c.from_residual.ensures.1 in
    rw (p.1, p.2)
    (told_wider t (g.F.Finder.too_deep c.args.finder.now) (closed_view x ∷ []) (map closed_view calls)
    (λ y i. item_among closed_view calls c.loop-call.call-index x y c.loop-call-test.true c.call-item.is i) _
    c.in_err-note_call.ensures.fault)

pub loop-call-preserved : goal.loop-call-preserved
loop-call-preserved g c =
    let t = rules_with (g.F.Finder.finds c.args.finder.now) c.args.rules.now in
    let calls = c.args.calls.now in
    let i = c.loop-call.call-index in
    let x = c.call-item.result in
    let old = map met_view c.args.met.now in
    let new = map met_view c.note_call.new.met in
    subst (λ ys. PutsMetInCalls t ys old new) (sym (take_next closed_view calls i x c.loop-call-test.true c.call-item.is))
    (met_more t (map closed_view (take i calls)) (closed_view x) old (map met_view c.loop-call.met) new c.loop-call.invariant
    c.in_ok-note_call.ensures.added)
