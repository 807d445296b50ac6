use Rattle.std.proofs.Common.{[], ◌∷◌, map, subst, sym, take}
use Rattle.std.proofs.lemmas.Result.{err_from_is_err_and}
use Rattle.lalrpop_grammar_rules.specs.RuleTable.{rules_with}
use Rattle.lalrpop_grammar_rules.specs.Views.{closed_view}
use Rattle.lalrpop_norm_keys.specs.Tables.{table_keys}
use Rattle.lalrpop_norm_keys.proofs.TableLemmas.{take_next}
use Rattle.lalrpop_norm_keys.specs.FoundCalls.{FindsCalls}
use Rattle.lalrpop_norm_keys.proofs.FoundLemmas.{found_of_none, found_together, item_among, told_wider}
use Rattle.lalrpop_norm_keys.specs.UseSearch.{AddsUsesOf, UsesCalls}
use Rattle.lalrpop_norm_keys.proofs.UseSideLemmas.{added_together, nothing_added}
use Rattle.lalrpop_norm_keys.proofs.rounds.add_round.Goals as goal

pub loop-call-init : goal.loop-call-init
loop-call-init g c = record {
  index = c.requires.index;
  found = found_of_none (rules_with (g.F.Finder.finds c.args.finder.now) c.args.rules.now) [] (table_keys c.args.calls.now)
      (λ y x i o. i);
  order = λ flat. nothing_added (UsesCalls (rules_with (g.F.Finder.finds c.args.finder.now) c.args.rules.now)) (table_keys c.args.calls.now);
}

pub returns-in_err-add_calls_of_call-clause-fault : goal.returns-in_err-add_calls_of_call-clause-fault
returns-in_err-add_calls_of_call-clause-fault g c =
    let t = rules_with (g.F.Finder.finds c.args.finder.now) c.args.rules.now in
    let callers = c.args.callers.now in
    let x = c.call-item.result in
    let p = err_from_is_err_and c.from_residual.result c.from_residual.ensures.1 in
    rw (p.1, p.2)
    (told_wider t (g.F.Finder.too_deep c.args.finder.now) (closed_view x ∷ []) (map closed_view callers)
    (λ y i. item_among closed_view callers c.loop-call.call-index x y c.loop-call-test.true c.call-item.is i) _
    c.in_err-add_calls_of_call.ensures.fault)

pub loop-call-preserved : goal.loop-call-preserved
loop-call-preserved g c =
    let t = rules_with (g.F.Finder.finds c.args.finder.now) c.args.rules.now in
    let callers = c.args.callers.now in
    let i = c.loop-call.call-index in
    let x = c.call-item.result in
    let old = table_keys c.args.calls.now in
    let mid = table_keys c.loop-call.calls in
    let new = table_keys c.add_calls_of_call.new.calls in
    record {
      index = c.in_ok-add_calls_of_call.ensures.index;
      found = subst (λ ys. FindsCalls t ys old new) (sym (take_next closed_view callers i x c.loop-call-test.true c.call-item.is))
          (found_together t (map closed_view (take i callers)) (closed_view x ∷ []) old mid new c.loop-call.invariant.found
          c.in_ok-add_calls_of_call.ensures.found);
      order = λ flat. subst (λ ys. AddsUsesOf (UsesCalls t) ys old new)
          (sym (take_next closed_view callers i x c.loop-call-test.true c.call-item.is))
          (added_together (UsesCalls t) (map closed_view (take i callers)) (closed_view x ∷ []) old mid new
          (c.loop-call.invariant.order flat) (c.in_ok-add_calls_of_call.ensures.order flat));
    }
