use Rattle.std.proofs.Common.{[], ◌∷◌, map, subst, sym, take}
use Rattle.std.proofs.lemmas.Result.{err_from_is_err_and}
use Rattle.lalrpop_grammar_rules.specs.RuleTable.{rules_with}
use Rattle.lalrpop_grammar_rules.specs.Views.{closed_view}
use Rattle.lalrpop_norm_keys.specs.Tables.{table_keys}
use Rattle.lalrpop_norm_keys.proofs.TableLemmas.{take_next}
use Rattle.lalrpop_norm_keys.specs.AskedConditions.{AskRightly}
use Rattle.lalrpop_norm_keys.specs.FoundKeys.{FindsKeys}
use Rattle.lalrpop_norm_keys.proofs.AskedLemmas.{ask_none, ask_together}
use Rattle.lalrpop_norm_keys.proofs.FoundLemmas.{item_among, told_wider}
use Rattle.lalrpop_norm_keys.proofs.KeyLemmas.{keys_of_none, keys_together}
use Rattle.lalrpop_norm_keys.specs.UseSearch.{AddsUsesOf, UsesWithItself}
use Rattle.lalrpop_norm_keys.proofs.UseSideLemmas.{added_together, nothing_added}
use Rattle.lalrpop_norm_keys.proofs.keys.add_keys_of_calls.Goals as goal

pub loop-call-init : goal.loop-call-init
loop-call-init g c = record {
  index = c.requires.index;
  found = λ flat are. keys_of_none (rules_with (g.F.Finder.finds c.args.finder.now) c.args.rules.now) (table_keys c.args.keys.now);
  order = λ flat. nothing_added (UsesWithItself (rules_with (g.F.Finder.finds c.args.finder.now) c.args.rules.now))
      (table_keys c.args.keys.now);
  asked = ask_none (rules_with (g.F.Finder.finds c.args.finder.now) c.args.rules.now) (g.F.Finder.too_deep c.args.finder.now);
}

pub returns-in_err-add_keys_of-clause-fault : goal.returns-in_err-add_keys_of-clause-fault
returns-in_err-add_keys_of-clause-fault g c =
    let t = rules_with (g.F.Finder.finds c.args.finder.now) c.args.rules.now in
    let calls = c.args.calls.now in
    let x = c.call-item.result in
    let p = err_from_is_err_and c.from_residual.result c.from_residual.ensures.1 in
    rw (p.1, p.2)
    (told_wider t (g.F.Finder.too_deep c.args.finder.now) (closed_view x ∷ []) (map closed_view calls)
    (λ y i. item_among closed_view calls c.loop-call.call-index x y c.loop-call-test.true c.call-item.is i) _
    c.in_err-add_keys_of.ensures.fault)

pub loop-call-preserved : goal.loop-call-preserved
loop-call-preserved g c =
    let t = rules_with (g.F.Finder.finds c.args.finder.now) c.args.rules.now in
    let calls = c.args.calls.now in
    let i = c.loop-call.call-index in
    let x = c.call-item.result in
    let old = table_keys c.args.keys.now in
    let mid = table_keys c.loop-call.keys in
    let new = table_keys c.add_keys_of.new.keys in
    record {
      index = c.in_ok-add_keys_of.ensures.index;
      found = λ flat are. subst (λ ys. FindsKeys t ys old new)
          (sym (take_next closed_view calls i x c.loop-call-test.true c.call-item.is))
          (keys_together t (map closed_view (take i calls)) (closed_view x ∷ []) old mid new (c.loop-call.invariant.found flat are)
          (c.in_ok-add_keys_of.ensures.found flat (λ y k.
          are y (item_among closed_view calls i x y c.loop-call-test.true c.call-item.is k))));
      order = λ flat. subst (λ ys. AddsUsesOf (UsesWithItself t) ys old new)
          (sym (take_next closed_view calls i x c.loop-call-test.true c.call-item.is))
          (added_together (UsesWithItself t) (map closed_view (take i calls)) (closed_view x ∷ []) old mid new
          (c.loop-call.invariant.order flat) (c.in_ok-add_keys_of.ensures.order flat));
      asked = subst (AskRightly t (g.F.Finder.too_deep c.args.finder.now))
          (sym (take_next closed_view calls i x c.loop-call-test.true c.call-item.is))
          (ask_together t (g.F.Finder.too_deep c.args.finder.now) (map closed_view (take i calls)) (closed_view x ∷ [])
          c.loop-call.invariant.asked c.in_ok-add_keys_of.ensures.asked);
    }
