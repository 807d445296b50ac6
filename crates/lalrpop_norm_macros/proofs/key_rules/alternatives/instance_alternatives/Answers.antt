use Rattle.std.proofs.Common.{inl, map, refl, subst, sym, take}
use Rattle.std.proofs.lemmas.Result.{err_from_is_err_and}
use Rattle.lalrpop_grammar.specs.Views.{alternative_view}
use Rattle.lalrpop_norm_keys.proofs.TableLemmas.{take_next}
use Rattle.lalrpop_norm_keys.proofs.FoundLemmas.{item_among}
use Rattle.lalrpop_norm_macros.specs.InstanceRules.{AreInstancesBy}
use Rattle.lalrpop_norm_macros.specs.KeyInstances.{BecomesIn, HoldsIn, instance_binding}
use Rattle.lalrpop_norm_macros.proofs.InstanceListLemmas.{instance_more, tells_of_one}
use Rattle.lalrpop_norm_macros.proofs.key_rules.alternatives.instance_alternatives.Goals as goal

pub returns-in_err-put_alternative-clause-fault : goal.returns-in_err-put_alternative-clause-fault
returns-in_err-put_alternative-clause-fault g c =
    let xs = c.args.alternatives.now in
    let x = c.alternative-item.result in
    let p = err_from_is_err_and c.from_residual.result c.from_residual.ensures.1 in
    rw (p.1, p.2)
    (tells_of_one (g.F.Finder.finds c.args.finder.now) (g.F.Finder.too_deep c.args.finder.now) (instance_binding c.args.instance.now)
    (map alternative_view xs) (alternative_view x)
    (item_among alternative_view xs c.loop-alternative.alternative-index x (alternative_view x) c.loop-alternative-test.true
    c.alternative-item.is (inl refl)) _ c.in_err-put_alternative.ensures.fault)

pub loop-alternative-preserved : goal.loop-alternative-preserved
loop-alternative-preserved g c =
    let xs = c.args.alternatives.now in
    let i = c.loop-alternative.alternative-index in
    let x = c.alternative-item.result in
    let held = HoldsIn c.args.instance.now (g.F.Finder.finds c.args.finder.now) in
    let becomes = BecomesIn c.args.instance.now (g.F.Finder.finds c.args.finder.now) in
    subst (λ as_. AreInstancesBy held becomes as_ (map alternative_view c.put_alternative.new.made))
    (sym (take_next alternative_view xs i x c.loop-alternative-test.true c.alternative-item.is))
    (instance_more held becomes (map alternative_view (take i xs)) (alternative_view x) (map alternative_view c.loop-alternative.made)
    (map alternative_view c.put_alternative.new.made) c.loop-alternative.invariant c.in_ok-put_alternative.ensures.put)
