use Rattle.std.proofs.Common.{◌∷◌, [], subst, sym, take}
use Rattle.std.proofs.lemmas.List.{take_all}
use Rattle.lalrpop_lr1_first.specs.Listings.{AddsTo, lent_in}
use Rattle.lalrpop_lr1_first.proofs.AddLemmas.{adds_more, adds_none, taken_more}
use Rattle.lalrpop_lr1_first.proofs.listing.add_productions.Goals as goal

pub loop-production-init : goal.loop-production-init
loop-production-init c = adds_none (lent_in c.args.set.now)

pub loop-production-preserved : goal.loop-production-preserved
loop-production-preserved c =
    let i = c.loop-production.production-index in
    subst (AddsTo (lent_in c.args.set.now) (lent_in c.add_production.new.set))
    (sym (taken_more c.args.productions.now i c.production-item.result c.loop-production-test.true c.production-item.is))
    (adds_more (lent_in c.args.set.now) (lent_in c.loop-production.set) (lent_in c.add_production.new.set)
    (take i c.args.productions.now) (c.production-item.result ∷ []) c.loop-production.invariant c.in_ok-add_production.ensures)

pub returns : goal.returns
returns c =
    subst (AddsTo (lent_in c.args.set.now) (lent_in c.loop-production.set))
    (take_all c.loop-production.production-index c.args.productions.now c.loop-production-test.false) c.loop-production.invariant
