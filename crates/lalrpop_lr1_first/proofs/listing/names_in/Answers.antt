use Rattle.std.proofs.Common.{◌≡◌, [], ◌∙◌, ap, subst, sym, take}
use Rattle.std.specs.Prelude.{flat_map}
use Rattle.std.proofs.lemmas.List.{take_all}
use Rattle.lalrpop_lr1_first.specs.Listings.{HoldSame, lent, lent_in, names_in_production}
use Rattle.lalrpop_lr1_first.proofs.AddLemmas.{flat_more, holds_more, holds_none, lent_more, taken_more}
use Rattle.lalrpop_lr1_first.proofs.listing.names_in.Goals as goal

pub loop-production-init : goal.loop-production-init
loop-production-init c =
    let none : lent_in c.new-set.result ≡ [] = ap lent c.new-set.ensures.empty in
    subst (λ old. HoldSame old []) (sym none) holds_none

pub loop-production-preserved : goal.loop-production-preserved
loop-production-preserved c =
    let i = c.loop-production.production-index in
    let xs = c.args.productions.now in
    let x = c.production-item.result in
    subst (HoldSame (lent_in c.add_names_of.new.set))
    (sym (ap (λ l. flat_map names_in_production (lent l)) (taken_more xs i x c.loop-production-test.true c.production-item.is)
    ∙ ap (flat_map names_in_production) (lent_more (take i xs) x)
    ∙ flat_more names_in_production (lent (take i xs)) x.now))
    (holds_more (lent_in c.loop-production.set) (lent_in c.add_names_of.new.set) (flat_map names_in_production (lent (take i xs)))
    (names_in_production x.now) c.loop-production.invariant c.in_ok-add_names_of.ensures)

pub returns : goal.returns
returns c =
    subst (λ xs. HoldSame (lent_in c.loop-production.set) (flat_map names_in_production (lent xs)))
    (take_all c.loop-production.production-index c.args.productions.now c.loop-production-test.false) c.loop-production.invariant
