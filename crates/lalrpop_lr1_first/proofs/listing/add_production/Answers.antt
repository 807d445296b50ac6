use Rattle.std.proofs.Common.{[], ◌∷◌, subst, sym}
use Rattle.lalrpop_grammar_repr.specs.contracts.production.ProductionOrd.TheImpl as productions
use Rattle.lalrpop_lr1_first.specs.Listings.{AddsTo, lent, lent_in}
use Rattle.lalrpop_lr1_first.proofs.AddLemmas.{adds_one}
use Rattle.lalrpop_lr1_first.proofs.OrderLemmas.{exact_production}
use Rattle.lalrpop_lr1_first.proofs.listing.add_production.Goals as goal

pub returns : goal.returns
returns c =
    subst (λ ks. AddsTo (lent_in c.args.set.now) (lent ks) (c.args.production.now ∷ [])) (sym c.in_ok-insert.ensures.keys)
    (adds_one (productions.ghosts).cmp exact_production c.args.set.now.keys c.args.production)
