use Rattle.std.proofs.Common.{[], ◌∷◌, subst, sym}
use Rattle.lalrpop_grammar_symbols.specs.contracts.names.NonterminalStringOrd.TheImpl as names
use Rattle.lalrpop_lr1_first.specs.Listings.{AddsTo, lent, lent_in}
use Rattle.lalrpop_lr1_first.proofs.AddLemmas.{adds_one}
use Rattle.lalrpop_lr1_first.proofs.OrderLemmas.{exact_name}
use Rattle.lalrpop_lr1_first.proofs.listing.add_name.Goals as goal

pub returns : goal.returns
returns c =
    subst (λ ks. AddsTo (lent_in c.args.set.now) (lent ks) (c.args.name.now ∷ [])) (sym c.in_ok-insert.ensures.keys)
    (adds_one (names.ghosts).cmp exact_name c.args.set.now.keys c.args.name)
