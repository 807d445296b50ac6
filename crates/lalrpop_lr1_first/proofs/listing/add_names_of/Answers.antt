use Rattle.std.proofs.Common.{[], ◌∷◌, subst}
use Rattle.std.specs.Prelude.{flat_map}
use Rattle.lalrpop_lr1_first.specs.Listings.{AddsTo, lent_in, symbol_names}
use Rattle.lalrpop_lr1_first.proofs.AddLemmas.{adds_more}
use Rattle.lalrpop_lr1_first.proofs.listing.add_names_of.Goals as goal

pub returns : goal.returns
returns c =
    adds_more (lent_in c.args.set.now) (lent_in c.add_name.new.set) (lent_in c.add_names_in.new.set)
    (c.args.production.now.nonterminal ∷ []) (flat_map symbol_names c.args.production.now.symbols) c.in_ok-add_name.ensures
    (subst (λ xs. AddsTo (lent_in c.add_name.new.set) (lent_in c.add_names_in.new.set) (flat_map symbol_names xs))
    c.as_slice.ensures c.in_ok-add_names_in.ensures)
