use Rattle.std.proofs.Common.{append-nil, ◌≡◌, ◌∙◌, ◌++◌, [], ap, rules, subst, sym}
use Rattle.std.specs.List.Sorted.{IsStrictlySortedBy}
use Rattle.lalrpop_grammar_repr.specs.contracts.production.ProductionOrd.TheImpl as productions
use Rattle.lalrpop_lr1_first.specs.Listings.{lent}
use Rattle.lalrpop_lr1_first.proofs.NameLemmas.{lent_sorted}
use Rattle.lalrpop_lr1_first.proofs.listing.list_productions.Goals as goal

pub returns-clause-ordered : goal.returns-clause-ordered
returns-clause-ordered c =
    let items = c.loop-production.listed.items in
    let none : c.loop-production.production-iterator ≡ [] = search rules in
    let same : items ≡ c.args.set.now.keys = sym (append-nil items) ∙ sym (ap (λ l. items ++ l) none)
    ∙ c.loop-production.invariant in
    subst (λ ks. IsStrictlySortedBy (productions.ghosts).cmp (lent ks)) (sym same)
    (lent_sorted (productions.ghosts).cmp c.args.set.now.keys c.iter-production-items.ensures.ordered)
