use Rattle.std.proofs.Common.{◌⊎◌, ◌↔◌, Contains}
use Rattle.std.specs.Prelude.{flat_map}
use Rattle.lalrpop_lr1_first.specs.Listings.{lent_in}
use Rattle.lalrpop_lr1_core.specs.TheoryGrammars.{productions_of_grammar}
use Rattle.lalrpop_grammar_repr.specs.declared.production.Production.{Production}
use Rattle.lalrpop_lr1_first.proofs.listing.productions_in.Given as goal

abbrev pub invariant-loop-data : goal.invariant-loop-data
invariant-loop-data l =
    (p : Production) → Contains (productions_of_grammar l.grammar) p
    ↔ (Contains (lent_in l.set) p ⊎ Contains (flat_map (λ e. e.1.productions) l.data-iterator) p)
