use Rattle.lalrpop_lr1_first.proofs.listing.add_name_in.Goals as goal

pub returns-in-Nonterminal : goal.returns-in-Nonterminal
returns-in-Nonterminal c = rw c.in-Nonterminal.is c.add_name.ensures
