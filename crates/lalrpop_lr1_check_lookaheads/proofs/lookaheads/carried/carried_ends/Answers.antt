use Rattle.std.proofs.Common.{subst, sym}
use Rattle.lalrpop_lr1_core.specs.TheoryGrammars.{productions_of_grammar}
use Rattle.lalrpop_lr1_first.specs.Listings.{HoldSame}
use Rattle.lalrpop_lr1_first.specs.NumberedGrammars.{table_productions}
use Rattle.lalrpop_lr1_first.specs.declared.numbered.Numbered.{Numbered}
use Rattle.lalrpop_lr1_check_lookaheads.proofs.lookaheads.carried.carried_ends.Goals as goal

pub ends_of-requires-clause-productions : goal.ends_of-requires-clause-productions
ends_of-requires-clause-productions c =
    subst (λ (t : Numbered). HoldSame (table_productions t) (productions_of_grammar c.args.grammar.now)) (sym c.in_ok-named.ensures.table)
    c.requires.table.productions
