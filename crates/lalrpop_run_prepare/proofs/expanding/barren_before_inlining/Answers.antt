use Rattle.lalrpop_run_prepare.proofs.TableLemmas.{has_its_terminals}
use Rattle.lalrpop_run_prepare.proofs.expanding.barren_before_inlining.Goals as goal

pub barren_nonterminal-requires : goal.barren_nonterminal-requires
barren_nonterminal-requires c = has_its_terminals c.args.lowered.now c.requires
