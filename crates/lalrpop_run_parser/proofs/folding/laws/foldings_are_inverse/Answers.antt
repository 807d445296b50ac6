use Rattle.lalrpop_run_parser.proofs.WholeFoldLemmas.{folded_trees_are_one, unfolded_trees_are_one}
use Rattle.lalrpop_run_parser.proofs.folding.laws.foldings_are_inverse.Goals as goal

pub returns : goal.returns
returns c = record {
  folded = folded_trees_are_one c.forests_correspond.ensures.one_forest;
  unfolded = unfolded_trees_are_one;
}
