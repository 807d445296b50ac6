use Rattle.std.proofs.Common.{subst}
use Rattle.lalrpop_json_values.specs.Gives.{Gives}
use Rattle.lalrpop_json_grammar.specs.ReadTrees.{tree_at}
use Rattle.lalrpop_json_grammar.proofs.TreeLemmas.{gives_spelled, gives_found}
use Rattle.lalrpop_json_grammar.proofs.tree.read_tree.Goals as goal

pub returns-clause-reads : goal.returns-clause-reads
returns-clause-reads c = subst (λ d. Gives c.tree_of_document.result (tree_at d)) c.in_ok-document.ensures c.tree_of_document.ensures

pub returns-clause-spelled : goal.returns-clause-spelled
returns-clause-spelled c = gives_spelled _ _ (returns-clause-reads c)

pub returns-clause-found : goal.returns-clause-found
returns-clause-found c = gives_found _ _ (returns-clause-reads c)
