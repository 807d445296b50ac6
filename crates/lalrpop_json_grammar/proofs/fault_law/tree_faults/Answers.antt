use Rattle.lalrpop_json_grammar.specs.ReadTrees.{tree_at}
use Rattle.lalrpop_json_grammar.specs.Wanted.{Component, Wanted}
use Rattle.lalrpop_json_grammar.proofs.TreeFaultLemmas.{tree_tells}
use Rattle.lalrpop_json_grammar.proofs.InOrderLemmas.{read_in_order}
use Rattle.lalrpop_json_grammar.proofs.LawLemmas.{no_fault, told_fault}
use Rattle.lalrpop_json_grammar.proofs.fault_law.tree_faults.Goals as goal

pub returns-clause-told : goal.returns-clause-told
returns-clause-told c = λ d f e. told_fault (Wanted.component Component.tree) d (tree_at d) f (tree_tells d) e

pub returns-clause-first : goal.returns-clause-first
returns-clause-first c = λ text d f is e.
    (told_fault (Wanted.component Component.tree) d (tree_at d) f (tree_tells d) e).1 (read_in_order text d is)

pub returns-clause-read : goal.returns-clause-read
returns-clause-read c = λ d t e. no_fault (Wanted.component Component.tree) d (tree_at d) t (tree_tells d) e
