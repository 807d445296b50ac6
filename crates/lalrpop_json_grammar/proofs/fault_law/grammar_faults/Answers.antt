use Rattle.lalrpop_json_grammar.specs.Grammars.{grammar_at}
use Rattle.lalrpop_json_grammar.specs.Wanted.{Component, Wanted}
use Rattle.lalrpop_json_grammar.proofs.ItemFaultLemmas.{grammar_tells}
use Rattle.lalrpop_json_grammar.proofs.InOrderLemmas.{read_in_order}
use Rattle.lalrpop_json_grammar.proofs.LawLemmas.{no_fault, told_fault}
use Rattle.lalrpop_json_grammar.proofs.fault_law.grammar_faults.Goals as goal

pub returns-clause-told : goal.returns-clause-told
returns-clause-told c = λ d f e. told_fault (Wanted.component Component.grammar) d (grammar_at d) f (grammar_tells d) e

pub returns-clause-first : goal.returns-clause-first
returns-clause-first c = λ text d f is e.
    (told_fault (Wanted.component Component.grammar) d (grammar_at d) f (grammar_tells d) e).1 (read_in_order text d is)

pub returns-clause-read : goal.returns-clause-read
returns-clause-read c = λ d g e. no_fault (Wanted.component Component.grammar) d (grammar_at d) g (grammar_tells d) e
