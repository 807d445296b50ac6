-- What is told where there is no answer.
use Rattle.std.specs.Prelude.{ℕ, List, codes}
use Rattle.lalrpop_plain_tables.specs.ErrorTexts.{lines_error_text}
use Rattle.lalrpop_plain_tables.specs.declared.answers.fault.AnswerFault.{AnswerFault}
use Rattle.lalrpop_plain_tables.specs.declared.answers.fault.AnswerFault.TheVariants as fault

abbrev pub answer_fault_text : AnswerFault → List ℕ
answer_fault_text (fault.Lines error) = lines_error_text error
answer_fault_text fault.Terminals = codes "the terminals aren't numbered"
answer_fault_text fault.NotAlone = codes "the start stands on a right side"
answer_fault_text fault.Barren = codes "the start reaches a nonterminal without a tree"
answer_fault_text fault.Conflicts = codes "the canonical states have conflicts"
answer_fault_text fault.Limit = codes "too many moves"
answer_fault_text fault.Memory = codes "out of memory"
