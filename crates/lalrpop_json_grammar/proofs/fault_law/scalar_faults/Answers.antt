use Rattle.std.proofs.Common.{[], ◌∷◌}
use Rattle.lalrpop_json_values.specs.Scalars.{flag_at, name_at, null_at, number_at, optional, span_at, text_at, word_at}
use Rattle.lalrpop_json_grammar.specs.Wanted.{Wanted}
use Rattle.lalrpop_json_grammar.proofs.LawLemmas.{first_faults}
use Rattle.lalrpop_json_grammar.proofs.ScalarFaultLemmas.{flag_tells, name_tells, null_tells, number_tells, optional_tells, span_tells}
use Rattle.lalrpop_json_grammar.proofs.ScalarFaultLemmas.{text_tells, word_tells}
use Rattle.lalrpop_json_grammar.proofs.fault_law.scalar_faults.Goals as goal

pub returns-clause-number : goal.returns-clause-number
returns-clause-number c = first_faults Wanted.number number_at number_tells

pub returns-clause-span : goal.returns-clause-span
returns-clause-span c = first_faults Wanted.span span_at span_tells

pub returns-clause-text : goal.returns-clause-text
returns-clause-text c = first_faults Wanted.text text_at text_tells

pub returns-clause-name : goal.returns-clause-name
returns-clause-name c = first_faults Wanted.name name_at name_tells

pub returns-clause-flag : goal.returns-clause-flag
returns-clause-flag c = first_faults Wanted.flag flag_at flag_tells

pub returns-clause-null : goal.returns-clause-null
returns-clause-null c = first_faults Wanted.nothing null_at null_tells

pub returns-clause-optional_text : goal.returns-clause-optional_text
returns-clause-optional_text c =
    first_faults (Wanted.optional Wanted.text) (optional text_at) λ d. optional_tells Wanted.text d text_at (text_tells d)

pub returns-clause-word : goal.returns-clause-word
returns-clause-word c = λ w. first_faults (Wanted.word (w ∷ [])) (word_at w) (word_tells w)
