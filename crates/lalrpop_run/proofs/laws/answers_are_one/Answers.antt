use Rattle.lalrpop_run.proofs.OneAnswerLemmas.{conflicts_give_no_answer, text_answers_are_one}
use Rattle.lalrpop_run.proofs.OneNumberingLemmas.{numbers_in_one_order}
use Rattle.lalrpop_run.proofs.laws.answers_are_one.Goals as goal

pub returns-clause-texts : goal.returns-clause-texts
returns-clause-texts c = text_answers_are_one

pub returns-clause-conflicts : goal.returns-clause-conflicts
returns-clause-conflicts c = conflicts_give_no_answer

pub returns-clause-numbers : goal.returns-clause-numbers
returns-clause-numbers c = numbers_in_one_order
