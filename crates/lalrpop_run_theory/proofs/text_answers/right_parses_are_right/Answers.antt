use Rattle.lalrpop_run_theory.proofs.AnswerLemmas.{has_answer, is_right}
use Rattle.lalrpop_run_theory.proofs.text_answers.right_parses_are_right.Goals as goal

pub returns-clause-right : goal.returns-clause-right
returns-clause-right c = λ finds features w start grammar e i. is_right finds features w start grammar e i

pub returns-clause-answers : goal.returns-clause-answers
returns-clause-answers c = λ finds features w start grammar e i. has_answer finds features w start grammar e i
