use Rattle.lalrpop_norm_theory.proofs.TypeLemmas.{step_grounded, typed_grounded, grounded_in_table, no_type_in_table, one_type}
use Rattle.lalrpop_norm_theory.proofs.expansion.tables_have_types.Goals as goal

pub returns-clause-grounded : goal.returns-clause-grounded
returns-clause-grounded c = λ g x t h. step_grounded g x t h

pub returns-clause-sound : goal.returns-clause-sound
returns-clause-sound c = λ g table w x t h. typed_grounded g table w h.0 x t h.1

pub returns-clause-complete : goal.returns-clause-complete
returns-clause-complete c = λ g table a x t h. (h.0, grounded_in_table g table a h.0 x t h.1)

pub returns-clause-untyped : goal.returns-clause-untyped
returns-clause-untyped c = λ g table a n args level e t h. no_type_in_table g table a n args level e t h

pub returns-clause-once : goal.returns-clause-once
returns-clause-once c = λ g table a n args level t u h k. one_type g table a n args level t u h k
