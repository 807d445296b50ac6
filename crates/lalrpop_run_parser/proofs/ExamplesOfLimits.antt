-- What results say of a limit, computed: where it is passed, where it isn't, and what is answered.
use Rattle.std.proofs.Common.{◌≡◌, [], Err, None, Some, refl}
use Rattle.lalrpop_run_parser.specs.Limits.{TellsLimitWhere, answer_of_result}
use Rattle.lalrpop_run_parser.specs.declared.parse_error.ParseError.TheVariants as errors
use Rattle.lalrpop_run_theory.specs.TextAnswers.{TextAnswer}

-- where the limit is passed it is told, and no other answer but want of memory
limit_told : TellsLimitWhere (Unit {0}) (Err errors.Limit)
limit_told = tt

no_end : TellsLimitWhere (Unit {0}) (Err errors.End) → ⊥
no_end h = h tt

no_wrong_token : TellsLimitWhere (Unit {0}) (Err (errors.Token 3 [])) → ⊥
no_wrong_token h = h tt

memory_wants : TellsLimitWhere (Unit {0}) (Err errors.Memory)
memory_wants = tt

-- where it isn't passed it isn't told
no_limit : TellsLimitWhere ⊥ (Err errors.Limit) → ⊥
no_limit h = h

end_told : TellsLimitWhere ⊥ (Err errors.End)
end_told p = p

-- the answers that results tell, and the one that tells none
answers_end : answer_of_result (Err errors.End) ≡ Some TextAnswer.early_end
answers_end = refl

answers_token : answer_of_result (Err (errors.Token 3 [])) ≡ Some (TextAnswer.wrong_token 3 [])
answers_token = refl

answers_nothing : answer_of_result (Err errors.Memory) ≡ None
answers_nothing = refl
