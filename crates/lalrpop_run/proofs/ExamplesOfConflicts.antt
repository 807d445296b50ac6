-- Computed examples of conflicts that aren't right.
use Rattle.std.proofs.Common.{◌≡◌, ℕ, List, [], ◌∷◌, arith, inl, length, refl, sym}
use Rattle.lalrpop_grammar.specs.WrittenGrammar.{Grammar}
use Rattle.lalrpop_grammar_language.proofs.WrittenTreeLemmas.{finds}
use Rattle.lalrpop_run_theory.proofs.ExamplesOfExpansions.{start}
use Rattle.std.specs.Prelude.{codes}
use Rattle.lalrpop_run.specs.Asked.{Asked, ToldConflict, WrittenAnswer}
use Rattle.lalrpop_run.specs.RightAnswer.{IsRightAnswerTo}
use Rattle.lalrpop_run.proofs.ExamplesOfOneWord as one
use Rattle.lalrpop_run.proofs.ExamplesOfRightAnswers.{asked}
use Rattle.lalrpop_run.proofs.ExpansionAlikeLemmas.{lr1_is_said_of_all}

nothing : {A : Type 0} (xs : List A) → length xs ≡ 0 → xs ≡ []
nothing [] h = refl
nothing (x ∷ xs) h = absurd (omega (arith, h))

-- at least one is told
pub none_told : (q : Asked) (w : Grammar) (text : List ℕ) → IsRightAnswerTo q w text (WrittenAnswer.conflicting []) → ⊥
none_told q w text (IsRightAnswerTo.conflicts told h) =
    h.told_are.some (nothing h.told_are.conflicts (sym h.told_are.count))

-- none is told of `pub S = "a"`
pub conflicts_of_one_word : (text : List ℕ) (told : List ToldConflict) →
    IsRightAnswerTo asked one.one_word text (WrittenAnswer.conflicting told) → ⊥
conflicts_of_one_word text told (IsRightAnswerTo.conflicts all h) =
    h.no_lr1 (lr1_is_said_of_all finds [] one.one_word (codes "S") one.two h.grammar (one.there start (inl refl)) one.two_are
    h.productions.expansion one.two_lr1)
