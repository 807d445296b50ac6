-- A text has one right answer, but that a run may pass the limit before it comes to a wrong token or to the end; and none where conflicts
-- are right. Of two lists of an expansion's productions the actions are in one order.
use Rattle.std.specs.Prelude.{ℕ, ◌<◌, ◌≡◌, ◌⊎◌, Contains, List}
use Rattle.lalrpop_grammar.specs.WrittenGrammar.{Grammar}
use Rattle.lalrpop_grammar_language.specs.Expansion.{InExpansion, Nonterminal}
use Rattle.lalrpop_lr1_theory.specs.Productions.{Production}
use Rattle.lalrpop_run_theory.specs.TextAnswers.{TextAnswer}
use Rattle.lalrpop_run.specs.Asked.{Asked, ToldConflict, WrittenAnswer, enabled}
use Rattle.lalrpop_run.specs.ProductionOrders.{AreItsProductions}
use Rattle.lalrpop_run.specs.RightAnswer.{IsRightAnswerTo}

-- tokens stop beginning a sentence
abbrev pub IsStopAnswer : TextAnswer → Type 0
IsStopAnswer (TextAnswer.wrong_token at word) = Unit {0}
IsStopAnswer TextAnswer.early_end = Unit {0}
IsStopAnswer TextAnswer.over_limit = ⊥
IsStopAnswer (TextAnswer.no_token at) = ⊥
IsStopAnswer (TextAnswer.written t) = ⊥

-- the limit is passed before the tokens stop
abbrev pub IsLimitBefore : TextAnswer → TextAnswer → Type 0
IsLimitBefore a b = (a ≡ TextAnswer.over_limit) × IsStopAnswer b

abbrev pub AreOneAnswer : TextAnswer → TextAnswer → Type 0
AreOneAnswer a b = (a ≡ b) ⊎ (IsLimitBefore a b ⊎ IsLimitBefore b a)

abbrev pub TextAnswersAreOne : Type 0
TextAnswersAreOne =
    (q : Asked) (w : Grammar) (text : List ℕ) (a b : TextAnswer) → IsRightAnswerTo q w text (WrittenAnswer.to_text a) →
    IsRightAnswerTo q w text (WrittenAnswer.to_text b) → AreOneAnswer a b

abbrev pub ConflictsGiveNoAnswer : Type 0
ConflictsGiveNoAnswer =
    (q : Asked) (w : Grammar) (text other : List ℕ) (told : List ToldConflict) (a : TextAnswer) →
    InExpansion (enabled q w) (Nonterminal.start q.start) → IsRightAnswerTo q w text (WrittenAnswer.conflicting told) →
    IsRightAnswerTo q w other (WrittenAnswer.to_text a) → ⊥

-- of two lists of productions under the same names the actions of a nonterminal's productions are in one order, label by label
abbrev pub NumbersAreInOneOrder : Type 0
NumbersAreInOneOrder =
    (q : Asked) (w : Grammar) (some others : List Production) (e : AreItsProductions q w some) (f : AreItsProductions q w others) →
    ((x : Nonterminal) → InExpansion (enabled q w) x → e.expansion.name_of x ≡ f.expansion.name_of x) → (p r u v : Production) → Contains some p → Contains some r → Contains others u →
    Contains others v → p.left ≡ r.left → e.expansion.label_of p.action ≡ f.expansion.label_of u.action →
    e.expansion.label_of r.action ≡ f.expansion.label_of v.action → p.action < r.action → u.action < v.action
