-- The clauses by which a name begins with others: for the names that a closure brings.
use Rattle.std.specs.Prelude.{◌↔◌, ℕ, Bool, List, [], ◌∷◌, Option, None, Some}
use Rattle.lalrpop_grammar_symbols.specs.Symbols.{Text}
use Rattle.lalrpop_lr1_first.specs.ClosureTables.{name_behind}
use Rattle.lalrpop_lr1_first.specs.declared.numbered.Numbered.{Numbered}
use Rattle.lalrpop_lr1_first.specs.declared.place.NumberedRule.{NumberedRule}
use Rattle.lalrpop_lr1_barren.specs.Clauses.{IsMarked}
use Rattle.lalrpop_lr1_barren.specs.NameMarks.{IsNumberOf}

-- the clause from a number to another, if there is one
abbrev pub begin_to : ℕ → Option ℕ → List (List ℕ × ℕ)
begin_to from None = []
begin_to from (Some s) = (from ∷ [], s) ∷ []

abbrev pub begin_of_rule : Numbered → NumberedRule → List (List ℕ × ℕ)
begin_of_rule table rule = begin_to rule.left (name_behind table rule.start)

-- of the table's names just these are marked
abbrev pub AreMarksOf : Numbered → List Bool → (Text → Type 0) → Type 0
AreMarksOf table marks Name = (s : ℕ) (A : Text) → IsNumberOf table s A → IsMarked marks s ↔ Name A
