-- What marks say of a grammar's names: for the test that nothing barren is reached.
use Rattle.std.specs.Prelude.{ℕ, ◌≡◌, ◌↔◌, Bool, List, Contains, Option, None, Some, slice_get}
use Rattle.lalrpop_grammar_symbols.specs.Symbols.{Text}
use Rattle.lalrpop_lr1_theory.specs.Productions as theory
use Rattle.lalrpop_lr1_theory.specs.NameClosures.{IsNameReached, IsProductive}
use Rattle.lalrpop_lr1_first.specs.NumberedGrammars.{IsSeenIn, table_names, table_productions}
use Rattle.lalrpop_lr1_first.specs.Tables.{symbol_of_number}
use Rattle.lalrpop_lr1_first.specs.declared.numbered.Numbered.{Numbered}
use Rattle.lalrpop_lr1_barren.specs.Clauses.{IsMarked}

-- the number is the name's
abbrev pub IsNumberOf : Numbered → ℕ → Text → Type 0
IsNumberOf table s A = symbol_of_number (table_names table) table.terminals.now s ≡ Some (theory.nonterminal A)

-- the names that are marked are those that are productive
abbrev pub AreProductive : Numbered → List Bool → Type 0
AreProductive table marks =
    (s : ℕ) (A : Text) → IsNumberOf table s A → IsMarked marks s ↔ IsProductive (IsSeenIn (table_productions table)) A

-- the names that are marked are those that the name with this number reaches
abbrev pub AreReached : Numbered → ℕ → List Bool → Type 0
AreReached table start marks =
    (B : Text) → IsNumberOf table start B → (s : ℕ) (A : Text) → IsNumberOf table s A →
    IsMarked marks s ↔ IsNameReached (IsSeenIn (table_productions table)) B A

-- a place of the element in the list, or none where it isn't there
abbrev pub IsPlaceOfElement : {X : Type 0} → List X → X → Option ℕ → Type 0
IsPlaceOfElement xs x None = Contains xs x → ⊥
IsPlaceOfElement xs x (Some k) = slice_get xs k ≡ Some x
