-- Marks with the list of the numbers that are marked: for marks that are lent from state to state.
use Rattle.std.specs.Prelude.{ℕ, ◌≡◌, ◌↔◌, Contains, length}
use Rattle.lalrpop_lr1_barren.specs.Clauses.{IsMarked}
use Rattle.lalrpop_lr1_first.specs.FirstNumbers.{name_count}
use Rattle.lalrpop_lr1_first.specs.declared.numbered.Numbered.{Numbered}
use Rattle.lalrpop_lr1_check.specs.MarkGains.{GainsMarks}
use Rattle.lalrpop_lr1_check.specs.declared.closure.listed_marks.ListedMarks.{ListedMarks}

-- the list has just the numbers that are marked
abbrev pub AreListed : ListedMarks → Type 0
AreListed m = (n : ℕ) → Contains m.numbers.items n ↔ IsMarked m.marks.items n

-- so many marks, with their list
pub record AreMarksFor (count : ℕ) (m : ListedMarks) : Type 0 where
  pub long : length m.marks.items ≡ count
  pub listed : AreListed m

-- marks for the table's names, and marks for its productions
pub record AreLentMarks (table : Numbered) (names productions : ListedMarks) : Type 0 where
  pub of_names : AreMarksFor (name_count table) names
  pub of_productions : AreMarksFor (length table.productions.items) productions

-- the new marks are the old ones and these, and the list is that of the new ones
pub record GainsListed (old new : ListedMarks) (Mark : ℕ → Type 0) : Type 0 where
  pub gains : GainsMarks old.marks.items new.marks.items Mark
  pub listed : AreListed old → AreListed new
