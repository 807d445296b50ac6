-- What the law on states in another order says, over lists of productions and of states.
use Rattle.std.specs.Prelude.{ℕ, List}
use Rattle.lalrpop_grammar_symbols.specs.Symbols.{Text}
use Rattle.lalrpop_lr1_theory.specs.Productions.{Production}
use Rattle.lalrpop_lr1_theory.specs.States.{State}
use Rattle.lalrpop_lr1_theory.specs.CheckedStates.{AreCheckedStates}
use Rattle.lalrpop_lr1_theory.specs.RenumberedStates.{AreRenumberedStates}

-- checked states stay checked by other numbers
abbrev pub RenumberedAreChecked : Type 0
RenumberedAreChecked =
    (grammar : List Production) (s : Text) (states others : List State) (numbers : List ℕ) → AreCheckedStates grammar s states →
    AreRenumberedStates states others numbers → AreCheckedStates grammar s others
