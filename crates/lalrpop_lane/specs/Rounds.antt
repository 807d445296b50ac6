-- What a round of merges makes of states, and what the last one leaves.
use Rattle.std.specs.Prelude.{ℕ, ◌<◌, ◌+◌, ◌≡◌, ◌↔◌, Bool, true, List, Option, None, Some, Vec}
use Rattle.std.specs.Global.{Global}
use Rattle.lalrpop_grammar_symbols.specs.Symbols.{Text}
use Rattle.lalrpop_grammar_repr.specs.declared.grammar.Grammar.{Grammar}
use Rattle.lalrpop_lr1_theory.specs.Laws.{HaveNoConflict}
use Rattle.lalrpop_lr1_core.specs.declared.state.State.{State}
use Rattle.lalrpop_lr1_build.specs.CollapseAnswers.{states_over}
use Rattle.lalrpop_lane.specs.LaneStates.{AreReducedStates}
use Rattle.lalrpop_lane.specs.Merges.{HaveOneEdgeEach, MergesKeep}

-- states with copies of some of them, and fewer copies that may still be made
abbrev pub CopyAnswer : List (State (List ℕ)) → ℕ → Option (Vec (State (List ℕ)) Global × ℕ) → Type 0
CopyAnswer old left (Some made) = HaveOneEdgeEach old × (made.1 < left) × MergesKeep old left made.0.items made.1
CopyAnswer old left None = Unit {0}

-- reduced states, with some copies, of which some conflict
pub record AreConflicting (g : Grammar) (s : Text) (all : List (State (List ℕ))) : Type 0 where
  pub used : ℕ
  pub reduced : AreReducedStates g s used all
  pub conflict : HaveNoConflict (states_over g.terminals all) → ⊥

-- from such states come others with more copies, so that fewer may still be made
abbrev pub RoundAnswer : Grammar → Text → List (State (List ℕ)) → ℕ → Option (Vec (State (List ℕ)) Global × ℕ) → Type 0
RoundAnswer g s old left (Some made) =
    (made.1 < left) × ((used more : ℕ) → AreReducedStates g s used old → used + left ≡ more + made.1 →
    AreReducedStates g s more made.0.items)
RoundAnswer g s old left None = Unit {0}

-- reduced states between two rounds: of the copies some were made, and so many are left
pub record AreInRounds (g : Grammar) (s : Text) (copies left : ℕ) (all : List (State (List ℕ))) : Type 0 where
  pub used : ℕ
  pub counted : used + left ≡ copies
  pub reduced : AreReducedStates g s used all

-- it says whether the states have no conflict
abbrev pub TellsNoConflict : Grammar → List (State (List ℕ)) → Bool → Type 0
TellsNoConflict g all none = (none ≡ true) ↔ HaveNoConflict (states_over g.terminals all)

-- the states of the last round with at most so many copies, and whether they have no conflict
pub record IsLastRound (g : Grammar) (s : Text) (copies : ℕ) (last : Vec (State (List ℕ)) Global × Bool) : Type 0 where
  pub reduced : AreReducedStates g s copies last.0.items
  pub tells : TellsNoConflict g last.0.items last.1
