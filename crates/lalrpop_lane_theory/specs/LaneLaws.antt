-- What the laws on lanes, columns and merged states say, over lists of productions and of states.
use Rattle.std.specs.Prelude.{ℕ, ◌≤◌, List, [], length, ◌≡◌, ◌⊎◌, ◌↔◌, Contains}
use Rattle.lalrpop_grammar_symbols.specs.Symbols.{Terminal, Text}
use Rattle.lalrpop_lr1_theory.specs.Productions.{Next, Production, Symbol}
use Rattle.lalrpop_lr1_theory.specs.Trees.{Move}
use Rattle.lalrpop_lr1_theory.specs.ValidItems.{NoneBarren}
use Rattle.lalrpop_lr1_theory.specs.Automata.{Carries, IsCover}
use Rattle.lalrpop_lr1_theory.specs.States.{HasEdge, HasItem, State}
use Rattle.lalrpop_lr1_theory.specs.Answers.{IsLr1, IsYieldOf, ParseAnswer, RunEnds, over_limit}
use Rattle.lalrpop_lr1_theory.specs.CheckedStates.{AreCheckedStates, IsStartAlone}
use Rattle.lalrpop_lr1_theory.specs.CanonicalStates.{AreCanonicalStates, AreLr0States}
use Rattle.lalrpop_lr1_theory.specs.CollapsedStates.{IsCollapse}
use Rattle.lalrpop_lr1_theory.specs.Laws.{HaveNoConflict}
use Rattle.lalrpop_lane_theory.specs.CarriedConflicts.{AreCarriedReductions, AreReachedCover, HaveNoCarriedConflict, ReduceByEachOnce}
use Rattle.lalrpop_lane_theory.specs.Columns.{AllFitBeside, NeverMeet, RowHolds}
use Rattle.lalrpop_lane_theory.specs.Lalr1Grammars.{IsLalr1}
use Rattle.lalrpop_lane_theory.specs.LaneTables.{AreStateMoves, AreTraceEntries, HasNextIn}
use Rattle.lalrpop_lane_theory.specs.Lanes.{LaneAdds}
use Rattle.lalrpop_lane_theory.specs.SpreadStates.{AreRedirected, AreSpreadStates, IsCopied, LeadAsOriginal, LeavesBy}

-- for a start alone, over states that are reached, an item is carried just what its lane adds, in whichever states
abbrev pub LanesAreCarried : Type 0
LanesAreCarried =
    (grammar : List Production) (s : Text) (states : List State) → IsStartAlone grammar s → AreReachedCover grammar s states →
    (n : ℕ) (p : Production) (i : ℕ) → HasItem states n p i → (x : Next) →
    Carries (Contains grammar) s (HasItem states) (HasEdge states) n p i x
    ↔ ((m : ℕ) × LaneAdds (Contains grammar) s (HasItem states) (HasEdge states) n p i m x)

-- entries that are put in one after the other all fit exactly where no two columns meet, so their order doesn't matter
abbrev pub FitIsApart : Type 0
FitIsApart = (entries : List (ℕ × List Next)) → AllFitBeside HasNextIn [] entries ↔ NeverMeet (RowHolds HasNextIn entries)

-- where what is carried leaves no conflict, the entries of a table in which any moves of a state were traced all fit
abbrev pub ColumnsSucceed : Type 0
ColumnsSucceed =
    (grammar : List Production) (s : Text) (states : List State) → IsStartAlone grammar s → AreReachedCover grammar s states →
    HaveNoCarriedConflict grammar s states → (n : ℕ) (moves : List Move) (entries : List (ℕ × List Next)) →
    AreStateMoves (HasItem states) (HasEdge states) n moves →
    AreTraceEntries (Contains grammar) s (HasItem states) (HasEdge states) n moves entries → AllFitBeside HasNextIn [] entries

-- states that are spread over a cover are a cover
abbrev pub SpreadStatesCover : Type 0
SpreadStatesCover =
    (grammar : List Production) (s : Text) (originals states : List State) (origin : ℕ → ℕ) →
    IsCover (Contains grammar) s (HasItem originals) (HasEdge originals) → AreSpreadStates originals states origin →
    IsCover (Contains grammar) s (HasItem states) (HasEdge states)

-- States are spread over the originals, the copy by the original of what it is a copy of, and all others by theirs. Edges that another
-- state had earlier, and that led on as its original's, still do.
pub record SpreadsCopy (originals states : List State) (origin : ℕ → ℕ) (from copy : ℕ) : Type 0 where
  pub new_origin : ℕ → ℕ
  pub of_copy : new_origin copy ≡ origin from
  pub of_other : (n : ℕ) → (n ≡ copy → ⊥) → new_origin n ≡ origin n
  pub spread : AreSpreadStates originals states new_origin
  pub earlier : (n : ℕ) (state : State) → (n ≡ copy → ⊥) → ((x : Symbol) → LeavesBy state x copy → ⊥) →
      LeadAsOriginal (HasEdge originals) origin (origin n) (LeavesBy state) →
      LeadAsOriginal (HasEdge originals) new_origin (new_origin n) (LeavesBy state)

-- spread states stay spread where one of them is copied, with the edges that it has or with any that lead on as its original's
abbrev pub CopiesStaySpread : Type 0
CopiesStaySpread =
    (originals states copied : List State) (origin : ℕ → ℕ) (earlier : State) (from copy : ℕ) →
    AreSpreadStates originals states origin → LeadAsOriginal (HasEdge originals) origin (origin from) (LeavesBy earlier) →
    IsCopied (HasItem states) (HasEdge states) (HasItem copied) (HasEdge copied) (LeavesBy earlier) from copy →
    SpreadsCopy originals copied origin from copy

-- and where edges to one of them lead to a copy of it
abbrev pub RedirectedStaySpread : Type 0
RedirectedStaySpread =
    (originals states redirected : List State) (origin : ℕ → ℕ) (from copy : ℕ) → AreSpreadStates originals states origin →
    AreRedirected (HasEdge states) (HasEdge redirected) from copy →
    ((n : ℕ) (p : Production) (i : ℕ) → HasItem redirected n p i ↔ HasItem states n p i) → origin copy ≡ origin from →
    AreSpreadStates originals redirected origin

-- so a merge, which copies states and redirects edges, keeps a cover
abbrev pub MergesKeepCover : Type 0
MergesKeepCover = SpreadStatesCover × CopiesStaySpread × RedirectedStaySpread

-- where the start is alone and reaches nothing barren: states that are spread over a cover that is reached, and reduce before just what
-- is carried, are checked if they have no conflict
abbrev pub CarriedAreChecked : Type 0
CarriedAreChecked =
    (grammar : List Production) (s : Text) (originals states : List State) (origin : ℕ → ℕ) → NoneBarren (Contains grammar) s →
    IsStartAlone grammar s → AreReachedCover grammar s originals → AreSpreadStates originals states origin →
    AreCarriedReductions grammar s states → HaveNoConflict states → AreCheckedStates grammar s states

-- states that reduce before just what is carried have no conflict exactly where that leaves none
abbrev pub ConflictsAreCarried : Type 0
ConflictsAreCarried =
    (grammar : List Production) (s : Text) (states : List State) → AreCarriedReductions grammar s states → ReduceByEachOnce states →
    HaveNoConflict states ↔ HaveNoCarriedConflict grammar s states

-- states that may be parsed with are at least as many as those without lookaheads
abbrev pub CheckedAreNoFewer : Type 0
CheckedAreNoFewer =
    (grammar : List Production) (s : Text) (lr0 states : List State) → AreLr0States grammar s lr0 →
    AreCheckedStates grammar s states → length lr0 ≤ length states

-- over states without lookaheads, what is carried leaves no conflict exactly where the grammar is LALR(1)
abbrev pub Lalr1IsNoCarriedConflict : Type 0
Lalr1IsNoCarriedConflict =
    (grammar : List Production) (s : Text) (states : List State) → AreLr0States grammar s states →
    IsLalr1 (Contains grammar) s ↔ HaveNoCarriedConflict grammar s states

-- canonical states put together by their cores have no conflict exactly where the grammar is LALR(1)
abbrev pub Lalr1IsNoCollapsedConflict : Type 0
Lalr1IsNoCollapsedConflict =
    (grammar : List Production) (s : Text) (states collapsed : List State) (numbers : List ℕ) →
    AreCanonicalStates grammar s states → IsCollapse states numbers collapsed →
    IsLalr1 (Contains grammar) s ↔ HaveNoConflict collapsed

-- an LALR(1) grammar is LR(1)
abbrev pub Lalr1IsLr1 : Type 0
Lalr1IsLr1 = (grammar : List Production) (s : Text) → IsLalr1 (Contains grammar) s → IsLr1 (Contains grammar) s

-- over two lists of checked states, for a start alone, runs over the same tokens end alike, but that one may pass the limit where the
-- tokens are no sentence
abbrev pub AnswersAgree : Type 0
AnswersAgree =
    (grammar : List Production) (s : Text) (states others : List State) → IsStartAlone grammar s →
    AreCheckedStates grammar s states → AreCheckedStates grammar s others → (w : List Terminal) (limit : ℕ) (a b : ParseAnswer) →
    RunEnds states s w limit a → RunEnds others s w limit b →
    (a ≡ b) ⊎ ((IsYieldOf (Contains grammar) s w → ⊥) × ((a ≡ over_limit) ⊎ (b ≡ over_limit)))
