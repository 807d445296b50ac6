-- What the builders of states answer, by either method: states or their conflicts.
use Rattle.std.specs.Prelude.{ℕ, ◌≡◌, ◌⊎◌, Bool, true, false, Contains, List, MatchResult, None, Option, Result, Some, Vec, length}
use Rattle.std.specs.Global.{Global}
use Rattle.lalrpop_grammar_symbols.specs.Symbols.{Text}
use Rattle.lalrpop_grammar_symbols.specs.declared.names.NonterminalString.{NonterminalString}
use Rattle.lalrpop_grammar_repr.specs.declared.grammar.Grammar.{Grammar}
use Rattle.lalrpop_lr1_core.specs.declared.state.State.{State}
use Rattle.lalrpop_lr1_core.specs.declared.table_fault.TableFault.{TableFault}
use Rattle.lalrpop_lr1_core.specs.declared.table_fault.TableFault.TheVariants as faults
use Rattle.lalrpop_lr1_core.specs.TheoryGrammars.{theory_grammar}
use Rattle.lalrpop_lr1_build.specs.BuiltStates.{AreCanonicalWithout, IsCanonicalFault}
use Rattle.lalrpop_lr1_build.specs.CollapseAnswers.{IsCollapseFault, IsCollapseWithout, states_over}
use Rattle.lalrpop_grammar_repr.specs.declared.methods.Method.{Method}
use Rattle.lalrpop_grammar_repr.specs.declared.methods.Method.TheVariants as methods
use Rattle.lalrpop_lr1_build.specs.Renumbering.{HaveTargetsWithin}
use Rattle.lalrpop_lr1_theory.specs.CanonicalStates.{AreLr0States}
use Rattle.lalrpop_lr1_theory.specs.CheckedStates.{AreCheckedStates, IsStartAlone}
use Rattle.lalrpop_lr1_theory.specs.GotoOrders.{AreInGotoOrder}
use Rattle.lalrpop_lr1_theory.specs.States as states
use Rattle.lalrpop_lr1_theory.specs.ValidCores.{CountsCoreSets}
use Rattle.lalrpop_lr1_theory.specs.ValidItems.{NoneBarren}
use Rattle.lalrpop_lane_theory.specs.CarriedConflicts.{HaveNoCarriedConflict}
use Rattle.lalrpop_lane_theory.specs.Lalr1Grammars.{IsLalr1}
use Rattle.lalrpop_lr1_theory.specs.RenumberedStates.{AreRenumberedStates}

-- the canonical states have no conflict, and put together by their cores they are these, without conflicts
pub record AreLalrWithout (g : Grammar) (start : NonterminalString) (states : List (State (List ℕ))) : Type 0 where
  pub built : List (State (List ℕ))
  pub canonical : AreCanonicalWithout g start built
  pub collapse : IsCollapseWithout g.terminals built states

-- the canonical states have none, and put together they have those that are told
pub record IsLalrFault (g : Grammar) (start : NonterminalString) (fault : TableFault (List ℕ)) : Type 0 where
  pub built : List (State (List ℕ))
  pub canonical : AreCanonicalWithout g start built
  pub collapse : IsCollapseFault g.terminals built fault

-- states that may be parsed with
abbrev pub MayBeParsedWith : Grammar → NonterminalString → List (State (List ℕ)) → Type 0
MayBeParsedWith g start states = AreCheckedStates (theory_grammar g) start.0 (states_over g.terminals states)

-- LR(1) states by a method: by the canonical way the canonical ones; by lanes some that may be parsed with, or these
abbrev pub AreLr1By : Method → Grammar → NonterminalString → List (State (List ℕ)) → Type 0
AreLr1By (methods.Lane copies) g start states = MayBeParsedWith g start states ⊎ AreCanonicalWithout g start states
AreLr1By methods.Canonical g start states = AreCanonicalWithout g start states

-- LALR(1) states by a method: by the canonical way the canonical ones put together; by lanes as LR(1) states
abbrev pub AreLalrBy : Method → Grammar → NonterminalString → List (State (List ℕ)) → Type 0
AreLalrBy (methods.Lane copies) g start states = AreLr1By (methods.Lane copies) g start states
AreLalrBy methods.Canonical g start states = AreLalrWithout g start states

-- what is carried over these states, which are the grammar's without lookaheads, leaves no conflict
pub record IsFreeOfConflicts (g : Grammar) (start : NonterminalString) (lr0 : List states.State) : Type 0 where
  pub none_barren : NoneBarren (Contains (theory_grammar g)) start.0
  pub alone : IsStartAlone (theory_grammar g) start.0
  pub lr0_are : AreLr0States (theory_grammar g) start.0 lr0
  pub no_conflict : HaveNoCarriedConflict (theory_grammar g) start.0 lr0

-- Where a start that is alone reaches nothing barren, and what is carried over the states without lookaheads leaves no conflict, just as
-- many states are answered as there are of these; or memory ran out.
abbrev pub HaveFewest : Grammar → NonterminalString → Result (Vec (State (List ℕ)) Global) (TableFault (List ℕ)) → Type 0
HaveFewest g start result =
    (lr0 : List states.State) → IsFreeOfConflicts g start lr0 →
    MatchResult result (λ found. length found.items ≡ length lr0) (λ fault. fault ≡ faults.Memory)

-- this is so by lanes
abbrev pub AreFewestBy : Method → Grammar → NonterminalString → Result (Vec (State (List ℕ)) Global) (TableFault (List ℕ)) → Type 0
AreFewestBy (methods.Lane copies) g start result = HaveFewest g start result
AreFewestBy methods.Canonical g start result = Unit {0}

-- a start that is alone reaches nothing barren, and the grammar is LALR(1)
pub record IsLalr1Alone (g : Grammar) (start : NonterminalString) : Type 0 where
  pub none_barren : NoneBarren (Contains (theory_grammar g)) start.0
  pub alone : IsStartAlone (theory_grammar g) start.0
  pub lalr1 : IsLalr1 (Contains (theory_grammar g)) start.0

-- Then there is one state for each nonempty set of valid items, whatever may follow them; or memory ran out.
abbrev pub HaveOneForEachCore : Grammar → NonterminalString → Result (Vec (State (List ℕ)) Global) (TableFault (List ℕ)) → Type 0
HaveOneForEachCore g start result =
    IsLalr1Alone g start →
    MatchResult result (λ found. CountsCoreSets (Contains (theory_grammar g)) start.0 (length found.items))
    (λ fault. fault ≡ faults.Memory)

-- this is so by lanes
abbrev pub AreForEachCoreBy : Method → Grammar → NonterminalString → Result (Vec (State (List ℕ)) Global) (TableFault (List ℕ)) →
    Type 0
AreForEachCoreBy (methods.Lane copies) g start result = HaveOneForEachCore g start result
AreForEachCoreBy methods.Canonical g start result = Unit {0}

-- states by lanes that may be parsed with, to which all edges lead, and no more than are needed
pub record AreCheckedByLanes (g : Grammar) (s : Text) (all : List (State (List ℕ))) : Type 0 where
  pub checked : AreCheckedStates (theory_grammar g) s (states_over g.terminals all)
  pub targets : HaveTargetsWithin (length all) all
  pub fewest : (lr0 : List states.State) → AreLr0States (theory_grammar g) s lr0 →
      HaveNoCarriedConflict (theory_grammar g) s lr0 → length all ≡ length lr0
  pub for_each_core : IsLalr1 (Contains (theory_grammar g)) s → CountsCoreSets (Contains (theory_grammar g)) s (length all)

-- what is answered by lanes of states that may be parsed with: some, or none only where something is in the way
abbrev pub CheckedLaneAnswer : Grammar → Text → Option (Vec (State (List ℕ)) Global) → Type 0
CheckedLaneAnswer g s (Some found) = AreCheckedByLanes g s found.items
CheckedLaneAnswer g s None =
    NoneBarren (Contains (theory_grammar g)) s → IsStartAlone (theory_grammar g) s → IsLalr1 (Contains (theory_grammar g)) s → ⊥

-- conflicts of the canonical states; or, by the canonical way, where these have none, of them put together
abbrev pub IsLalrFaultBy : Method → Grammar → NonterminalString → TableFault (List ℕ) → Type 0
IsLalrFaultBy (methods.Lane copies) g start fault = IsCanonicalFault g start fault
IsLalrFaultBy methods.Canonical g start fault = IsCanonicalFault g start fault ⊎ IsLalrFault g start fault

-- which states were asked for: LALR(1) ones or LR(1) ones
abbrev pub AreAskedStates : Bool → Method → Grammar → NonterminalString → List (State (List ℕ)) → Type 0
AreAskedStates true method g start states = AreLalrBy method g start states
AreAskedStates false method g start states = AreLr1By method g start states

abbrev pub IsAskedFault : Bool → Method → Grammar → NonterminalString → TableFault (List ℕ) → Type 0
IsAskedFault true method g start fault = IsLalrFaultBy method g start fault
IsAskedFault false method g start fault = IsCanonicalFault g start fault

-- these are the states that were asked for, by new numbers: state 0 first, then the others with gotos, then the rest
pub record AreAskedInOrder (lalr : Bool) (method : Method) (g : Grammar) (start : NonterminalString)
    (states : List (State (List ℕ))) :
    Type 0 where
  pub asked : List (State (List ℕ))
  pub numbers : List ℕ
  pub are_asked : AreAskedStates lalr method g start asked
  pub in_order : AreInGotoOrder (states_over g.terminals asked) numbers
  pub renumbered : AreRenumberedStates (states_over g.terminals asked) (states_over g.terminals states) numbers
