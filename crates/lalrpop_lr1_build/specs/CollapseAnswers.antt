-- What the collapse of canonical states answers: these put together, without conflicts or with all of them.
use Rattle.std.specs.Prelude.{◌≡◌, ◌↔◌, ℕ, true, List, [], Contains, length, map, flat_map}
use Rattle.lalrpop_grammar_symbols.specs.declared.names.NonterminalString.{NonterminalString}
use Rattle.lalrpop_grammar_repr.specs.declared.grammar.Grammar.{Grammar}
use Rattle.lalrpop_grammar_repr.specs.declared.terminal_set.TerminalSet.{TerminalSet}
use Rattle.lalrpop_lr1_theory.specs.Automata.{Carries, EndAlone}
use Rattle.lalrpop_lr1_theory.specs.CanonicalStates.{AreLr0States, HaveItemsAscending}
use Rattle.lalrpop_lr1_theory.specs.Productions as theory
use Rattle.lalrpop_lr1_theory.specs.States as states
use Rattle.lalrpop_lr1_theory.specs.States.{HasEdge, HasItem, HasLookahead}
use Rattle.lalrpop_lr1_core.specs.Conflicts.{token_conflicts}
use Rattle.lalrpop_lr1_core.specs.Views.{lr_state_view, token_lookahead}
use Rattle.lalrpop_lr1_core.specs.declared.conflict.Conflict.{Conflict}
use Rattle.lalrpop_lr1_core.specs.declared.state.State.{State}
use Rattle.lalrpop_lr1_core.specs.declared.table_fault.TableFault.{TableFault}
use Rattle.lalrpop_lr1_core.specs.declared.table_fault.TableFault.TheVariants as faults
use Rattle.lalrpop_lr1_first.specs.NumberedGrammars.{HasItsTerminals}
use Rattle.lalrpop_lr1_build.specs.BuiltStates.{AreBuiltStates, ItemBefore}
use Rattle.lalrpop_lr1_core.specs.TheoryGrammars.{theory_grammar}
use Rattle.lalrpop_lr1_theory.specs.CollapseLaws.{HasProductionOf}
use Rattle.lalrpop_lr1_theory.specs.CollapsedStates.{IsCollapse}
use Rattle.lalrpop_lr1_theory.specs.JoinedStates.{AreNumbersAsSeen}
use Rattle.lalrpop_lr1_theory.specs.SameStates.{AreSameUpToNumbers}
use Rattle.lalrpop_lr1_build.specs.StateCores.{core_in_state}
use Rattle.lalrpop_lr1_build.specs.JoinedStates.{AreJoinedByNumbers}

-- what the theory sees of states over these terminals
abbrev pub states_over : TerminalSet → List (State (List ℕ)) → List states.State
states_over ts built = map (lr_state_view (token_lookahead ts)) built

-- the states are the canonical ones of the grammar, which has these terminals
pub record AreCanonicalOf (g : Grammar) (start : NonterminalString) (ts : TerminalSet) (built : List (State (List ℕ))) : Type 0 where
  pub own : HasItsTerminals g
  pub terminals : g.terminals ≡ ts
  pub states_are : AreBuiltStates (λ set. set) (token_lookahead g.terminals) true EndAlone g start built

-- they are those of some grammar
abbrev pub AreCanonicalOfSome : TerminalSet → List (State (List ℕ)) → Type 0
AreCanonicalOfSome ts built = (g : Grammar) × (start : NonterminalString) × AreCanonicalOf g start ts built

-- The states are put together by their cores, which are numbered as they are first seen, and the items of each are in order.
pub record AreCollapsedStates (ts : TerminalSet) (built collapsed : List (State (List ℕ))) : Type 0 where
  pub numbers : List ℕ
  pub seen : AreNumbersAsSeen (map core_in_state built) numbers
  pub joined : AreJoinedByNumbers built numbers (length built) collapsed
  pub collapse : IsCollapse (states_over ts built) numbers (states_over ts collapsed)
  pub ascending : HaveItemsAscending ItemBefore (states_over ts collapsed)

-- they have no conflict
pub record IsCollapseWithout (ts : TerminalSet) (built collapsed : List (State (List ℕ))) : Type 0 where
  pub states_are : AreCollapsedStates ts built collapsed
  pub none : flat_map (token_conflicts ts) collapsed ≡ []

-- there are conflicts: just those of the states, state by state
pub record IsCollapseWith (ts : TerminalSet) (built collapsed : List (State (List ℕ))) (conflicts : List (Conflict (List ℕ))) :
    Type 0 where
  pub states_are : AreCollapsedStates ts built collapsed
  pub conflicts_are : conflicts ≡ flat_map (token_conflicts ts) collapsed
  pub some : conflicts ≡ [] → ⊥

-- why no states are answered: these have conflicts, or memory ran out
abbrev pub IsCollapseFault : TerminalSet → List (State (List ℕ)) → TableFault (List ℕ) → Type 0
IsCollapseFault ts built (faults.Conflicts e) = IsCollapseWith ts built e.states.items e.conflicts.items
IsCollapseFault ts built faults.Memory = Unit {0}

-- The states are those of the grammar without lookaheads, up to their numbers, and each item has just the lookaheads that are
-- carried to it.
pub record AreLalrStates (g : Grammar) (start : NonterminalString) (collapsed : List (State (List ℕ))) : Type 0 where
  pub carried : (n : ℕ) (p : theory.Production) (i : ℕ) (x : theory.Next) →
      HasLookahead (states_over g.terminals collapsed) n p i x
      ↔ Carries (Contains (theory_grammar g)) start.0 (HasItem (states_over g.terminals collapsed))
      (HasEdge (states_over g.terminals collapsed)) n p i x
  pub lr0 : (others : List states.State) → HasProductionOf (theory_grammar g) start.0 →
      AreLr0States (theory_grammar g) start.0 others → AreSameUpToNumbers (states_over g.terminals collapsed) others

-- the same where they have conflicts
abbrev pub TellsLalrStates : Grammar → NonterminalString → TableFault (List ℕ) → Type 0
TellsLalrStates g start (faults.Conflicts e) = AreLalrStates g start e.states.items
TellsLalrStates g start faults.Memory = Unit {0}
