-- What the construction of states answers: all states of a grammar, in order, or these with their conflicts. For those who ask for states.
use Rattle.std.specs.Prelude.{◌≡◌, ◌⊎◌, ◌<◌, ◌≤◌, ℕ, Bool, true, false, List, [], All, Contains, map}
use Rattle.std.specs.Prelude.{flat_map, Some, slice_get}
use Rattle.std.specs.declared.cmp.Ordering.TheVariants.{Less}
use Rattle.lalrpop_grammar_symbols.specs.Symbols.{Terminal}
use Rattle.lalrpop_grammar_symbols.specs.declared.names.NonterminalString.{NonterminalString}
use Rattle.lalrpop_grammar_repr.specs.contracts.production.ProductionOrd.TheImpl as production_order
use Rattle.lalrpop_grammar_repr.specs.declared.grammar.Grammar.{Grammar}
use Rattle.lalrpop_grammar_repr.specs.declared.production.Production.{Production}
use Rattle.lalrpop_grammar_repr.specs.declared.terminal_set.TerminalSet.{TerminalSet}
use Rattle.lalrpop_lr1_theory.specs.Answers.{IsLr1}
use Rattle.lalrpop_lr1_theory.specs.Automata.{EndAlone}
use Rattle.lalrpop_lr1_theory.specs.CanonicalStates.{AreConstructedStates, AreNumberedAsSeen, HaveItemsAscending, SymbolBefore}
use Rattle.lalrpop_lr1_theory.specs.Productions as theory
use Rattle.lalrpop_lr1_theory.specs.States as states
use Rattle.lalrpop_lr1_core.specs.Conflicts.{nil_conflicts, token_conflicts}
use Rattle.lalrpop_lr1_core.specs.Views.{lr_state_view, next_of_number, nil_lookahead, production_view, token_lookahead}
use Rattle.lalrpop_lr1_core.specs.declared.conflict.Conflict.{Conflict}
use Rattle.lalrpop_lr1_core.specs.declared.state.State.{State}
use Rattle.lalrpop_lr1_core.specs.declared.table_fault.TableFault.{TableFault}
use Rattle.lalrpop_lr1_core.specs.declared.table_fault.TableFault.TheVariants as faults
use Rattle.lalrpop_sets.specs.AscendingLists.{has}
use Rattle.lalrpop_sets.specs.Tokens.{eof_number}
use Rattle.lalrpop_sets.specs.declared.nil.Nil.{Nil}
use Rattle.lalrpop_lr1_core.specs.TheoryGrammars.{NameBefore, theory_grammar}

-- terminals in the order in which the grammar has them
pub record TerminalBefore (ts : TerminalSet) (t u : Terminal) : Type 0 where
  pub one : ℕ
  pub other : ℕ
  pub less : one < other
  pub one_is : next_of_number ts one ≡ Some t
  pub other_is : next_of_number ts other ≡ Some u

-- items in the order of their productions, then of their dots
pub record ItemBefore (a b : states.Item) : Type 0 where
  pub one : Production
  pub other : Production
  pub one_is : a.production ≡ production_view one
  pub other_is : b.production ≡ production_view other
  pub before : ((production_order.ghosts).cmp one other ≡ Less) ⊎ ((one ≡ other) × (a.dot < b.dot))

module _ {L : Type 0} (marks : L → List ℕ) (look : L → states.LookaheadSet) (firsts : Bool) (Start : theory.Next →
    Type 0) (g : Grammar)
    (start : NonterminalString) where
  -- The states are those of the grammar, each once: with lookaheads, or, where `firsts` is false, without. They are numbered as
  -- they are first seen, nonterminals before terminals, each in order; the items of each are in order; and what may follow a
  -- reduction are terminals and the end alone.
  pub record AreBuiltStates (built : List (State L)) : Type 0 where
    pub constructed : AreConstructedStates firsts Start (theory_grammar g) start.0 (map (lr_state_view look) built)
    pub numbered : AreNumberedAsSeen (SymbolBefore NameBefore (TerminalBefore g.terminals)) (map (lr_state_view look) built)
    pub ascending : HaveItemsAscending ItemBefore (map (lr_state_view look) built)
    pub tokens : (n : ℕ) (state : State L) → slice_get built n ≡ Some state →
        All (λ r. (k : ℕ) → has (marks r.0) k ≡ true → k ≤ eof_number g.terminals) state.reductions

  module _ (conflicts_in : State L → List (Conflict L)) where
    -- the states have no conflict
    pub record HaveNoConflictBuilt (built : List (State L)) : Type 0 where
      pub states_are : AreBuiltStates built
      pub none : flat_map conflicts_in built ≡ []

    -- there are conflicts: just those of the states, state by state
    pub record HaveConflictsBuilt (built : List (State L)) (conflicts : List (Conflict L)) : Type 0 where
      pub states_are : AreBuiltStates built
      pub conflicts_are : conflicts ≡ flat_map conflicts_in built
      pub some : conflicts ≡ [] → ⊥

    -- why no states are answered: these have conflicts, or memory ran out
    abbrev pub IsFaultBuilt : TableFault L → Type 0
    IsFaultBuilt (faults.Conflicts e) = HaveConflictsBuilt e.states.items e.conflicts.items
    IsFaultBuilt faults.Memory = Unit {0}

-- the canonical states of the grammar, without conflicts
abbrev pub AreCanonicalWithout : Grammar → NonterminalString → List (State (List ℕ)) → Type 0
AreCanonicalWithout g start =
    HaveNoConflictBuilt (λ set. set) (token_lookahead g.terminals) true EndAlone g start (token_conflicts g.terminals)

-- the canonical states of the grammar with their conflicts, or no memory
abbrev pub IsCanonicalFault : Grammar → NonterminalString → TableFault (List ℕ) → Type 0
IsCanonicalFault g start =
    IsFaultBuilt (λ set. set) (token_lookahead g.terminals) true EndAlone g start (token_conflicts g.terminals)

-- the states of the grammar without lookaheads, and without conflicts
abbrev pub AreLr0Without : Grammar → NonterminalString → List (State Nil) → Type 0
AreLr0Without g start = HaveNoConflictBuilt (λ n. []) nil_lookahead false (λ x. ⊥) g start nil_conflicts

-- the states of the grammar without lookaheads, with their conflicts, or no memory
abbrev pub IsLr0Fault : Grammar → NonterminalString → TableFault Nil → Type 0
IsLr0Fault g start = IsFaultBuilt (λ n. []) nil_lookahead false (λ x. ⊥) g start nil_conflicts

-- where conflicts are told, the grammar isn't LR(1)
abbrev pub TellsNoLr1 : Grammar → NonterminalString → TableFault (List ℕ) → Type 0
TellsNoLr1 g start (faults.Conflicts e) = IsLr1 (Contains (theory_grammar g)) start.0 → ⊥
TellsNoLr1 g start faults.Memory = Unit {0}
