-- What the construction answers with the lookaheads of its starts: the end alone, or nothing. For the public construction.
use Rattle.std.proofs.Common.{◌≡◌, ◌∙◌, ◌↔◌, ◌||◌, inl, inr, ℕ, Bool, true, false, List, []}
use Rattle.std.proofs.Common.{◌∷◌, Contains, sym, ap, arith}
use Rattle.lalrpop_grammar_symbols.specs.declared.names.NonterminalString.{NonterminalString}
use Rattle.lalrpop_grammar_repr.specs.declared.grammar.Grammar.{Grammar}
use Rattle.lalrpop_grammar_repr.specs.declared.terminal_set.TerminalSet.{TerminalSet}
use Rattle.lalrpop_lr1_theory.specs.Automata.{EndAlone}
use Rattle.lalrpop_lr1_theory.specs.Productions as theory
use Rattle.lalrpop_lr1_theory.specs.States as states
use Rattle.lalrpop_lr1_theory.specs.ValidItems.{NoneBarren}
use Rattle.lalrpop_lr1_core.specs.Conflicts.{nil_conflicts, token_conflicts}
use Rattle.lalrpop_lr1_core.specs.Views.{next_of_number, nil_lookahead, token_lookahead}
use Rattle.lalrpop_lr1_core.specs.declared.conflict.Conflict.{Conflict}
use Rattle.lalrpop_lr1_core.specs.declared.state.State.{State}
use Rattle.lalrpop_lr1_core.specs.declared.table_fault.TableFault.{TableFault}
use Rattle.lalrpop_lr1_core.specs.declared.table_fault.TableFault.TheVariants as faults
use Rattle.lalrpop_sets.specs.AscendingLists.{has}
use Rattle.lalrpop_sets.specs.Tokens.{eof_number}
use Rattle.lalrpop_sets.specs.declared.nil.Nil.{Nil}
use Rattle.lalrpop_lr1_first.specs.NumberedGrammars.{HasItsTerminals}
use Rattle.lalrpop_lr1_first.specs.Tables.{IsTerminalSet}
use Rattle.lalrpop_lr1_first.proofs.ListLemmas.{eqb_true, or_cases}
use Rattle.lalrpop_sets.proofs.AscendingListLemmas.{eqb_self}
use Rattle.lalrpop_lr1_first.proofs.TableLemmas.{end_is_none}
use Rattle.lalrpop_lr1_build.specs.Nexts.{IsNextIn}
use Rattle.lalrpop_lr1_build.specs.BuiltStates.{AreCanonicalWithout, AreLr0Without, HaveNoConflictBuilt, IsCanonicalFault, IsFaultBuilt}
use Rattle.lalrpop_lr1_build.specs.BuiltStates.{IsLr0Fault, TellsNoLr1}
use Rattle.lalrpop_lr1_core.specs.TheoryGrammars.{theory_grammar}
use Rattle.lalrpop_lr1_build.proofs.BuiltLemmas.{built_alike}
use Rattle.lalrpop_lr1_build.proofs.Lr1Lemmas.{conflicts_tell}

-- a set with the end's number alone is the end alone
end_alike : (ts : TerminalSet) → IsTerminalSet ts → (end : List ℕ) → end ≡ eof_number ts ∷ [] → (x : theory.Next) →
    IsNextIn ts end x ↔ EndAlone x
end_alike ts set end e x = (
  λ h. sym h.3 ∙ ap (next_of_number ts) (only h.0 (ap (λ s. has s h.0) (sym e) ∙ h.2)) ∙ end_is_none ts set,
  λ h. (
    eof_number ts,
    omega arith,
    ap (λ s. has s (eof_number ts)) e ∙ here (eof_number ts),
    end_is_none ts set ∙ sym h,
  ),
)
  where
    here : (k : ℕ) → has (k ∷ []) k ≡ true
    here k = ap (λ b. b || false) (eqb_self k)

    only : (k : ℕ) → has (eof_number ts ∷ []) k ≡ true → k ≡ eof_number ts
    only k h = elim (or_cases _ false h) [ inl f ↦ sym (eqb_true (eof_number ts) k f) | inr f ↦ let z : ⊥ = cc in absurd z ]

-- no number is nothing
nil_alike : (ts : TerminalSet) (x : theory.Next) → IsNextIn ts [] x ↔ ⊥
nil_alike ts x = (λ h. let f : false ≡ true = h.2 in let z : ⊥ = cc in z, λ z. absurd z)

module _ {L : Type 0} (marks : L → List ℕ) (look : L → states.LookaheadSet) (firsts : Bool) (Start Other : theory.Next → Type 0)
    (g : Grammar) (start : NonterminalString) (conflicts_in : State L → List (Conflict L))
    (same : (x : theory.Next) → Start x ↔ Other x) where
  none_alike : (built : List (State L)) → HaveNoConflictBuilt marks look firsts Start g start conflicts_in built →
      HaveNoConflictBuilt marks look firsts Other g start conflicts_in built
  none_alike built h =
      record { states_are = built_alike marks look firsts Start Other g start same built h.states_are; none = h.none }

  fault_alike : (fault : TableFault L) → IsFaultBuilt marks look firsts Start g start conflicts_in fault →
      IsFaultBuilt marks look firsts Other g start conflicts_in fault
  fault_alike (faults.Conflicts e) h = record {
    states_are = built_alike marks look firsts Start Other g start same e.states.items h.states_are;
    conflicts_are = h.conflicts_are;
    some = h.some;
  }
  fault_alike faults.Memory h = tt

module _ (g : Grammar) (own : HasItsTerminals g) (start : NonterminalString) (end : List ℕ) (is : end
    ≡ eof_number g.terminals ∷ []) where
  -- states and conflicts before the end are the canonical ones
  pub canonical_states : (built : List (State (List ℕ))) →
      HaveNoConflictBuilt (λ (set : List ℕ). set) (token_lookahead g.terminals) true (IsNextIn g.terminals end) g start
      (token_conflicts g.terminals) built → AreCanonicalWithout g start built
  canonical_states built h =
      none_alike (λ (set : List ℕ). set) (token_lookahead g.terminals) true (IsNextIn g.terminals end) EndAlone g start
      (token_conflicts g.terminals) (end_alike g.terminals own.numbered end is) built h

  pub canonical_fault : (fault : TableFault (List ℕ)) →
      IsFaultBuilt (λ (set : List ℕ). set) (token_lookahead g.terminals) true (IsNextIn g.terminals end) g start
      (token_conflicts g.terminals) fault → IsCanonicalFault g start fault
  canonical_fault fault h =
      fault_alike (λ (set : List ℕ). set) (token_lookahead g.terminals) true (IsNextIn g.terminals end) EndAlone g start
      (token_conflicts g.terminals) (end_alike g.terminals own.numbered end is) fault h

-- conflicts tell that the grammar isn't LR(1)
pub fault_tells : (g : Grammar) → HasItsTerminals g → (start : NonterminalString) →
    NoneBarren (Contains (theory_grammar g)) start.0 →
    (fault : TableFault (List ℕ)) → IsCanonicalFault g start fault → TellsNoLr1 g start fault
fault_tells g own start nb (faults.Conflicts e) h =
    conflicts_tell g own start e.states.items h.states_are nb e.conflicts.items h.conflicts_are h.some
fault_tells g own start nb faults.Memory h = tt

-- states and conflicts before nothing are those without lookaheads
pub lr0_states : (g : Grammar) (start : NonterminalString) (built : List (State Nil)) →
    HaveNoConflictBuilt (λ (n : Nil). []) nil_lookahead false (IsNextIn g.terminals []) g start nil_conflicts built →
    AreLr0Without g start built
lr0_states g start built h =
    none_alike (λ (n : Nil). []) nil_lookahead false (IsNextIn g.terminals []) (λ x. ⊥) g start nil_conflicts
    (nil_alike g.terminals) built h

-- a fault of building before nothing is one of building without lookaheads
pub lr0_fault : (g : Grammar) (start : NonterminalString) (fault : TableFault Nil) →
    IsFaultBuilt (λ (n : Nil). []) nil_lookahead false (IsNextIn g.terminals []) g start nil_conflicts fault →
    IsLr0Fault g start fault
lr0_fault g start fault h =
    fault_alike (λ (n : Nil). []) nil_lookahead false (IsNextIn g.terminals []) (λ x. ⊥) g start nil_conflicts
    (nil_alike g.terminals) fault h
