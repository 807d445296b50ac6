-- Canonical states that are built without conflicts show that the grammar is LR(1), and their conflicts that it isn't: for the public
-- construction.
use Rattle.std.proofs.Common.{◌≡◌, ◌∙◌, ◌↔◌, ◌≤◌, ℕ, true, List, [], Contains, map, Some, slice_get}
use Rattle.std.proofs.Common.{subst, arith}
use Rattle.std.specs.Borrow.{Bor}
use Rattle.std.specs.Prelude.{flat_map}
use Rattle.std.proofs.lemmas.List.Elements.{All-contains}
use Rattle.lalrpop_grammar_symbols.specs.declared.names.NonterminalString.{NonterminalString}
use Rattle.lalrpop_grammar_repr.specs.declared.grammar.Grammar.{Grammar}
use Rattle.lalrpop_grammar_repr.specs.declared.production.Production.{Production}
use Rattle.lalrpop_lr1_theory.specs.Answers.{IsLr1}
use Rattle.lalrpop_lr1_theory.specs.Automata.{EndAlone}
use Rattle.lalrpop_lr1_theory.specs.CheckedStates.{AreCheckedStates, HasNoConflict, IsStartAlone}
use Rattle.lalrpop_lr1_theory.specs.Laws.{HaveNoConflict, NeverTwoMoves}
use Rattle.lalrpop_lr1_theory.specs.Productions as theory
use Rattle.lalrpop_lr1_theory.specs.States as states
use Rattle.lalrpop_lr1_theory.specs.States.{HasEdge, HasItem, HasLookahead, Reduces}
use Rattle.lalrpop_lr1_theory.specs.ValidItems.{NoneBarren}
use Rattle.lalrpop_lr1_theory.proofs.CanonicalLemmas.{lr1_iff_no_conflict}
use Rattle.lalrpop_lr1_theory.proofs.CheckedLemmas.{never_two}
use Rattle.lalrpop_lr1_theory.proofs.ListLemmas.{contains_get, get_contains}
use Rattle.lalrpop_lr1_theory.proofs.ReductionLemmas.{canonical_apart, canonical_checked, reduces_finished}
use Rattle.lalrpop_lr1_core.specs.Conflicts.{token_conflicts}
use Rattle.lalrpop_lr1_core.specs.Numbering.{IsOverTokens, ReducesOverTokens}
use Rattle.lalrpop_lr1_core.specs.Views.{lr_state_view, token_lookahead}
use Rattle.lalrpop_lr1_core.specs.declared.conflict.Conflict.{Conflict}
use Rattle.lalrpop_lr1_core.specs.declared.state.State.{State}
use Rattle.lalrpop_lr1_core.proofs.MemberLemmas.{each_empty, flat_empty}
use Rattle.lalrpop_lr1_core.proofs.NoConflictLemmas.{at_mapped, mapped_at, none_is_none, none_is_there}
use Rattle.lalrpop_sets.specs.AscendingLists.{has}
use Rattle.lalrpop_sets.specs.Tokens.{eof_number}
use Rattle.lalrpop_lr1_first.specs.NumberedGrammars.{HasItsTerminals}
use Rattle.lalrpop_lr1_build.specs.BuiltStates.{AreBuiltStates}
use Rattle.lalrpop_lr1_core.specs.TheoryGrammars.{theory_grammar}
use Rattle.lalrpop_lr1_build.proofs.BuiltLemmas.{all_each}

module _ (g : Grammar) (own : HasItsTerminals g) (start : NonterminalString) (built : List (State (List ℕ)))
    (are : AreBuiltStates (λ set. set) (token_lookahead g.terminals) true EndAlone g start built) where
  abbrev views : List states.State
  views = map (lr_state_view (token_lookahead g.terminals)) built

  abbrev G : List theory.Production
  G = theory_grammar g

  over_tokens : (n : ℕ) (state : State (List ℕ)) → slice_get built n ≡ Some state → ReducesOverTokens g.terminals state
  over_tokens n state e =
      all_each (λ (r : List ℕ × Bor Production). IsOverTokens g.terminals r.0) state.reductions (λ r c k h.
      let b = All-contains (λ (x : List ℕ × Bor Production). (j : ℕ) → has x.0 j
      ≡ true → j ≤ eof_number g.terminals) state.reductions r
      (are.tokens n state e) c k h in
      omega (arith, b))

  -- no conflict in the list is none in the theory, and the other way round
  apart_there : flat_map (token_conflicts g.terminals) built ≡ [] → HaveNoConflict views
  apart_there none n view e =
      let m = at_mapped (lr_state_view (token_lookahead g.terminals)) built n view e in
      subst HasNoConflict m.2 (none_is_none g.terminals m.0 own.numbered.numbered
      (flat_empty (token_conflicts g.terminals) built m.0 none (get_contains built n m.0 m.1)))

  apart_back : HaveNoConflict views → flat_map (token_conflicts g.terminals) built ≡ []
  apart_back apart =
      each_empty (token_conflicts g.terminals) built (λ state c.
      let k = contains_get built state c in
      none_is_there g.terminals state own.numbered.places (over_tokens k.0 state k.1)
      (apart k.0 (lr_state_view (token_lookahead g.terminals) state) (mapped_at (lr_state_view (token_lookahead g.terminals)) built
      k.0 state
      k.1)))

  module _ (nb : NoneBarren (Contains G) start.0) where
    exact : IsLr1 (Contains G) start.0 ↔ NeverTwoMoves views
    exact = lr1_iff_no_conflict (Contains G) start.0 (HasItem views) (HasEdge views) (HasLookahead views) are.constructed.automaton
        (Reduces views) (reduces_finished G start.0 views are.constructed) nb

    -- without conflicts the grammar is LR(1), with conflicts it isn't
    pub built_lr1 : flat_map (token_conflicts g.terminals) built ≡ [] → IsLr1 (Contains G) start.0
    built_lr1 none = exact.1 (never_two views (apart_there none))

    pub conflicts_tell : (conflicts : List (Conflict (List ℕ))) → conflicts ≡ flat_map (token_conflicts g.terminals) built →
        (conflicts ≡ [] → ⊥) → IsLr1 (Contains G) start.0 → ⊥
    conflicts_tell conflicts e some lr1 =
        some (e ∙ apart_back (canonical_apart G start.0 views are.constructed (exact.0 lr1)))

    -- states without conflicts, for a start alone, may be parsed with
    pub built_checked : IsStartAlone G start.0 → flat_map (token_conflicts g.terminals) built ≡ [] → AreCheckedStates G start.0 views
    built_checked alone none = canonical_checked G start.0 views are.constructed nb alone (apart_there none)
