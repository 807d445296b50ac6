-- No two edges of a state are by one symbol, as its maps are in order: for merges.
use Rattle.std.proofs.Common.{◌≡◌, ◌∙◌, ◌<◌, ◌⊎◌, inl, inr, ℕ, zero, suc, List, Some, refl, sym, ap, subst, arith}
use Rattle.std.specs.Prelude.{slice_get}
use Rattle.std.specs.List.Sorted.{IsStrictlySortedBy}
use Rattle.std.specs.Map.{keys_of}
use Rattle.std.specs.declared.cmp.Ordering.{Ordering}
use Rattle.std.specs.declared.cmp.Ordering.TheVariants.{Equal, Less}
use Rattle.lalrpop_grammar_symbols.specs.Views.{terminal_view}
use Rattle.lalrpop_grammar_symbols.specs.contracts.names.NonterminalStringOrd.TheImpl as names
use Rattle.lalrpop_grammar_symbols.specs.contracts.terminal.TerminalStringOrd.TheImpl as terminals
use Rattle.lalrpop_grammar_symbols.specs.declared.names.NonterminalString.{NonterminalString}
use Rattle.lalrpop_lr1_core.specs.declared.state.State.{State}
use Rattle.lalrpop_lr1_core.proofs.NoConflictLemmas.{mapped_at, same_terminal}
use Rattle.lalrpop_lr1_core.proofs.SortedLemmas.{sorted_at}
use Rattle.lalrpop_lr1_check_lookaheads.proofs.LookupLemmas.{name_self, terminal_self}
use Rattle.lalrpop_lane_tables.specs.MergedStates.{HasOneEdgeEach}

which_first : (i j : ℕ) → (i < j) ⊎ ((j < i) ⊎ (i ≡ j))
which_first zero zero = inr (inr refl)
which_first zero (suc j) = inl (omega arith)
which_first (suc i) zero = inr (inl (omega arith))
which_first (suc i) (suc j) = go (which_first i j)
  where
    go : (i < j) ⊎ ((j < i) ⊎ (i ≡ j)) → (suc i < suc j) ⊎ ((suc j < suc i) ⊎ (suc i ≡ suc j))
    go (inl l) = inl (omega (arith, l))
    go (inr (inl l)) = inr (inl (omega (arith, l)))
    go (inr (inr e)) = inr (inr (ap suc e))

-- entries whose keys are in order and seen alike stand at one place
module _ {K S V : Type 0} (R : K → K → Ordering) (own : (k : K) → R k k ≡ Equal) (see : K → S)
    (one : (a b : K) → see a ≡ see b → a ≡ b) (es : List (K × V)) (sorted : IsStrictlySortedBy R (keys_of es)) where
  not_before : (i j : ℕ) (e f : K × V) → slice_get es i ≡ Some e → slice_get es j ≡ Some f → see e.0 ≡ see f.0 → i < j → ⊥
  not_before i j e f at other same less =
      let there : R e.0 f.0 ≡ Less =
      sorted_at R (keys_of es) sorted i j e.0 f.0 less (mapped_at (λ (d : K × V). d.0) es i e at)
      (mapped_at (λ (d : K × V). d.0) es j f other) in
      let both : Equal ≡ Less = sym (own e.0) ∙ subst (λ k. R e.0 k ≡ Less) (sym (one e.0 f.0 same)) there in
      let w : ⊥ = cc in w

  at_once : (i j : ℕ) (e f : K × V) → slice_get es i ≡ Some e → slice_get es j ≡ Some f → see e.0 ≡ see f.0 → i ≡ j
  at_once i j e f at other same = go (which_first i j)
    where
      go : (i < j) ⊎ ((j < i) ⊎ (i ≡ j)) → i ≡ j
      go (inl l) = absurd (not_before i j e f at other same l)
      go (inr (inl l)) = absurd (not_before j i f e other at (sym same) l)
      go (inr (inr e)) = e

abbrev name_of : List ℕ → NonterminalString
name_of t = record { 0 = t }

pub one_edge : (state : State (List ℕ)) → IsStrictlySortedBy (terminals.ghosts).cmp (keys_of state.shifts) →
    IsStrictlySortedBy (names.ghosts).cmp (keys_of state.gotos) → HasOneEdgeEach state
one_edge state shifts gotos =
    record {
      shifts_once = at_once (terminals.ghosts).cmp terminal_self terminal_view same_terminal state.shifts shifts;
      gotos_once = at_once (names.ghosts).cmp name_self (λ (n : NonterminalString). n.0) (λ a b e. ap name_of e) state.gotos gotos;
    }
