-- Checked states as lists are a checked automaton: for all laws on parsing.
use Rattle.std.proofs.Common.{◌≡◌, ℕ, List, length, Some, sym, ap, ◌∙◌, subst, Contains}
use Rattle.std.proofs.Common.{Option}
use Rattle.std.specs.Prelude.{slice_get}
use Rattle.std.proofs.Common.{None}
use Rattle.lalrpop_grammar_symbols.specs.Symbols.{Terminal, Text}
use Rattle.lalrpop_lr1_theory.specs.Productions.{Next, Production, terminal}
use Rattle.lalrpop_lr1_theory.specs.Trees.{reduce, shift}
use Rattle.lalrpop_lr1_theory.specs.Automata.{IsCheckedAutomaton}
use Rattle.lalrpop_lr1_theory.specs.States.{HasEdge, HasItem, LookaheadSet, Reduces, Reduction, State}
use Rattle.lalrpop_lr1_theory.specs.CheckedStates.{AreCheckedStates, HasNoConflict}
use Rattle.lalrpop_lr1_theory.specs.Laws.{NeverTwoMoves}
use Rattle.lalrpop_lr1_theory.proofs.CanonicalLemmas.{along_carries}
use Rattle.lalrpop_lr1_theory.proofs.ListLemmas.{contains_get}
use Rattle.lalrpop_lr1_theory.proofs.StepLemmas.{some_same}

-- two states with the same number are the same state
pub same_state : (states : List State) (n : ℕ) (a b : State) → slice_get states n ≡ Some a → slice_get states n ≡ Some b →
    a ≡ b
same_state states n a b e f = some_same a b (sym e ∙ f)

one_production : (p q : Production) (a b : LookaheadSet) (c d : Option Reduction) → c ≡ d →
    c ≡ Some (record { production = p; lookahead = a }) → d ≡ Some (record { production = q; lookahead = b }) → p ≡ q
one_production p q a b c d e f g =
    ap (λ r. r.production)
    (some_same (record { production = p; lookahead = a }) (record { production = q; lookahead = b }) (sym f ∙ e ∙ g))

module _ (states : List State) (apart : (n : ℕ) (state : State) → slice_get states n ≡ Some state → HasNoConflict state) where
  -- where no state has a conflict, two reductions before one terminal or the end are by one production
  pub reductions_agree : (n : ℕ) (p q : Production) (x : Next) → Reduces states n p x → Reduces states n q x → p ≡ q
  reductions_agree n p q x a b =
      let same = same_state states n b.state a.state b.at a.at in
      let i = contains_get a.state.reductions (record { production = p; lookahead = a.lookahead }) a.held in
      let j = contains_get b.state.reductions (record { production = q; lookahead = b.lookahead }) b.held in
      let k = subst (λ st. slice_get st.reductions j.0 ≡ Some (record { production = q; lookahead = b.lookahead })) same j.1 in
      let e = (apart n a.state a.at).reductions_apart i.0 j.0 (record { production = p; lookahead = a.lookahead })
      (record { production = q; lookahead = b.lookahead }) x i.1 k a.follows b.follows in
      one_production p q a.lookahead b.lookahead (slice_get a.state.reductions i.0) (slice_get a.state.reductions j.0)
      (ap (slice_get a.state.reductions) e) i.1 k

  -- and none is before a terminal that the state shifts
  pub no_shift_before : (n : ℕ) (p : Production) (t : Terminal) (m : ℕ) → Reduces states n p (Some t) →
      HasEdge states n (terminal t) m → ⊥
  no_shift_before n p t m a e =
      let same = same_state states n e.0 a.state e.1 a.at in
      let i = contains_get a.state.reductions (record { production = p; lookahead = a.lookahead }) a.held in
      (apart n a.state a.at).shifts_apart t m i.0 (record { production = p; lookahead = a.lookahead })
      (subst (λ st. Contains st.shifts (t, m)) same e.2) i.1 a.follows

  -- so no state allows two moves
  pub never_two : NeverTwoMoves states
  never_two n None (shift t) w a b = absurd a
  never_two n None (reduce p) (shift t) a b = absurd b
  never_two n None (reduce p) (reduce q) a b = ap reduce (reductions_agree n p q None a b)
  never_two n (Some t) (shift u) (shift v) a b = ap shift (a.0 ∙ sym b.0)
  never_two n (Some t) (shift u) (reduce p) a b = absurd (no_shift_before n p t a.1 b a.2)
  never_two n (Some t) (reduce p) (shift u) a b = absurd (no_shift_before n p t b.1 a b.2)
  never_two n (Some t) (reduce p) (reduce q) a b = ap reduce (reductions_agree n p q (Some t) a b)

module _ (grammar : List Production) (s : Text) (states : List State) (ok : AreCheckedStates grammar s states) where
  pub checked_automaton : IsCheckedAutomaton (Contains grammar) s (HasItem states) (HasEdge states) (Reduces states)
  checked_automaton =
      record {
        automaton = record {
          cover = ok.cover;
          finished = λ n p x a. ok.finished n a.state (record { production = p; lookahead = a.lookahead }) a.at a.held;
          carried = λ n p x k.
              let c = along_carries (Contains grammar) s (HasItem states) (HasEdge states) ok.cover n p (length p.right) x k in
              ok.carried n p x c.3;
          one_reduction = reductions_agree states ok.no_conflict;
          no_shift = no_shift_before states ok.no_conflict;
        };
        at_end = λ n p x a e. ok.at_end n a.state (record { production = p; lookahead = a.lookahead }) x a.at a.held e a.follows;
        none_barren = ok.none_barren;
      }
