-- Sets that hold what ends have hold what is carried, and states reduce before it just where their reductions have all of it.
use Rattle.std.proofs.Common.{◌≡◌, ◌∙◌, ◌↔◌, ℕ, ◌+◌, ◌≤◌, true, List, Contains, Some, map}
use Rattle.std.proofs.Common.{sym, ap, subst, arith, slice_get}
use Rattle.std.specs.List.{range_with_len}
use Rattle.std.specs.Prelude.{filter}
use Rattle.lalrpop_grammar_symbols.specs.Symbols.{Text}
use Rattle.lalrpop_grammar_repr.specs.declared.grammar.Grammar.{Grammar}
use Rattle.lalrpop_grammar_repr.specs.declared.production.Production.{Production}
use Rattle.lalrpop_lr1_theory.specs.PropagatedNexts.{ReducesBeforeLookaheads}
use Rattle.lalrpop_lr1_theory.specs.States as states
use Rattle.lalrpop_lr1_theory.proofs.PropagatedLemmas.{reduces_carried, reduces_propagated}
use Rattle.lalrpop_lr1_core.specs.Views.{lr_state_view, next_of_number, production_view, reduction_view, token_lookahead}
use Rattle.lalrpop_lr1_core.specs.declared.state.State.{State}
use Rattle.lalrpop_lr1_core.proofs.MemberLemmas.{filter_has, in_filter, in_map, in_range, map_has, range_has}
use Rattle.lalrpop_lr1_core.proofs.NoConflictLemmas.{at_mapped, mapped_at}
use Rattle.lalrpop_sets.specs.AscendingLists.{has}
use Rattle.lalrpop_sets.specs.Tokens.{eof_number}
use Rattle.lalrpop_lr1_first.specs.FirstSetsOf.{IsProductionOf}
use Rattle.lalrpop_lr1_first.specs.NumberedGrammars.{HasItsTerminals}
use Rattle.lalrpop_lr1_first.proofs.TableLemmas.{same_next}
use Rattle.lalrpop_lr1_check_lookaheads.specs.CarriedSets.{AreCarriedEnds, AreCarriedSets, AreSetsOfStates}
use Rattle.lalrpop_lr1_check_lookaheads.specs.CarriedSets.{IsCarriedSet, IsSetOfEnd}
use Rattle.lalrpop_lr1_check_lookaheads.specs.Ends.{EndKey, HasEndMark, HaveJustMarks, ReductionsBring, end_key_at}
use Rattle.lalrpop_lr1_check_lookaheads.specs.declared.lookaheads.ends.Ends.{Ends}
use Rattle.lalrpop_lr1_check_lookaheads.proofs.SeenLemmas.{same_view}

-- sets of which more holds
pub sets_as : (Fits Other : ℕ → Production → List ℕ → Type 0) →
    ((n : ℕ) (p : Production) (set : List ℕ) → Fits n p set → Other n p set) → (states : List (State (List ℕ)))
    (sets : List (List (List ℕ))) → AreSetsOfStates Fits states sets → AreSetsOfStates Other states sets
sets_as Fits Other more states sets are = record {
  count = are.count;
  each = λ n state own at at_own.
      let row = are.each n state own at at_own in record {
        count = row.count;
        each = λ i r set e f. more n r.1.now set (row.each i r set e f);
      };
}

module _ (g : Grammar) (terminals : HasItsTerminals g) (s : Text) (all : List (State (List ℕ))) where
  abbrev look : List ℕ → states.LookaheadSet
  look = token_lookahead g.terminals

  abbrev seen : List states.State
  seen = map (lr_state_view look) all

  module _ (ends : Ends) (carried : AreCarriedEnds g s all ends) where
    -- a set of just the end's tokens has just what is carried
    pub end_set_is_carried : (n : ℕ) (p : Production) (set : List ℕ) → IsSetOfEnd ends n p set → IsCarriedSet g s all n p set
    end_set_is_carried n p set is = record {
      sound = λ k h. carried.sound (end_key_at n p) k ((is k).0 h);
      complete = λ x c.
          let h = carried.complete n (production_view p) x c in
          let own : h.production ≡ p = same_view h.production p h.production_is in
          (h.number, h.next_is, (is h.number).1 (subst (λ q. HasEndMark ends (end_key_at n q) (Some h.number)) own h.mark));
    }

    pub end_sets_are_carried : (sets : List (List (List ℕ))) → AreSetsOfStates (IsSetOfEnd ends) all sets → AreCarriedSets g s all sets
    end_sets_are_carried = sets_as (IsSetOfEnd ends) (IsCarriedSet g s all) end_set_is_carried all

  -- by what a state is seen to reduce
  reduces_seen : (m : ℕ) (p : Production) (k : ℕ) → k ≤ eof_number g.terminals → ReductionsBring all (end_key_at m p) (Some k) →
      states.Reduces seen m (production_view p) (next_of_number g.terminals k)
  reduces_seen m p k small (n, state, at, (r, c, (e, h))) =
      let own : p ≡ r.1.now = ap (λ (end : EndKey). end.production) e in
      let place : m ≡ n = ap (λ (end : EndKey). end.state) e in
      subst (λ q. states.Reduces seen m (production_view q) (next_of_number g.terminals k)) (sym own) (record {
        state = lr_state_view look state;
        lookahead = look r.0;
        at = ap (slice_get seen) place ∙ mapped_at (lr_state_view look) all n state at;
        held = map_has (reduction_view look) state.reductions r c;
        follows = map_has (next_of_number g.terminals) (filter (has r.0) (range_with_len 0 (eof_number g.terminals + 1))) k
            (filter_has (has r.0) (range_with_len 0 (eof_number g.terminals + 1)) k h
            (range_has 0 (eof_number g.terminals + 1) k (omega arith) (omega (arith, small))));
      })

  seen_reduces : (m : ℕ) (p : Production) (k : ℕ) → k ≤ eof_number g.terminals →
      states.Reduces seen m (production_view p) (next_of_number g.terminals k) → ReductionsBring all (end_key_at m p) (Some k)
  seen_reduces m p k small h =
      let u = at_mapped (lr_state_view look) all m h.state h.at in
      let held = subst (λ (v : states.State). Contains v.reductions (record { production = production_view p; lookahead = h.lookahead }))
      (sym u.2) h.held in
      let r = in_map (reduction_view look) u.0.reductions (record { production = production_view p; lookahead = h.lookahead }) held in
      let x = in_map (next_of_number g.terminals) (filter (has r.0.0) (range_with_len 0 (eof_number g.terminals + 1)))
      (next_of_number g.terminals k)
      (subst (λ (v : states.LookaheadSet). Contains v.nexts (next_of_number g.terminals k))
      (sym (ap (λ (v : states.Reduction). v.lookahead) r.2)) h.follows) in
      let f = in_filter (has r.0.0) (range_with_len 0 (eof_number g.terminals + 1)) x.0 x.1 in
      let b = in_range 0 (eof_number g.terminals + 1) x.0 f.1 in
      let one : x.0 ≡ k = same_next g.terminals terminals.numbered x.0 k (omega (arith, b.1)) small x.2 in
      let own : r.0.1.now ≡ p = same_view r.0.1.now p (ap (λ (v : states.Reduction). v.production) r.2) in
      (m, u.0, u.1, (r.0, r.1, (ap (end_key_at m) (sym own), subst (λ j. has r.0.0 j ≡ true) one f.0)))

  -- the reductions have all tokens of the ends just where states reduce before all that is propagated
  pub ends_are_tested : (ends own : Ends) → AreCarriedEnds g s all ends → HaveJustMarks own (ReductionsBring all) →
      ((end : EndKey) (k : ℕ) → HasEndMark ends end (Some k) → HasEndMark own end (Some k))
      ↔ ReducesBeforeLookaheads (IsProductionOf g) s (states.HasItem seen) (states.HasEdge seen) (states.Reduces seen)
  ends_are_tested ends own carried reductions = (
    λ among. reduces_propagated (IsProductionOf g) s (states.HasItem seen) (states.HasEdge seen) (states.Reduces seen)
        (λ n p x c.
        let h = carried.complete n p x c in
        let small = (carried.sound (end_key_at n h.production) h.number h.mark).0 in
        let brought = (reductions.marks (end_key_at n h.production) (Some h.number)).0 (among (end_key_at n h.production) h.number h.mark) in
        subst (λ q. states.Reduces seen n q x) h.production_is
        (subst (states.Reduces seen n (production_view h.production)) h.next_is
        (reduces_seen n h.production h.number small brought))),
    λ before end k h.
        let c = carried.sound end k h in
        let reduces = reduces_carried (IsProductionOf g) s (states.HasItem seen) (states.HasEdge seen) (states.Reduces seen) before
        end.state (production_view end.production) (next_of_number g.terminals k) c.1 in
        (reductions.marks end (Some k)).1 (seen_reduces end.state end.production k c.0 reduces),
  )
