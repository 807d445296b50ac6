-- States by lanes stay spread over those without lookaheads where a merge copies some of them: for rounds of merges.
use Rattle.std.proofs.Common.{◌≡◌, ◌∙◌, ℕ, ◌+◌, ◌<◌, List, [], All, Contains, Some, length, map, refl, sym, ap, subst, arith}
use Rattle.std.specs.Prelude.{slice_get}
use Rattle.std.proofs.lemmas.List.Elements.{All-contains}
use Rattle.std.proofs.lemmas.Option.{slice_get_within}
use Rattle.lalrpop_grammar_symbols.specs.Symbols.{Text}
use Rattle.lalrpop_grammar_symbols.specs.declared.names.NonterminalString.{NonterminalString}
use Rattle.lalrpop_grammar_symbols.specs.declared.terminal.TerminalString.{TerminalString}
use Rattle.lalrpop_grammar_repr.specs.declared.grammar.Grammar.{Grammar}
use Rattle.lalrpop_lr1_theory.specs.Productions as theory
use Rattle.lalrpop_lr1_theory.specs.SameStates.{HasReductionBy}
use Rattle.lalrpop_lr1_theory.specs.States as states
use Rattle.lalrpop_lr1_theory.specs.States.{HasEdge, HasItem}
use Rattle.lalrpop_lr1_theory.proofs.OrderLemmas.{get_image, image_get}
use Rattle.lalrpop_lr1_theory.proofs.StepLemmas.{some_same}
use Rattle.lalrpop_lane_theory.specs.CarriedConflicts.{ReduceByEachOnce}
use Rattle.lalrpop_lane_theory.specs.SpreadStates.{AreSpreadStates}
use Rattle.lalrpop_lane_theory.proofs.SpreadLemmas.{spread_cover}
use Rattle.lalrpop_lr1_core.specs.TheoryGrammars.{theory_grammar}
use Rattle.lalrpop_lr1_core.specs.Views.{lr_state_view, reduction_view, token_lookahead}
use Rattle.lalrpop_lr1_core.specs.declared.state.State.{State}
use Rattle.lalrpop_lr1_core.specs.declared.state_index.StateIndex.{StateIndex}
use Rattle.lalrpop_lr1_build.specs.CollapseAnswers.{states_over}
use Rattle.lalrpop_lr1_build.proofs.RenumberedEdgeLemmas.{targets_at}
use Rattle.lalrpop_lane_tables.specs.MergedStates.{AreMerged, HasOneEdgeEach, KeepsSpread}
use Rattle.lalrpop_lane_tables.proofs.CopiedLemmas.{own_merged}
use Rattle.lalrpop_lane_tables.proofs.SpreadViewLemmas.{merged_are_spread}
use Rattle.lalrpop_lane.specs.LaneStates.{AreSpreadOverLr0}
use Rattle.lalrpop_lane.proofs.SpreadAgainLemmas.{spread_again}
use Rattle.lalrpop_lane.proofs.TargetLemmas.{cover_within}

module _ (g : Grammar) (s : Text) (used left new_left : ℕ) (old new : List (State (List ℕ))) (are : AreSpreadOverLr0 g s used old)
    (some : 0 < length old) (once : (n : ℕ) (state : State (List ℕ)) → slice_get old n ≡ Some state → HasOneEdgeEach state)
    (keeps : KeepsSpread [] [] old left [] [] new new_left) where
  abbrev view : State (List ℕ) → states.State
  view = lr_state_view (token_lookahead g.terminals)

  abbrev seen : List (State (List ℕ)) → List states.State
  seen = states_over g.terminals

  below : (n : ℕ) (state : State (List ℕ)) → slice_get old n ≡ Some state →
      All (λ (e : TerminalString × StateIndex). e.1.0 < length old) state.shifts
      × All (λ (e : NonterminalString × StateIndex). e.1.0 < length old) state.gotos
  below n state at =
      targets_at (length old) old n state
      (cover_within g.terminals (Contains (theory_grammar g)) s old
      (spread_cover (HasItem are.originals) (HasEdge are.originals) (HasItem (seen old)) (HasEdge (seen old)) are.origin are.spread
      (Contains (theory_grammar g)) s are.lr0.automaton.cover)) at

  own : AreMerged old (λ n. n) [] [] old
  own =
      own_merged old
      (λ n state at e c. All-contains (λ (e : TerminalString × StateIndex). e.1.0 < length old) state.shifts e (below n state at).0 c)
      (λ n state at e c. All-contains (λ (e : NonterminalString × StateIndex). e.1.0 < length old) state.gotos e (below n state at).1 c)

  -- what a state has is what the state for which it stands has
  module _ (origin : ℕ → ℕ) (merged : AreMerged old origin [] [] new) where
    record HasOriginal (n : ℕ) (state : states.State) : Type 0 where
      original : State (List ℕ)
      at : slice_get old (origin n) ≡ Some original
      within : n < length new
      reductions : state.reductions ≡ (view original).reductions

    original_of : (n : ℕ) (state : states.State) → slice_get (seen new) n ≡ Some state → HasOriginal n state
    original_of n state e =
        let st = get_image view new n state e in
        let stands = merged.each n st.0 st.1 in
        record {
          original = stands.original;
          at = stands.at;
          within = slice_get_within new n st.0 st.1;
          reductions = ap (λ (v : states.State). v.reductions) (sym st.2)
              ∙ ap (map (reduction_view (token_lookahead g.terminals))) stands.reductions;
        }

    module _ (o : ℕ → ℕ) (is : (n : ℕ) → n < length new → o n ≡ origin n) (spread : AreSpreadStates (seen old) (seen new) o) where
      to_item : (n : ℕ) (p : theory.Production) → HasReductionBy (seen new) n p → HasItem (seen new) n p (length p.right)
      to_item n p h =
          let of = original_of n h.state h.at in
          let by : HasReductionBy (seen old) (origin n) p =
          record {
            state = view of.original;
            lookahead = h.lookahead;
            at = image_get view old (origin n) of.original of.at;
            held = subst (λ l. Contains l (record { production = p; lookahead = h.lookahead })) of.reductions h.held;
          } in
          (spread.items n p (length p.right)).1
          (subst (λ k. HasItem (seen old) k p (length p.right)) (sym (is n of.within)) ((are.finished (origin n) p).0 by))

      to_reduction : (n : ℕ) (p : theory.Production) → HasItem (seen new) n p (length p.right) → HasReductionBy (seen new) n p
      to_reduction n p h =
          let of = original_of n h.state h.at in
          let there = subst (λ k. HasItem (seen old) k p (length p.right)) (is n of.within) ((spread.items n p (length p.right)).0 h) in
          let r = (are.finished (origin n) p).1 there in
          let same : r.state ≡ view of.original =
          some_same r.state (view of.original) (sym r.at ∙ image_get view old (origin n) of.original of.at) in
          record {
            state = h.state;
            lookahead = r.lookahead;
            at = h.at;
            held = subst (λ l. Contains l (record { production = p; lookahead = r.lookahead }))
                (ap (λ (v : states.State). v.reductions) same ∙ sym of.reductions) r.held;
          }

    once_each : ReduceByEachOnce (seen new)
    once_each n state j k a b e f h u =
        let of = original_of n state e in
        are.once (origin n) (view of.original) j k a b (image_get view old (origin n) of.original of.at)
        (subst (λ l. slice_get l j ≡ Some a) of.reductions f) (subst (λ l. slice_get l k ≡ Some b) of.reductions h) u

  pub merged_spread : (more : ℕ) → used + left ≡ more + new_left → AreSpreadOverLr0 g s more new
  merged_spread more counted =
      let stay = keeps.spread old (λ n. n) own in
      let grown = keeps.grown in
      let count = keeps.count in
      let least = are.least in
      let most = are.most in
      let spread = merged_are_spread (token_lookahead g.terminals) old new stay.new_origin [] [] stay.merged
      (omega (arith, some, grown)) once in
      record {
        originals = are.originals;
        origin = λ n. are.origin (spread.0 n);
        lr0 = are.lr0;
        spread = spread_again are.originals (seen old) (seen new) are.origin spread.0 are.spread spread.2;
        finished = λ n p. (
          to_item stay.new_origin stay.merged spread.0 spread.1 spread.2 n p,
          to_reduction stay.new_origin stay.merged spread.0 spread.1 spread.2 n p,
        );
        once = once_each stay.new_origin stay.merged;
        least = omega (arith, least, grown);
        most = omega (arith, most, count, counted);
      }

  -- over the same ones as before
  pub merged_originals : (more : ℕ) (counted : used + left ≡ more + new_left) → (merged_spread more counted).originals ≡ are.originals
  unfolding merged_spread
  merged_originals more counted = refl
