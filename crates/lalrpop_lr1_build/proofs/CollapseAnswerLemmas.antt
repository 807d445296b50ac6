-- Canonical states that are joined by their numbers are put together by their cores, and what they are: for the answers of the collapse.
use Rattle.std.proofs.Common.{◌≡◌, ◌∙◌, ℕ, ◌<◌, List, [], length, map, All, Contains, refl, sym, ap}
use Rattle.std.proofs.Common.{subst, inl, inr, ⊎_elim, arith}
use Rattle.std.specs.Ordering.{ordering_reverse}
use Rattle.std.specs.Prelude.{flat_map}
use Rattle.std.specs.declared.cmp.Ordering.{Ordering}
use Rattle.std.specs.declared.cmp.Ordering.TheVariants.{Greater, Less}
use Rattle.std.proofs.lemmas.Option.{slice_get_within}
use Rattle.lalrpop_grammar_symbols.specs.Views.{terminal_view}
use Rattle.lalrpop_grammar_symbols.specs.declared.names.NonterminalString.{NonterminalString}
use Rattle.lalrpop_grammar_symbols.specs.declared.terminal.TerminalString.{TerminalString}
use Rattle.lalrpop_grammar_repr.specs.contracts.production.ProductionOrd.TheImpl as production_order
use Rattle.lalrpop_grammar_repr.specs.contracts.production.ProductionOrd.TheImpl.Laws as production_laws
use Rattle.lalrpop_grammar_repr.specs.declared.grammar.Grammar.{Grammar}
use Rattle.lalrpop_grammar_repr.specs.declared.production.Production.{Production}
use Rattle.lalrpop_grammar_repr.specs.declared.terminal_set.TerminalSet.{TerminalSet}
use Rattle.lalrpop_lr1_theory.specs.Productions as theory
use Rattle.lalrpop_lr1_theory.specs.CheckedStates.{AreCheckedStates, HasNoConflict, IsStartAlone}
use Rattle.lalrpop_lr1_theory.specs.Laws.{HaveNoConflict}
use Rattle.lalrpop_lr1_theory.specs.States as states
use Rattle.lalrpop_lr1_theory.specs.States.{HasEdge, HasItem}
use Rattle.lalrpop_lr1_theory.specs.ValidItems.{NoneBarren}
use Rattle.lalrpop_lr1_theory.proofs.ListLemmas.{contains_get, get_contains}
use Rattle.lalrpop_lr1_core.specs.Conflicts.{token_conflicts}
use Rattle.lalrpop_lr1_core.specs.Views.{goto_view, lr_state_view, shift_view, token_lookahead}
use Rattle.lalrpop_lr1_core.specs.declared.state.State.{State}
use Rattle.lalrpop_lr1_core.specs.declared.state_index.StateIndex.{StateIndex}
use Rattle.lalrpop_lr1_core.proofs.MemberLemmas.{flat_empty}
use Rattle.lalrpop_lr1_core.proofs.NoConflictLemmas.{none_is_none}
use Rattle.lalrpop_lr1_build.specs.BuiltStates.{ItemBefore}
use Rattle.lalrpop_lr1_core.specs.TheoryGrammars.{theory_grammar}
use Rattle.lalrpop_lr1_build.proofs.BuiltLemmas.{all_each}
use Rattle.lalrpop_lr1_core.proofs.ProductionViewLemmas.{same_production}
use Rattle.lalrpop_lr1_theory.specs.JoinedStates.{AreJoinedStates, AreNumbersAsSeen, HaveCoresInOrder, item_core}
use Rattle.lalrpop_lr1_theory.proofs.CollapseLemmas.{collapsed_carried, collapsed_checked}
use Rattle.lalrpop_lr1_theory.proofs.CollapsedCoverLemmas.{target_item}
use Rattle.lalrpop_lr1_theory.proofs.JoinLemmas.{core_at, joined_collapse}
use Rattle.lalrpop_lr1_theory.proofs.OrderLemmas.{ascending_order, get_image, image_get, image_there}
use Rattle.lalrpop_lr1_theory.proofs.SameLemmas.{collapsed_same}
use Rattle.lalrpop_lr1_build.specs.StateCores.{core_in_state}
use Rattle.lalrpop_lr1_build.specs.JoinedStates.{AreJoinedByNumbers}
use Rattle.lalrpop_lr1_build.specs.Renumbering.{HaveTargetsWithin}
use Rattle.lalrpop_lr1_build.specs.CollapseAnswers.{AreCanonicalOf, AreCanonicalOfSome, AreCollapsedStates, AreLalrStates, states_over}
use Rattle.lalrpop_lr1_first.proofs.TableLemmas.{long_map}
use Rattle.lalrpop_lr1_build.proofs.ViewLemmas.{all_seen, lists_seen}

abbrev compare : Production → Production → Ordering
compare = (production_order.ghosts).cmp

both_less : (o p : Ordering) → o ≡ Less → p ≡ Less → o ≡ ordering_reverse p → ⊥
both_less o p e f g = let z : Less ≡ Greater = sym e ∙ g ∙ ap ordering_reverse f in cc

less_once : (x y : Production) → compare x y ≡ Less → compare y x ≡ Less → ⊥
less_once x y e f = both_less (compare x y) (compare y x) e f (production_laws.total-law.antisymm x y)

-- the order of items is strict, and lookaheads don't change it
items_strict : (a b : states.Item) → ItemBefore a b → ItemBefore b a → ⊥
items_strict a b h k =
    ⊎_elim
    (λ (l : compare h.one h.other ≡ Less). ⊎_elim
    (λ (m : compare k.one k.other ≡ Less). less_once h.one h.other l
    (subst (λ z. compare z h.one ≡ Less) (sym there) (subst (λ z. compare k.one z ≡ Less) (sym here) m)))
    (λ (m : (k.one ≡ k.other) × (b.dot < a.dot)).
    let same : h.one ≡ h.other = here ∙ sym m.0 ∙ sym there in
    let twice = subst (λ z. compare h.one z ≡ Less) (sym same) l in less_once h.one h.one twice twice)
    k.before)
    (λ (l : (h.one ≡ h.other) × (a.dot < b.dot)). ⊎_elim
    (λ (m : compare k.one k.other ≡ Less).
    let same : k.one ≡ k.other = sym there ∙ sym l.0 ∙ here in
    let twice = subst (λ z. compare k.one z ≡ Less) (sym same) m in less_once k.one k.one twice twice)
    (λ (m : (k.one ≡ k.other) × (b.dot < a.dot)). omega (arith, l.1, m.1))
    k.before)
    h.before
  where
    here : h.one ≡ k.other
    here = same_production h.one k.other (sym h.one_is ∙ k.other_is)

    there : h.other ≡ k.one
    there = same_production h.other k.one (sym h.other_is ∙ k.one_is)

items_by_core : (a b c d : states.Item) → item_core a ≡ item_core c → item_core b ≡ item_core d →
    ItemBefore a b → ItemBefore c d
items_by_core a b c d e f h =
    record {
      one = h.one;
      other = h.other;
      one_is = sym (ap (λ (z : theory.Production × ℕ). z.0) e) ∙ h.one_is;
      other_is = sym (ap (λ (z : theory.Production × ℕ). z.0) f) ∙ h.other_is;
      before = ⊎_elim (λ l. inl l)
          (λ (l : (h.one ≡ h.other) × (a.dot < b.dot)). inr (l.0, less l.1)) h.before;
    }
  where
    less : a.dot < b.dot → c.dot < d.dot
    less l =
        let x : a.dot ≡ c.dot = ap (λ (z : theory.Production × ℕ). z.1) e in
        let y : b.dot ≡ d.dot = ap (λ (z : theory.Production × ℕ). z.1) f in omega (arith, l, x, y)

module _ (g : Grammar) (start : NonterminalString) (built : List (State (List ℕ))) (can : AreCanonicalOf g start g.terminals built) where
  abbrev G : List theory.Production
  G = theory_grammar g

  abbrev views : List states.State
  views = states_over g.terminals built

  cores_in_order : HaveCoresInOrder views
  cores_in_order = ascending_order ItemBefore items_strict items_by_core views can.states_are.ascending

  -- edges lead to states that are there
  target_within : (n : ℕ) (x : theory.Symbol) (m : ℕ) → HasEdge views n x m → m < length built
  target_within n x m e =
      let t = target_item (Contains G) start.0 (HasItem views) (HasEdge views) can.states_are.constructed.automaton.cover n x m e in
      let w = slice_get_within views m t.2.state t.2.at in
      omega (arith, w, long_map (lr_state_view (token_lookahead g.terminals)) built)

  pub canonical_targets : HaveTargetsWithin (length built) built
  canonical_targets =
      all_each (λ (st : State (List ℕ)). All (λ (z : TerminalString × StateIndex). z.1.0 < length built) st.shifts
      × All (λ (z : NonterminalString × StateIndex). z.1.0 < length built) st.gotos) built (λ st c.
      let at = contains_get built st c in
      let view = lr_state_view (token_lookahead g.terminals) st in
      let seen = image_get (lr_state_view (token_lookahead g.terminals)) built at.0 st at.1 in (
        all_each (λ (z : TerminalString × StateIndex). z.1.0 < length built) st.shifts (λ e d.
            target_within at.0 (theory.terminal (terminal_view e.0)) e.1.0 (view, seen, image_there shift_view st.shifts e d)),
        all_each (λ (z : NonterminalString × StateIndex). z.1.0 < length built) st.gotos (λ e d.
            target_within at.0 (theory.nonterminal e.0.0) e.1.0 (view, seen, image_there goto_view st.gotos e d)),
      ))

  module _ (collapsed : List (State (List ℕ))) where
    abbrev new : List states.State
    new = states_over g.terminals collapsed

    module _ (numbers : List ℕ) (lists : AreNumbersAsSeen (map core_in_state built) numbers)
        (are : AreJoinedByNumbers built numbers (length built) collapsed) where
      targets : HaveTargetsWithin (length numbers) built
      targets =
          subst (λ n. HaveTargetsWithin n built) (sym (lists.count ∙ long_map core_in_state built)) canonical_targets

      joined : AreJoinedStates views numbers new
      joined = all_seen g.terminals built numbers lists targets collapsed are

      pub joined_together : AreCollapsedStates g.terminals built collapsed
      joined_together =
          record {
            numbers = numbers;
            seen = lists;
            joined = are;
            collapse = joined_collapse G start.0 views new numbers can.states_are.constructed cores_in_order
                (lists_seen g.terminals built numbers lists) joined;
            ascending = λ n state j k a b e l f h.
                let m = joined.made n state e in
                let u = core_at state m.first m.made.core j a f in
                let v = core_at state m.first m.made.core k b h in
                items_by_core u.0 v.0 a b u.2 v.2 (can.states_are.ascending m.place m.first j k u.0 v.0 m.at l u.1 v.1);
          }

    module _ (are : AreCollapsedStates g.terminals built collapsed) where
      pub lalr_states : AreLalrStates g start collapsed
      lalr_states =
          record {
            carried = collapsed_carried views new are.numbers are.collapse G start.0 can.states_are.constructed;
            lr0 = λ others p lr0.
                collapsed_same G start.0 others lr0 views new are.numbers are.collapse can.states_are.constructed p.0 p.1 p.2;
          }

      apart : flat_map (token_conflicts g.terminals) collapsed ≡ [] → HaveNoConflict new
      apart none n view e =
          let m = get_image (lr_state_view (token_lookahead g.terminals)) collapsed n view e in
          subst HasNoConflict m.2 (none_is_none g.terminals m.0 can.own.numbered.numbered
          (flat_empty (token_conflicts g.terminals) collapsed m.0 none (get_contains collapsed n m.0 m.1)))

      pub lalr_checked : NoneBarren (Contains G) start.0 → IsStartAlone G start.0 →
          flat_map (token_conflicts g.terminals) collapsed ≡ [] → AreCheckedStates G start.0 new
      lalr_checked nb alone none =
          collapsed_checked views new are.numbers are.collapse G start.0 can.states_are.constructed nb alone (apart none)

-- the same where the terminals are given
module _ (ts : TerminalSet) (built : List (State (List ℕ))) where
  own : (g : Grammar) (start : NonterminalString) → AreCanonicalOf g start ts built → AreCanonicalOf g start g.terminals built
  own g start can = record { own = can.own; terminals = refl; states_are = can.states_are }

  pub some_targets : AreCanonicalOfSome ts built → HaveTargetsWithin (length built) built
  some_targets can = canonical_targets can.0 can.1 built (own can.0 can.1 can.2)

  pub some_collapsed : AreCanonicalOfSome ts built → (collapsed : List (State (List ℕ))) (numbers : List ℕ) →
      AreNumbersAsSeen (map core_in_state built) numbers → AreJoinedByNumbers built numbers (length built) collapsed →
      AreCollapsedStates ts built collapsed
  some_collapsed can collapsed numbers lists are =
      subst (λ t. AreCollapsedStates t built collapsed) can.2.terminals
      (joined_together can.0 can.1 built (own can.0 can.1 can.2) collapsed numbers lists are)

  -- the same where the numbers were lent
  pub lent_collapsed : AreCanonicalOfSome ts built → (numbers lent : List ℕ) (collapsed : List (State (List ℕ))) →
      AreNumbersAsSeen (map core_in_state built) numbers → lent ≡ numbers →
      AreJoinedByNumbers built lent (length built) collapsed → AreCollapsedStates ts built collapsed
  lent_collapsed can numbers lent collapsed lists e are =
      some_collapsed can collapsed numbers lists (subst (λ ns. AreJoinedByNumbers built ns (length built) collapsed) e are)

  pub lalr_of : (g : Grammar) (start : NonterminalString) → AreCanonicalOf g start ts built → (collapsed : List (State (List ℕ))) →
      AreCollapsedStates ts built collapsed → AreLalrStates g start collapsed
  lalr_of g start can collapsed are =
      lalr_states g start built (own g start can) collapsed
      (subst (λ t. AreCollapsedStates t built collapsed) (sym can.terminals) are)

  pub checked_of : (g : Grammar) (start : NonterminalString) → AreCanonicalOf g start ts built →
      NoneBarren (Contains (theory_grammar g)) start.0 → IsStartAlone (theory_grammar g) start.0 →
      (collapsed : List (State (List ℕ))) → AreCollapsedStates ts built collapsed →
      flat_map (token_conflicts ts) collapsed ≡ [] →
      AreCheckedStates (theory_grammar g) start.0 (states_over g.terminals collapsed)
  checked_of g start can nb alone collapsed are none =
      lalr_checked g start built (own g start can) collapsed
      (subst (λ t. AreCollapsedStates t built collapsed) (sym can.terminals) are) nb alone
      (subst (λ t. flat_map (token_conflicts t) collapsed ≡ []) (sym can.terminals) none)
