-- What is told of canonical states are all conflicts of their productions, each once and in order; and their certificates certify these.
use Rattle.std.proofs.Common.{◌≡◌, ◌∙◌, ◌⊎◌, inl, inr, ℕ, List, [], ◌∷◌, map, length, Some, Contains, ap, sym, refl, subst}
use Rattle.std.specs.Prelude.{slice_get}
use Rattle.std.specs.List.Sorted.{IsStrictlySortedBy}
use Rattle.std.proofs.lemmas.List.{length-map}
use Rattle.std.proofs.lemmas.Option.{slice_get_within}
use Rattle.lalrpop_grammar.specs.WrittenGrammar.{Origin}
use Rattle.lalrpop_grammar_language.specs.Expansion.{Nonterminal}
use Rattle.lalrpop_grammar_language.specs.Labels.{Label}
use Rattle.lalrpop_grammar_symbols.specs.Symbols.{Text}
use Rattle.lalrpop_grammar_symbols.specs.Views.{terminal_view}
use Rattle.lalrpop_grammar_symbols.specs.contracts.terminal.TerminalStringOrd.TheImpl as terminals
use Rattle.lalrpop_grammar_symbols.specs.declared.names.NonterminalString.{NonterminalString}
use Rattle.lalrpop_grammar_repr.specs.declared.grammar.Grammar.{Grammar}
use Rattle.lalrpop_lr1_theory.specs.Automata.{Finished, Walk}
use Rattle.lalrpop_lr1_theory.specs.CanonicalStates.{AreCanonicalStates}
use Rattle.lalrpop_lr1_theory.specs.Productions as theory
use Rattle.lalrpop_lr1_theory.specs.Spans.{without_spans}
use Rattle.lalrpop_lr1_theory.specs.States as states
use Rattle.lalrpop_lr1_theory.specs.States.{HasEdge, HasLookahead}
use Rattle.lalrpop_lr1_theory.specs.Trees.{roots}
use Rattle.lalrpop_lr1_theory.specs.ValidItems.{HaveSameItems, NoneBarren}
use Rattle.lalrpop_lr1_theory.proofs.ListLemmas.{contains_get, get_contains}
use Rattle.lalrpop_lr1_theory.proofs.PassLemmas.{some_item}
use Rattle.lalrpop_lr1_theory.proofs.ReductionLemmas.{reduces_finished}
use Rattle.lalrpop_lr1_theory.proofs.StepLemmas.{some_same}
use Rattle.lalrpop_lr1_core.specs.Conflicts.{token_conflicts}
use Rattle.lalrpop_lr1_core.specs.TheoryGrammars.{theory_grammar}
use Rattle.lalrpop_lr1_core.specs.Views.{lr_state_view, production_view, reduction_view, shift_view, token_lookahead}
use Rattle.lalrpop_lr1_core.specs.declared.conflict.Action.{Action}
use Rattle.lalrpop_lr1_core.specs.declared.conflict.Action.TheVariants as actions
use Rattle.lalrpop_lr1_core.specs.declared.conflict.Conflict.{Conflict}
use Rattle.lalrpop_lr1_core.specs.declared.state.State.{State}
use Rattle.lalrpop_lr1_core.specs.declared.table_fault.TableConstructionError.{TableConstructionError}
use Rattle.lalrpop_lr1_core.specs.declared.table_fault.TableFault.TheVariants as faults
use Rattle.lalrpop_lr1_core.proofs.GraphLemmas.{flat_has, in_flat}
use Rattle.lalrpop_lr1_core.proofs.MemberLemmas.{in_map}
use Rattle.lalrpop_lr1_core.proofs.NoConflictLemmas.{at_mapped, mapped_at}
use Rattle.lalrpop_lr1_first.specs.NumberedGrammars.{HasItsTerminals}
use Rattle.lalrpop_lr1_build.specs.BuiltStates.{IsCanonicalFault}
use Rattle.lalrpop_lr1_counterexamples.specs.ConflictCertificates.{HaveOwnActions, IsCertificateOf, move_of_action}
use Rattle.lalrpop_lr1_counterexamples.specs.StandingConflicts.{IsOtherAction, IsToldConflict}
use Rattle.lalrpop_lr1_counterexamples.proofs.ToldLemmas.{told_stand}
use Rattle.lalrpop_judge.specs.Certificates.{ShownConflict, reduce_by}
use Rattle.lalrpop_run.specs.AllConflicts.{AreConflictsInOrder, ConflictStands, IsPlacedBefore, IsPlacedIn, IsSoonest, MayBeReduced}
use Rattle.lalrpop_run.specs.AllConflicts.{PlacedConflict, ReductionConflict, with_reduction, with_shift}
use Rattle.lalrpop_run.specs.AllConflicts.{CertifiesPlaced, opposing_move, reducing_move}
use Rattle.lalrpop_run.specs.Asked.{ToldConflict}
use Rattle.lalrpop_run.specs.ToldConflicts.{AreToldOf, told_of}
use Rattle.lalrpop_run.specs.ConflictOrders.{IsNextBefore, IsProductionBefore, IsSooner}
use Rattle.lalrpop_run.proofs.BuiltOrderLemmas.{HasSoonestLists, HaveShiftsInOrder, IsSoonestTo, entries_in_order}
use Rattle.lalrpop_run.proofs.BuiltOrderLemmas.{shifts_ascend, sooner_to, soonest_lists}
use Rattle.lalrpop_run.proofs.ComparedOrderLemmas.{first_least}
use Rattle.lalrpop_run.proofs.ConflictOrderLemmas.{never_sooner, sooner_chain}
use Rattle.lalrpop_run.proofs.OrderedListLemmas.{AreInOrder, flat_in_order}
use Rattle.lalrpop_run.proofs.SameItemLemmas.{leads_there, one_state_same, reduces_valid, same_one_state, shifts_valid}
use Rattle.lalrpop_run.proofs.SameItemLemmas.{some_valid, valid_shifts}
use Rattle.lalrpop_run.proofs.StateConflictLemmas.{HasEntry, IsEntryBefore, all_shared, conflict_of_state, conflict_seen}
use Rattle.lalrpop_run.proofs.StateConflictLemmas.{conflicts_in_order, pair_apart, pair_told, seen_conflict, shift_told}

-- the move that an action does is the one that opposes the reduction
same_move : (p : theory.Production) (action : Action) → opposing_move (seen_conflict p action) ≡ move_of_action action
same_move p (actions.Shift t target) = refl
same_move p (actions.Reduce q) = refl

same_reduction : (p : theory.Production) (action : Action) → reducing_move (seen_conflict p action) ≡ reduce_by p.action
same_reduction p (actions.Shift t target) = refl
same_reduction p (actions.Reduce q) = refl

none_mapped : {X Y : Type 0} (f : X → Y) (xs : List X) → map f xs ≡ [] → xs ≡ []
none_mapped f [] e = refl
none_mapped f (x ∷ xs) e = let w : ⊥ = cc in absurd w

module _ (g : Grammar) (start : NonterminalString) (error : TableConstructionError (List ℕ)) (own : HasItsTerminals g)
    (ascending : IsStrictlySortedBy (terminals.ghosts).cmp g.terminals.all) (actions_own : HaveOwnActions g)
    (nb : NoneBarren (Contains (theory_grammar g)) start.0) (shifts : HaveShiftsInOrder error.states.items)
    (fault : IsCanonicalFault g start (faults.Conflicts error)) where
  abbrev G : theory.Production → Type 0
  G = Contains (theory_grammar g)

  abbrev s : Text
  s = start.0

  abbrev built : List (State (List ℕ))
  built = error.states.items

  abbrev conflicts : List (Conflict (List ℕ))
  conflicts = error.conflicts.items

  abbrev seen : State (List ℕ) → states.State
  seen = lr_state_view (token_lookahead g.terminals)

  abbrev all : List states.State
  all = map seen built

  can : AreCanonicalStates (theory_grammar g) s all
  can = fault.states_are.constructed

  in_order : (n : ℕ) (state : State (List ℕ)) → slice_get built n ≡ Some state → AreInOrder IsEntryBefore state.reductions
  in_order = entries_in_order g.terminals (theory_grammar g) s built can fault.states_are.ascending actions_own

  lists : HasSoonestLists g.terminals ascending all fault.states_are.numbered
  lists = soonest_lists g.terminals ascending all fault.states_are.numbered can.reached

  -- the conflict, on the soonest list of symbols that leads to its state
  abbrev place : Conflict (List ℕ) → PlacedConflict
  place c = record { symbols = lists.list_to c.state.0; conflict = conflict_seen c }

  -- the state of a conflict
  record IsConflictOf (c : Conflict (List ℕ)) (n : ℕ) : Type 0 where
    state : State (List ℕ)
    at : slice_get built n ≡ Some state
    told : Contains (token_conflicts g.terminals state) c
    number : c.state.0 ≡ n

  number_of : (n : ℕ) (state : State (List ℕ)) → slice_get built n ≡ Some state → (c : Conflict (List ℕ))
      → Contains (token_conflicts g.terminals state) c → c.state.0 ≡ n
  number_of n state at c told =
      ap (λ k. k.0) (conflict_of_state g.terminals state c told) ∙ can.index n (seen state) (mapped_at seen built n state at)

  conflict_home : (c : Conflict (List ℕ)) → Contains conflicts c → (n : ℕ) × IsConflictOf c n
  conflict_home c d =
      let f = in_flat (token_conflicts g.terminals) built c (subst (λ l. Contains l c) fault.conflicts_are d) in
      let k = contains_get built f.0 f.1 in
      (k.0, record { state = f.0; at = k.1; told = f.2; number = number_of k.0 f.0 k.1 c f.2 })

  soonest_at : (n : ℕ) (state : State (List ℕ)) → slice_get built n ≡ Some state → IsSoonestTo all n (lists.list_to n)
  soonest_at n state at = lists.soonest n (slice_get_within all n (seen state) (mapped_at seen built n state at))

  conflict_walk : (c : Conflict (List ℕ)) → Contains conflicts c → IsSoonestTo all c.state.0 (lists.list_to c.state.0)
  conflict_walk c d =
      let h = conflict_home c d in
      subst (λ n. IsSoonestTo all n (lists.list_to n)) (sym h.1.number) (soonest_at h.0 h.1.state h.1.at)

  -- a list of symbols that leads soonest is the soonest with its items
  soonest_valid : (n : ℕ) (word : List theory.Symbol) → IsSoonestTo all n word → IsSoonest G s word
  soonest_valid n word it h same sooner =
      let v = some_valid (theory_grammar g) s all can nb word n it.0 in
      let m = leads_there (theory_grammar g) s all can nb h v.production v.dot v.next ((same v.production v.dot v.next).1 v.valid) in
      let one = same_one_state (theory_grammar g) s all can nb h word m.0 n m.1 it.0 same in
      go (it.1 h (subst (Walk (HasEdge all) h) one m.1))
    where
      go : (word ≡ h) ⊎ IsSooner word h → ⊥
      go (inl e) = never_sooner h (subst (IsSooner h) e sooner)
      go (inr e) = never_sooner word (sooner_chain word h word e sooner)

  -- a reduction of the state
  entry_of : (n : ℕ) (state : State (List ℕ)) → slice_get built n ≡ Some state → (p : theory.Production) (x : theory.Next)
      → Finished (HasLookahead all) n p x → HasEntry g.terminals state p x
  entry_of n state at p x f =
      let r = (reduces_finished (theory_grammar g) s all can n p x).1 f in
      let same : r.state ≡ seen state = some_same r.state (seen state) (sym r.at ∙ mapped_at seen built n state at) in
      let e = in_map (reduction_view (token_lookahead g.terminals)) state.reductions
      (record { production = p; lookahead = r.lookahead })
      (subst (λ (st : states.State). Contains st.reductions (record { production = p; lookahead = r.lookahead })) same r.held) in
      record {
        entry = e.0;
        there = e.1;
        by = ap (λ (v : states.Reduction). v.production) e.2;
        follows = subst (λ (l : states.LookaheadSet). Contains l.nexts x) (sym (ap (λ (v : states.Reduction). v.lookahead) e.2)) r.follows;
      }

  entry_on : (n : ℕ) (state : State (List ℕ)) → slice_get built n ≡ Some state → (word : List theory.Symbol) → Walk (HasEdge all) word n
      → (p : theory.Production) (x : theory.Next) → MayBeReduced G s word p x → HasEntry g.terminals state p x
  entry_on n state at word w p x f = entry_of n state at p x ((reduces_valid (theory_grammar g) s all can nb word n w p x).1 f)

  -- what stands in the state stands on the symbols that lead to it
  action_stands : (n : ℕ) (word : List theory.Symbol) → Walk (HasEdge all) word n → (x : theory.Next) (p : theory.Production)
      (action : Action) → Finished (HasLookahead all) n p x → IsOtherAction all n x p action
      → ((q : theory.Production) → seen_conflict p action ≡ with_reduction p q → IsProductionBefore p q)
      → ConflictStands G s word (seen_conflict p action) x
  action_stands n word w x p (actions.Shift t target) f acts apart = (
    (reduces_valid (theory_grammar g) s all can nb word n w p x).0 f,
    shifts_valid (theory_grammar g) s all can nb word n w (terminal_view t) target.0 acts.0,
    sym acts.1,
  )
  action_stands n word w x p (actions.Reduce q) f acts apart = (
    (reduces_valid (theory_grammar g) s all can nb word n w p x).0 f,
    (reduces_valid (theory_grammar g) s all can nb word n w (production_view q.now) x).0 acts.0,
    apart (production_view q.now) refl,
  )

  conflict_stands : (i : ℕ) (c : Conflict (List ℕ)) → slice_get conflicts i ≡ Some c → (it : IsToldConflict g.terminals all c)
      → ConflictStands G s (lists.list_to c.state.0) (conflict_seen c) it.next
  conflict_stands i c at it =
      let d = get_contains conflicts i c at in
      let h = conflict_home c d in
      action_stands c.state.0 (lists.list_to c.state.0) (conflict_walk c d).0 it.next (production_view c.production.now) c.action
      it.stands.reduces it.stands.acts
      (λ q e. pair_apart g.terminals h.1.state (in_order h.0 h.1.state h.1.at) c h.1.told (production_view c.production.now) q e)

  told_at : (i : ℕ) (c : Conflict (List ℕ)) → slice_get conflicts i ≡ Some c → IsToldConflict g.terminals all c
  told_at = told_stand g start error own fault

  -- a conflict that stands on symbols is told of the state to which they lead
  told_on : (n : ℕ) (state : State (List ℕ)) → slice_get built n ≡ Some state → (word : List theory.Symbol) → Walk (HasEdge all) word n
      → (c : ReductionConflict) (x : theory.Next) → ConflictStands G s word c x
      → (d : Conflict (List ℕ)) × Contains (token_conflicts g.terminals state) d × (conflict_seen d ≡ c)
  told_on n state at word w (with_reduction p q) x it =
      pair_told g.terminals state own.numbered.numbered (in_order n state at) p q x (entry_on n state at word w p x it.0)
      (entry_on n state at word w q x it.1) it.2
  told_on n state at word w (with_shift p t) x it =
      let e = valid_shifts (theory_grammar g) s all can nb word n w t it.1 in
      let same : e.1.0 ≡ seen state = some_same e.1.0 (seen state) (sym e.1.1 ∙ mapped_at seen built n state at) in
      let m = in_map shift_view state.shifts (t, e.0) (subst (λ (st : states.State). Contains st.shifts (t, e.0)) same e.1.2) in
      let one : terminal_view m.0.0 ≡ t = ap (λ v. v.0) m.2 in
      let r = shift_told g.terminals state own.numbered.numbered m.0 m.1 p
      (subst (HasEntry g.terminals state p) (it.2 ∙ ap (λ u. Some u) (sym one)) (entry_on n state at word w p x it.0)) in
      (r.0, r.1, r.2 ∙ ap (with_shift p) one)

  placed_there : (word : List theory.Symbol) (n : ℕ) → Walk (HasEdge all) word n → (c : ReductionConflict) (x : theory.Next)
      → ConflictStands G s word c x → IsPlacedIn G s (map place conflicts) word c
  placed_there word n w c x it =
      let item = some_item G s (states.HasItem all) (HasEdge all) can.automaton.cover nb word n w in
      let b = at_mapped seen built n item.2.state item.2.at in
      let t = told_on n b.0 b.1 word w c x it in
      let d = subst (λ l. Contains l t.0) (sym fault.conflicts_are)
      (flat_has (token_conflicts g.terminals) built b.0 t.0 (get_contains built n b.0 b.1) t.1) in
      let k = contains_get conflicts t.0 d in
      let home = number_of n b.0 b.1 t.0 t.1 in
      let soonest = soonest_at n b.0 b.1 in
      record {
        number = k.0;
        placed = place t.0;
        at = mapped_at place conflicts k.0 t.0 k.1;
        conflict_is = t.2;
        same = subst (λ m. HaveSameItems G s word (lists.list_to m)) (sym home)
            (one_state_same (theory_grammar g) s all can nb word (lists.list_to n) n w soonest.0);
      }

  every_placed : (word : List theory.Symbol) (c : ReductionConflict) (x : theory.Next) → ConflictStands G s word c x
      → IsPlacedIn G s (map place conflicts) word c
  every_placed word (with_shift p t) x it =
      let m = leads_there (theory_grammar g) s all can nb word p (length p.right) x it.0 in
      placed_there word m.0 m.1 (with_shift p t) x it
  every_placed word (with_reduction p q) x it =
      let m = leads_there (theory_grammar g) s all can nb word p (length p.right) x it.0 in
      placed_there word m.0 m.1 (with_reduction p q) x it

  -- the places of conflicts that are told are in order
  abbrev IsPlaceBefore : Conflict (List ℕ) → Conflict (List ℕ) → Type 0
  IsPlaceBefore c d = IsPlacedBefore (place c) (place d)

  state_in_order : (n : ℕ) (state : State (List ℕ)) → slice_get built n ≡ Some state
      → AreInOrder IsPlaceBefore (token_conflicts g.terminals state)
  state_in_order n state at i j c d l e f =
      let one = number_of n state at c (get_contains (token_conflicts g.terminals state) i c e) in
      let other = number_of n state at d (get_contains (token_conflicts g.terminals state) j d f) in
      inr (
        ap lists.list_to (one ∙ sym other),
        conflicts_in_order g.terminals state (in_order n state at) (shifts_ascend built shifts n state at) i j c d l e f,
      )

  places_in_order : AreInOrder IsPlaceBefore conflicts
  places_in_order =
      subst (AreInOrder IsPlaceBefore) (sym fault.conflicts_are)
      (flat_in_order IsPlaceBefore (token_conflicts g.terminals) built
      (λ state c. let k = contains_get built state c in state_in_order k.0 state k.1)
      (λ i j a b l e f c d told also.
      inl (subst (λ n. IsSooner (lists.list_to n) (lists.list_to d.state.0)) (sym (number_of i a e c told))
      (subst (λ n. IsSooner (lists.list_to i) (lists.list_to n)) (sym (number_of j b f d also))
      (sooner_to g.terminals ascending all fault.states_are.numbered i j (lists.list_to i) (lists.list_to j) (soonest_at i a e)
      (soonest_at j b f) l)))))

  are_all : AreConflictsInOrder G s (map place conflicts)
  are_all = record {
    stand = λ i c at.
        let k = at_mapped place conflicts i c at in
        let it = told_at i k.0 k.1 in
        (it.next, subst (λ (d : PlacedConflict). ConflictStands G s d.symbols d.conflict it.next) k.2 (conflict_stands i k.0 k.1 it));
    soonest = λ i c at.
        let k = at_mapped place conflicts i c at in
        subst (λ (d : PlacedConflict). IsSoonest G s d.symbols) k.2
        (soonest_valid k.0.state.0 (lists.list_to k.0.state.0) (conflict_walk k.0 (get_contains conflicts i k.0 k.1)));
    every = every_placed;
    ordered = λ i j c d l e f.
        let a = at_mapped place conflicts i c e in
        let b = at_mapped place conflicts j d f in
        subst (λ v. IsPlacedBefore v d) a.2 (subst (IsPlacedBefore (place a.0)) b.2 (places_in_order i j a.0 b.0 l a.1 b.1));
  }

  -- the certificate of a conflict certifies it where it is placed
  module _ (i : ℕ) (c : Conflict (List ℕ)) (at : slice_get conflicts i ≡ Some c) (it : ShownConflict)
      (certificate : IsCertificateOf g s all c it) where
    certified_next : ConflictStands G s (lists.list_to c.state.0) (conflict_seen c) it.next
    certified_next =
        let told = told_at i c at in
        let same : told.next ≡ it.next = some_same told.next it.next (sym told.least ∙ certificate.next_is) in
        subst (ConflictStands G s (lists.list_to c.state.0) (conflict_seen c)) same (conflict_stands i c at told)

    certified_least : (x : theory.Next) (p : theory.Production) (action : Action) → conflict_seen c ≡ seen_conflict p action
        → ConflictStands G s (lists.list_to c.state.0) (seen_conflict p action) x
        → ConflictStands G s (lists.list_to c.state.0) (seen_conflict p action) it.next → (x ≡ it.next) ⊎ IsNextBefore it.next x
    certified_least x p (actions.Shift t target) e a b = inl (a.2 ∙ sym b.2)
    certified_least x p (actions.Reduce q) e a b =
        let d = get_contains conflicts i c at in
        let h = conflict_home c d in
        let w = subst (Walk (HasEdge all) (lists.list_to c.state.0)) h.1.number (conflict_walk c d).0 in
        first_least g.terminals ascending c.lookahead it.next x certificate.next_is
        (all_shared g.terminals h.1.state own.numbered.numbered (in_order h.0 h.1.state h.1.at) c h.1.told p (production_view q.now) e x
        (entry_on h.0 h.1.state h.1.at (lists.list_to c.state.0) w p x a.0)
        (entry_on h.0 h.1.state h.1.at (lists.list_to c.state.0) w (production_view q.now) x a.1))

    certified_placed : CertifiesPlaced G s (place c) it
    certified_placed = record {
      certifies = certificate.certifies;
      move1_is = certificate.move1_is ∙ sym (same_reduction (production_view c.production.now) c.action);
      move2_is = certificate.move2_is ∙ sym (same_move (production_view c.production.now) c.action);
      state = one_state_same (theory_grammar g) s all can nb (roots (without_spans it.shared)) (lists.list_to c.state.0) c.state.0
          certificate.walk (conflict_walk c (get_contains conflicts i c at)).0;
      next_stands = certified_next;
      next_least = λ x stands. certified_least x (production_view c.production.now) c.action refl stands certified_next;
    }

  -- a conflict of the productions for each that is told, in one order
  pub record HasAllConflicts : Type 0 where
    pub list : List PlacedConflict
    pub count : length list ≡ length conflicts
    pub are_all : AreConflictsInOrder G s list
    pub seen_at : (i : ℕ) (c : Conflict (List ℕ)) (d : PlacedConflict) → slice_get conflicts i ≡ Some c → slice_get list i ≡ Some d
        → d.conflict ≡ conflict_seen c
    pub certified : (i : ℕ) (c : Conflict (List ℕ)) (d : PlacedConflict) (it : ShownConflict) → slice_get conflicts i ≡ Some c
        → slice_get list i ≡ Some d → IsCertificateOf g s all c it → CertifiesPlaced G s d it

  pub all_conflicts : HasAllConflicts
  all_conflicts = record {
    list = map place conflicts;
    count = length-map conflicts place;
    are_all = are_all;
    seen_at = λ i c d at there.
        sym (ap (λ (v : PlacedConflict). v.conflict) (some_same (place c) d (sym (mapped_at place conflicts i c at) ∙ there)));
    certified = λ i c d it at there certificate.
        subst (λ (v : PlacedConflict). CertifiesPlaced G s v it)
        (some_same (place c) d (sym (mapped_at place conflicts i c at) ∙ there)) (certified_placed i c at it certificate);
  }

  -- where a certificate of each is told, they are told in order
  pub told_in_order : (label_of : ℕ → Label Nonterminal Origin) (told : List ToldConflict) → length told ≡ length conflicts
      → ((i : ℕ) (c : Conflict (List ℕ)) (t : ToldConflict) → slice_get conflicts i ≡ Some c → slice_get told i ≡ Some t
      → (it : ShownConflict) × IsCertificateOf g s all c it × (t ≡ told_of label_of it)) → AreToldOf G s label_of told
  told_in_order label_of told many each = record {
    conflicts = map place conflicts;
    are_all = are_all;
    some = λ e. fault.some (none_mapped place conflicts e);
    count = many ∙ sym (length-map conflicts place);
    each = λ i d t at there.
        let k = at_mapped place conflicts i d at in
        let c = each i k.0 t k.1 there in
        record {
          shown = c.0;
          certificate = subst (λ (v : PlacedConflict). CertifiesPlaced G s v c.0) k.2 (certified_placed i k.0 k.1 c.0 c.1);
          told_is = c.2;
        };
  }
