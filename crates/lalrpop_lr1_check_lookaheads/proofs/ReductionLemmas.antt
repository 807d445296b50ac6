-- By what states reduce, as the theory of tables sees it: for the test of states.
use Rattle.std.proofs.Common.{◌≡◌, ◌∙◌, ◌⊎◌, ℕ, zero, suc, ◌+◌, ◌<◌, ◌≤◌, Bool, true, false, List, []}
use Rattle.std.proofs.Common.{◌∷◌, length, map}
use Rattle.std.proofs.Common.{Some, None, Option, refl, sym, ap, subst, Contains, slice_get, arith}
use Rattle.std.specs.Prelude.{filter, option_map}
use Rattle.std.proofs.Common.{inl, inr, ⊎_elim}
use Rattle.std.proofs.lemmas.List.Elements.{All-contains}
use Rattle.std.specs.List.{range_with_len}
use Rattle.lalrpop_grammar_symbols.specs.Views.{terminal_view}
use Rattle.lalrpop_grammar_symbols.specs.declared.names.NonterminalString.{NonterminalString}
use Rattle.lalrpop_grammar_symbols.specs.declared.terminal.TerminalString.{TerminalString}
use Rattle.lalrpop_grammar_repr.specs.declared.terminal_set.TerminalSet.{TerminalSet}
use Rattle.lalrpop_sets.specs.AscendingLists.{has}
use Rattle.lalrpop_sets.specs.Tokens.{eof_number}
use Rattle.lalrpop_lr1_theory.specs.Productions as theory
use Rattle.lalrpop_lr1_theory.specs.States as states
use Rattle.lalrpop_lr1_theory.specs.CheckedStates.{HasNoConflict}
use Rattle.lalrpop_lr1_theory.specs.Laws.{HaveNoConflict}
use Rattle.lalrpop_lr1_theory.proofs.ListLemmas.{contains_get, get_contains}
use Rattle.lalrpop_lr1_core.specs.Conflicts.{token_conflicts}
use Rattle.lalrpop_lr1_core.specs.Numbering.{IsNumberedByPlaces, IsOverTokens, NumbersArePlaces}
use Rattle.lalrpop_lr1_core.specs.Views.{lr_state_view, next_of_number, production_symbol_view, production_view, reduction_view}
use Rattle.lalrpop_lr1_core.specs.Views.{token_lookahead}
use Rattle.lalrpop_lr1_core.specs.declared.state.State.{State}
use Rattle.lalrpop_lr1_core.proofs.MemberLemmas.{filter_has, in_filter, in_map, map_has, range_has}
use Rattle.lalrpop_lr1_core.proofs.NoConflictLemmas.{at_mapped, mapped_at, none_is_none, none_is_there}
use Rattle.lalrpop_lr1_check_lookaheads.specs.ListTests.{HaveSameElements, HoldsAtEach}
use Rattle.lalrpop_lr1_check_lookaheads.specs.ListedItems.{ItemKey, keys_of_states}
use Rattle.lalrpop_lr1_check_lookaheads.specs.Reductions.{DoesEndRightly, EndsAsSeen, FinishedAsSeen, IsFinishedIn, OverTokens}
use Rattle.lalrpop_lr1_check_lookaheads.proofs.MoveLemmas.{held_seen, seen_held}
use Rattle.lalrpop_lr1_first.proofs.TableLemmas.{long_map}

none_past : {X : Type 0} (xs : List X) → slice_get xs (length xs) ≡ None
none_past [] = refl
none_past (x ∷ xs) = none_past xs

past_none : {X : Type 0} (xs : List X) (k : ℕ) → slice_get xs k ≡ None → length xs ≤ k
past_none [] k e = omega arith
past_none (x ∷ xs) zero e = let w : ⊥ = cc in absurd w
past_none (x ∷ xs) (suc k) e = omega (arith, past_none xs k e)

abbrev name_of : List ℕ → NonterminalString
name_of t = record { 0 = t }

module _ {L : Type 0} (look : L → states.LookaheadSet) (all : List (State L)) (keys : List ItemKey)
    (same : HaveSameElements keys (keys_of_states all)) where
  abbrev pub EachFinished : Type 0
  EachFinished = HoldsAtEach (λ n state. HoldsAtEach (λ _ r. IsFinishedIn keys n r.1.now) state.reductions) all

  pub finished_seen : EachFinished → FinishedAsSeen (map (lr_state_view look) all)
  finished_seen each n state a at c =
      let s = at_mapped (lr_state_view look) all n state at in
      let d = subst (λ (v : states.State). Contains v.reductions a) (sym s.2) c in
      let r = in_map (reduction_view look) s.0.reductions a d in
      let k = contains_get s.0.reductions r.0 r.1 in
      let p = r.0.1.now in
      let h = held_seen look all keys same n p (length p.symbols) (each n s.0 s.1 k.0 r.0 k.1) in
      subst (λ (v : theory.Production). states.HasItem (map (lr_state_view look) all) n v (length v.right))
      (ap (λ (v : states.Reduction). v.production) r.2)
      (subst (λ j. states.HasItem (map (lr_state_view look) all) n (production_view p) j)
      (sym (long_map production_symbol_view p.symbols)) h)

  pub seen_finished : FinishedAsSeen (map (lr_state_view look) all) → EachFinished
  seen_finished told n s at k r at_k =
      let p = r.1.now in
      let h = told n (lr_state_view look s) (reduction_view look r) (mapped_at (lr_state_view look) all n s at)
      (map_has (reduction_view look) s.reductions r (get_contains s.reductions k r at_k)) in
      seen_held look all keys same n p (length p.symbols)
      (subst (λ j. states.HasItem (map (lr_state_view look) all) n (production_view p) j) (long_map production_symbol_view p.symbols) h)

module _ (ts : TerminalSet) (all : List (State (List ℕ))) where
  abbrev seen : List states.State
  seen = map (lr_state_view (token_lookahead ts)) all

  end_none : next_of_number ts (eof_number ts) ≡ None
  end_none = ap (option_map terminal_view) (none_past ts.all)

  none_end : (k : ℕ) → next_of_number ts k ≡ None → eof_number ts ≤ k
  none_end k e = go (slice_get ts.all k) refl e
    where
      go : (o : Option TerminalString) → slice_get ts.all k ≡ o → option_map terminal_view o ≡ None → eof_number ts ≤ k
      go None f g = past_none ts.all k f
      go (Some t) f g = let w : ⊥ = cc in absurd w

  abbrev pub EachEndsRightly : NonterminalString → Type 0
  EachEndsRightly start = HoldsAtEach (λ _ state. HoldsAtEach (λ _ r. DoesEndRightly start ts r.0 r.1.now) state.reductions) all

  rightly : (start : NonterminalString) → EachEndsRightly start → (n : ℕ) (state : states.State) (a : states.Reduction) →
      slice_get seen n ≡ Some state → Contains state.reductions a → a.production.left ≡ start.0 →
      (set : List ℕ) × (a.lookahead ≡ token_lookahead ts set) × ((k : ℕ) → has set k ≡ true → k ≡ eof_number ts)
  rightly start each n state a at c e =
      let s = at_mapped (lr_state_view (token_lookahead ts)) all n state at in
      let d = subst (λ (v : states.State). Contains v.reductions a) (sym s.2) c in
      let r = in_map (reduction_view (token_lookahead ts)) s.0.reductions a d in
      let k = contains_get s.0.reductions r.0 r.1 in
      let name : r.0.1.now.nonterminal ≡ start = ap name_of (ap (λ (v : states.Reduction). v.production.left) r.2 ∙ e) in (
        r.0.0,
        sym (ap (λ (v : states.Reduction). v.lookahead) r.2),
        each n s.0 s.1 k.0 r.0 k.1 name,
      )

  pub ends_seen : (start : NonterminalString) → EachEndsRightly start → EndsAsSeen start.0 seen
  ends_seen start each = record {
    at_end = λ n state a x at c e d.
        let r = rightly start each n state a at c e in
        let m = in_map (next_of_number ts) (filter (has r.0) (range_with_len 0 (eof_number ts + 1))) x
        (subst (λ (v : states.LookaheadSet). Contains v.nexts x) r.1 d) in
        let f = in_filter (has r.0) (range_with_len 0 (eof_number ts + 1)) m.0 m.1 in
        sym m.2 ∙ ap (next_of_number ts) (r.2 m.0 f.0) ∙ end_none;
    no_error = λ n state a at c e.
        let r = rightly start each n state a at c e in
        ap (λ (v : states.LookaheadSet). v.error) r.1 ∙ unmarked r.0 r.2 (has r.0 (eof_number ts + 1)) refl;
  }
    where
      unmarked : (set : List ℕ) → ((k : ℕ) → has set k ≡ true → k ≡ eof_number ts) → (b : Bool) →
          has set (eof_number ts + 1) ≡ b → b ≡ false
      unmarked set f true e = absurd (omega (arith, f (eof_number ts + 1) e))
      unmarked set f false e = refl

  pub seen_ends : (start : NonterminalString) → OverTokens ts all → EndsAsSeen start.0 seen → EachEndsRightly start
  seen_ends start over told n s at j r at_j name k h =
      let c = map_has (reduction_view (token_lookahead ts)) s.reductions r (get_contains s.reductions j r at_j) in
      let view = mapped_at (lr_state_view (token_lookahead ts)) all n s at in
      let left : r.1.now.nonterminal.0 ≡ start.0 = ap (λ (v : NonterminalString). v.0) name in
      let small : k ≤ eof_number ts + 1 =
      All-contains (λ e. IsOverTokens ts e.0) s.reductions r (over n s at) (get_contains s.reductions j r at_j) k h in
      go (cases k (eof_number ts + 1) small)
      (told.no_error n (lr_state_view (token_lookahead ts) s) (reduction_view (token_lookahead ts) r) view c left)
      (λ l. told.at_end n (lr_state_view (token_lookahead ts) s) (reduction_view (token_lookahead ts) r) (next_of_number ts k) view c
      left (map_has (next_of_number ts) (filter (has r.0) (range_with_len 0 (eof_number ts + 1))) k
      (filter_has (has r.0) (range_with_len 0 (eof_number ts + 1)) k h (range_has 0 (eof_number ts + 1) k (omega arith)
      (omega (arith, l))))))
    where
      cases : (a b : ℕ) → a ≤ b → (a ≡ b) ⊎ (a < b)
      cases zero zero l = inl refl
      cases zero (suc b) l = inr (omega arith)
      cases (suc a) zero l = absurd (omega (arith, l))
      cases (suc a) (suc b) l = ⊎_elim (λ e. inl (ap suc e)) (λ c. inr (omega (arith, c))) (cases a b (omega (arith, l)))

      go : (k ≡ eof_number ts + 1) ⊎ (k < eof_number ts + 1) → has r.0 (eof_number ts + 1) ≡ false →
          (k < eof_number ts + 1 → next_of_number ts k ≡ None) → k ≡ eof_number ts
      go (inl e) none at_end =
          let both : true ≡ false = sym h ∙ ap (has r.0) e ∙ none in let w : ⊥ = cc in absurd w
      go (inr l) none at_end = omega (arith, l, none_end k (at_end l))

  abbrev pub EachHasNoConflict : Type 0
  EachHasNoConflict = HoldsAtEach (λ _ state. length (token_conflicts ts state) ≡ 0) all

  empty_is : {X : Type 0} (xs : List X) → length xs ≡ 0 → xs ≡ []
  empty_is [] e = refl
  empty_is (x ∷ xs) e = absurd (omega (arith, e))

  pub conflicts_seen : IsNumberedByPlaces ts → EachHasNoConflict → HaveNoConflict seen
  conflicts_seen numbered each n state at =
      let s = at_mapped (lr_state_view (token_lookahead ts)) all n state at in
      subst HasNoConflict s.2 (none_is_none ts s.0 numbered (empty_is (token_conflicts ts s.0) (each n s.0 s.1)))

  pub seen_conflicts : NumbersArePlaces ts → OverTokens ts all →
      HaveNoConflict seen → EachHasNoConflict
  seen_conflicts placed over none n s at =
      ap length (none_is_there ts s placed (over n s at) (none n (lr_state_view (token_lookahead ts) s)
      (mapped_at (lr_state_view (token_lookahead ts)) all n s at)))
