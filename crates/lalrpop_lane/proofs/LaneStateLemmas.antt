-- States without lookaheads as states with them, and states that reduce before just what is carried: what both keep. For states by lanes.
use Rattle.std.proofs.Common.{◌≡◌, ◌∙◌, ◌↔◌, ℕ, ◌+◌, ◌≤◌, Bool, true, false, List, [], Contains, Some, length, map, refl, sym, ap}
use Rattle.std.proofs.Common.{subst, arith}
use Rattle.std.specs.Borrow.{Bor}
use Rattle.std.specs.Prelude.{slice_get}
use Rattle.std.proofs.lemmas.Option.{slice_get_within}
use Rattle.lalrpop_grammar_symbols.specs.Symbols.{Text}
use Rattle.lalrpop_grammar_symbols.specs.declared.names.NonterminalString.{NonterminalString}
use Rattle.lalrpop_grammar_repr.specs.declared.grammar.Grammar.{Grammar}
use Rattle.lalrpop_grammar_repr.specs.declared.production.Production.{Production}
use Rattle.lalrpop_grammar_repr.specs.declared.terminal_set.TerminalSet.{TerminalSet}
use Rattle.lalrpop_lr1_theory.specs.Automata.{Carries}
use Rattle.lalrpop_lr1_theory.specs.CanonicalStates.{AreLr0States}
use Rattle.lalrpop_lr1_theory.specs.Laws.{HaveNoConflict}
use Rattle.lalrpop_lr1_theory.specs.Productions as theory
use Rattle.lalrpop_lr1_theory.specs.States as states
use Rattle.lalrpop_lr1_theory.specs.States.{HasEdge, HasItem}
use Rattle.lalrpop_lr1_theory.proofs.CollapseLemmas.{get_some}
use Rattle.lalrpop_lr1_theory.proofs.FinishedLemmas.{reduction_by_held}
use Rattle.lalrpop_lr1_theory.proofs.ListLemmas.{contains_get}
use Rattle.lalrpop_lr1_theory.proofs.StepLemmas.{some_same}
use Rattle.lalrpop_lr1_theory.proofs.OrderLemmas.{get_image, image_get, image_of, image_there}
use Rattle.lalrpop_lane_theory.specs.CarriedConflicts.{AreCarriedReductions, HaveNoCarriedConflict}
use Rattle.lalrpop_lane_theory.specs.Lalr1Grammars.{IsLalr1}
use Rattle.lalrpop_lane_theory.proofs.CarriedLemmas.{carried_conflicts, reduce_once}
use Rattle.lalrpop_lane_theory.proofs.Lalr1Lemmas.{lr0_lalr1}
use Rattle.lalrpop_lane_theory.proofs.LaneLemmas.{item_given, lr0_reached}
use Rattle.lalrpop_lane_theory.proofs.SpreadLemmas.{spread_itself}
use Rattle.lalrpop_sets.specs.AscendingLists.{has}
use Rattle.lalrpop_sets.specs.Tokens.{eof_number}
use Rattle.lalrpop_sets.specs.declared.nil.Nil.{Nil}
use Rattle.lalrpop_lr1_core.specs.Numbering.{IsOverTokens}
use Rattle.lalrpop_lr1_core.specs.TheoryGrammars.{productions_of_grammar, theory_grammar}
use Rattle.lalrpop_lr1_core.specs.Views.{lr_item_view, lr_state_view, nil_lookahead, production_view, reduction_view, token_lookahead}
use Rattle.lalrpop_lr1_core.specs.declared.item.Item.{Item}
use Rattle.lalrpop_lr1_core.specs.declared.state.State.{State}
use Rattle.lalrpop_lr1_first.specs.NumberedGrammars.{HasItsTerminals}
use Rattle.lalrpop_lr1_first.proofs.TableLemmas.{long_map}
use Rattle.lalrpop_lr1_build.specs.BuiltStates.{AreBuiltStates}
use Rattle.lalrpop_lr1_build.specs.CollapseAnswers.{states_over}
use Rattle.lalrpop_lr1_build.specs.NextLaws.{token_nexts}
use Rattle.lalrpop_lr1_build.specs.Nexts.{IsNextIn}
use Rattle.lalrpop_lr1_build.proofs.BuiltLemmas.{all_each, built_alike}
use Rattle.lalrpop_lr1_check_lookaheads.specs.CarriedSets.{AreCarriedSets, IsCarriedSet}
use Rattle.lalrpop_lr1_check_lookaheads.specs.LookaheadFlows.{HaveKnownItems}
use Rattle.lalrpop_lr1_check_lookaheads.specs.Reductions.{OverTokens}
use Rattle.lalrpop_lr1_check_lookaheads.proofs.SeenLemmas.{same_view}
use Rattle.lalrpop_lane.specs.LaneStates.{AreLaneStates, AreReducedStates, AreSpreadOverLr0, HaveSetEach}
use Rattle.lalrpop_lane.specs.LaneStates.{IsBeforeSets, ReduceBeforeCarried, item_before, reduction_before, state_before}
use Rattle.lalrpop_lane.proofs.CarriedStateLemmas.{AreSameBut, IsSameBut, carried_before, items_same, once_same, reductions_same}
use Rattle.lalrpop_lane.proofs.CarriedStateLemmas.{spread_no_conflict, spread_same}

-- an item, with what may follow
abbrev item_of : theory.Production → ℕ → states.LookaheadSet → states.Item
item_of p i l = record { production = p; dot = i; lookahead = l }

module _ (ts : TerminalSet) where
  abbrev look : List ℕ → states.LookaheadSet
  look = token_lookahead ts

  abbrev view : State (List ℕ) → states.State
  view = lr_state_view look

  abbrev nil_view : State Nil → states.State
  nil_view = lr_state_view nil_lookahead

  module _ (set : List ℕ) where
    -- a state before a set is the same but for what may follow
    state_same : (state : State Nil) → IsSameBut (nil_view state) (view (state_before set state))
    state_same state =
        record {
          items_to = λ p i l c.
              let it = image_of (lr_item_view nil_lookahead) state.items.vec (item_of p i l) c in (
                look set,
                subst (Contains (view (state_before set state)).items)
                    (ap (λ (v : states.Item). item_of v.production v.dot (look set)) it.2)
                    (image_there (lr_item_view look) (map (item_before set) state.items.vec) (item_before set it.0)
                    (image_there (item_before set) state.items.vec it.0 it.1)),
              );
          items_from = λ p i l c.
              let y = image_of (lr_item_view look) (map (item_before set) state.items.vec) (item_of p i l) c in
              let it = image_of (item_before set) state.items.vec y.0 y.1 in (
                nil_lookahead it.0.lookahead,
                subst (Contains (nil_view state).items)
                    (ap (λ (z : Item (List ℕ)). item_of (production_view z.production.now) z.index (nil_lookahead it.0.lookahead)) it.2
                    ∙ ap (λ (v : states.Item). item_of v.production v.dot (nil_lookahead it.0.lookahead)) y.2)
                    (image_there (lr_item_view nil_lookahead) state.items.vec it.0 it.1),
              );
          shifts = refl;
          gotos = refl;
          reductions_to = λ j r e.
              let x = get_image (reduction_view nil_lookahead) state.reductions j r e in (
                reduction_view look (reduction_before set x.0),
                image_get (reduction_view look) (map (reduction_before set) state.reductions) j (reduction_before set x.0)
                    (image_get (reduction_before set) state.reductions j x.0 x.1),
                ap (λ (v : states.Reduction). v.production) x.2,
              );
          reductions_from = λ j r e.
              let y = get_image (reduction_view look) (map (reduction_before set) state.reductions) j r e in
              let x = get_image (reduction_before set) state.reductions j y.0 y.1 in (
                reduction_view nil_lookahead x.0,
                image_get (reduction_view nil_lookahead) state.reductions j x.0 x.1,
                ap (λ (z : List ℕ × Bor Production). production_view z.1.now) x.2 ∙ ap (λ (v : states.Reduction). v.production) y.2,
              );
        }

    states_same : (built : List (State Nil)) → AreSameBut (map nil_view built) (states_over ts (map (state_before set) built))
    states_same built =
        record {
          to = λ n a e.
              let st = get_image nil_view built n a e in (
                view (state_before set st.0),
                image_get view (map (state_before set) built) n (state_before set st.0) (image_get (state_before set) built n st.0 st.1),
                subst (λ a. IsSameBut a (view (state_before set st.0))) st.2 (state_same st.0),
              );
          from = λ n b e.
              let y = get_image view (map (state_before set) built) n b e in
              let st = get_image (state_before set) built n y.0 y.1 in (
                nil_view st.0,
                image_get nil_view built n st.0 st.1,
                subst (IsSameBut (nil_view st.0)) (ap view st.2 ∙ y.2) (state_same st.0),
              );
        }

-- nothing is in an empty set
in_nothing : (ts : TerminalSet) (x : theory.Next) → IsNextIn ts [] x ↔ ⊥
in_nothing ts x = (λ h. let f : false ≡ true = h.2 in let z : ⊥ = cc in z, λ z. absurd z)

-- the states that are constructed without lookaheads, before a set, are spread over themselves
pub lr0_spread : (g : Grammar) (start : NonterminalString) (set : List ℕ) (built : List (State Nil)) →
    AreBuiltStates (λ (n : Nil). []) nil_lookahead false (IsNextIn g.terminals []) g start built →
    AreSpreadOverLr0 g start.0 0 (map (state_before set) built)
lr0_spread g start set built made =
    let are = built_alike (λ (n : Nil). []) nil_lookahead false (IsNextIn g.terminals []) (λ x. ⊥) g start (in_nothing g.terminals) built made in
    let lr0 : AreLr0States (theory_grammar g) start.0 (map (nil_view g.terminals) built) = are.constructed in
    let originals = map (nil_view g.terminals) built in
    let new = states_over g.terminals (map (state_before set) built) in
    let same = states_same g.terminals set built in
    let count : length (map (state_before set) built) ≡ length originals =
    long_map (state_before set) built ∙ sym (long_map (nil_view g.terminals) built) in
    record {
      originals = originals;
      origin = λ n. n;
      lr0 = lr0;
      spread = spread_same originals new same originals (λ n. n)
          (spread_itself (Contains (theory_grammar g)) start.0 (HasItem originals) (HasEdge originals) lr0.automaton.cover);
      finished = λ n p.
          let by = reduction_by_held originals lr0.reductions n p in (
            λ h. (items_same originals new same n p (length p.right)).1 (by.0 ((reductions_same originals new same n p).0 h)),
            λ h. (reductions_same originals new same n p).1 (by.1 ((items_same originals new same n p (length p.right)).0 h)),
          );
      once = once_same originals new same
          (reduce_once originals lr0.reductions (λ n state e j k a b x y c d. lr0.once n state j k a b e x y c d));
      least = omega (arith, count);
      most = omega (arith, count);
    }

module _ (g : Grammar) (own : HasItsTerminals g) (s : Text) where
  abbrev seen : List (State (List ℕ)) → List states.State
  seen = states_over g.terminals

  -- in the items of spread states stand terminals of the grammar alone
  pub spread_known : (copies : ℕ) (all : List (State (List ℕ))) → AreSpreadOverLr0 g s copies all → HaveKnownItems g.terminals all
  spread_known copies all are n state item x e c d =
      let p = production_view item.production.now in
      let held : HasItem (seen all) n p item.index =
      record {
        state = view g.terminals state;
        lookahead = look g.terminals item.lookahead;
        at = image_get (view g.terminals) all n state e;
        held = image_there (lr_item_view (look g.terminals)) state.items.vec item c;
      } in
      let given = item_given (Contains (theory_grammar g)) s (HasItem are.originals) (HasEdge are.originals)
      (lr0_reached (theory_grammar g) s are.originals are.lr0) (are.origin n) p item.index ((are.spread.items n p item.index).0 held) in
      let q = image_of production_view (productions_of_grammar g) p given in
      own.known item.production.now
      (subst (Contains (productions_of_grammar g)) (same_view q.0 item.production.now q.2) q.1) x d

  -- sets of what is carried are one for each reduction
  pub carried_each : (all : List (State (List ℕ))) (sets : List (List (List ℕ))) → AreCarriedSets g s all sets → HaveSetEach all sets
  carried_each all sets are =
      record { count = are.count; each = λ n state row e f. (are.each n state row e f).count }

  module _ (old new : List (State (List ℕ))) (before : ReduceBeforeCarried g s old new) where
    -- a new state is an old one, with a reduction for each of its own, before a set of what is carried
    record ComesOf (n : ℕ) (state other : State (List ℕ)) : Type 0 where
      own_sets : List (List ℕ)
      at : slice_get old n ≡ Some state
      at_sets : slice_get before.sets n ≡ Some own_sets
      is : IsBeforeSets own_sets state other

    comes_of : (n : ℕ) (other : State (List ℕ)) → slice_get new n ≡ Some other → (state : State (List ℕ)) × ComesOf n state other
    comes_of n other e =
        let within = slice_get_within new n other e in
        let count = before.states_are.count in
        let st = get_some old n (omega (arith, within, count)) in
        let more = before.carried.count in
        let row = get_some before.sets n (omega (arith, within, count, more)) in
        (st.0, record { own_sets = row.0; at = st.1; at_sets = row.1; is = before.states_are.each n st.0 other row.0 st.1 e row.1 })

    -- the reduction at a place of a new state
    record ReducesAt (n : ℕ) (state : State (List ℕ)) (j : ℕ) (q : List ℕ × Bor Production) : Type 0 where
      reduction : List ℕ × Bor Production
      at : slice_get state.reductions j ≡ Some reduction
      same : q.1 ≡ reduction.1
      carried : IsCarriedSet g s old n q.1.now q.0

    reduces_at : (n : ℕ) (state other : State (List ℕ)) → ComesOf n state other → (j : ℕ) (q : List ℕ × Bor Production) →
        slice_get other.reductions j ≡ Some q → ReducesAt n state j q
    reduces_at n state other c j q e =
        let within = slice_get_within other.reductions j q e in
        let count = c.is.reductions.count in
        let r = get_some state.reductions j (omega (arith, within, count)) in
        let row = before.carried.each n state c.own_sets c.at c.at_sets in
        let many = row.count in
        let set = get_some c.own_sets j (omega (arith, within, count, many)) in
        let is = c.is.reductions.each j r.0 q set.0 r.1 e set.1 in
        record {
          reduction = r.0;
          at = r.1;
          same = ap (λ (z : List ℕ × Bor Production). z.1) is;
          carried = subst (λ (z : List ℕ × Bor Production). IsCarriedSet g s old n z.1.now z.0) (sym is)
              (row.each j r.0 set.0 r.1 set.1);
        }

    there_at : (n : ℕ) (state : State (List ℕ)) → slice_get old n ≡ Some state → (other : State (List ℕ)) × (slice_get new n ≡ Some other)
    there_at n state e =
        let within = slice_get_within old n state e in
        let count = before.states_are.count in
        get_some new n (omega (arith, within, count))

    to_reduction : (n : ℕ) (state other : State (List ℕ)) → ComesOf n state other → (j : ℕ) (r : states.Reduction) →
        slice_get (view g.terminals state).reductions j ≡ Some r →
        (q : states.Reduction) × (slice_get (view g.terminals other).reductions j ≡ Some q) × (q.production ≡ r.production)
    to_reduction n state other c j r e =
        let x = get_image (reduction_view (look g.terminals)) state.reductions j r e in
        let within = slice_get_within state.reductions j x.0 x.1 in
        let count = c.is.reductions.count in
        let q = get_some other.reductions j (omega (arith, within, count)) in
        let made = reduces_at n state other c j q.0 q.1 in
        let same : made.reduction ≡ x.0 = some_same made.reduction x.0 (sym made.at ∙ x.1) in (
          reduction_view (look g.terminals) q.0,
          image_get (reduction_view (look g.terminals)) other.reductions j q.0 q.1,
          ap (λ (z : Bor Production). production_view z.now) made.same ∙ ap (λ (z : List ℕ × Bor Production). production_view z.1.now) same
              ∙ ap (λ (v : states.Reduction). v.production) x.2,
        )

    from_reduction : (n : ℕ) (state other : State (List ℕ)) → ComesOf n state other → (j : ℕ) (r : states.Reduction) →
        slice_get (view g.terminals other).reductions j ≡ Some r →
        (q : states.Reduction) × (slice_get (view g.terminals state).reductions j ≡ Some q) × (q.production ≡ r.production)
    from_reduction n state other c j r e =
        let x = get_image (reduction_view (look g.terminals)) other.reductions j r e in
        let made = reduces_at n state other c j x.0 x.1 in (
          reduction_view (look g.terminals) made.reduction,
          image_get (reduction_view (look g.terminals)) state.reductions j made.reduction made.at,
          ap (λ (z : Bor Production). production_view z.now) (sym made.same) ∙ ap (λ (v : states.Reduction). v.production) x.2,
        )

    one_same : (n : ℕ) (state other : State (List ℕ)) → ComesOf n state other → IsSameBut (view g.terminals state) (view g.terminals other)
    one_same n state other c =
        let rest = ap (view g.terminals) c.is.rest in
        record {
          items_to = λ p i l h. (l, subst (λ (v : states.State). Contains v.items (item_of p i l)) (sym rest) h);
          items_from = λ p i l h. (l, subst (λ (v : states.State). Contains v.items (item_of p i l)) rest h);
          shifts = ap (λ (v : states.State). v.shifts) rest;
          gotos = ap (λ (v : states.State). v.gotos) rest;
          reductions_to = to_reduction n state other c;
          reductions_from = from_reduction n state other c;
        }

    pub before_same : AreSameBut (seen old) (seen new)
    before_same =
        record {
          to = λ n a e.
              let st = get_image (view g.terminals) old n a e in
              let other = there_at n st.0 st.1 in
              let c = comes_of n other.0 other.1 in
              let one = one_same n c.0 other.0 c.1 in
              let same : c.0 ≡ st.0 = some_same c.0 st.0 (sym c.1.at ∙ st.1) in (
                view g.terminals other.0,
                image_get (view g.terminals) new n other.0 other.1,
                subst (λ a. IsSameBut a (view g.terminals other.0)) (ap (view g.terminals) same ∙ st.2) one,
              );
          from = λ n b e.
              let other = get_image (view g.terminals) new n b e in
              let c = comes_of n other.0 other.1 in (
                view g.terminals c.0,
                image_get (view g.terminals) old n c.0 c.1.at,
                subst (IsSameBut (view g.terminals c.0)) other.2 (one_same n c.0 other.0 c.1),
              );
        }

    without : (b : Bool) → (b ≡ true → ⊥) → b ≡ false
    without false f = refl
    without true f = absurd (f refl)

    -- what the theory sees of a set of what is carried
    set_seen : (n : ℕ) (p : Production) (set : List ℕ) → IsCarriedSet g s old n p set →
        ((x : theory.Next) → Contains (look g.terminals set).nexts x
        ↔ Carries (Contains (theory_grammar g)) s (HasItem (seen old)) (HasEdge (seen old)) n (production_view p)
        (length (production_view p).right) x)
        × ((look g.terminals set).error ≡ false)
    set_seen n p set is = (
      λ x. (
        λ c.
            let k = (token_nexts g.terminals set x).0 c in
            subst (λ y. Carries (Contains (theory_grammar g)) s (HasItem (seen old)) (HasEdge (seen old)) n (production_view p)
            (length (production_view p).right) y) k.3 (is.sound k.0 k.2).1,
        λ c. let k = is.complete x c in (token_nexts g.terminals set x).1 (k.0, (is.sound k.0 k.2).0, k.2, k.1),
      ),
      without (has set (eof_number g.terminals + 1))
          (λ e. let h = (is.sound (eof_number g.terminals + 1) e).0 in omega (arith, h)),
    )

    -- each new reduction is before just what was carried to its item
    sets_seen : (n : ℕ) (state : states.State) (j : ℕ) (r : states.Reduction) → slice_get (seen new) n ≡ Some state →
        slice_get state.reductions j ≡ Some r →
        ((x : theory.Next) → Contains r.lookahead.nexts x
        ↔ Carries (Contains (theory_grammar g)) s (HasItem (seen old)) (HasEdge (seen old)) n r.production
        (length r.production.right) x)
        × (r.lookahead.error ≡ false)
    sets_seen n state j r e f =
        let other = get_image (view g.terminals) new n state e in
        let c = comes_of n other.0 other.1 in
        let q = get_image (reduction_view (look g.terminals)) other.0.reductions j r
        (subst (λ (v : states.State). slice_get v.reductions j ≡ Some r) (sym other.2) f) in
        let made = reduces_at n c.0 other.0 c.1 j q.0 q.1 in
        subst (λ (v : states.Reduction). ((x : theory.Next) → Contains v.lookahead.nexts x
        ↔ Carries (Contains (theory_grammar g)) s (HasItem (seen old)) (HasEdge (seen old)) n v.production
        (length v.production.right) x)
        × (v.lookahead.error ≡ false)) q.2 (set_seen n q.0.1.now q.0.0 made.carried)

    -- and no set has a number past the tokens
    pub before_tokens : OverTokens g.terminals new
    before_tokens n other e =
        let c = comes_of n other e in
        all_each (λ (r : List ℕ × Bor Production). IsOverTokens g.terminals r.0) other.reductions (λ r d k h.
        let j = contains_get other.reductions r d in
        let made = reduces_at n c.0 other c.1 j.0 r j.1 in
        let small = (made.carried.sound k h).0 in
        omega (arith, small))

    module _ (copies : ℕ) (are : AreSpreadOverLr0 g s copies old) where
      pub before_spread : AreSpreadOverLr0 g s copies new
      before_spread =
          let count = before.states_are.count in
          record {
            originals = are.originals;
            origin = are.origin;
            lr0 = are.lr0;
            spread = spread_same (seen old) (seen new) before_same are.originals are.origin are.spread;
            finished = λ n p. (
              λ h. (items_same (seen old) (seen new) before_same n p (length p.right)).1
                  ((are.finished n p).0 ((reductions_same (seen old) (seen new) before_same n p).0 h)),
              λ h. (reductions_same (seen old) (seen new) before_same n p).1
                  ((are.finished n p).1 ((items_same (seen old) (seen new) before_same n p (length p.right)).0 h)),
            );
            once = once_same (seen old) (seen new) before_same are.once;
            least = let h = are.least in omega (arith, count, h);
            most = let h = are.most in omega (arith, count, h);
          }

      pub before_carried : AreCarriedReductions (theory_grammar g) s (seen new)
      before_carried =
          carried_before (seen old) (seen new) before_same (theory_grammar g) s are.originals are.origin
          (lr0_reached (theory_grammar g) s are.originals are.lr0) are.spread are.finished sets_seen

      -- reduced so, they are as many as before
      pub before_reduced : (HaveNoCarriedConflict (theory_grammar g) s are.originals → length old ≡ length are.originals) →
          AreReducedStates g s copies new
      unfolding before_spread
      before_reduced needed =
          let count = before.states_are.count in
          record {
            states_are = before_spread;
            carried = before_carried;
            tokens = before_tokens;
            needed = λ free. count ∙ needed free;
          }

    -- states without lookaheads, reduced so
    pub lr0_reduced : AreSpreadOverLr0 g s 0 old → AreReducedStates g s 0 new
    lr0_reduced are = let least = are.least in let most = are.most in before_reduced 0 are (λ free. omega (arith, least, most))

  module _ (copies : ℕ) (all : List (State (List ℕ))) (are : AreReducedStates g s copies all) where
    -- where what is carried over the originals leaves no conflict, they have none
    pub no_conflict_from : HaveNoCarriedConflict (theory_grammar g) s are.states_are.originals → HaveNoConflict (seen all)
    no_conflict_from none =
        (carried_conflicts (theory_grammar g) s (seen all) are.carried are.states_are.once).1
        (spread_no_conflict (theory_grammar g) s are.states_are.originals (seen all) are.states_are.origin are.states_are.spread none)

    -- so if they have one, the grammar isn't LALR(1)
    pub conflict_carried : (HaveNoConflict (seen all) → ⊥) → IsLalr1 (Contains (theory_grammar g)) s → ⊥
    conflict_carried some lalr1 =
        some (no_conflict_from ((lr0_lalr1 (theory_grammar g) s are.states_are.originals are.states_are.lr0).0 lalr1))

    -- and if they have none, they are lane states, under any greater limit
    pub lane_found : (limit : ℕ) → copies ≤ limit → HaveNoConflict (seen all) → AreLaneStates g s limit all
    lane_found limit within none =
        let own = are.states_are in
        let most = own.most in
        record {
          reduced = record {
            states_are = record {
              originals = own.originals;
              origin = own.origin;
              lr0 = own.lr0;
              spread = own.spread;
              finished = own.finished;
              once = own.once;
              least = own.least;
              most = omega (arith, most, within);
            };
            carried = are.carried;
            tokens = are.tokens;
            needed = are.needed;
          };
          no_conflict = none;
        }
