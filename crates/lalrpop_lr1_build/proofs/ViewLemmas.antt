-- What the theory sees of joined states: they are joined by what it sees of the states. For the collapse of canonical states.
use Rattle.std.proofs.Common.{◌≡◌, ◌∙◌, ℕ, ◌+◌, ◌<◌, ◌≤◌, Bool, true, false, cond, eqb, List, [], ◌∷◌}
use Rattle.std.proofs.Common.{length, map, All, Option, Some, None, Contains, refl, sym, ap, subst, arith}
use Rattle.std.specs.Prelude.{slice_get, slice_index_or}
use Rattle.std.proofs.lemmas.List.Elements.{All-contains}
use Rattle.std.proofs.lemmas.Option.{slice_get_within}
use Rattle.lalrpop_grammar_symbols.specs.Views.{terminal_view}
use Rattle.lalrpop_grammar_symbols.specs.declared.names.NonterminalString.{NonterminalString}
use Rattle.lalrpop_grammar_symbols.specs.declared.terminal.TerminalString.{TerminalString}
use Rattle.lalrpop_grammar_repr.specs.declared.terminal_set.TerminalSet.{TerminalSet}
use Rattle.lalrpop_lr1_theory.specs.Productions as theory
use Rattle.lalrpop_lr1_theory.specs.States as states
use Rattle.lalrpop_lr1_theory.proofs.ListLemmas.{get_contains}
use Rattle.lalrpop_lr1_core.specs.Views.{lr_item_view, lr_state_view, next_of_number, production_symbol_view}
use Rattle.lalrpop_lr1_core.specs.Views.{reduction_view, token_lookahead}
use Rattle.lalrpop_lr1_core.specs.declared.item.Item.{Item}
use Rattle.lalrpop_lr1_core.specs.declared.state.State.{State}
use Rattle.lalrpop_lr1_core.specs.declared.state_index.StateIndex.{StateIndex}
use Rattle.lalrpop_sets.specs.AscendingLists.{has}
use Rattle.lalrpop_sets.specs.Tokens.{eof_number}
use Rattle.lalrpop_lr1_build.specs.NextLaws.{token_nexts}
use Rattle.lalrpop_lr1_build.specs.PublicStates.{finished_entries}
use Rattle.lalrpop_lr1_theory.specs.JoinedStates.{AreJoinedStates, AreNumbersAsSeen, AreRenumbered, HoldsAt, HoldsErrorAt}
use Rattle.lalrpop_lr1_theory.specs.JoinedStates.{IsJoinedAt, state_core}
use Rattle.lalrpop_lr1_theory.proofs.OrderLemmas.{get_image, image_get, image_of, image_there}
use Rattle.lalrpop_lr1_build.specs.StateCores.{core_in_state}
use Rattle.lalrpop_lr1_build.specs.JoinedItems.{has_at, lookahead_of}
use Rattle.lalrpop_lr1_build.specs.JoinedStates.{AreJoinedByNumbers, IsJoinedWith}
use Rattle.lalrpop_lr1_build.specs.Renumbering.{HaveTargetsWithin, renumber}
use Rattle.lalrpop_lr1_build.proofs.CoreLemmas.{core_view, cores_exact, dotted_view}
use Rattle.lalrpop_lr1_build.proofs.ListLemmas.{index_here}
use Rattle.lalrpop_lr1_first.proofs.TableLemmas.{long_map}

-- edges by numbers are seen as edges by numbers
module _ {K X : Type 0} (f : K → X) where
  abbrev edge_view : K × StateIndex → X × ℕ
  edge_view e = (f e.0, e.1.0)

  pub renumbered_seen : (numbers : List ℕ) (edges new : List (K × StateIndex)) → new ≡ map (renumber numbers) edges →
      All (λ e. e.1.0 < length numbers) edges → AreRenumbered numbers (map edge_view edges) (map edge_view new)
  renumbered_seen numbers edges new made within x b = (
    λ c.
        let d = subst (λ l. Contains (map edge_view l) (x, b)) made c in
        let a = image_of edge_view (map (renumber numbers) edges) (x, b) d in
        let e = image_of (renumber numbers) edges a.0 a.1 in
        let same : edge_view (renumber numbers e.0) ≡ (x, b) = ap edge_view e.2 ∙ a.2 in
        let w = All-contains (λ (z : K × StateIndex). z.1.0 < length numbers) edges e.0 within e.1 in (
          e.0.1.0,
          subst (λ y. Contains (map edge_view edges) (y, e.0.1.0)) (ap (λ (z : X × ℕ). z.0) same)
              (image_there edge_view edges e.0 e.1),
          index_here numbers e.0.1.0 w ∙ ap Some (ap (λ (z : X × ℕ). z.1) same),
        ),
    λ h.
        let e = image_of edge_view edges (x, h.0) h.1 in
        let there = image_there edge_view (map (renumber numbers) edges) (renumber numbers e.0)
        (image_there (renumber numbers) edges e.0 e.1) in
        let to : e.0.1.0 ≡ h.0 = ap (λ (z : X × ℕ). z.1) e.2 in
        let w = All-contains (λ (z : K × StateIndex). z.1.0 < length numbers) edges e.0 within e.1 in
        let number : slice_index_or numbers e.0.1.0 0 ≡ b =
        some_exact (slice_index_or numbers e.0.1.0 0) b (sym (index_here numbers e.0.1.0 w) ∙ ap (slice_get numbers) to ∙ h.2) in
        subst (λ l. Contains (map edge_view l) (x, b)) (sym made)
        (subst (λ y. Contains (map edge_view (map (renumber numbers) edges)) (y, b)) (ap (λ (z : X × ℕ). z.0) e.2)
        (subst (λ m. Contains (map edge_view (map (renumber numbers) edges)) (f e.0.0, m)) number there)),
  )
    where
      some_exact : (m n : ℕ) → Some m ≡ Some n → m ≡ n
      some_exact m n e = cc

module _ {L : Type 0} (look : L → states.LookaheadSet) where
  -- finished entries are seen as finished reductions
  entries_seen : (items : List (Item L)) →
      map (reduction_view look) (finished_entries items) ≡ states.finished_reductions (map (lr_item_view look) items)
  entries_seen [] = refl
  entries_seen (item ∷ items) =
      go (eqb item.index (length item.production.now.symbols)) refl (entries_seen items)
    where
      long : length (map production_symbol_view item.production.now.symbols) ≡ length item.production.now.symbols
      long = long_map production_symbol_view item.production.now.symbols

      go : (b : Bool) → eqb item.index (length item.production.now.symbols) ≡ b →
          map (reduction_view look) (finished_entries items) ≡ states.finished_reductions (map (lr_item_view look) items) →
          map (reduction_view look) (cond b ((item.lookahead, item.production) ∷ finished_entries items) (finished_entries items))
          ≡ cond (eqb item.index (length (map production_symbol_view item.production.now.symbols)))
          (reduction_view look (item.lookahead, item.production) ∷ states.finished_reductions (map (lr_item_view look) items))
          (states.finished_reductions (map (lr_item_view look) items))
      go true e rec = ap (λ rs. reduction_view look (item.lookahead, item.production) ∷ rs) rec
          ∙ sym (ap
          (λ c. cond c (reduction_view look (item.lookahead, item.production) ∷ states.finished_reductions
          (map (lr_item_view look) items))
          (states.finished_reductions (map (lr_item_view look) items))) (ap (eqb item.index) long ∙ e))
      go false e rec = rec
          ∙ sym (ap
          (λ c. cond c (reduction_view look (item.lookahead, item.production) ∷ states.finished_reductions
          (map (lr_item_view look) items))
          (states.finished_reductions (map (lr_item_view look) items))) (ap (eqb item.index) long ∙ e))

item_marked : (items : List (Item (List ℕ))) (j k : ℕ) → has_at items j k ≡ true →
    (item : Item (List ℕ)) × (slice_get items j ≡ Some item) × (has item.lookahead k ≡ true)
item_marked items j k h = go (slice_get items j) refl h
  where
    go : (o : Option (Item (List ℕ))) → slice_get items j ≡ o → has (lookahead_of o) k ≡ true →
        (item : Item (List ℕ)) × (slice_get items j ≡ Some item) × (has item.lookahead k ≡ true)
    go None e f = let z : ⊥ = cc in absurd z
    go (Some item) e f = (item, e, f)

module _ (ts : TerminalSet) where
  abbrev look : List ℕ → states.LookaheadSet
  look = token_lookahead ts

  abbrev seen : State (List ℕ) → states.State
  seen = lr_state_view look

  -- what is in the lookahead at a place, by numbers
  abbrev IsMarkedAt : State (List ℕ) → ℕ → theory.Next → Type 0
  IsMarkedAt state j x = (k : ℕ) × (k ≤ eof_number ts) × (has_at state.items.vec j k ≡ true) × (next_of_number ts k ≡ x)

  holds_marked : (state : State (List ℕ)) (j : ℕ) (x : theory.Next) → HoldsAt (seen state) j x → IsMarkedAt state j x
  holds_marked state j x h =
      let i = get_image (lr_item_view look) state.items.vec j h.item h.at in
      let n = (token_nexts ts i.0.lookahead x).0 (subst (λ (v : states.Item). Contains v.lookahead.nexts x) (sym i.2) h.follows) in
      (n.0, n.1, ap (λ o. has (lookahead_of o) n.0) i.1 ∙ n.2, n.3)

  marked_holds : (state : State (List ℕ)) (j : ℕ) (x : theory.Next) → IsMarkedAt state j x → HoldsAt (seen state) j x
  marked_holds state j x h =
      let i = item_marked state.items.vec j h.0 h.2 in
      record {
        item = lr_item_view look i.0;
        at = image_get (lr_item_view look) state.items.vec j i.0 i.1;
        follows = (token_nexts ts i.0.lookahead x).1 (h.0, h.1, i.2, h.3);
      }

  error_marked : (state : State (List ℕ)) (j : ℕ) → HoldsErrorAt (seen state) j →
      has_at state.items.vec j (eof_number ts + 1) ≡ true
  error_marked state j h =
      let i = get_image (lr_item_view look) state.items.vec j h.item h.at in
      ap (λ o. has (lookahead_of o) (eof_number ts + 1)) i.1 ∙ ap (λ (v : states.Item). v.lookahead.error) i.2 ∙ h.error

  marked_error : (state : State (List ℕ)) (j : ℕ) → has_at state.items.vec j (eof_number ts + 1) ≡ true →
      HoldsErrorAt (seen state) j
  marked_error state j h =
      let i = item_marked state.items.vec j (eof_number ts + 1) h in
      record {
        item = lr_item_view look i.0;
        at = image_get (lr_item_view look) state.items.vec j i.0 i.1;
        error = i.2;
      }

  -- cores are seen as cores
  pub core_seen : (state : State (List ℕ)) → state_core (seen state) ≡ map dotted_view (core_in_state state)
  core_seen state = core_view look state.items.vec

  module _ (built : List (State (List ℕ))) (numbers : List ℕ) (lists : AreNumbersAsSeen (map core_in_state built) numbers) where
    abbrev views : List states.State
    views = map seen built

    pub lists_seen : AreNumbersAsSeen (map state_core views) numbers
    lists_seen =
        record {
          count = lists.count ∙ long_map core_in_state built ∙ sym (long_map seen built) ∙ sym (long_map state_core views);
          same = λ n m a b x y e f g h.
              let u = get_image state_core views n x g in
              let s = get_image seen built n u.0 u.1 in
              let v = get_image state_core views m y h in
              let t = get_image seen built m v.0 v.1 in
              let one : map dotted_view (core_in_state s.0) ≡ x = sym (core_seen s.0) ∙ ap state_core s.2 ∙ u.2 in
              let other : map dotted_view (core_in_state t.0) ≡ y = sym (core_seen t.0) ∙ ap state_core t.2 ∙ v.2 in
              let same = lists.same n m a b (core_in_state s.0) (core_in_state t.0) e f
              (image_get core_in_state built n s.0 s.1) (image_get core_in_state built m t.0 t.1) in (
                λ z. sym one ∙ ap (map dotted_view) (same.0 z) ∙ other,
                λ z. same.1 (cores_exact (core_in_state s.0) (core_in_state t.0) (one ∙ z ∙ sym other)),
              );
          as_seen = lists.as_seen;
        }

    module _ (targets : HaveTargetsWithin (length numbers) built) where
      -- a joined state is seen as joined
      joined_seen : (place a : ℕ) (joined : State (List ℕ)) → slice_get numbers place ≡ Some a →
          IsJoinedWith built numbers place joined → IsJoinedAt views numbers a (seen joined)
      joined_seen place a joined e made =
          let items = made.items in
          let number : items.number ≡ a = some_exact items.number a (sym items.numbered ∙ e) in
          let first : items.state ≡ made.first = state_exact items.state made.first (sym items.at ∙ made.at) in
          let within = All-contains
          (λ (st : State (List ℕ)). All (λ (z : TerminalString × StateIndex). z.1.0 < length numbers) st.shifts
          × All (λ (z : NonterminalString × StateIndex). z.1.0 < length numbers) st.gotos) built made.first targets
          (contained built place made.first made.at) in
          record {
            place = place;
            first = seen made.first;
            number = e;
            at = image_get seen built place made.first made.at;
            made = record {
              core = core_seen joined ∙ ap (map dotted_view) (items.core ∙ ap core_in_state first) ∙ sym (core_seen made.first);
              holds = λ j x. (
                λ h. let m = holds_marked joined j x h in
                    let o = items.within j m.0 m.2 in
                    record {
                      place = o.place;
                      state = seen o.state;
                      number = o.number ∙ ap Some number;
                      at = image_get seen built o.place o.state o.at;
                      holds = marked_holds o.state j x (m.0, m.1, o.mark, m.3);
                    },
                λ h. let st = get_image seen built h.place h.state h.at in
                    let m = holds_marked st.0 j x (subst (λ v. HoldsAt v j x) (sym st.2) h.holds) in
                    marked_holds joined j x (
                      m.0,
                      m.1,
                      items.all j m.0 (record {
                        place = h.place;
                        state = st.0;
                        number = h.number ∙ ap Some (sym number);
                        at = st.1;
                        mark = m.2;
                      }),
                      m.3,
                    ),
              );
              errors = λ j. (
                λ h. let o = items.within j (eof_number ts + 1) (error_marked joined j h) in
                    record {
                      place = o.place;
                      state = seen o.state;
                      number = o.number ∙ ap Some number;
                      at = image_get seen built o.place o.state o.at;
                      holds = marked_error o.state j o.mark;
                    },
                λ h. let st = get_image seen built h.place h.state h.at in
                    marked_error joined j (items.all j (eof_number ts + 1) (record {
                      place = h.place;
                      state = st.0;
                      number = h.number ∙ ap Some (sym number);
                      at = st.1;
                      mark = error_marked st.0 j (subst (λ v. HoldsErrorAt v j) (sym st.2) h.holds);
                    })),
              );
              shifts = renumbered_seen terminal_view numbers made.first.shifts joined.shifts made.shifts within.0;
              gotos = renumbered_seen (λ (n : NonterminalString). n.0) numbers made.first.gotos joined.gotos made.gotos within.1;
              reductions = ap (map (reduction_view look)) made.reductions ∙ entries_seen look joined.items.vec;
              index = some_exact joined.index.0 a (sym made.index ∙ e);
            };
          }
        where
          some_exact : (m n : ℕ) → Some m ≡ Some n → m ≡ n
          some_exact m n e = cc

          state_exact : (m n : State (List ℕ)) → Some m ≡ Some n → m ≡ n
          state_exact m n e = cc

          contained : (xs : List (State (List ℕ))) (k : ℕ) (x : State (List ℕ)) → slice_get xs k ≡ Some x → Contains xs x
          contained xs k x f = get_contains xs k x f

      pub all_seen : (joined : List (State (List ℕ))) → AreJoinedByNumbers built numbers (length built) joined →
          AreJoinedStates views numbers (map seen joined)
      all_seen joined are =
          record {
            each = λ n a e.
                let w = slice_get_within numbers n a e in
                let c = lists.count in
                let l = long_map core_in_state built in
                let b = are.each n a (omega (arith, w, c, l)) e in
                omega (arith, b, long_map seen joined);
            made = λ a view e.
                let s = get_image seen joined a view e in
                let m = are.made a s.0 s.1 in
                subst (IsJoinedAt views numbers a) s.2 (joined_seen m.place a s.0 m.number m.made);
          }
