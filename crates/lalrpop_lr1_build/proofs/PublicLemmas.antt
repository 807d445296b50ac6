-- What the theory sees of public states is what the states by numbers are: for the states that are built.
use Rattle.std.proofs.Common.{◌≡◌, ◌∙◌, ◌↔◌, ◌+◌, ◌-◌, ◌≤◌, ℕ, zero, suc}
use Rattle.std.proofs.Common.{Bool, true, false, eqb, cond, List, [], ◌∷◌}
use Rattle.std.proofs.Common.{length, map, Some, None, Option, Contains, slice_get, refl, sym, ap, subst, arith, ⊎_elim}
use Rattle.std.specs.List.{AllZip}
use Rattle.std.specs.Prelude.{option_map}
use Rattle.std.proofs.lemmas.Option.{slice_get_within}
use Rattle.lalrpop_grammar_symbols.specs.Symbols.{Text, Terminal}
use Rattle.lalrpop_grammar_symbols.specs.Views.{terminal_view}
use Rattle.lalrpop_grammar_symbols.specs.declared.names.NonterminalString.{NonterminalString}
use Rattle.lalrpop_grammar_symbols.specs.declared.terminal.TerminalString.{TerminalString}
use Rattle.lalrpop_lr1_theory.specs.Productions as theory
use Rattle.lalrpop_lr1_theory.specs.CanonicalStates.{AreConstructedStates}
use Rattle.lalrpop_lr1_theory.specs.States as states
use Rattle.lalrpop_lr1_theory.proofs.ListLemmas.{contains_here, contains_later, contains_split}
use Rattle.lalrpop_lr1_theory.proofs.StepLemmas.{some_same}
use Rattle.lalrpop_lr1_core.specs.Views.{goto_view, lr_item_view, lr_state_view, production_symbol_view, production_view}
use Rattle.lalrpop_lr1_core.specs.Views.{reduction_view, shift_view}
use Rattle.lalrpop_lr1_core.specs.declared.item.Item.{Item}
use Rattle.lalrpop_lr1_core.specs.declared.state.State.{State}
use Rattle.lalrpop_lr1_core.proofs.MemberLemmas.{in_map, map_has}
use Rattle.lalrpop_lr1_core.proofs.NoConflictLemmas.{at_mapped}
use Rattle.lalrpop_sets.specs.AscendingLists.{AscendsFrom, has}
use Rattle.lalrpop_lr1_first.specs.FirstNumbers.{name_count, table_end}
use Rattle.lalrpop_lr1_first.specs.NumberedGrammars.{HasItemAt, IsNumberTable, IsSeenIn, table_names, table_productions}
use Rattle.lalrpop_lr1_first.specs.Tables.{symbol_of_number, symbol_or}
use Rattle.lalrpop_lr1_first.specs.declared.numbered.Numbered.{Numbered}
use Rattle.lalrpop_lr1_first.proofs.TableLemmas.{get_mapped, is_item_table, long_map, name_at, table_numbering}
use Rattle.lalrpop_lr1_build.specs.Kernels.{places_of}
use Rattle.lalrpop_lr1_build.specs.Nexts.{IsNextIn}
use Rattle.lalrpop_lr1_build.specs.Turns.{AreNumberedStates}
use Rattle.lalrpop_lr1_build.specs.declared.states.kernel.StateKernel.{StateKernel}
use Rattle.lalrpop_lr1_build.specs.declared.states.numbered_states.NumberedState.{NumberedState}
use Rattle.lalrpop_lr1_build.specs.NumberedAutomata.{AreStartItems, HasNumberedEdge, HasNumberedItem, HasNumberedNext}
use Rattle.lalrpop_lr1_build.specs.PublicStates.{ArePublicStates, IsPublicItem, IsPublicState, finished_entries}
use Rattle.lalrpop_lr1_build.proofs.AutomatonLemmas.{automaton_same, walk_more}
use Rattle.lalrpop_lr1_build.proofs.DistinctLemmas.{numbered_distinct}
use Rattle.lalrpop_lr1_build.proofs.NumberedAutomatonLemmas.{kernel_at, numbered_automaton, walk_to}
use Rattle.lalrpop_lr1_first.proofs.TableLemmas.{get_some}
use Rattle.lalrpop_lr1_theory.proofs.NameLemmas.{no_element}
use Rattle.lalrpop_lr1_build.proofs.ProductionLemmas.{place_once}

-- lists whose elements are in a relation, place by place
pub zip_right : {A B : Type 0} (R : A → B → Type 0) (xs : List A) (ys : List B) → AllZip R xs ys → (y : B) → Contains ys y →
    (x : A) × Contains xs x × R x y
zip_right R [] [] h y c = absurd (no_element y c)
zip_right R [] (z ∷ ys) h y c = absurd h
zip_right R (x ∷ xs) [] h y c = absurd h
zip_right {A} R (x ∷ xs) (z ∷ ys) h y c = ⊎_elim
    (λ e. (x, contains_here x xs, subst (R x) e h.0))
    (λ d. later (zip_right R xs ys h.1 y d)) (contains_split z y ys c)
  where
    later : (w : A) × Contains xs w × R w y → (w : A) × Contains (x ∷ xs) w × R w y
    later r = (r.0, contains_later x r.0 xs r.1, r.2)

pub zip_left : {A B : Type 0} (R : A → B → Type 0) (xs : List A) (ys : List B) → AllZip R xs ys → (x : A) → Contains xs x →
    (y : B) × Contains ys y × R x y
zip_left R [] [] h x c = absurd (no_element x c)
zip_left R [] (y ∷ ys) h x c = absurd h
zip_left R (z ∷ xs) [] h x c = absurd h
zip_left {A} {B} R (z ∷ xs) (y ∷ ys) h x c = ⊎_elim
    (λ e. (y, contains_here y ys, subst (λ w. R w y) e h.0))
    (λ d. later (zip_left R xs ys h.1 x d)) (contains_split z x xs c)
  where
    later : (w : B) × Contains ys w × R x w → (w : B) × Contains (y ∷ ys) w × R x w
    later r = (r.0, contains_later y r.0 ys r.1, r.2)

-- of lists related place by place, the first has at each place of the second one that is related to what is there
pub zip_at : {A B : Type 0} (R : A → B → Type 0) (xs : List A) (ys : List B) → AllZip R xs ys → (k : ℕ) (y : B) →
    slice_get ys k ≡ Some y → (x : A) × (slice_get xs k ≡ Some x) × R x y
zip_at R [] [] h k y e = let z : ⊥ = cc in absurd z
zip_at R [] (z ∷ ys) h k y e = absurd h
zip_at R (x ∷ xs) [] h k y e = absurd h
zip_at R (x ∷ xs) (z ∷ ys) h zero y e = (x, refl, subst (R x) (some_same z y e) h.0)
zip_at R (x ∷ xs) (z ∷ ys) h (suc k) y e = zip_at R xs ys h.1 k y e

-- a place in order stands at one place of the list
position_above : {L : Type 0} (xs : List (ℕ × L)) (a k i : ℕ) (l : L) → AscendsFrom a (places_of xs) →
    slice_get xs k ≡ Some (i, l) → a ≤ i
position_above [] a k i l h e = let z : ⊥ = cc in absurd z
position_above {L} (x ∷ xs) a zero i l h e =
    let z : x.0 ≡ i = ap (λ (y : ℕ × L). y.0) (some_same x (i, l) e) in omega (arith, h.0, z)
position_above (x ∷ xs) a (suc k) i l h e = let r = position_above xs (suc x.0) k i l h.1 e in omega (arith, h.0, r)

pub position_once : {L : Type 0} (xs : List (ℕ × L)) (a j k i : ℕ) (l m : L) → AscendsFrom a (places_of xs) →
    slice_get xs j ≡ Some (i, l) → slice_get xs k ≡ Some (i, m) → j ≡ k
position_once [] a j k i l m h e f = let z : ⊥ = cc in absurd z
position_once (x ∷ xs) a zero zero i l m h e f = refl
position_once {L} (x ∷ xs) a zero (suc k) i l m h e f =
    let z : x.0 ≡ i = ap (λ (y : ℕ × L). y.0) (some_same x (i, l) e) in
    let r = position_above xs (suc x.0) k i m h.1 f in absurd (omega (arith, z, r))
position_once {L} (x ∷ xs) a (suc j) zero i l m h e f =
    let z : x.0 ≡ i = ap (λ (y : ℕ × L). y.0) (some_same x (i, m) f) in
    let r = position_above xs (suc x.0) j i l h.1 e in absurd (omega (arith, z, r))
position_once (x ∷ xs) a (suc j) (suc k) i l m h e f = ap suc (position_once xs (suc x.0) j k i l m h.1 e f)

module _ {L : Type 0} (look : L → states.LookaheadSet) where
  -- finished entries are seen as finished reductions
  finished_seen : (items : List (Item L)) →
      map (reduction_view look) (finished_entries items) ≡ states.finished_reductions (map (lr_item_view look) items)
  finished_seen [] = refl
  finished_seen (item ∷ items) =
      go (eqb item.index (length item.production.now.symbols)) refl (finished_seen items)
    where
      long : length (map production_symbol_view item.production.now.symbols) ≡ length item.production.now.symbols
      long = long_map production_symbol_view item.production.now.symbols

      go : (b : Bool) → eqb item.index (length item.production.now.symbols) ≡ b →
          map (reduction_view look) (finished_entries items) ≡ states.finished_reductions (map (lr_item_view look) items) →
          map (reduction_view look) (cond b ((item.lookahead, item.production) ∷ finished_entries items) (finished_entries items))
          ≡ cond (eqb item.index (length (map production_symbol_view item.production.now.symbols)))
          (reduction_view look (item.lookahead, item.production) ∷ states.finished_reductions (map (lr_item_view look) items))
          (states.finished_reductions (map (lr_item_view look) items))
      go true e rec = ap (λ rs. reduction_view look (item.lookahead, item.production) ∷ rs) rec
          ∙ sym (ap
          (λ c. cond c (reduction_view look (item.lookahead, item.production) ∷ states.finished_reductions
          (map (lr_item_view look) items))
          (states.finished_reductions (map (lr_item_view look) items))) (ap (eqb item.index) long ∙ e))
      go false e rec = rec
          ∙ sym (ap
          (λ c. cond c (reduction_view look (item.lookahead, item.production) ∷ states.finished_reductions
          (map (lr_item_view look) items))
          (states.finished_reductions (map (lr_item_view look) items))) (ap (eqb item.index) long ∙ e))

module _ (table : Numbered) (is : IsNumberTable table) where
  abbrev at : ℕ → Option theory.Symbol
  at = symbol_of_number (table_names table) table.terminals.now

  long_names : length (table_names table) ≡ name_count table
  long_names = long_map (λ b. b.now) table.names.items

  none_there : {X : Type 0} (xs : List X) (k : ℕ) → length xs ≤ k → slice_get xs k ≡ None
  none_there [] k h = refl
  none_there (x ∷ xs) zero h = absurd (omega arith)
  none_there (x ∷ xs) (suc k) h = none_there xs k (omega arith)

  -- a name's number, and a terminal's
  pub at_name_number : (s : ℕ) (n : NonterminalString) → slice_get (table_names table) s ≡ Some n → at s
      ≡ Some (theory.nonterminal n.0)
  at_name_number s n e = ap (λ o. symbol_or o (slice_get table.terminals.now.all (s - length (table_names table)))) e

  pub at_terminal_number : (j : ℕ) (t : TerminalString) → slice_get table.terminals.now.all j ≡ Some t →
      at (name_count table + j) ≡ Some (theory.terminal (terminal_view t))
  at_terminal_number j t e =
      let n = none_there (table_names table) (name_count table + j) (omega (arith, long_names)) in
      let k : name_count table + j - length (table_names table) ≡ j = omega (arith, long_names) in
      ap (λ o. symbol_or o (slice_get table.terminals.now.all (name_count table + j - length (table_names table)))) n
      ∙ ap (λ i. symbol_or None (slice_get table.terminals.now.all i)) k
      ∙ ap (symbol_or None) e

  pub terminal_of : (s : ℕ) (t : Terminal) → at s ≡ Some (theory.terminal t) →
      (j : ℕ) × (u : TerminalString) × (s ≡ name_count table + j) × (slice_get table.terminals.now.all j ≡ Some u)
      × (terminal_view u ≡ t)
  terminal_of s t e =
      let r = (table_numbering table is).terminal_at s t e in
      go r.0 r.1 (slice_get table.terminals.now.all r.0) refl r.3
    where
      go : (j : ℕ) → s ≡ name_count table + j → (o : Option TerminalString) → slice_get table.terminals.now.all j ≡ o →
          option_map terminal_view o ≡ Some t →
          (j : ℕ) × (u : TerminalString) × (s ≡ name_count table + j) × (slice_get table.terminals.now.all j ≡ Some u)
          × (terminal_view u ≡ t)
      go j e None f g = let z : ⊥ = cc in absurd z
      go j e (Some u) f g = (j, u, e, f, some_same (terminal_view u) t g)

  module _ {L : Type 0} (marks : L → List ℕ) (firsts : Bool) (in_order : L → Type 0) (look : L → states.LookaheadSet)
      (one : (a b : L) → in_order a → in_order b → ((k : ℕ) → has (marks a) k ≡ has (marks b) k) → a ≡ b)
      (nexts_are : (a : L) (x : theory.Next) → Contains (look a).nexts x ↔ IsNextIn table.terminals.now (marks a) x)
      (error_is : (a : L) → (look a).error ≡ has (marks a) (table_end table + 1))
      (Start : theory.Next → Type 0) (s : Text) (start : StateKernel L) (numbered : List (NumberedState L))
      (are : AreNumberedStates marks firsts in_order table start numbered)
      (begin : AreStartItems marks Start table s start.items) (public : List (State L))
      (seen : ArePublicStates table numbered public) where
    abbrev views : List states.State
    views = map (lr_state_view look) public

    -- the state by numbers that is seen there
    pub record SeenAt (n : ℕ) (view : states.State) : Type 0 where
      pub public_state : State L
      pub state : NumberedState L
      pub at_public : slice_get public n ≡ Some public_state
      pub at_numbered : slice_get numbered n ≡ Some state
      pub view_is : lr_state_view look public_state ≡ view
      pub made : IsPublicState table n state public_state

    pub seen_at : (n : ℕ) (view : states.State) → slice_get views n ≡ Some view → SeenAt n view
    seen_at n view e =
        let m = at_mapped (lr_state_view look) public n view e in
        let st = get_some numbered n (let l = slice_get_within public n m.0 m.1 in let c = seen.count in omega (arith, l, c)) in
        record {
          public_state = m.0;
          state = st.0;
          at_public = m.1;
          at_numbered = st.1;
          view_is = m.2;
          made = seen.at n st.0 m.0 st.1 m.1;
        }

    pub shown_at : (n : ℕ) (st : NumberedState L) → slice_get numbered n ≡ Some st →
        (p : State L) × (slice_get public n ≡ Some p) × IsPublicState table n st p
    shown_at n st e =
        let p = get_some public n (let l = slice_get_within numbered n st e in let c = seen.count in omega (arith, l, c)) in
        (p.0, p.1, seen.at n st p.0 e p.1)

    -- an item that is seen
    pub record SeenItem (st : NumberedState L) (p : theory.Production) (d : ℕ) (l : states.LookaheadSet) : Type 0 where
      pub place : ℕ
      pub own : L
      pub held : Contains st.items (place, own)
      pub item : HasItemAt table place p d
      pub look_is : look own ≡ l

    item_seen : (n : ℕ) (st : NumberedState L) (q : State L) → IsPublicState table n st q → (i : states.Item) →
        Contains (map (lr_item_view look) q.items.vec) i → SeenItem st i.production i.dot i.lookahead
    item_seen n st q made i c =
        let m = in_map (lr_item_view look) q.items.vec i c in
        let z = zip_right (IsPublicItem table) st.items q.items.vec made.vec m.0 m.1 in
        subst (λ (j : states.Item). SeenItem st j.production j.dot j.lookahead) m.2 (record {
          place = z.0.0;
          own = z.0.1;
          held = z.1;
          item = z.2.0;
          look_is = ap look (sym z.2.1);
        })

    item_shown : (n : ℕ) (st : NumberedState L) (q : State L) → IsPublicState table n st q → (i : ℕ) (l : L)
        (p : theory.Production) (d : ℕ) → Contains st.items (i, l) → HasItemAt table i p d →
        Contains (map (lr_item_view look) q.items.vec) (record { production = p; dot = d; lookahead = look l })
    item_shown n st q made i l p d c h =
        let z = zip_left (IsPublicItem table) st.items q.items.vec made.vec (i, l) c in
        let same = (is_item_table table is).one i (production_view z.0.production.now) p z.0.index d z.2.0 h in
        subst (λ (j : states.Item). Contains (map (lr_item_view look) q.items.vec) j)
        (ap (λ v. record { production = v; dot = z.0.index; lookahead = look z.0.lookahead }) same.0
        ∙ ap (λ k. record { production = p; dot = k; lookahead = look z.0.lookahead }) same.1
        ∙ ap (λ w. record { production = p; dot = d; lookahead = look w }) z.2.1)
        (map_has (lr_item_view look) q.items.vec z.0 z.1)

    pub items_same : (n : ℕ) (p : theory.Production) (d : ℕ) → HasNumberedItem table numbered n p d ↔ states.HasItem views n p d
    items_same n p d = (
      λ h. let q = shown_at n h.state h.at in
          record {
            state = lr_state_view look q.0;
            lookahead = look h.item.1.0;
            at = get_mapped (lr_state_view look) public n q.0 q.1;
            held = item_shown n h.state q.0 q.2 h.item.0 h.item.1.0 p d h.item.1.1 h.item.2;
          },
      λ h. let r = seen_at n h.state h.at in
          let i = item_seen n r.state r.public_state r.made (record { production = p; dot = d; lookahead = h.lookahead })
          (subst (λ (v : states.State). Contains v.items (record { production = p; dot = d; lookahead = h.lookahead }))
          (sym r.view_is) h.held)
          in
          record { state = r.state; at = r.at_numbered; item = (i.place, (i.own, i.held), i.item) },
    )

    pub looks_same : (n : ℕ) (p : theory.Production) (d : ℕ) (x : theory.Next) →
        HasNumberedNext marks table numbered n p d x ↔ states.HasLookahead views n p d x
    looks_same n p d x = (
      λ h. let q = shown_at n h.state h.at in
          record {
            state = lr_state_view look q.0;
            lookahead = look h.next.held.0;
            at = get_mapped (lr_state_view look) public n q.0 q.1;
            held = item_shown n h.state q.0 q.2 h.next.place h.next.held.0 p d h.next.held.1 h.next.item;
            follows = (nexts_are h.next.held.0 x).1 (h.next.number, h.next.small, h.next.held.2, h.next.next_is);
          },
      λ h. let r = seen_at n h.state h.at in
          let i = item_seen n r.state r.public_state r.made (record { production = p; dot = d; lookahead = h.lookahead })
          (subst (λ (v : states.State). Contains v.items (record { production = p; dot = d; lookahead = h.lookahead }))
          (sym r.view_is) h.held)
          in
          let k = (nexts_are i.own x).0 (subst (λ (v : states.LookaheadSet). Contains v.nexts x) (sym i.look_is) h.follows) in
          record {
            state = r.state;
            at = r.at_numbered;
            next = record {
              place = i.place;
              number = k.0;
              held = (i.own, i.held, k.2);
              small = k.1;
              next_is = k.3;
              item = i.item;
            };
          },
    )

    pub edges_same : (n : ℕ) (x : theory.Symbol) (m : ℕ) → HasNumberedEdge table numbered n x m ↔ states.HasEdge views n x m
    edges_same n (theory.terminal t) m = (
      λ h. let q = shown_at n h.led.state h.led.at in
          let j = terminal_of h.number t h.symbol in
          let c = (q.2.shifts j.1 (record { 0 = m })).1 (j.0, subst (λ k. Contains h.led.state.edges (k, m)) j.2 h.led.edge, j.3) in (
            lr_state_view look q.0,
            get_mapped (lr_state_view look) public n q.0 q.1,
            subst (λ u. Contains (map shift_view q.0.shifts) (u, m)) j.4 (map_has shift_view q.0.shifts (j.1, record { 0 = m }) c),
          ),
      λ h. let r = seen_at n h.0 h.1 in
          let c = in_map shift_view r.public_state.shifts (t, m)
          (subst (λ (v : states.State). Contains v.shifts (t, m)) (sym r.view_is) h.2) in
          let j = (r.made.shifts c.0.0 c.0.1).0 c.1 in
          record {
            number = name_count table + j.0;
            led = record {
              state = r.state;
              at = r.at_numbered;
              edge = subst (λ k. Contains r.state.edges (name_count table + j.0, k)) (ap (λ (e : Terminal × ℕ). e.1) c.2) j.1;
            };
            symbol = at_terminal_number j.0 c.0.0 j.2 ∙ ap (λ u. Some (theory.terminal u)) (ap (λ (e : Terminal × ℕ). e.0) c.2);
          },
    )
    edges_same n (theory.nonterminal A) m = (
      λ h. let q = shown_at n h.led.state h.led.at in
          let j = name_at table.terminals.now is.terminals (table_names table) is.names h.number A h.symbol in
          let c = (q.2.gotos j.0 (record { 0 = m })).1 (h.number, h.led.edge, j.1) in (
            lr_state_view look q.0,
            get_mapped (lr_state_view look) public n q.0 q.1,
            subst (λ u. Contains (map goto_view q.0.gotos) (u, m)) j.2 (map_has goto_view q.0.gotos (j.0, record { 0 = m }) c),
          ),
      λ h. let r = seen_at n h.0 h.1 in
          let c = in_map goto_view r.public_state.gotos (A, m) (subst (λ (v : states.State). Contains v.gotos (A, m)) (sym r.view_is)
          h.2) in
          let j = (r.made.gotos c.0.0 c.0.1).0 c.1 in
          record {
            number = j.0;
            led = record {
              state = r.state;
              at = r.at_numbered;
              edge = subst (λ k. Contains r.state.edges (j.0, k)) (ap (λ (e : Text × ℕ). e.1) c.2) j.1;
            };
            symbol = at_name_number j.0 c.0.0 j.2 ∙ ap (λ u. Some (theory.nonterminal u)) (ap (λ (e : Text × ℕ). e.0) c.2);
          },
    )

    edges_to : (n : ℕ) (x : theory.Symbol) (m : ℕ) → HasNumberedEdge table numbered n x m → states.HasEdge views n x m
    edges_to n x m = (edges_same n x m).0

    module _ (grammar : List theory.Production) (own : (p : theory.Production) → IsSeenIn (table_productions table) p
        ↔ Contains grammar p) where
      -- they are constructed states
      pub public_constructed : AreConstructedStates firsts Start grammar s views
      public_constructed = record {
        automaton = automaton_same firsts Start s (IsSeenIn (table_productions table)) (Contains grammar) own
            (HasNumberedItem table numbered) (states.HasItem views) items_same (HasNumberedEdge table numbered) (states.HasEdge views)
            edges_same (HasNumberedNext marks table numbered) (states.HasLookahead views) looks_same
            (numbered_automaton table is marks firsts in_order Start s start numbered are begin);
        reached = λ n view e.
            let r = seen_at n view e in
            let k = kernel_at table is marks firsts in_order Start s start numbered are begin n r.state r.at_numbered in
            let w = walk_to table is marks firsts in_order Start s start numbered are begin (suc n) n (omega arith)
            (slice_get_within are.kernels n k.0 k.1) in
            (w.0, walk_more (HasNumberedEdge table numbered) (states.HasEdge views) edges_to w.1);
        distinct = λ n m a b e f h.
            let r = seen_at n a e in
            let q = seen_at m b f in
            numbered_distinct table is marks firsts in_order one Start s start numbered are begin n m r.state q.state r.at_numbered
            q.at_numbered
            (λ p d. (
              λ i. (items_same m p d).1 ((h.items p d).0 ((items_same n p d).0 i)),
              λ i. (items_same n p d).1 ((h.items p d).1 ((items_same m p d).0 i)),
            ))
            (λ p d x. (
              λ i. (looks_same m p d x).1 ((h.lookaheads p d x).0 ((looks_same n p d x).0 i)),
              λ i. (looks_same n p d x).1 ((h.lookaheads p d x).1 ((looks_same m p d x).0 i)),
            ));
        once = λ n view j k a b e f g production dot.
            let r = seen_at n view e in
            let c = kernel_at table is marks firsts in_order Start s start numbered are begin n r.state r.at_numbered in
            let items = (are.are.closures n c.0 r.state c.1 r.at_numbered).are_items in
            let x = at_mapped (lr_item_view look) r.public_state.items.vec j a
            (subst (λ (v : states.State). slice_get v.items j ≡ Some a) (sym r.view_is) f) in
            let y = at_mapped (lr_item_view look) r.public_state.items.vec k b
            (subst (λ (v : states.State). slice_get v.items k ≡ Some b) (sym r.view_is) g) in
            let p = zip_at (IsPublicItem table) r.state.items r.public_state.items.vec r.made.vec j x.0 x.1 in
            let q = zip_at (IsPublicItem table) r.state.items r.public_state.items.vec r.made.vec k y.0 y.1 in
            let left = ap (λ (i : states.Item). i.production) x.2 ∙ production ∙ sym (ap (λ (i : states.Item). i.production) y.2) in
            let right = ap (λ (i : states.Item). i.dot) x.2 ∙ dot ∙ sym (ap (λ (i : states.Item). i.dot) y.2) in
            let place = place_once table is p.0.0 q.0.0 (production_view y.0.production.now) y.0.index
            (subst (λ i. HasItemAt table p.0.0 (production_view y.0.production.now) i) right
            (subst (λ v. HasItemAt table p.0.0 v x.0.index) left p.2.0)) q.2.0 in
            position_once r.state.items 0 j k q.0.0 p.0.1 q.0.1 items.ascending
            (subst (λ i. slice_get r.state.items j ≡ Some (i, p.0.1)) place p.1) q.1;
        without_error = λ n view item e c.
            let r = seen_at n view e in
            let k = kernel_at table is marks firsts in_order Start s start numbered are begin n r.state r.at_numbered in
            let items = (are.are.closures n k.0 r.state k.1 r.at_numbered).are_items in
            let i = item_seen n r.state r.public_state r.made item
            (subst (λ (v : states.State). Contains v.items item) (sym r.view_is) c) in
            ap (λ (l : states.LookaheadSet). l.error) (sym i.look_is) ∙ error_is i.own
            ∙ not_there (has (marks i.own) (table_end table + 1))
            (λ h. let l = items.tokens i.place (table_end table + 1) (i.own, i.held, h) in let w : ⊥ = omega (arith, l) in w);
        reductions = λ n view e.
            let r = seen_at n view e in
            subst (λ (v : states.State). v.reductions ≡ states.finished_reductions v.items) r.view_is
            (ap (map (reduction_view look)) r.made.reductions ∙ finished_seen look r.public_state.items.vec);
        index = λ n view e.
            let r = seen_at n view e in
            subst (λ (v : states.State). v.index ≡ n) r.view_is r.made.index;
      }
        where
          not_there : (b : Bool) → (b ≡ true → ⊥) → b ≡ false
          not_there true h = absurd (h refl)
          not_there false h = refl
