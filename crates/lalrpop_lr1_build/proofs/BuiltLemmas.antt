-- The states that are built are constructed, numbered as seen, and in order: for the construction of states.
use Rattle.std.proofs.Common.{◌≡◌, ◌∙◌, ◌↔◌, ◌+◌, ◌≤◌, ℕ, Bool, true, false, cond}
use Rattle.std.proofs.Common.{eqb, List, [], ◌∷◌, All, Contains}
use Rattle.std.proofs.Common.{length, map, Some, None, Option, slice_get, sym, ap, subst, arith, inl, inr, ⊎_elim}
use Rattle.std.specs.Borrow.{Bor}
use Rattle.std.proofs.lemmas.List.Elements.{All-cons, All-nil}
use Rattle.std.proofs.lemmas.Option.{slice_get_within}
use Rattle.lalrpop_grammar_symbols.specs.Symbols.{Text}
use Rattle.lalrpop_grammar_symbols.specs.declared.names.NonterminalString.{NonterminalString}
use Rattle.lalrpop_grammar_repr.specs.declared.grammar.Grammar.{Grammar}
use Rattle.lalrpop_grammar_repr.specs.declared.production.Production.{Production}
use Rattle.lalrpop_grammar_repr.specs.declared.terminal_set.TerminalSet.{TerminalSet}
use Rattle.lalrpop_lr1_theory.specs.Automata.{IsBegun, IsBegunBefore}
use Rattle.lalrpop_lr1_theory.specs.CanonicalStates.{AreConstructedStates, AreNumberedAsSeen, HaveItemsAscending, SymbolBefore}
use Rattle.lalrpop_lr1_theory.specs.Productions as theory
use Rattle.lalrpop_lr1_theory.specs.States as states
use Rattle.lalrpop_lr1_theory.proofs.ListLemmas.{contains_here, contains_later, contains_split}
use Rattle.lalrpop_lr1_core.specs.Views.{lr_item_view, lr_state_view, production_view}
use Rattle.lalrpop_lr1_core.specs.declared.item.Item.{Item}
use Rattle.lalrpop_lr1_core.specs.declared.state.State.{State}
use Rattle.lalrpop_lr1_core.proofs.MemberLemmas.{in_map, map_has}
use Rattle.lalrpop_lr1_core.proofs.NoConflictLemmas.{at_mapped}
use Rattle.lalrpop_sets.specs.AscendingLists.{has}
use Rattle.lalrpop_sets.specs.Tokens.{eof_number}
use Rattle.lalrpop_lr1_first.specs.ClosureTables.{IsClosureTableOf}
use Rattle.lalrpop_lr1_first.specs.FirstNumbers.{table_end}
use Rattle.lalrpop_lr1_first.specs.Listings.{HoldSame}
use Rattle.lalrpop_lr1_core.specs.TheoryGrammars.{productions_of_grammar}
use Rattle.lalrpop_lr1_first.specs.NumberedGrammars.{IsNumberTable, IsSeenIn, table_productions}
use Rattle.lalrpop_lr1_first.specs.declared.closure.Closures.{Closures}
use Rattle.lalrpop_lr1_first.specs.declared.numbered.Numbered.{Numbered}
use Rattle.lalrpop_lr1_first.specs.declared.place.Place.{Place}
use Rattle.lalrpop_lr1_first.specs.declared.place.Place.TheVariants as places
use Rattle.lalrpop_lr1_first.proofs.TableLemmas.{symbols_below}
use Rattle.lalrpop_lr1_build.specs.Kernels.{AreKernelItems}
use Rattle.lalrpop_lr1_build.specs.Nexts.{IsNextIn}
use Rattle.lalrpop_lr1_build.specs.Shifts.{shifted_items, symbol_in}
use Rattle.lalrpop_lr1_build.specs.Turns.{AreNumberedStates}
use Rattle.lalrpop_lr1_build.specs.declared.states.kernel.StateKernel.{StateKernel}
use Rattle.lalrpop_lr1_build.specs.declared.states.numbered_states.NumberedState.{NumberedState}
use Rattle.lalrpop_lr1_build.proofs.ShiftLemmas.{shifted_from}
use Rattle.lalrpop_lr1_build.specs.BuiltStates.{AreBuiltStates, ItemBefore, TerminalBefore}
use Rattle.lalrpop_lr1_core.specs.TheoryGrammars.{NameBefore, theory_grammar}
use Rattle.lalrpop_lr1_build.specs.NumberedAutomata.{AreStartItems}
use Rattle.lalrpop_lr1_build.specs.PublicStates.{ArePublicStates, IsPublicItem, IsWellNumbered, finished_entries, start_items}
use Rattle.lalrpop_lr1_build.proofs.AutomatonLemmas.{marked_more}
use Rattle.lalrpop_lr1_build.proofs.NumberedAutomatonLemmas.{kernel_at, some_element, symbol_behind_dot}
use Rattle.lalrpop_lr1_first.proofs.TableLemmas.{get_some}
use Rattle.lalrpop_lr1_theory.proofs.NameLemmas.{no_element}
use Rattle.lalrpop_lr1_build.proofs.OrderLemmas.{items_before, places_apart, symbols_before}
use Rattle.lalrpop_lr1_build.proofs.PublicLemmas.{edges_same, public_constructed, seen_at, zip_at, zip_right}
use Rattle.lalrpop_lr1_build.proofs.StartLemmas.{start_items_are, start_kernel_items}

is_symbol : (o : Option Place) (s : ℕ) → symbol_in o ≡ Some s → o ≡ Some (places.Symbol s)
is_symbol None s e = let w : ⊥ = cc in absurd w
is_symbol (Some (places.End r)) s e = let w : ⊥ = cc in absurd w
is_symbol (Some (places.Symbol t)) s e = let z : t ≡ s = cc in ap (λ x. Some (places.Symbol x)) z

-- the same productions are seen as the same
seen_same : (ps qs : List Production) → HoldSame ps qs → (p : theory.Production) → IsSeenIn ps p ↔ IsSeenIn qs p
seen_same ps qs same p = (
  λ c. let m = in_map production_view ps p c in
      subst (Contains (map production_view qs)) m.2 (map_has production_view qs m.0 ((same m.0).0 m.1)),
  λ c. let m = in_map production_view qs p c in
      subst (Contains (map production_view ps)) m.2 (map_has production_view ps m.0 ((same m.0).1 m.1)),
)

module _ (table : Numbered) (is : IsNumberTable table) {L : Type 0} (marks : L → List ℕ) (firsts : Bool) (in_order : L → Type 0)
    (look : L → states.LookaheadSet)
    (one : (a b : L) → in_order a → in_order b → ((k : ℕ) → has (marks a) k ≡ has (marks b) k) → a ≡ b)
    (nexts_are : (a : L) (x : theory.Next) → Contains (look a).nexts x ↔ IsNextIn table.terminals.now (marks a) x)
    (error_is : (a : L) → (look a).error ≡ has (marks a) (table_end table + 1))
    (Start : theory.Next → Type 0) (s : Text) (start : StateKernel L) (numbered : List (NumberedState L))
    (are : AreNumberedStates marks firsts in_order table start numbered)
    (begin : AreStartItems marks Start table s start.items) (public : List (State L))
    (seen : ArePublicStates table numbered public) where
  numbered_as_seen : AreNumberedAsSeen (SymbolBefore NameBefore (TerminalBefore table.terminals.now)) (map (lr_state_view look) public)
  numbered_as_seen j k n x h l edge =
      let e = (edges_same table is marks firsts in_order look one nexts_are error_is Start s start numbered are begin public seen n x k).1
      edge in
      let r = are.are.seen j k n e.number h l e.led in
      let y = symbol_behind_dot table is marks firsts in_order Start s start numbered are begin r.0 r.1 j r.3 in
      record {
        source = r.0;
        symbol = y.0;
        edge = (edges_same table is marks firsts in_order look one nexts_are error_is Start s start numbered are begin public seen r.0 y.0
            j).0 (record { number = r.1; led = r.3; symbol = y.1 });
        earlier = ⊎_elim
            (λ m. inl m)
            (λ m. inr (m.0, symbols_before table is r.1 e.number y.0 x m.1 y.1 e.symbol)) r.2;
      }

  items_ascend : HaveItemsAscending ItemBefore (map (lr_state_view look) public)
  items_ascend n view j k a b e l f g =
      let r = seen_at table is marks firsts in_order look one nexts_are error_is Start s start numbered are begin public seen n view e in
      let c = kernel_at table is marks firsts in_order Start s start numbered are begin n r.state r.at_numbered in
      let items = (are.are.closures n c.0 r.state c.1 r.at_numbered).are_items in
      let x = at_mapped (lr_item_view look) r.public_state.items.vec j a
      (subst (λ (v : states.State). slice_get v.items j ≡ Some a) (sym r.view_is) f) in
      let y = at_mapped (lr_item_view look) r.public_state.items.vec k b
      (subst (λ (v : states.State). slice_get v.items k ≡ Some b) (sym r.view_is) g) in
      let p = zip_at (IsPublicItem table) r.state.items r.public_state.items.vec r.made.vec j x.0 x.1 in
      let q = zip_at (IsPublicItem table) r.state.items r.public_state.items.vec r.made.vec k y.0 y.1 in
      subst (λ i. ItemBefore i b) x.2 (subst (λ i. ItemBefore (lr_item_view look x.0) i) y.2
      (items_before table is p.0.0 q.0.0 (production_view x.0.production.now) (production_view y.0.production.now) x.0.index y.0.index
      (places_apart r.state.items 0 j k p.0 q.0 items.ascending l p.1 q.1) p.2.0 q.2.0 (look x.0.lookahead) (look y.0.lookahead)))

-- each element is such, so all are
pub all_each : {X : Type 0} (P : X → Type 0) (xs : List X) → ((x : X) → Contains xs x → P x) → All P xs
all_each P [] h = All-nil P
all_each P (x ∷ xs) h = All-cons P x xs (h x (contains_here x xs)) (all_each P xs (λ y c. h y (contains_later x y xs c)))

-- a finished entry comes from an item
finished_from : {L : Type 0} (items : List (Item L)) (r : L × Bor Production) → Contains (finished_entries items) r →
    (item : Item L) × Contains items item × (item.lookahead ≡ r.0)
finished_from [] r c = absurd (no_element r c)
finished_from {L} (item ∷ items) r c =
    go (eqb item.index (length item.production.now.symbols)) (finished_from items r) c
  where
    later : (i : Item L) × Contains items i × (i.lookahead ≡ r.0) → (i : Item L) × Contains (item ∷ items) i
        × (i.lookahead ≡ r.0)
    later h = (h.0, contains_later item h.0 items h.1, h.2)

    go : (b : Bool) → (Contains (finished_entries items) r → (i : Item L) × Contains items i × (i.lookahead ≡ r.0)) →
        Contains (cond b ((item.lookahead, item.production) ∷ finished_entries items) (finished_entries items)) r →
        (i : Item L) × Contains (item ∷ items) i × (i.lookahead ≡ r.0)
    go true rec d = ⊎_elim
        (λ e. (item, contains_here item items, ap (λ (x : L × Bor Production). x.0) e))
        (λ e. later (rec e)) (contains_split (item.lookahead, item.production) r (finished_entries items) d)
    go false rec d = later (rec d)

module _ {L : Type 0} (marks : L → List ℕ) (firsts : Bool) (in_order : L → Type 0) where
  -- what may follow a reduction are tokens that may follow an item
  reduces_tokens : (table : Numbered) (start : StateKernel L) (numbered : List (NumberedState L)) →
      AreNumberedStates marks firsts in_order table start numbered → (public : List (State L)) →
      ArePublicStates table numbered public → (n : ℕ) (state : State L) → slice_get public n ≡ Some state →
      All (λ (r : L × Bor Production). (k : ℕ) → has (marks r.0) k ≡ true → k ≤ table_end table) state.reductions
  reduces_tokens table start numbered are public seen n state e =
      let long = slice_get_within public n state e in
      let st = get_some numbered n (let c = seen.count in omega (arith, long, c)) in
      let kernel = get_some are.kernels n (let l = slice_get_within numbered n st.0 st.1 in let c = are.count in omega (arith, l, c)) in
      let items = (are.are.closures n kernel.0 st.0 kernel.1 st.1).are_items in
      let made = seen.at n st.0 state st.1 e in
      all_each (λ (r : L × Bor Production). (k : ℕ) → has (marks r.0) k
      ≡ true → k ≤ table_end table) state.reductions (λ r c k h.
      let i = finished_from state.items.vec r (subst (λ rs. Contains rs r) made.reductions c) in
      let z = zip_right (IsPublicItem table) st.0.items state.items.vec made.vec i.0 i.1 in
      items.tokens z.0.0 k (z.0.1, z.1, subst (λ (l : L). has (marks l) k ≡ true) (sym i.2 ∙ z.2.1) h))

  -- states by numbers are well numbered
  pub well_numbered : (table : Numbered) → IsNumberTable table → (start : StateKernel L) (numbered : List (NumberedState L)) →
      AreNumberedStates marks firsts in_order table start numbered → (n : ℕ) (state : NumberedState L) →
      slice_get numbered n ≡ Some state → IsWellNumbered table state
  well_numbered table is start numbered are n state e =
      let k = get_some are.kernels n (let l = slice_get_within numbered n state e in let c = are.count in omega (arith, l, c)) in
      let items = (are.are.closures n k.0 state k.1 e).are_items in
      let edges = are.are.edges n state e in
      record {
        placed = items.placed;
        ascending = edges.ascending;
        known = λ s m c.
            let i = some_element (shifted_items table.places.items s state.items) (edges.some s m c) in
            let f = shifted_from table.places.items s state.items i.0.0 i.0.1 i.1 in
            symbols_below table is f.0 s (is_symbol (slice_get table.places.items f.0) s f.3);
      }

  module _ (g : Grammar) (start : NonterminalString) (l : L) (closures : Closures) (of : IsClosureTableOf g closures)
      (ordered : in_order l) (tokens : (k : ℕ) → has (marks l) k ≡ true → k ≤ eof_number g.terminals) (kernel : StateKernel L)
      (kernel_is : kernel.items ≡ start_items start l (table_productions closures.numbered) closures.numbered.rules.items) where
    -- the start's items are a kernel
    pub start_is_kernel : AreKernelItems marks in_order closures.numbered kernel.items
    start_is_kernel =
        subst (AreKernelItems marks in_order closures.numbered) (sym kernel_is)
        (start_kernel_items marks in_order closures.numbered of.closure.numbers start l ordered
        (subst (λ (ts : TerminalSet). (k : ℕ) → has (marks l) k ≡ true → k ≤ eof_number ts) (sym of.terminals) tokens))

    -- the states that are made from it are the grammar's
    pub built_states : (look : TerminalSet → L → states.LookaheadSet) →
        ((a b : L) → in_order a → in_order b → ((k : ℕ) → has (marks a) k ≡ has (marks b) k) → a ≡ b) →
        ((ts : TerminalSet) (a : L) (x : theory.Next) → Contains (look ts a).nexts x ↔ IsNextIn ts (marks a) x) →
        ((ts : TerminalSet) (a : L) → (look ts a).error ≡ has (marks a) (eof_number ts + 1)) →
        (Start : theory.Next → Type 0) → ((x : theory.Next) → Start x ↔ IsNextIn g.terminals (marks l) x) →
        (numbered : List (NumberedState L)) → AreNumberedStates marks firsts in_order closures.numbered kernel numbered →
        (public : List (State L)) → ArePublicStates closures.numbered numbered public →
        AreBuiltStates marks (look g.terminals) firsts Start g start public
    built_states look one nexts_are error_is Start same numbered are public seen =
        let table = closures.numbered in
        let own = closures.numbered.terminals.now in
        let begin = subst (AreStartItems marks Start table start.0) (sym kernel_is)
        (start_items_are marks in_order table of.closure.numbers start l Start
        (subst (λ (ts : TerminalSet). (x : theory.Next) → Start x ↔ IsNextIn ts (marks l) x) (sym of.terminals) same)) in
        record {
          constructed = subst
              (λ (ts : TerminalSet). AreConstructedStates firsts Start (theory_grammar g) start.0 (map (lr_state_view (look ts)) public))
              of.terminals
              (public_constructed table of.closure.numbers marks firsts in_order (look own) one (nexts_are own) (error_is own) Start start.0
              kernel numbered are begin public seen (theory_grammar g)
              (seen_same (table_productions table) (productions_of_grammar g) of.productions));
          numbered = subst
              (λ (ts : TerminalSet). AreNumberedAsSeen (SymbolBefore NameBefore (TerminalBefore ts))
              (map (lr_state_view (look ts)) public))
              of.terminals
              (numbered_as_seen table of.closure.numbers marks firsts in_order (look own) one (nexts_are own) (error_is own) Start start.0
              kernel numbered are begin public seen);
          ascending = subst (λ (ts : TerminalSet). HaveItemsAscending ItemBefore (map (lr_state_view (look ts)) public)) of.terminals
              (items_ascend table of.closure.numbers marks firsts in_order (look own) one (nexts_are own) (error_is own) Start start.0
              kernel numbered are begin public seen);
          tokens = subst
              (λ (ts : TerminalSet). (n : ℕ) (state : State L) → slice_get public n ≡ Some state →
              All (λ (r : L × Bor Production). (k : ℕ) → has (marks r.0) k ≡ true → k ≤ eof_number ts) state.reductions)
              of.terminals (reduces_tokens table kernel numbered are public seen);
        }

-- what may follow the start may be said in another way
pub built_alike : {L : Type 0} (marks : L → List ℕ) (look : L →
    states.LookaheadSet) (firsts : Bool) (Start Other : theory.Next → Type 0)
    (g : Grammar) (start : NonterminalString) → ((x : theory.Next) → Start x ↔ Other x) → (built : List (State L)) →
    AreBuiltStates marks look firsts Start g start built → AreBuiltStates marks look firsts Other g start built
built_alike marks look firsts Start Other g start same built are =
    let c = are.constructed in
    let a = c.automaton in
    record {
      constructed = record {
        automaton = record {
          cover = a.cover;
          held = a.held;
          look_start = λ p i x. (
            λ h. marked_more (Contains (theory_grammar g)) (Contains (theory_grammar g)) (λ q k. k)
                (IsBegun (Contains (theory_grammar g)) start.0) (IsBegun (Contains (theory_grammar g)) start.0) (λ q j k. k) firsts
                (IsBegunBefore Start (Contains (theory_grammar g)) start.0)
                (IsBegunBefore Other (Contains (theory_grammar g)) start.0) (λ q j y b. (b.0, (same y).0 b.1)) ((a.look_start p i x).0 h),
            λ m. (a.look_start p i x).1 (marked_more (Contains (theory_grammar g)) (Contains (theory_grammar g)) (λ q k. k)
                (IsBegun (Contains (theory_grammar g)) start.0) (IsBegun (Contains (theory_grammar g)) start.0) (λ q j k. k) firsts
                (IsBegunBefore Other (Contains (theory_grammar g)) start.0)
                (IsBegunBefore Start (Contains (theory_grammar g)) start.0) (λ q j y b. (b.0, (same y).1 b.1)) m),
          );
          look_next = a.look_next;
          reached = a.reached;
        };
        reached = c.reached;
        distinct = c.distinct;
        once = c.once;
        without_error = c.without_error;
        reductions = c.reductions;
        index = c.index;
      };
      numbered = are.numbered;
      ascending = are.ascending;
      tokens = are.tokens;
    }
