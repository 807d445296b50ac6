-- In which order built states, their reductions and their items stand, as the orders of conflicts say it: for all conflicts in order.
use Rattle.std.proofs.Common.{◌≡◌, ◌∙◌, ◌<◌, ◌⊎◌, inl, inr, ⊎_elim, ℕ, zero, suc, ◌+◌, Bool, true, false, cond, eqb}
use Rattle.std.proofs.Common.{List, [], ◌∷◌, ◌++◌, map, length, Option, Some, None, Contains, ap, sym, refl, subst, arith}
use Rattle.std.specs.Prelude.{All, option_map, slice_get}
use Rattle.std.specs.List.Sorted.{IsStrictlySortedBy}
use Rattle.std.specs.Map.{keys_of}
use Rattle.std.specs.declared.cmp.Ordering.TheVariants.{Less}
use Rattle.std.proofs.lemmas.Bool.{eqb-true}
use Rattle.std.proofs.lemmas.List.Elements.{All-contains, Contains-append_cases, Contains-append_left, Contains-append_right}
use Rattle.lalrpop_grammar_symbols.specs.Symbols.{Terminal, Text}
use Rattle.lalrpop_grammar_symbols.specs.Views.{terminal_view}
use Rattle.lalrpop_grammar_symbols.specs.contracts.terminal.TerminalStringOrd.TheImpl as terminals
use Rattle.lalrpop_grammar_symbols.specs.declared.terminal.TerminalString.{TerminalString}
use Rattle.lalrpop_grammar_repr.specs.contracts.production.ProductionOrd.TheImpl as productions
use Rattle.lalrpop_grammar_repr.specs.declared.terminal_set.TerminalSet.{TerminalSet}
use Rattle.lalrpop_lr1_theory.specs.Automata.{Walk}
use Rattle.lalrpop_lr1_theory.specs.CanonicalStates.{AreCanonicalStates, AreNumberedAsSeen, HaveItemsAscending, SymbolBefore}
use Rattle.lalrpop_lr1_theory.specs.Productions as theory
use Rattle.lalrpop_lr1_theory.specs.States as states
use Rattle.lalrpop_lr1_theory.specs.States.{HasEdge, HasItem, finished_reductions}
use Rattle.lalrpop_lr1_theory.proofs.ChoiceLemmas.{Choices, choices}
use Rattle.lalrpop_lr1_theory.proofs.ListLemmas.{contains_here, contains_later, contains_split, get_contains}
use Rattle.lalrpop_lr1_theory.proofs.Lr0CoreLemmas.{state_at}
use Rattle.lalrpop_lr1_theory.proofs.NameLemmas.{no_element}
use Rattle.lalrpop_lr1_theory.proofs.StepLemmas.{some_same}
use Rattle.lalrpop_lr1_theory.proofs.WalkLemmas.{item_over}
use Rattle.lalrpop_lr1_core.specs.Conflicts.{ReductionEntry, ShiftEntry}
use Rattle.lalrpop_lr1_core.specs.TheoryGrammars.{NameBefore}
use Rattle.lalrpop_lr1_core.specs.Views.{lr_state_view, production_view, reduction_view, token_lookahead}
use Rattle.lalrpop_lr1_core.specs.declared.state.State.{State}
use Rattle.lalrpop_lr1_core.proofs.MemberLemmas.{in_map, map_has}
use Rattle.lalrpop_lr1_core.proofs.NoConflictLemmas.{mapped_at}
use Rattle.lalrpop_lr1_core.proofs.SortedLemmas.{sorted_at}
use Rattle.lalrpop_lr1_build.specs.BuiltStates.{ItemBefore, TerminalBefore}
use Rattle.lalrpop_run.specs.ConflictOrders.{IsProductionBefore, IsSooner, IsTerminalBefore, compare_symbols}
use Rattle.lalrpop_run.proofs.ComparedOrderLemmas.{numbers_first, production_first, same_terminals}
use Rattle.lalrpop_run.proofs.OrderedListLemmas.{AreInOrder, first_in_order, in_order_behind, joined_in_order, none_in_order}
use Rattle.lalrpop_run.proofs.OrderedListLemmas.{one_in_order}
use Rattle.lalrpop_run.proofs.SoonestLemmas.{HasEarlierEdge, ListedEdge, soonest_walk, sooner_numbers}
use Rattle.lalrpop_run.proofs.StateConflictLemmas.{IsEntryBefore, IsShiftBefore}

-- ---- edges in a list

abbrev shift_listed : ℕ → Terminal × ℕ → ListedEdge
shift_listed n e = (n, theory.terminal e.0, e.1)

abbrev goto_listed : ℕ → Text × ℕ → ListedEdge
goto_listed n e = (n, theory.nonterminal e.0, e.1)

abbrev state_listed : ℕ → states.State → List ListedEdge
state_listed n s = map (shift_listed n) s.shifts ++ map (goto_listed n) s.gotos

abbrev all_listed : ℕ → List states.State → List ListedEdge
all_listed n [] = []
all_listed n (s ∷ ss) = state_listed n s ++ all_listed (suc n) ss

listed_there : (a : ℕ) (all : List states.State) (k : ℕ) (s : states.State) (e : ListedEdge) → slice_get all k ≡ Some s
    → Contains (state_listed (a + k) s) e → Contains (all_listed a all) e
listed_there a [] k s e at c = let w : ⊥ = cc in absurd w
listed_there a (t ∷ rest) zero s e at c =
    let same : a + 0 ≡ a = omega arith in
    Contains-append_left (state_listed a t) (all_listed (suc a) rest) e
    (subst (λ m. Contains (state_listed m t) e) same (subst (λ u. Contains (state_listed (a + 0) u) e) (sym (some_same t s at)) c))
listed_there a (t ∷ rest) (suc k) s e at c =
    let same : a + suc k ≡ suc a + k = omega arith in
    Contains-append_right (state_listed a t) (all_listed (suc a) rest) e
    (listed_there (suc a) rest k s e at (subst (λ m. Contains (state_listed m s) e) same c))

abbrev IsListedOf : ℕ → List states.State → ListedEdge → Type 0
IsListedOf a all e =
    (k : ℕ) × (s : states.State) × (slice_get all k ≡ Some s) × Contains (state_listed (a + k) s) e

there_listed : (a : ℕ) (all : List states.State) (e : ListedEdge) → Contains (all_listed a all) e → IsListedOf a all e
there_listed a [] e c = absurd (no_element e c)
there_listed a (t ∷ rest) e c =
    ⊎_elim (λ d. here d) (λ d. later (there_listed (suc a) rest e d))
    (Contains-append_cases (state_listed a t) (all_listed (suc a) rest) e c)
  where
    here : Contains (state_listed a t) e → IsListedOf a (t ∷ rest) e
    here d = let same : a ≡ a + 0 = omega arith in (0, t, refl, subst (λ m. Contains (state_listed m t) e) same d)

    later : IsListedOf (suc a) rest e → IsListedOf a (t ∷ rest) e
    later r =
        let k = r.0 in
        let same : suc a + k ≡ a + suc k = omega arith in
        (suc k, r.1, r.2, subst (λ m. Contains (state_listed m r.1) e) same r.3)

module _ (all : List states.State) where
  edge_listed : (n : ℕ) (x : theory.Symbol) (m : ℕ) → HasEdge all n x m → Contains (all_listed 0 all) (n, x, m)
  edge_listed n (theory.terminal t) m e =
      let same : n ≡ 0 + n = omega arith in
      listed_there 0 all n e.0 (n, theory.terminal t, m) e.1
      (subst (λ k. Contains (state_listed k e.0) (n, theory.terminal t, m)) same
      (Contains-append_left (map (shift_listed n) e.0.shifts) (map (goto_listed n) e.0.gotos) (n, theory.terminal t, m)
      (map_has (shift_listed n) e.0.shifts (t, m) e.2)))
  edge_listed n (theory.nonterminal A) m e =
      let same : n ≡ 0 + n = omega arith in
      listed_there 0 all n e.0 (n, theory.nonterminal A, m) e.1
      (subst (λ k. Contains (state_listed k e.0) (n, theory.nonterminal A, m)) same
      (Contains-append_right (map (shift_listed n) e.0.shifts) (map (goto_listed n) e.0.gotos) (n, theory.nonterminal A, m)
      (map_has (goto_listed n) e.0.gotos (A, m) e.2)))

  listed_edge : (n : ℕ) (x : theory.Symbol) (m : ℕ) → Contains (all_listed 0 all) (n, x, m) → HasEdge all n x m
  listed_edge n x m c =
      let r = there_listed 0 all (n, x, m) c in
      go r.0 r.1 r.2 (Contains-append_cases (map (shift_listed (0 + r.0)) r.1.shifts) (map (goto_listed (0 + r.0)) r.1.gotos) (n, x, m) r.3)
    where
      place : (k : ℕ) (s : states.State) → slice_get all k ≡ Some s → slice_get all (0 + k) ≡ Some s
      place k s at = let same : k ≡ 0 + k = omega arith in subst (λ j. slice_get all j ≡ Some s) same at

      go : (k : ℕ) (s : states.State) → slice_get all k ≡ Some s
          → Contains (map (shift_listed (0 + k)) s.shifts) (n, x, m) ⊎ Contains (map (goto_listed (0 + k)) s.gotos) (n, x, m)
          → HasEdge all n x m
      go k s at (inl d) =
          let e = in_map (shift_listed (0 + k)) s.shifts (n, x, m) d in
          subst (λ (v : ListedEdge). HasEdge all v.0 v.1 v.2) e.2 (s, place k s at, e.1)
      go k s at (inr d) =
          let e = in_map (goto_listed (0 + k)) s.gotos (n, x, m) d in
          subst (λ (v : ListedEdge). HasEdge all v.0 v.1 v.2) e.2 (s, place k s at, e.1)

-- ---- numbers of states

-- a list of symbols that leads to the state, and does so soonest
abbrev pub IsSoonestTo : List states.State → ℕ → List theory.Symbol → Type 0
IsSoonestTo all n g = Walk (HasEdge all) g n × ((h : List theory.Symbol) → Walk (HasEdge all) h n → (g ≡ h) ⊎ IsSooner g h)

abbrev or_none : Option (List theory.Symbol) → List theory.Symbol
or_none (Some g) = g
or_none None = []

module _ (ts : TerminalSet) (ascending : IsStrictlySortedBy (terminals.ghosts).cmp ts.all) where
  symbol_first : (x y : theory.Symbol) → SymbolBefore NameBefore (TerminalBefore ts) x y → compare_symbols x y ≡ Less
  symbol_first (theory.nonterminal A) (theory.nonterminal B) h = h
  symbol_first (theory.nonterminal A) (theory.terminal u) h = refl
  symbol_first (theory.terminal t) (theory.nonterminal B) h = absurd h
  symbol_first (theory.terminal t) (theory.terminal u) h =
      go (slice_get ts.all h.one) (slice_get ts.all h.other) refl refl h.one_is h.other_is
    where
      go : (a b : Option TerminalString) → slice_get ts.all h.one ≡ a → slice_get ts.all h.other ≡ b
          → option_map terminal_view a ≡ Some t → option_map terminal_view b ≡ Some u → IsTerminalBefore t u
      go None b at_a at_b e f = let w : ⊥ = cc in absurd w
      go (Some v) None at_a at_b e f = let w : ⊥ = cc in absurd w
      go (Some v) (Some w) at_a at_b e f =
          subst (λ z. IsTerminalBefore z u) (some_same (terminal_view v) t e)
          (subst (IsTerminalBefore (terminal_view v)) (some_same (terminal_view w) u f)
          (numbers_first ts ascending h.one h.other v w h.less at_a at_b))

  module _ (all : List states.State) (numbered : AreNumberedAsSeen (SymbolBefore NameBefore (TerminalBefore ts)) all) where
    earlier_seen : (j k n : ℕ) (x : theory.Symbol) → 0 < j → j < k → HasEdge all n x k → HasEarlierEdge (HasEdge all) j n x
    earlier_seen j k n x p l e =
        let it = numbered j k n x p l e in
        record {
          source = it.source;
          symbol = it.symbol;
          edge = it.edge;
          earlier = ⊎_elim (λ a. inl a) (λ a. inr (a.0, symbol_first it.symbol x a.1)) it.earlier;
        }

    soonest_to : (g : List theory.Symbol) (n : ℕ) → Walk (HasEdge all) g n → (h : List theory.Symbol) × IsSoonestTo all n h
    soonest_to g n w =
        let it = soonest_walk (HasEdge all) earlier_seen (all_listed 0 all) (edge_listed all) (listed_edge all) (length g) g n
        (omega arith) w in
        (it.symbols, (it.walk, it.first))

    -- a smaller number has the sooner list
    pub sooner_to : (n m : ℕ) (g h : List theory.Symbol) → IsSoonestTo all n g → IsSoonestTo all m h → n < m → IsSooner g h
    sooner_to n m g h a b l =
        sooner_numbers (HasEdge all) earlier_seen n m
        (record { symbols = g; walk = a.0; first = a.1 }) (record { symbols = h; walk = b.0; first = b.1 }) l

    -- each state's soonest list
    pub record HasSoonestLists : Type 0 where
      pub list_to : ℕ → List theory.Symbol
      pub soonest : (n : ℕ) → n < length all → IsSoonestTo all n (list_to n)

    pub soonest_lists : ((n : ℕ) (state : states.State) → slice_get all n ≡ Some state → (g : List theory.Symbol) × Walk (HasEdge all) g n)
        → HasSoonestLists
    soonest_lists reached = record {
      list_to = λ n. or_none (slice_get lists.list n);
      soonest = λ n l. let e = lists.each n l in
          subst (IsSoonestTo all n) (sym (ap or_none e.1)) (lists.right n e.0 e.1);
    }
      where
        lists : Choices (IsSoonestTo all) (length all)
        lists = choices (IsSoonestTo all) (length all) (length all) (omega arith)
            (λ n l. let s = state_at all n l in let r = reached n s.0 s.1 in soonest_to r.0 n r.1)

-- ---- shifts as a map has them

-- the keys of a state's shifts ascend, as those of any map do
abbrev pub HasShiftsInOrder : State (List ℕ) → Type 0
HasShiftsInOrder state = IsStrictlySortedBy (terminals.ghosts).cmp (keys_of state.shifts)

abbrev pub HaveShiftsInOrder : List (State (List ℕ)) → Type 0
HaveShiftsInOrder built = All HasShiftsInOrder built

pub shifts_ascend : (built : List (State (List ℕ))) → HaveShiftsInOrder built → (n : ℕ) (state : State (List ℕ))
    → slice_get built n ≡ Some state → AreInOrder IsShiftBefore state.shifts
shifts_ascend built sorted n state at i j a b l e f =
    sym (same_terminals a.0 b.0)
    ∙ sorted_at (terminals.ghosts).cmp (keys_of state.shifts)
    (All-contains HasShiftsInOrder built state sorted (get_contains built n state at)) i j a.0 b.0 l
    (mapped_at (λ (s : ShiftEntry). s.0) state.shifts i a e) (mapped_at (λ (s : ShiftEntry). s.0) state.shifts j b f)

-- ---- reductions by finished items

abbrev item_by : states.Reduction → states.Item
item_by r = record { production = r.production; dot = length r.production.right; lookahead = r.lookahead }

module _ (item : states.Item) (items : List states.Item) where
  abbrev its_reduction : states.Reduction
  its_reduction = record { production = item.production; lookahead = item.lookahead }

  abbrev perhaps : Bool → List states.Reduction
  perhaps b = cond b (its_reduction ∷ finished_reductions items) (finished_reductions items)

  item_is : eqb item.dot (length item.production.right) ≡ true → item ≡ item_by its_reduction
  item_is h =
      ap (λ k. record { production = item.production; dot = k; lookahead = item.lookahead })
      (eqb-true item.dot (length item.production.right) h)

  perhaps_among : (r : states.Reduction) (b : Bool) → eqb item.dot (length item.production.right) ≡ b
      → (Contains (finished_reductions items) r → Contains items (item_by r)) → Contains (perhaps b) r → Contains (item ∷ items) (item_by r)
  perhaps_among r false h deeper c = contains_later item (item_by r) items (deeper c)
  perhaps_among r true h deeper c =
      ⊎_elim (λ e. subst (Contains (item ∷ items)) (item_is h ∙ ap item_by e) (contains_here item items))
      (λ d. contains_later item (item_by r) items (deeper d)) (contains_split its_reduction r (finished_reductions items) c)

finished_among : (items : List states.Item) (r : states.Reduction) → Contains (finished_reductions items) r → Contains items (item_by r)
finished_among [] r c = absurd (no_element r c)
finished_among (item ∷ items) r c =
    perhaps_among item items r (eqb item.dot (length item.production.right)) refl (finished_among items r) c

-- reductions by their items
abbrev ByItems : (states.Item → states.Item → Type 0) → states.Reduction → states.Reduction → Type 0
ByItems P q r = P (item_by q) (item_by r)

-- they stand in the order of their items
finished_in_order : (P : states.Item → states.Item → Type 0) (items : List states.Item) → AreInOrder P items
    → AreInOrder (ByItems P) (finished_reductions items)
finished_in_order P [] o = none_in_order (ByItems P)
finished_in_order P (item ∷ items) o =
    go (eqb item.dot (length item.production.right)) refl (finished_in_order P items (in_order_behind P item items o))
  where
    only : (y z : states.Reduction) → eqb item.dot (length item.production.right) ≡ true
        → Contains (its_reduction item items ∷ []) y → Contains (finished_reductions items) z → ByItems P y z
    only y z h c d =
        let same = ⊎_elim (λ e. e) (λ n. absurd (no_element y n)) (contains_split (its_reduction item items) y [] c) in
        subst (λ i. P i (item_by z)) (item_is item items h ∙ ap item_by same)
        (first_in_order P item items o (item_by z) (finished_among items z d))

    go : (b : Bool) → eqb item.dot (length item.production.right) ≡ b → AreInOrder (ByItems P) (finished_reductions items)
        → AreInOrder (ByItems P) (perhaps item items b)
    go false h deeper = deeper
    go true h deeper =
        joined_in_order (ByItems P) (its_reduction item items ∷ []) (finished_reductions items)
        (one_in_order (ByItems P) (its_reduction item items)) deeper
        (λ y z c d. only y z h c d)

module _ (ts : TerminalSet) (grammar : List theory.Production) (s : Text) (built : List (State (List ℕ)))
    (can : AreCanonicalStates grammar s (map (lr_state_view (token_lookahead ts)) built))
    (ascending : HaveItemsAscending ItemBefore (map (lr_state_view (token_lookahead ts)) built))
    (own : (p q : theory.Production) → Contains grammar p → Contains grammar q → p.action ≡ q.action → p ≡ q) where
  abbrev seen : State (List ℕ) → states.State
  seen = lr_state_view (token_lookahead ts)

  abbrev look : ReductionEntry → states.Reduction
  look = reduction_view (token_lookahead ts)

  abbrev all : List states.State
  all = map seen built

  module _ (n : ℕ) (state : State (List ℕ)) (at : slice_get built n ≡ Some state) where
    of_grammar : (r : states.Reduction) → Contains (finished_reductions (seen state).items) r → Contains grammar r.production
    of_grammar r c =
        let there = mapped_at seen built n state at in
        let w = can.reached n (seen state) there in
        item_over (Contains grammar) s (HasItem all) (HasEdge all) can.automaton.cover w.0 n w.1 r.production (length r.production.right)
        (record {
          state = seen state;
          lookahead = r.lookahead;
          at = there;
          held = finished_among (seen state).items r c;
        })

    -- items in order whose dots are at the end have productions in order
    production_before : (q r : states.Reduction) → Contains grammar q.production → Contains grammar r.production
        → ItemBefore (item_by q) (item_by r) → IsProductionBefore q.production r.production
    production_before q r c d it =
        subst (λ p. IsProductionBefore p r.production) (sym it.one_is)
        (subst (IsProductionBefore (production_view it.one)) (sym it.other_is) (go it.before))
      where
        same_action : it.one.action.0 ≡ it.other.action.0 → production_view it.one ≡ production_view it.other
        same_action e =
            own (production_view it.one) (production_view it.other) (subst (Contains grammar) it.one_is c)
            (subst (Contains grammar) it.other_is d) e

        go : ((productions.ghosts).cmp it.one it.other ≡ Less)
            ⊎ ((it.one ≡ it.other) × (length q.production.right < length r.production.right))
            → IsProductionBefore (production_view it.one) (production_view it.other)
        go (inl less) = production_first it.one it.other less same_action
        go (inr both) =
            let one : q.production ≡ r.production = it.one_is ∙ ap production_view both.0 ∙ sym it.other_is in
            let long : length q.production.right ≡ length r.production.right = ap (λ (p : theory.Production). length p.right) one in
            absurd (omega (arith, both.1, long))

    -- a state's reductions stand in the order of their productions
    pub entries_in_order : AreInOrder IsEntryBefore state.reductions
    entries_in_order i j q r l e f =
        let there = mapped_at seen built n state at in
        let finished = can.reductions n (seen state) there in
        let one = subst (λ rs. slice_get rs i ≡ Some (look q)) finished (mapped_at look state.reductions i q e) in
        let other = subst (λ rs. slice_get rs j ≡ Some (look r)) finished (mapped_at look state.reductions j r f) in
        production_before (look q) (look r) (of_grammar (look q) (get_contains (finished_reductions (seen state).items) i (look q) one))
        (of_grammar (look r) (get_contains (finished_reductions (seen state).items) j (look r) other))
        (finished_in_order ItemBefore (seen state).items (λ x y a b m g h. ascending n (seen state) x y a b there m g h) i j (look q)
        (look r) l
        one other)
