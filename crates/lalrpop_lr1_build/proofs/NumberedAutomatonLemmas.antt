-- States by numbers are a constructed automaton: for the states that are built.
use Rattle.std.proofs.Common.{◌≡◌, ◌∙◌, ◌+◌, ◌<◌, ◌≤◌, ℕ, zero, suc, Bool, List}
use Rattle.std.proofs.Common.{[], ◌∷◌, ◌++◌, length, Some, None, Option}
use Rattle.std.proofs.Common.{Contains, slice_get, drop, refl, sym, ap, subst, arith, ⊎_elim}
use Rattle.std.proofs.lemmas.Option.{slice_get_within}
use Rattle.lalrpop_grammar_symbols.specs.Symbols.{Text}
use Rattle.lalrpop_lr1_theory.specs.Productions as theory
use Rattle.lalrpop_lr1_theory.specs.Automata.{Closure, HasDotBefore, IsBegun, IsBegunBefore, IsConstructedAutomaton, IsShifted}
use Rattle.lalrpop_lr1_theory.specs.Automata.{IsShiftedBefore, Marked, Walk, goes, stands}
use Rattle.lalrpop_lr1_theory.proofs.ListLemmas.{contains_here, contains_split}
use Rattle.lalrpop_lr1_theory.proofs.MarkLemmas.{item_of, mark_of}
use Rattle.lalrpop_lr1_theory.proofs.StepLemmas.{some_same}
use Rattle.lalrpop_lr1_core.specs.Views.{next_of_number}
use Rattle.lalrpop_sets.specs.AscendingLists.{AscendsFrom}
use Rattle.lalrpop_lr1_first.specs.FirstNumbers.{table_end}
use Rattle.lalrpop_lr1_first.specs.ItemTables.{ListsItem, ListsNext}
use Rattle.lalrpop_lr1_first.specs.NumberedGrammars.{HasItemAt, IsNumberTable, IsSeenIn, table_names, table_productions}
use Rattle.lalrpop_lr1_first.specs.Tables.{symbol_of_number}
use Rattle.lalrpop_lr1_first.specs.declared.numbered.Numbered.{Numbered}
use Rattle.lalrpop_lr1_first.proofs.TableLemmas.{is_item_table, table_numbering, get_some}
use Rattle.lalrpop_lr1_build.specs.Kernels.{IsClosureOf, places_of}
use Rattle.lalrpop_lr1_build.specs.Shifts.{shifted_items, symbol_behind}
use Rattle.lalrpop_lr1_build.specs.Turns.{AreNumberedStates, HasEdgeByNumber, shifted_kernel}
use Rattle.lalrpop_lr1_build.specs.declared.states.kernel.StateKernel.{StateKernel}
use Rattle.lalrpop_lr1_build.specs.declared.states.numbered_states.NumberedState.{NumberedState}
use Rattle.lalrpop_lr1_build.proofs.ShiftLemmas.{item_moved, shifted_from, shifted_to, symbol_is, symbol_there}
use Rattle.lalrpop_lr1_build.specs.NumberedAutomata.{AreStartItems, HasNumberedEdge, HasNumberedItem, HasNumberedNext}
use Rattle.lalrpop_lr1_build.proofs.AutomatonLemmas.{closure_more, marked_more}
use Rattle.lalrpop_lr1_theory.proofs.NameLemmas.{no_element}

-- a place in order stands once
above : {L : Type 0} (xs : List (ℕ × L)) (a i : ℕ) (l : L) → AscendsFrom a (places_of xs) → Contains xs (i, l) → a ≤ i
above [] a i l h c = absurd (no_element (i, l) c)
above {L} (x ∷ xs) a i l h c = ⊎_elim
    (λ e. let z : x.0 ≡ i = ap (λ (y : ℕ × L). y.0) e in omega (arith, h.0, z))
    (λ d. let r = above xs (suc x.0) i l h.1 d in omega (arith, h.0, r)) (contains_split x (i, l) xs c)

-- in a list whose places ascend no place stands with two different values
pub once_at : {L : Type 0} (xs : List (ℕ × L)) (a i : ℕ) (l m : L) → AscendsFrom a (places_of xs) → Contains xs (i, l) →
    Contains xs (i, m) → l ≡ m
once_at [] a i l m h c d = absurd (no_element (i, l) c)
once_at {L} (x ∷ xs) a i l m h c d = ⊎_elim
    (λ e. ⊎_elim
    (λ f. ap (λ (y : ℕ × L). y.1) (sym e ∙ f))
    (λ f. let z : x.0 ≡ i = ap (λ (y : ℕ × L). y.0) e in absurd (let r = above xs (suc x.0) i m h.1 f in omega (arith, r, z)))
    (contains_split x (i, m) xs d))
    (λ e. ⊎_elim
    (λ f. let z : x.0 ≡ i = ap (λ (y : ℕ × L). y.0) f in absurd (let r = above xs (suc x.0) i l h.1 e in omega (arith, r, z)))
    (λ f. once_at xs (suc x.0) i l m h.1 e f) (contains_split x (i, m) xs d))
    (contains_split x (i, l) xs c)

-- a list that isn't empty has an element
pub some_element : {X : Type 0} (xs : List X) → (xs ≡ [] → ⊥) → (x : X) × Contains xs x
some_element [] h = absurd (h refl)
some_element (x ∷ xs) h = (x, contains_here x xs)

module _ (table : Numbered) (is : IsNumberTable table) where
  abbrev at : ℕ → Option theory.Symbol
  at = symbol_of_number (table_names table) table.terminals.now

  -- symbols of one number are one, and numbers of one symbol
  pub one_number : (s t : ℕ) (x : theory.Symbol) → at s ≡ Some x → at t ≡ Some x → s ≡ t
  one_number s t (theory.nonterminal A) e f = (table_numbering table is).name_once s t A e f
  one_number s t (theory.terminal u) e f =
      let n = table_numbering table is in
      let a = n.terminal_at s u e in
      let b = n.terminal_at t u f in
      let z : a.0 ≡ b.0 = n.next_once a.0 b.0 (omega (arith, a.2)) (omega (arith, b.2)) (a.3 ∙ sym b.3) in
      omega (arith, a.1, b.1, z)

  module _ {L : Type 0} (marks : L → List ℕ) (firsts : Bool) (in_order : L → Type 0) (Start : theory.Next → Type 0) (s : Text)
      (start : StateKernel L) (states : List (NumberedState L))
      (are : AreNumberedStates marks firsts in_order table start states)
      (begin : AreStartItems marks Start table s start.items) where
    abbrev G : theory.Production → Type 0
    G = IsSeenIn (table_productions table)

    abbrev Item : ℕ → theory.Production → ℕ → Type 0
    Item = HasNumberedItem table states

    abbrev Look : ℕ → theory.Production → ℕ → theory.Next → Type 0
    Look = HasNumberedNext marks table states

    abbrev Edge : ℕ → theory.Symbol → ℕ → Type 0
    Edge = HasNumberedEdge table states

    abbrev Lists : List (ℕ × L) → theory.Production → ℕ → Type 0
    Lists items = ListsItem items (HasItemAt table)

    abbrev Nexts : List (ℕ × L) → theory.Production → ℕ → theory.Next → Type 0
    Nexts items = ListsNext marks items (next_of_number table.terminals.now) (table_end table) (HasItemAt table)

    one_state : (n : ℕ) (a b : NumberedState L) → slice_get states n ≡ Some a → slice_get states n ≡ Some b → a ≡ b
    one_state n a b e f = some_same a b (sym e ∙ f)

    -- the state of a kernel
    pub state_at : (n : ℕ) (k : StateKernel L) → slice_get are.kernels n ≡ Some k → (st : NumberedState L)
        × (slice_get states n ≡ Some st)
    state_at n k e = get_some states n (let l = slice_get_within are.kernels n k e in let c = are.count in omega (arith, l, c))

    pub kernel_at : (n : ℕ) (st : NumberedState L) → slice_get states n ≡ Some st → (k : StateKernel L)
        × (slice_get are.kernels n ≡ Some k)
    kernel_at n st e = get_some are.kernels n (let l = slice_get_within states n st e in let c = are.count in omega (arith, l, c))

    list_next : (items : List (ℕ × L)) (p : theory.Production) (d : ℕ) (x : theory.Next) → Nexts items p d x → Lists items p d
    list_next items p d x h = (h.place, (h.held.0, h.held.1), h.item)

    module _ (n : ℕ) (kernel : List (ℕ × L)) (st : NumberedState L) (e : slice_get states n ≡ Some st)
        (closure : IsClosureOf marks firsts in_order table kernel st.items) where
      item_to : (p : theory.Production) (d : ℕ) → Item n p d → Closure G (Lists kernel) p d
      item_to p d h = item_of firsts G (Lists kernel) (Nexts kernel) (list_next kernel) None ((closure.closure p d).0
          (subst (λ (x : NumberedState L). Lists x.items p d) (one_state n h.state st h.at e) h.item))

      item_from : (p : theory.Production) (d : ℕ) → Closure G (Lists kernel) p d → Item n p d
      item_from p d c = record {
        state = st;
        at = e;
        item = (closure.closure p d).1 (mark_of firsts G (Lists kernel) (Nexts kernel) c);
      }

      look_to : (p : theory.Production) (d : ℕ) (x : theory.Next) → Look n p d x →
          Marked firsts G (Lists kernel) (Nexts kernel) p d (Some x)
      look_to p d x h = (closure.nexts p d x).0
          (subst (λ (y : NumberedState L). Nexts y.items p d x) (one_state n h.state st h.at e) h.next)

      look_from : (p : theory.Production) (d : ℕ) (x : theory.Next) →
          Marked firsts G (Lists kernel) (Nexts kernel) p d (Some x) → Look n p d x
      look_from p d x m = record { state = st; at = e; next = (closure.nexts p d x).1 m }

    self : (p : theory.Production) → G p → G p
    self p g = g

    -- the first state and its closure
    abbrev first_state : NumberedState L
    first_state = (state_at 0 start are.are.start_is).0

    first_at : slice_get states 0 ≡ Some first_state
    first_at = (state_at 0 start are.are.start_is).1

    first_closure : IsClosureOf marks firsts in_order table start.items first_state.items
    first_closure = are.are.closures 0 start first_state are.are.start_is first_at

    module _ (n : ℕ) (st : NumberedState L) (e : slice_get states n ≡ Some st) (number : ℕ) (x : theory.Symbol)
        (symbol : at number ≡ Some x) where
      abbrev shifted : List (ℕ × L)
      shifted = shifted_items table.places.items number st.items

      abbrev closed : IsClosureOf marks firsts in_order table (kernel_at n st e).0.items st.items
      closed = are.are.closures n (kernel_at n st e).0 st (kernel_at n st e).1 e

      -- an item from which a shifted one comes
      pub record ComesFrom (i : ℕ) (l : L) (p : theory.Production) (d : ℕ) : Type 0 where
        pub place : ℕ
        pub dot : ℕ
        pub rest : List theory.Symbol
        pub held : Contains st.items (place, l)
        pub item : HasItemAt table place p dot
        pub on : d ≡ suc dot
        pub before : drop dot p.right ≡ x ∷ rest

      comes_from : (i : ℕ) (l : L) (p : theory.Production) (d : ℕ) → Contains shifted (i, l) → HasItemAt table i p d →
          ComesFrom i l p d
      comes_from i l p d c h =
          let r = shifted_from table.places.items number st.items i l c in
          let o = closed.are_items.placed r.0 (l, r.1) in
          let m = item_moved table is r.0 number o.0 o.1 o.2 r.3 in
          let one = (is_item_table table is).one i p o.0 d (o.1 + 1) h (subst (λ j. HasItemAt table j o.0 (o.1 + 1)) (sym r.2) m) in
          let y = symbol_is table is r.0 number o.0 o.1 o.2 r.3 in
          record {
            place = r.0;
            dot = o.1;
            rest = y.1;
            held = r.1;
            item = subst (λ q. HasItemAt table r.0 q o.1) (sym one.0) o.2;
            on = omega (arith, one.1);
            before = ap (λ (q : theory.Production). drop o.1 q.right) one.0 ∙ y.3
                ∙ ap (λ z. z ∷ y.1) (some_same y.0 x (sym y.2 ∙ symbol));
          }

      goes_to : (i : ℕ) (l : L) (p : theory.Production) (d dot : ℕ) (rest : List theory.Symbol) → Contains st.items (i, l) →
          HasItemAt table i p dot → d ≡ suc dot → drop dot p.right ≡ x ∷ rest →
          Contains shifted (i + 1, l) × HasItemAt table (i + 1) p d
      goes_to i l p d dot rest c h on before =
          let t = symbol_there table is i p dot x rest h before in
          let one : t.0 ≡ number = one_number t.0 number x t.1 symbol in
          let behind : symbol_behind table.places.items i ≡ Some number = t.2 ∙ ap Some one in (
            shifted_to table.places.items number st.items i l c behind,
            subst (λ k. HasItemAt table (i + 1) p k) (let z : dot + 1 ≡ d = omega (arith, on) in z)
                (item_moved table is i number p dot h behind),
          )

      shift_to : (p : theory.Production) (d : ℕ) → Lists shifted p d → IsShifted Item n x p d
      shift_to p d h =
          let r = comes_from h.0 h.1.0 p d h.1.1 h.2 in
          record {
            dot = r.dot;
            rest = r.rest;
            on = r.on;
            item = record { state = st; at = e; item = (r.place, (h.1.0, r.held), r.item) };
            before = r.before;
          }

      shift_from : (p : theory.Production) (d : ℕ) → IsShifted Item n x p d → Lists shifted p d
      shift_from p d h =
          let i = subst (λ (y : NumberedState L). Lists y.items p h.dot) (one_state n h.item.state st h.item.at e) h.item.item in
          let r = goes_to i.0 i.1.0 p d h.dot h.rest i.1.1 i.2 h.on h.before in
          (i.0 + 1, (i.1.0, r.0), r.1)

      next_to : (p : theory.Production) (d : ℕ) (y : theory.Next) → Nexts shifted p d y → IsShiftedBefore Look n x p d y
      next_to p d y h =
          let r = comes_from h.place h.held.0 p d h.held.1 h.item in
          record {
            dot = r.dot;
            rest = r.rest;
            on = r.on;
            item = record {
              state = st;
              at = e;
              next = record {
                place = r.place;
                number = h.number;
                held = (h.held.0, r.held, h.held.2);
                small = h.small;
                next_is = h.next_is;
                item = r.item;
              };
            };
            before = r.before;
          }

      next_from : (p : theory.Production) (d : ℕ) (y : theory.Next) → IsShiftedBefore Look n x p d y → Nexts shifted p d y
      next_from p d y h =
          let i = subst (λ (z : NumberedState L). Nexts z.items p h.dot y) (one_state n h.item.state st h.item.at e) h.item.next in
          let r = goes_to i.place i.held.0 p d h.dot h.rest i.held.1 i.item h.on h.before in
          record {
            place = i.place + 1;
            number = i.number;
            held = (i.held.0, r.0, i.held.2);
            small = i.small;
            next_is = i.next_is;
            item = r.1;
          }

    -- the state to which an edge leads
    module _ (n m : ℕ) (x : theory.Symbol) (edge : Edge n x m) where
      abbrev source : NumberedState L
      source = edge.led.state

      abbrev target : NumberedState L
      target = (state_at m (shifted_kernel table source edge.number)
          ((are.are.edges n source edge.led.at).leads edge.number m edge.led.edge)).0

      target_at : slice_get states m ≡ Some target
      target_at = (state_at m (shifted_kernel table source edge.number)
          ((are.are.edges n source edge.led.at).leads edge.number m edge.led.edge)).1

      target_closure : IsClosureOf marks firsts in_order table (shifted_items table.places.items edge.number source.items) target.items
      target_closure = are.are.closures m (shifted_kernel table source edge.number) target
          ((are.are.edges n source edge.led.at).leads edge.number m edge.led.edge) target_at

    -- a symbol with a number stands behind a dot
    pub symbol_behind_dot : (n number m : ℕ) → HasEdgeByNumber states n number m → (x : theory.Symbol) × (at number ≡ Some x)
        × HasDotBefore Item n x
    symbol_behind_dot n number m led =
        let st = led.state in
        let c = some_element (shifted_items table.places.items number st.items) ((are.are.edges n st led.at).some number m led.edge) in
        let f = shifted_from table.places.items number st.items c.0.0 c.0.1 c.1 in
        let k = kernel_at n st led.at in
        let i = (are.are.closures n k.0 st k.1 led.at).are_items.placed f.0 (c.0.1, f.1) in
        let y = symbol_is table is f.0 number i.0 i.1 i.2 f.3 in (
          y.0,
          y.2,
          record {
            production = i.0;
            dot = i.1;
            rest = y.1;
            item = record { state = st; at = led.at; item = (f.0, (c.0.1, f.1), i.2) };
            before = y.3;
          },
        )

    pub walk_to : (fuel n : ℕ) → n < fuel → n < length are.kernels → (g : List theory.Symbol) × Walk Edge g n
    walk_to zero n h l = absurd (omega arith)
    walk_to (suc fuel) zero h l = ([], stands)
    walk_to (suc fuel) (suc n) h l =
        let r = are.are.reached (suc n) (omega arith) l in
        let x = symbol_behind_dot r.0 r.1 (suc n) r.3 in
        let w = walk_to fuel r.0 (omega (arith, r.2)) (omega (arith, r.2)) in
        (w.0 ++ x.0 ∷ [], goes x.0 (suc n) w.1 (record { number = r.1; led = r.3; symbol = x.1 }))

    pub numbered_automaton : IsConstructedAutomaton firsts Start G s Item Edge Look
    numbered_automaton = record {
      cover = record {
        start = λ p d. (
          λ h. closure_more G G self (Lists start.items) (IsBegun G s) (λ q j b. (begin.begun q j).0 b)
              (item_to 0 start.items first_state first_at first_closure p d h),
          λ c. item_from 0 start.items first_state first_at first_closure p d
              (closure_more G G self (IsBegun G s) (Lists start.items) (λ q j b. (begin.begun q j).1 b) c),
        );
        onward = λ n p d x b h e.
            let t = symbol_there table is h.item.0 p d x b h.item.2 e in
            let there = shifted_to table.places.items t.0 h.state.items h.item.0 h.item.1.0 h.item.1.1 t.2 in
            let m = (are.are.edges n h.state h.at).all t.0
            (λ none. no_element (h.item.0 + 1, h.item.1.0) (subst (λ xs. Contains xs (h.item.0 + 1, h.item.1.0)) none there)) in
            (m.0, record { number = t.0; led = record { state = h.state; at = h.at; edge = m.1 }; symbol = t.1 });
        one = λ n x m k e f.
            let same : e.number ≡ f.number = one_number e.number f.number x e.symbol f.symbol in
            let st : f.led.state ≡ e.led.state = one_state n f.led.state e.led.state f.led.at e.led.at in
            once_at e.led.state.edges 0 e.number m k (are.are.edges n e.led.state e.led.at).ascending e.led.edge
            (subst (λ j. Contains e.led.state.edges (j, k)) (sym same)
            (subst (λ (y : NumberedState L). Contains y.edges (f.number, k)) st f.led.edge));
        next = λ n x m e p d. (
          λ h. closure_more G G self (Lists (shifted_items table.places.items e.number e.led.state.items)) (IsShifted Item n x)
              (shift_to n e.led.state e.led.at e.number x e.symbol)
              (item_to m (shifted_items table.places.items e.number e.led.state.items) (target n m x e) (target_at n m x e)
              (target_closure n m x e) p d h),
          λ c. item_from m (shifted_items table.places.items e.number e.led.state.items) (target n m x e) (target_at n m x e)
              (target_closure n m x e) p d
              (closure_more G G self (IsShifted Item n x) (Lists (shifted_items table.places.items e.number e.led.state.items))
              (shift_from n e.led.state e.led.at e.number x e.symbol) c),
        );
        only = λ n x m e.
            let y = symbol_behind_dot n e.number m e.led in
            subst (λ z. HasDotBefore Item n z) (some_same y.0 x (sym y.1 ∙ e.symbol)) y.2;
      };
      held = λ n p d x h. record { state = h.state; at = h.at; item = list_next h.state.items p d x h.next };
      look_start = λ p d x. (
        λ h. marked_more G G self (Lists start.items) (IsBegun G s) (λ q j b. (begin.begun q j).0 b) firsts (Nexts start.items)
            (IsBegunBefore Start G s) (λ q j y b. (begin.before q j y).0 b)
            (look_to 0 start.items first_state first_at first_closure p d x h),
        λ m. look_from 0 start.items first_state first_at first_closure p d x
            (marked_more G G self (IsBegun G s) (Lists start.items) (λ q j b. (begin.begun q j).1 b) firsts
            (IsBegunBefore Start G s) (Nexts start.items) (λ q j y b. (begin.before q j y).1 b) m),
      );
      look_next = λ n x m e p d y. (
        λ h. marked_more G G self (Lists (shifted_items table.places.items e.number e.led.state.items)) (IsShifted Item n x)
            (shift_to n e.led.state e.led.at e.number x e.symbol) firsts
            (Nexts (shifted_items table.places.items e.number e.led.state.items)) (IsShiftedBefore Look n x)
            (next_to n e.led.state e.led.at e.number x e.symbol)
            (look_to m (shifted_items table.places.items e.number e.led.state.items) (target n m x e) (target_at n m x e)
            (target_closure n m x e) p d y h),
        λ c. look_from m (shifted_items table.places.items e.number e.led.state.items) (target n m x e) (target_at n m x e)
            (target_closure n m x e) p d y
            (marked_more G G self (IsShifted Item n x) (Lists (shifted_items table.places.items e.number e.led.state.items))
            (shift_from n e.led.state e.led.at e.number x e.symbol) firsts (IsShiftedBefore Look n x)
            (Nexts (shifted_items table.places.items e.number e.led.state.items))
            (next_from n e.led.state e.led.at e.number x e.symbol) c),
      );
      reached = λ n p d h.
          walk_to (suc n) n (omega arith) (slice_get_within are.kernels n (kernel_at n h.state h.at).0 (kernel_at n h.state h.at).1);
    }
